-- The root of diagnostic_record's proofs.
pub mod Numbers
