-- The Mode Two setting of `gdeq0426t82_otp`, of which SCOPE's figures and its listing speak.
use Rattle.std.specs.Prelude.{List, ℕ, drop, Some}
use Rattle.otp.specs.Waveform.{part_of}
use Rattle.reference.specs.Reference.{reference_table}

-- the 112 bytes after mode, provenance and bounds of entry 2 of the reference table, the one that is found for Mode Two (reference/proofs/Ranges)
unfoldable pub mode_two : List ℕ
mode_two = drop 6 (part_of reference_table (Some 2))
