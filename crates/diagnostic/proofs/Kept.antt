-- A report leaves the log as long as it was, and its count at most 1,024. Assumes nothing.
use Prim.Native.Nat.{ℕ, ◌<◌, ◌≤◌}
use native.Mathlib.Omega.{arith}
use mathlib.Core.Path.{◌≡◌, refl}
use mathlib.Core.Bool.{Bool, true, false}
use mathlib.Core.List.{List}
use lib.Dec.{ltb}
use lib.ListN.{length, length-append, length-take, length-drop}
use borrow.Author.Tests.{ltb-true}
use Rattle.numbers.specs.Choice.{pick}
use Rattle.diagnostic.specs.declared.DiagnosticKind.{DiagnosticKind}
use Rattle.diagnostic.specs.declared.DiagnosticKind.TheVariants.{ReservedValue}
use Rattle.diagnostic.specs.declared.Fields.{Fields}
use Rattle.diagnostic.specs.Record.{fields_of, record_of}
use Rattle.diagnostic.specs.Log.{Entries, placed, kept, one_more_dropped, reported, marked, reserved_reported}

record_length : (time : ℕ) (f : Fields) → length (record_of time f) ≡ 16
unfolding record_of
record_length time f = refl

placed_length : (log bytes : List ℕ) (k : ℕ) → length log ≡ 16384 → length bytes ≡ 16 → k < 1024 → length (placed log k bytes) ≡ 16384
placed_length log bytes k h b l = simp (length-append, length-take, length-drop) (omega arith)

pub reported_length : (e : Entries) (time : ℕ) (kind : DiagnosticKind) → length e.log ≡ 16384 → length (reported e time kind).log ≡ 16384
unfolding reported
reported_length e time kind h = by (ltb e.journal.count 1024) refl
  where
    by : (b : Bool) → ltb e.journal.count 1024 ≡ b → length (pick b (kept e (record_of time (fields_of kind))) (one_more_dropped e)).log ≡ 16384
    by true t = placed_length e.log (record_of time (fields_of kind)) e.journal.count h (record_length time (fields_of kind)) (ltb-true e.journal.count 1024 t)
    by false t = h

pub reported_count : (e : Entries) (time : ℕ) (kind : DiagnosticKind) → e.journal.count ≤ 1024 → (reported e time kind).journal.count ≤ 1024
unfolding reported
reported_count e time kind h = by (ltb e.journal.count 1024) refl
  where
    by : (b : Bool) → ltb e.journal.count 1024 ≡ b → (pick b (kept e (record_of time (fields_of kind))) (one_more_dropped e)).journal.count ≤ 1024
    by true t = let l = ltb-true e.journal.count 1024 t in omega arith
    by false t = h

module _ (e : Entries) (time command value : ℕ) where
  pub reserved_length : length e.log ≡ 16384 → length (reserved_reported e time command value).log ≡ 16384
  unfolding reserved_reported
  reserved_length h = by e.journal.reserved_reported
    where
      by : (b : Bool) → length (pick b e (reported (marked e) time (ReservedValue command value))).log ≡ 16384
      by true = h
      by false = reported_length (marked e) time (ReservedValue command value) h

  pub reserved_count : e.journal.count ≤ 1024 → (reserved_reported e time command value).journal.count ≤ 1024
  unfolding reserved_reported
  reserved_count h = by e.journal.reserved_reported
    where
      by : (b : Bool) → (pick b e (reported (marked e) time (ReservedValue command value))).journal.count ≤ 1024
      by true = h
      by false = reported_count (marked e) time (ReservedValue command value) h
