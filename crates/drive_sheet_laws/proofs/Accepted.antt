-- A call of `write` that is not refused has passed every test. Assumes nothing.
use mathlib.Core.Path.{◌≡◌, refl, ap}
use mathlib.Core.Bool.{Bool, true, false, false≢true}
use mathlib.Core.List.{List, [], ◌∷◌}
use Prim.Native.Nat.{ℕ}
use lib.Dec.{eqb}
use lib.ListN.{length}
use borrow.Author.Tests.{not-false, eqb-true}
use Rattle.numbers.specs.Choice.{pick}
use Rattle.config.specs.Answer.{accepted, refused, is_accepted, Test, first_of}
use Rattle.config.specs.Tests.{lent_test}
use Rattle.drive_sheet.specs.declared.Sheet.{Sheet}
use Rattle.drive_sheet.specs.Bytes.{setting_of}
use Rattle.drive_sheet.specs.Tests.{setting_length, supplies_test, repeats_test, codes_test, sheet_tests, Writable, written_of}
use Rattle.drive_sheet_laws.specs.Drawn.{Accepts}

-- the first test, and those after it
passed : (t : Test) (ts : List Test) → first_of (t ∷ ts) ≡ accepted → (t.refuses ≡ false) × (first_of ts ≡ accepted)
unfolding first_of
passed t ts = by t.refuses refl
  where
    by : (b : Bool) → t.refuses ≡ b → pick b (refused t.number t.value) (first_of ts) ≡ accepted → (t.refuses ≡ false) × (first_of ts ≡ accepted)
    by true r e = absurd (false≢true (ap is_accepted e))
    by false r e = (r, e)

module _ (h : Sheet) (lent : List ℕ) (a : Accepts h lent) where
  first : first_of (sheet_tests h lent) ≡ accepted
  unfolding written_of
  first = a

  pub lent_long : length lent ≡ setting_length
  lent_long =
      let l = passed (lent_test (length lent) setting_length) (supplies_test h ∷ repeats_test h ∷ codes_test h ∷ []) first in
      eqb-true (length lent) setting_length (not-false (eqb (length lent) setting_length) l.0)

  pub writable : Writable h
  writable =
      let l = passed (lent_test (length lent) setting_length) (supplies_test h ∷ repeats_test h ∷ codes_test h ∷ []) first in
      let v = passed (supplies_test h) (repeats_test h ∷ codes_test h ∷ []) l.1 in
      let r = passed (repeats_test h) (codes_test h ∷ []) v.1 in
      record { supplied = v.0; repeated = r.0; coded = (passed (codes_test h) [] r.1).0 }

  -- then the lent bytes are the sheet's
  pub bytes_are : (written_of h lent).bytes ≡ setting_of h
  unfolding written_of
  bytes_are = rw first

-- a refused call leaves the lent bytes as they were
pub kept : (h : Sheet) (lent : List ℕ) → is_accepted (written_of h lent).answer ≡ false → (written_of h lent).bytes ≡ lent
unfolding written_of
kept h lent r = rw r
