-- The tests of a sheet in their order, and what `write` answers and leaves at each. Assumes nothing.
use mathlib.Core.Path.{◌≡◌, refl, ap, ◌∙◌}
use mathlib.Core.Bool.{true, false, not}
use mathlib.Core.List.{List, [], ◌∷◌}
use Prim.Native.Nat.{ℕ}
use lib.ListN.{length}
use borrow.Author.Tests.{eq-eqb, ne_eqb}
use Rattle.config.specs.Answer.{Answer, accepted, is_accepted, Test, first_of}
use Rattle.config.specs.Tests.{lent_test}
use Rattle.config.proofs.Answers.{refuses, passes, none_left}
use Rattle.drive_sheet.specs.declared.Sheet.{Sheet}
use Rattle.drive_sheet.specs.declared.SheetError.TheVariants.{Length, NoCode, Repeats, Code}
use Rattle.drive_sheet.specs.Bytes.{setting_of}
use Rattle.drive_sheet.specs.Tests.{setting_length, supplies_test, repeats_test, codes_test, sheet_tests, Writable, sheet_refusal, reply, replied, written_of}

module _ (h : Sheet) (lent : List ℕ) where
  -- the tests after 11, after 61 and after 62
  abbrev afterLent : List Test
  afterLent = supplies_test h ∷ repeats_test h ∷ codes_test h ∷ []

  abbrev afterVoltages : List Test
  afterVoltages = repeats_test h ∷ codes_test h ∷ []

  abbrev afterRepeats : List Test
  afterRepeats = codes_test h ∷ []

  -- refused: the lent bytes stay
  keeps : (x : Answer) → is_accepted x ≡ false → x ≡ first_of (sheet_tests h lent) → reply x lent ≡ written_of h lent
  unfolding written_of
  keeps x r e = (rw r refl) ∙ ap (replied h lent) e

  lent_passes : length lent ≡ setting_length → (x : Answer) → x ≡ first_of afterLent → x ≡ first_of (sheet_tests h lent)
  lent_passes n x e = passes (lent_test (length lent) setting_length) afterLent x (ap not (eq-eqb (length lent) setting_length n)) e

  pub length_refused : (length lent ≡ setting_length → ⊥) → reply (sheet_refusal Length) lent ≡ written_of h lent
  unfolding sheet_refusal
  length_refused n = keeps _ refl (refuses (lent_test (length lent) setting_length) afterLent _ (ap not (ne_eqb (length lent) setting_length n)) refl)

  pub voltage_refused : length lent ≡ setting_length → (supplies_test h).refuses ≡ true → reply (sheet_refusal NoCode) lent ≡ written_of h lent
  unfolding sheet_refusal
  voltage_refused n v = keeps _ refl (lent_passes n _ (refuses (supplies_test h) afterVoltages _ v refl))

  module _ (n : length lent ≡ setting_length) (v : (supplies_test h).refuses ≡ false) where
    pub repeats_refused : (repeats_test h).refuses ≡ true → reply (sheet_refusal Repeats) lent ≡ written_of h lent
    unfolding sheet_refusal
    repeats_refused r = keeps _ refl (lent_passes n _ (passes (supplies_test h) afterVoltages _ v (refuses (repeats_test h) afterRepeats _ r refl)))

    pub codes_refused : (repeats_test h).refuses ≡ false → (codes_test h).refuses ≡ true → reply (sheet_refusal Code) lent ≡ written_of h lent
    unfolding sheet_refusal
    codes_refused r k =
        keeps _ refl
        (lent_passes n _ (passes (supplies_test h) afterVoltages _ v (passes (repeats_test h) afterRepeats _ r (refuses (codes_test h) [] _ k refl))))

  pub all_written : (bytes : List ℕ) → length lent ≡ setting_length → Writable h → bytes ≡ setting_of h → reply accepted bytes ≡ written_of h lent
  unfolding written_of
  all_written bytes n w e =
      ap (reply accepted) e
      ∙ ap (replied h lent)
      (lent_passes n accepted
      (passes (supplies_test h) afterVoltages _ w.supplied
      (passes (repeats_test h) afterRepeats _ w.repeated
      (passes (codes_test h) [] _ w.coded (none_left _ refl)))))
