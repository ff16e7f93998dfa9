-- A column within a text: where it stands, and that reading it there gives it back. Assumes nothing.
use mathlib.Core.Path.{◌≡◌, sym, ap, subst, ◌∙◌}
use mathlib.Core.List.{List, ◌++◌}
use mathlib.Core.Logic.{⊎_elim}
use Prim.Native.Nat.{ℕ, zero, suc, ◌+◌, ◌*◌, ◌<◌, ◌≤◌}
use native.Mathlib.Nat.{not-suc-le-zero, le_of_suc-le-suc, eq-or-lt_of_le}
use native.Mathlib.Omega.{arith}
use lib.ListN.{length, get_or, length-append, get_or-append}
use lib.Seq.{ext_get_or, get_or-append-add}
use Rattle.numbers.specs.Lists.{tab}
use Rattle.numbers.proofs.Painted.{length_tab, get_d_tab}
use Rattle.waveform.specs.Phases.{joined}
use Rattle.sheet_text.specs.Reading.{column_at}

-- the column stands at a place of the text
pub record Holds (text : List ℕ) (at : ℕ) (column : List ℕ) : Type 0 where
  pub ends : at + length column ≤ length text
  pub byte : (i : ℕ) → i < length column → get_or text (at + i) 0 ≡ get_or column i 0

pub here : (column : List ℕ) → Holds column 0 column
here column = record { ends = omega arith; byte = λ i l. ap (λ (k : ℕ). get_or column k 0) (omega arith) }

module _ (xs ys : List ℕ) (at : ℕ) (column : List ℕ) where
  pub left : Holds xs at column → Holds (xs ++ ys) at column
  left h =
      record {
        ends = omega (arith, h.ends, length-append xs ys);
        byte = λ i l. get_or-append xs ys 0 (at + i) (omega (arith, h.ends)) ∙ h.byte i l;
      }

  pub right : (n : ℕ) → length xs ≡ n → Holds ys at column → Holds (xs ++ ys) (n + at) column
  right n e h =
      record {
        ends = omega (arith, h.ends, length-append xs ys);
        byte = λ i l.
            ap (λ (k : ℕ). get_or (xs ++ ys) k 0) (omega (arith, e)) ∙ get_or-append-add xs ys (at + i) 0 ∙ h.byte i l;
      }

-- the same place, written otherwise
pub at_place : {text column : List ℕ} {a b : ℕ} → Holds text a column → a ≡ b → Holds text b column
at_place {text} {column} h e = subst (λ (k : ℕ). Holds text k column) e h

-- texts of one width, one after the other
module _ (width : ℕ) (f : ℕ → List ℕ) (wide : (k : ℕ) → length (f k) ≡ width) where
  pub joined_length : (n : ℕ) → length (joined n f) ≡ width * n
  unfolding joined
  joined_length zero = omega arith
  joined_length (suc n) = length-append (joined n f) (f n) ∙ omega (arith, joined_length n, wide n)

  pub joined_holds : (n k at : ℕ) (column : List ℕ) → k < n → Holds (f k) at column → Holds (joined n f) (width * k + at) column
  unfolding joined
  joined_holds zero k at column l h = absurd (not-suc-le-zero l)
  joined_holds (suc n) k at column l h =
      ⊎_elim
      (λ (e : k ≡ n). at_place (right (joined n f) (f n) at column (width * n) (joined_length n) (subst (λ (j : ℕ). Holds (f j) at column) e h)) (ap (λ (j : ℕ). width * j + at) (sym e)))
      (λ (m : k < n). left (joined n f) (f n) (width * k + at) column (joined_holds n k at column m h))
      (eq-or-lt_of_le (le_of_suc-le-suc l))

-- what is read there
pub column_back : (text : List ℕ) (at width : ℕ) (column : List ℕ) → length column ≡ width → Holds text at column → column_at text at width ≡ column
unfolding column_at
column_back text at width column e h =
    ext_get_or 0 (tab width (λ i. get_or text (at + i) 0)) column (length_tab width _ ∙ sym e)
    (λ i l.
    let m : i < width = subst (λ (n : ℕ). i < n) (length_tab width (λ j. get_or text (at + j) 0)) l in
    get_d_tab width (λ j. get_or text (at + j) 0) i 0 m ∙ h.byte i (omega (arith, e)))
