-- No millivolts have two codes, so the search for one finds it. Assumes nothing.
use Rattle.std.specs.Prelude.{Option, Some, None}
use mathlib.Core.Path.{◌≡◌, refl, sym, ap, subst, ◌∙◌}
use mathlib.Core.Bool.{Bool, true, false, ◌&&◌, false≢true}
use mathlib.Core.List.{List, [], ◌∷◌}
use mathlib.Core.Logic.{◌⊎◌, inl, inr}
use Prim.Native.Nat.{ℕ, ◌-◌, ◌%◌, ◌<◌}
use native.Mathlib.Omega.{arith}
use lib.Dec.{leb, eqb, ltb}
use lib.IntN.{ℤ, pos, neg_ℤ, nat_abs, neg_ℤ-neg_ℤ}
use borrow.Author.Tests.{leb-true, eqb-true, ltb-true, ltb-false, lt-ltb}
use Rattle.numbers.specs.Choice.{pick}
use Rattle.numbers.proofs.Cases.{left, right}
use Rattle.voltage.specs.Codes.{Line, has, at, voltage, below, source_high, source_low, vsl_line, vcom_zero, vcom_line}
use Rattle.voltage.proofs.Lines.{In}
use Rattle.waveform.specs.Voltages.{or_zero}
use Rattle.config.specs.Lowest.{lowest}
use Rattle.config.proofs.Lowest.{Passed, lowest_none}
use Rattle.drive_sheet.specs.declared.Supply.{Supply}
use Rattle.drive_sheet.specs.declared.Supply.TheVariants.{Vsh1, Vsh2, Vsl, Vcom}
use Rattle.drive_sheet.specs.Supplies.{voltage_of, is_listed_as, code_count, code_found, supply_code}
use Rattle.drive_sheet.proofs.Equal.{same_is, same_not, same_self, same_true}
use Rattle.drive_sheet.proofs.Found.{found, before}
use Rattle.drive_sheet_laws.specs.Coding.{Coding}

-- ---- a code that is listed stands in a line
abbrev Stands : List Line → ℕ → ℕ → Type 0
Stands [] code n = ⊥
Stands (l ∷ ls) code n = (In l code × (at l code ≡ n)) ⊎ Stands ls code n

is_in : (l : Line) (code : ℕ) → has l code ≡ true → In l code
is_in l code e =
    let a = leb l.first code in
    let b = leb code l.last in
    let c = eqb ((code - l.first) % l.every) 0 in
    record {
      from = leb-true l.first code (left a b (left (a && b) c e));
      to = leb-true code l.last (right a b (left (a && b) c e));
      whole = eqb-true ((code - l.first) % l.every) 0 (right (a && b) c e);
    }

module _ (sign : ℕ → ℤ) (code : ℕ) (z : ℤ) where
  stands : (ls : List Line) → voltage sign ls code ≡ Some z → (n : ℕ) × ((sign n ≡ z) × Stands ls code n)
  unfolding voltage
  stands [] e = absurd (let x : ◌≡◌ {A = ℕ} 0 1 = cc in omega arith)
  stands (l ∷ ls) e = by (has l code) refl e (λ f. stands ls f)
    where
      by : (b : Bool) → has l code ≡ b → pick b (Some (sign (at l code))) (voltage sign ls code) ≡ Some z
          → (voltage sign ls code ≡ Some z → (n : ℕ) × ((sign n ≡ z) × Stands ls code n)) → (n : ℕ) × ((sign n ≡ z) × Stands (l ∷ ls) code n)
      by true r f more = (at l code, (ap or_zero f, inl (is_in l code r, refl)))
      by false r f more = let m = more f in (m.0, (m.1.0, inr m.1.1))

-- ---- in each list a number of millivolts stands once
source_once : (a b n : ℕ) → Stands (source_high ∷ source_low ∷ []) a n → Stands (source_high ∷ source_low ∷ []) b n → a ≡ b
source_once a b n (inl s) (inl t) = omega arith
source_once a b n (inl s) (inr (inl t)) = omega arith
source_once a b n (inl s) (inr (inr none)) = absurd none
source_once a b n (inr (inl s)) (inl t) = omega arith
source_once a b n (inr (inl s)) (inr (inl t)) = omega arith
source_once a b n (inr (inl s)) (inr (inr none)) = absurd none
source_once a b n (inr (inr none)) t = absurd none

vsl_once : (a b n : ℕ) → Stands (vsl_line ∷ []) a n → Stands (vsl_line ∷ []) b n → a ≡ b
vsl_once a b n (inl s) (inl t) = omega arith
vsl_once a b n (inl s) (inr none) = absurd none
vsl_once a b n (inr none) t = absurd none

vcom_once : (a b n : ℕ) → Stands (vcom_zero ∷ vcom_line ∷ []) a n → Stands (vcom_zero ∷ vcom_line ∷ []) b n → a ≡ b
vcom_once a b n (inl s) (inl t) = omega arith
vcom_once a b n (inl s) (inr (inl t)) = omega arith
vcom_once a b n (inl s) (inr (inr none)) = absurd none
vcom_once a b n (inr (inl s)) (inl t) = omega arith
vcom_once a b n (inr (inl s)) (inr (inl t)) = omega arith
vcom_once a b n (inr (inl s)) (inr (inr none)) = absurd none
vcom_once a b n (inr (inr none)) t = absurd none

-- so it does with a sign that loses nothing
module _ (sign : ℕ → ℤ) (one : (m n : ℕ) → sign m ≡ sign n → m ≡ n) (ls : List Line)
    (once : (a b n : ℕ) → Stands ls a n → Stands ls b n → a ≡ b) where
  signed_once : (a b : ℕ) (z : ℤ) → voltage sign ls a ≡ Some z → voltage sign ls b ≡ Some z → a ≡ b
  signed_once a b z e f =
      let s = stands sign a z ls e in
      let t = stands sign b z ls f in
      once a b s.0 s.1.1 (subst (λ (n : ℕ). Stands ls b n) (one t.0 s.0 (t.1.0 ∙ sym s.1.0)) t.1.1)

pos_one : (m n : ℕ) → pos m ≡ pos n → m ≡ n
pos_one m n e = ap nat_abs e

below_one : (m n : ℕ) → below m ≡ below n → m ≡ n
below_one m n e = pos_one m n (sym (neg_ℤ-neg_ℤ (pos m)) ∙ ap neg_ℤ e ∙ neg_ℤ-neg_ℤ (pos n))

-- no millivolts have two codes, 0 mV among them
pub one_code : (supply : Supply) (a b : ℕ) (z : ℤ) → voltage_of supply a ≡ Some z → voltage_of supply b ≡ Some z → a ≡ b
one_code Vsh1 = signed_once pos pos_one (source_high ∷ source_low ∷ []) source_once
one_code Vsh2 = signed_once pos pos_one (source_high ∷ source_low ∷ []) source_once
one_code Vsl = signed_once below below_one (vsl_line ∷ []) vsl_once
one_code Vcom = signed_once below below_one (vcom_zero ∷ vcom_line ∷ []) vcom_once

-- ---- the test of the search
listed_yes : (m : Option ℤ) (z : ℤ) → m ≡ Some z → is_listed_as m z ≡ true
unfolding is_listed_as
listed_yes m z e = ap (λ (v : Option ℤ). is_listed_as v z) e ∙ same_self z

listed_is : (m : Option ℤ) (z : ℤ) → is_listed_as m z ≡ true → m ≡ Some z
unfolding is_listed_as
listed_is (Some v) z e = ap Some (same_true v z e)
listed_is None z e = absurd (false≢true e)

a_code : (n : ℕ) → n < code_count → code_found n ≡ Some n
a_code n h = ap (λ (b : Bool). pick b (Some n) None) (lt-ltb n code_count h)

module _ (supply : Supply) (z : ℤ) where
  abbrev stood : ℕ → Bool
  stood code = is_listed_as (voltage_of supply code) z

  searched : (z ≡ pos 0 → ⊥) → supply_code supply z ≡ code_found (lowest stood code_count)
  unfolding supply_code
  searched h = rw (same_not z (pos 0) h)

  finds : (code : ℕ) → code < code_count → stood code ≡ true → lowest stood code_count < code_count
  finds code l e = by (ltb (lowest stood code_count) code_count) refl
    where
      by : (b : Bool) → ltb (lowest stood code_count) code_count ≡ b → lowest stood code_count < code_count
      by true r = ltb-true (lowest stood code_count) code_count r
      by false r = absurd (false≢true (sym (before stood code_count code (omega (arith, ltb-false (lowest stood code_count) code_count r))) ∙ e))

  none : ((code : ℕ) → code < code_count → voltage_of supply code ≡ Some z → ⊥) → Passed stood code_count
  none h k l = by (stood k) refl
    where
      by : (b : Bool) → stood k ≡ b → b ≡ false
      by false r = refl
      by true r = absurd (h k l (listed_is (voltage_of supply k) z r))

pub coding : (supply : Supply) (z : ℤ) → Coding supply z
unfolding supply_code
coding supply z =
    record {
      the_zero = λ e. rw (same_is z (pos 0) e);
      the_code = λ h code l e.
          searched supply z h
          ∙ a_code (lowest (stood supply z) code_count) (finds supply z code l (listed_yes (voltage_of supply code) z e))
          ∙ ap Some (one_code supply (lowest (stood supply z) code_count) code z
          (listed_is (voltage_of supply (lowest (stood supply z) code_count)) z (found (stood supply z) code_count (finds supply z code l (listed_yes (voltage_of supply code) z e)))) e);
      no_code = λ h n. searched supply z h ∙ ap code_found (lowest_none (stood supply z) code_count (none supply z n));
    }
