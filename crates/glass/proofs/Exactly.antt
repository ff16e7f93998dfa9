-- The law of the glass: a phase's transfer moves every state from 0 to S as its exact drive does, held, and two transfers composed
-- into one move it as the one after the other do; drives keep the order of two states. Assumes nothing.
use mathlib.Core.Path.{◌≡◌, refl, ap, subst, ◌∙◌}
use mathlib.Core.Bool.{Bool, true, false, cond}
use mathlib.Core.List.{List, [], ◌∷◌}
use Prim.Native.Nat.{ℕ, zero, suc, ◌+◌, ◌-◌, ◌≤◌, ◌<◌, min}
use native.Mathlib.Omega.{arith}
use native.Mathlib.Decide.{dec_lt}
use lib.IntN.{ℤ, pos, negsuc, neg_ℤ, ◌+ℤ◌}
use lib.Dec.{ltb}
use borrow.Author.Tests.{ltb-true}
use Rattle.numbers.specs.Saturation.{clamp_z}
use Rattle.numbers.proofs.Lin.{whole}
use Rattle.numbers.proofs.Hold.{clamp_low, clamp_high, clamp_mid}
use Rattle.glass.specs.declared.Transfer.{Transfer}
use Rattle.glass.specs.Transfers.{apply_t, then_t, shift_t, identity_t}
use Rattle.glass.specs.Exact.{held, drive, drives}
use Rattle.glass.proofs.Compose.{Sane, apply_plain, then_apply, then_sane}

-- ---- one drive, up and down
pub drive_pos : (S d x : ℕ) → drive S (pos d) x ≡ min (x + d) S
unfolding drive
drive_pos S d x = refl

held_sub : (S a b : ℕ) (t : Bool) → ltb a b ≡ t → a ≤ S → held S (cond t (negsuc (b - suc a)) (pos (a - b))) ≡ a - b
held_sub S a b true e h = omega (arith, ltb-true a b e)
held_sub S a b false e h = omega arith

drive_neg : (S d x : ℕ) → x ≤ S → drive S (negsuc d) x ≡ x - suc d
unfolding drive
drive_neg S d x h = held_sub S x (suc d) (ltb x (suc d)) refl h

pub drive_down : (S n x : ℕ) → x ≤ S → drive S (neg_ℤ (pos n)) x ≡ x - n
drive_down S zero x h = drive_pos S 0 x ∙ omega arith
drive_down S (suc n) x h = drive_neg S n x h

pub drive_le : (S : ℕ) (d : ℤ) (x : ℕ) → x ≤ S → drive S d x ≤ S
drive_le S (pos d) x h = omega (arith, drive_pos S d x)
drive_le S (negsuc d) x h = omega (arith, drive_neg S d x h)

drive_mono : (S : ℕ) (d : ℤ) (x y : ℕ) → x ≤ y → y ≤ S → drive S d x ≤ drive S d y
drive_mono S (pos d) x y h k = omega (arith, drive_pos S d x, drive_pos S d y)
drive_mono S (negsuc d) x y h k = omega (arith, drive_neg S d x (omega arith), drive_neg S d y k)

-- ---- a list of drives
pub drives_le : (S : ℕ) (ds : List ℤ) (x : ℕ) → x ≤ S → drives S ds x ≤ S
unfolding drives
drives_le S [] x h = h
drives_le S (d ∷ ds) x h = drives_le S ds (drive S d x) (drive_le S d x h)

pub drives_mono : (S : ℕ) (ds : List ℤ) (x y : ℕ) → x ≤ y → y ≤ S → drives S ds x ≤ drives S ds y
unfolding drives
drives_mono S [] x y h k = h
drives_mono S (d ∷ ds) x y h k = drives_mono S ds (drive S d x) (drive S d y) (drive_mono S d x y h k) (drive_le S d y k)

-- ---- a transfer that moves states as a function of naturals does
clamp_held : (S : ℕ) (z : ℤ) → clamp_z z (pos 0) (pos S) ≡ pos (held S z)
clamp_held S (negsuc n) = clamp_low (negsuc n) (pos 0) (pos S) (omega whole)
clamp_held S (pos n) = by (dec_lt S n)
  where
    by : Dec (S < n) → clamp_z (pos n) (pos 0) (pos S) ≡ pos (min n S)
    by (yes h) = clamp_high (pos n) (pos 0) (pos S) (omega whole) (omega whole) ∙ ap pos (omega arith)
    by (no h) = clamp_mid (pos n) (pos 0) (pos S) (omega whole) (omega whole) ∙ ap pos (omega arith)

-- t takes x to y, and its bounds are states
pub record At (S : ℕ) (t : Transfer) (x y : ℕ) : Type 0 where
  pub sane : Sane t (pos S)
  pub is : apply_t t (pos x) ≡ pos y
  pub within : y ≤ S

-- t moves every state from 0 to S as f does
abbrev pub Moves : ℕ → Transfer → (ℕ → ℕ) → Type 0
Moves S t f = (x : ℕ) → x ≤ S → At S t x (f x)

module _ (S : ℕ) (room : S ≤ 9223372036854775807) where
  shift_sane : (d : ℤ) → Sane (shift_t d (pos S)) (pos S)
  shift_sane d = record { low = omega whole; order = omega whole; high = omega whole }

  shift_apply : (d : ℤ) (y : ℕ) → apply_t (shift_t d (pos S)) (pos y) ≡ pos (drive S d y)
  unfolding drive
  shift_apply d y = apply_plain (shift_t d (pos S)) (pos S) (pos y) (omega whole) (shift_sane d) ∙ clamp_held S (pos y +ℤ d)

  pub moves_shift : (d : ℤ) → Moves S (shift_t d (pos S)) (drive S d)
  moves_shift d x h = record { sane = shift_sane d; is = shift_apply d x; within = drive_le S d x h }

  pub moves_start : Moves S (identity_t (pos S)) (λ x. x)
  moves_start x h = record { sane = shift_sane (pos 0); is = shift_apply (pos 0) x ∙ ap pos (drive_pos S 0 x ∙ omega arith); within = h }

  pub at_then : {t u : Transfer} {x y z : ℕ} → x ≤ S → At S t x y → At S u y z → At S (then_t t u) x z
  at_then {t} {u} {x} h p q =
      record {
        sane = then_sane t u (pos S) (pos x) (omega whole) p.sane q.sane (omega whole) (omega whole);
        is = then_apply t u (pos S) (pos x) (omega whole) p.sane q.sane (omega whole) (omega whole) ∙ ap (apply_t u) p.is ∙ q.is;
        within = q.within;
      }

  pub moves_as : {t : Transfer} {f g : ℕ → ℕ} → ((x : ℕ) → x ≤ S → f x ≡ g x) → Moves S t f → Moves S t g
  moves_as {t} e a x h = subst (λ (n : ℕ). At S t x n) (e x h) (a x h)
