-- Whole numbers for `omega`. A whole number z is read as the difference `up z - down z` of two naturals, of which one is 0.
-- An order, a sum, a negation, an equation or a range of whole numbers is one linear fact on these naturals, which omega reads:
--     OUT  what is known of whole numbers, as a fact on naturals, for omega's list: le_out, lt_out, add-out, sub_out, neg-out, fits_out, eq-out
--     IN   what is to be shown of whole numbers, from a fact on naturals, which `omega (arith, ..)` proves: le_in, lt_in, fits_in, eq-in
--     a test's outcome, out and in: le-true, le-false, lt-true, lt-false; is_le, not-le, is_lt, not-lt
-- Assumes nothing.
use mathlib.Core.Path.{◌≡◌, refl, sym, ap, subst, ◌∙◌}
use mathlib.Core.Logic.{◌≢◌}
use mathlib.Core.Bool.{Bool, true, false, cond}
use Prim.Native.Nat.{ℕ, zero, suc, ◌+◌, ◌*◌, ◌-◌, ◌/◌, ◌^◌, ◌≤◌, ◌<◌}
use native.Mathlib.Omega.{arith}
use native.Mathlib.Nat.{mul-zero, zero-div}
use lib.Dec.{T, ltb, lit≤}
use lib.Pow.{pow_mono}
use lib.IntN.{ℤ, pos, negsuc, neg_ℤ, nat_abs, sub_ℕ, ◌+ℤ◌, ◌-ℤ◌, ◌*ℤ◌}
use lib.Signed.{mag, non_neg, quot_z, le_z, lt_z, ◌≤ℤ◌, ◌<ℤ◌}
use borrow.Author.Tests.{ltb-true, ltb-false, leb-true, leb-false}
use mir.Syntax.{Width, w8, w16, w32, w64, w128}
use mir.Val.{bits, hbits, Fits, SFits, to_z, of_z}
use mir.ValLaws.{to_z-of_z}

abbrev pub up : ℤ → ℕ
up (pos n) = n
up (negsuc n) = 0

abbrev pub down : ℤ → ℕ
down (pos n) = 0
down (negsuc n) = suc n

-- a ≤ b and a < b, as omega reads them
abbrev pub Le : ℤ → ℤ → Type 0
Le a b = up a + down b ≤ up b + down a

abbrev pub Lt : ℤ → ℤ → Type 0
Lt a b = up a + down b < up b + down a

no : true ≡ false → ⊥
no e = subst T e tt

-- ---- tests, out
pub le_true : (a b : ℤ) → le_z a b ≡ true → Le a b
le_true (pos a) (pos b) e = omega (arith, leb-true a b e)
le_true (pos a) (negsuc b) e = absurd (no (sym e))
le_true (negsuc a) (pos b) e = omega arith
le_true (negsuc a) (negsuc b) e = omega (arith, leb-true b a e)

pub le_false : (a b : ℤ) → le_z a b ≡ false → Lt b a
le_false (pos a) (pos b) e = omega (arith, leb-false a b e)
le_false (pos a) (negsuc b) e = omega arith
le_false (negsuc a) (pos b) e = absurd (no e)
le_false (negsuc a) (negsuc b) e = omega (arith, leb-false b a e)

pub lt_true : (a b : ℤ) → lt_z a b ≡ true → Lt a b
lt_true (pos a) (pos b) e = omega (arith, ltb-true a b e)
lt_true (pos a) (negsuc b) e = absurd (no (sym e))
lt_true (negsuc a) (pos b) e = omega arith
lt_true (negsuc a) (negsuc b) e = omega (arith, ltb-true b a e)

pub lt_false : (a b : ℤ) → lt_z a b ≡ false → Le b a
lt_false (pos a) (pos b) e = omega (arith, ltb-false a b e)
lt_false (pos a) (negsuc b) e = omega arith
lt_false (negsuc a) (pos b) e = absurd (no e)
lt_false (negsuc a) (negsuc b) e = omega (arith, ltb-false b a e)

-- ---- tests, in
known : (t : Bool) → (t ≡ false → ⊥) → t ≡ true
known true f = refl
known false f = absurd (f refl)

known' : (t : Bool) → (t ≡ true → ⊥) → t ≡ false
known' true f = absurd (f refl)
known' false f = refl

pub is_le : (a b : ℤ) → Le a b → le_z a b ≡ true
is_le a b h = known (le_z a b) (λ e. omega (arith, le_false a b e))

pub not_le : (a b : ℤ) → Lt b a → le_z a b ≡ false
not_le a b h = known' (le_z a b) (λ e. omega (arith, le_true a b e))

pub is_lt : (a b : ℤ) → Lt a b → lt_z a b ≡ true
is_lt a b h = known (lt_z a b) (λ e. omega (arith, lt_false a b e))

pub not_lt : (a b : ℤ) → Le b a → lt_z a b ≡ false
not_lt a b h = known' (lt_z a b) (λ e. omega (arith, lt_true a b e))

-- ---- the orders, as records
yes_of : (t : Bool) → T t → t ≡ true
yes_of true h = refl
yes_of false h = absurd h

pub le_out : {a b : ℤ} → a ≤ℤ b → Le a b
le_out {a} {b} h = le_true a b (yes_of (le_z a b) h.le)

pub lt_out : {a b : ℤ} → a <ℤ b → Lt a b
lt_out {a} {b} h = lt_true a b (yes_of (lt_z a b) h.lt)

pub le_in : (a b : ℤ) → Le a b → a ≤ℤ b
le_in a b h = record { le = subst T (sym (is_le a b h)) tt }

pub lt_in : (a b : ℤ) → Lt a b → a <ℤ b
lt_in a b h = record { lt = subst T (sym (is_lt a b h)) tt }

-- ---- equations
pub eq_out : {a b : ℤ} → a ≡ b → up a + down b ≡ up b + down a
eq_out {a} {b} e = ap (λ (z : ℤ). up a + down z) (sym e) ∙ ap (λ (z : ℤ). up z + down a) e

pub eq_in : (a b : ℤ) → up a + down b ≡ up b + down a → a ≡ b
eq_in (pos a) (pos b) h = ap pos (omega arith)
eq_in (pos a) (negsuc b) h = absurd (omega arith)
eq_in (negsuc a) (pos b) h = absurd (omega arith)
eq_in (negsuc a) (negsuc b) h = ap negsuc (omega arith)

-- ---- operations
sub_n_out : (a b : ℕ) → up (sub_ℕ a b) + b ≡ down (sub_ℕ a b) + a
sub_n_out a b = by (ltb a b) refl
  where
    by : (t : Bool) → ltb a b ≡ t → up (cond t (negsuc (b - suc a)) (pos (a - b))) + b ≡ down (cond t (negsuc (b - suc a)) (pos (a - b))) + a
    by true e = omega (arith, ltb-true a b e)
    by false e = omega (arith, ltb-false a b e)

pub add_out : (a b : ℤ) → up (a +ℤ b) + (down a + down b) ≡ down (a +ℤ b) + (up a + up b)
add_out (pos a) (pos b) = omega arith
add_out (pos a) (negsuc b) = omega (arith, sub_n_out a (suc b))
add_out (negsuc a) (pos b) = omega (arith, sub_n_out b (suc a))
add_out (negsuc a) (negsuc b) = omega arith

neg_up : (a : ℤ) → up (neg_ℤ a) ≡ down a
neg_up (pos zero) = refl
neg_up (pos (suc n)) = refl
neg_up (negsuc n) = refl

neg_down : (a : ℤ) → down (neg_ℤ a) ≡ up a
neg_down (pos zero) = refl
neg_down (pos (suc n)) = refl
neg_down (negsuc n) = refl

pub neg_out : (a : ℤ) → up (neg_ℤ a) + up a ≡ down (neg_ℤ a) + down a
neg_out a = omega (arith, neg_up a, neg_down a)

pub sub_out : (a b : ℤ) → up (a -ℤ b) + (down a + up b) ≡ down (a -ℤ b) + (up a + down b)
sub_out a b = omega (arith, add_out a (neg_ℤ b), neg_up b, neg_down b)

-- ---- the range of a width
pub fits_out : {w : Width} {z : ℤ} → SFits w z → (up z < 2 ^ hbits w + down z) × (down z ≤ 2 ^ hbits w + up z)
fits_out {z = pos n} f = omega (arith, f.sfits)
fits_out {z = negsuc n} f = omega (arith, f.sfits)

fits_in : {w : Width} (z : ℤ) → up z < 2 ^ hbits w + down z → down z ≤ 2 ^ hbits w + up z → SFits w z
fits_in (pos n) h k = record { sfits = omega arith }
fits_in (negsuc n) h k = record { sfits = omega arith }

-- what the machine reads back from the bits of a number that fits is the number
pub back : {w : Width} {z : ℤ} → SFits w z → to_z w (of_z w z) ≡ z
back {w} {z} f = to_z-of_z w z f

-- a 64-bit number as the machine reads it back from its bits
abbrev pub rd : ℤ → ℤ
rd z = to_z w64 (of_z w64 z)

-- what is to be shown of a number for it to fit: `fits_is (omega (whole, ..))`
pub record Within (w : Width) (z : ℤ) : Type 0 where
  pub top : up z < 2 ^ hbits w + down z
  pub bottom : down z ≤ 2 ^ hbits w + up z

pub fits_is : {w : Width} {z : ℤ} → Within w z → SFits w z
fits_is {z} h = fits_in z h.top h.bottom

-- what omega wants of a number that fits: its range, and that reading it back changes nothing
pub record Ranged (w : Width) (z : ℤ) : Type 0 where
  pub top : up z < 2 ^ hbits w + down z
  pub bottom : down z ≤ 2 ^ hbits w + up z
  pub same_up : up (to_z w (of_z w z)) ≡ up z
  pub same_down : down (to_z w (of_z w z)) ≡ down z

pub ranged : {w : Width} {z : ℤ} → SFits w z → Ranged w z
ranged {w} {z} f = record { top = (fits_out f).0; bottom = (fits_out f).1; same_up = ap up (back f); same_down = ap down (back f) }

-- ---- the size of a number, and the cast to an unsigned type
pub abs_pos : (z : ℤ) → down z ≤ up z → nat_abs z + down z ≡ up z
abs_pos (pos n) h = omega arith
abs_pos (negsuc n) h = absurd (omega arith)

pub abs_neg : (z : ℤ) → up z ≤ down z → nat_abs z + up z ≡ down z
abs_neg (pos n) h = omega arith
abs_neg (negsuc n) h = omega arith

non_neg_at : (z : ℤ) → down z ≤ up z → T (non_neg z)
non_neg_at (pos n) h = tt
non_neg_at (negsuc n) h = absurd (omega arith)

shorter : (w : Width) → hbits w ≤ bits w
shorter w8 = lit≤ tt
shorter w16 = lit≤ tt
shorter w32 = lit≤ tt
shorter w64 = lit≤ tt
shorter w128 = lit≤ tt

pub unsigned : {w : Width} {z : ℤ} → SFits w z → down z ≤ up z → T (non_neg (to_z w (of_z w z))) × Fits w (nat_abs (to_z w (of_z w z)))
unsigned {w} {z} f h =
    subst (λ (y : ℤ). T (non_neg y) × Fits w (nat_abs y)) (sym (back f)) (non_neg_at z h, record { fits = omega (arith, abs_pos z h, (fits_out f).0, pow_mono (shorter w)) })

pub abs_back : {w : Width} {z : ℤ} → SFits w z → nat_abs (to_z w (of_z w z)) ≡ nat_abs z
abs_back f = ap nat_abs (back f)

-- ---- the product, by the signs
pub mul_tt : (a b : ℤ) → lt_z a (pos 0) ≡ true → lt_z b (pos 0) ≡ true → a *ℤ b ≡ pos (nat_abs a * nat_abs b)
mul_tt (pos a) b e f = absurd (omega (arith, ltb-true a 0 e))
mul_tt (negsuc a) (pos b) e f = absurd (omega (arith, ltb-true b 0 f))
mul_tt (negsuc a) (negsuc b) e f = refl

pub mul_tf : (a b : ℤ) → lt_z a (pos 0) ≡ true → lt_z b (pos 0) ≡ false → a *ℤ b ≡ neg_ℤ (pos (nat_abs a * nat_abs b))
mul_tf (pos a) b e f = absurd (omega (arith, ltb-true a 0 e))
mul_tf (negsuc a) (pos b) e f = refl
mul_tf (negsuc a) (negsuc b) e f = absurd (no f)

pub mul_ft : (a b : ℤ) → lt_z a (pos 0) ≡ false → lt_z b (pos 0) ≡ true → a *ℤ b ≡ neg_ℤ (pos (nat_abs a * nat_abs b))
mul_ft (pos a) (pos b) e f = absurd (omega (arith, ltb-true b 0 f))
mul_ft (pos a) (negsuc b) e f = refl
mul_ft (negsuc a) b e f = absurd (no e)

pub mul_ff : (a b : ℤ) → lt_z a (pos 0) ≡ false → lt_z b (pos 0) ≡ false → a *ℤ b ≡ pos (nat_abs a * nat_abs b)
mul_ff (pos a) (pos b) e f = refl
mul_ff (pos a) (negsuc b) e f = absurd (no f)
mul_ff (negsuc a) b e f = absurd (no e)

-- ---- one of the two naturals is 0
pub up_le : (z : ℤ) (k : ℕ) → up z ≤ k + down z → up z ≤ k
up_le (pos n) k h = omega arith
up_le (negsuc n) k h = omega arith

pub down_le : (z : ℤ) (k : ℕ) → down z ≤ k + up z → down z ≤ k
down_le (pos n) k h = omega arith
down_le (negsuc n) k h = omega arith

-- ---- a multiple, and a quotient rounded toward 0
pub scale_up : (k : ℕ) (z : ℤ) → up (pos k *ℤ z) ≡ k * up z
scale_up k (pos n) = refl
scale_up k (negsuc n) = neg_up (pos (k * suc n)) ∙ sym (mul-zero k)

pub scale_down : (k : ℕ) (z : ℤ) → down (pos k *ℤ z) ≡ k * down z
scale_down k (pos n) = sym (mul-zero k)
scale_down k (negsuc n) = neg_down (pos (k * suc n))

pub quot_up : (z : ℤ) (d : ℕ) → up (quot_z z (pos d)) ≡ up z / d
quot_up (pos n) d = refl
quot_up (negsuc n) d = neg_up (pos (suc n / d)) ∙ sym (zero-div d)

pub quot_down : (z : ℤ) (d : ℕ) → down (quot_z z (pos d)) ≡ down z / d
quot_down (pos n) d = sym (zero-div d)
quot_down (negsuc n) d = neg_down (pos (suc n / d))

-- a call's 64-bit result, read back, is what the call ensures of it (`ok` is the call's `.ok`)
pub got : {r y : ℤ} → mag r < 2 ^ 63 → r ≡ y → rd r ≡ y
got ok e = back {w = w64} (record { sfits = ok }) ∙ e

-- a 64-bit field of a struct, read back (`ok` is the bound in `.struct_told .given`)
pub field_back : (z : ℤ) → mag z < 2 ^ 63 → rd z ≡ z
field_back z ok = back {w = w64} (record { sfits = ok })

-- ---- a test `==`, which compares bits
pub same_bits : {w : Width} {a b : ℤ} → SFits w a → SFits w b → of_z w a ≡ of_z w b → a ≡ b
same_bits {w} fa fb e = sym (back fa) ∙ ap (to_z w) e ∙ back fb

pub other_bits : (w : Width) (a b : ℤ) → (of_z w a ≡ of_z w b → ⊥) → up a + down b ≢ up b + down a
other_bits w a b h = λ e. h (ap (of_z w) (eq_in a b e))

pub ruleset whole = (arith, le_true, le_false, lt_true, lt_false, is_le, not_le, is_lt, not_lt, le_out, lt_out, le_in, lt_in, eq_out, eq_in)
