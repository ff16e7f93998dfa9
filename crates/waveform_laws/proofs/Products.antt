-- The 64-bit product of millivolts, frames and period drives a state from 0 to S as the exact product does.
-- Assumes nothing.
use mathlib.Core.Path.{◌≡◌, refl, sym, ap, subst, ◌∙◌}
use mathlib.Core.Bool.{Bool, true, false, not}
use Prim.Native.Nat.{ℕ, zero, suc, ◌+◌, ◌*◌, ◌-◌, ◌≤◌, ◌<◌, min}
use native.Mathlib.Omega.{arith}
use native.Mathlib.Decide.{dec_lt}
use native.Mathlib.Nat.{zero-mul, mul-zero, mul-le-mul_left, mul-le-mul_right, mul-one, one-mul}
use lib.IntN.{ℤ, pos, negsuc, neg_ℤ, ◌*ℤ◌}
use Rattle.numbers.specs.Saturation.{sat_z, least, most}
use Rattle.numbers.proofs.Lin.{whole}
use Rattle.numbers.proofs.Hold.{clamp_low, clamp_high, clamp_mid}
use Rattle.glass.specs.Exact.{drive}
use Rattle.glass.proofs.Exactly.{drive_pos, drive_down}
use Rattle.waveform.specs.Walks.{saturated_drive}
use Rattle.waveform.specs.Exact.{exact_drive}

-- ---- a sign and a magnitude
abbrev sgn : Bool → ℕ → ℤ
sgn true n = pos n
sgn false n = neg_ℤ (pos n)

-- the largest magnitude of 64 bits
abbrev lim : Bool → ℕ
lim true = 9223372036854775807
lim false = 9223372036854775808

-- both are at least 2^63 - 1
lim_le : (s : Bool) → 9223372036854775807 ≤ lim s
lim_le true = omega arith
lim_le false = omega arith

-- a number from 0 on, held to 64 bits
sat_pos : (n : ℕ) → sat_z (pos n) ≡ pos (min n 9223372036854775807)
sat_pos n = by (dec_lt 9223372036854775807 n)
  where
    by : Dec (9223372036854775807 < n) → sat_z (pos n) ≡ pos (min n 9223372036854775807)
    by (yes h) = clamp_high (pos n) least most (omega whole) (omega whole) ∙ ap pos (omega arith)
    by (no h) = clamp_mid (pos n) least most (omega whole) (omega whole) ∙ ap pos (omega arith)

-- one below 0
sat_neg : (n : ℕ) → sat_z (negsuc n) ≡ negsuc (min n 9223372036854775807)
sat_neg n = by (dec_lt 9223372036854775807 n)
  where
    by : Dec (9223372036854775807 < n) → sat_z (negsuc n) ≡ negsuc (min n 9223372036854775807)
    by (yes h) = clamp_low (negsuc n) least most (omega whole) ∙ ap negsuc (omega arith)
    by (no h) = clamp_mid (negsuc n) least most (omega whole) (omega whole) ∙ ap negsuc (omega arith)

-- one by its sign and magnitude
sat_sgn : (s : Bool) (n : ℕ) → sat_z (sgn s n) ≡ sgn s (min n (lim s))
sat_sgn true n = sat_pos n
sat_sgn false zero = sat_pos 0
sat_sgn false (suc n) = let e : suc (min n 9223372036854775807) ≡ min (suc n) 9223372036854775808 = omega arith in sat_neg n ∙ ap (λ (k : ℕ). neg_ℤ (pos k)) e

-- a product
mul_sgn : (s : Bool) (n p : ℕ) → sgn s n *ℤ pos p ≡ sgn s (n * p)
mul_sgn true n p = refl
mul_sgn false zero p = ap pos (zero-mul p) ∙ ap (λ (k : ℕ). neg_ℤ (pos k)) (sym (zero-mul p))
mul_sgn false (suc n) p = refl

-- a negation
neg_sgn : (s : Bool) (n : ℕ) → neg_ℤ (sgn s n) ≡ sgn (not s) n
neg_sgn true n = refl
neg_sgn false zero = refl
neg_sgn false (suc n) = refl

-- ---- magnitudes that agree up to S
capped : (S : ℕ) (s : Bool) (m n x : ℕ) → min m S ≡ min n S → x ≤ S → drive S (sgn s m) x ≡ drive S (sgn s n) x
capped S true m n x e h = drive_pos S m x ∙ near ∙ sym (drive_pos S n x)
  where
    near : min (x + m) S ≡ min (x + n) S
    near = omega arith
capped S false m n x e h = drive_down S m x h ∙ near ∙ sym (drive_down S n x h)
  where
    near : x - m ≡ x - n
    near = omega arith

-- a product is at least its first factor
le_times : (a b : ℕ) → 1 ≤ b → a ≤ a * b
le_times a b h = subst (λ (n : ℕ). n ≤ a * b) (mul-one a) (mul-le-mul_left a h)

-- and its second
times_le : (a b : ℕ) → 1 ≤ a → b ≤ a * b
times_le a b h = subst (λ (n : ℕ). n ≤ a * b) (one-mul b) (mul-le-mul_right b h)

-- a product whose first factor is capped, capped
pub cap_first : (q p m : ℕ) → min (min q m * p) m ≡ min (q * p) m
cap_first q zero m = ap (λ (n : ℕ). min n m) (mul-zero (min q m) ∙ sym (mul-zero q))
cap_first q (suc p) m = go (dec_lt m q)
  where
    go : Dec (m < q) → min (min q m * suc p) m ≡ min (q * suc p) m
    go (yes h) = omega (arith, le_times (min q m) (suc p) (omega arith), le_times q (suc p) (omega arith))
    go (no h) = let e : min q m ≡ q = omega arith in ap (λ (n : ℕ). min (n * suc p) m) e

-- a product of two capped numbers agrees with the whole product up to S
mul_cap : (S L M q p : ℕ) → 1 ≤ S → S ≤ L → S ≤ M → min (min q L * min p M) S ≡ min (q * p) S
mul_cap S L M zero p s sl sm =
    let e : min 0 L ≡ 0 = omega arith in
    ap (λ (n : ℕ). min (n * min p M) S) e ∙ ap (λ (n : ℕ). min n S) (zero-mul (min p M) ∙ sym (zero-mul p))
mul_cap S L M (suc q) zero s sl sm =
    let e : min 0 M ≡ 0 = omega arith in
    ap (λ (n : ℕ). min (min (suc q) L * n) S) e ∙ ap (λ (n : ℕ). min n S) (mul-zero (min (suc q) L) ∙ sym (mul-zero (suc q)))
mul_cap S L M (suc q) (suc p) s sl sm = go (dec_lt L (suc q)) (dec_lt M (suc p))
  where
    goal : Type 0
    goal = min (min (suc q) L * min (suc p) M) S ≡ min (suc q * suc p) S

    go : Dec (L < suc q) → Dec (M < suc p) → goal
    go (yes u) v =
        let a : min (suc q) L ≡ L = omega arith in
        let b : S ≤ min (suc q) L * min (suc p) M = omega (arith, le_times (min (suc q) L) (min (suc p) M) (omega arith)) in
        let c : S ≤ suc q * suc p = omega (arith, le_times (suc q) (suc p) (omega arith)) in
        omega arith
    go (no u) (yes v) =
        let a : min (suc p) M ≡ M = omega arith in
        let b : S ≤ min (suc q) L * min (suc p) M = omega (arith, times_le (min (suc q) L) (min (suc p) M) (omega arith)) in
        let c : S ≤ suc q * suc p = omega (arith, times_le (suc q) (suc p) (omega arith)) in
        omega arith
    go (no u) (no v) =
        let a : min (suc q) L ≡ suc q = omega arith in
        let b : min (suc p) M ≡ suc p = omega arith in
        ap (λ (n : ℕ). min (n * min (suc p) M) S) a ∙ ap (λ (n : ℕ). min (suc q * n) S) b

-- a capped factor between two others
mid_cap : (S M a r p : ℕ) → S ≤ M → min (a * min r M * p) S ≡ min (a * r * p) S
mid_cap S M zero r p h = let e : (n : ℕ) → 0 * n * p ≡ 0 = (λ n. ap (λ (k : ℕ). k * p) (zero-mul n) ∙ zero-mul p) in ap (λ (n : ℕ). min n S) (e (min r M) ∙ sym (e r))
mid_cap S M (suc a) r zero h = ap (λ (n : ℕ). min n S) (mul-zero (suc a * min r M) ∙ sym (mul-zero (suc a * r)))
mid_cap S M (suc a) r (suc p) h = go (dec_lt M r)
  where
    long : (n : ℕ) → n ≤ suc a * n * suc p
    long n = omega (arith, times_le (suc a) n (omega arith), le_times (suc a * n) (suc p) (omega arith))

    go : Dec (M < r) → min (suc a * min r M * suc p) S ≡ min (suc a * r * suc p) S
    go (yes u) = omega (arith, long (min r M), long r)
    go (no u) = let e : min r M ≡ r = omega arith in ap (λ (n : ℕ). min (suc a * n * suc p) S) e

-- a cap above S changes nothing up to S
twice : (S L n : ℕ) → S ≤ L → min (min n L) S ≡ min n S
twice S L n h = omega arith

module _ (S : ℕ) (some : 1 ≤ S) (room : S ≤ 9223372036854775807) where
  -- the magnitude that the code's product comes to
  abbrev reached : Bool → ℕ → ℕ → ℕ → ℕ
  reached s a r p = min (min (a * min r 9223372036854775807) (lim s) * min p 9223372036854775807) (lim s)

  -- what the code's product is, by sign and magnitude
  product : (s : Bool) (a r p : ℕ) → sat_z (sat_z (sgn s a *ℤ sat_z (pos r)) *ℤ sat_z (pos p)) ≡ sgn s (reached s a r p)
  product s a r p =
      (λ i. sat_z (sat_z (sgn s a *ℤ sat_pos r i) *ℤ sat_pos p i))
      ∙ ap (λ (z : ℤ). sat_z (sat_z z *ℤ pos (min p 9223372036854775807))) (mul_sgn s a (min r 9223372036854775807))
      ∙ ap (λ (z : ℤ). sat_z (z *ℤ pos (min p 9223372036854775807))) (sat_sgn s (a * min r 9223372036854775807))
      ∙ ap sat_z (mul_sgn s (min (a * min r 9223372036854775807) (lim s)) (min p 9223372036854775807))
      ∙ sat_sgn s (min (a * min r 9223372036854775807) (lim s) * min p 9223372036854775807)

  -- what the exact one is
  exact : (s : Bool) (a r p : ℕ) → sgn s a *ℤ pos r *ℤ pos p ≡ sgn s (a * r * p)
  exact s a r p = ap (λ (z : ℤ). z *ℤ pos p) (mul_sgn s a r) ∙ mul_sgn s (a * r) p

  -- the two agree up to S
  cap_once : (s : Bool) (a r p : ℕ) → min (reached s a r p) S ≡ min (a * r * p) S
  cap_once s a r p =
      twice S (lim s) _ (omega (arith, lim_le s))
      ∙ mul_cap S (lim s) 9223372036854775807 (a * min r 9223372036854775807) p some (omega (arith, lim_le s)) room
      ∙ mid_cap S 9223372036854775807 a r p room

  -- and after one saturation more
  cap_twice : (s t : Bool) (a r p : ℕ) → min (min (reached s a r p) (lim t)) S ≡ min (a * r * p) S
  cap_twice s t a r p = twice S (lim t) _ (omega (arith, lim_le t)) ∙ cap_once s a r p

  -- so they drive alike
  sgn_like : (b s : Bool) (a r p x : ℕ) → x ≤ S → drive S (saturated_drive b (sgn s a) r p) x ≡ drive S (exact_drive b (sgn s a) r p) x
  unfolding saturated_drive
  sgn_like false s a r p x h =
      ap (λ (z : ℤ). drive S z x) (product s a r p)
      ∙ capped S s _ _ x (cap_once s a r p) h
      ∙ ap (λ (z : ℤ). drive S z x) (sym (exact s a r p))
  sgn_like true s a r p x h =
      ap (λ (z : ℤ). drive S (sat_z (neg_ℤ z)) x) (product s a r p)
      ∙ ap (λ (z : ℤ). drive S (sat_z z) x) (neg_sgn s (reached s a r p))
      ∙ ap (λ (z : ℤ). drive S z x) (sat_sgn (not s) (reached s a r p))
      ∙ capped S (not s) _ _ x (cap_twice s (not s) a r p) h
      ∙ ap (λ (z : ℤ). drive S z x) (sym (neg_sgn s (a * r * p)))
      ∙ ap (λ (z : ℤ). drive S (neg_ℤ z) x) (sym (exact s a r p))

  -- the code's saturated drive moves each state from 0 to S as the exact one does
  pub drive_like : (b : Bool) (v : ℤ) (r p x : ℕ) → x ≤ S → drive S (saturated_drive b v r p) x ≡ drive S (exact_drive b v r p) x
  drive_like b (pos a) r p x h = sgn_like b true a r p x h
  drive_like b (negsuc a) r p x h = sgn_like b false (suc a) r p x h
