-- Laws of `clamp_z` and `sat_z`: which of the three answers it is, a clamp after a clamp, a clamp moved.
-- Assumes nothing.
use mathlib.Core.Path.{◌≡◌, refl, sym, ap, subst, ◌∙◌}
use mathlib.Core.Bool.{Bool, true, false, cond}
use Prim.Native.Nat.{ℕ, ◌^◌, ◌≤◌, ◌<◌, min}
use native.Mathlib.Omega.{arith}
use lib.Dec.{leb}
use borrow.Author.Tests.{leb-true, leb-false}
use lib.IntN.{ℤ, pos, negsuc, neg_ℤ, ◌+ℤ◌}
use Rattle.std.specs.Int.{saturate_signed}
use lib.Signed.{mag, lt_z, ◌≤ℤ◌}
use mir.Syntax.{w64}
use mir.Val.{SFits}
use Rattle.numbers.specs.Saturation.{largest, clamp_z, sat_z, least, most}
use Rattle.numbers.proofs.Lin.{Le, Lt, eq_in, add_out, neg_out, whole, ranged, back, got, rd, is_lt, not_lt}

pub clamp_low : (x lo hi : ℤ) → Lt x lo → clamp_z x lo hi ≡ lo
unfolding clamp_z
clamp_low x lo hi h = simp (is_lt x lo h)

pub clamp_high : (x lo hi : ℤ) → Le lo x → Lt hi x → clamp_z x lo hi ≡ hi
unfolding clamp_z
clamp_high x lo hi h k = simp (not_lt x lo h, is_lt hi x k)

pub clamp_mid : (x lo hi : ℤ) → Le lo x → Le x hi → clamp_z x lo hi ≡ x
unfolding clamp_z
clamp_mid x lo hi h k = simp (not_lt x lo h, not_lt hi x k)

-- the bounds count too, where lo is at most hi
pub clamp_low' : (x lo hi : ℤ) → Le x lo → Le lo hi → clamp_z x lo hi ≡ lo
clamp_low' x lo hi h k = by (lt_z x lo) refl
  where
    by : (t : Bool) → lt_z x lo ≡ t → clamp_z x lo hi ≡ lo
    by true e = clamp_low x lo hi (omega whole)
    by false e = clamp_mid x lo hi (omega whole) (omega whole) ∙ eq_in x lo (omega whole)

pub clamp_high' : (x lo hi : ℤ) → Le hi x → Le lo hi → clamp_z x lo hi ≡ hi
clamp_high' x lo hi h k = by (lt_z hi x) refl
  where
    by : (t : Bool) → lt_z hi x ≡ t → clamp_z x lo hi ≡ hi
    by true e = clamp_high x lo hi (omega whole) (omega whole)
    by false e = clamp_mid x lo hi (omega whole) (omega whole) ∙ eq_in x hi (omega whole)

pub sat_fits : {z : ℤ} → SFits w64 z → sat_z z ≡ z
sat_fits {z} f = let r = ranged f in clamp_mid z least most (omega whole) (omega whole)

-- a natural number held to 64 bits first: its sign's end is reached all the same
module _ (n : ℕ) where
  sat_min : (f : ℕ → ℤ) → ((k : ℕ) → largest 64 ≤ k → sat_z (f k) ≡ sat_z (f (largest 64))) → sat_z (f (min n (largest 64))) ≡ sat_z (f n)
  sat_min f past = by (leb n (largest 64)) refl
    where
      by : (t : Bool) → leb n (largest 64) ≡ t → sat_z (f (min n (largest 64))) ≡ sat_z (f n)
      by true e = ap (λ (k : ℕ). sat_z (f k)) (omega (arith, leb-true n (largest 64) e))
      by false e =
          let l = leb-false n (largest 64) e in
          ap (λ (k : ℕ). sat_z (f k)) (omega arith) ∙ sym (past n (omega arith))

  pub sat_pos_min : sat_z (pos (min n (largest 64))) ≡ sat_z (pos n)
  sat_pos_min = sat_min pos (λ k l. clamp_high (pos k) least most (omega arith) (omega arith) ∙ sym (clamp_high (pos (largest 64)) least most (omega arith) (omega arith)))

  pub sat_neg_min : sat_z (neg_ℤ (pos (min n (largest 64)))) ≡ sat_z (neg_ℤ (pos n))
  sat_neg_min =
      sat_min (λ k. neg_ℤ (pos k))
      (λ k l.
      clamp_low (neg_ℤ (pos k)) least most (omega (whole, neg_out (pos k)))
      ∙ sym (clamp_low (neg_ℤ (pos (largest 64))) least most (omega (whole, neg_out (pos (largest 64))))))

-- clamping keeps the order
pub clamp_mono : (x y lo hi : ℤ) → lo ≤ℤ hi → x ≤ℤ y → clamp_z x lo hi ≤ℤ clamp_z y lo hi
unfolding clamp_z
clamp_mono x y lo hi l h = by (lt_z x lo) refl (lt_z hi x) refl (lt_z y lo) refl (lt_z hi y) refl
  where
    by : (p : Bool) → lt_z x lo ≡ p → (q : Bool) → lt_z hi x ≡ q → (r : Bool) → lt_z y lo ≡ r → (s : Bool) → lt_z hi y ≡ s → cond p lo (cond q hi x) ≤ℤ cond r lo (cond s hi y)
    by true e q f true g s k = omega whole
    by true e q f false g true k = omega whole
    by true e q f false g false k = omega whole
    by false e true f true g s k = omega whole
    by false e true f false g true k = omega whole
    by false e true f false g false k = omega whole
    by false e false f true g s k = omega whole
    by false e false f false g true k = omega whole
    by false e false f false g false k = omega whole

-- a result that fits, read back, is what saturation makes of the number that it is
pub held : {z y : ℤ} → SFits w64 z → z ≡ y → rd z ≡ sat_z y
held f e = back f ∙ sym (sat_fits f) ∙ ap sat_z e

-- what a call of `saturating_add_i64` and one of `clamp_i64` ensure of their results, read back, at arguments that were read back
pub summed : {r x y a b : ℤ} → mag r < 2 ^ 63 → r ≡ sat_z (x +ℤ y) → x ≡ a → y ≡ b → rd r ≡ sat_z (a +ℤ b)
summed ok e p q = got ok (e ∙ (λ i. sat_z (p i +ℤ q i)))

pub clamped : {r x l h a b d : ℤ} → mag r < 2 ^ 63 → r ≡ clamp_z x l h → x ≡ a → l ≡ b → h ≡ d → rd r ≡ clamp_z a b d
clamped ok e p q s = got ok (e ∙ (λ i. clamp_z (p i) (q i) (s i)))

-- ---- by its three answers
pub clamp_elim : (x lo hi : ℤ) (P : ℤ → Type 0) → (Lt x lo → P lo) → (Le lo x → Lt hi x → P hi) → (Le lo x → Le x hi → P x) → P (clamp_z x lo hi)
clamp_elim x lo hi P f g h = by (lt_z x lo) refl (lt_z hi x) refl
  where
    by : (s : Bool) → lt_z x lo ≡ s → (t : Bool) → lt_z hi x ≡ t → P (clamp_z x lo hi)
    by true e t k = subst P (sym (clamp_low x lo hi (omega whole))) (f (omega whole))
    by false e true k = subst P (sym (clamp_high x lo hi (omega whole) (omega whole))) (g (omega whole) (omega whole))
    by false e false k = subst P (sym (clamp_mid x lo hi (omega whole) (omega whole))) (h (omega whole) (omega whole))

pub below : (x lo hi y : ℤ) → Le x y → Le lo y → Le (clamp_z x lo hi) y
below x lo hi y p q = clamp_elim x lo hi (λ w. Le w y) (λ a. omega whole) (λ a b. omega whole) (λ a b. omega whole)

pub above : (x lo hi y : ℤ) → Le y x → Le y hi → Le y (clamp_z x lo hi)
above x lo hi y p q = clamp_elim x lo hi (λ w. Le y w) (λ a. omega whole) (λ a b. omega whole) (λ a b. omega whole)

pub at_least : (x lo hi : ℤ) → Le lo hi → Le lo (clamp_z x lo hi)
at_least x lo hi h = clamp_elim x lo hi (λ w. Le lo w) (λ a. omega whole) (λ a b. omega whole) (λ a b. omega whole)

pub at_most : (x lo hi : ℤ) → Le lo hi → Le (clamp_z x lo hi) hi
at_most x lo hi h = clamp_elim x lo hi (λ w. Le w hi) (λ a. omega whole) (λ a b. omega whole) (λ a b. omega whole)

module _ (z a b c d : ℤ) (p : Le a b) (q : Le c d) where
  abbrev ca : ℤ
  ca = clamp_z a c d

  abbrev cb : ℤ
  cb = clamp_z b c d

  low_case : Lt z a → ca ≡ clamp_z z ca cb
  low_case h =
      clamp_elim a c d (λ v. v ≡ clamp_z z v cb)
      (λ m. sym (clamp_low' z c cb (omega whole) (at_least b c d q)))
      (λ m n. sym (ap (λ (w : ℤ). clamp_z z d w) (clamp_high b c d (omega whole) (omega whole)) ∙ clamp_elim z d d (λ w. w ≡ d) (λ s. refl) (λ s t. refl) (λ s t. eq_in z d (omega whole))))
      (λ m n. sym (clamp_low' z a cb (omega whole) (above b c d a (omega whole) (omega whole))))

  high_case : Lt b z → cb ≡ clamp_z z ca cb
  high_case h =
      clamp_elim b c d (λ v. v ≡ clamp_z z ca v)
      (λ m. sym (ap (λ (w : ℤ). clamp_z z w c) (clamp_low a c d (omega whole)) ∙ clamp_elim z c c (λ w. w ≡ c) (λ s. refl) (λ s t. refl) (λ s t. eq_in z c (omega whole))))
      (λ m n. sym (clamp_high' z ca d (omega whole) (at_most a c d q)))
      (λ m n. sym (clamp_high' z ca b (omega whole) (below a c d b (omega whole) (omega whole))))

  mid_case : Le a z → Le z b → clamp_z z c d ≡ clamp_z z ca cb
  mid_case h k =
      clamp_elim z c d (λ v. v ≡ clamp_z z ca cb)
      (λ m. sym (ap (λ (w : ℤ). clamp_z z w cb) (clamp_low a c d (omega whole)) ∙ clamp_low z c cb (omega whole)))
      (λ m n. sym (ap (λ (w : ℤ). clamp_z z ca w) (clamp_high b c d (omega whole) (omega whole)) ∙ clamp_high z ca d (below a c d z (omega whole) (omega whole)) (omega whole)))
      (λ m n. sym (clamp_mid z ca cb (below a c d z (omega whole) (omega whole)) (above b c d z (omega whole) (omega whole))))

  pub clamp_clamp : clamp_z (clamp_z z a b) c d ≡ clamp_z z (clamp_z a c d) (clamp_z b c d)
  clamp_clamp = clamp_elim z a b (λ w. clamp_z w c d ≡ clamp_z z ca cb) low_case (λ m n. high_case n) mid_case

-- a clamp, moved
pub clamp_shift : (x lo hi k : ℤ) → clamp_z x lo hi +ℤ k ≡ clamp_z (x +ℤ k) (lo +ℤ k) (hi +ℤ k)
clamp_shift x lo hi k =
    let ax = add_out x k in
    let al = add_out lo k in
    let ah = add_out hi k in
    clamp_elim x lo hi (λ w. w +ℤ k ≡ clamp_z (x +ℤ k) (lo +ℤ k) (hi +ℤ k))
    (λ m. sym (clamp_low (x +ℤ k) (lo +ℤ k) (hi +ℤ k) (omega whole)))
    (λ m n. sym (clamp_high (x +ℤ k) (lo +ℤ k) (hi +ℤ k) (omega whole) (omega whole)))
    (λ m n. sym (clamp_mid (x +ℤ k) (lo +ℤ k) (hi +ℤ k) (omega whole) (omega whole)))

-- what is held to wider bounds first is as if it were not
pub clamp_wide : (z a b c d : ℤ) → Le a c → Le c d → Le d b → clamp_z (clamp_z z a b) c d ≡ clamp_z z c d
clamp_wide z a b c d h k l =
    clamp_clamp z a b c d (omega whole) k ∙ (λ i. clamp_z z (clamp_low' a c d h k i) (clamp_high' b c d l k i))

-- the library's saturation
pub saturated_is : (z : ℤ) → saturate_signed w64 z ≡ sat_z z
saturated_is (pos n) = by (leb n (largest 63)) refl
  where
    by : (t : Bool) → leb n (largest 63) ≡ t → saturate_signed w64 (pos n) ≡ sat_z (pos n)
    by true e =
        let l = leb-true n (largest 63) e in
        ap pos (omega arith) ∙ sym (clamp_mid (pos n) least most (omega whole) (omega whole))
    by false e =
        let l = leb-false n (largest 63) e in
        ap pos (omega arith) ∙ sym (clamp_high (pos n) least most (omega whole) (omega whole))
saturated_is (negsuc n) = by (leb n (largest 63)) refl
  where
    by : (t : Bool) → leb n (largest 63) ≡ t → saturate_signed w64 (negsuc n) ≡ sat_z (negsuc n)
    by true e =
        let l = leb-true n (largest 63) e in
        ap negsuc (omega arith) ∙ sym (clamp_mid (negsuc n) least most (omega whole) (omega whole))
    by false e =
        let l = leb-false n (largest 63) e in
        ap negsuc (omega arith) ∙ sym (clamp_low (negsuc n) least most (omega whole))
