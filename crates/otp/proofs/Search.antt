-- What a search over the entries knows at each turn, and what it finds. Assumes nothing.
use Rattle.std.specs.Prelude.{Some, None}
use mathlib.Core.Path.{◌≡◌, refl, sym, ap, ◌∙◌}
use mathlib.Core.Logic.{⊎_elim}
use mathlib.Core.Bool.{Bool, true, false, ◌||◌}
use Prim.Native.Nat.{ℕ, zero, suc, ◌+◌, ◌-◌, ◌<◌}
use native.Mathlib.Numerals.{add-one}
use native.Mathlib.Nat.{not-suc-le-zero, le_of_suc-le-suc, eq-or-lt_of_le}
use native.Mathlib.Omega.{arith}
use Rattle.numbers.specs.Choice.{pick}
use Rattle.otp.specs.Search.{any_of, last_of, Last}

module _ (p : ℕ → Bool) where
  pub any_none : false ≡ any_of p 0
  unfolding any_of
  any_none = refl

  pub any_more : (k : ℕ) (f g : Bool) → f ≡ any_of p k → g ≡ p k → f || g ≡ any_of p (k + 1)
  unfolding any_of
  any_more k f g e h = rw (e, h) (ap (any_of p) (sym (add-one k)))

  pub last_none : last_of p 0 ≡ None
  unfolding last_of
  last_none = refl

  last_more : (k : ℕ) → last_of p (k + 1) ≡ pick (p k) (Some k) (last_of p k)
  unfolding last_of
  last_more k = ap (last_of p) (add-one k)

  -- the last of the first k passes, or is passed over
  pub last_hit : (k : ℕ) → 0 < k → p (k - 1) ≡ true → last_of p k ≡ Some (k - 1)
  last_hit k l h = let e : k ≡ k - 1 + 1 = omega arith in ap (last_of p) e ∙ last_more (k - 1) ∙ rw h

  pub last_pass : (k : ℕ) → 0 < k → p (k - 1) ≡ false → last_of p k ≡ last_of p (k - 1)
  last_pass k l h = let e : k ≡ k - 1 + 1 = omega arith in ap (last_of p) e ∙ last_more (k - 1) ∙ rw h

module _ (p : ℕ → Bool) where
  here : (n k : ℕ) → p n ≡ true → Some n ≡ Some k → Last p (suc n) k
  here n k h e =
      let q : n ≡ k = cc in
      record {
        within = omega arith;
        passes = ap p (sym q) ∙ h;
        later = λ j a b. absurd (omega arith);
      }

  before : (n k : ℕ) → p n ≡ false → Last p n k → Last p (suc n) k
  before n k h l =
      record {
        within = omega (arith, l.within);
        passes = l.passes;
        later = λ j a b. ⊎_elim (λ (e : j ≡ n). ap p e ∙ h) (λ (d : j < n). l.later j a d) (eq-or-lt_of_le (le_of_suc-le-suc b));
      }

  never : {A : Type 0} (k : ℕ) → None ≡ Some k → A
  never k e = absurd (let z : ◌≡◌ {A = ℕ} 0 1 = cc in omega arith)

  pub last_is : (n k : ℕ) → last_of p n ≡ Some k → Last p n k
  unfolding last_of
  last_is zero k e = never k e
  last_is (suc n) k e = by (p n) refl e (last_is n k)
    where
      by : (t : Bool) → p n ≡ t → pick t (Some n) (last_of p n) ≡ Some k → (last_of p n ≡ Some k → Last p n k) → Last p (suc n) k
      by true h f more = here n k h f
      by false h f more = before n k h (more f)

  pub none_is : (n : ℕ) → last_of p n ≡ None → (j : ℕ) → j < n → p j ≡ false
  unfolding last_of
  none_is zero e j l = absurd (not-suc-le-zero l)
  none_is (suc n) e j l = by (p n) refl e (none_is n)
    where
      by : (t : Bool) → p n ≡ t → pick t (Some n) (last_of p n) ≡ None → (last_of p n ≡ None → (i : ℕ) → i < n → p i ≡ false) → p j ≡ false
      by true h f more = never n (sym f)
      by false h f more = ⊎_elim (λ (q : j ≡ n). ap p q ∙ h) (λ (d : j < n). more f j d) (eq-or-lt_of_le (le_of_suc-le-suc l))

-- two tests that agree find the same; a test that nothing passes finds nothing
pub last_same : (p q : ℕ → Bool) → ((k : ℕ) → p k ≡ q k) → (n : ℕ) → last_of p n ≡ last_of q n
unfolding last_of
last_same p q h zero = refl
last_same p q h (suc n) = rw (h n, last_same p q h n)
