-- What a search from the front finds: the first place that passes, or that there is none. Assumes nothing.
use mathlib.Core.Path.{◌≡◌, refl, ap}
use mathlib.Core.Bool.{Bool, true, false}
use Prim.Native.Nat.{ℕ, zero, suc, ◌<◌, zero-le, suc-le-suc}
use native.Mathlib.Nat.{not-suc-le-zero, le_of_suc-le-suc}
use Rattle.config.specs.Lowest.{lowest}

-- none of the numbers below i passes
abbrev pub Passed : (ℕ → Bool) → ℕ → Type 0
Passed p i = (k : ℕ) → k < i → p k ≡ false

pub lowest_at : (p : ℕ → Bool) (n i : ℕ) → i < n → Passed p i → p i ≡ true → lowest p n ≡ i
unfolding lowest
lowest_at p zero i l h e = absurd (not-suc-le-zero l)
lowest_at p (suc n) zero l h e = rw e
lowest_at p (suc n) (suc i) l h e =
    rw (h 0 (suc-le-suc zero-le)) (ap suc (lowest_at (λ k. p (suc k)) n i (le_of_suc-le-suc l) (λ k m. h (suc k) (suc-le-suc m)) e))

pub lowest_none : (p : ℕ → Bool) (n : ℕ) → Passed p n → lowest p n ≡ n
unfolding lowest
lowest_none p zero h = refl
lowest_none p (suc n) h = rw (h 0 (suc-le-suc zero-le)) (ap suc (lowest_none (λ k. p (suc k)) n (λ k m. h (suc k) (suc-le-suc m))))
