-- A search from the front, seen from its answer: what it found passes, and where it found nothing, nothing passes. Assumes nothing.
use mathlib.Core.Path.{◌≡◌, refl}
use mathlib.Core.Bool.{Bool, true, false}
use Prim.Native.Nat.{ℕ, zero, suc, ◌<◌}
use native.Mathlib.Nat.{not-suc-le-zero, le_of_suc-le-suc}
use Rattle.numbers.specs.Choice.{pick}
use Rattle.config.specs.Lowest.{lowest}
use Rattle.config.proofs.Lowest.{Passed}

-- a number below n that is found passes
pub found : (p : ℕ → Bool) (n : ℕ) → lowest p n < n → p (lowest p n) ≡ true
unfolding lowest
found p zero l = absurd (not-suc-le-zero l)
found p (suc n) l = by (p 0) refl (λ m. found (λ k. p (suc k)) n (le_of_suc-le-suc m)) l
  where
    by : (b : Bool) {m : ℕ} → p 0 ≡ b → (m < suc n → p m ≡ true) → pick b 0 m < suc n → p (pick b 0 m) ≡ true
    by true e more l = e
    by false e more l = more l

-- no number below the one that is found passes
pub before : (p : ℕ → Bool) (n : ℕ) → Passed p (lowest p n)
unfolding lowest
before p zero k l = absurd (not-suc-le-zero l)
before p (suc n) k l = by (p 0) refl (λ j m. before (λ k. p (suc k)) n j m) k l
  where
    by : (b : Bool) {m : ℕ} → p 0 ≡ b → Passed (λ k. p (suc k)) m → Passed p (pick b 0 (suc m))
    by true e more k l = absurd (not-suc-le-zero l)
    by false e more zero l = e
    by false e more (suc k) l = more k (le_of_suc-le-suc l)
