-- The lowest period of 0 is there just if one of the sixteen is 0. Assumes nothing.
use mathlib.Core.Path.{◌≡◌, refl, sym, ap, ◌∙◌}
use mathlib.Core.Bool.{Bool, true, false, ◌||◌, not}
use mathlib.Core.List.{List}
use Prim.Native.Nat.{ℕ, zero, suc, ◌<◌, zero-le, suc-le-suc}
use native.Mathlib.Omega.{arith}
use lib.Dec.{eqb, ltb, leb-suc-suc}
use lib.ListN.{get_or}
use borrow.Author.Tests.{lt-ltb, eqb-true, eqb-false, not-true}
use Rattle.numbers.specs.Choice.{pick}
use Rattle.config.specs.Lowest.{lowest}
use Rattle.config.specs.Tests.{periods_test}
use Rattle.otp.specs.Search.{any_of}
use Rattle.guard_state.specs.State.{periods_fine}

or_none : (b : Bool) → b || false ≡ b
or_none true = refl
or_none false = refl

or_assoc : (a b c : Bool) → (a || b) || c ≡ a || (b || c)
or_assoc true b c = refl
or_assoc false b c = refl

front : (p : ℕ → Bool) (n : ℕ) → any_of p (suc n) ≡ p 0 || any_of (λ k. p (suc k)) n
unfolding any_of
front p zero = sym (or_none (p 0))
front p (suc n) = ap (λ (b : Bool). b || p (suc n)) (front p n) ∙ or_assoc (p 0) (any_of (λ k. p (suc k)) n) (p (suc n))

pub any_lowest : (p : ℕ → Bool) (n : ℕ) → any_of p n ≡ ltb (lowest p n) n
unfolding any_of lowest
any_lowest p zero = refl
any_lowest p (suc n) = front p n ∙ by (p 0) (any_lowest (λ k. p (suc k)) n)
  where
    by : (b : Bool) → any_of (λ k. p (suc k)) n ≡ ltb (lowest (λ k. p (suc k)) n) n
        → b || any_of (λ k. p (suc k)) n ≡ ltb (pick b 0 (suc (lowest (λ k. p (suc k)) n))) (suc n)
    by true e = sym (lt-ltb 0 (suc n) (suc-le-suc zero-le))
    by false e = e ∙ sym (leb-suc-suc (suc (lowest (λ k. p (suc k)) n)) n)

abbrev is_zero : List ℕ → ℕ → Bool
is_zero periods code = eqb (get_or periods code 0) 0

pub none_zero : (periods : List ℕ) (any : Bool) → any ≡ any_of (is_zero periods) 16 → not any ≡ periods_fine periods
unfolding periods_fine
none_zero periods any e = ap not (e ∙ any_lowest (is_zero periods) 16)

pub none_of : (a b : Bool) → a || b ≡ false → (a ≡ false) × (b ≡ false)
none_of true b e = absurd (no e)
  where
    no : true ≡ false → ⊥
    no e = let z : ◌≡◌ {A = ℕ} 0 1 = cc in omega arith
none_of false b e = (refl, e)

passed_all : (p : ℕ → Bool) (n : ℕ) → any_of p n ≡ false → (k : ℕ) → k < n → p k ≡ false
unfolding any_of
passed_all p zero e k h = absurd (omega arith)
passed_all p (suc n) e k h = by (eqb k n) refl (none_of (any_of p n) (p n) e) (passed_all p n)
  where
    by : (b : Bool) → eqb k n ≡ b → (any_of p n ≡ false) × (p n ≡ false) → (any_of p n ≡ false → (i : ℕ) → i < n → p i ≡ false) → p k ≡ false
    by true f parts below = let same = eqb-true k n f in rw same parts.1
    by false f parts below = let apart = eqb-false k n f in below parts.0 k (omega arith)

-- every frame period is above 0
pub each_above_zero : (periods : List ℕ) → periods_fine periods ≡ true → (code : ℕ) → code < 16 → 0 < get_or periods code 0
unfolding periods_fine
each_above_zero periods e code h =
    let none = any_lowest (is_zero periods) 16 ∙ not-true (periods_test periods).refuses e in
    let apart = eqb-false (get_or periods code 0) 0 (passed_all (is_zero periods) 16 none code h) in
    omega arith
