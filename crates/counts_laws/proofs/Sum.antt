-- Each pixel has one of the 256 greys, so that the counts sum to the number of pixels (#108). Assumes nothing.
use mathlib.Core.Path.{◌≡◌, refl, ap}
use mathlib.Core.Bool.{Bool}
use mathlib.Core.List.{List, [], ◌∷◌}
use Prim.Native.Nat.{ℕ, zero, suc, ◌+◌, ◌<◌, zero-le, suc-le-suc}
use native.Mathlib.Nat.{not-suc-le-zero, le_of_suc-le-suc}
use native.Mathlib.Omega.{arith}
use lib.Dec.{eqb-zero-suc, eqb-suc-zero, eqb-suc-suc}
use lib.ListN.{length, get_or}
use Rattle.numbers.specs.Choice.{pick}
use Rattle.numbers.specs.Lists.{tab}
use Rattle.numbers.proofs.Painted.{tab_ext}
use Rattle.counts.specs.Counts.{occurs, counts_of, sum}
use Rattle.counts.proofs.Occurs.{hit}

sum_none : (n : ℕ) → sum (tab n (λ _. 0)) ≡ 0
unfolding sum tab
sum_none zero = refl
sum_none (suc n) = omega (arith, sum_none n)

sum_add : (n : ℕ) (f h : ℕ → ℕ) → sum (tab n (λ g. f g + h g)) ≡ sum (tab n f) + sum (tab n h)
unfolding sum tab
sum_add zero f h = refl
sum_add (suc n) f h = omega (arith, sum_add n (λ k. f (suc k)) (λ k. h (suc k)))

one_or_none : Bool → ℕ
one_or_none b = pick b 1 0

-- one pixel is counted once
sum_hit : (n x : ℕ) → x < n → sum (tab n (hit x)) ≡ 1
unfolding sum tab one_or_none
sum_hit zero x l = absurd (not-suc-le-zero l)
sum_hit (suc n) zero l =
    omega (
      arith,
      ap sum (tab_ext n (λ k. hit 0 (suc k)) (λ _. 0) (λ k _. ap one_or_none (eqb-zero-suc k))),
      sum_none n,
    )
sum_hit (suc n) (suc x) l =
    omega (
      arith,
      ap one_or_none (eqb-suc-zero x),
      ap sum (tab_ext n (λ k. hit (suc x) (suc k)) (hit x) (λ k _. ap one_or_none (eqb-suc-suc x k))),
      sum_hit n x (le_of_suc-le-suc l),
    )

pub counts_sum : (xs : List ℕ) → ((k : ℕ) → k < length xs → get_or xs k 0 < 256) → sum (counts_of xs) ≡ length xs
unfolding occurs counts_of
counts_sum [] below = sum_none 256
counts_sum (x ∷ xs) below =
    omega (
      arith,
      sum_add 256 (hit x) (λ g. occurs g xs),
      sum_hit 256 x (below 0 (suc-le-suc zero-le)),
      counts_sum xs (λ k l. below (suc k) (suc-le-suc l)),
    )
