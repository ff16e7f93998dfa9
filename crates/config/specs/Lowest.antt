-- A search from the front: the lowest code of 5 and the first entry of 6 (SCOPE, Refusals).
use Rattle.std.specs.Prelude.{Bool, ℕ, zero, suc}
use Rattle.numbers.specs.Choice.{pick}

-- the lowest number below n that passes p; n where none does
unfoldable pub lowest : (ℕ → Bool) → ℕ → ℕ
lowest p zero = 0
lowest p (suc n) = pick (p 0) 0 (suc (lowest (λ k. p (suc k)) n))
