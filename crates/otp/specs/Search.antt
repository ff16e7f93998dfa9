-- Searches over the numbers of the entries (config.rs, `find_waveform`; datasheet §6.9).
use Rattle.std.specs.Prelude.{◌≡◌, Bool, true, false, ◌||◌, ℕ, zero, suc, ◌<◌, Option, Some, None}
use Rattle.numbers.specs.Choice.{pick}

-- one of the numbers below n passes p
unfoldable pub any_of : (ℕ → Bool) → ℕ → Bool
any_of p zero = false
any_of p (suc k) = any_of p k || p k

-- the last of the numbers below n that passes p
unfoldable pub last_of : (ℕ → Bool) → ℕ → Option ℕ
last_of p zero = None
last_of p (suc k) = pick (p k) (Some k) (last_of p k)

-- what it is for k to be the last number below n that passes p: it passes, and no later one does
pub record Last (p : ℕ → Bool) (n k : ℕ) : Type 0 where
  pub within : k < n
  pub passes : p k ≡ true
  pub later : (j : ℕ) → k < j → j < n → p j ≡ false
