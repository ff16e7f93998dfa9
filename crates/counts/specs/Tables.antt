-- How `count` goes: each pixel is counted in one of four tables, which are summed at the end.
use Rattle.std.specs.Prelude.{◌≡◌, List, ℕ, ◌+◌, ◌<◌, ◌^◌, length, set, get_or}
use Rattle.numbers.specs.Lists.{tab}

-- a table with one pixel more of a grey
unfoldable pub one_more : List ℕ → ℕ → List ℕ
one_more t g = set t g (get_or t g 0 + 1)

-- a table of 256 counts, where one more of the grey fits 32 bits
pub record Room (t : List ℕ) (g : ℕ) : Type 0 where
  pub long : length t ≡ 256
  pub below : get_or t g 0 + 1 < 2 ^ 32

-- what four tables count of a grey
abbrev pub sum_at : List ℕ → List ℕ → List ℕ → List ℕ → ℕ → ℕ
sum_at a b c d g = get_or a g 0 + get_or b g 0 + get_or c g 0 + get_or d g 0

-- four tables as one
unfoldable pub joined : List ℕ → List ℕ → List ℕ → List ℕ → List ℕ
joined a b c d = tab 256 (λ g. sum_at a b c d g)

-- four tables of 256 counts whose sums fit 32 bits
pub record Joinable (a b c d : List ℕ) : Type 0 where
  pub a_long : length a ≡ 256
  pub b_long : length b ≡ 256
  pub c_long : length c ≡ 256
  pub d_long : length d ≡ 256
  pub below : (g : ℕ) → g < 256 → sum_at a b c d g < 2 ^ 32
