-- Greys by tables: which steps the states are cut into, and what the tables hold.
use Rattle.std.specs.Prelude.{◌≡◌, List, ℕ, ◌+◌, ◌-◌, ◌*◌, ◌/◌, ◌^◌, ◌≤◌, ◌<◌, ℤ, pos, negsuc, nat_abs, ◌≤ℤ◌}
use Rattle.numbers.specs.Saturation.{largest}
use Rattle.numbers.specs.Lists.{tab}
use Rattle.glass.specs.Greys.{gray_z}

-- steps of 2^k states: at most 512 of them reach from 0 to the swing, and the first and the last state of one are no farther apart than a
-- grey is wide, swing / 255; a step's first state fits 63 bits
pub record Steps (swing k : ℕ) : Type 0 where
  pub small : k ≤ 54
  pub few : swing / 2 ^ k < 512
  pub fine : 255 * 2 ^ k ≤ swing + 255

-- the grey of the first state of each step
unfoldable pub firsts_of : ℤ → ℕ → List ℕ
firsts_of swing k = tab 512 (λ step. gray_z (pos (step * 2 ^ k)) swing)

-- the least state above a grey: where 510 × state reaches (2 × gray + 1) × swing
unfoldable pub grey_end : ℕ → ℕ → ℕ
grey_end swing gray = ((2 * gray + 1) * swing + 509) / 510

-- where each grey ends
unfoldable pub ends_of : ℕ → List ℕ
ends_of swing = tab 256 (grey_end swing)

-- the 64 bits of a state, as a number from 0 on
abbrev pub bits_of : ℤ → ℕ
bits_of (pos n) = n
bits_of (negsuc n) = largest 64 - n

-- what reading a grey from the tables asks
pub record Tables (swing : ℤ) (k : ℕ) (firsts ends : List ℕ) : Type 0 where
  pub some : pos 1 ≤ℤ swing
  pub steps : Steps (nat_abs swing) k
  pub firsts_are : firsts ≡ firsts_of swing k
  pub ends_are : ends ≡ ends_of (nat_abs swing)
