-- Grey levels and optical states, over ℤ (SCOPE, Glass).
use Rattle.std.specs.Prelude.{ℕ, ℤ, pos, nat_abs, ◌+ℤ◌, ◌*ℤ◌}
use Rattle.std.specs.Int.Signed.{quot_z}
use Rattle.numbers.specs.Saturation.{clamp_z}

-- the state of a grey: swing × gray / 255, rounded toward 0, which is down for a swing from 1 on
unfoldable pub level_z : ℕ → ℤ → ℤ
level_z gray swing = quot_z (swing *ℤ pos gray) (pos 255)

-- the grey of a state: (510 × state + swing) / (2 × swing), rounded toward 0 as the Rust's `/`, held between 0 and 255
unfoldable pub gray_z : ℤ → ℤ → ℕ
gray_z state swing = nat_abs (clamp_z (quot_z (pos 510 *ℤ state +ℤ swing) (pos 2 *ℤ swing)) (pos 0) (pos 255))
