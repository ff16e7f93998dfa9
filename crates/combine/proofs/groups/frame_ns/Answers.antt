-- `combine::groups::frame_ns` meets its contract. Assumes nothing.
use mathlib.Core.Path.{ap, sym, subst}
use Prim.Native.Nat.{ℕ, ◌<◌}
use native.Mathlib.Omega.{arith}
use lib.ListN.{get_or}
use Rattle.waveform_laws.proofs.Decoded.{rate_below}
use Rattle.combine.proofs.groups.frame_ns.Goals.{After-frame_rate_code-rate}
use Rattle.combine.proofs.groups.frame_ns.Goals as goal

below : (c : After-frame_rate_code-rate) → c.frame_rate_code-rate.result < 16
below c = subst (λ (n : ℕ). n < 16) (sym c.frame_rate_code-rate.ensures) (rate_below c.args.setting.now c.args.group)

pub offset_bounds-frame_period-rate : goal.offset_bounds-frame_period-rate
offset_bounds-frame_period-rate c = omega (arith, below c)

pub bounds-frame_period-rate : goal.bounds-frame_period-rate
bounds-frame_period-rate c = omega (arith, below c.before.before)

pub returns : goal.returns
returns c = ap (λ (n : ℕ). get_or c.args.frame_period.now n 0) c.frame_rate_code-rate.ensures
