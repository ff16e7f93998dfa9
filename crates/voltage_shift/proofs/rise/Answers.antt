-- `voltage_shift::rise` meets its contract.
use mathlib.Core.Path.{◌∙◌}
use lib.IntN.{ℤ, nat_abs, ◌-ℤ◌}
use mir.Syntax.{w64}
use mir.Val.{SFits}
use Rattle.numbers.proofs.Lin.{rd, whole, fits_is, sub_out, back, ranged, abs_back, unsigned}
use Rattle.waveform.specs.Voltages.{Listable}
use Rattle.voltage_shift.proofs.rise.Goals as goal

apart : (a b : ℤ) → Listable a → Listable b → SFits w64 (a -ℤ b)
apart a b h k = let o = sub_out a b in fits_is (omega (whole, h.low, h.high, k.low, k.high))

pub overflow_sub-result : goal.overflow_sub-result
overflow_sub-result c = rw (back c.ranges.high, back c.ranges.low) (apart c.args.high c.args.low c.requires.listable.1 c.requires.listable.0)

pub overflow_cast-result : goal.overflow_cast-result
overflow_cast-result c =
    unsigned (overflow_sub-result c)
    (omega (whole, sub_out (rd c.args.high) (rd c.args.low), ranged c.ranges.high, ranged c.ranges.low, c.requires.order))

pub returns : goal.returns
returns c = abs_back (overflow_sub-result c) ∙ (λ i. nat_abs (back c.ranges.high i -ℤ back c.ranges.low i))
