-- `glass_tables::greys::bits` meets its contract. Assumes nothing.
use mathlib.Core.Path.{◌∙◌}
use lib.IntN.{ℤ, ◌-ℤ◌}
use Rattle.numbers.specs.Saturation.{least}
use Rattle.numbers.proofs.Lin.{whole, rd, ranged, unsigned, abs_pos, abs_back, sub_out, fits_is}
use Rattle.glass_tables.proofs.Found.{bits_neg, bits_pos}
use Rattle.glass_tables.proofs.greys.bits.Goals.{Then-state-lt0}
use Rattle.glass_tables.proofs.greys.bits.Goals as goal

-- how far a state below 0 lies above the least
abbrev above : Then-state-lt0 → ℤ
above c = rd c.args.state -ℤ least

pub overflow_sub-result : goal.overflow_sub-result
overflow_sub-result c =
    let s = c in
    fits_is (omega (whole, ranged s.ranges.state, sub_out (rd s.args.state) least))

pub overflow_cast-result : goal.overflow_cast-result
overflow_cast-result c =
    let s = c in
    unsigned (overflow_sub-result c) (omega (whole, ranged s.ranges.state, sub_out (rd s.args.state) least))

pub overflow_add-result : goal.overflow_add-result
overflow_add-result c =
    let s = c in
    let f = ranged s.ranges.state in
    let d = sub_out (rd s.args.state) least in
    record { fits = omega (whole, abs_back (overflow_sub-result c), abs_pos (above c) (omega whole)) }

pub returns-then-state-lt0 : goal.returns-then-state-lt0
returns-then-state-lt0 c =
    let s = c in
    let f = ranged s.ranges.state in
    let d = sub_out (rd s.args.state) least in
    omega (whole, abs_back (overflow_sub-result c), abs_pos (above c) (omega whole), bits_neg s.args.state (omega whole) (omega whole))

pub overflow_cast-result-2 : goal.overflow_cast-result-2
overflow_cast-result-2 c = let s = c in unsigned s.ranges.state (omega (whole, ranged s.ranges.state))

pub returns : goal.returns
returns c = let s = c in abs_back s.ranges.state ∙ bits_pos s.args.state (omega (whole, ranged s.ranges.state))
