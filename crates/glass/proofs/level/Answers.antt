-- `glass::level` meets its contract. Assumes nothing.
use mathlib.Core.Path.{ap, ◌∙◌}
use lib.IntN.{pos, nat_abs}
use lib.Signed.{pos-nat_abs}
use Rattle.glass.specs.Greys.{level_z}
use Rattle.numbers.proofs.Lin.{whole, rd, ranged, back, unsigned, abs_pos, abs_back}
use Rattle.numbers.proofs.Quot.{level_le}
use Rattle.glass.proofs.Grey.{level_is}
use Rattle.glass.proofs.level.Goals as goal

pub overflow_cast-swing : goal.overflow_cast-swing
overflow_cast-swing c = unsigned c.ranges.swing (omega whole)

pub overflow_cast-result : goal.overflow_cast-result
overflow_cast-result c =
    let s = c.before.before in
    let w = s.args.swing in
    record { sfits = omega (whole, c.share.ensures, level_le (nat_abs (rd w)) c.from.result (omega (whole, c.from.ensures)), ranged s.ranges.swing, abs_back s.ranges.swing, abs_pos w (omega whole)) }

pub returns : goal.returns
returns c =
    let s = c.before.before in
    let w = s.args.swing in
    back {z = pos c.share.result} (overflow_cast-result c)
    ∙ ap pos c.share.ensures
    ∙ level_is c.from.result (nat_abs (rd w))
    ∙ (λ i. level_z (c.from.ensures i) ((pos-nat_abs (rd w) (overflow_cast-swing c.before).0 ∙ back s.ranges.swing) i))
