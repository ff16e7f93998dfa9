-- `paint_grays` meets its contract: after i turns the first i pixels are the greys of their states.
use mathlib.Core.Path.{sym, ap, subst, ◌∙◌}
use Prim.Native.Nat.{ℕ}
use native.Mathlib.Omega.{arith}
use lib.IntN.{ℤ, pos}
use lib.Signed.{◌≤ℤ◌}
use lib.ListN.{length, get_or}
use Rattle.numbers.specs.Lists.{tab}
use Rattle.numbers.proofs.Lin.{rd, back, field_back}
use Rattle.numbers.proofs.Painted.{painted_none, painted_more, painted_all}
use Rattle.glass.specs.Greys.{gray_z}
use Rattle.panel.specs.Pixels.{grays}
use Rattle.bench.proofs.Passed.{gray_some, gray_long}
use Rattle.bench.proofs.display.paint_grays.Goals as goal

pub loop-i-init : goal.loop-i-init
loop-i-init c = painted_none _ _

pub gray-requires : goal.gray-requires
gray-requires c =
    subst (λ (z : ℤ). pos 1 ≤ℤ z) (sym (back c.ranges.swing)) (gray_some c.args.swing (length c.args.states.now) (length c.args.pixels.now) c.requires)

pub bounds-pixels-i : goal.bounds-pixels-i
bounds-pixels-i c = omega (arith, c.loop-i.invariant.long, gray_long c.args.swing (length c.args.states.now) (length c.args.pixels.now) c.requires)

pub loop-i-preserved : goal.loop-i-preserved
loop-i-preserved c =
    painted_more c.loop-i.invariant
    (omega (arith, gray_long c.args.swing (length c.args.states.now) (length c.args.pixels.now) c.requires))
    (c.gray.ensures ∙ ap (λ (z : ℤ). gray_z z (rd c.args.swing)) (field_back _ c.gray-arg-1.given))

pub returns : goal.returns
unfolding grays
returns c =
    let n = gray_long c.args.swing (length c.args.states.now) (length c.args.pixels.now) c.requires in
    painted_all c.loop-i.invariant (omega (arith, n))
    ∙ ap (λ (k : ℕ). tab k (λ i. gray_z (get_or c.args.states.now i (pos 0)) (rd c.args.swing))) n
    ∙ ap (λ (z : ℤ). tab (length c.args.states.now) (λ i. gray_z (get_or c.args.states.now i (pos 0)) z)) (back c.ranges.swing)
