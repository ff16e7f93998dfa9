-- `glass_tables::greys::ends` meets its contract: after i turns the first i ends are filled. Assumes nothing.
use mathlib.Core.Path.{ap, ◌∙◌}
use Prim.Native.Nat.{ℕ}
use native.Mathlib.Omega.{arith}
use Rattle.numbers.specs.Lists.{tab}
use Rattle.numbers.proofs.Lin.{whole, ranged, unsigned, abs_back, abs_pos}
use Rattle.numbers.proofs.Painted.{painted_none, painted_more, painted_all}
use Rattle.glass_tables.specs.Greys.{grey_end, ends_of}
use Rattle.glass_tables.proofs.greys.ends.Goals as goal

pub loop-i-init : goal.loop-i-init
loop-i-init c = (painted_none _ _, omega arith)

pub overflow_cast-swing : goal.overflow_cast-swing
overflow_cast-swing c = let s = c in unsigned s.ranges.swing (let p = s.requires in omega whole)

pub end-requires : goal.end-requires
end-requires c =
    let s = c in
    let p = s.requires in
    let g = ranged s.ranges.swing in
    let q = abs_back s.ranges.swing in
    let v = abs_pos s.args.swing (omega whole) in
    (omega (arith, c.loop-i-test.true), omega whole)

pub offset_bounds-ends-i : goal.offset_bounds-ends-i
offset_bounds-ends-i c = record { fits = omega (arith, c.loop-i-test.true) }

pub bounds-ends-i : goal.bounds-ends-i
bounds-ends-i c = c.loop-i-test.true

pub overflow_step-i : goal.overflow_step-i
overflow_step-i c = record { fits = omega (arith, c.loop-i-test.true) }

pub loop-i-smaller : goal.loop-i-smaller
loop-i-smaller c = omega (arith, c.loop-i-test.true)

pub loop-i-preserved : goal.loop-i-preserved
loop-i-preserved c =
    let m = c in
    (painted_more m.loop-i.invariant.0 c.loop-i-test.true c.end.ensures, omega (arith, c.loop-i-test.true))

pub returns : goal.returns
unfolding ends_of
returns c =
    let m = c in
    painted_all m.loop-i.invariant.0 c.loop-i-test.false
    ∙ ap (λ (n : ℕ). tab 256 (grey_end n)) (abs_back m.ranges.swing)
