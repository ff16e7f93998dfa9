-- `wait::advance` meets its contract.
use mathlib.Core.Path.{◌∙◌}
use Rattle.clock.specs.Advance.{advanced}
use Rattle.counts.specs.Counts.{picture}
use Rattle.world.specs.World.{with_glass}
use Rattle.wait.proofs.Cases.{clock_ready, clock_moves, clock_refused}
use Rattle.wait.proofs.advance.Goals as goal

pub returns-in-Err : goal.returns-in-Err
returns-in-Err c =
    let s = c.args in
    clock_refused s.luts.now s.time (with_glass s.state s.states.now (picture s.pixels.now s.counts.now)) _ c.glass_lent-lengths.ensures _ c.in-Err.ensures

pub returns-in_default-as_mut_array : goal.returns-in_default-as_mut_array
returns-in_default-as_mut_array c =
    let s = c.args in
    let r = clock_ready s.luts.now s.time (with_glass s.state s.states.now (picture s.pixels.now s.counts.now)) _ c.glass_lent-lengths.ensures c.in_default.ensures in
    elim (c.in_default-as_mut_array.ensures.cases r.counts_long) [ ]

pub advance-requires : goal.advance-requires
advance-requires c =
    let s = c.args in
    rw c.in-Some.ensures.cases.same
    (clock_ready s.luts.now s.time (with_glass s.state s.states.now (picture s.pixels.now s.counts.now)) _ c.glass_lent-lengths.ensures c.in_default.ensures)

pub returns : goal.returns
returns c =
    let s = c.args in
    clock_moves s.luts.now s.time (with_glass s.state s.states.now (picture s.pixels.now s.counts.now)) _ c.glass_lent-lengths.ensures c.in_default.ensures _
    (c.advance.ensures ∙ (λ i. advanced s.luts.now s.time (with_glass s.state s.states.now (picture s.pixels.now (c.in-Some.ensures.cases.same i)))))
