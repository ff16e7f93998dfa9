-- `walk::group_transfer` meets its contract. Assumes nothing.
use mathlib.Core.Path.{◌≡◌, ap, ◌∙◌}
use native.Mathlib.Omega.{arith}
use Prim.Native.Nat.{ℕ}
use mathlib.Core.List.{List, foldl}
use Rattle.waveform.specs.declared.Phase.{Phase}
use Rattle.waveform.specs.Phases.{phases_in, joined}
use Rattle.waveform.specs.Walks.{whole_step}
use Rattle.waveform_laws.proofs.Joined.{fold_none, fold_more}
use Rattle.waveform_laws.proofs.Stepped.{steps_are, pass_is}
use Rattle.walk.proofs.group_transfer.Goals as goal

pub step_of-first-requires : goal.step_of-first-requires
step_of-first-requires c = (omega arith, c.requires)

pub step_of-second-requires : goal.step_of-second-requires
step_of-second-requires c = (omega arith, c.requires)

pub step_of-third-requires : goal.step_of-third-requires
step_of-third-requires c = (omega arith, c.requires)

pub step_of-fourth-requires : goal.step_of-fourth-requires
step_of-fourth-requires c = (omega arith, c.requires)

pub loop-init : goal.loop-init
loop-init c = fold_none _ _ _

pub whole_pass-moved-requires : goal.whole_pass-moved-requires
whole_pass-moved-requires c = tt

pub loop-preserved : goal.loop-preserved
loop-preserved c =
    let m = c in
    let fourth = m in
    let third = fourth in
    let second = third in
    let first = second in
    let a = first.args in
    fold_more (whole_step a.driving) a.transfer (λ j. phases_in first.step_of-first.result.phase second.step_of-second.result.phase third.step_of-third.result.phase fourth.step_of-fourth.result.phase) m.loop.counter m.loop.invariant
    (c.whole_pass-moved.ensures ∙ pass_is a.driving a.group first.step_of-first.ensures second.step_of-second.ensures third.step_of-third.ensures fourth.step_of-fourth.ensures m.loop.moved)

pub returns : goal.returns
returns c =
    let fourth = c in
    let third = fourth in
    let second = third in
    let first = second in
    let a = first.args in
    let e : c.loop.counter ≡ a.group.repeats = omega arith in
    c.loop.invariant
    ∙ ap (λ (k : ℕ). foldl (whole_step a.driving) a.transfer (joined k (λ j. phases_in first.step_of-first.result.phase second.step_of-second.result.phase third.step_of-third.result.phase fourth.step_of-fourth.result.phase))) e
    ∙ ap (λ (l : List Phase). foldl (whole_step a.driving) a.transfer (joined a.group.repeats (λ j. l)))
    (steps_are a.driving a.group first.step_of-first.ensures second.step_of-second.ensures third.step_of-third.ensures fourth.step_of-fourth.ensures)
