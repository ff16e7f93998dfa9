-- `walk::cut_repeats` meets its contract. Assumes nothing.
use mathlib.Core.Path.{◌≡◌, ap, ◌∙◌}
use native.Mathlib.Omega.{arith}
use Prim.Native.Nat.{ℕ}
use mathlib.Core.List.{List, foldl}
use Rattle.waveform.specs.declared.Phase.{Phase}
use Rattle.waveform.specs.Phases.{phases_in, joined}
use Rattle.waveform.specs.Walks.{cut_step}
use Rattle.waveform_laws.proofs.Joined.{fold_none, fold_more}
use Rattle.waveform_laws.proofs.Stepped.{four_is}
use Rattle.walk.proofs.cut_repeats.Goals as goal

pub lasting_of-first-requires : goal.lasting_of-first-requires
lasting_of-first-requires c = (omega arith, c.requires.0, c.requires.1)

pub lasting_of-second-requires : goal.lasting_of-second-requires
lasting_of-second-requires c = (omega arith, c.requires.0, c.requires.1)

pub lasting_of-third-requires : goal.lasting_of-third-requires
lasting_of-third-requires c = (omega arith, c.requires.0, c.requires.1)

pub lasting_of-fourth-requires : goal.lasting_of-fourth-requires
lasting_of-fourth-requires c = (omega arith, c.requires.0, c.requires.1)

pub loop-init : goal.loop-init
loop-init c = fold_none _ _ _

pub cut_pass-moved-requires : goal.cut_pass-moved-requires
cut_pass-moved-requires c =
    let fourth = c in
    let third = fourth in
    let second = third in
    let first = second in
    (first.lasting_of-first.ensures.1, second.lasting_of-second.ensures.1, third.lasting_of-third.ensures.1, fourth.lasting_of-fourth.ensures.1)

pub loop-preserved : goal.loop-preserved
loop-preserved c =
    let m = c in
    let fourth = m in
    let third = fourth in
    let second = third in
    let first = second in
    let s = first.args in
    fold_more (cut_step s.driving s.until) s.progress (λ j. phases_in first.lasting_of-first.result.step.phase second.lasting_of-second.result.step.phase third.lasting_of-third.result.step.phase fourth.lasting_of-fourth.result.step.phase) m.loop.counter m.loop.invariant c.cut_pass-moved.ensures

pub returns : goal.returns
returns c =
    let fourth = c in
    let third = fourth in
    let second = third in
    let first = second in
    let s = first.args in
    let step = cut_step s.driving s.until in
    let e : c.loop.counter ≡ s.group.repeats = omega arith in
    c.loop.invariant
    ∙ ap (λ (k : ℕ). foldl step s.progress (joined k (λ j. phases_in first.lasting_of-first.result.step.phase second.lasting_of-second.result.step.phase third.lasting_of-third.result.step.phase fourth.lasting_of-fourth.result.step.phase))) e
    ∙ ap (λ (l : List Phase). foldl step s.progress (joined s.group.repeats (λ j. l)))
    (four_is s.driving s.group first.lasting_of-first.ensures.0 second.lasting_of-second.ensures.0 third.lasting_of-third.ensures.0 fourth.lasting_of-fourth.ensures.0)
