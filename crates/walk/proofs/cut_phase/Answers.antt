-- `walk::cut_phase` meets its contract. Assumes nothing.
use mathlib.Core.Path.{◌≡◌, sym, ap, ◌∙◌}
use mathlib.Core.Bool.{false}
use Prim.Native.Nat.{ℕ, ◌+◌, min}
use native.Mathlib.Omega.{arith}
use mathlib.Core.List.{foldl}
use Rattle.numbers.specs.Saturation.{largest}
use Rattle.waveform.specs.Phases.{driven}
use Rattle.waveform.specs.Walks.{cut_step, phase_cut, phase_end}
use Rattle.waveform_laws.proofs.Joined.{driven_none, driven_some}
use Rattle.waveform_laws.proofs.Steps.{stopped_stays, step_on, step_short}
use Rattle.walk.proofs.Made.{ready_step}
use Rattle.walk.proofs.cut_phase.Goals.{After-saturating_add-end, Start}
use Rattle.walk.proofs.cut_phase.Goals as goal

abbrev start : After-saturating_add-end → Start
start c = c.before.before.before.before.before.before.before

-- when the phase ends
end_is : (c : After-saturating_add-end) → c.saturating_add-end.result ≡ phase_end (start c).args.lasting.step.phase (start c).args.progress.elapsed
end_is c = c.saturating_add-end.ensures ∙ ap (λ (n : ℕ). min ((start c).args.progress.elapsed + n) (largest 64)) (start c).requires.length_is

pub returns-then-progress : goal.returns-then-progress
returns-then-progress c = let s = c.args in sym (stopped_stays s.driving s.until s.progress (driven s.lasting.step.phase) c.if-progress.true)

pub returns-then-phase-eq0 : goal.returns-then-phase-eq0
returns-then-phase-eq0 c = let s = c.args in ap (foldl (cut_step s.driving s.until) s.progress) (sym (driven_none s.lasting.step.phase c.if-phase-eq0.true))

pub returns-then-until-end : goal.returns-then-until-end
returns-then-until-end c =
    let a = c in
    let some = a.if-phase-eq0.false in
    let going = a.if-progress.false in
    let s = (start c.before.before.before).args in
    let p = s.lasting.step.phase in
    c.cut_short.ensures
    ∙ (λ i. phase_cut s.driving p (c.saturating_sub-left.ensures i) (end_is c.before.before.before i) s.progress.transfer)
    ∙ sym (step_short s.driving s.until s.progress p going (omega (arith, c.if-until-end.true, end_is c.before.before.before)))
    ∙ ap (foldl (cut_step s.driving s.until) s.progress) (sym (driven_some p some))

pub returns : goal.returns
returns c =
    let a = c in
    let some = a.if-phase-eq0.false in
    let going = a.if-progress.false in
    let s = (start c.before.before).args in
    let p = s.lasting.step.phase in
    (λ i. record { transfer = (c.whole_step-moved.ensures ∙ ready_step s.driving s.lasting s.progress.transfer (start c.before.before).requires some) i; elapsed = end_is c.before.before i; stopped = false })
    ∙ sym (step_on s.driving s.until s.progress p going (omega (arith, c.if-until-end.false, end_is c.before.before)))
    ∙ ap (foldl (cut_step s.driving s.until) s.progress) (sym (driven_some p some))
