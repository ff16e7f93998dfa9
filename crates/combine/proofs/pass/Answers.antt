-- `combine::pass` meets its contract: after so many turns so many phases are walked. Assumes nothing.
use mathlib.Core.Path.{◌≡◌, sym, ap, ◌∙◌}
use mathlib.Core.List.{foldl}
use native.Mathlib.Omega.{arith}
use Prim.Native.Nat.{ℕ}
use Rattle.waveform.specs.Phases.{phase_of, joined}
use Rattle.waveform.specs.Walks.{phase_in, whole_step}
use Rattle.waveform_laws.proofs.Joined.{driven_none, driven_some, fold_none, fold_more}
use Rattle.combine.specs.Groups.{timed_group}
use Rattle.combine.proofs.pass.Invariants.{of}
use Rattle.combine.proofs.pass.Goals as goal
use Rattle.combine.proofs.pass.Goals.{then-frames-ne0, else-frames-ne0}

pub loop-at-init : goal.loop-at-init
loop-at-init c = (omega arith, fold_none _ _ _)

pub loop-at-preserved : goal.loop-at-preserved
unfolding phase_of
loop-at-preserved c =
    let test = c in
    let m = test in
    let a = m.args in
    let step = whole_step a.driving in
    let s = a.setting.now in
    let p = a.frame_period.now in
    let phase = phase_in a.driving (timed_group s p a.group) m.loop-at.at in
    let frames = c.frames.ensures in (
      omega arith,
      fold_more step a.transfer (of a.driving s p a.group) m.loop-at.at m.loop-at.invariant.1
          (elim c.if-frames-ne0.branch [
            | then-frames-ne0 w ↦ w.moved-is ∙ w.then_phase-moved.ensures ∙ ap (foldl step m.loop-at.moved) (sym (driven_some phase (λ z. w.if-frames-ne0.true (frames ∙ z))))
            | else-frames-ne0 w ↦ w.moved-is ∙ ap (foldl step m.loop-at.moved) (sym (driven_none phase (sym frames ∙ w.if-frames-ne0.false)))
          ]),
    )

pub returns : goal.returns
returns c =
    let a = c.args in
    let e : c.loop-at.at ≡ 4 = omega arith in
    c.loop-at.invariant.1 ∙ ap (λ (n : ℕ). foldl (whole_step a.driving) a.transfer (joined n (of a.driving a.setting.now a.frame_period.now a.group))) e
