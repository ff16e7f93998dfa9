-- `walk::phases::lasting_of` meets its contract. Assumes nothing.
use mathlib.Core.Path.{◌≡◌, sym, ap, subst, ◌∙◌}
use Prim.Native.Nat.{◌<◌}
use Rattle.waveform.specs.declared.Phase.{Phase}
use Rattle.waveform.specs.declared.DrivenPhase.{DrivenPhase}
use Rattle.waveform.specs.Phases.{phase_of}
use Rattle.waveform.specs.Walks.{phase_in, phase_step}
use Rattle.walk.proofs.phases.lasting_of.Goals as goal

pub returns : goal.returns
unfolding phase_step phase_of
returns c =
    let call = c in
    let a = call.args in
    let p = phase_in a.driving a.group a.at in
    let s = call.step_of-step.result in
    let e : s.phase ≡ p = ap (λ (x : DrivenPhase). x.phase) call.step_of-step.ensures in (
      e,
      record {
        timed = subst (λ (x : Phase). 0 < x.frame_ns) (sym e) call.requires.1;
        drive_is = call.step_of-step.ensures ∙ ap (phase_step a.driving) (sym e);
        length_is = c.saturating_mul-length.ensures;
      },
    )
