-- `charges::sum::drive_at` meets its contract.
use mathlib.Core.Path.{sym, ap, subst, ◌∙◌}
use Rattle.numbers.proofs.Lin.{got}
use Rattle.waveform.specs.Walks.{phase_in}
use Rattle.charges.specs.Charge.{BoundedPhase}
use Rattle.charges.proofs.Sums.{drive_of, sum_driven}
use Rattle.charges.proofs.Bounds.{phase_bounded}
use Rattle.charges.proofs.sum.drive_at.Goals as goal

pub phase_drive-requires : goal.phase_drive-requires
phase_drive-requires c =
    let s = c in
    let d = s.args.driving in
    subst BoundedPhase (sym c.phase_of.ensures) (phase_bounded d.levels d.drive s.args.group s.requires.drivable.listable s.requires.bounded s.args.at)

pub returns : goal.returns
returns c =
    let s = c.args in
    got c.phase_drive.type_inv (c.phase_drive.ensures ∙ ap drive_of c.phase_of.ensures ∙ sym (sum_driven (phase_in s.driving s.group s.at)))
