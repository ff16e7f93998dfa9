-- `walk::transfer_cut` meets its contract. Assumes nothing.
use mathlib.Core.Path.{ap, ◌∙◌}
use mathlib.Core.Bool.{false}
use mathlib.Core.List.{foldl}
use Rattle.glass.specs.Transfers.{identity_t}
use Rattle.numbers.proofs.Lin.{back}
use Rattle.waveform.specs.declared.Progress.{Progress}
use Rattle.waveform.specs.Phases.{phases_of}
use Rattle.waveform.specs.Walks.{cut_step, driving_of}
use Rattle.walk.proofs.transfer_cut.Goals as goal

pub returns : goal.returns
returns c =
    let s = c in
    let a = s.args in
    let z = back s.ranges.swing in
    ap (λ (w : Progress). w.transfer)
    (c.cut_groups-end.ensures
    ∙ (λ i. foldl (cut_step (driving_of a.waveform a.drive (z i) a.positive_drives_black) a.until)
    (record { transfer = (c.identity.ensures ∙ ap identity_t z) i; elapsed = 0; stopped = false })
    (phases_of a.waveform a.drive)))
