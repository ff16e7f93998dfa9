-- `walk::transfer` meets its contract. Assumes nothing.
use mathlib.Core.Path.{◌∙◌}
use Rattle.numbers.proofs.Lin.{back}
use Rattle.waveform.specs.Walks.{cut_of}
use Rattle.walk.proofs.Within.{cut_there}
use Rattle.walk.proofs.transfer.Goals as goal

pub returns : goal.returns
returns c =
    let a = c.args in
    c.transfer_cut.ensures
    ∙ (λ i. cut_of a.waveform a.drive (back c.ranges.swing i) a.positive_drives_black (c.unwrap_or-until.ensures i))
    ∙ cut_there a.waveform a.drive a.swing a.positive_drives_black a.until
