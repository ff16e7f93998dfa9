-- `loading::load_lut` meets its contract.
use Rattle.stages.proofs.Cases.{finds, finds_none}
use Rattle.loading.proofs.load_lut.Goals as goal

pub returns-then-entry-eq-ENTRY_BYTES : goal.returns-then-entry-eq-ENTRY_BYTES
returns-then-entry-eq-ENTRY_BYTES c =
    let found = c.find_waveform-entry.ensures in
    finds _ _ _ _ _ found.0 _ _ c.if-entry-eq-ENTRY_BYTES.true c.setting_of-lut.ensures found.1

pub returns : goal.returns
returns c =
    finds_none _ _ _ _ _ c.find_waveform-entry.ensures.0 _ c.if-entry-eq-ENTRY_BYTES.false c.note.ensures
