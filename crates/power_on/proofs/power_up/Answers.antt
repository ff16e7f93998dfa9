-- `power_on::power_up` meets its contract.
use Rattle.counts.specs.Counts.{picture}
use Rattle.power_on.proofs.Cases.{powers_up}
use Rattle.power_on.specs.Start.{buffers}
use Rattle.power_on.proofs.power_up.Goals as goal

pub returns : goal.returns
returns c =
    let s = c.args in
    powers_up s.config (buffers s.states.now s.luts.now (picture s.pixels.now s.counts.now) s.black_white.now s.red.now s.gates.now s.log.now) _ _ _ _ c.new-panel.ensures c.clear.ensures c.gate_of_row.ensures c.requires.1 c.requires.2 c.chip_with.ensures
