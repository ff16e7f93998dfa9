-- `detection::detect_vci` meets its contract.
use Rattle.acts.proofs.Cases.{senses, senses_not}
use Rattle.detection.proofs.detect_vci.Goals as goal

pub returns-then-powered : goal.returns-then-powered
returns-then-powered c = senses c.args.byte _ _ c.powered.ensures _ _ _ c.if-powered.true c.millivolts-least.ensures c.set_vci_low-found.ensures c.busy_for.ensures

pub returns : goal.returns
returns c = senses_not c.args.byte _ _ c.powered.ensures _ c.if-powered.false c.report_unpowered.ensures
