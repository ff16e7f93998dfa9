-- `detection::detect_hv` meets its contract.
use Rattle.acts.proofs.Cases.{readies, readies_not}
use Rattle.detection.proofs.detect_hv.Goals as goal

pub returns-then-powered : goal.returns-then-powered
returns-then-powered c = readies c.args.byte _ _ c.powered.ensures _ _ _ c.if-powered.true c.cool_downs-steps.ensures c.set_hv_not_ready-ready.ensures c.busy_for.ensures

pub returns : goal.returns
returns c = readies_not c.args.byte _ _ c.powered.ensures _ _ c.if-powered.false c.report_unpowered-noted.ensures c.set_hv_not_ready.ensures
