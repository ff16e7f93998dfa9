-- `activation::start_display` meets its contract.
use Rattle.activation.proofs.Cases.{begins}
use Rattle.activation.proofs.start_display.Goals as goal

pub returns : goal.returns
returns c = begins _ _ _ c.args.state _ _ _ _ _ _ _ _ _ c.scan_of-scan.ensures c.warn-warned.ensures c.duration_of-ns.ensures c.start.ensures c.display_of-display.ensures c.wait-next.ensures
