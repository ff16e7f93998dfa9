-- `detection::hv_ready_detection` meets its contract.
use Rattle.acts.proofs.Cases.{is_ready}
use Rattle.detection.proofs.hv_ready_detection.Goals as goal

pub returns : goal.returns
returns c = is_ready c.args.byte _ _ _ _ c.hv_listed-listed.ensures c.check-noted.ensures c.detect_hv.ensures
