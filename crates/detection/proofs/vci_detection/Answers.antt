-- `detection::vci_detection` meets its contract.
use Rattle.acts.proofs.Cases.{is_sensed}
use Rattle.detection.proofs.vci_detection.Goals as goal

pub returns : goal.returns
returns c = is_sensed c.args.byte _ _ _ _ c.vci_listed-listed.ensures c.check-noted.ensures c.detect_vci.ensures
