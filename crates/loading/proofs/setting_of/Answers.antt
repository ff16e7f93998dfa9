-- `loading::setting_of` meets its contract: 112 bytes copied over as many zeros.
use lib.ListN.{take, drop, length-drop, length-take, replicate}
use native.Mathlib.Omega.{arith}
use Rattle.diagnostic.proofs.Over.{over}
use Rattle.loading.proofs.setting_of.Goals as goal

pub returns : goal.returns
returns c = over (take 112 (drop 6 c.args.entry.now)) (replicate 112 0) _ (simp (length-take, length-drop) (omega arith)) c.copy.ensures.front
