-- `walk::cut_short` meets its contract. Assumes nothing.
use mathlib.Core.Path.{ap, ◌∙◌}
use Prim.Native.Nat.{ℕ}
use lib.Dec.{ltb}
use Rattle.waveform.specs.Walks.{pushed}
use Rattle.walk.proofs.cut_short.Goals as goal

pub returns : goal.returns
returns c =
    let s = c.args in
    let run = c.frames_within-run.ensures in
    λ i. record {
      transfer = (c.push-transfer.ensures ∙ ap (λ (n : ℕ). pushed s.driving s.phase n s.transfer) run) i;
      elapsed = s.end;
      stopped = ltb (run i) s.phase.frames;
    }
