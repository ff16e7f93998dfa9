-- `traffic::turn` meets its contract: the RAM data are fed as they would be a byte a call, and the event after them is the next.
use mathlib.Core.Path.{◌∙◌}
use native.Mathlib.Omega.{arith}
use Rattle.counts.specs.Counts.{picture}
use Rattle.traffic.specs.Traffic.{EndsAlike}
use Rattle.traffic.proofs.turn.Goals as goal

pub returns : goal.returns
unfolding EndsAlike
returns c =
    let s = c in
    let k = c.stream-run.ensures in
    let o = c.one.ensures in record { from_lt_made = λ h. let m = o.made_value h in (omega (arith, m, k.from_le_made.0, s.requires), omega (arith, m)); log_after = o.log_after ∙ k.ends_alike s.args.gates.now s.args.otp.now s.args.luts.now (picture s.args.pixels.now s.args.counts.now) s.args.log.now s.args.states.now c.planes_log_lent-lengths.ensures }
