use mathlib.Core.Path.{◌≡◌}
use Rattle.otp.specs.Table.{entry_count}
use Rattle.otp.specs.Search.{last_of}
use Rattle.otp.specs.Waveform.{covers}
use Rattle.otp.proofs.last_covering.Given as goal

abbrev pub invariant-loop-entry : goal.invariant-loop-entry
invariant-loop-entry l =
    last_of (covers l.otp l.mode l.register) (entry_count l.otp) ≡ last_of (covers l.otp l.mode l.register) l.entry
