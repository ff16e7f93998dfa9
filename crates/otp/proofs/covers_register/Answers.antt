-- `otp::covers_register` meets its contract: the comparisons are of the sixteenths that the registers stand for.
use Rattle.otp.proofs.Bytes.{covers_is}
use Rattle.config.proofs.Modes.{mode_is}
use Rattle.otp.proofs.covers_register.Goals as goal

pub returns : goal.returns
returns c =
    covers_is c.args.entry.now c.args.mode c.args.register _ _ _ _ _ _ (mode_is c.args.mode) c.pair.ensures c.pair-2.ensures
    c.reaches_down-reached.ensures c.sixteenths_of-upper.type_inv c.sixteenths_of-upper.ensures c.sixteenths_of-temperature.type_inv c.sixteenths_of-temperature.ensures
