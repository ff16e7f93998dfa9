-- `otp::reaches_down` meets its contract.
use Rattle.otp.proofs.Bytes.{reaches_is}
use Rattle.otp.proofs.reaches_down.Goals as goal

pub returns : goal.returns
returns c =
    let l = c in
    let b = l in
    let a = b in
    let s = a in
    reaches_is s.args.lower s.args.register _ _ _ _ a.is_coldest.ensures b.is_coldest-2.ensures l.sixteenths_of.type_inv l.sixteenths_of.ensures
    c.sixteenths_of-2.type_inv c.sixteenths_of-2.ensures
