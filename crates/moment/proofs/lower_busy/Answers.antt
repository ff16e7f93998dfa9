-- `moment::lower_busy` meets its contract.
use Rattle.moment.proofs.Cases.{falls, stays}
use Rattle.moment.proofs.lower_busy.Goals as goal

pub returns-then-has_come : goal.returns-then-has_come
returns-then-has_come c =
    let s = c in
    falls s.args.bus s.args.bus.busy_until s.args.moment _ c.has_come.ensures _ c.if-has_come.true c.set_until.ensures

pub returns : goal.returns
returns c =
    let s = c in
    stays s.args.bus s.args.bus.busy_until s.args.moment _ c.has_come.ensures c.if-has_come.false
