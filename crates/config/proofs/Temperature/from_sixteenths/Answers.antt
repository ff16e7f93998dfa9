-- `config::Temperature::from_sixteenths` meets its contract: the two tests are the definition's.
use lib.IntN.{pos, negsuc}
use Rattle.numbers.proofs.Lin.{whole, ranged, back, is_le, not_le}
use Rattle.config.proofs.Temperature.from_sixteenths.Goals as goal

pub returns-then-sixteenths-coldest : goal.returns-then-sixteenths-coldest
returns-then-sixteenths-coldest c =
    let s = c.before.before.before in
    let f = ranged s.ranges.sixteenths in
    rw (not_le (negsuc 2047) s.args.sixteenths (omega whole))

pub returns-then-warmest-sixteenths : goal.returns-then-warmest-sixteenths
returns-then-warmest-sixteenths c =
    let s = c.before.before.before.before.before.before in
    let f = ranged s.ranges.sixteenths in
    rw (is_le (negsuc 2047) s.args.sixteenths (omega whole), not_le s.args.sixteenths (pos 2047) (omega whole))

pub returns : goal.returns
returns c =
    let s = c.before.before.before.before.before.before in
    let f = ranged s.ranges.sixteenths in
    rw (is_le (negsuc 2047) s.args.sixteenths (omega whole), is_le s.args.sixteenths (pos 2047) (omega whole), back s.ranges.sixteenths)
