-- `pgm::header::digit_count` meets its contract.
use mathlib.Core.Path.{refl}
use native.Mathlib.Omega.{arith}
use borrow.Author.Tests.{le-leb, lt-leb}
use Rattle.numbers.proofs.Cases.{took, passed}
use Rattle.pgm.specs.Form.{digit_count}
use Rattle.pgm.proofs.header.digit_count.Goals as goal

pub returns-then-n-ge100 : goal.returns-then-n-ge100
unfolding digit_count
returns-then-n-ge100 c = record { count = took _ _ _ _ (le-leb 100 c.args.n (omega arith)) refl; few = (omega arith, omega arith) }

pub returns-then-n-ge10 : goal.returns-then-n-ge10
unfolding digit_count
returns-then-n-ge10 c =
    let n = c.args.n in record { count = passed _ _ _ _ (lt-leb 100 n (omega arith)) (took _ _ _ _ (le-leb 10 n (omega arith)) refl); few = (omega arith, omega arith) }

pub returns : goal.returns
unfolding digit_count
returns c =
    let n = c.args.n in record { count = passed _ _ _ _ (lt-leb 100 n (omega arith)) (passed _ _ _ _ (lt-leb 10 n (omega arith)) refl); few = (omega arith, omega arith) }
