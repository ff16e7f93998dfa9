-- `until_of` meets its contract.
use mathlib.Core.Path.{sym, ap}
use mathlib.Core.Bool.{Bool}
use Rattle.bench.specs.Made.{until_of}
use Rattle.bench.proofs.made.until_of.Goals as goal

pub returns-then-cut : goal.returns-then-cut
returns-then-cut c = ap (λ (b : Bool). until_of b c.args.until) (sym c.if-cut.true)
