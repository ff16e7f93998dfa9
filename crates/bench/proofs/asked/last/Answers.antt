-- `last` meets its contract: the loop has passed no period of 0.
use mathlib.Core.Path.{◌≡◌, sym}
use native.Mathlib.Omega.{arith}
use borrow.Author.Count.{below_more, below_none}
use borrow.Author.Tests.{eq-eqb, ne_eqb}
use Rattle.config.specs.Tests.{zero_period}
use Rattle.config.proofs.Lowest.{lowest_at, lowest_none}
use Rattle.bench.specs.Asked.{lasting}
use Rattle.bench.proofs.asked.last.Invariants.{is_zero}
use Rattle.bench.proofs.asked.last.Goals as goal

pub loop-code-init : goal.loop-code-init
loop-code-init c = (omega arith, below_none _)

pub offset_bounds-periods-code : goal.offset_bounds-periods-code
offset_bounds-periods-code c = omega arith

pub bounds-periods-code : goal.bounds-periods-code
bounds-periods-code c = omega arith

pub returns-then-periods-code-eq0 : goal.returns-then-periods-code-eq0
unfolding lasting
returns-then-periods-code-eq0 c =
    let periods = c.args.periods.now in
    let e = lowest_at (is_zero periods) 16 c.loop-code.code (omega arith) c.loop-code.invariant.1 (eq-eqb _ 0 c.if-periods-code-eq0.true) in
    sym (ne_eqb (zero_period periods) 16 (λ h. omega (arith, e)))

pub loop-code-preserved : goal.loop-code-preserved
loop-code-preserved c = (omega arith, below_more _ _ c.loop-code.invariant.1 (ne_eqb _ 0 c.if-periods-code-eq0.false))

pub returns : goal.returns
unfolding lasting
returns c =
    let periods = c.args.periods.now in
    let n : c.loop-code.code ≡ 16 = omega arith in
    sym (eq-eqb (zero_period periods) 16 (lowest_none (is_zero periods) 16 (rw n at c.loop-code.invariant.1)))
