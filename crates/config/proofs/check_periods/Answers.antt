-- `config::check_periods` meets its contract: the loop has passed no period of 0.
use mathlib.Core.Path.{◌≡◌, refl, sym, ap}
use mathlib.Core.List.{[]}
use native.Mathlib.Omega.{arith}
use borrow.Author.Count.{below_more, below_none}
use borrow.Author.Tests.{eq-eqb, ne_eqb, lt-ltb, le-ltb}
use Rattle.config.specs.Answer.{refused, refused_by, answer_of}
use Rattle.config.specs.Tests.{zero_period, periods_test}
use Rattle.config.proofs.Answers.{refuses, passes, none_left}
use Rattle.config.proofs.Lowest.{lowest_at, lowest_none}
use Rattle.config.proofs.check_periods.Invariants.{is_zero}
use Rattle.config.proofs.check_periods.Goals as goal

pub loop-code-init : goal.loop-code-init
loop-code-init c = (omega arith, below_none _)

pub offset_bounds-periods-code : goal.offset_bounds-periods-code
offset_bounds-periods-code c = omega arith

pub bounds-periods-code : goal.bounds-periods-code
bounds-periods-code c = omega arith

pub returns-then-periods-code-eq0 : goal.returns-then-periods-code-eq0
unfolding answer_of refused_by
returns-then-periods-code-eq0 c =
    let periods = c.args.periods in
    let e = lowest_at (is_zero periods) 16 c.loop-code.code (omega arith) c.loop-code.invariant.1 (eq-eqb _ 0 c.if-periods-code-eq0.true) in
    refuses (periods_test periods) [] _ (lt-ltb (zero_period periods) 16 (omega (arith, e))) (ap (refused 5) (sym e))

pub loop-code-preserved : goal.loop-code-preserved
loop-code-preserved c = (omega arith, below_more _ _ c.loop-code.invariant.1 (ne_eqb _ 0 c.if-periods-code-eq0.false))

pub returns : goal.returns
unfolding answer_of refused_by
returns c =
    let periods = c.args.periods in
    let n : c.loop-code.code ≡ 16 = omega arith in
    let e = lowest_none (is_zero periods) 16 (rw n at c.loop-code.invariant.1) in
    passes (periods_test periods) [] _ (le-ltb (zero_period periods) 16 (omega (arith, e))) (none_left _ refl)
