-- `leaf::waves::lasting` meets its contract: no period that the loop passed is 0.
use Rattle.std.proofs.Common.{◌≡◌, T, get_or, sym, subst, arith, below_none, below_more, eq-eqb, ne_eqb}
use borrow.Author.Tests.{eqb-false}
use Rattle.config.specs.Tests.{zero_period}
use Rattle.config.proofs.Lowest.{lowest_at, lowest_none}
use Rattle.leaf.proofs.waves.lasting.Invariants.{is_zero}
use Rattle.leaf.proofs.waves.lasting.Goals as goal

pub loop-i-init : goal.loop-i-init
loop-i-init c = below_none _

pub returns-then-periods-i-eq0 : goal.returns-then-periods-i-eq0
returns-then-periods-i-eq0 c =
    let periods = c.args.periods in
    let e = lowest_at (is_zero periods) 16 c.loop-i.i (omega arith) c.loop-i.invariant (eq-eqb _ 0 c.if-periods-i-eq0.true) in record { value = sym (ne_eqb (zero_period periods) 16 (λ h. omega (arith, e))); code_nonzero = λ e. absurd (subst T (sym e) tt) }

pub loop-i-preserved : goal.loop-i-preserved
loop-i-preserved c = below_more _ _ c.loop-i.invariant (ne_eqb _ 0 c.if-periods-i-eq0.false)

pub returns : goal.returns
returns c =
    let periods = c.args.periods in
    let n : c.loop-i.i ≡ 16 = omega arith in record { value = sym (eq-eqb (zero_period periods) 16 (lowest_none (is_zero periods) 16 (rw n at c.loop-i.invariant))); code_nonzero = λ e code h. omega (arith, eqb-false (get_or periods code 0) 0 (c.loop-i.invariant code (omega arith))) }
