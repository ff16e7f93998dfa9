-- `combine::repeated` meets its contract: `Halving` holds whenever the count is tested. Assumes nothing.
use mathlib.Core.Path.{sym, subst, ◌∙◌}
use Prim.Native.Nat.{ℕ}
use native.Mathlib.Omega.{arith}
use Rattle.combine.specs.Acts.{Repeated}
use Rattle.combine.proofs.Powers.{repeated_none, halving_of, halving_start, halving_odd, halving_even, halving_end}
use Rattle.combine.proofs.repeated.Goals as goal
use Rattle.combine.proofs.repeated.Goals.{then-left-eq1, else-left-eq1}

pub returns-then-times-eq0 : goal.returns-then-times-eq0
returns-then-times-eq0 c =
    let a = c.args in
    subst (λ (n : ℕ). Repeated a.from a.pass n a.from) (sym c.if-times-eq0.true) (repeated_none a.from a.pass)

pub loop-left-init : goal.loop-left-init
loop-left-init c = let a = c.args in halving_start a.from a.pass a.times (omega arith)

pub loop-left-smaller : goal.loop-left-smaller
loop-left-smaller c = omega arith

pub loop-left-preserved : goal.loop-left-preserved
loop-left-preserved c =
    let m = c in
    let more = c.loop-left-test.true in
    elim c.if-left-eq1.branch [
      | then-left-eq1 w ↦ halving_of (w.done-is ∙ w.then-done.ensures) c.then-power.ensures (halving_odd more w.if-left-eq1.true m.loop-left.invariant)
      | else-left-eq1 w ↦ halving_of w.done-is c.then-power.ensures (halving_even more w.if-left-eq1.false m.loop-left.invariant)
    ]

pub returns : goal.returns
returns c = halving_end (λ h. omega (arith, c.loop-left-test.false)) c.then.ensures c.loop-left.invariant
