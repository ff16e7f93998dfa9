-- `frequency::cycles_to_nanos` meets its contract.
use Prim.Native.Nat.{◌<◌}
use native.Mathlib.Nat.{mod-lt}
use native.Mathlib.Omega.{arith}
use Rattle.frequency.proofs.Apart.{none_met, down_met}
use Rattle.frequency.proofs.cycles_to_nanos.Goals.{Else-frequency-eq0}
use Rattle.frequency.proofs.cycles_to_nanos.Goals as goal

some : (c : Else-frequency-eq0) → 0 < c.args.frequency
some c = let h = c.if-frequency-eq0.false in omega arith

pub returns-then-frequency-eq0 : goal.returns-then-frequency-eq0
returns-then-frequency-eq0 c = none_met _ _ c.if-frequency-eq0.true

pub overflow_mul-rest : goal.overflow_mul-rest
overflow_mul-rest c = record { fits = omega (arith, mod-lt c.args.cycles (some c.before)) }

pub returns : goal.returns
returns c =
    let s = c.before.before.before in
    down_met s.args.frequency s.args.cycles (some c.before.before) _ _
    c.saturating_mul-whole.ensures
    c.saturating_add.ensures
