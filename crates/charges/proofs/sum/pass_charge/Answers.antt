-- `charges::sum::pass_charge` meets its contract: the drive of one phase after the other, no sum of which leaves 64 bits.
use mathlib.Core.Path.{◌≡◌, ap, ◌∙◌}
use mathlib.Core.List.{List}
use Prim.Native.Nat.{ℕ, ◌+◌, ◌≤◌}
use native.Mathlib.Omega.{arith}
use lib.IntN.{◌+ℤ◌, nat_abs}
use mir.Syntax.{w64}
use mir.Val.{to_z}
use Rattle.numbers.proofs.Lin.{rd, got}
use Rattle.waveform.specs.declared.Phase.{Phase}
use Rattle.waveform.specs.Phases.{joined}
use Rattle.charges.specs.Charge.{drive_sum}
use Rattle.charges.proofs.Sums.{sum_none, sum_more}
use Rattle.charges.proofs.Bounds.{fits_as, read_back, phases_within}
use Rattle.charges.proofs.sum.pass_charge.Invariants.{phases_in}
use Rattle.charges.proofs.sum.pass_charge.Goals as goal

pub loop-phase-init : goal.loop-phase-init
loop-phase-init c = sum_none _

-- ---- after a turn
abbrev Turn : Type 0
Turn = goal.After-drive_at-sum

abbrev sum_of : Turn → ℕ → List Phase
sum_of c = phases_in c.args.driving c.args.group

sum_is : (c : Turn) → to_z w64 c.loop-phase.sum-bits +ℤ rd c.drive_at-sum.result ≡ drive_sum (joined (c.loop-phase.phase + 1) (sum_of c))
sum_is c =
    let l = c.loop-phase in
    (λ i. l.invariant i +ℤ got c.drive_at-sum.type_inv c.drive_at-sum.ensures i) ∙ sum_more (sum_of c) l.phase

small : (c : Turn) → nat_abs (drive_sum (joined (c.loop-phase.phase + 1) (sum_of c))) ≤ 9223372036854775807
small c =
    let d = c.args.driving in
    omega (arith, phases_within d.levels d.drive c.args.group c.requires.drivable.listable c.requires.bounded (c.loop-phase.phase + 1))

pub overflow_add-sum : goal.overflow_add-sum
overflow_add-sum c = fits_as (sum_is c) (small c)

pub loop-phase-preserved : goal.loop-phase-preserved
loop-phase-preserved c = read_back (sum_is c) (small c)

pub returns : goal.returns
returns c =
    let l = c.loop-phase in
    let s = c.args in
    let e : l.phase ≡ 4 = omega arith in
    l.invariant ∙ ap (λ (n : ℕ). drive_sum (joined n (phases_in s.driving s.group))) e
