-- `charges::sum::charge_of` meets its contract: the charge of one group after the other, no sum of which leaves 64 bits.
use mathlib.Core.Path.{◌≡◌, ap, ◌∙◌}
use mathlib.Core.List.{List}
use Prim.Native.Nat.{ℕ, ◌+◌, ◌≤◌}
use native.Mathlib.Omega.{arith}
use lib.IntN.{◌+ℤ◌, nat_abs}
use mir.Syntax.{w64}
use mir.Val.{to_z}
use Rattle.numbers.proofs.Lin.{rd, got}
use Rattle.waveform.specs.declared.Drive.TheVariants.{Lut}
use Rattle.waveform.specs.declared.Phase.{Phase}
use Rattle.waveform.specs.Phases.{joined}
use Rattle.charges.specs.Charge.{drive_sum}
use Rattle.charges.proofs.Sums.{sum_none, sum_more}
use Rattle.charges.proofs.Bounds.{fits_as, read_back, groups_of, groups_within}
use Rattle.charges.proofs.sum.charge_of.Goals as goal

pub loop-group-init : goal.loop-group-init
loop-group-init c = sum_none _

pub group_charge-sum-requires : goal.group_charge-sum-requires
group_charge-sum-requires c =
    let s = c in record { drivable = record { listable = s.requires.bounded.listable; takes = omega (arith, s.requires.lut) }; bounded = s.requires.bounded.groups_bounded c.loop-group.group-index (omega arith) }

-- ---- after a turn
abbrev Turn : Type 0
Turn = goal.After-group_charge-sum

abbrev groups_in : Turn → ℕ → List Phase
groups_in c = groups_of c.args.waveform (Lut c.args.lut)

sum_is : (c : Turn) → to_z w64 c.loop-group.sum-bits +ℤ rd c.group_charge-sum.result ≡ drive_sum (joined (c.loop-group.group-index + 1) (groups_in c))
sum_is c =
    let l = c.loop-group in
    (λ i. l.invariant i +ℤ got c.group_charge-sum.type_inv c.group_charge-sum.ensures i) ∙ sum_more (groups_in c) l.group-index

small : (c : Turn) → nat_abs (drive_sum (joined (c.loop-group.group-index + 1) (groups_in c))) ≤ 9223372036854775807
small c = omega (arith, groups_within c.args.waveform (Lut c.args.lut) c.requires.bounded (c.loop-group.group-index + 1) (omega arith))

pub overflow_add-sum : goal.overflow_add-sum
overflow_add-sum c = fits_as (sum_is c) (small c)

pub loop-group-preserved : goal.loop-group-preserved
loop-group-preserved c = read_back (sum_is c) (small c)

pub returns : goal.returns
returns c =
    let l = c.loop-group in
    let s = c.args in
    let e : l.group-index ≡ 10 = omega arith in
    l.invariant ∙ ap (λ (n : ℕ). drive_sum (joined n (groups_of s.waveform (Lut s.lut)))) e
