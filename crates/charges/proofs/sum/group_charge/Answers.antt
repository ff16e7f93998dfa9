-- `charges::sum::group_charge` meets its contract: the same phases, so many times.
use mathlib.Core.Path.{sym, ap, subst, ◌∙◌}
use Prim.Native.Nat.{◌≤◌}
use native.Mathlib.Omega.{arith}
use lib.IntN.{ℤ, pos, nat_abs, ◌*ℤ◌}
use Rattle.numbers.proofs.Lin.{got}
use Rattle.waveform.specs.Walks.{four_in}
use Rattle.charges.proofs.Sums.{sum_repeats}
use Rattle.charges.proofs.Bounds.{phases_within}
use Rattle.charges.proofs.sum.group_charge.Goals as goal

pub repeated-requires : goal.repeated-requires
repeated-requires c =
    let s = c in
    let d = s.args.driving in record { pass = subst (λ (z : ℤ). nat_abs z ≤ 3468000000000000) (sym (got c.pass_charge-pass.type_inv c.pass_charge-pass.ensures)) (phases_within d.levels d.drive s.args.group s.requires.drivable.listable s.requires.bounded 4); repeats = omega (arith, s.requires.bounded.repeats_within) }

pub returns : goal.returns
returns c =
    let pass = c in
    let s = pass in
    let g = s.args.group in
    got c.repeated.type_inv
    (c.repeated.ensures
    ∙ ap (λ (z : ℤ). z *ℤ pos g.repeats) (got pass.pass_charge-pass.type_inv pass.pass_charge-pass.ensures)
    ∙ sym (sum_repeats g.repeats (four_in s.args.driving g)))
