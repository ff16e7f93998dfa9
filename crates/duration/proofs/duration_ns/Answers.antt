-- `duration::duration_ns` meets its contract. Assumes nothing.
use mathlib.Core.Path.{◌≡◌, refl, sym, ap, ◌∙◌}
use native.Mathlib.Omega.{arith}
use native.Mathlib.Numerals.{add-one}
use Prim.Native.Nat.{ℕ, ◌+◌, min}
use lib.ListN.{get_or}
use Rattle.numbers.specs.Saturation.{largest}
use Rattle.waveform.specs.Phases.{no_group}
use Rattle.waveform.specs.Duration.{group_ns, groups_ns}
use Rattle.duration.proofs.duration_ns.Goals as goal

cap_sum : (a b m : ℕ) → min (min a m + min b m) m ≡ min (a + b) m
cap_sum a b m = omega arith

pub loop-group-init : goal.loop-group-init
unfolding groups_ns
loop-group-init c = refl

pub loop-group-preserved : goal.loop-group-preserved
unfolding groups_ns
loop-group-preserved c =
    let gs = c.args.waveform.groups in
    let k = c.loop-group.group-index in
    c.saturating_add-total.ensures
    ∙ (λ i. min (c.loop-group.invariant i + c.group_ns.ensures i) (largest 64))
    ∙ cap_sum (groups_ns gs k) (group_ns (get_or gs k no_group)) (largest 64)
    ∙ ap (λ (n : ℕ). min (groups_ns gs n) (largest 64)) (sym (add-one k))

pub returns : goal.returns
returns c =
    let e : c.loop-group.group-index ≡ 10 = omega arith in
    c.loop-group.invariant ∙ ap (λ (n : ℕ). min (groups_ns c.args.waveform.groups n) (largest 64)) e
