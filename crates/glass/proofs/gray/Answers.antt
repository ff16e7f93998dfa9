-- `glass::gray` meets its contract. Assumes nothing.
use mathlib.Core.Path.{sym, ap, ◌∙◌}
use Prim.Native.Nat.{ℕ, ◌<◌}
use native.Mathlib.Omega.{arith}
use lib.IntN.{ℤ, pos, nat_abs}
use lib.Signed.{le_z, pos-nat_abs}
use Rattle.glass.specs.Greys.{gray_z}
use Rattle.numbers.proofs.Lin.{whole, rd, ranged, back, unsigned, abs_pos, abs_back}
use Rattle.numbers.proofs.Quot.{gray_lt}
use Rattle.glass.proofs.Grey.{gray_low, gray_high, gray_mid}
use Rattle.glass.proofs.gray.Goals.{Else-swing-state}
use Rattle.glass.proofs.gray.Goals as goal

pub returns-then-state-le0 : goal.returns-then-state-le0
returns-then-state-le0 c = let s = c.before in gray_low _ _ s.requires (sym (ap (λ (z : ℤ). le_z z (pos 0)) (back s.ranges.state)) ∙ c.if-state-le0.true)

pub returns-then-swing-state : goal.returns-then-swing-state
returns-then-swing-state c = let s = c.before.before in gray_high _ _ s.requires (sym (λ i. le_z (back s.ranges.swing i) (back s.ranges.state i)) ∙ c.if-swing-state.true)

pub overflow_cast-state : goal.overflow_cast-state
overflow_cast-state c = let s = c.before.before in unsigned s.ranges.state (omega (whole, ranged s.ranges.state))

pub overflow_cast-swing : goal.overflow_cast-swing
overflow_cast-swing c = let s = c.before.before in unsigned s.ranges.swing (omega whole)

abbrev state : Else-swing-state → ℕ
state c = nat_abs (rd c.args.state)

abbrev swing : Else-swing-state → ℕ
swing c = nat_abs (rd c.args.swing)

within : (c : Else-swing-state) → (state c < swing c) × (swing c < 9223372036854775808)
within c =
    let s = c.before.before in
    let f = ranged s.ranges.state in
    let g = ranged s.ranges.swing in
    let p = abs_back s.ranges.state in
    let q = abs_back s.ranges.swing in
    let u = abs_pos s.args.state (omega whole) in
    let v = abs_pos s.args.swing (omega whole) in
    (omega whole, omega whole)

pub nearest-requires : goal.nearest-requires
nearest-requires c = within c

pub overflow_cast-result : goal.overflow_cast-result
overflow_cast-result c = record { fits = omega (arith, c.nearest.ensures, gray_lt _ _ (within c.before).0) }

pub returns : goal.returns
returns c =
    let s = c.before.before.before in
    c.nearest.ensures
    ∙ gray_mid (state c.before) (swing c.before) (within c.before).0
    ∙ (λ i. gray_z ((pos-nat_abs _ (overflow_cast-state c.before).0 ∙ back s.ranges.state) i) ((pos-nat_abs _ (overflow_cast-swing c.before).0 ∙ back s.ranges.swing) i))
