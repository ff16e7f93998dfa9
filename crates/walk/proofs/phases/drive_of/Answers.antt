-- `walk::phases::drive_of` meets its contract. Assumes nothing.
use mathlib.Core.Path.{◌≡◌, sym, ap, ◌∙◌}
use mathlib.Core.Bool.{Bool}
use Prim.Native.Nat.{◌<◌, ◌^◌}
use lib.IntN.{ℤ, pos, neg_ℤ, ◌*ℤ◌}
use lib.Signed.{mag}
use Rattle.numbers.specs.Saturation.{sat_z}
use Rattle.numbers.proofs.Lin.{rd, back, got}
use Rattle.waveform.specs.Walks.{saturated_drive, negated_if}
use Rattle.walk.proofs.phases.drive_of.Goals.{After-saturating_mul_i64-amount}
use Rattle.walk.proofs.phases.drive_of.Goals as goal

-- a saturated product of two numbers that were read back
times : {r x y a b : ℤ} → mag r < 2 ^ 63 → r ≡ sat_z (x *ℤ y) → x ≡ a → y ≡ b → rd r ≡ sat_z (a *ℤ b)
times ok e p q = got ok (e ∙ (λ i. sat_z (p i *ℤ q i)))

abbrev product : After-saturating_mul_i64-amount → ℤ
product c =
    let s = c.args in
    sat_z (sat_z (s.millivolts *ℤ sat_z (pos s.run)) *ℤ sat_z (pos s.frame_ns))

-- the amount before its sign
amount : (c : After-saturating_mul_i64-amount) → rd c.saturating_mul_i64-amount.result ≡ product c
amount c =
    let period = c.to_i64-period in
    let frames = c.to_i64-frames in
    let m = c.saturating_mul_i64 in
    times c.saturating_mul_i64-amount.type_inv c.saturating_mul_i64-amount.ensures
    (times m.type_inv m.ensures (back c.ranges.millivolts) (got frames.type_inv frames.ensures))
    (got period.type_inv period.ensures)

pub returns-then-positive_drives_black : goal.returns-then-positive_drives_black
unfolding saturated_drive
returns-then-positive_drives_black c = let b = c in
    got c.saturating_neg_i64.type_inv
    (c.saturating_neg_i64.ensures ∙ ap (λ (z : ℤ). sat_z (neg_ℤ z)) (amount c.before.before) ∙ ap (λ (t : Bool). negated_if t (product c.before.before)) (sym c.if-positive_drives_black.true))

pub returns-else-positive_drives_black : goal.returns-else-positive_drives_black
unfolding saturated_drive
returns-else-positive_drives_black c = let b = c in
    amount c.before ∙ ap (λ (t : Bool). negated_if t (product c.before)) (sym c.if-positive_drives_black.false)
