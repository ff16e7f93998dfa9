-- The bound's sum as the code has it: frames, repeats, change and period multiplied, each product stopping at 2^64 − 1. Assumes nothing.
use mathlib.Core.Path.{◌≡◌, sym, ap, ◌∙◌}
use mathlib.Core.Bool.{Bool, true, false}
use Prim.Native.Nat.{ℕ, zero, suc, ◌+◌, ◌*◌, min}
use native.Mathlib.Omega.{arith}
use native.Mathlib.Nat.{zero-mul, suc-mul, add-mul, mul_comm, mul_assoc}
use lib.ListN.{get_or}
use Rattle.numbers.specs.Choice.{pick}
use Rattle.numbers.specs.Saturation.{largest}
use Rattle.waveform.specs.declared.Group.{Group}
use Rattle.waveform_laws.proofs.Products.{cap_first}
use Rattle.voltage_shift.specs.declared.DrivingVoltage.{DrivingVoltage}
use Rattle.voltage_shift.specs.Shift.{uses_one, changing_frames, sum, phase_shift, group_shift}

-- as many times the same
times : (n m : ℕ) → sum n (λ _. m) ≡ n * m
unfolding sum
times zero m = sym (zero-mul m)
times (suc n) m = ap (λ (k : ℕ). k + m) (times n m) ∙ sym (suc-mul n m)

frames_first : (t : Bool) (c f p : ℕ) → pick t (c * f * p) 0 ≡ pick t f 0 * (c * p)
frames_first true c f p = ap (λ (k : ℕ). k * p) (mul_comm c f) ∙ mul_assoc f c p
frames_first false c f p = sym (zero-mul (c * p))

module _ (change : ℕ) (v : DrivingVoltage) (g : Group) (lut : ℕ) where
  -- the frames that count in one repeat
  abbrev frames : ℕ
  frames = changing_frames v g lut 0 + changing_frames v g lut 1 + changing_frames v g lut 2 + changing_frames v g lut 3

  one_repeat : sum 4 (phase_shift change v g lut) ≡ frames * (change * g.frame_ns)
  unfolding sum phase_shift
  one_repeat =
      let f : ℕ → ℕ = changing_frames v g lut in
      let q = change * g.frame_ns in
      let e : (k : ℕ) → pick (uses_one v g lut k) (change * get_or g.frames k 0 * g.frame_ns) 0 ≡ f k * q = λ k. frames_first (uses_one v g lut k) change (get_or g.frames k 0) g.frame_ns in
      let e0 = e 0 in
      let e1 = e 1 in
      let e2 = e 2 in
      let e3 = e 3 in
      let a = add-mul (f 0 + f 1 + f 2) (f 3) q in
      let b = add-mul (f 0 + f 1) (f 2) q in
      let c = add-mul (f 0) (f 1) q in
      omega arith

  group_is : group_shift change v g lut ≡ frames * g.repeats * change * g.frame_ns
  unfolding group_shift
  group_is =
      times g.repeats (sum 4 (phase_shift change v g lut))
      ∙ ap (λ (n : ℕ). g.repeats * n) one_repeat
      ∙ sym (mul_assoc g.repeats frames (change * g.frame_ns))
      ∙ ap (λ (n : ℕ). n * (change * g.frame_ns)) (mul_comm g.repeats frames)
      ∙ sym (mul_assoc (frames * g.repeats) change g.frame_ns)

  pub group_capped : {a b c d runs drive r : ℕ} → a ≡ changing_frames v g lut 0 → b ≡ changing_frames v g lut 1 → c ≡ changing_frames v g lut 2 → d ≡ changing_frames v g lut 3
      → runs ≡ min ((a + b + c + d) * g.repeats) (largest 64) → drive ≡ min (runs * change) (largest 64) → r ≡ min (drive * g.frame_ns) (largest 64)
      → r ≡ min (group_shift change v g lut) (largest 64)
  group_capped ea eb ec ed er ee e =
      e
      ∙ ap (λ (n : ℕ). min (n * g.frame_ns) (largest 64)) ee
      ∙ ap (λ (n : ℕ). min (min (n * change) (largest 64) * g.frame_ns) (largest 64)) (er ∙ (λ i. min ((ea i + eb i + ec i + ed i) * g.repeats) (largest 64)))
      ∙ ap (λ (n : ℕ). min (n * g.frame_ns) (largest 64)) (cap_first (frames * g.repeats) change (largest 64))
      ∙ cap_first (frames * g.repeats * change) g.frame_ns (largest 64)
      ∙ ap (λ (n : ℕ). min n (largest 64)) (sym group_is)

-- a sum in 64 bits
pub sum_capped : (a b m : ℕ) → min (min a m + min b m) m ≡ min (a + b) m
sum_capped a b m = omega arith
