-- What the bytes of a setting say of its groups. Assumes nothing.
use mathlib.Core.Path.{◌≡◌, ap}
use mathlib.Core.List.{List}
use Prim.Native.Nat.{ℕ, zero, suc, ◌+◌, ◌*◌, ◌/◌, ◌%◌, ◌<◌}
use native.Mathlib.Omega.{arith}
use lib.ListN.{get_or}
use Rattle.numbers.proofs.Painted.{get_d_tab}
use Rattle.waveform.specs.Phases.{no_group}
use Rattle.waveform.specs.Setting.{code_in, codes_of, group_codes_of, waveform_of}
use Rattle.combine.specs.Groups.{timed_group}

-- a LUT's code in a phase
pub code_at : (s : List ℕ) (k lut phase : ℕ) → lut < 5 → phase < 4 → code_in (get_or s (10 * lut + k) 0) phase ≡ get_or (codes_of s k) (4 * lut + phase) 0
unfolding codes_of
code_at s k lut phase h l =
    let q : lut ≡ (4 * lut + phase) / 4 = omega arith in
    let m : phase ≡ (4 * lut + phase) % 4 = omega arith in
    rw (get_d_tab 20 (λ n. code_in (get_or s (10 * (n / 4) + k) 0) (n % 4)) (4 * lut + phase) 0 (omega arith)) (λ i. code_in (get_or s (10 * q i + k) 0) (m i))

-- the frames of a phase
pub frames_at : (s : List ℕ) (k phase : ℕ) → phase < 4 → get_or s (50 + 5 * k + phase) 0 ≡ get_or (group_codes_of s k).frames phase 0
unfolding group_codes_of
frames_at s k zero l = ap (λ (n : ℕ). get_or s n 0) (omega arith)
frames_at s k (suc zero) l = ap (λ (n : ℕ). get_or s n 0) (omega arith)
frames_at s k (suc (suc zero)) l = ap (λ (n : ℕ). get_or s n 0) (omega arith)
frames_at s k (suc (suc (suc zero))) l = ap (λ (n : ℕ). get_or s n 0) (omega arith)
frames_at s k (suc (suc (suc (suc n)))) l = absurd (omega arith)

-- a group of the waveform
pub group_is : (s p : List ℕ) (k : ℕ) → k < 10 → timed_group s p k ≡ get_or (waveform_of s p).groups k no_group
unfolding waveform_of
group_is s p k l = rw (get_d_tab 10 (timed_group s p) k no_group l)
