-- What a transfer is and does, over ℤ (glass.rs, `Transfer`).
use Rattle.std.specs.Prelude.{ℤ, pos, ◌+ℤ◌}
use Rattle.numbers.specs.Saturation.{clamp_z, sat_z}
use Rattle.glass.specs.declared.Transfer.{Transfer}

-- a drive of delta, stopping at 0 and the swing
abbrev pub shift_t : ℤ → ℤ → Transfer
shift_t delta swing = record { add = delta; lo = pos 0; hi = swing }

-- no drive
abbrev pub identity_t : ℤ → Transfer
identity_t swing = shift_t (pos 0) swing

-- t, then n: the sums saturate in 64 bits, and t's bounds are moved by n and held by it (SCOPE, Glass)
abbrev pub then_t : Transfer → Transfer → Transfer
then_t t n =
    record {
      add = sat_z (t.add +ℤ n.add);
      lo = clamp_z (sat_z (t.lo +ℤ n.add)) n.lo n.hi;
      hi = clamp_z (sat_z (t.hi +ℤ n.add)) n.lo n.hi;
    }

-- x + add, saturated in 64 bits, held between lo and hi
abbrev pub apply_t : Transfer → ℤ → ℤ
apply_t t x = clamp_z (sat_z (x +ℤ t.add)) t.lo t.hi
