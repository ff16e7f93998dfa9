-- Counters and registers of ten bits stay so: at most 1,023.
-- Assumes nothing.
use Rattle.std.specs.Prelude.{Option, Some, None}
use mathlib.Core.Path.{◌≡◌, refl}
use mathlib.Core.Bool.{Bool, true, false}
use Prim.Native.Nat.{ℕ, ◌+◌, ◌*◌, ◌/◌, ◌%◌, ◌≤◌}
use native.Mathlib.Omega.{arith}
use lib.Dec.{eqb}
use Rattle.numbers.specs.Choice.{pick, bit_of}
use Rattle.counter.specs.declared.Window.{Window}
use Rattle.counter.specs.declared.Counter.{Counter}
use Rattle.counter.specs.declared.Entry.{Entry}
use Rattle.counter.specs.Counter.{byte_step, row_step, x_first, y_first, advanced_of}
use Rattle.counter.specs.Registers.{ten_bits}
use Rattle.counter.proofs.Steps.{step_below}

pub record TenBitCounter (c : Counter) : Type 0 where
  pub x_ten : c.x ≤ 1023
  pub y_ten : c.y ≤ 1023

pub record TenBitWindow (w : Window) : Type 0 where
  pub x_start_ten : w.x_start ≤ 1023
  pub x_end_ten : w.x_end ≤ 1023
  pub y_start_ten : w.y_start ≤ 1023
  pub y_end_ten : w.y_end ≤ 1023

module _ (c : Counter) (w : Window) (e : Entry) (p : TenBitCounter c) (q : TenBitWindow w) where
  byte_ten : (n : ℕ) → Some n ≡ byte_step c w e → n * 8 ≤ 1023
  byte_ten n h = let m = step_below (c.x / 8) (w.x_end / 8) 127 n (omega arith) (omega arith) (bit_of e.0 0) h in omega arith

  row_ten : (n : ℕ) → Some n ≡ row_step c w e → n ≤ 1023
  row_ten n h = step_below c.y w.y_end 1023 n (omega arith) (omega arith) (bit_of e.0 1) h

  pub advanced_ten : TenBitCounter (advanced_of c w e)
  unfolding advanced_of
  advanced_ten = by (bit_of e.0 2) (byte_step c w e) (row_step c w e) refl refl
    where
      by : (first : Bool) (inX inY : Option ℕ) → inX ≡ byte_step c w e → inY ≡ row_step c w e → TenBitCounter (pick first (y_first c w inX inY) (x_first c w inX inY))
      by true inX (Some n) h k = record { x_ten = omega arith; y_ten = row_ten n k }
      by true (Some m) None h k = record { x_ten = byte_ten m h; y_ten = omega arith }
      by true None None h k = record { x_ten = omega arith; y_ten = omega arith }
      by false (Some m) inY h k = record { x_ten = byte_ten m h; y_ten = omega arith }
      by false None (Some n) h k = record { x_ten = omega arith; y_ten = row_ten n k }
      by false None None h k = record { x_ten = omega arith; y_ten = omega arith }

-- whatever the register held
pub ten_bits_ten : (value index byte : ℕ) → byte ≤ 255 → ten_bits value index byte ≤ 1023
unfolding ten_bits
ten_bits_ten value index byte h = by (eqb index 0)
  where
    by : (b : Bool) → pick b (value / 256 % 4 * 256 + byte) (byte % 4 * 256 + value % 256) ≤ 1023
    by true = omega arith
    by false = omega arith
