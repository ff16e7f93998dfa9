-- The bounds that 13 sets on registers handed in (SCOPE, Refusals): a reset meets them, and a stored byte keeps them. Assumes nothing.
use mathlib.Core.Bool.{Bool, true, false}
use mathlib.Core.List.{List}
use Prim.Native.Nat.{ℕ, ◌+◌, ◌*◌, ◌/◌, ◌%◌, ◌≤◌}
use native.Mathlib.Omega.{arith}
use lib.Dec.{eqb, ltb}
use Rattle.numbers.specs.Choice.{pick}
use Rattle.counter.specs.Registers.{ten_bits}
use Rattle.counter.specs.declared.Entry.{Entry}
use Rattle.ram_laws.proofs.Tens.{TenBitWindow, TenBitCounter, ten_bits_ten}
use Rattle.device.specs.declared.Registers.{Registers}
use Rattle.registers.specs.Reset.{reset_of}
use Rattle.registers.specs.Store.{temperature_after, stored}

pub record Bounded (r : Registers) : Type 0 where
  pub mux_ten : r.mux ≤ 1023
  pub entry_three : r.entry.0 ≤ 7
  pub window_ten : TenBitWindow r.window
  pub counter_ten : TenBitCounter r.counter
  pub temperature_twelve : r.temperature ≤ 4095

pub reset_bounded : (user : List ℕ) → Bounded (reset_of user)
unfolding reset_of
reset_bounded user =
    record {
      mux_ten = omega arith;
      entry_three = omega arith;
      window_ten = record { x_start_ten = omega arith; x_end_ten = omega arith; y_start_ten = omega arith; y_end_ten = omega arith };
      counter_ten = record { x_ten = omega arith; y_ten = omega arith };
      temperature_twelve = omega arith;
    }

either : (t : Bool) (a b n : ℕ) → a ≤ n → b ≤ n → pick t a b ≤ n
either true a b n ha hb = ha
either false a b n ha hb = hb

entry_either : (t : Bool) (a b : Entry) → a.0 ≤ 7 → b.0 ≤ 7 → (pick t a b).0 ≤ 7
entry_either true a b ha hb = ha
entry_either false a b ha hb = hb

module _ (r : Registers) (command index byte : ℕ) (small : byte ≤ 255) (p : Bounded r) where
  ten : (writer value i : ℕ) → value ≤ 1023 → pick (eqb command writer) (ten_bits value i byte) value ≤ 1023
  ten writer value i h = either (eqb command writer) (ten_bits value i byte) value 1023 (ten_bits_ten value i byte small) h

  first : (writer value i : ℕ) → value ≤ 1023 → pick (eqb command writer) (pick (ltb index 2) (ten_bits value i byte) value) value ≤ 1023
  first writer value i h =
      either (eqb command writer) _ value 1023 (either (ltb index 2) (ten_bits value i byte) value 1023 (ten_bits_ten value i byte small) h) h

  last : (writer value i : ℕ) → value ≤ 1023 → pick (eqb command writer) (pick (ltb index 2) value (ten_bits value i byte)) value ≤ 1023
  last writer value i h =
      either (eqb command writer) _ value 1023 (either (ltb index 2) value (ten_bits value i byte) 1023 h (ten_bits_ten value i byte small)) h

  twelve : temperature_after r.temperature index byte ≤ 4095
  twelve = either (eqb index 0) (byte * 16 + r.temperature % 16) (r.temperature / 16 % 256 * 16 + byte / 16) 4095 (omega arith) (omega arith)

  pub stored_bounded : Bounded (stored r command index byte)
  unfolding stored
  stored_bounded =
      record {
        mux_ten = first 0x01 r.mux index p.mux_ten;
        entry_three = entry_either (eqb command 0x11) (record { 0 = byte % 8 }) r.entry (omega arith) p.entry_three;
        window_ten =
            record {
              x_start_ten = first 0x44 r.window.x_start (index % 2) p.window_ten.x_start_ten;
              x_end_ten = last 0x44 r.window.x_end (index % 2) p.window_ten.x_end_ten;
              y_start_ten = first 0x45 r.window.y_start (index % 2) p.window_ten.y_start_ten;
              y_end_ten = last 0x45 r.window.y_end (index % 2) p.window_ten.y_end_ten;
            };
        counter_ten =
            record {
              x_ten = ten 0x4E r.counter.x index p.counter_ten.x_ten;
              y_ten = ten 0x4F r.counter.y index p.counter_ten.y_ten;
            };
        temperature_twelve = either (eqb command 0x1A) (temperature_after r.temperature index byte) r.temperature 4095 twelve p.temperature_twelve;
      }
