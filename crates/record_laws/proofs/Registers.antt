-- A reset and a parameter byte leave a record that tells what the LUT register holds. Assumes nothing.
use Prim.Native.Nat.{ℕ, ◌+◌, min}
use mathlib.Core.Path.{refl, ◌∙◌}
use mathlib.Core.Bool.{Bool, true, false}
use mathlib.Core.List.{List}
use native.Mathlib.Omega.{arith}
use lib.Dec.{eqb}
use lib.ListN.{set}
use lib.Seq.{get_or-set_other}
use Rattle.numbers.specs.Choice.{pick}
use Rattle.device.specs.declared.Registers.{Registers}
use Rattle.registers.specs.Reset.{reset_of}
use Rattle.registers.specs.Store.{bytes_put, stored}
use Rattle.record_laws.specs.Recorded.{ByVoltages, Recorded}

-- of registers
abbrev pub RecordedIn : List ℕ → Registers → Type 0
RecordedIn otp r = Recorded otp r.lut r.waveform

none : (otp lut : List ℕ) → Recorded otp lut 255
none otp lut n = absurd (n refl)

pub reset_recorded : (otp user : List ℕ) → RecordedIn otp (reset_of user)
unfolding reset_of
reset_recorded otp user = none otp _

module _ (otp lut : List ℕ) (waveform byte : ℕ) (h : Recorded otp lut waveform) where
  -- one of the voltages
  voltage_recorded : (at : ℕ) → ByVoltages at → Recorded otp (set lut at byte) waveform
  voltage_recorded at l n =
      record {
        within = (h n).within;
        bytes = λ i b other. get_or-set_other lut at i byte 0 (λ e. other (rw e l)) ∙ (h n).bytes i b other;
      }

  written : (index : ℕ) (a b c d : Bool)
      → Recorded otp
      (pick a (set lut 105 byte) (pick b (set lut (106 + min index 2) byte) (pick c (set lut 109 byte) (pick d (bytes_put 112 lut index byte) lut))))
      (pick d 255 waveform)
  written index a b c true = none otp _
  written index true b c false = voltage_recorded 105 (omega arith, omega arith)
  written index false true c false = voltage_recorded (106 + min index 2) (omega arith, omega arith)
  written index false false true false = voltage_recorded 109 (omega arith, omega arith)
  written index false false false false = h

pub stored_recorded : (otp : List ℕ) (r : Registers) (command index byte : ℕ) → RecordedIn otp r → RecordedIn otp (stored r command index byte)
unfolding stored
stored_recorded otp r command index byte h =
    written otp r.lut r.waveform byte h index (eqb command 0x03) (eqb command 0x04) (eqb command 0x2C) (eqb command 0x32)
