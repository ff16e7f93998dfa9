-- The record of the waveform loaded: what it says of the LUT register, and when a load sets it (SCOPE, Grey counts; #108).
use Rattle.std.specs.Prelude.{ℕ, ◌<◌, ◌≤◌, ◌≡◌, Bool, ◌&&◌, ◌||◌, List, get_or, Option}
use Rattle.otp.specs.Table.{entry_count, setting_at}
use Rattle.otp.specs.Waveform.{found_entry}
use Rattle.stages.specs.declared.Control.{Control}
use Rattle.stages.specs.Stages.{mode_of}

-- the bytes of the LUT register that the voltage commands write: VGH by 0x03, VSH1, VSH2 and VSL by 0x04, VCOM by 0x2C
abbrev pub ByVoltages : ℕ → Type 0
ByVoltages i = (105 ≤ i) × (i ≤ 109)

-- the table has an entry of that number, and all 112 bytes of the LUT register but these are those of its setting
pub record IsEntry (otp lut : List ℕ) (entry : ℕ) : Type 0 where
  pub within : entry < entry_count otp
  pub bytes : (i : ℕ) → i < 112 → (ByVoltages i → ⊥) → get_or lut i 0 ≡ setting_at otp entry i

-- unless the record is 255, the LUT register has that entry
abbrev pub Recorded : List ℕ → List ℕ → ℕ → Type 0
Recorded otp lut waveform = (waveform ≡ 255 → ⊥) → IsEntry otp lut waveform

-- 0x22 asks for a LUT load, and the clock runs or is started before it
abbrev pub loads : Control → Bool → Bool
loads control clock = control.load_lut && (clock || control.clock_on)

-- the entry that such a load finds with that temperature register
abbrev pub finds : List ℕ → Control → ℕ → Option ℕ
finds otp control register = found_entry otp (mode_of control.mode_two) register
