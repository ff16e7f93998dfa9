-- The stages of an activation up to its display, in the order of 0x22's bits (mod.rs, `activate`).
use Rattle.std.specs.Prelude.{ℕ, ◌%◌, Bool, true, false, ◌&&◌, not, List, eqb, length, take, drop, Option, Some, None}
use Rattle.numbers.specs.Choice.{pick}
use Rattle.config.specs.declared.Ssd1677Config.{Ssd1677Config}
use Rattle.config.specs.declared.DisplayMode.{DisplayMode}
use Rattle.config.specs.declared.DisplayMode.TheVariants.{One, Two}
use Rattle.diagnostic.specs.declared.DiagnosticKind.TheVariants.{WithoutClock, NoWaveform, NoExternalSensor}
use Rattle.diagnostic.specs.declared.Stage.TheVariants.{AnalogOn, TemperatureLoad, LutLoad}
use Rattle.otp.specs.Table.{entry_bytes}
use Rattle.otp.specs.Waveform.{found_entry, part_of, place_of}
use Rattle.stages.specs.declared.Control.{Control}
use Rattle.stages.specs.declared.Run.{Run}
use Rattle.stages.specs.Run.{Step, through, with_clock, with_analog, with_found, with_temperature, with_lut, with_waveform, noted, waited}

-- bit 7: a clock that is off starts
unfoldable pub clock_on : Bool → ℕ → Run → Run
clock_on wanted ns r = pick (wanted && not r.clock) (waited ns (with_clock true r)) r

-- bit 6: analog supplies that are off start, if the clock is on; else 33
unfoldable pub analog_on : ℕ → Bool → ℕ → Step → Step
analog_on time wanted ns s =
    pick (wanted && not s.run.analog)
    (pick s.run.clock
    (through (λ (r : Run). waited ns (with_analog true r)) s)
    (noted time (WithoutClock AnalogOn) s))
    s

-- the external sensor, where there is one, else 36; the load takes its time in both cases
abbrev pub by_external : ℕ → ℕ → Option ℕ → Step → Step
by_external time ns (Some register) s = through (λ (r : Run). waited ns (with_temperature (register % 4096) r)) s
by_external time ns None s = through (waited ns) (noted time NoExternalSensor s)

-- the temperature load: the internal sensor where 0x18 is 80h, else the external one (mod.rs, `load_temperature`)
unfoldable pub sensed : ℕ → ℕ → Ssd1677Config → Option ℕ → Step → Step
sensed time sensor config external s =
    pick (eqb sensor 0x80)
    (through (λ (r : Run). waited config.timing.temperature_internal (with_temperature (config.ambient % 4096) r)) s)
    (by_external time config.timing.temperature_external external s)

-- bit 5: the temperature register is loaded, if the clock is on; else 33
unfoldable pub temperature_loaded : ℕ → Bool → ℕ → Ssd1677Config → Step → Step
temperature_loaded time wanted sensor config s =
    pick wanted
    (pick s.run.clock
    (sensed time sensor config config.external_sensor s)
    (noted time (WithoutClock TemperatureLoad) s))
    s

-- bit 3: the display mode
abbrev pub mode_of : Bool → DisplayMode
mode_of true = Two
mode_of false = One

-- the 112 setting bytes of an entry
abbrev pub setting_in : List ℕ → List ℕ
setting_in entry = take 112 (drop 6 entry)

-- the bytes of the entry that is taken for the mode and the temperature register, none where no entry covers them
abbrev pub entry_for : DisplayMode → List ℕ → ℕ → List ℕ
entry_for mode otp register = part_of otp (found_entry otp mode register)

-- the number of that entry, 255 for none
abbrev pub place_for : DisplayMode → List ℕ → ℕ → ℕ
place_for mode otp register = place_of (found_entry otp mode register)

-- the entry's setting becomes the LUT register, and its number the record of the waveform loaded (#108)
abbrev pub with_entry_for : DisplayMode → List ℕ → ℕ → Run → Run
with_entry_for mode otp register r = with_waveform (place_for mode otp register) (with_lut (setting_in (entry_for mode otp register)) r)

-- so it is where there is one; without one 35, nothing will be displayed (datasheet §6.9), and the LUT register and its record stay
unfoldable pub lut_found : ℕ → DisplayMode → List ℕ → Step → Step
lut_found time mode otp s =
    pick (eqb (length (entry_for mode otp s.run.temperature)) entry_bytes)
    (through (with_entry_for mode otp s.run.temperature) s)
    (noted time (NoWaveform mode s.run.temperature) (through (with_found false) s))

-- bit 4: the LUT is loaded, if the clock is on, and the load takes its time whatever it finds; else 33
unfoldable pub lut_loaded : ℕ → Bool → DisplayMode → List ℕ → ℕ → Step → Step
lut_loaded time wanted mode otp ns s =
    pick wanted
    (pick s.run.clock
    (through (waited ns) (lut_found time mode otp s))
    (noted time (WithoutClock LutLoad) s))
    s

-- the four in their order: clock, analog supplies, temperature, LUT
unfoldable pub loaded : ℕ → Control → ℕ → Ssd1677Config → List ℕ → Step → Step
loaded time control sensor config otp s =
    lut_loaded time control.load_lut (mode_of control.mode_two) otp config.timing.lut_load
    (temperature_loaded time control.load_temperature sensor config
    (analog_on time control.analog_on config.timing.analog_on
    (through (clock_on control.clock_on config.timing.clock_on) s)))
