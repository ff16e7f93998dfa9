-- The stages of 0x20: the display, the chosen LUTs and all else that the core keeps do not look at the glass, the journal or the log, and the
-- display and the LUTs not at the bus either. Assumes nothing.
use Rattle.std.specs.Prelude.{Option, Some, None}
use Prim.Native.Nat.{ℕ, ◌%◌}
use mathlib.Core.Path.{◌≡◌, refl}
use mathlib.Core.Bool.{Bool, true, false, ◌&&◌, not}
use mathlib.Core.List.{List, []}
use lib.Dec.{eqb}
use lib.ListN.{length}
use Rattle.numbers.specs.Choice.{pick}
use Rattle.config.specs.declared.Ssd1677Config.{Ssd1677Config}
use Rattle.config.specs.declared.DisplayMode.{DisplayMode}
use Rattle.diagnostic.specs.declared.DiagnosticKind.{DiagnosticKind}
use Rattle.diagnostic.specs.declared.DiagnosticKind.TheVariants.{WithoutClock, NoWaveform, NoExternalSensor}
use Rattle.diagnostic.specs.declared.Stage.TheVariants.{AnalogOn, TemperatureLoad, LutLoad}
use Rattle.device.specs.declared.Current.TheVariants.{Ignoring}
use Rattle.device.specs.declared.Power.TheVariants.{InReset}
use Rattle.device.specs.declared.Ssd1677.{Ssd1677}
use Rattle.device.specs.Parts.{with_bus}
use Rattle.otp.specs.Table.{entry_bytes}
use Rattle.stages.specs.declared.Control.{Control}
use Rattle.stages.specs.declared.Run.{Run}
use Rattle.stages.specs.Run.{Step, step, with_clock, with_analog, with_found, with_temperature, run_with_journal, through, noted, waited}
use Rattle.stages.specs.Stages.{clock_on, analog_on, by_external, sensed, temperature_loaded, mode_of, entry_for, with_entry_for, lut_found, lut_loaded, loaded}
use Rattle.activation.specs.Display.{Displayed, displayed}
use Rattle.activation.specs.Activation.{WithLuts, with_luts}
use Rattle.history.proofs.Blind.{plain, Blind, blind_then, blind_pick}

-- ---- what counts of a run, of a display's start and of the stages
abbrev pub plain_run : Run → Run
plain_run r = run_with_journal (record { count = 0; dropped = 0; reserved_reported = false }) r

abbrev pub plain_step : Step → Step
plain_step s = step (plain_run s.run) []

abbrev pub plain_displayed : Displayed → Displayed
plain_displayed t = displayed (plain_run t.run) t.display t.luts []

abbrev pub plain_luts : WithLuts → WithLuts
plain_luts s = with_luts (plain s.device) s.luts []

-- what the display's start looks at
abbrev pub unbused : Ssd1677 → Ssd1677
unbused d = with_bus (plain d) (record { power = InReset; current = Ignoring; busy_until = None })

-- ---- one stage after the other
abbrev BlindStep : (Step → Step) → Type 0
BlindStep = Blind plain_step plain_step

abbrev then_step : (f g : Step → Step) → BlindStep f → BlindStep g → BlindStep (λ s. g (f s))
then_step = blind_then plain_step plain_step plain_step

abbrev pick_step : (t : Step → Bool) (f g : Step → Step) → ((s : Step) → t s ≡ t (plain_step s)) → BlindStep f → BlindStep g
    → BlindStep (λ s. pick (t s) (f s) (g s))
pick_step = blind_pick plain_step plain_step

blind_noted : (time : ℕ) (kind : Step → DiagnosticKind) → BlindStep (λ s. noted time (kind s) s)
unfolding noted
blind_noted time kind s = refl

blind_clock : (wanted : Bool) (ns : ℕ) → BlindStep (through (clock_on wanted ns))
unfolding clock_on waited
blind_clock wanted ns s = by (wanted && not s.run.clock)
  where
    by : (b : Bool)
        → plain_step (through (λ (r : Run). pick b (waited ns (with_clock true r)) r) s)
        ≡ plain_step (through (λ (r : Run). pick b (waited ns (with_clock true r)) r) (plain_step s))
    by true = refl
    by false = refl

blind_analog : (time : ℕ) (wanted : Bool) (ns : ℕ) → BlindStep (analog_on time wanted ns)
unfolding analog_on waited
blind_analog time wanted ns =
    pick_step (λ s. wanted && not s.run.analog)
    (λ s. pick s.run.clock (through (λ (r : Run). waited ns (with_analog true r)) s) (noted time (WithoutClock AnalogOn) s))
    (λ s. s)
    (λ s. refl)
    (pick_step (λ s. s.run.clock) (through (λ (r : Run). waited ns (with_analog true r))) (noted time (WithoutClock AnalogOn)) (λ s. refl) (λ s. refl)
    (blind_noted time (λ _. WithoutClock AnalogOn)))
    (λ s. refl)

blind_waited : (ns : ℕ) → BlindStep (through (waited ns))
unfolding waited
blind_waited ns s = refl

blind_external : (time ns : ℕ) (external : Option ℕ) → BlindStep (by_external time ns external)
unfolding waited
blind_external time ns (Some register) s = refl
blind_external time ns None s =
    then_step (noted time NoExternalSensor) (through (waited ns)) (blind_noted time (λ _. NoExternalSensor)) (blind_waited ns) s

blind_sensed : (time sensor : ℕ) (config : Ssd1677Config) (external : Option ℕ) → BlindStep (sensed time sensor config external)
unfolding sensed waited
blind_sensed time sensor config external =
    pick_step (λ _. eqb sensor 0x80)
    (through (λ (r : Run). waited config.timing.temperature_internal (with_temperature (config.ambient % 4096) r)))
    (by_external time config.timing.temperature_external external)
    (λ s. refl)
    (λ s. refl)
    (blind_external time config.timing.temperature_external external)

blind_temperature : (time : ℕ) (wanted : Bool) (sensor : ℕ) (config : Ssd1677Config) → BlindStep (temperature_loaded time wanted sensor config)
unfolding temperature_loaded
blind_temperature time wanted sensor config =
    pick_step (λ _. wanted)
    (λ s. pick s.run.clock (sensed time sensor config config.external_sensor s) (noted time (WithoutClock TemperatureLoad) s))
    (λ s. s)
    (λ s. refl)
    (pick_step (λ s. s.run.clock) (sensed time sensor config config.external_sensor) (noted time (WithoutClock TemperatureLoad)) (λ s. refl)
    (blind_sensed time sensor config config.external_sensor)
    (blind_noted time (λ _. WithoutClock TemperatureLoad)))
    (λ s. refl)

blind_found : (time : ℕ) (mode : DisplayMode) (otp : List ℕ) → BlindStep (lut_found time mode otp)
unfolding lut_found
blind_found time mode otp =
    pick_step (λ s. eqb (length (entry_for mode otp s.run.temperature)) entry_bytes)
    (λ s. through (with_entry_for mode otp s.run.temperature) s)
    (λ s. noted time (NoWaveform mode s.run.temperature) (through (with_found false) s))
    (λ s. refl)
    (λ s. refl)
    (then_step (through (with_found false)) (λ s. noted time (NoWaveform mode s.run.temperature) s) (λ s. refl)
    (blind_noted time (λ s. NoWaveform mode s.run.temperature)))

blind_lut : (time : ℕ) (wanted : Bool) (mode : DisplayMode) (otp : List ℕ) (ns : ℕ) → BlindStep (lut_loaded time wanted mode otp ns)
unfolding lut_loaded
blind_lut time wanted mode otp ns =
    pick_step (λ _. wanted)
    (λ s. pick s.run.clock (through (waited ns) (lut_found time mode otp s)) (noted time (WithoutClock LutLoad) s))
    (λ s. s)
    (λ s. refl)
    (pick_step (λ s. s.run.clock) (λ s. through (waited ns) (lut_found time mode otp s)) (noted time (WithoutClock LutLoad)) (λ s. refl)
    (then_step (lut_found time mode otp) (through (waited ns)) (blind_found time mode otp) (blind_waited ns))
    (blind_noted time (λ _. WithoutClock LutLoad)))
    (λ s. refl)

pub blind_loaded : (time : ℕ) (control : Control) (sensor : ℕ) (config : Ssd1677Config) (otp : List ℕ) → BlindStep (loaded time control sensor config otp)
unfolding loaded
blind_loaded time control sensor config otp =
    let c = through (clock_on control.clock_on config.timing.clock_on) in
    let a = analog_on time control.analog_on config.timing.analog_on in
    let t = temperature_loaded time control.load_temperature sensor config in
    let l = lut_loaded time control.load_lut (mode_of control.mode_two) otp config.timing.lut_load in
    then_step (λ s. t (a (c s))) l
    (then_step (λ s. a (c s)) t (then_step c a (blind_clock control.clock_on config.timing.clock_on) (blind_analog time control.analog_on config.timing.analog_on))
    (blind_temperature time control.load_temperature sensor config))
    (blind_lut time control.load_lut (mode_of control.mode_two) otp config.timing.lut_load)
