-- The reports of the stages of 0x20. Assumes nothing.
use Rattle.std.specs.Prelude.{Option, Some, None}
use Prim.Native.Nat.{ℕ, ◌+◌, ◌%◌}
use mathlib.Core.Path.{◌≡◌, refl}
use mathlib.Core.Bool.{Bool, true, false, ◌&&◌, not}
use mathlib.Core.List.{List}
use native.Mathlib.Omega.{arith}
use lib.Dec.{eqb}
use lib.ListN.{length}
use Rattle.numbers.specs.Choice.{pick}
use Rattle.config.specs.declared.Ssd1677Config.{Ssd1677Config}
use Rattle.config.specs.declared.DisplayMode.{DisplayMode}
use Rattle.diagnostic.specs.declared.DiagnosticKind.{DiagnosticKind}
use Rattle.diagnostic.specs.declared.DiagnosticKind.TheVariants.{WithoutClock, NoWaveform, NoExternalSensor}
use Rattle.diagnostic.specs.declared.Stage.TheVariants.{AnalogOn, TemperatureLoad, LutLoad}
use Rattle.diagnostic.specs.Log.{entries}
use Rattle.otp.specs.Table.{entry_bytes}
use Rattle.stages.specs.declared.Control.{Control}
use Rattle.stages.specs.declared.Run.{Run}
use Rattle.stages.specs.Run.{Step, with_clock, with_analog, with_found, with_temperature, through, noted, waited}
use Rattle.stages.specs.Stages.{clock_on, analog_on, by_external, sensed, temperature_loaded, mode_of, entry_for, with_entry_for, lut_found, lut_loaded, loaded}
use Rattle.history.proofs.Stages.{plain_step}
use Rattle.history.proofs.Tells.{one, reported_one, adds_one, Bundle, Tells, tells_none, tells_more, tells_by, tells_pick, tells_then}

abbrev pub in_step : Bundle Step
in_step = record { plain = plain_step; journal = λ (s : Step). s.run.journal }

abbrev pub TellsStep : ℕ → (Step → Step) → Type 0
TellsStep = Tells in_step in_step

abbrev then_step : (m n : ℕ) (f g : Step → Step) → TellsStep m f → TellsStep n g → TellsStep (m + n) (λ s. g (f s))
then_step = tells_then in_step in_step in_step

abbrev pick_step : (m n : ℕ) (t : Step → Bool) (f g : Step → Step) → ((s : Step) → t s ≡ t (plain_step s)) → TellsStep m f → TellsStep n g
    → TellsStep (m + n) (λ s. pick (t s) (f s) (g s))
pick_step = tells_pick in_step in_step

none : TellsStep 0 (λ s. s)
none = tells_none in_step in_step (λ s. s) (λ s. refl) (λ s. refl)

pub tells_noted : (time : ℕ) (kind : Step → DiagnosticKind) → TellsStep 1 (λ s. noted time (kind s) s)
unfolding noted
tells_noted time kind =
    record {
      blind = λ s. refl;
      makes = λ _. one;
      is = λ (s : Step). reported_one (entries s.run.journal s.log) time (kind s);
      adds = λ _. adds_one;
    }

tells_clock : (wanted : Bool) (ns : ℕ) → TellsStep 0 (through (clock_on wanted ns))
unfolding clock_on waited
tells_clock wanted ns =
    tells_by in_step in_step 0 (λ (s : Step). wanted && not s.run.clock)
    (λ (b : Bool) (s : Step). through (λ (r : Run). pick b (waited ns (with_clock true r)) r) s) (λ s. refl) by
  where
    by : (b : Bool) → TellsStep 0 (through (λ (r : Run). pick b (waited ns (with_clock true r)) r))
    by true = tells_none in_step in_step (through (λ (r : Run). waited ns (with_clock true r))) (λ s. refl) (λ s. refl)
    by false = none

tells_analog : (time : ℕ) (wanted : Bool) (ns : ℕ) → TellsStep 1 (analog_on time wanted ns)
unfolding analog_on waited
tells_analog time wanted ns =
    let on = through (λ (r : Run). waited ns (with_analog true r)) in
    pick_step 1 0 (λ s. wanted && not s.run.analog) (λ s. pick s.run.clock (on s) (noted time (WithoutClock AnalogOn) s)) (λ s. s) (λ s. refl)
    (pick_step 0 1 (λ s. s.run.clock) on (noted time (WithoutClock AnalogOn)) (λ s. refl) (tells_none in_step in_step on (λ s. refl) (λ s. refl))
    (tells_noted time (λ _. WithoutClock AnalogOn)))
    none

tells_waited : (ns : ℕ) → TellsStep 0 (through (waited ns))
unfolding waited
tells_waited ns = tells_none in_step in_step (through (waited ns)) (λ s. refl) (λ s. refl)

tells_external : (time ns : ℕ) (external : Option ℕ) → TellsStep 1 (by_external time ns external)
unfolding waited
tells_external time ns (Some register) =
    let read = through (λ (r : Run). waited ns (with_temperature (register % 4096) r)) in
    tells_more in_step in_step 0 1 read (omega arith) (tells_none in_step in_step read (λ s. refl) (λ s. refl))
tells_external time ns None =
    then_step 1 0 (noted time NoExternalSensor) (through (waited ns)) (tells_noted time (λ _. NoExternalSensor)) (tells_waited ns)

tells_sensed : (time sensor : ℕ) (config : Ssd1677Config) (external : Option ℕ) → TellsStep 1 (sensed time sensor config external)
unfolding sensed waited
tells_sensed time sensor config external =
    let inside = through (λ (r : Run). waited config.timing.temperature_internal (with_temperature (config.ambient % 4096) r)) in
    pick_step 0 1 (λ _. eqb sensor 0x80) inside (by_external time config.timing.temperature_external external) (λ s. refl)
    (tells_none in_step in_step inside (λ s. refl) (λ s. refl))
    (tells_external time config.timing.temperature_external external)

tells_temperature : (time : ℕ) (wanted : Bool) (sensor : ℕ) (config : Ssd1677Config) → TellsStep 2 (temperature_loaded time wanted sensor config)
unfolding temperature_loaded
tells_temperature time wanted sensor config =
    pick_step 2 0 (λ _. wanted)
    (λ s. pick s.run.clock (sensed time sensor config config.external_sensor s) (noted time (WithoutClock TemperatureLoad) s))
    (λ s. s)
    (λ s. refl)
    (pick_step 1 1 (λ s. s.run.clock) (sensed time sensor config config.external_sensor) (noted time (WithoutClock TemperatureLoad)) (λ s. refl)
    (tells_sensed time sensor config config.external_sensor)
    (tells_noted time (λ _. WithoutClock TemperatureLoad)))
    none

tells_found : (time : ℕ) (mode : DisplayMode) (otp : List ℕ) → TellsStep 1 (lut_found time mode otp)
unfolding lut_found
tells_found time mode otp =
    let loads : Step → Step = λ (s : Step). through (with_entry_for mode otp s.run.temperature) s in
    pick_step 0 1 (λ s. eqb (length (entry_for mode otp s.run.temperature)) entry_bytes) loads
    (λ s. noted time (NoWaveform mode s.run.temperature) (through (with_found false) s))
    (λ s. refl)
    (tells_none in_step in_step loads (λ s. refl) (λ s. refl))
    (then_step 0 1 (through (with_found false)) (λ s. noted time (NoWaveform mode s.run.temperature) s)
    (tells_none in_step in_step (through (with_found false)) (λ s. refl) (λ s. refl))
    (tells_noted time (λ s. NoWaveform mode s.run.temperature)))

tells_lut : (time : ℕ) (wanted : Bool) (mode : DisplayMode) (otp : List ℕ) (ns : ℕ) → TellsStep 2 (lut_loaded time wanted mode otp ns)
unfolding lut_loaded
tells_lut time wanted mode otp ns =
    pick_step 2 0 (λ _. wanted)
    (λ s. pick s.run.clock (through (waited ns) (lut_found time mode otp s)) (noted time (WithoutClock LutLoad) s))
    (λ s. s)
    (λ s. refl)
    (pick_step 1 1 (λ s. s.run.clock) (λ s. through (waited ns) (lut_found time mode otp s)) (noted time (WithoutClock LutLoad)) (λ s. refl)
    (then_step 1 0 (lut_found time mode otp) (through (waited ns)) (tells_found time mode otp) (tells_waited ns))
    (tells_noted time (λ _. WithoutClock LutLoad)))
    none

pub tells_loaded : (time : ℕ) (control : Control) (sensor : ℕ) (config : Ssd1677Config) (otp : List ℕ) → TellsStep 5 (loaded time control sensor config otp)
unfolding loaded
tells_loaded time control sensor config otp =
    let c = through (clock_on control.clock_on config.timing.clock_on) in
    let a = analog_on time control.analog_on config.timing.analog_on in
    let t = temperature_loaded time control.load_temperature sensor config in
    let l = lut_loaded time control.load_lut (mode_of control.mode_two) otp config.timing.lut_load in
    then_step 3 2 (λ s. t (a (c s))) l
    (then_step 1 2 (λ s. a (c s)) t
    (then_step 0 1 c a (tells_clock control.clock_on config.timing.clock_on) (tells_analog time control.analog_on config.timing.analog_on))
    (tells_temperature time control.load_temperature sensor config))
    (tells_lut time control.load_lut (mode_of control.mode_two) otp config.timing.lut_load)
