-- The stages of an activation up to its display: a load that finds an entry leaves its setting in the LUT register and its number in the
-- record, and nothing else touches either. Assumes nothing.
use Rattle.std.specs.Prelude.{Option, Some, None}
use Prim.Native.Nat.{ℕ, ◌+◌, ◌*◌, ◌%◌, ◌<◌}
use mathlib.Core.Path.{◌≡◌, refl, ◌∙◌}
use mathlib.Core.Bool.{Bool, true, false, ◌&&◌, ◌||◌, not, true≢false, false≢true}
use mathlib.Core.List.{List}
use mathlib.Core.Logic.{◌⊎◌, inl, inr, ⊎_elim}
use native.Mathlib.Omega.{arith}
use lib.Dec.{eqb}
use lib.ListN.{length, drop, length-take, length-drop}
use lib.Seq.{get_or-take, get_or-drop}
use borrow.Author.Tests.{eq-eqb}
use Rattle.numbers.specs.Choice.{pick}
use Rattle.config.specs.declared.Ssd1677Config.{Ssd1677Config}
use Rattle.config.specs.declared.DisplayMode.{DisplayMode}
use Rattle.diagnostic.specs.declared.DiagnosticKind.TheVariants.{WithoutClock, NoWaveform}
use Rattle.diagnostic.specs.declared.Stage.TheVariants.{AnalogOn, TemperatureLoad, LutLoad}
use Rattle.otp.specs.Table.{entry_bytes, entry_count}
use Rattle.otp.specs.Waveform.{found_entry, part_of}
use Rattle.otp.proofs.Found.{found_is}
use Rattle.stages.specs.declared.Control.{Control}
use Rattle.stages.specs.declared.Run.{Run}
use Rattle.stages.specs.Run.{Step, through, with_clock, with_analog, with_found, with_temperature, noted, waited}
use Rattle.stages.specs.Stages.{clock_on, analog_on, by_external, sensed, temperature_loaded, mode_of, setting_in, entry_for, with_entry_for, lut_found, lut_loaded, loaded}
use Rattle.stages_laws.proofs.Kept.{either}
use Rattle.record_laws.specs.Recorded.{IsEntry, loads, finds}

module _ (otp : List ℕ) (entry : ℕ) (l : entry < entry_count otp) where
  entry_whole : length (part_of otp (Some entry)) ≡ entry_bytes
  entry_whole = simp (length-take, length-drop) (omega arith)

  -- an entry's setting has its 112 bytes
  pub is_entry : IsEntry otp (setting_in (part_of otp (Some entry))) entry
  is_entry =
      record {
        within = l;
        bytes = λ i b _.
            get_or-take 112 (drop 6 (part_of otp (Some entry))) i 0 (omega arith)
            ∙ get_or-drop 6 (part_of otp (Some entry)) i 0
            ∙ get_or-take entry_bytes (drop (entry_bytes * entry) otp) (6 + i) 0 (omega arith)
            ∙ get_or-drop (entry_bytes * entry) otp (6 + i) 0;
      }

-- ---- before the load: what holds of the clock, the LUT register and the record, the stages keep
module _ (P : Bool → List ℕ → ℕ → Type 0) where
  -- of a step: its clock, LUT register and record
  abbrev Before : Step → Type 0
  Before s = P s.run.clock s.run.lut s.run.waveform

  clock_on_before : (wanted : Bool) (ns : ℕ) (s : Step) → P (s.run.clock || wanted) s.run.lut s.run.waveform
      → Before (through (clock_on wanted ns) s)
  unfolding clock_on waited
  clock_on_before wanted ns s h = by wanted s.run.clock refl h
    where
      by : (asks runs : Bool) → s.run.clock ≡ runs → P (runs || asks) s.run.lut s.run.waveform
          → Before (through (λ (r : Run). pick (asks && not runs) (waited ns (with_clock true r)) r) s)
      by true true e h = rw e h
      by true false e h = h
      by false true e h = rw e h
      by false false e h = rw e h

  module _ (time : ℕ) where
    analog_on_before : (wanted : Bool) (ns : ℕ) (s : Step) → Before s → Before (analog_on time wanted ns s)
    unfolding analog_on waited noted
    analog_on_before wanted ns s h =
        let on = through (λ (r : Run). waited ns (with_analog true r)) s in
        let off = noted time (WithoutClock AnalogOn) s in
        either Before (wanted && not s.run.analog) (pick s.run.clock on off) s (either Before s.run.clock on off h h) h

    external_before : (ns : ℕ) (external : Option ℕ) (s : Step) → Before s → Before (by_external time ns external s)
    unfolding waited noted
    external_before ns (Some register) s h = h
    external_before ns None s h = h

    sensed_before : (sensor : ℕ) (config : Ssd1677Config) (external : Option ℕ) (s : Step) → Before s
        → Before (sensed time sensor config external s)
    unfolding sensed waited
    sensed_before sensor config external s h =
        either Before (eqb sensor 0x80)
        (through (λ (r : Run). waited config.timing.temperature_internal (with_temperature (config.ambient % 4096) r)) s)
        (by_external time config.timing.temperature_external external s)
        h
        (external_before config.timing.temperature_external external s h)

    temperature_before : (wanted : Bool) (sensor : ℕ) (config : Ssd1677Config) (s : Step) → Before s
        → Before (temperature_loaded time wanted sensor config s)
    unfolding temperature_loaded noted
    temperature_before wanted sensor config s h =
        let on = sensed time sensor config config.external_sensor s in
        let off = noted time (WithoutClock TemperatureLoad) s in
        either Before wanted (pick s.run.clock on off) s
        (either Before s.run.clock on off (sensed_before sensor config config.external_sensor s h) h)
        h

-- ---- the load
module _ (time : ℕ) (mode : DisplayMode) (otp : List ℕ) (s : Step) where
  -- the entry found is the LUT register and the record
  pub found_loaded : (entry : ℕ) → found_entry otp mode s.run.temperature ≡ Some entry
      → ((lut_found time mode otp s).run.lut ≡ setting_in (part_of otp (Some entry))) × ((lut_found time mode otp s).run.waveform ≡ entry)
  unfolding lut_found
  found_loaded entry e =
      let whole = entry_whole otp entry (found_is otp mode s.run.temperature entry e).within in
      rw (e, eq-eqb (length (part_of otp (Some entry))) entry_bytes whole) (refl, refl)

  -- where none is found both stay as they were
  pub none_loaded : found_entry otp mode s.run.temperature ≡ None
      → ((lut_found time mode otp s).run.lut ≡ s.run.lut) × ((lut_found time mode otp s).run.waveform ≡ s.run.waveform)
  unfolding lut_found noted
  none_loaded e = rw e (refl, refl)

  -- the temperature register is still the one that was asked
  asked_found : (lut_found time mode otp s).run.temperature ≡ s.run.temperature
  unfolding lut_found noted
  asked_found =
      either (λ (t : Step). t.run.temperature ≡ s.run.temperature)
      (eqb (length (entry_for mode otp s.run.temperature)) entry_bytes)
      (through (with_entry_for mode otp s.run.temperature) s)
      (noted time (NoWaveform mode s.run.temperature) (through (with_found false) s))
      refl
      refl

  module _ (wanted : Bool) (ns : ℕ) where
    -- the stage by its two tests
    abbrev byTests : Bool → Bool → Step
    byTests asks runs = pick asks (pick runs (through (waited ns) (lut_found time mode otp s)) (noted time (WithoutClock LutLoad) s)) s

    found_stage : (entry : ℕ) → wanted && s.run.clock ≡ true → found_entry otp mode (lut_loaded time wanted mode otp ns s).run.temperature ≡ Some entry
        → ((lut_loaded time wanted mode otp ns s).run.lut ≡ setting_in (part_of otp (Some entry))) × ((lut_loaded time wanted mode otp ns s).run.waveform ≡ entry)
    unfolding lut_loaded waited
    found_stage entry = by wanted s.run.clock
      where
        by : (asks runs : Bool) → asks && runs ≡ true → found_entry otp mode (byTests asks runs).run.temperature ≡ Some entry
            → ((byTests asks runs).run.lut ≡ setting_in (part_of otp (Some entry))) × ((byTests asks runs).run.waveform ≡ entry)
        by true true h e = found_loaded entry (rw asked_found at e)
        by true false h e = absurd (false≢true h)
        by false runs h e = absurd (false≢true h)

    none_stage : (wanted && s.run.clock ≡ false) ⊎ (found_entry otp mode (lut_loaded time wanted mode otp ns s).run.temperature ≡ None)
        → ((lut_loaded time wanted mode otp ns s).run.lut ≡ s.run.lut) × ((lut_loaded time wanted mode otp ns s).run.waveform ≡ s.run.waveform)
    unfolding lut_loaded waited noted
    none_stage = by wanted s.run.clock
      where
        by : (asks runs : Bool) → (asks && runs ≡ false) ⊎ (found_entry otp mode (byTests asks runs).run.temperature ≡ None)
            → ((byTests asks runs).run.lut ≡ s.run.lut) × ((byTests asks runs).run.waveform ≡ s.run.waveform)
        by true true (inl h) = absurd (true≢false h)
        by true true (inr e) = none_loaded (rw asked_found at e)
        by true false _ = (refl, refl)
        by false runs _ = (refl, refl)

-- ---- the four in their order
module _ (time : ℕ) (control : Control) (sensor : ℕ) (config : Ssd1677Config) (otp : List ℕ) (s : Step) where
  -- the three before the load
  abbrev ready : Step
  ready =
      temperature_loaded time control.load_temperature sensor config
      (analog_on time control.analog_on config.timing.analog_on
      (through (clock_on control.clock_on config.timing.clock_on) s))

  ready_before : (P : Bool → List ℕ → ℕ → Type 0) → P (s.run.clock || control.clock_on) s.run.lut s.run.waveform → Before P ready
  ready_before P h =
      let a = through (clock_on control.clock_on config.timing.clock_on) s in
      let b = analog_on time control.analog_on config.timing.analog_on a in
      temperature_before P time control.load_temperature sensor config b
      (analog_on_before P time control.analog_on config.timing.analog_on a
      (clock_on_before P control.clock_on config.timing.clock_on s h))

  -- the clock as the load meets it
  ready_clock : ready.run.clock ≡ s.run.clock || control.clock_on
  ready_clock = ready_before (λ clock lut waveform. clock ≡ s.run.clock || control.clock_on) refl

  -- and both registers
  ready_kept : (ready.run.lut ≡ s.run.lut) × (ready.run.waveform ≡ s.run.waveform)
  ready_kept = ready_before (λ clock lut waveform. (lut ≡ s.run.lut) × (waveform ≡ s.run.waveform)) (refl, refl)

  pub found_before : (entry : ℕ) → loads control s.run.clock ≡ true
      → finds otp control (loaded time control sensor config otp s).run.temperature ≡ Some entry
      → ((loaded time control sensor config otp s).run.lut ≡ setting_in (part_of otp (Some entry))) × ((loaded time control sensor config otp s).run.waveform ≡ entry)
  unfolding loaded
  found_before entry h =
      found_stage time (mode_of control.mode_two) otp ready control.load_lut config.timing.lut_load entry (rw ready_clock h)

  pub none_before : (loads control s.run.clock ≡ false) ⊎ (finds otp control (loaded time control sensor config otp s).run.temperature ≡ None)
      → ((loaded time control sensor config otp s).run.lut ≡ s.run.lut) × ((loaded time control sensor config otp s).run.waveform ≡ s.run.waveform)
  unfolding loaded
  none_before h =
      let left =
      none_stage time (mode_of control.mode_two) otp ready control.load_lut config.timing.lut_load
      (⊎_elim (λ (l : loads control s.run.clock ≡ false). inl (rw ready_clock l)) inr h) in
      (left.0 ∙ ready_kept.0, left.1 ∙ ready_kept.1)
