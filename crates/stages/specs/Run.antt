-- What 0x22 asks for, and what the stages of an activation change (mod.rs, `activate`).
use Rattle.std.specs.Prelude.{ℕ, ◌+◌, min, Bool, List}
use Rattle.numbers.specs.Choice.{bit_of}
use Rattle.numbers.specs.Saturation.{largest}
use Rattle.diagnostic.specs.declared.DiagnosticKind.{DiagnosticKind}
use Rattle.diagnostic.specs.declared.Journal.{Journal}
use Rattle.diagnostic.specs.Log.{Entries, entries, reported}
use Rattle.stages.specs.declared.Control.{Control}
use Rattle.stages.specs.declared.Run.{Run}

-- the bits of 0x22 (mod.rs, `CLOCK_ON` to `CLOCK_OFF`)
abbrev pub control_of : ℕ → Control
control_of byte =
    record {
      clock_on = bit_of byte 7;
      analog_on = bit_of byte 6;
      load_temperature = bit_of byte 5;
      load_lut = bit_of byte 4;
      mode_two = bit_of byte 3;
      display = bit_of byte 2;
      analog_off = bit_of byte 1;
      clock_off = bit_of byte 0;
    }

-- a run and the log, which the stages change
pub record Step : Type 0 where
  pub run : Run
  pub log : List ℕ

-- the two as one
abbrev pub step : Run → List ℕ → Step
step r l = record { run = r; log = l }

-- the clock on or off
abbrev pub with_clock : Bool → Run → Run
with_clock new r = record { clock = new; analog = r.analog; ns = r.ns; waveform_found = r.waveform_found; temperature = r.temperature; lut = r.lut; journal = r.journal; waveform = r.waveform }

-- the analog supplies on or off
abbrev pub with_analog : Bool → Run → Run
with_analog new r = record { clock = r.clock; analog = new; ns = r.ns; waveform_found = r.waveform_found; temperature = r.temperature; lut = r.lut; journal = r.journal; waveform = r.waveform }

-- another time so far
abbrev pub with_ns : ℕ → Run → Run
with_ns new r = record { clock = r.clock; analog = r.analog; ns = new; waveform_found = r.waveform_found; temperature = r.temperature; lut = r.lut; journal = r.journal; waveform = r.waveform }

-- whether a waveform was found
abbrev pub with_found : Bool → Run → Run
with_found new r = record { clock = r.clock; analog = r.analog; ns = r.ns; waveform_found = new; temperature = r.temperature; lut = r.lut; journal = r.journal; waveform = r.waveform }

-- another temperature register
abbrev pub with_temperature : ℕ → Run → Run
with_temperature new r = record { clock = r.clock; analog = r.analog; ns = r.ns; waveform_found = r.waveform_found; temperature = new; lut = r.lut; journal = r.journal; waveform = r.waveform }

-- another LUT register
abbrev pub with_lut : List ℕ → Run → Run
with_lut new r = record { clock = r.clock; analog = r.analog; ns = r.ns; waveform_found = r.waveform_found; temperature = r.temperature; lut = new; journal = r.journal; waveform = r.waveform }

-- another journal
abbrev pub run_with_journal : Journal → Run → Run
run_with_journal new r = record { clock = r.clock; analog = r.analog; ns = r.ns; waveform_found = r.waveform_found; temperature = r.temperature; lut = r.lut; journal = new; waveform = r.waveform }

-- another record of the waveform loaded
abbrev pub with_waveform : ℕ → Run → Run
with_waveform new r = record { clock = r.clock; analog = r.analog; ns = r.ns; waveform_found = r.waveform_found; temperature = r.temperature; lut = r.lut; journal = r.journal; waveform = new }

-- a change of the run that leaves the log
abbrev pub through : (Run → Run) → Step → Step
through change s = step (change s.run) s.log

-- the journal and the log put back
abbrev pub step_with_entries : Step → Entries → Step
step_with_entries s e = step (run_with_journal e.journal s.run) e.log

-- one diagnostic is reported
unfoldable pub noted : ℕ → DiagnosticKind → Step → Step
noted time kind s = step_with_entries s (reported (entries s.run.journal s.log) time kind)

-- a stage's time is added; sums stop at 2^64 − 1 (SCOPE, Time)
unfoldable pub waited : ℕ → Run → Run
waited ns r = with_ns (min (r.ns + ns) (largest 64)) r
