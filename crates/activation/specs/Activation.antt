-- What 0x20 does (mod.rs, `activate`): the stages that 0x22 enables, in their order, and the present again.
use Rattle.std.specs.Prelude.{ℕ, Bool, true, false, ◌&&◌, List, ℤ, Option}
use Rattle.numbers.specs.Choice.{pick}
use Rattle.panel.specs.declared.Display.{Display}
use Rattle.device.specs.declared.Ssd1677.{Ssd1677}
use Rattle.device.specs.Parts.{with_activated, with_loaded}
use Rattle.world.specs.World.{WithGlass, with_glass, WithBuffers, with_buffers, Lent}
use Rattle.moment.specs.Moments.{busy_for}
use Rattle.clock.specs.Advance.{Ready, advanced}
use Rattle.stages.specs.declared.Control.{Control}
use Rattle.stages.specs.declared.Run.{Run}
use Rattle.stages.specs.Run.{control_of, Step, step, with_clock, with_analog, waited}
use Rattle.stages.specs.Stages.{loaded}
use Rattle.activation.specs.Display.{Startable, Displayed, displayShown}

-- bit 1: analog supplies that are on stop
unfoldable pub analog_off : Bool → ℕ → Run → Run
analog_off wanted ns r = pick (wanted && r.analog) (waited ns (with_analog false r)) r

-- bit 0: the clock stops
unfoldable pub clock_off : Bool → Run → Run
clock_off wanted r = pick wanted (with_clock false r) r

-- the stages begin with what the state has, and no time
abbrev pub run_of : Ssd1677 → Run
run_of d =
    record {
      clock = d.clock;
      analog = d.analog;
      ns = 0;
      waveform_found = true;
      temperature = d.regs.temperature;
      lut = d.regs.lut;
      journal = d.journal;
      waveform = d.regs.waveform;
    }

-- and leave it there; BUSY is high for their time from now on
unfoldable pub run_settled : Ssd1677 → Run → Option Display → Ssd1677
run_settled d r display =
    with_activated d (with_loaded d.regs r.temperature r.lut r.waveform) (busy_for d.bus d.config.frequency d.now r.ns) r.clock r.analog display r.journal

-- the state with the chosen LUTs and the log, which the stages change
pub record WithLuts : Type 0 where
  pub device : Ssd1677
  pub luts : List ℕ
  pub log : List ℕ

-- the three as one
abbrev pub with_luts : Ssd1677 → List ℕ → List ℕ → WithLuts
with_luts d u l = record { device = d; luts = u; log = l }

module _ (k : Lent) (s : WithLuts) where
  -- the stages up to the LUT
  abbrev pub before : Control → Step
  before control = loaded s.device.now control s.device.regs.sensor s.device.config k.otp (step (run_of s.device) s.log)

  -- then the display
  abbrev pub during : Control → Displayed
  during control =
      displayShown k.black_white k.red k.gates s.device control.display control.mode_two (before control) s.luts

  -- then the supplies' end, and all of it back in the state
  abbrev pub after : Control → Displayed → WithLuts
  after control t =
      with_luts
      (run_settled s.device (clock_off control.clock_off (analog_off control.analog_off s.device.config.timing.analog_off t.run)) t.display)
      t.luts
      t.log

  -- all the stages that 0x22 enables
  unfoldable pub staged : WithLuts
  staged = after (control_of s.device.regs.update_control_2) (during (control_of s.device.regs.update_control_2))

-- what the callers of an activation have once 13, 11, 15 and 12 have refused all else
pub record Activatable (d : Ssd1677) (states : List ℤ) (luts pixels counts black_white red gates : List ℕ) : Type 0 where
  pub startable : Startable d.regs d.config.panel luts black_white red gates
  pub ready : Ready d states luts pixels counts

-- all the stages, with the states and the picture as they were
abbrev pub staged_in : Lent → WithBuffers → WithLuts
staged_in k w = staged k (with_luts w.device w.luts w.log)

-- brought to its own present: a display of no frame ends now
abbrev pub arrived : WithBuffers → WithLuts → WithGlass
arrived w s = advanced s.luts s.device.now (with_glass s.device w.states w.picture)

-- the two put together
abbrev pub both_left : WithLuts → WithGlass → WithBuffers
both_left s g = with_buffers g.device g.states s.luts g.picture s.log

-- 0x20
unfoldable pub activated : Lent → WithBuffers → WithBuffers
activated k w = both_left (staged_in k w) (arrived w (staged_in k w))
