-- The plain reckoning beside the calls (SCOPE, History): no log, no journal, no picture, no lent state. It is fed start's arguments
-- and, of each accepted call, those that are neither state nor buffer.
use Rattle.std.specs.Prelude.{ℕ, ◌-◌, ◌*◌, ◌/◌, max, min, Bool, true, false, ◌&&◌, not, List, [], ◌∷◌, ◌++◌, eqb, leb, ltb, ℤ, pos, get_or, Option, Some, None}
use Rattle.numbers.specs.Choice.{pick}
use Rattle.glass.specs.declared.RefreshKind.TheVariants.{PowerOn}
use Rattle.glass.specs.Exact.{drives}
use Rattle.waveform.specs.declared.Drive.TheVariants.{Lut}
use Rattle.waveform.specs.declared.Phase.{Phase}
use Rattle.waveform.specs.Exact.{all_drives, cut_drives, setting_phases}
use Rattle.config.specs.declared.Ssd1677Config.{Ssd1677Config}
use Rattle.counts.specs.Counts.{Picture, picture}
use Rattle.panel.specs.declared.Display.{Display}
use Rattle.device.specs.declared.Registers.{Registers}
use Rattle.device.specs.declared.Bus.{Bus}
use Rattle.device.specs.declared.Status.{Status}
use Rattle.device.specs.declared.Power.{Power}
use Rattle.device.specs.declared.Power.TheVariants.{Running, Asleep, InReset}
use Rattle.device.specs.declared.Ssd1677.{Ssd1677}
use Rattle.device.specs.Parts.{with_display}
use Rattle.world.specs.World.{World, lent_of}
use Rattle.busy.specs.Busy.{pending}
use Rattle.activation.specs.Activation.{with_luts, staged}
use Rattle.calls.specs.World.{Call, advance, set_reset, write_command, write_data, read_data, set_ambient, take_diagnostics, taken}

-- ---- what it keeps, but for the whole numbers
-- clock, registers, planes, reset line, sleep, command, busy work, refresh under way, and what decides these
pub record Core : Type 0 where
  pub config : Ssd1677Config
  pub now : ℕ
  pub regs : Registers
  pub bus : Bus
  pub clock : Bool
  pub analog : Bool
  pub status : Status
  pub display : Option Display
  pub luts : List ℕ
  pub black_white : List ℕ
  pub red : List ℕ
  pub gates : List ℕ

-- what of a world it keeps
abbrev pub core_of : World → Core
core_of w =
    record {
      config = w.device.config;
      now = w.device.now;
      regs = w.device.regs;
      bus = w.device.bus;
      clock = w.device.clock;
      analog = w.device.analog;
      status = w.device.status;
      display = w.device.display;
      luts = w.luts;
      black_white = w.black_white;
      red = w.red;
      gates = w.gates;
    }

-- a device that has it, with no glass, nothing reported and no log
abbrev pub device_of : Core → Ssd1677
device_of c =
    record {
      config = c.config;
      now = c.now;
      regs = c.regs;
      bus = c.bus;
      clock = c.clock;
      analog = c.analog;
      status = c.status;
      panel =
          record {
            swing = pos 0;
            border = pos 0;
            image = record { width = 0; height = 0; border = 0; generation = 0; kind = PowerOn; interrupted = false; started = 0; at = 0 };
          };
      display = c.display;
      journal = record { count = 0; dropped = 0; reserved_reported = false };
    }

-- no picture
abbrev pub unseen : Picture
unseen = picture [] []

-- the world of such a device: no states, no picture, no log
abbrev pub bare : Core → World
bare c =
    record {
      device = device_of c;
      states = [];
      luts = c.luts;
      picture = unseen;
      black_white = c.black_white;
      red = c.red;
      gates = c.gates;
      log = [];
    }

-- an accepted call steps all this as its definition says (SCOPE, History)
abbrev pub core_after : List ℕ → Core → Call → Core
core_after otp c call = core_of (taken otp (bare c) call)

-- ---- the refresh under way
-- a refresh: its start of driving and end, the 112 bytes that it began with and each pixel's LUT (SCOPE, History: an activation that displays)
pub record Refresh : Type 0 where
  pub started : ℕ
  pub ends : ℕ
  pub setting : List ℕ
  pub luts : List ℕ

-- none is under way, or one
pub data Refreshing : Type 0 where
  none : Refreshing
  one : Refresh → Refreshing

-- what a display and the chosen LUTs say of it
abbrev pub shown_by : Option Display → List ℕ → Refreshing
shown_by None luts = none
shown_by (Some d) luts = one (record { started = d.started; ends = d.ends; setting = d.setting; luts = luts })

-- the reckoning: the core, the refresh under way, which it follows in words of its own, and a whole number for each pixel
pub record Reckoning : Type 0 where
  pub core : Core
  pub under_way : Refreshing
  pub number : ℕ → ℕ

-- the clock moves to the later of itself and the time
abbrev pub later : Reckoning → ℕ → ℕ
later r time = max r.core.now time

-- the line falls, in a chip that is not in reset
abbrev pub falls : Bool → Power → Bool
falls low Running = low
falls low Asleep = low
falls low InReset = false

-- 0x20 reaches a chip that runs and is not busy at t
abbrev pub activates : ℕ → ℕ → Core → Bool
activates t command c = eqb command 0x20 && (is_running c.bus.power && not (pending c.bus.busy_until t))
  where
    is_running : Power → Bool
    is_running Running = true
    is_running Asleep = false
    is_running InReset = false

-- the refresh that 0x20 begins, if it displays: what its stages start where none was
abbrev pub begins : List ℕ → Core → Refreshing
begins otp c =
    let s = staged (lent_of otp (bare c)) (with_luts (with_display (device_of c) None) c.luts []) in
    shown_by s.device.display s.luts

-- once the clock, at t, has reached its end, it is under way no more
unfoldable pub unreached : ℕ → Refreshing → Refreshing
unreached t none = none
unreached t (one r) = pick (leb r.ends t) none (one r)

-- one that begins, in place of another
abbrev pub instead : Refreshing → Refreshing → Refreshing
instead none old = old
instead (one r) old = one r

-- by call: none goes on past its end or the fall of RES#, and only 0x20 begins one (SCOPE, History)
unfoldable pub going_on : List ℕ → Reckoning → Call → Refreshing
going_on otp r (advance time) = unreached (later r time) r.under_way
going_on otp r (set_reset time low) = pick (falls low r.core.bus.power) none (unreached (later r time) r.under_way)
going_on otp r (write_command time command) =
    unreached (later r time)
    (pick (activates (later r time) command r.core) (instead (begins otp (core_after otp r.core (advance time))) r.under_way) r.under_way)
going_on otp r (write_data time byte) = unreached (later r time) r.under_way
going_on otp r (read_data time) = unreached (later r time) r.under_way
going_on otp r (set_ambient register) = r.under_way
going_on otp r take_diagnostics = r.under_way

-- ---- which refreshes a call works in
-- how much of a refresh counts: all of it, or what the cut lets it finish
pub data Part : Type 0 where
  all : Part
  up_to : ℕ → Part

-- a refresh that a call works in: the LUT of each pixel, the 112 bytes that it began with, and how much of it counts
pub record Worked : Type 0 where
  pub luts : List ℕ
  pub setting : List ℕ
  pub part : Part

-- so much of a refresh
abbrev pub worked_of : Refresh → Part → Worked
worked_of r part = record { luts = r.luts; setting = r.setting; part = part }

-- when the clock, at t, reaches the end of the refresh under way, all of it is added
unfoldable pub reached : ℕ → Refreshing → List Worked
reached t none = []
reached t (one r) = pick (leb r.ends t) (worked_of r all ∷ []) []

-- so many cycles of the time base in nanoseconds, rounded down (#101)
abbrev pub lasted : ℕ → ℕ → ℕ
lasted frequency cycles = cycles * 1000000000 / frequency

-- a reset at t from the start of driving on and before the end: what t less that start, in nanoseconds, lets it finish; an earlier one adds nothing
unfoldable pub cut_at : ℕ → ℕ → Refreshing → List Worked
cut_at frequency t none = []
cut_at frequency t (one r) = pick (leb r.started t && ltb t r.ends) (worked_of r (up_to (lasted frequency (t - r.started))) ∷ []) []

-- by call; one call may end two refreshes: 0x20 one before it, and at once the one that it begins, of no frame or at 2^64 − 1
unfoldable pub worked : List ℕ → Reckoning → Call → List Worked
worked otp r (advance time) = reached (later r time) r.under_way
worked otp r (set_reset time low) =
    reached (later r time) r.under_way
    ++ pick (falls low r.core.bus.power) (cut_at r.core.config.frequency (later r time) r.under_way) []
worked otp r (write_command time command) =
    reached (later r time) r.under_way
    ++ pick (activates (later r time) command r.core) (reached (later r time) (begins otp (core_after otp r.core (advance time)))) []
worked otp r (write_data time byte) = reached (later r time) r.under_way
worked otp r (read_data time) = reached (later r time) r.under_way
worked otp r (set_ambient register) = []
worked otp r take_diagnostics = []

-- ---- the whole numbers
-- swing S: the smaller of full swing and 2^63 − 1 (SCOPE, Glass)
abbrev pub swing_s : Ssd1677Config → ℕ
swing_s c = min c.optics.full_swing 9223372036854775807

-- the exact drives of a LUT in a refresh: millivolts times frames times period, negated if positive drives black
abbrev pub drives_by : Bool → Part → List Phase → List ℤ
drives_by black all phases = all_drives black phases
drives_by black (up_to cut) phases = cut_drives black cut phases

-- a pixel's number after a refresh: LUTs 0 to 3 add their drives, the sum held between 0 and S after each; any other adds none
unfoldable pub number_after : Ssd1677Config → ℕ → ℕ → Worked → ℕ
number_after c pixel x w =
    let lut = get_or w.luts pixel 0 in
    pick (ltb lut 4)
    (drives (swing_s c) (drives_by c.optics.positive_drives_black w.part (setting_phases w.setting c.timing.frame_period (Lut lut))) x)
    x

-- after a list of refreshes, in order
unfoldable pub number_over : Ssd1677Config → ℕ → ℕ → List Worked → ℕ
number_over c pixel x [] = x
number_over c pixel x (w ∷ ws) = number_over c pixel (number_after c pixel x w) ws

-- one accepted call
abbrev pub reckon_call : List ℕ → Reckoning → Call → Reckoning
reckon_call otp r call =
    record {
      core = core_after otp r.core call;
      under_way = going_on otp r call;
      number = λ pixel. number_over r.core.config pixel (r.number pixel) (worked otp r call);
    }

-- a list of accepted calls
unfoldable pub reckon : List ℕ → Reckoning → List Call → Reckoning
reckon otp r [] = r
reckon otp r (call ∷ calls) = reckon otp (reckon_call otp r call) calls

-- at first: the core that start gives, and S × grey / 255 rounded down for each pixel (SCOPE, Glass)
abbrev pub first_number : Ssd1677Config → ℕ
first_number c = swing_s c * c.optics.initial_gray / 255

-- the reckoning at the start: no refresh is under way
abbrev pub first_reckoning : Core → Reckoning
first_reckoning c = record { core = c; under_way = none; number = λ pixel. first_number c.config }
