-- The start (mod.rs, `new`): refused with 1, 2, 3, 4, 5, 14, 12, 6, 11, 15 in this order, or the chip at power-on.
use Rattle.std.specs.Prelude.{ℕ, false, not, List, [], ◌∷◌, ◌++◌, ℤ, pos, length, replicate, None, Result, Ok, Err}
use Rattle.numbers.specs.Choice.{pick}
use Rattle.numbers.specs.Lists.{tab}
use Rattle.glass.specs.declared.RefreshKind.TheVariants.{PowerOn}
use Rattle.config.specs.declared.PanelGeometry.{PanelGeometry}
use Rattle.config.specs.declared.Ssd1677Config.{Ssd1677Config}
use Rattle.config.specs.Answer.{Answer, accepted, refused, is_accepted, Test, first_of, refused_by}
use Rattle.otp.specs.Table.{start_tests}
use Rattle.gates_laws.specs.OneToOne.{gate_of_row}
use Rattle.counts.specs.Counts.{Picture}
use Rattle.panel.specs.declared.Panel.{Panel}
use Rattle.panel.specs.Start.{panel_at_power_on, power_on}
use Rattle.device.specs.declared.Power.TheVariants.{Running}
use Rattle.device.specs.declared.Current.TheVariants.{Idle}
use Rattle.device.specs.declared.Ssd1677.{Ssd1677}
use Rattle.world.specs.World.{World, world}
use Rattle.registers.specs.Reset.{reset_of}
use Rattle.guard_lengths.specs.declared.Lengths.{Lengths}
use Rattle.guard_lengths.specs.Lengths.{lengths_fit, counts_fit, all_lent}
use Rattle.power_on.specs.declared.StartError.{StartError}
use Rattle.power_on.specs.declared.RefusedStart.{RefusedStart}
use Rattle.power_on.specs.declared.StartRefusal.{StartRefusal}
use Rattle.power_on.specs.declared.StartError.TheVariants.{Parameters, Buffer, Counts}

-- all that is lent to a start but the table
pub record Buffers : Type 0 where
  pub states : List ℤ
  pub luts : List ℕ
  pub picture : Picture
  pub black_white : List ℕ
  pub red : List ℕ
  pub gates : List ℕ
  pub log : List ℕ

-- the seven as one
abbrev pub buffers : List ℤ → List ℕ → Picture → List ℕ → List ℕ → List ℕ → List ℕ → Buffers
buffers s u p b r g l = record { states = s; luts = u; picture = p; black_white = b; red = r; gates = g; log = l }

-- the lengths of what is lent
abbrev pub lengths_in : Buffers → Lengths
lengths_in b =
    all_lent (length b.states) (length b.luts) (length b.picture.pixels) (length b.picture.counts) (length b.log) (length b.black_white) (length b.red) (length b.gates)

-- 11: a buffer's length is not the one of the panel
abbrev pub buffer_test : PanelGeometry → Lengths → Test
buffer_test p l = record { number = 11; value = 0; refuses = not (lengths_fit p l) }

-- 15: the table of counts has not a place for each grey (#108)
abbrev pub counts_test : Lengths → Test
counts_test l = record { number = 15; value = 0; refuses = not (counts_fit l) }

-- 1 to 5, 14, 12, 6, 11, 15 (SCOPE, Refusals)
abbrev pub all_tests : Ssd1677Config → List ℕ → Lengths → List Test
all_tests c otp l = start_tests c otp ++ buffer_test c.panel l ∷ counts_test l ∷ []

-- the number and value of each case
unfoldable pub start_refused_by : StartError → Answer
start_refused_by (Parameters error) = refused_by error
start_refused_by Buffer = refused 11 0
start_refused_by Counts = refused 15 0

-- what a start answers
unfoldable pub start_answer_of : {A : Type 0} → Result A StartError → Answer
start_answer_of (Ok value) = accepted
start_answer_of (Err error) = start_refused_by error

-- an answer as its number and its value: 0 and 0 for an accepted start
abbrev pub refusal_of : Answer → StartRefusal
refusal_of accepted = record { number = 0; value = 0 }
refusal_of (refused number value) = record { number = number; value = value }

-- the chip with its supplies off, no command and nothing reported, behind a glass
abbrev pub chip_with : Ssd1677Config → Panel → Ssd1677
chip_with c panel =
    record {
      config = c;
      now = 0;
      regs = reset_of c.user_id;
      bus = record { power = Running; current = Idle; busy_until = None };
      clock = false;
      analog = false;
      status = record { hv_not_ready = false; vci_low = false };
      panel = panel;
      display = None;
      journal = record { count = 0; dropped = 0; reserved_reported = false };
    }

-- the chip at power-on
unfoldable pub powered_on : Ssd1677Config → Ssd1677
powered_on c = chip_with c (panel_at_power_on c.panel c.optics)

-- a glass that is none: its swing is 0
abbrev pub no_glass : Panel
no_glass =
    record {
      swing = pos 0;
      border = pos 0;
      image = record { width = 0; height = 0; border = 0; generation = 0; kind = PowerOn; interrupted = false; started = 0; at = 0 };
    }

-- where no start was accepted: a state that every call refuses with 13 (`unstarted_refused` of proofs/Refused.antt)
unfoldable pub unstarted : Ssd1677Config → Ssd1677
unstarted c = chip_with c no_glass

-- what a refused start hands back
abbrev pub refused_start : Ssd1677Config → StartError → RefusedStart
refused_start c error = record { error = error; state = unstarted c }

-- whether a start was refused, of one that hands back a chip in either case
abbrev pub start_error_in : {A : Type 0} → Result A RefusedStart → Result A StartError
start_error_in (Ok value) = Ok value
start_error_in (Err given) = Err given.error

-- the chip that a start hands back, accepted or refused
abbrev pub chip_in : Result Ssd1677 RefusedStart → Ssd1677
chip_in (Ok state) = state
chip_in (Err given) = given.state

-- the planes and the log
pub record Clean : Type 0 where
  pub black_white : List ℕ
  pub red : List ℕ
  pub log : List ℕ

-- the three as one
abbrev pub clean : List ℕ → List ℕ → List ℕ → Clean
clean b r l = record { black_white = b; red = r; log = l }

-- so many bytes of 0x00 each
unfoldable pub cleared : ℕ → ℕ → ℕ → Clean
cleared b r l = clean (tab b (λ _. 0)) (tab r (λ _. 0)) (tab l (λ _. 0))

-- buffers at power-on: planes and log 0x00, chosen LUTs 255, the gate of each row of the glass, the rest as `Panel::new` (SCOPE, Buffers)
unfoldable pub filled : Ssd1677Config → Buffers → Buffers
filled c b =
    let glass = power_on c.panel c.optics (length b.states) (length b.luts) (length b.picture.pixels) in
    let empty = cleared (length b.black_white) (length b.red) (length b.log) in
    buffers glass.states glass.luts glass.picture empty.black_white empty.red
    (tab c.panel.height (gate_of_row c.panel))
    empty.log

-- a state and all that it was lent
pub record Powered : Type 0 where
  pub device : Ssd1677
  pub buffers : Buffers

-- the two as one
abbrev pub powered : Ssd1677 → Buffers → Powered
powered d b = record { device = d; buffers = b }

-- the world that a start leaves
abbrev pub world_of : Powered → World
world_of p =
    let b = p.buffers in
    world p.device b.states b.luts b.picture b.black_white b.red b.gates b.log

-- the chip and its buffers at power-on
unfoldable pub powered_up : Ssd1677Config → Buffers → Powered
powered_up c b = powered (powered_on c) (filled c b)

-- what a start answers and leaves
pub record Start : Type 0 where
  pub answer : Answer
  pub left : Powered

-- the two as one
abbrev pub start : Answer → Powered → Start
start a p = record { answer = a; left = p }

-- accepted: the chip and its buffers at power-on; refused: the unstarted state, and every buffer as it was
abbrev pub start_by : Ssd1677Config → Buffers → Answer → Start
start_by c b a = start a (pick (is_accepted a) (powered_up c b) (powered (unstarted c) b))

-- new: the first test that refuses decides (SCOPE, Refusals: 1 to 5, 14, 12, 6, 11, 15)
unfoldable pub started : Ssd1677Config → List ℕ → Buffers → Start
started c otp b = start_by c b (first_of (all_tests c otp (lengths_in b)))
