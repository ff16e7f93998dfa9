-- What every call keeps from an accepted start on: nothing is refused on the way; a running refresh keeps BUSY to its end.
use Rattle.std.specs.Prelude.{ℕ, ◌≤◌, ◌<◌, ◌≡◌, Bool, true, false, List, eqb, length, Some}
use Rattle.otp.specs.Table.{bad_table}
use Rattle.panel.specs.declared.Display.{Display}
use Rattle.device.specs.declared.Current.{Current}
use Rattle.device.specs.declared.Current.TheVariants.{Idle, Ignoring, Active}
use Rattle.device.specs.declared.Kind.{Kind}
use Rattle.device.specs.declared.Kind.TheVariants.{Write, Read, Unsupported, Reserved}
use Rattle.device.specs.declared.Params.TheVariants.{Exactly, Between, Stream}
use Rattle.device.specs.declared.Power.TheVariants.{Running}
use Rattle.device.specs.declared.Ssd1677.{Ssd1677}
use Rattle.world.specs.World.{World}
use Rattle.guard_lengths.specs.declared.Lengths.{Lengths}
use Rattle.guard_lengths.specs.Lengths.{lengths_fit, counts_fit, all_lent}
use Rattle.guard_state.specs.State.{state_fine}

-- the lengths of all that is lent
abbrev pub lengths_in_world : World → Lengths
lengths_in_world w =
    all_lent (length w.states) (length w.luts) (length w.picture.pixels) (length w.picture.counts) (length w.log) (length w.black_white) (length w.red) (length w.gates)

-- neither 13, 11, 15 nor 12 refuses it
pub record Sound (otp : List ℕ) (w : World) : Type 0 where
  pub state : state_fine w.device ≡ true
  pub lengths : lengths_fit w.device.config.panel (lengths_in_world w) ≡ true
  pub counts : counts_fit (lengths_in_world w) ≡ true
  pub table : bad_table otp ≡ false

-- a kind of command whose data bytes change nothing but the command's own counts
abbrev pub takes_none : Kind → Bool
takes_none (Write (Exactly count)) = eqb count 0
takes_none (Write (Between least most)) = false
takes_none (Write Stream) = false
takes_none Read = true
takes_none Unsupported = true
takes_none Reserved = true

-- no data byte can start an operation or sleep
abbrev pub inert : Current → Bool
inert Idle = true
inert Ignoring = true
inert (Active a) = takes_none a.kind

-- a refresh under way: it is the one in progress, the chip runs, the clock is before its end, and BUSY is high at least to that end
pub record UnderWay (d : Ssd1677) (display : Display) : Type 0 where
  pub shown : d.display ≡ Some display
  pub until : ℕ
  pub busy : d.bus.busy_until ≡ Some until
  pub to_its_end : display.ends ≤ until
  pub before_its_end : d.now < display.ends
  pub runs : d.bus.power ≡ Running
  pub inert_command : inert d.bus.current ≡ true

-- of the refresh in progress, if there is one
abbrev pub Held : Ssd1677 → Type 0
Held d = (display : Display) → d.display ≡ Some display → UnderWay d display
