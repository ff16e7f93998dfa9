-- A byte of RAM data that its plane takes (mod.rs, `write_ram`), apart from all else that a data byte may be.
use Rattle.std.specs.Prelude.{ℕ, Bool, false, ◌&&◌, List, Option, Some, None}
use Rattle.numbers.specs.Choice.{pick}
use Rattle.ram.specs.Plane.{plane_of, wrote_at}
use Rattle.device.specs.declared.Current.{Current}
use Rattle.device.specs.declared.Current.TheVariants as current
use Rattle.device.specs.declared.Ssd1677.{Ssd1677}
use Rattle.device.specs.Kinds.{is_stream}
use Rattle.device.specs.Parts.{with_pointed}
use Rattle.world.specs.World.{WithRam}
use Rattle.data.specs.declared.Streamed.{Streamed}
use Rattle.data.specs.Data.{plane_for, data_taken}

-- the state that such a byte leaves; where there was none, the one before
abbrev pub left_by : Ssd1677 → Option Streamed → Ssd1677
left_by d (Some s) = with_pointed d s.counter s.bus
left_by d None = d

-- whether the current command takes RAM data and its plane has the counter's byte
abbrev pub is_streamed : Ssd1677 → List ℕ → List ℕ → Current → Bool
is_streamed d black_white red current.Idle = false
is_streamed d black_white red current.Ignoring = false
is_streamed d black_white red (current.Active a) =
    is_stream a.kind && wrote_at (plane_of black_white red (plane_for a.command)) d.regs.counter

-- such a byte is taken, and another leaves all as it is
abbrev pub streamed : ℕ → WithRam → Current → WithRam
streamed byte w c = pick (is_streamed w.device w.black_white w.red c) (data_taken byte w c) w
