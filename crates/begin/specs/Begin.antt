-- A command byte, once the clock has moved and the last command is closed (mod.rs, `write_command` and `start_command`).
use Rattle.std.specs.Prelude.{ℕ, Bool, false, ◌&&◌, ◌||◌, not, eqb, Option, Some, None}
use Rattle.numbers.specs.Choice.{pick}
use Rattle.diagnostic.specs.declared.DiagnosticKind.TheVariants.{UnknownCommand, ReservedCommand, UnsupportedCommand, WhileBusy, WhileAsleep, WhileInReset}
use Rattle.device.specs.declared.Kind.{Kind}
use Rattle.device.specs.declared.Kind.TheVariants.{Write, Read, Unsupported, Reserved}
use Rattle.device.specs.declared.Power.{Power}
use Rattle.device.specs.declared.Power.TheVariants.{Running, Asleep, InReset}
use Rattle.device.specs.declared.Current.TheVariants.{Active}
use Rattle.device.specs.declared.Ssd1677.{Ssd1677}
use Rattle.device.specs.Parts.{with_bus, with_current}
use Rattle.world.specs.World.{WithBuffers, Lent, on, device_in_buffers, log_in_buffers}
use Rattle.command.specs.Table.{kind_of}
use Rattle.busy.specs.Busy.{pending}
use Rattle.chip.specs.Report.{logged}
use Rattle.start.specs.Start.{soft_reset, vcom_sensed, pointed}
use Rattle.activation.specs.Activation.{activated}

-- the command is the current one, with nothing written, read or reported
unfoldable pub command_made : ℕ → Kind → Ssd1677 → Ssd1677
command_made command kind d =
    with_bus d
    (with_current d.bus
    (Active
    (record {
      command = command;
      kind = kind;
      received = 0;
      read = 0;
      extra_reported = false;
      range_reported = false;
      nothing_reported = false;
    })))

-- what a command does when its byte arrives (mod.rs, `start_command`)
unfoldable pub run : Lent → ℕ → WithBuffers → WithBuffers
run k command w =
    pick (eqb command 0x12) (on device_in_buffers soft_reset w)
    (pick (eqb command 0x20) (activated k w)
    (pick (eqb command 0x28) (on log_in_buffers vcom_sensed w)
    (pick (eqb command 0x24 || eqb command 0x26 || eqb command 0x27) (on log_in_buffers (pointed command) w) w)))

-- by what Table 7-1 has for the command: 21, 22 and 23 leave it without data
unfoldable pub command_by_kind : Lent → ℕ → WithBuffers → Option Kind → WithBuffers
command_by_kind k command w None = on log_in_buffers (logged (UnknownCommand command)) w
command_by_kind k command w (Some Reserved) = on log_in_buffers (logged (ReservedCommand command)) w
command_by_kind k command w (Some Unsupported) = on log_in_buffers (logged (UnsupportedCommand command)) w
command_by_kind k command w (Some (Write params)) = run k command (on device_in_buffers (command_made command (Write params)) w)
command_by_kind k command w (Some Read) = run k command (on device_in_buffers (command_made command Read) w)

-- BUSY is high and the command is not the status read, 0x2F, which a busy chip takes
abbrev pub is_held_off : ℕ → Ssd1677 → Bool
is_held_off command d = pending d.bus.busy_until d.now && not (eqb command 0x2F)

-- by the supply and reset state: 29, 28, then 27
unfoldable pub begun : Lent → ℕ → WithBuffers → Power → WithBuffers
begun k command w InReset = on log_in_buffers (logged (WhileInReset command)) w
begun k command w Asleep = on log_in_buffers (logged (WhileAsleep command)) w
begun k command w Running = pick (is_held_off command w.device) (on log_in_buffers (logged (WhileBusy command)) w) (command_by_kind k command w (kind_of command))
