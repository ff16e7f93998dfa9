-- Closing the current command (mod.rs, `close_command`; SCOPE, Commands: 26 if parameters lack).
use Rattle.std.specs.Prelude.{ℕ, false, ltb}
use Rattle.numbers.specs.Choice.{pick}
use Rattle.diagnostic.specs.declared.Journal.{Journal}
use Rattle.diagnostic.specs.declared.DiagnosticKind.TheVariants.{MissingData}
use Rattle.diagnostic.specs.Log.{Entries, entries, reported}
use Rattle.device.specs.declared.Current.{Current}
use Rattle.device.specs.declared.Current.TheVariants.{Idle, Ignoring, Active}
use Rattle.device.specs.Kinds.{expected_of}
use Rattle.device.specs.Parts.{with_bus, with_current, with_journal}
use Rattle.world.specs.World.{WithLog, with_log}

-- 26 where the current command lacks parameters
unfoldable pub missing : ℕ → Entries → Current → Entries
missing time e Idle = e
missing time e Ignoring = e
missing time e (Active a) =
    pick (ltb a.received (expected_of a.kind))
    (reported e time (MissingData a.command (expected_of a.kind) a.received))
    e

-- the journal and the log
abbrev pub entries_of : WithLog → Entries
entries_of k = entries k.device.journal k.log

-- the next command may report a reserved value again
abbrev pub reserved_unreported : Journal → Journal
reserved_unreported j = record { count = j.count; dropped = j.dropped; reserved_reported = false }

-- the entries put back, and later data ignored
abbrev pub ignoring : WithLog → Entries → WithLog
ignoring k e = with_log (with_bus (with_journal k.device (reserved_unreported e.journal)) (with_current k.device.bus Ignoring)) e.log

-- 26 if parameters lack; then no command is current
unfoldable pub closed : WithLog → WithLog
closed k = ignoring k (missing k.device.now (entries_of k) k.device.bus.current)
