-- A diagnostic of the instant the clock shows (mod.rs, `report`).
use Rattle.diagnostic.specs.declared.DiagnosticKind.{DiagnosticKind}
use Rattle.diagnostic.specs.Log.{Entries, reported}
use Rattle.device.specs.Parts.{with_journal}
use Rattle.world.specs.World.{WithLog, with_log}
use Rattle.chip.specs.Close.{entries_of}

-- the journal and the log put back
abbrev pub with_entries : WithLog → Entries → WithLog
with_entries k e = with_log (with_journal k.device e.journal) e.log

-- the record of a diagnostic, dated the clock
unfoldable pub logged : DiagnosticKind → WithLog → WithLog
logged kind k = with_entries k (reported (entries_of k) k.device.now kind)
