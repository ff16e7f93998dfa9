-- The log of diagnostics: 1,024 records of 16 bytes, and what a report makes of it (SCOPE, Log; mod.rs, `report` and `reserved`).
use Rattle.std.specs.Prelude.{ℕ, ◌+◌, ◌*◌, min, true, List, ◌++◌, ltb, take, drop}
use Rattle.numbers.specs.Choice.{pick}
use Rattle.numbers.specs.Saturation.{largest}
use Rattle.diagnostic.specs.declared.DiagnosticKind.{DiagnosticKind}
use Rattle.diagnostic.specs.declared.DiagnosticKind.TheVariants.{ReservedValue}
use Rattle.diagnostic.specs.declared.Journal.{Journal}
use Rattle.diagnostic.specs.Record.{fields_of, record_of}

-- the counts and the log's bytes, which change together
pub record Entries : Type 0 where
  pub journal : Journal
  pub log : List ℕ

-- the two as one
abbrev pub entries : Journal → List ℕ → Entries
entries j l = record { journal = j; log = l }

-- records that the log has room for (SCOPE, Log)
abbrev pub room : ℕ
room = 1024

-- the log with the record at a place, and its other bytes as they were
abbrev pub placed : List ℕ → ℕ → List ℕ → List ℕ
placed log k bytes = take (16 * k) log ++ (bytes ++ drop (16 * k + 16) log)

-- the record at the count, and the count one more
abbrev pub kept : Entries → List ℕ → Entries
kept e bytes =
    entries
    (record { count = e.journal.count + 1; dropped = e.journal.dropped; reserved_reported = e.journal.reserved_reported })
    (placed e.log e.journal.count bytes)

-- the dropped count one more, stopping at 2^64 − 1, and the log as it was
abbrev pub one_more_dropped : Entries → Entries
one_more_dropped e =
    entries
    (record {
      count = e.journal.count;
      dropped = min (e.journal.dropped + 1) (largest 64);
      reserved_reported = e.journal.reserved_reported;
    })
    e.log

-- a report: kept while there is room, else counted
unfoldable pub reported : Entries → ℕ → DiagnosticKind → Entries
reported e time kind = pick (ltb e.journal.count room) (kept e (record_of time (fields_of kind))) (one_more_dropped e)

-- the same entries, of a command that has reported a reserved value
abbrev pub marked : Entries → Entries
marked e =
    entries
    (record { count = e.journal.count; dropped = e.journal.dropped; reserved_reported = true })
    e.log

-- 30 once a command
unfoldable pub reserved_reported : Entries → ℕ → ℕ → ℕ → Entries
reserved_reported e time command value =
    pick e.journal.reserved_reported e (reported (marked e) time (ReservedValue command value))
