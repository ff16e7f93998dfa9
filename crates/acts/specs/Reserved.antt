-- A value that the datasheet reserves or does not list (mod.rs, `reserved` and `check`; SCOPE, Commands: 30 once a command).
use Rattle.std.specs.Prelude.{ℕ, Bool}
use Rattle.numbers.specs.Choice.{pick}
use Rattle.diagnostic.specs.Log.{reserved_reported}
use Rattle.world.specs.World.{WithLog}
use Rattle.chip.specs.Close.{entries_of}
use Rattle.chip.specs.Report.{with_entries}

-- 30, unless the command has reported one before
unfoldable pub reserved : ℕ → ℕ → WithLog → WithLog
reserved command value k = with_entries k (reserved_reported (entries_of k) k.device.now command value)

-- 30 unless the datasheet lists the value
unfoldable pub checked : Bool → ℕ → ℕ → WithLog → WithLog
checked listed command value k = pick listed k (reserved command value k)
