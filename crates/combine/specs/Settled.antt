-- The transfer that a combined display has, and when two transfers do the same (#110).
use Rattle.std.specs.Prelude.{◌≡◌, Bool, ℤ, pos, ℕ, Option, Some, None}
use Rattle.std.specs.Int.Signed.{le_z}
use Rattle.numbers.specs.Choice.{pick}
use Rattle.glass.specs.declared.Transfer.{Transfer}
use Rattle.glass.specs.Transfers.{apply_t}
use Rattle.waveform.specs.declared.Drive.{Drive}
use Rattle.waveform.specs.declared.Waveform.{Waveform}
use Rattle.waveform.specs.Walks.{whole_of, cut_of}

-- two transfers do the same to every number (#110: "results equal the walk")
abbrev pub Alike : Transfer → Transfer → Type 0
Alike t u = (z : ℤ) → apply_t t z ≡ apply_t u z

-- a transfer whose ends have met takes every number to one: what it adds no longer counts, and is 0 (a display's has lo ≤ hi)
unfoldable pub settled : Transfer → Transfer
settled t = pick (le_z t.hi t.lo) (record { add = pos 0; lo = t.lo; hi = t.hi }) t

-- the walk of a whole display, settled; a cut one is walked as it is (#110: "cut refreshes still walk")
abbrev pub combined_of : Waveform → Drive → ℤ → Bool → Option ℕ → Transfer
combined_of w drive swing black None = settled (whole_of w drive swing black)
combined_of w drive swing black (Some until) = cut_of w drive swing black until
