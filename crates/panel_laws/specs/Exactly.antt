-- A pixel's whole number after a display, by the exact drives of its LUT (SCOPE, History).
use Rattle.std.specs.Prelude.{Bool, List, ℕ, ◌<◌, ltb, ℤ, Option, Some, None}
use Rattle.numbers.specs.Choice.{pick}
use Rattle.numbers.specs.Saturation.{largest}
use Rattle.glass.specs.declared.Transfer.{Transfer}
use Rattle.glass.specs.Exact.{drives}
use Rattle.waveform.specs.declared.Drive.{Drive}
use Rattle.waveform.specs.declared.Drive.TheVariants.{Lut}
use Rattle.waveform.specs.declared.Phase.{Phase}
use Rattle.waveform.specs.Exact.{all_drives, cut_drives, setting_phases}
use Rattle.panel.specs.Finish.{Ending, transfer_by}

-- the transfer of each LUT
abbrev pub by_lut : Ending → ℤ → ℕ → Transfer
by_lut e swing lut = transfer_by e swing (Lut lut)

-- the exact drives of phases, all of them or up to a cut
abbrev pub drives_until : Bool → Option ℕ → List Phase → List ℤ
drives_until black None ps = all_drives black ps
drives_until black (Some until) ps = cut_drives black until ps

-- those of a display's setting
abbrev pub exact_drives : Ending → Drive → List ℤ
exact_drives e drive = drives_until e.black e.until (setting_phases e.display.setting e.periods drive)

-- whole, or cut before 2^64 − 1, where every sum of durations stops: a cut at 2^64 − 1 itself follows the Rust (SCOPE, Settings)
abbrev pub CutBelowLargest : Option ℕ → Type 0
CutBelowLargest None = Unit {0}
CutBelowLargest (Some until) = until < largest 64

-- a pixel's whole number afterwards, by its LUT
unfoldable pub exact_after : Ending → ℕ → ℕ → ℕ → ℕ
exact_after e S lut x = pick (ltb lut 4) (drives S (exact_drives e (Lut lut)) x) x
