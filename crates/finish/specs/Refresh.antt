-- What the parts of a display's end share (panel.rs, `Panel::finish`).
use Rattle.std.specs.Prelude.{◌≡◌, Bool, List, ℕ, ◌<◌, ℤ, pos, ◌≤ℤ◌, length, get_or, Option}
use Rattle.glass.specs.declared.Transfer.{Transfer}
use Rattle.glass.specs.Transfers.{identity_t}
use Rattle.waveform.specs.declared.Drive.{Drive}
use Rattle.waveform.specs.declared.Drive.TheVariants.{Lut}
use Rattle.waveform.specs.declared.Waveform.{Waveform}
use Rattle.waveform.specs.Setting.{waveform_of}
use Rattle.waveform.specs.Phases.{Takes}
use Rattle.waveform.specs.Walks.{Walkable, transfer_of}
use Rattle.combine.specs.Settled.{Alike}
use Rattle.finish.specs.declared.refresh.DisplayDrive.{DisplayDrive}

-- a waveform that any drive may walk
abbrev pub AllWalkable : Waveform → Type 0
AllWalkable w = (drive : Drive) → Takes drive → Walkable w drive

-- a display of a setting, by the period of each frame-rate code, the swing, the sign and how much of it counts
abbrev pub display_drive : List ℕ → List ℕ → ℤ → Bool → Option ℕ → DisplayDrive
display_drive s p swing black until = record { setting = s; frame_period = p; swing = swing; positive_drives_black = black; until = until }

-- its waveform
abbrev pub waveform_in : DisplayDrive → Waveform
waveform_in r = waveform_of r.setting r.frame_period

-- the transfer of a drive
unfoldable pub transfer_in : DisplayDrive → Drive → Transfer
transfer_in r drive = transfer_of (waveform_in r) drive r.swing r.positive_drives_black r.until

-- the transfer that a table has for a LUT
abbrev pub in_table : List Transfer → ℕ → Transfer
in_table ts lut = get_or ts lut (identity_t (pos 0))

-- a table that does what the transfers of LUTs 0 to 3 do
abbrev pub FourAlike : DisplayDrive → List Transfer → Type 0
FourAlike r ts = (lut : ℕ) → lut < 4 → Alike (in_table ts lut) (transfer_in r (Lut lut))

-- what the transfers of a display ask: a waveform that any drive may walk, and a swing from 1 on
pub record Refreshable (r : DisplayDrive) : Type 0 where
  pub walkable : AllWalkable (waveform_in r)
  pub some : pos 1 ≤ℤ r.swing

-- what refilling the pixels asks
pub record Repaintable (r : DisplayDrive) (luts : List ℕ) (states : List ℤ) (pixels : List ℕ) : Type 0 where
  pub walkable : AllWalkable (waveform_in r)
  pub some : pos 1 ≤ℤ r.swing
  pub luts_long : length luts ≡ length states
  pub pixels_long : length pixels ≡ length states
