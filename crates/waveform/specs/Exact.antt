-- The exact drives of a display, in millivolts × nanoseconds towards white, with no number held to 64 bits (SCOPE, Settings).
use Rattle.std.specs.Prelude.{Bool, true, false, List, [], ◌∷◌, ℕ, ◌-◌, ◌*◌, ◌/◌, ℤ, pos, neg_ℤ, ◌*ℤ◌, leb}
use Rattle.numbers.specs.Choice.{pick}
use Rattle.waveform.specs.declared.Drive.{Drive}
use Rattle.waveform.specs.declared.Phase.{Phase}
use Rattle.waveform.specs.Setting.{waveform_of}
use Rattle.waveform.specs.Phases.{phases_of}

-- millivolts against VCOM × frames × period, negated if positive drives black
abbrev pub exact_drive : Bool → ℤ → ℕ → ℕ → ℤ
exact_drive true millivolts frames period = neg_ℤ (millivolts *ℤ pos frames *ℤ pos period)
exact_drive false millivolts frames period = millivolts *ℤ pos frames *ℤ pos period

-- the drive of some frames of a phase
abbrev pub frames_drive : Bool → Phase → ℕ → ℤ
frames_drive black p frames = exact_drive black p.millivolts frames p.frame_ns

-- how long a phase lasts
abbrev pub lasts : Phase → ℕ
lasts p = p.frames * p.frame_ns

-- a whole display: every phase's drive
unfoldable pub all_drives : Bool → List Phase → List ℤ
all_drives black [] = []
all_drives black (p ∷ ps) = frames_drive black p p.frames ∷ all_drives black ps

-- a display that is cut after t: the drive of each phase finished by then, and of the whole frames finished in the running one;
-- a frame that ends exactly at the cut is finished
unfoldable pub cut_drives : Bool → ℕ → List Phase → List ℤ
cut_drives black t [] = []
cut_drives black t (p ∷ ps) =
    pick (leb (lasts p) t)
    (frames_drive black p p.frames ∷ cut_drives black (t - lasts p) ps)
    (frames_drive black p (t / p.frame_ns) ∷ [])

-- the phases of a setting: its 112 bytes, and the period of each frame-rate code
abbrev pub setting_phases : List ℕ → List ℕ → Drive → List Phase
setting_phases s p drive = phases_of (waveform_of s p) drive
