-- The walks over a waveform's phases in 64 bits, step for step as the Rust has them (waveform.rs, `transfer`).
use Rattle.std.specs.Prelude.{Bool, true, false, ℕ, ◌+◌, ◌-◌, ◌*◌, ◌/◌, min, ℤ, pos, neg_ℤ, ◌*ℤ◌, eqb, ltb, Option, Some, None}
use mathlib.Core.List.{List, foldl}
use Rattle.numbers.specs.Choice.{pick}
use Rattle.numbers.specs.Saturation.{largest, sat_z}
use Rattle.glass.specs.declared.Transfer.{Transfer}
use Rattle.glass.specs.Transfers.{identity_t, shift_t, then_t}
use Rattle.waveform.specs.declared.Drive.{Drive}
use Rattle.waveform.specs.declared.Driving.{Driving}
use Rattle.waveform.specs.declared.Group.{Group}
use Rattle.waveform.specs.declared.Phase.{Phase}
use Rattle.waveform.specs.declared.Progress.{Progress}
use Rattle.waveform.specs.declared.DrivenPhase.{DrivenPhase}
use Rattle.waveform.specs.declared.Waveform.{Waveform}
use Rattle.waveform.specs.Voltages.{AllListable}
use Rattle.waveform.specs.Setting.{waveform_of}
use Rattle.waveform.specs.Phases.{Takes, Timed, phase_of, four_phases, group_phases, phases_of}

-- what drives a pixel under a waveform
abbrev pub driving_of : Waveform → Drive → ℤ → Bool → Driving
driving_of w drive swing black = record { levels = w.levels; drive = drive; swing = swing; positive_drives_black = black }

-- what the walks ask: voltages that the datasheet can list, and a LUT that there is
pub record Drivable (d : Driving) : Type 0 where
  pub listable : AllListable d.levels
  pub takes : Takes d.drive

-- the same of a waveform, and frames that last
pub record Walkable (w : Waveform) (drive : Drive) : Type 0 where
  pub timed : Timed w
  pub listable : AllListable w.levels
  pub takes : Takes drive

-- phase k of a group, by what drives
abbrev pub phase_in : Driving → Group → ℕ → Phase
phase_in d = phase_of d.levels d.drive

-- its four phases
abbrev pub four_in : Driving → Group → List Phase
four_in d = four_phases d.levels d.drive

-- all its repeats
abbrev pub group_in : Driving → Group → List Phase
group_in d = group_phases d.levels d.drive

-- those of ten groups
abbrev pub groups_in : Driving → Waveform → List Phase
groups_in d w = phases_of (record { groups = w.groups; levels = d.levels }) d.drive

-- x, or its negation, saturated
abbrev pub negated_if : Bool → ℤ → ℤ
negated_if true x = sat_z (neg_ℤ x)
negated_if false x = x

-- millivolts × frames × period, each product saturated, towards white
unfoldable pub saturated_drive : Bool → ℤ → ℕ → ℕ → ℤ
saturated_drive black millivolts frames period = negated_if black (sat_z (sat_z (millivolts *ℤ sat_z (pos frames)) *ℤ sat_z (pos period)))

-- a phase with the drive of all its frames; where it has none the drive is left at 0
unfoldable pub phase_step : Driving → Phase → DrivenPhase
phase_step d p =
    record {
      phase = p;
      drive = pick (eqb p.frames 0) (pos 0) (saturated_drive d.positive_drives_black p.millivolts p.frames p.frame_ns);
    }

-- a transfer, then such a phase; one of 0 frames is passed over
unfoldable pub drive_stepped : Driving → DrivenPhase → Transfer → Transfer
drive_stepped d s t = pick (eqb s.phase.frames 0) t (then_t t (shift_t s.drive d.swing))

-- a transfer, then `run` frames of a phase
unfoldable pub pushed : Driving → Phase → ℕ → Transfer → Transfer
pushed d p run t = then_t t (shift_t (saturated_drive d.positive_drives_black p.millivolts run p.frame_ns) d.swing)

-- the whole display: every phase to its end
abbrev pub whole_step : Driving → Transfer → Phase → Transfer
whole_step d t p = pushed d p p.frames t

-- when a phase that begins at a moment ends, in 64 bits
abbrev pub phase_end : Phase → ℕ → ℕ
phase_end p from = min (from + min (p.frames * p.frame_ns) (largest 64)) (largest 64)

-- up to a cut: a phase that ends by it
abbrev pub run_on : Driving → Phase → ℕ → Transfer → Progress
run_on d p end t = record { transfer = pushed d p p.frames t; elapsed = end; stopped = false }

-- a phase that the cut falls into: the frames finished in what is left; then stop
abbrev pub phase_cut : Driving → Phase → ℕ → ℕ → Transfer → Progress
phase_cut d p left end t =
    record {
      transfer = pushed d p (left / p.frame_ns) t;
      elapsed = end;
      stopped = ltb (left / p.frame_ns) p.frames;
    }

-- a phase, by whether the walk has stopped and whether the cut falls into it
unfoldable pub cut_step : Driving → ℕ → Progress → Phase → Progress
cut_step d until w p =
    pick w.stopped w
    (pick (ltb until (phase_end p w.elapsed))
    (phase_cut d p (until - w.elapsed) (phase_end p w.elapsed) w.transfer)
    (run_on d p (phase_end p w.elapsed) w.transfer))

-- before the first phase
abbrev pub walk_start : ℤ → Progress
walk_start swing = record { transfer = identity_t swing; elapsed = 0; stopped = false }

-- the transfer of the whole display
abbrev pub whole_of : Waveform → Drive → ℤ → Bool → Transfer
whole_of w drive swing black = foldl (whole_step (driving_of w drive swing black)) (identity_t swing) (phases_of w drive)

-- that of the display up to a cut
abbrev pub cut_of : Waveform → Drive → ℤ → Bool → ℕ → Transfer
cut_of w drive swing black until = (foldl (cut_step (driving_of w drive swing black) until) (walk_start swing) (phases_of w drive)).transfer

-- either
abbrev pub transfer_of : Waveform → Drive → ℤ → Bool → Option ℕ → Transfer
transfer_of w drive swing black None = whole_of w drive swing black
transfer_of w drive swing black (Some until) = cut_of w drive swing black until

-- the whole display of a setting: its 112 bytes, and the period of each frame-rate code
unfoldable pub whole_transfer : List ℕ → List ℕ → Drive → ℤ → Bool → Transfer
whole_transfer s p drive swing black = whole_of (waveform_of s p) drive swing black

-- that setting's display up to a cut
unfoldable pub cut_transfer : List ℕ → List ℕ → Drive → ℤ → Bool → ℕ → Transfer
cut_transfer s p drive swing black until = cut_of (waveform_of s p) drive swing black until
