-- What the walks make of a group once for all its repeats.
use Rattle.std.specs.Prelude.{◌≡◌, Bool, ◌&&◌, List, ℕ, ◌*◌, ◌<◌, min, eqb, get_or}
use Rattle.numbers.specs.Saturation.{largest}
use Rattle.waveform.specs.declared.Driving.{Driving}
use Rattle.waveform.specs.Walks.{phase_step}
use Rattle.walk.specs.declared.phases.Lasting.{Lasting}

-- none of a group's four phases has frames
abbrev pub no_frames : List ℕ → Bool
no_frames frames = ((eqb (get_or frames 0 0) 0 && eqb (get_or frames 1 0) 0) && eqb (get_or frames 2 0) 0) && eqb (get_or frames 3 0) 0

-- a phase whose drive and length are its own
pub record LastingOf (d : Driving) (l : Lasting) : Type 0 where
  pub timed : 0 < l.step.phase.frame_ns
  pub drive_is : l.step ≡ phase_step d l.step.phase
  pub length_is : l.length ≡ min (l.step.phase.frames * l.step.phase.frame_ns) (largest 64)
