-- What drives the border is a drive that a waveform takes. Assumes nothing.
use Rattle.std.specs.Prelude.{Option, Some, None}
use mathlib.Core.Path.{◌≡◌, subst}
use mathlib.Core.Bool.{Bool, true, false}
use Prim.Native.Nat.{ℕ, ◌/◌, ◌%◌, ◌<◌}
use native.Mathlib.Omega.{arith}
use native.Mathlib.Nat.{mod-lt}
use lib.Dec.{eqb, lit<}
use Rattle.numbers.specs.Choice.{pick}
use Rattle.waveform.specs.declared.Drive.{Drive}
use Rattle.waveform.specs.declared.Drive.TheVariants.{Lut, Fixed}
use Rattle.waveform.specs.Phases.{Takes}
use Rattle.panel.specs.Border.{border_drive}

-- the drive of a border, if any, is one that a waveform takes
abbrev Taken : Option Drive → Type 0
Taken (Some drive) = Takes drive
Taken None = Unit {0}

pub border_taken : (b : ℕ) → Taken (border_drive b)
unfolding border_drive
border_taken b = by (eqb (b / 64) 0) (eqb (b / 64) 1)
  where
    by : (s t : Bool) → Taken (pick s (Some (Lut (b % 4))) (pick t (Some (Fixed (b / 16 % 4))) None))
    by true t = let h : b % 4 < 4 = mod-lt b (lit< tt) in omega arith
    by false true = tt
    by false false = tt

pub border_takes : (b : ℕ) (drive : Drive) → border_drive b ≡ Some drive → Takes drive
border_takes b drive e = subst Taken e (border_taken b)
