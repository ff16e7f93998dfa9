-- What the border register has the border do (command 0x3C).
use Rattle.std.specs.Prelude.{ℕ, ◌/◌, ◌%◌, eqb, Option, Some, None}
use Rattle.numbers.specs.Choice.{pick}
use Rattle.waveform.specs.declared.Drive.TheVariants.{Lut, Fixed}
use Rattle.waveform.specs.declared.Drive.{Drive}

-- bits 7:6 are 00: the LUT of bits 1:0; 01: the fixed level of bits 5:4, a VS code; else nothing drives it (0x3C)
unfoldable pub border_drive : ℕ → Option Drive
border_drive b = pick (eqb (b / 64) 0) (Some (Lut (b % 4))) (pick (eqb (b / 64) 1) (Some (Fixed (b / 16 % 4))) None)
