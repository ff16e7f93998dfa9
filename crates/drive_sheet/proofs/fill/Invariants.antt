use Rattle.numbers.proofs.Painted.{Painted}
use Rattle.drive_sheet.specs.Bytes.{sheet_byte}
use Rattle.drive_sheet.proofs.fill.Given as goal

abbrev pub invariant-loop-i : goal.invariant-loop-i
invariant-loop-i l = Painted l.i (sheet_byte l.sheet) l.initial.out l.out
