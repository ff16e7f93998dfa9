use Rattle.std.specs.Prelude.{Some}
use mathlib.Core.Path.{◌≡◌}
use lib.ListN.{take}
use Rattle.column.proofs.Reading.{front_of}
use Rattle.column.proofs.read.number.Given as goal

abbrev pub invariant-loop-byte : goal.invariant-loop-byte
invariant-loop-byte l = Some l.front ≡ front_of (take l.byte-index l.rest)
