-- `drive_sheet::groups::frames_byte` meets its contract.
use native.Mathlib.Omega.{arith}
use borrow.Author.Tests.{lt-ltb, le-ltb}
use Rattle.drive_sheet.specs.Bytes.{frames_byte}
use Rattle.drive_sheet.proofs.Passes.{repeats_within}
use Rattle.drive_sheet.proofs.groups.frames_byte.Goals as goal

pub returns-then-place-lt4 : goal.returns-then-place-lt4
unfolding frames_byte
returns-then-place-lt4 c = rw (lt-ltb c.args.place 4 c.if-place-lt4.true)

pub overflow_sub-result : goal.overflow_sub-result
overflow_sub-result c = omega (arith, (repeats_within c.args.group c.requires).0)

pub overflow_cast-result : goal.overflow_cast-result
overflow_cast-result c = record { fits = omega (arith, (repeats_within c.args.group c.requires).1) }

pub returns : goal.returns
unfolding frames_byte
returns c = rw (le-ltb c.args.place 4 c.if-place-lt4.false)
