-- `drive_sheet::groups::codes_byte` meets its contract.
use mathlib.Core.Path.{◌∙◌}
use Prim.Native.Nat.{◌+◌, ◌*◌}
use native.Mathlib.Nat.{add-zero}
use native.Mathlib.Omega.{arith}
use Rattle.drive_sheet.specs.Bytes.{codes_byte}
use Rattle.drive_sheet.proofs.Passes.{code_below}
use Rattle.drive_sheet.proofs.groups.codes_byte.Goals as goal

pub packed-requires : goal.packed-requires
packed-requires c =
    let s = c in
    let below = code_below s.args.group s.requires.1 in
    let at = 4 * s.args.lut in
    (below at (omega arith), (below (at + 1) (omega arith), (below (at + 2) (omega arith), below (at + 3) (omega arith))))

pub returns : goal.returns
unfolding codes_byte
returns c = c.packed.ensures ∙ simp add-zero
