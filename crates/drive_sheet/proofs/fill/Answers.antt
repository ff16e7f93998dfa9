-- `drive_sheet::fill` meets its contract: the loop paints the sheet's bytes from the front.
use mathlib.Core.Path.{ap, ◌∙◌}
use Prim.Native.Nat.{ℕ}
use native.Mathlib.Omega.{arith}
use Rattle.numbers.specs.Lists.{tab}
use Rattle.numbers.proofs.Painted.{painted_none, painted_more, painted_all}
use Rattle.drive_sheet.specs.Bytes.{sheet_byte, setting_of}
use Rattle.drive_sheet.proofs.fill.Goals as goal

pub loop-i-init : goal.loop-i-init
loop-i-init c = painted_none _ _

pub byte_at-requires : goal.byte_at-requires
byte_at-requires c = (omega arith, c.requires.1)

pub loop-i-preserved : goal.loop-i-preserved
loop-i-preserved c = painted_more c.loop-i.invariant (omega arith) c.byte_at.ensures

pub shape_of-out : goal.shape_of-out
shape_of-out c = c.loop-i.invariant.long

pub returns : goal.returns
unfolding setting_of
returns c =
    let s = c in
    painted_all c.loop-i.invariant (omega arith) ∙ ap (λ (n : ℕ). tab n (sheet_byte s.args.sheet)) s.requires.0
