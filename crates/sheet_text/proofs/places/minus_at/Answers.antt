-- `sheet_text::places::minus_at` meets its contract.
use mathlib.Core.Path.{◌≡◌, ap, ◌∙◌}
use Prim.Native.Nat.{ℕ}
use native.Mathlib.Omega.{arith}
use lib.Dec.{eqb}
use Rattle.otp.specs.Search.{any_of}
use Rattle.otp.proofs.Search.{any_none, any_more}
use Rattle.sheet_text.proofs.places.minus_at.Invariants.{isMinus}
use Rattle.sheet_text.proofs.places.minus_at.Goals as goal

pub loop-i-init : goal.loop-i-init
loop-i-init c = any_none _

pub byte_at-byte-requires : goal.byte_at-byte-requires
byte_at-byte-requires c = tt

pub loop-i-preserved : goal.loop-i-preserved
loop-i-preserved c = any_more _ _ _ _ c.loop-i.invariant (ap (λ (b : ℕ). eqb b 45) c.byte_at-byte.ensures)

pub returns : goal.returns
returns c =
    let s = c.args in
    let n : c.loop-i.i ≡ 7 = omega arith in
    c.loop-i.invariant ∙ ap (any_of (isMinus s.text.now s.at)) n
