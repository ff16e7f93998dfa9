-- `sheet_text::places::number_at` meets its contract: the loop has read the number of the first i digits.
use mathlib.Core.Path.{◌≡◌, ap, ◌∙◌}
use Prim.Native.Nat.{ℕ}
use native.Mathlib.Omega.{arith}
use Rattle.numbers.specs.Lists.{tab}
use Rattle.column.specs.Reading.{value_of}
use Rattle.sheet_text.specs.Reading.{column_at}
use Rattle.sheet_text.proofs.Values.{value_none, value_more, bounded_more, bounded}
use Rattle.sheet_text.proofs.places.number_at.Invariants.{byteIn}
use Rattle.sheet_text.proofs.places.number_at.Goals as goal

pub loop-i-init : goal.loop-i-init
loop-i-init c = (value_none _, omega arith)

pub digit_at-digit-requires : goal.digit_at-digit-requires
digit_at-digit-requires c = tt

pub overflow_mul-n : goal.overflow_mul-n
overflow_mul-n c = let l = c in omega (arith, bounded l.loop-i.i l.loop-i.n (omega arith) l.loop-i.invariant.1)

pub from-requires : goal.from-requires
from-requires c = tt

pub overflow_add-n : goal.overflow_add-n
overflow_add-n c = let l = c in omega (arith, bounded l.loop-i.i l.loop-i.n (omega arith) l.loop-i.invariant.1)

pub loop-i-preserved : goal.loop-i-preserved
loop-i-preserved c =
    let l = c in
    let s = l.args in
    let d = c.from.ensures ∙ c.digit_at-digit.ensures.digit in (
      value_more l.loop-i.i (byteIn s.text.now s.at) l.loop-i.n _ l.loop-i.invariant.0 d,
      bounded_more l.loop-i.i l.loop-i.n _ l.loop-i.invariant.1 (omega (arith, c.from.ensures, c.digit_at-digit.ensures.small)),
    )

pub returns : goal.returns
unfolding column_at
returns c =
    let l = c in
    let s = l.args in
    let e : l.loop-i.i ≡ s.width = omega arith in record { number = l.loop-i.invariant.0 ∙ ap (λ (k : ℕ). value_of (tab k (byteIn s.text.now s.at))) e; small = omega (arith, bounded l.loop-i.i l.loop-i.n (omega arith) l.loop-i.invariant.1) }
