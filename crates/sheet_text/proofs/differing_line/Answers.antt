-- `sheet_text::differing_line` meets its contract: what is left of both texts is still to compare.
use mathlib.Core.Path.{◌≡◌, sym, ap, ◌∙◌}
use Prim.Native.Nat.{ℕ}
use native.Mathlib.Omega.{arith}
use lib.ListN.{length}
use Rattle.sheet_text.specs.Reading.{differs_in}
use Rattle.sheet_text.proofs.Differ.{goes_on, stops, one, ends, one_ends, after_most}
use Rattle.sheet_text.proofs.differing_line.Goals as goal

-- the iterator begins with both texts
first : (c : goal.After-into_iter-byte-iterator) → c.into_iter-byte-iterator.result.a.rest.now ≡ c.args.text.now
first c = search (c.into_iter-byte-iterator.ensures, c.zip-byte-items.ensures, c.iter.ensures)

second : (c : goal.After-into_iter-byte-iterator) → c.into_iter-byte-iterator.result.b.rest.now ≡ c.args.written.now
second c = search (c.into_iter-byte-iterator.ensures, c.zip-byte-items.ensures)

pub loop-byte-init : goal.loop-byte-init
loop-byte-init c =
    ((tt, tt), tt, sym (λ i. differs_in 1 (first c i) (second c i)), omega (arith, ap length (first c)), omega (arith, ap length (first c), ap length (second c)))

pub returns-then-byte-other : goal.returns-then-byte-other
returns-then-byte-other c =
    let n = c.loop-byte.line in
    let e = c.in-Some.ensures.steps in
    stops n _ _ _ _ c.if-byte-other.true ∙ sym (c.loop-byte.invariant.2 ∙ (λ i. differs_in n (e.0 i) (e.1 i)))

pub line_after-line-requires : goal.line_after-line-requires
line_after-line-requires c = omega (arith, c.loop-byte.invariant.3, ap length c.in-Some.ensures.steps.0)

pub loop-byte-preserved : goal.loop-byte-preserved
loop-byte-preserved c =
    let n = c.loop-byte.line in
    let e = c.in-Some.ensures.steps in
    let i = c.loop-byte.invariant in
    let after = c.line_after-line.ensures in (
      (tt, tt),
      tt,
      i.2 ∙ (λ j. differs_in n (e.0 j) (e.1 j)) ∙ goes_on n _ _ _ _ c.if-byte-other.false ∙ ap (λ (m : ℕ). differs_in m c.next.new.self.a.rest.now c.next.new.self.b.rest.now) (sym after),
      omega (arith, after, after_most n c.in-Some.byte.now, i.3, ap length e.0),
      omega (arith, i.4, ap length e.0, ap length e.1),
    )

pub returns-then-text-written : goal.returns-then-text-written
returns-then-text-written c =
    let i = c.loop-byte.invariant in
    ends c.loop-byte.line _ _ (one c.loop-byte.byte-iterator.a c.loop-byte.byte-iterator.b c.in-None.ensures.steps) (omega (arith, i.4, c.if-text-written.true)) ∙ sym i.2

pub returns : goal.returns
returns c =
    let i = c.loop-byte.invariant in
    one_ends c.loop-byte.line _ _ (one c.loop-byte.byte-iterator.a c.loop-byte.byte-iterator.b c.in-None.ensures.steps) (λ h. omega (arith, i.4, c.if-text-written.false)) ∙ sym i.2
