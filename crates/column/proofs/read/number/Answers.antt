-- `column::read::number` meets its contract: the front is that of the bytes gone over.
use Rattle.std.specs.Prelude.{Option, Some}
use mathlib.Core.Path.{◌≡◌, sym, ap, ◌∙◌}
use mathlib.Core.List.{List, [], ◌∷◌, ◌++◌}
use Prim.Native.Nat.{ℕ, ◌+◌}
use native.Mathlib.Omega.{arith}
use lib.ListN.{length, take}
use lib.Seq.{take-length}
use Rattle.column.specs.Reading.{read_of, last_of}
use Rattle.column.proofs.Reading.{front_of, front_none, front_more_at, read_more, read_stays, read_none}
use Rattle.column.proofs.read.number.Goals as goal

whole : (xs l : List ℕ) (c n : ℕ) → xs ≡ l ++ (c ∷ []) → Some n ≡ front_of l → last_of (Some n) c ≡ read_of xs
whole xs l c n h e = ap (λ (f : Option ℕ). last_of f c) e ∙ sym (read_more l c) ∙ ap read_of (sym h)

pub returns-in_err-units : goal.returns-in_err-units
returns-in_err-units c = rw c.from_residual.ensures (sym (read_none c.args.column.now c.in_err-units.ensures.cases))

pub loop-byte-init : goal.loop-byte-init
loop-byte-init c = sym front_none

pub returns-in_err-front : goal.returns-in_err-front
returns-in_err-front c =
    let l = c.in_ok-units.rest.now in
    let i = c.loop-byte.byte-index in
    rw c.from_residual-in_err-front.ensures
    (sym (ap read_of c.in_ok-units.ensures.cases.0
    ∙ read_stays l (i + 1) _ (sym (front_more_at l i c.loop-byte.front (omega arith) c.loop-byte.invariant) ∙ sym c.in_err-front.ensures)))

pub loop-byte-preserved : goal.loop-byte-preserved
loop-byte-preserved c =
    c.in_ok-front.ensures ∙ front_more_at c.in_ok-units.rest.now c.loop-byte.byte-index c.loop-byte.front (omega arith) c.loop-byte.invariant

pub returns : goal.returns
returns c =
    let l = c.in_ok-units.rest.now in
    let there : c.loop-byte.byte-index ≡ length l = omega arith in
    c.digit.ensures
    ∙ whole _ l _ c.loop-byte.front c.in_ok-units.ensures.cases.0
    (c.loop-byte.invariant ∙ ap (λ (n : ℕ). front_of (take n l)) there ∙ ap front_of (take-length l))
