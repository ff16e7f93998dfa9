-- `line::columns::read` meets its contract.
use Rattle.std.specs.Prelude.{Option, None}
use mathlib.Core.Path.{◌≡◌, refl, ap, ◌∙◌}
use mathlib.Core.Bool.{Bool, ◌&&◌}
use mathlib.Core.List.{List}
use Prim.Native.Nat.{ℕ}
use lib.Dec.{eqb}
use lib.ListN.{length, take, drop, get_or}
use borrow.Author.Tests.{eq-eqb, ne_eqb}
use Rattle.numbers.proofs.Cases.{took, passed}
use Rattle.column.specs.Reading.{read_of}
use Rattle.line.specs.Lines.{three_of, columns_of}
use Rattle.line.specs.declared.columns.Columns.{Columns}
use Rattle.line.proofs.columns.read.Goals as goal

short : (l : List ℕ) → (length l ≡ 27 → ⊥) → None ≡ columns_of l
unfolding columns_of
short l h = passed _ _ _ _ (ap (λ (b : Bool). b && eqb (get_or l 26 0) 10) (ne_eqb (length l) 27 h)) refl

no_end : (l : List ℕ) → length l ≡ 27 → (get_or l 26 0 ≡ 10 → ⊥) → None ≡ columns_of l
unfolding columns_of
no_end l e h = passed _ _ _ _ (λ i. eq-eqb (length l) 27 e i && ne_eqb (get_or l 26 0) 10 h i) refl

whole : (l : List ℕ) (a b d : Option ℕ) (r : Option Columns) → length l ≡ 27 → get_or l 26 0 ≡ 10 → a ≡ read_of (take 20 l) → b ≡ read_of (take 2 (drop 20 l))
    → d ≡ read_of (take 4 (drop 22 l)) → r ≡ three_of a b d → r ≡ columns_of l
unfolding columns_of
whole l a b d r e f ea eb ed er =
    took _ _ _ _ (λ i. eq-eqb (length l) 27 e i && eq-eqb (get_or l 26 0) 10 f i) (er ∙ (λ i. three_of (ea i) (eb i) (ed i)))

pub returns-then-line-ne27 : goal.returns-then-line-ne27
returns-then-line-ne27 c = short c.args.line.now c.if-line-ne27.true

pub returns-then-line-ne10 : goal.returns-then-line-ne10
returns-then-line-ne10 c = no_end c.args.line.now c.if-line-ne27.false c.if-line-ne10.true

pub returns : goal.returns
returns c =
    let number = c in
    let s = number.args.line.now in
    whole s number.number-number.result c.number-kind.result c.number-value.result c.three.result
    number.if-line-ne27.false number.if-line-ne10.false number.number-number.ensures c.number-kind.ensures
    c.number-value.ensures c.three.ensures
