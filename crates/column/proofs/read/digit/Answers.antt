-- `column::read::digit` meets its contract.
use Rattle.std.specs.Prelude.{Some, None}
use mathlib.Core.Path.{sym, ap, ◌∙◌}
use Prim.Native.Nat.{ℕ, ◌+◌, ◌-◌, ◌*◌, ◌^◌}
use native.Mathlib.Omega.{arith}
use borrow.Author.Tests.{lt-ltb, le-ltb}
use Rattle.numbers.specs.Choice.{pick}
use Rattle.column.proofs.Reading.{no_digit, a_digit}
use Rattle.column.proofs.read.digit.Goals as goal

pub returns-then-byte-lt48 : goal.returns-then-byte-lt48
returns-then-byte-lt48 c = sym (no_digit c.args.n c.args.byte (λ h k. omega arith))

pub returns-then-byte-gt57 : goal.returns-then-byte-gt57
returns-then-byte-gt57 c = sym (no_digit c.args.n c.args.byte (λ h k. omega arith))

pub returns-then-units-n : goal.returns-then-units-n
returns-then-units-n c =
    let s = c.args in
    sym
    (a_digit s.n s.byte (omega arith) (omega arith)
    ∙ ap (λ b. pick b (Some (10 * s.n + (s.byte - 48))) None) (le-ltb (10 * s.n + (s.byte - 48)) (2 ^ 64) (omega (arith, c.from-units.ensures))))

pub returns : goal.returns
returns c =
    let s = c.args in
    sym
    (a_digit s.n s.byte (omega arith) (omega arith)
    ∙ ap (λ b. pick b (Some (10 * s.n + (s.byte - 48))) None) (lt-ltb (10 * s.n + (s.byte - 48)) (2 ^ 64) (omega (arith, c.from-units.ensures)))
    ∙ ap (λ (units : ℕ). Some (10 * s.n + units)) (sym c.from-units.ensures))
