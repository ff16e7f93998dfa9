-- `line::fields::largest` meets its contract: the table's rule is a test at each of its 54 entries, which antt computes.
use mathlib.Core.List.{List, [], ◌∷◌}
use mathlib.Core.Bool.{Bool}
use Prim.Native.Nat.{ℕ, ◌+◌, ◌^◌}
use lib.Dec.{eqb, eqb→eq}
use lib.ListN.{get_or}
use Rattle.numbers.proofs.Every.{at}
use Rattle.line.specs.Fields.{bits_of}
use borrow.Author.Rules.{rules}
use Rattle.line.proofs.fields.largest.Goals as goal

table : List ℕ
table =
    65535 ∷ 65535 ∷ 65535 ∷ 1 ∷ 1 ∷ 1 ∷ 1 ∷ 1 ∷ 18446744073709551615 ∷ 1 ∷ 255 ∷ 1 ∷ 18446744073709551615 ∷ 18446744073709551615 ∷ 18446744073709551615 ∷ 18446744073709551615 ∷ 18446744073709551615 ∷ 18446744073709551615 ∷ 18446744073709551615 ∷ 18446744073709551615 ∷ 18446744073709551615 ∷ 18446744073709551615 ∷ 18446744073709551615 ∷ 18446744073709551615 ∷ 18446744073709551615 ∷ 18446744073709551615 ∷ 18446744073709551615 ∷ 18446744073709551615 ∷ 18446744073709551615 ∷ 18446744073709551615 ∷ 18446744073709551615 ∷ 18446744073709551615 ∷ 18446744073709551615 ∷ 18446744073709551615 ∷ 18446744073709551615 ∷ 18446744073709551615 ∷ 18446744073709551615 ∷ 18446744073709551615 ∷ 1 ∷ 65535 ∷ 1 ∷ 65535 ∷ 4294967295 ∷ 255 ∷ 255 ∷ 255 ∷ 255 ∷ 255 ∷ 255 ∷ 255 ∷ 255 ∷ 255 ∷ 255 ∷ 4294967295 ∷ []

right : ℕ → ℕ → Bool
right k x = eqb (x + 1) (2 ^ bits_of k)

pub returns : goal.returns
unfolding table right bits_of
returns c = eqb→eq (get_or table c.args.field 0 + 1) (2 ^ bits_of c.args.field) (at right table tt c.args.field (search rules))
