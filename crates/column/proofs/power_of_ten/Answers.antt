-- `column::power_of_ten` meets its contract: the table's rule is a test at each of its twenty entries, which antt computes.
use mathlib.Core.List.{List, [], ◌∷◌}
use mathlib.Core.Bool.{Bool}
use Prim.Native.Nat.{ℕ, ◌^◌}
use lib.Dec.{eqb, eqb→eq}
use lib.ListN.{get_or}
use Rattle.numbers.proofs.Every.{at}
use borrow.Author.Rules.{rules}
use Rattle.column.proofs.power_of_ten.Goals as goal

powers : List ℕ
powers =
    1 ∷ 10 ∷ 100 ∷ 1000 ∷ 10000 ∷ 100000 ∷ 1000000 ∷ 10000000 ∷ 100000000 ∷ 1000000000 ∷ 10000000000 ∷ 100000000000 ∷ 1000000000000 ∷ 10000000000000 ∷ 100000000000000
    ∷ 1000000000000000 ∷ 10000000000000000 ∷ 100000000000000000 ∷ 1000000000000000000 ∷ 10000000000000000000 ∷ []

right : ℕ → ℕ → Bool
right k x = eqb x (10 ^ k)

pub returns : goal.returns
unfolding powers right
returns c = eqb→eq (get_or powers c.args.place 0) (10 ^ c.args.place) (at right powers tt c.args.place (search rules))
