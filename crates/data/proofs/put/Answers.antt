-- `data::put` meets its contract.
use mathlib.Core.Path.{refl}
use borrow.Author.Tests.{eq-eqb, ne_eqb}
use Rattle.numbers.proofs.Cases.{took, passed}
use Rattle.data.proofs.put.Goals as goal

pub returns-then-command-eq36 : goal.returns-then-command-eq36
returns-then-command-eq36 c = let t = eq-eqb c.args.command 0x24 c.if-command-eq36.true in record { value = rw t c.write.ensures.value; black_white_after = took _ _ _ _ t c.write.ensures.plane_after; red_after = took _ _ _ _ t refl }

pub returns : goal.returns
returns c = let t = ne_eqb c.args.command 0x24 c.if-command-eq36.false in record { value = rw t c.write-2.ensures.value; black_white_after = passed _ _ _ _ t refl; red_after = passed _ _ _ _ t c.write-2.ensures.plane_after }
