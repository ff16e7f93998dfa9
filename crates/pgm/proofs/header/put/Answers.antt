-- `pgm::header::put` meets its contract.
use mathlib.Core.Path.{ap, ◌∙◌}
use mathlib.Core.List.{List, ◌++◌}
use Prim.Native.Nat.{ℕ}
use lib.ListN.{length, drop}
use lib.Seq.{take-length}
use Rattle.pgm.specs.Files.{over_front}
use Rattle.pgm.proofs.header.put.Goals as goal

pub copy-requires : goal.copy-requires
copy-requires c = rw (c.text.ensures, c.text_of.ensures) c.requires.room

pub returns : goal.returns
returns c =
    let s = c.args in
    c.copy.ensures.front ∙ ap (λ (l : List ℕ). l ++ drop (length c.text.result.now) s.out.now) (take-length c.text.result.now)
    ∙ ap (λ (l : List ℕ). over_front l s.out.now) (c.text.ensures ∙ c.text_of.ensures)
