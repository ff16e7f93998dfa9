-- `header_of` meets its contract.
use mathlib.Core.Path.{◌≡◌, refl}
use mathlib.Core.Bool.{Bool, true, false}
use mathlib.Core.List.{[], ◌∷◌}
use mir.Val.{bool_byte}
use Rattle.numbers.specs.Choice.{pick}
use Rattle.bench.specs.Made.{header_of}
use Rattle.bench.proofs.KindNumbers.{kind_is}
use Rattle.bench.proofs.made.header_of.Goals as goal

flag : (b : Bool) → bool_byte b ≡ pick b 1 0
flag true = refl
flag false = refl

pub returns : goal.returns
unfolding header_of
returns c =
    let m = c.args.image in
    λ i. m.width ∷ m.height ∷ m.border ∷ m.generation ∷ kind_is m.kind i ∷ flag m.interrupted i ∷ m.started ∷ m.at ∷ []
