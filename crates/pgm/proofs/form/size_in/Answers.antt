-- `pgm::form::size_in` meets its contract.
use mathlib.Core.Path.{ap, ◌∙◌}
use Prim.Native.Nat.{◌+◌}
use Rattle.pgm.specs.declared.form.Number.{Number}
use Rattle.pgm.specs.Form.{number_at, size_in}
use Rattle.pgm.proofs.form.size_in.Goals as goal

pub returns : goal.returns
unfolding size_in
returns c =
    let f = c.args.file.now in
    let width = c.number_at-width.ensures.number in
    let height = c.number_at-height.ensures.number ∙ ap (λ (n : Number). number_at f (n.end + 1)) width in
    λ i. record { width = (width i).value; height = (height i).value }
