-- `text::Text::number` meets its contract: the digits that `io` gives are the decimal's.
use mathlib.Core.Path.{ap, ◌∙◌}
use native.Mathlib.Omega.{arith}
use Rattle.text.specs.Text.{written}
use Rattle.text.proofs.Laws.{decimal_is}
use Rattle.text.proofs.Text.number.Goals as goal

pub returns : goal.returns
returns c =
    let s = c.args in
    let d = c.decimal-count in
    c.word.ensures ∙ ap (written s.self.now) (d.ensures.digits ∙ decimal_is s.n d.result (omega arith) d.ensures.len)
