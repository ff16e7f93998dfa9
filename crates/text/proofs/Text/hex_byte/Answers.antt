-- `text::Text::hex_byte` meets its contract.
use mathlib.Core.Path.{◌∙◌}
use mathlib.Core.List.{[], ◌∷◌}
use Rattle.text.specs.Text.{written, hex_of}
use Rattle.text.proofs.Text.hex_byte.Goals as goal

pub returns : goal.returns
unfolding hex_of
returns c = c.word.ensures ∙ (λ i. written c.args.self.now (c.digit.ensures i ∷ c.digit-2.ensures i ∷ []))
