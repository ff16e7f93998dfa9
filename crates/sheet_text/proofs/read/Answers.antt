-- `sheet_text::read` meets its contract: writing the numbers gives the text back, or the line in which it does not.
use mathlib.Core.Path.{ap, ◌∙◌}
use Rattle.sheet_text.specs.Text.{sheet_text}
use Rattle.sheet_text.specs.Reading.{differs_in, drawing_of}
use Rattle.sheet_text.proofs.read.Goals as goal

pub returns : goal.returns
unfolding drawing_of
returns c =
    let text = c.args.text.now in
    let sheet = c.sheet_in-sheet.ensures in
    let written = c.text.ensures ∙ c.text_of.ensures ∙ ap sheet_text sheet in
    λ i. record { bad_line = (c.differing_line-bad_line.ensures ∙ ap (differs_in 1 text) written) i; sheet = sheet i }
