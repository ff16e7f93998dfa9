-- `shift_report::words::voltage` meets its contract.
use mathlib.Core.Path.{sym, ◌∙◌}
use Rattle.shift_report.specs.Words.{voltage_word}
use Rattle.shift_report.proofs.words.voltage.Goals as goal

pub returns-then-is_word : goal.returns-then-is_word
unfolding voltage_word
returns-then-is_word c = rw (sym c.is_word.ensures ∙ c.if-is_word.true)

pub returns-then-is_word-2 : goal.returns-then-is_word-2
unfolding voltage_word
returns-then-is_word-2 c = rw (sym c.is_word.ensures ∙ c.if-is_word.false, sym c.is_word-2.ensures ∙ c.if-is_word-2.true)

pub returns-then-is_word-3 : goal.returns-then-is_word-3
unfolding voltage_word
returns-then-is_word-3 c =
    rw (sym c.is_word.ensures ∙ c.if-is_word.false, sym c.is_word-2.ensures ∙ c.if-is_word-2.false, sym c.is_word-3.ensures ∙ c.if-is_word-3.true)

pub returns : goal.returns
unfolding voltage_word
returns c =
    rw (sym c.is_word.ensures ∙ c.if-is_word.false, sym c.is_word-2.ensures ∙ c.if-is_word-2.false, sym c.is_word-3.ensures ∙ c.if-is_word-3.false)
