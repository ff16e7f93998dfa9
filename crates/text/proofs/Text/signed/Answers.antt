-- `text::Text::signed` meets its contract: the digits are those of the size, after the sign of a negative number.
use mathlib.Core.Path.{sym, ap, ◌∙◌}
use Rattle.numbers.proofs.Lin.{rd, back}
use Rattle.text.specs.Text.{written, decimal_of, signed_of}
use Rattle.text.proofs.Laws.{minus_of, plus_of}
use Rattle.text.proofs.Text.signed.Goals as goal
use Rattle.text.proofs.Text.signed.Goals.{then-z-lt0, else-z-lt0}

pub returns : goal.returns
unfolding written
returns c =
    let s = c.args in
    let digits = ap decimal_of (c.unsigned_abs.ensures.value) in
    elim c.if-z-lt0.branch [
      | then-z-lt0 w ↦
          c.number.ensures ∙ (λ i. written ((w.self-is ∙ w.put.ensures) i) (digits i))
          ∙ ap (written s.self.now) (sym (minus_of (rd s.z) w.if-z-lt0.true) ∙ ap signed_of (back c.ranges.z))
      | else-z-lt0 w ↦
          c.number.ensures ∙ (λ i. written (w.self-is i) (digits i))
          ∙ ap (written s.self.now) (sym (plus_of (rd s.z) w.if-z-lt0.false) ∙ ap signed_of (back c.ranges.z))
    ]
