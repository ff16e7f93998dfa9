-- `pgm::form::is_header` meets its contract: the header of the size is written, and looked for.
use mathlib.Core.Path.{sym, ap, ◌∙◌}
use mathlib.Core.Bool.{Bool, ◌&&◌}
use mathlib.Core.List.{List}
use Prim.Native.Nat.{ℕ}
use Rattle.pgm.specs.Form.{pgm_header, starts_with, is_header_of}
use Rattle.pgm.proofs.form.is_header.Goals as goal

pub returns-then-not-fine : goal.returns-then-not-fine
unfolding is_header_of
returns-then-not-fine c =
    let s = c.args in
    sym (ap (λ (b : Bool). b && starts_with (pgm_header s.width s.height) s.file.now) (sym c.in_range-fine.ensures ∙ c.if-not-fine.true))

pub returns : goal.returns
unfolding is_header_of
returns c =
    let s = c.args in
    let header = pgm_header s.width s.height in
    c.starts_with.ensures ∙ ap (λ (l : List ℕ). starts_with l s.file.now) (c.text.ensures ∙ c.text_of.ensures)
    ∙ sym (ap (λ (b : Bool). b && starts_with header s.file.now) (sym c.in_range-fine.ensures ∙ c.if-not-fine.false))
