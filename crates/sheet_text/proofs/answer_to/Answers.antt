-- `sheet_text::answer_to` meets its contract.
use Rattle.std.specs.Prelude.{Option}
use mathlib.Core.Path.{◌≡◌, sym, ap, ◌∙◌}
use mathlib.Core.List.{List, []}
use Prim.Native.Nat.{ℕ}
use native.Mathlib.Omega.{arith}
use Rattle.column.specs.Columns.{gathered}
use Rattle.column.proofs.Gathered.{all_fits}
use Rattle.drive_sheet.specs.Tests.{setting_length}
use Rattle.sheet_text.specs.declared.Drawing.{Drawing}
use Rattle.sheet_text.specs.Reading.{drawing_of}
use Rattle.sheet_text.specs.Answer.{drawing_text, answer_text}
use Rattle.sheet_text.proofs.Lengths.{drawing_length}
use Rattle.sheet_text.proofs.answer_to.Goals as goal

-- the text of what was read
drawn : (text : List ℕ) (r : Drawing) {g b t : List ℕ} → r ≡ drawing_of text → g ≡ [] → b ≡ gathered setting_length g t → t ≡ drawing_text r.bad_line r.sheet
    → b ≡ answer_text text
unfolding drawing_of answer_text
drawn text r e f h is =
    h ∙ (λ i. gathered setting_length (f i) (is i))
    ∙ all_fits setting_length [] (drawing_text r.bad_line r.sheet) (omega (arith, drawing_length r.bad_line r.sheet))
    ∙ ap (λ (d : Drawing). drawing_text d.bad_line d.sheet) e

pub returns-in-Some : goal.returns-in-Some
returns-in-Some c =
    let r = c.read-drawing.result in
    drawn c.args.text.now r c.read-drawing.ensures c.new-answer.ensures c.put_bad_line.ensures (sym (ap (λ (l : Option ℕ). drawing_text l r.sheet) c.in-Some.is))

pub returns-in-None : goal.returns-in-None
returns-in-None c =
    let r = c.read-drawing.result in
    drawn c.args.text.now r c.read-drawing.ensures c.new-answer.ensures c.put_setting.ensures (sym (ap (λ (l : Option ℕ). drawing_text l r.sheet) c.in-None.is))
