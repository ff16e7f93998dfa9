-- `shift_report::text_of` meets its contract.
use mathlib.Core.Path.{◌≡◌, ap, ◌∙◌}
use mathlib.Core.List.{List, []}
use Prim.Native.Nat.{ℕ}
use native.Mathlib.Omega.{arith}
use Rattle.column.specs.Columns.{gathered}
use Rattle.column.proofs.Gathered.{all_fits}
use Rattle.voltage_shift.specs.Bounds.{ShiftAnswer, shift_answer}
use Rattle.shift_report.specs.Report.{number_line, shift_text, lines_room}
use Rattle.shift_report.proofs.Lengths.{text_length}
use Rattle.shift_report.proofs.text_of.Goals as goal

alone : (a : ShiftAnswer) {g b text : List ℕ} → g ≡ [] → b ≡ gathered lines_room g text → text ≡ shift_text a → b ≡ shift_text a
alone a e f h = f ∙ (λ i. gathered lines_room (e i) (h i)) ∙ all_fits lines_room [] (shift_text a) (omega (arith, text_length a))

pub returns-in-Ok : goal.returns-in-Ok
unfolding shift_text shift_answer
returns-in-Ok c = alone (shift_answer c.args.bounded) c.new-text.ensures c.put_lines.ensures (rw c.in-Ok.is)

pub returns-in-Err : goal.returns-in-Err
unfolding shift_text shift_answer
returns-in-Err c =
    alone (shift_answer c.args.bounded) c.new-text.ensures c.put_number.ensures (ap number_line c.number_of.ensures ∙ rw c.in-Err.is)
