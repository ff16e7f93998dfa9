-- `sheet_text::put_setting` meets its contract.
use mathlib.Core.Path.{◌≡◌, refl, sym, ap, ◌∙◌}
use mathlib.Core.List.{List}
use Prim.Native.Nat.{ℕ}
use lib.ListN.{replicate}
use Rattle.config.specs.Answer.{accepted}
use Rattle.column.specs.Columns.{gathered}
use Rattle.drive_sheet.specs.declared.Sheet.{Sheet}
use Rattle.drive_sheet.specs.declared.SheetError.{SheetError}
use Rattle.drive_sheet.specs.declared.SheetError.TheVariants.{Length, NoCode, Repeats, Code}
use Rattle.drive_sheet.specs.Tests.{setting_length, sheet_refusal, told_of, number_in, Reply, reply, written_of}
use Rattle.sheet_text.specs.Answer.{number_text, reply_text, setting_text}
use Rattle.sheet_text.proofs.put_setting.Goals as goal

abbrev lent : List ℕ
lent = replicate setting_length 0

module _ (h : Sheet) (bytes : List ℕ) where
  -- accepted, the bytes are the sheet's
  is-setting : reply accepted bytes ≡ written_of h lent → bytes ≡ setting_text h
  unfolding written_of setting_text
  is-setting e =
      let told : (written_of h lent).answer ≡ accepted = sym (ap (λ (r : Reply). r.answer) e) in
      ap (λ (r : Reply). r.bytes) e ∙ rw told refl

  told_number : (error : SheetError) → number_text (number_in (sheet_refusal error)) ≡ reply_text h (sheet_refusal error)
  unfolding sheet_refusal
  told_number Length = refl
  told_number NoCode = refl
  told_number Repeats = refl
  told_number Code = refl

  is_number : (error : SheetError) → reply (sheet_refusal error) bytes ≡ written_of h lent → number_text (number_in (sheet_refusal error)) ≡ setting_text h
  unfolding setting_text
  is_number error e = told_number error ∙ ap (λ (r : Reply). reply_text h r.answer) e

pub returns-in-Ok : goal.returns-in-Ok
unfolding told_of
returns-in-Ok c =
    c.put_text.ensures ∙ ap (gathered setting_length c.args.answer.now) (is-setting c.args.sheet c.write.new.out c.in-Ok.ensures.bytes)

pub returns-in-Err : goal.returns-in-Err
unfolding told_of
returns-in-Err c =
    c.put_number.ensures
    ∙ ap (gathered setting_length c.args.answer.now)
    (ap number_text c.from.ensures ∙ is_number c.args.sheet c.write.new.out c.in-Err.error c.in-Err.ensures.bytes)
