-- What is refused of a sheet: 11, 61, 62, 63, and what a call of `write` answers and leaves (SCOPE, Drive sheets; #104).
use Rattle.std.specs.Prelude.{◌≡◌, Bool, false, ◌||◌, List, [], ◌∷◌, ℕ, Result, Ok, Err, eqb, ltb, length, get_or}
use Rattle.numbers.specs.Choice.{pick}
use Rattle.waveform.specs.declared.GroupCodes.{GroupCodes}
use Rattle.config.specs.Answer.{Answer, accepted, refused, is_accepted, Test, first_of}
use Rattle.config.specs.Tests.{lent_test}
use Rattle.otp.specs.Search.{any_of}
use Rattle.drive_sheet.specs.declared.Sheet.{Sheet}
use Rattle.drive_sheet.specs.declared.SupplyCodes.{SupplyCodes}
use Rattle.drive_sheet.specs.declared.SheetError.{SheetError}
use Rattle.drive_sheet.specs.declared.SheetError.TheVariants.{Length, NoCode, Repeats, Code}
use Rattle.drive_sheet.specs.Supplies.{supply_codes_of, lacks_code}
use Rattle.drive_sheet.specs.Bytes.{group_at, setting_of}

-- bytes of a setting
abbrev pub setting_length : ℕ
setting_length = 112

-- repeats outside 1 to 256
unfoldable pub bad_repeats : GroupCodes → Bool
bad_repeats g = eqb g.repeats 0 || ltb 256 g.repeats

-- a LUT code exceeds 3
abbrev pub high_code : List ℕ → ℕ → Bool
high_code codes k = ltb 3 (get_or codes k 0)

-- one of the twenty LUT codes of a group does, or its frame-rate code exceeds 15
unfoldable pub bad_codes : GroupCodes → Bool
bad_codes g = any_of (high_code g.codes) 20 || ltb 15 g.frame_rate

-- 61: a voltage has no code
abbrev pub supplies_test : Sheet → Test
supplies_test h = record { number = 61; value = 0; refuses = lacks_code (supply_codes_of h) }

-- 62: a repeat is outside 1 to 256
abbrev pub repeats_test : Sheet → Test
repeats_test h = record { number = 62; value = 0; refuses = any_of (λ group. bad_repeats (group_at h group)) 10 }

-- 63: a LUT code exceeds 3 or a frame-rate code exceeds 15
abbrev pub codes_test : Sheet → Test
codes_test h = record { number = 63; value = 0; refuses = any_of (λ group. bad_codes (group_at h group)) 10 }

-- in this order, after 11 for lent bytes that are not 112
abbrev pub sheet_tests : Sheet → List ℕ → List Test
sheet_tests h lent = lent_test (length lent) setting_length ∷ supplies_test h ∷ repeats_test h ∷ codes_test h ∷ []

-- a sheet that 61, 62 and 63 let pass
pub record Writable (h : Sheet) : Type 0 where
  pub supplied : (supplies_test h).refuses ≡ false
  pub repeated : (repeats_test h).refuses ≡ false
  pub coded : (codes_test h).refuses ≡ false

-- such a sheet, with the codes of its voltages at hand
pub record Prepared (h : Sheet) (codes : SupplyCodes) : Type 0 where
  pub passes : Writable h
  pub found : codes ≡ supply_codes_of h

-- the number of each error; none has a value
unfoldable pub sheet_refusal : SheetError → Answer
sheet_refusal Length = refused 11 0
sheet_refusal NoCode = refused 61 0
sheet_refusal Repeats = refused 62 0
sheet_refusal Code = refused 63 0

-- what `write` answers
unfoldable pub told_of : {A : Type 0} → Result A SheetError → Answer
told_of (Ok value) = accepted
told_of (Err error) = sheet_refusal error

-- the number of an answer, 0 where nothing is refused
abbrev pub number_in : Answer → ℕ
number_in accepted = 0
number_in (refused number value) = number

-- the answer and the lent bytes as one
pub record Reply : Type 0 where
  pub answer : Answer
  pub bytes : List ℕ

-- the two
abbrev pub reply : Answer → List ℕ → Reply
reply answer bytes = record { answer = answer; bytes = bytes }

-- an answer, with the sheet's bytes where it accepts, and the lent ones as they were where it refuses
abbrev pub replied : Sheet → List ℕ → Answer → Reply
replied h lent answer = reply answer (pick (is_accepted answer) (setting_of h) lent)

-- `write`: the first test that refuses decides
unfoldable pub written_of : Sheet → List ℕ → Reply
written_of h lent = replied h lent (first_of (sheet_tests h lent))
