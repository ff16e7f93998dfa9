-- The charge that a waveform leaves in the glass (SCOPE, Charge): the signed sum of its drives, in millivolts × nanoseconds.
use Rattle.std.specs.Prelude.{false, List, [], ◌∷◌, ℕ, ◌≤◌, ◌<◌, ltb, ℤ, pos, nat_abs, ◌+ℤ◌, length, get_or, Result, Ok, Err}
use Rattle.numbers.specs.Choice.{pick}
use Rattle.waveform.specs.declared.Drive.TheVariants.{Lut}
use Rattle.waveform.specs.declared.Group.{Group}
use Rattle.waveform.specs.declared.Phase.{Phase}
use Rattle.waveform.specs.declared.Waveform.{Waveform}
use Rattle.waveform.specs.Voltages.{AllListable}
use Rattle.waveform.specs.Phases.{no_group}
use Rattle.waveform.specs.Exact.{all_drives, setting_phases}
use Rattle.config.specs.Answer.{Answer, accepted, refused, is_accepted, Test, first_of, refused_by}
use Rattle.config.specs.Tests.{periods_test, lent_test}
use Rattle.otp.specs.Search.{any_of}
use Rattle.charges.specs.declared.ChargeError.{ChargeError}
use Rattle.charges.specs.declared.ChargeError.TheVariants.{Parameters, LongPeriod, OtherLength}
use Rattle.charges.specs.declared.PixelLut.{PixelLut}
use Rattle.charges.specs.declared.PixelLut.TheVariants.{Lut0, Lut1, Lut2, Lut3}

-- whole numbers, added
unfoldable pub sum_z : List ℤ → ℤ
sum_z [] = pos 0
sum_z (z ∷ zs) = z +ℤ sum_z zs

-- the drives of some phases, added: those of the exact reckoning (waveform/specs/Exact), before the panel's sign, and no sum held
abbrev pub drive_sum : List Phase → ℤ
drive_sum phases = sum_z (all_drives false phases)

-- the charge that a LUT of a setting leaves: all phases of all repeats, of the 112 bytes and the period of each frame-rate code
abbrev pub charge_of : List ℕ → List ℕ → ℕ → ℤ
charge_of setting periods lut = drive_sum (setting_phases setting periods (Lut lut))

-- the longest period of which a sum is reckoned, in nanoseconds: up to it no sum leaves 64 bits
abbrev pub longest_period : ℕ
longest_period = 100000000

-- 81: a frame period above that
abbrev pub long_period_test : List ℕ → Test
long_period_test periods = record { number = 81; value = 0; refuses = any_of (λ code. ltb longest_period (get_or periods code 0)) 16 }

-- what a call answers, and what it gives or leaves beside it
pub record WithAnswer (A : Type 0) : Type 0 where
  pub answer : Answer
  pub held : A

-- the two as one
abbrev pub with_answer : {A : Type 0} → Answer → A → WithAnswer A
with_answer answer held = record { answer = answer; held = held }

-- the answer of the first test that refuses, beside what was there; where none does, beside what is done
unfoldable pub tested : {A : Type 0} → List Test → A → A → WithAnswer A
tested tests before done = with_answer (first_of tests) (pick (is_accepted (first_of tests)) done before)

-- the number and the value of each error
unfoldable pub charge_refusal : ChargeError → Answer
charge_refusal (Parameters error) = refused_by error
charge_refusal LongPeriod = refused 81 0
charge_refusal OtherLength = refused 11 0

-- ---- one sum

-- the LUTs that drive pixels
abbrev pub lut_number : PixelLut → ℕ
lut_number Lut0 = 0
lut_number Lut1 = 1
lut_number Lut2 = 2
lut_number Lut3 = 3

-- the number, the value and the sum of each case; a refusal has the sum 0
unfoldable pub charged_of : Result ℤ ChargeError → WithAnswer ℤ
charged_of (Ok z) = with_answer accepted z
charged_of (Err error) = with_answer (charge_refusal error) (pos 0)

-- 5, 81, 11
abbrev pub charge_tests : List ℕ → List ℕ → List Test
charge_tests periods setting = periods_test periods ∷ long_period_test periods ∷ lent_test (length setting) 112 ∷ []

-- ---- what keeps every product and every sum within 64 bits

-- a phase of a setting: the datasheet lists millivolts up to 17,000, and frames are a byte
pub record BoundedPhase (p : Phase) : Type 0 where
  pub millivolts_within : nat_abs p.millivolts ≤ 34000
  pub frames_within : p.frames ≤ 255
  pub period_within : p.frame_ns ≤ longest_period

-- a group of a setting: its repeats minus one are a byte too
pub record BoundedGroup (g : Group) : Type 0 where
  pub frames_within : (k : ℕ) → get_or g.frames k 0 ≤ 255
  pub repeats_within : g.repeats ≤ 256
  pub period_within : g.frame_ns ≤ longest_period

-- a waveform of such groups
pub record BoundedWaveform (w : Waveform) : Type 0 where
  pub listable : AllListable w.levels
  pub groups_bounded : (k : ℕ) → k < 10 → BoundedGroup (get_or w.groups k no_group)

-- no period that 81 refuses
abbrev pub AllShort : List ℕ → Type 0
AllShort periods = (code : ℕ) → code < 16 → get_or periods code 0 ≤ longest_period
