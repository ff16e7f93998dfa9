-- What a call that may refuse answers: the number and the value (SCOPE, Refusals).
use Rattle.std.specs.Prelude.{Bool, true, false, List, [], ◌∷◌, ℕ, Result, Ok, Err}
use Rattle.numbers.specs.Choice.{pick}
use Rattle.config.specs.declared.ConfigError.{ConfigError}
use Rattle.config.specs.declared.ConfigError.TheVariants.{EmptyPanel, PanelOutsideRam, OddRowsWithGd, ZeroSwing, ZeroFramePeriod, ZeroFrequency, BadTable, OtpVoltage}

-- accepted, or refused with a number and its value (0 where there is none)
pub data Answer : Type 0 where
  accepted : Answer
  refused : ℕ → ℕ → Answer

-- nothing is refused
abbrev pub is_accepted : Answer → Bool
is_accepted accepted = true
is_accepted (refused n v) = false

-- a test: its number, the value that it answers with, and whether it refuses
pub record Test : Type 0 where
  pub number : ℕ
  pub value : ℕ
  pub refuses : Bool

-- the tests in their order: the first that refuses decides
unfoldable pub first_of : List Test → Answer
first_of [] = accepted
first_of (t ∷ ts) = pick t.refuses (refused t.number t.value) (first_of ts)

-- the number and value of each case: of 5 the value is the code, of 6 the entry's index
unfoldable pub refused_by : ConfigError → Answer
refused_by EmptyPanel = refused 1 0
refused_by PanelOutsideRam = refused 2 0
refused_by OddRowsWithGd = refused 3 0
refused_by ZeroSwing = refused 4 0
refused_by (ZeroFramePeriod code) = refused 5 code
refused_by ZeroFrequency = refused 14 0
refused_by BadTable = refused 12 0
refused_by (OtpVoltage index) = refused 6 index

-- what a test of parameters answers
unfoldable pub answer_of : {A : Type 0} → Result A ConfigError → Answer
answer_of (Ok value) = accepted
answer_of (Err error) = refused_by error
