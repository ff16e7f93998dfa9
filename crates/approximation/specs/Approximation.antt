-- Whether what is shown rests on values not measured on a device (config.rs, `is_approximation`).
use Rattle.std.specs.Prelude.{Bool, true, false, ◌||◌, List, [], ◌∷◌, ℕ, eqb, Result, Ok, Err}
use Rattle.numbers.specs.Choice.{pick}
use Rattle.glass.specs.declared.Provenance.{Provenance}
use Rattle.glass.specs.declared.Provenance.TheVariants.{Approximation, Measured}
use Rattle.config.specs.declared.ConfigError.{ConfigError}
use Rattle.config.specs.declared.Ssd1677Config.{Ssd1677Config}
use Rattle.config.specs.Answer.{Answer, accepted, first_of, refused_by}
use Rattle.otp.specs.Table.{entry_count, provenance_at, bad_table, table_test}
use Rattle.otp.specs.Search.{any_of}

-- a provenance that is not measured
abbrev pub approximate : Provenance → Bool
approximate Approximation = true
approximate Measured = false

-- an entry not measured: 0 (SCOPE, OTP table)
abbrev pub approximate_entry : List ℕ → ℕ → Bool
approximate_entry otp entry = eqb (provenance_at otp entry) 0

-- what is answered, and whether the configuration is an approximation (no, where it is refused)
pub record Outcome : Type 0 where
  pub told : Answer
  pub approximation : Bool

-- the number of each case
unfoldable pub outcome_of : Result Bool ConfigError → Outcome
outcome_of (Ok b) = record { told = accepted; approximation = b }
outcome_of (Err error) = record { told = refused_by error; approximation = false }

-- the optics, the durations or a waveform of the table; a table that 12 refuses is refused
unfoldable pub approximated : Ssd1677Config → List ℕ → Outcome
approximated config otp =
    record {
      told = first_of (table_test otp ∷ []);
      approximation = pick (bad_table otp) false
          (approximate config.optics.provenance || approximate config.timing.provenance || any_of (approximate_entry otp) (entry_count otp));
    }
