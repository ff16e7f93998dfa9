-- What the code of a voltage is: `supply_code` said without its search (#104).
use Rattle.std.specs.Prelude.{◌≡◌, ℕ, ◌<◌, ℤ, pos, Some, None}
use Rattle.drive_sheet.specs.declared.Supply.{Supply}
use Rattle.drive_sheet.specs.Supplies.{voltage_of, code_count, supply_code}

-- the millivolts of a supply and their code
pub record Coding (supply : Supply) (z : ℤ) : Type 0 where
  -- 0 mV is 00h, whether the supply's list has it or not
  pub the_zero : z ≡ pos 0 → supply_code supply z ≡ Some 0
  -- of others, a code that is listed with them is theirs: no millivolts have two codes
  pub the_code : (z ≡ pos 0 → ⊥) → (code : ℕ) → code < code_count → voltage_of supply code ≡ Some z → supply_code supply z ≡ Some code
  -- and 61 is answered where no code is
  pub no_code : (z ≡ pos 0 → ⊥) → ((code : ℕ) → code < code_count → voltage_of supply code ≡ Some z → ⊥) → supply_code supply z ≡ None
