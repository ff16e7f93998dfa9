use mathlib.Core.Bool.{Bool}
use Prim.Native.Nat.{ℕ}
use lib.IntN.{ℤ}
use Rattle.config.proofs.Lowest.{Passed}
use Rattle.drive_sheet.specs.declared.Supply.{Supply}
use Rattle.drive_sheet.specs.Supplies.{voltage_of, is_listed_as}
use Rattle.drive_sheet.proofs.supplies.find_code.Given as goal

abbrev pub stands_for : Supply → ℤ → ℕ → Bool
stands_for supply millivolts code = is_listed_as (voltage_of supply code) millivolts

-- the local millivolts are the number's bits
abbrev pub invariant-loop-code : goal.invariant-loop-code
invariant-loop-code l = Passed (stands_for l.supply l.millivolts) l.code
