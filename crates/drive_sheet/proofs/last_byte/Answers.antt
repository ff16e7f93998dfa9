-- `drive_sheet::last_byte` meets its contract.
use mathlib.Core.Path.{◌≡◌, refl}
use Prim.Native.Nat.{ℕ, suc, zero, ◌≤◌}
use native.Mathlib.Omega.{arith}
use Rattle.drive_sheet.specs.declared.SupplyCodes.{SupplyCodes}
use Rattle.drive_sheet.specs.Bytes.{last_byte}
use Rattle.drive_sheet.proofs.last_byte.Goals as goal

-- bytes 110 and 111, and all past them
rest : (gate : ℕ) (c : SupplyCodes) (place : ℕ) → 5 ≤ place → 0 ≡ last_byte gate c place
unfolding last_byte
rest gate c zero l = absurd (omega arith)
rest gate c (suc zero) l = absurd (omega arith)
rest gate c (suc (suc zero)) l = absurd (omega arith)
rest gate c (suc (suc (suc zero))) l = absurd (omega arith)
rest gate c (suc (suc (suc (suc zero)))) l = absurd (omega arith)
rest gate c (suc (suc (suc (suc (suc zero))))) l = refl
rest gate c (suc (suc (suc (suc (suc (suc zero)))))) l = refl
rest gate c (suc (suc (suc (suc (suc (suc (suc n))))))) l = refl

pub returns-in-0 : goal.returns-in-0
unfolding last_byte
returns-in-0 c = rw c.in-0.is

pub returns-in-1 : goal.returns-in-1
unfolding last_byte
returns-in-1 c = rw c.in-1.is c.unwrap_or.ensures

pub returns-in-2 : goal.returns-in-2
unfolding last_byte
returns-in-2 c = rw c.in-2.is c.unwrap_or-in-2.ensures

pub returns-in-3 : goal.returns-in-3
unfolding last_byte
returns-in-3 c = rw c.in-3.is c.unwrap_or-in-3.ensures

pub returns-in-4 : goal.returns-in-4
unfolding last_byte
returns-in-4 c = rw c.in-4.is c.unwrap_or-in-4.ensures

pub returns-in_default : goal.returns-in_default
returns-in_default c = rest c.args.gate c.args.codes c.args.place (omega arith)
