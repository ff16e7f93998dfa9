use mathlib.Core.Path.{◌≡◌}
use mathlib.Core.Bool.{Bool}
use Prim.Native.Nat.{ℕ}
use Rattle.otp.specs.Search.{any_of}
use Rattle.drive_sheet.specs.declared.Sheet.{Sheet}
use Rattle.drive_sheet.specs.Bytes.{group_at}
use Rattle.drive_sheet.specs.Tests.{bad_codes}
use Rattle.drive_sheet.proofs.groups.any_bad_codes.Given as goal

-- what 63 refuses
abbrev pub refused : Sheet → ℕ → Bool
refused h group = bad_codes (group_at h group)

abbrev pub invariant-loop-group : goal.invariant-loop-group
invariant-loop-group l = (l.bad ≡ any_of (refused l.fn.sheet) l.group-index)
