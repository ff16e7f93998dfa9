use mathlib.Core.Path.{◌≡◌}
use Rattle.otp.specs.Search.{any_of}
use Rattle.drive_sheet.specs.Tests.{high_code}
use Rattle.drive_sheet.proofs.groups.any_high_code.Given as goal

abbrev pub invariant-loop-code : goal.invariant-loop-code
invariant-loop-code l = (l.high ≡ any_of (high_code l.fn.codes) l.code-index)
