-- The number of a display mode, in the OTP table and in the log.
use Rattle.std.specs.Prelude.{ℕ}
use Rattle.config.specs.declared.DisplayMode.{DisplayMode}
use Rattle.config.specs.declared.DisplayMode.TheVariants.{One, Two}

-- 0 for mode One, 1 for mode Two (SCOPE, OTP table; SCOPE, Log)
abbrev pub mode_number : DisplayMode → ℕ
mode_number One = 0
mode_number Two = 1
