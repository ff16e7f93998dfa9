-- The swings from which on the first picture shows the starting grey (#113).
use Rattle.std.specs.Prelude.{ℕ}

-- the least S that #113 asks for; 507 would do, and at 506 a starting grey of 64 is shown as 63
abbrev pub fine_swing : ℕ
fine_swing = 510
