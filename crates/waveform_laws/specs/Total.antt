-- The time that phases take one after the other (waveform.rs, `duration_ns`, before it stops at 2^64 − 1).
use Rattle.std.specs.Prelude.{List, [], ◌∷◌, ℕ, ◌+◌}
use Rattle.waveform.specs.declared.Phase.{Phase}
use Rattle.waveform.specs.Exact.{lasts}

-- the time of a list of phases
unfoldable pub total : List Phase → ℕ
total [] = 0
total (p ∷ ps) = lasts p + total ps
