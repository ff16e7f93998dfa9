-- The bytes of the Mode Two setting, computed once. Assumes nothing.
use mathlib.Core.Path.{◌≡◌, refl}
use mathlib.Core.List.{List, [], ◌∷◌, ◌++◌}
use Prim.Native.Nat.{ℕ}
use lib.ListN.{replicate}
use Rattle.numbers.specs.Lists.{tab}
use Rattle.config.specs.Temperature.{register_of}
use Rattle.reference.specs.Reference.{reference_table}
use Rattle.figures.specs.ModeTwo.{mode_two}

-- LUT 1 at VSL and LUT 2 at VSH1 for 19 frames, then 6 frames of rest; 15 V, 5 V, -15 V
abbrev pub bytes : List ℕ
bytes = replicate 10 0 ++ (0x80 ∷ replicate 9 0) ++ (0x40 ∷ replicate 29 0) ++ (19 ∷ 6 ∷ replicate 53 0) ++ (0 ∷ 0x41 ∷ 0xA8 ∷ 0x32 ∷ 0 ∷ 0 ∷ 0 ∷ [])

pub written : mode_two ≡ bytes
unfolding mode_two reference_table tab register_of
written = refl
