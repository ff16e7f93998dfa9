-- The transfer of a decoded waveform is that of its setting. Assumes nothing.
use Rattle.std.specs.Prelude.{Option}
use mathlib.Core.Path.{◌≡◌, ap, ◌∙◌}
use mathlib.Core.Bool.{Bool}
use mathlib.Core.List.{List}
use Prim.Native.Nat.{ℕ}
use lib.IntN.{ℤ}
use Rattle.glass.specs.declared.Transfer.{Transfer}
use Rattle.waveform.specs.declared.Drive.{Drive}
use Rattle.waveform.specs.declared.Waveform.{Waveform}
use Rattle.waveform.specs.Setting.{waveform_of}
use Rattle.waveform.specs.Walks.{transfer_of}
use Rattle.panel.specs.Finish.{setting_transfer}

pub decoded_is : (s p : List ℕ) (drive : Drive) {w : Waveform} → w ≡ waveform_of s p → (swing : ℤ) (black : Bool) (until : Option ℕ) {t : Transfer}
    → t ≡ transfer_of w drive swing black until → t ≡ setting_transfer s p drive swing black until
decoded_is s p drive e swing black until h = h ∙ ap (λ (w : Waveform). transfer_of w drive swing black until) e
