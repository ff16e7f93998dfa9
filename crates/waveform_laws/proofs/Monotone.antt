-- A display keeps the order of two states from 0 to S, whole or cut. Assumes nothing.
use mathlib.Core.Bool.{Bool}
use mathlib.Core.List.{List}
use Prim.Native.Nat.{ℕ, ◌≤◌, ◌<◌}
use native.Mathlib.Omega.{arith}
use lib.IntN.{pos}
use lib.Signed.{◌≤ℤ◌}
use Rattle.numbers.specs.Saturation.{largest}
use Rattle.numbers.proofs.Lin.{le_in, whole}
use Rattle.glass.specs.Transfers.{apply_t}
use Rattle.glass.proofs.Exactly.{drives_mono}
use Rattle.waveform.specs.declared.Drive.{Drive}
use Rattle.waveform.specs.Walks.{whole_transfer, cut_transfer}
use Rattle.waveform.specs.Exact.{all_drives, cut_drives, setting_phases}
use Rattle.waveform_laws.proofs.Exactly.{whole_exact, cut_exact}

module _ (S : ℕ) (some : 1 ≤ S) (room : S ≤ 9223372036854775807) (setting periods : List ℕ) (drive : Drive) (black : Bool) (x y : ℕ) (h : x ≤ y) (k : y ≤ S) where
  pub whole_mono : apply_t (whole_transfer setting periods drive (pos S) black) (pos x) ≤ℤ apply_t (whole_transfer setting periods drive (pos S) black) (pos y)
  whole_mono =
      rw (whole_exact S some room setting periods drive black x (omega arith), whole_exact S some room setting periods drive black y k)
      (le_in _ _ (omega (whole, drives_mono S (all_drives black (setting_phases setting periods drive)) x y h k)))

  pub cut_mono : (until : ℕ) → until < largest 64 → apply_t (cut_transfer setting periods drive (pos S) black until) (pos x) ≤ℤ apply_t (cut_transfer setting periods drive (pos S) black until) (pos y)
  cut_mono until l =
      rw (cut_exact S some room setting periods drive black until x l (omega arith), cut_exact S some room setting periods drive black until y l k)
      (le_in _ _ (omega (whole, drives_mono S (cut_drives black until (setting_phases setting periods drive)) x y h k)))
