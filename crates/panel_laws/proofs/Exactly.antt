-- The theorems of a display's end, by pixel: a driven state from 0 to S moves by the exact drives of its LUT, added in order and each sum
-- held, so it stays from 0 to S and two states of one LUT keep their order; an undriven state stays; every pixel shows the grey of
-- its state. A cut is one of at most 2^64 − 2 ns. Assumes nothing.
use Rattle.std.specs.Prelude.{Option, Some, None}
use mathlib.Core.Path.{◌≡◌, refl, ap, ◌∙◌}
use mathlib.Core.Bool.{Bool, true, false}
use mathlib.Core.List.{List}
use Prim.Native.Nat.{ℕ, ◌≤◌, ◌<◌}
use native.Mathlib.Omega.{arith}
use lib.Dec.{ltb}
use lib.IntN.{ℤ, pos}
use lib.Signed.{◌≤ℤ◌}
use lib.ListN.{length, get_or}
use borrow.Author.Tests.{lt-ltb, le-ltb}
use Rattle.numbers.specs.Choice.{pick}
use Rattle.numbers.proofs.Lin.{le_in, whole}
use Rattle.numbers.proofs.Painted.{length_tab, get_d_tab}
use Rattle.glass.specs.declared.Transfer.{Transfer}
use Rattle.glass.specs.Exact.{drives}
use Rattle.glass.specs.Greys.{gray_z}
use Rattle.glass.specs.Transfers.{apply_t}
use Rattle.glass.proofs.Exactly.{drives_le, drives_mono}
use Rattle.waveform.specs.declared.Drive.{Drive}
use Rattle.waveform.specs.declared.Drive.TheVariants.{Lut}
use Rattle.waveform.specs.Exact.{setting_phases}
use Rattle.waveform.specs.Walks.{whole_transfer, cut_transfer}
use Rattle.waveform_laws.proofs.Exactly.{whole_exact, cut_exact}
use Rattle.panel.specs.Pixels.{state_by, states_by, grays}
use Rattle.panel.specs.Finish.{Ending, setting_transfer, transfer_by}
use Rattle.panel_laws.specs.Exactly.{drives_until, exact_drives}
unfoldable pub use Rattle.panel_laws.specs.Exactly.{by_lut, CutBelowLargest, exact_after}

-- ---- undriven
pub undriven : (transfer : ℕ → Transfer) (lut : ℕ) (state : ℤ) → 4 ≤ lut → state_by transfer lut state ≡ state
unfolding state_by
undriven transfer lut state h = rw (le-ltb lut 4 h)

-- ---- driven
module _ (e : Ending) (S : ℕ) (some : 1 ≤ S) (room : S ≤ 9223372036854775807) (below : CutBelowLargest e.until) where
  pub drive_exactly : (drive : Drive) (x : ℕ) → x ≤ S → apply_t (transfer_by e (pos S) drive) (pos x) ≡ pos (drives S (exact_drives e drive) x)
  unfolding transfer_by whole_transfer cut_transfer
  drive_exactly drive x h = by e.until below
    where
      by : (until : Option ℕ) → CutBelowLargest until
          → apply_t (setting_transfer e.display.setting e.periods drive (pos S) e.black until) (pos x)
          ≡ pos (drives S (drives_until e.black until (setting_phases e.display.setting e.periods drive)) x)
      by None t = whole_exact S some room e.display.setting e.periods drive e.black x h
      by (Some until) t = cut_exact S some room e.display.setting e.periods drive e.black until x t h

  pub driven : (lut x : ℕ) → lut < 4 → x ≤ S → state_by (by_lut e (pos S)) lut (pos x) ≡ pos (drives S (exact_drives e (Lut lut)) x)
  unfolding state_by
  driven lut x l h = rw (lt-ltb lut 4 l) (drive_exactly (Lut lut) x h)

  pub exactly : (lut x : ℕ) → x ≤ S → state_by (by_lut e (pos S)) lut (pos x) ≡ pos (exact_after e S lut x)
  unfolding state_by exact_after
  exactly lut x h = by (ltb lut 4)
    where
      by : (t : Bool) → pick t (apply_t (transfer_by e (pos S) (Lut lut)) (pos x)) (pos x) ≡ pos (pick t (drives S (exact_drives e (Lut lut)) x) x)
      by true = drive_exactly (Lut lut) x h
      by false = refl

  -- it stays from 0 to S
  pub exact_le : (lut x : ℕ) → x ≤ S → exact_after e S lut x ≤ S
  unfolding exact_after
  exact_le lut x h = by (ltb lut 4)
    where
      by : (t : Bool) → pick t (drives S (exact_drives e (Lut lut)) x) x ≤ S
      by true = drives_le S (exact_drives e (Lut lut)) x h
      by false = h

  -- two states of one LUT keep their order
  pub exact_mono : (lut x y : ℕ) → x ≤ y → y ≤ S → exact_after e S lut x ≤ exact_after e S lut y
  unfolding exact_after
  exact_mono lut x y h k = by (ltb lut 4)
    where
      by : (t : Bool) → pick t (drives S (exact_drives e (Lut lut)) x) x ≤ pick t (drives S (exact_drives e (Lut lut)) y) y
      by true = drives_mono S (exact_drives e (Lut lut)) x y h k
      by false = h

  pub state_mono : (lut x y : ℕ) → x ≤ y → y ≤ S → state_by (by_lut e (pos S)) lut (pos x) ≤ℤ state_by (by_lut e (pos S)) lut (pos y)
  state_mono lut x y h k = rw (exactly lut x (omega arith), exactly lut y k) (le_in _ _ (omega (whole, exact_mono lut x y h k)))

  -- by pixel
  pub state_exactly : (luts : List ℕ) (states : List ℤ) (i x : ℕ) → i < length states → get_or states i (pos 0) ≡ pos x → x ≤ S
      → get_or (states_by (by_lut e (pos S)) luts states) i (pos 0) ≡ pos (exact_after e S (get_or luts i 0) x)
  unfolding states_by
  state_exactly luts states i x l is h =
      get_d_tab (length states) (λ k. state_by (by_lut e (pos S)) (get_or luts k 0) (get_or states k (pos 0))) i (pos 0) l
      ∙ ap (state_by (by_lut e (pos S)) (get_or luts i 0)) is
      ∙ exactly (get_or luts i 0) x h

-- ---- the buffers, whatever their states
pub states_length : (transfer : ℕ → Transfer) (luts : List ℕ) (states : List ℤ) → length (states_by transfer luts states) ≡ length states
unfolding states_by
states_length transfer luts states = length_tab (length states) _

pub pixels_length : (swing : ℤ) (states : List ℤ) → length (grays swing states) ≡ length states
unfolding grays
pixels_length swing states = length_tab (length states) _

pub state_undriven : (transfer : ℕ → Transfer) (luts : List ℕ) (states : List ℤ) (i : ℕ) → i < length states → 4 ≤ get_or luts i 0
    → get_or (states_by transfer luts states) i (pos 0) ≡ get_or states i (pos 0)
unfolding states_by
state_undriven transfer luts states i l h =
    get_d_tab (length states) (λ k. state_by transfer (get_or luts k 0) (get_or states k (pos 0))) i (pos 0) l
    ∙ undriven transfer (get_or luts i 0) (get_or states i (pos 0)) h

pub pixel_shows : (swing : ℤ) (states : List ℤ) (i : ℕ) → i < length states → get_or (grays swing states) i 0 ≡ gray_z (get_or states i (pos 0)) swing
unfolding grays
pixel_shows swing states i l = get_d_tab (length states) (λ k. gray_z (get_or states k (pos 0)) swing) i 0 l
