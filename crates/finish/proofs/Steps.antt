-- The parts of a display's end, put together. Assumes nothing.
use mathlib.Core.Path.{◌≡◌, refl, sym, ap, ◌∙◌}
use mathlib.Core.Bool.{Bool, true, false}
use mathlib.Core.List.{List}
use Prim.Native.Nat.{ℕ}
use lib.Dec.{ltb}
use lib.IntN.{ℤ, pos}
use lib.ListN.{length, get_or}
use borrow.Author.Tests.{ltb-true}
use Rattle.numbers.specs.Choice.{pick}
use Rattle.numbers.specs.Lists.{tab}
use Rattle.numbers.proofs.Painted.{length_tab, get_d_tab, tab_ext}
use Rattle.glass.specs.declared.Transfer.{Transfer}
use Rattle.glass.specs.Greys.{gray_z}
use Rattle.glass.specs.Transfers.{apply_t}
use Rattle.waveform.specs.declared.Drive.{Drive}
use Rattle.waveform.specs.declared.Drive.TheVariants.{Lut}
use Rattle.counts.specs.Counts.{counts_of, picture}
use Rattle.panel.specs.declared.Panel.{Panel}
use Rattle.finish.specs.declared.refresh.DisplayDrive.{DisplayDrive}
use Rattle.panel.specs.Border.{border_drive}
use Rattle.panel.specs.Pixels.{state_by, states_by, grays}
use Rattle.panel.specs.Finish.{Glass, glass, Ending, transfer_by, border_by, published, with_border, finished}
use Rattle.finish.specs.Refresh.{FourAlike, display_drive, transfer_in, in_table}

-- ---- the pixels
-- greys of states that are given by place
pub grays_tab : (swing : ℤ) (n : ℕ) (f : ℕ → ℤ) → tab n (λ i. gray_z (f i) swing) ≡ grays swing (tab n f)
unfolding grays
grays_tab swing n f =
    tab_ext n (λ i. gray_z (f i) swing) (λ i. gray_z (get_or (tab n f) i (pos 0)) swing) (λ i l. ap (λ (z : ℤ). gray_z z swing) (sym (get_d_tab n f i (pos 0) l)))
    ∙ ap (λ (k : ℕ). tab k (λ i. gray_z (get_or (tab n f) i (pos 0)) swing)) (sym (length_tab n f))

-- a table that does what each LUT's transfer does
state_is : (r : DisplayDrive) (ts : List Transfer) → FourAlike r ts → (lut : ℕ) (state : ℤ) → state_by (in_table ts) lut state ≡ state_by (λ k. transfer_in r (Lut k)) lut state
unfolding state_by
state_is r ts alike lut state = by (ltb lut 4) refl
  where
    by : (t : Bool) → ltb lut 4 ≡ t → pick t (apply_t (in_table ts lut) state) state ≡ pick t (apply_t (transfer_in r (Lut lut)) state) state
    by true e = alike lut (ltb-true _ _ e) state
    by false e = refl

pub table_is : (r : DisplayDrive) (luts : List ℕ) (states : List ℤ) (ts : List Transfer) → FourAlike r ts
    → states_by (in_table ts) luts states ≡ states_by (λ k. transfer_in r (Lut k)) luts states
unfolding states_by
table_is r luts states ts alike =
    tab_ext (length states) (λ i. state_by (in_table ts) (get_or luts i 0) (get_or states i (pos 0)))
    (λ i. state_by (λ k. transfer_in r (Lut k)) (get_or luts i 0) (get_or states i (pos 0))) (λ i l. state_is r ts alike (get_or luts i 0) (get_or states i (pos 0)))

-- ---- the whole end
abbrev display_drive_in : Ending → ℤ → DisplayDrive
display_drive_in e swing = display_drive e.display.setting e.periods swing e.black e.until

-- its transfers are those of the display's setting
transfer_is : (e : Ending) (swing : ℤ) (drive : Drive) → transfer_in (display_drive_in e swing) drive ≡ transfer_by e swing drive
unfolding transfer_in transfer_by
transfer_is e swing drive = refl

pub finishes : (e : Ending) (luts : List ℕ) (g : Glass) (r : DisplayDrive) (states : List ℤ) (pixels counts : List ℕ) (p q : Panel)
    → r ≡ display_drive_in e g.panel.swing
    → states ≡ states_by (λ lut. transfer_in r (Lut lut)) luts g.states
    → pixels ≡ grays r.swing (states_by (λ lut. transfer_in r (Lut lut)) luts g.states)
    → counts ≡ counts_of pixels
    → p ≡ with_border g.panel (border_by (transfer_in r) (border_drive e.display.border) g.panel.border)
    → q ≡ published e.display e.at e.until p
    → glass q states (picture pixels counts) ≡ finished e luts g
unfolding finished
finishes e luts g r states pixels counts p q e₁ e₂ e₃ e₄ e₅ e₆ =
    let same : transfer_in r ≡ transfer_by e g.panel.swing = ap transfer_in e₁ ∙ (λ i drive. transfer_is e g.panel.swing drive i) in
    let border = e₅ ∙ (λ i. with_border g.panel (border_by (same i) (border_drive e.display.border) g.panel.border)) in
    let px = e₃ ∙ (λ j. grays (e₁ j).swing (states_by (λ lut. same j (Lut lut)) luts g.states)) in
    λ i. glass
    ((e₆ ∙ ap (published e.display e.at e.until) border) i)
    ((e₂ ∙ (λ j. states_by (λ lut. same j (Lut lut)) luts g.states)) i)
    (picture (px i) ((e₄ ∙ ap counts_of px) i))
