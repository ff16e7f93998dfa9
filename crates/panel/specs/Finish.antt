-- What the end of a display, whole or cut, leaves of the glass (panel.rs, `Panel::finish`).
use Rattle.std.specs.Prelude.{◌≡◌, Bool, true, false, List, ℕ, ◌+◌, ◌^◌, ◌<◌, min, ℤ, pos, ◌≤ℤ◌, length, get_or, Option, Some, None}
use Rattle.numbers.specs.Saturation.{largest}
use Rattle.glass.specs.declared.Transfer.{Transfer}
use Rattle.glass.specs.Greys.{gray_z}
use Rattle.glass.specs.Transfers.{apply_t}
use Rattle.waveform.specs.declared.Drive.{Drive}
use Rattle.waveform.specs.declared.Drive.TheVariants.{Lut}
use Rattle.waveform.specs.Setting.{waveform_of}
use Rattle.waveform.specs.Walks.{transfer_of}
use Rattle.counts.specs.Counts.{counts_of, Picture, picture}
use Rattle.panel.specs.declared.Display.{Display}
use Rattle.panel.specs.declared.Panel.{Panel}
use Rattle.panel.specs.Border.{border_drive}
use Rattle.panel.specs.Pixels.{states_by, grays}

-- the panel with the lent states and the picture
pub record Glass : Type 0 where
  pub panel : Panel
  pub states : List ℤ
  pub picture : Picture

-- the three as one
abbrev pub glass : Panel → List ℤ → Picture → Glass
glass p s x = record { panel = p; states = s; picture = x }

-- the end of a display: whether positive drives black, the period of each frame-rate code, when, and how much of the display counts
pub record Ending : Type 0 where
  pub display : Display
  pub black : Bool
  pub periods : List ℕ
  pub at : ℕ
  pub until : Option ℕ

-- the five as one
abbrev pub ending : Display → Bool → List ℕ → ℕ → Option ℕ → Ending
ending d black periods at until = record { display = d; black = black; periods = periods; at = at; until = until }

-- what the callers of `finish` have: buffers of one length, so few that 32 bits count them, 256 counts, a swing from 1 on, and frames that last
pub record Finishable (periods : List ℕ) (swing : ℤ) (states : List ℤ) (luts pixels counts : List ℕ) : Type 0 where
  pub luts_long : length luts ≡ length states
  pub pixels_long : length pixels ≡ length states
  pub counts_long : length counts ≡ 256
  pub few : length states < 2 ^ 32
  pub some : pos 1 ≤ℤ swing
  pub lasting : (code : ℕ) → code < 16 → 0 < get_or periods code 0

-- the transfer of a setting's display, whole or up to the cut
abbrev pub setting_transfer : List ℕ → List ℕ → Drive → ℤ → Bool → Option ℕ → Transfer
setting_transfer s p = transfer_of (waveform_of s p)

-- that of the 112 bytes which the refresh kept
unfoldable pub transfer_by : Ending → ℤ → Drive → Transfer
transfer_by e swing drive = setting_transfer e.display.setting e.periods drive swing e.black e.until

-- the border's state, by what drives it
abbrev pub border_by : (Drive → Transfer) → Option Drive → ℤ → ℤ
border_by transfer (Some drive) state = apply_t (transfer drive) state
border_by transfer None state = state

-- a display that a reset cut short
abbrev pub was_cut : Option ℕ → Bool
was_cut None = false
was_cut (Some until) = true

-- the header of the image published: one generation more, stopping at 2^64 − 1 (SCOPE, Time)
unfoldable pub published : Display → ℕ → Option ℕ → Panel → Panel
published d at until p =
    record {
      swing = p.swing;
      border = p.border;
      image = record {
        width = p.image.width;
        height = p.image.height;
        border = gray_z p.border p.swing;
        generation = min (p.image.generation + 1) (largest 64);
        kind = d.kind;
        interrupted = was_cut until;
        started = d.started;
        at = at;
      };
    }

-- the panel with the border's state moved
abbrev pub with_border : Panel → ℤ → Panel
with_border p state = record { swing = p.swing; border = state; image = p.image }

-- all of it: the driven states moved, all pixels refilled and counted, the border driven or left, the image published
unfoldable pub finished : Ending → List ℕ → Glass → Glass
finished e luts g =
    let p = g.panel in
    let transfer = transfer_by e p.swing in
    let states = states_by (λ lut. transfer (Lut lut)) luts g.states in
    let px = grays p.swing states in
    glass (published e.display e.at e.until (with_border p (border_by transfer (border_drive e.display.border) p.border)))
    states
    (picture px (counts_of px))
