-- What the timed functions make of the numbers that they are handed, and what they hand back.
use Rattle.std.specs.Prelude.{Bool, true, false, List, [], ◌∷◌, ℕ, ◌/◌, ℤ, Option, Some, None}
use Rattle.numbers.specs.Choice.{pick}
use Rattle.counts.specs.Counts.{Picture}
use Rattle.glass.specs.declared.Transfer.{Transfer}
use Rattle.glass.specs.declared.RefreshKind.{RefreshKind}
use Rattle.glass.specs.declared.RefreshKind.TheVariants.{PowerOn, Full, Partial}
use Rattle.glass.specs.declared.PanelImage.{PanelImage}
use Rattle.config.specs.declared.PanelGeometry.{PanelGeometry}
use Rattle.scan.specs.declared.Scan.{Scan}
use Rattle.scan.specs.Luts.{option_of}
use Rattle.panel.specs.declared.Panel.{Panel}
use Rattle.panel.specs.declared.Display.{Display}
use Rattle.panel.specs.Finish.{Glass}

-- up to a cut, or whole
abbrev pub until_of : Bool → ℕ → Option ℕ
until_of true until = Some until
until_of false until = None

-- a transfer as three numbers
abbrev pub numbers_of : Transfer → List ℤ
numbers_of t = t.add ∷ t.lo ∷ t.hi ∷ []

-- a panel of a size, by its first source, whether its columns are reversed, its native scan's SM and GD, and whether its rows are
abbrev pub geometry_of : ℕ → ℕ → ℕ → Bool → Bool → Bool → Bool → PanelGeometry
geometry_of width height first columns sm gd rows =
    record {
      width = width;
      height = height;
      first_source = first;
      columns_reversed = columns;
      native_scan = record { sm = sm; gd = gd };
      rows_reversed = rows;
    }

-- a scan of so many lines with the SM and GD of 0x01; the byte of 0x21 has red's option high
abbrev pub scan_of : ℕ → Bool → Bool → ℕ → Scan
scan_of lines sm gd options =
    record { lines = lines; order = record { sm = sm; gd = gd }; red = option_of (options / 16); black_white = option_of options }

-- a panel of a swing and a border's state, by its image's size and generation
abbrev pub panel_of : ℤ → ℤ → ℕ → ℕ → ℕ → Panel
panel_of swing border width height generation =
    record {
      swing = swing;
      border = border;
      image = record {
        width = width;
        height = height;
        border = 0;
        generation = generation;
        kind = PowerOn;
        interrupted = false;
        started = 0;
        at = 0;
      };
    }

-- display mode 2, or 1
abbrev pub kind_of : Bool → RefreshKind
kind_of true = Partial
kind_of false = Full

-- a refresh with a setting and a border register
abbrev pub display_of : List ℕ → ℕ → Bool → ℕ → Display
display_of setting register partial started =
    record { started = started; ends = 0; kind = kind_of partial; setting = setting; border = register }

-- a kind as a number
abbrev pub kind_number : RefreshKind → ℕ
kind_number PowerOn = 0
kind_number Full = 1
kind_number Partial = 2

-- an image's header as numbers
unfoldable pub header_of : PanelImage → List ℕ
header_of m = m.width ∷ m.height ∷ m.border ∷ m.generation ∷ kind_number m.kind ∷ pick m.interrupted 1 0 ∷ m.started ∷ m.at ∷ []

-- what is handed back of the glass: the border's state, the states, the picture and the image's header
pub record Shown : Type 0 where
  pub border : ℤ
  pub states : List ℤ
  pub picture : Picture
  pub header : List ℕ

-- the four as one
abbrev pub shown : ℤ → List ℤ → Picture → List ℕ → Shown
shown border states picture header = record { border = border; states = states; picture = picture; header = header }

-- that of a whole glass
abbrev pub shown_of : Glass → Shown
shown_of g = shown g.panel.border g.states g.picture (header_of g.panel.image)
