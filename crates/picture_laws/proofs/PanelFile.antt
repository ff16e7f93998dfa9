-- The panel as a file (#109): each grey byte of it is the grey that the theorem of `history` gives its pixel. Assumes nothing.
use Rattle.std.specs.Prelude.{Result, is_ok}
use Rattle.device.specs.declared.Ssd1677.{Ssd1677}
use Prim.Native.Nat.{ℕ, ◌*◌, ◌<◌, ◌≤◌}
use mathlib.Core.Path.{◌≡◌, refl, sym, ap, subst, ◌∙◌}
use mathlib.Core.Bool.{Bool, true, false, ◌&&◌}
use mathlib.Core.List.{List}
use native.Mathlib.Nat.{le_refl, add-mul, one-mul, mul_comm, mul-le-mul}
use native.Mathlib.Omega.{arith}
use lib.ListN.{length, get_or}
use lib.Seq.{get_or-append-add}
use borrow.Author.Tests.{le-leb}
use Rattle.numbers.specs.Choice.{pick}
use Rattle.glass.specs.declared.PanelImage.{PanelImage}
use Rattle.config.specs.declared.PanelGeometry.{PanelGeometry}
use Rattle.config.specs.declared.Ssd1677Config.{Ssd1677Config}
use Rattle.config.specs.Answer.{is_accepted}
use Rattle.gates.specs.Gates.{row_of_gate}
use Rattle.scan.specs.declared.Scan.{Scan}
use Rattle.scan.specs.Luts.{source_of, lut_in_row, lut_of}
use Rattle.scan.proofs.Pixels.{pixel_is}
use Rattle.world.specs.World.{World}
use Rattle.guard_lengths.specs.Lengths.{pixels_of}
use Rattle.guard_laws.proofs.Accepted.{FinePanel, fine_panel}
use Rattle.query.specs.Outcome.{state_guarded}
use Rattle.query.specs.Queries.{image_asked}
use Rattle.power_on.specs.declared.StartError.{StartError}
use Rattle.power_on.specs.Start.{Buffers, Powered, Start, start_answer_of, started, world_of}
use Rattle.calls.specs.World.{Call}
use Rattle.calls.proofs.Parts.{sound_fine}
use Rattle.calls.proofs.Start.{started_sound}
use Rattle.history.specs.Reckon.{core_of, Reckoning, reckon, first_reckoning}
use Rattle.history.specs.Runs.{Runs}
use Rattle.history.specs.Claims.{New, Made}
use Rattle.history.specs.History.{Agrees}
use Rattle.history.proofs.History.{history}
use Rattle.history.proofs.Contracts.{new_started, made_runs}
use Rattle.pgm.specs.Form.{in_range, pgm_header}
use Rattle.pgm.specs.Files.{answered, over_front, file_of, file_written}
use Rattle.pgm_laws.proofs.Pictures.{file_written_is}
use Rattle.picture_laws.specs.PanelFile.{image_of, pixel_at, panel_file, Pictured}
use Rattle.picture_laws.proofs.Sized.{SizedWorld, sized_runs, sized_started}

-- `panel_image` gives the image that the state has
image_is : (w : World) → image_of w ≡ w.device.panel.image
unfolding image_asked
image_is w = by (is_ok (state_guarded w.device))
  where
    by : (b : Bool) → pick b w.device.panel.image w.device.panel.image ≡ w.device.panel.image
    by true = refl
    by false = refl

-- a place of a picture is one of its pixels
place_within : (w h y x : ℕ) → y < h → x < w → pixel_at w y x < w * h
place_within w h y x k l = omega (arith, add-mul y 1 w, one-mul w, mul-le-mul {n₂ = h} {m₂ = w} k (le_refl w), mul_comm h w)

-- the pixel in row y and column x is the one that a refresh drives by the gate of that row and the source of that column
pub lut_of_pixel : (gates red black_white : List ℕ) (g : PanelGeometry) (s : Scan) (y x : ℕ) → x < g.width
    → lut_of gates red black_white g s (pixel_at g.width y x) ≡ lut_in_row (row_of_gate (get_or gates y 0) s.order s.lines) red black_white s (source_of g x)
lut_of_pixel gates red black_white g s y x l = sym (pixel_is gates red black_white g s x y l refl refl refl)

-- ---- a world that agrees with the reckoning and has the size of a panel that no start refuses
module _ (w : World) (r : Reckoning) (p : PanelGeometry) (agrees : Agrees w r) (sized : SizedWorld p w) (fine : FinePanel p) where
  abbrev image : PanelImage
  image = image_of w

  wide : image.width ≡ p.width
  wide = ap (λ (i : PanelImage). i.width) (image_is w) ∙ sized.wide

  high : image.height ≡ p.height
  high = ap (λ (i : PanelImage). i.height) (image_is w) ∙ sized.high

  area : image.width * image.height ≡ pixels_of p
  area = λ i. wide i * high i

  pub pictured : Pictured w r
  unfolding in_range
  pictured =
      record {
        wide = wide ∙ ap (λ (q : PanelGeometry). q.width) (sym sized.panel);
        high = high ∙ ap (λ (q : PanelGeometry). q.height) (sym sized.panel);
        is_in_range =
            λ i. (le-leb 1 image.width (omega (arith, wide, fine.width)) i && le-leb image.width 960 (omega (arith, wide, fine.sources)) i)
            && (le-leb 1 image.height (omega (arith, high, fine.height)) i && le-leb image.height 680 (omega (arith, high, fine.gates)) i);
        full = sized.pixels_long ∙ sym area;
        greys = λ y x k l.
            get_or-append-add (pgm_header image.width image.height) w.picture.pixels (pixel_at image.width y x) 0
            ∙ agrees.pixels (pixel_at image.width y x)
            (omega (arith, place_within image.width image.height y x k l, sized.states_long, area));
      }

-- so the file is written, wherever there is room for it
pub panel_written : (w : World) (r : Reckoning) → Pictured w r → (out : List ℕ) → length (panel_file w) ≤ length out
    → file_written (image_of w).width (image_of w).height w.picture.pixels out ≡ answered (file_of (length (panel_file w))) (over_front (panel_file w) out)
panel_written w r pictured out room = file_written_is (image_of w).width (image_of w).height w.picture.pixels out pictured.is_in_range pictured.full room

-- ---- the theorem: after every list of calls from every accepted start, as `history` has it
pub panel_file_is : (c : Ssd1677Config) (otp : List ℕ) (b : Buffers) → c.optics.initial_gray ≤ 255 → is_accepted (started c otp b).answer ≡ true
    → (calls : List Call) (u : World) → Runs otp (world_of (started c otp b).left) calls u
    → Pictured u (reckon otp (first_reckoning (core_of (world_of (started c otp b).left))) calls)
panel_file_is c otp b byte ok calls u runs =
    let start = world_of (started c otp b).left in
    let first = sized_started c otp b ok in
    pictured u (reckon otp (first_reckoning (core_of start)) calls) c.panel (history c otp b byte ok calls u runs) (sized_runs c.panel runs first)
    (subst FinePanel first.panel (fine_panel start.device.config.panel (sound_fine otp start (started_sound c otp b ok)).panel))

-- and from the contracts of `new` and of the entry points, as `made_agrees` has it
pub made_panel_file : (c : Ssd1677Config) (otp : List ℕ) (b : Buffers) (answer : Result Ssd1677 StartError) (p : Powered) → New c otp b answer p
    → is_accepted (start_answer_of answer) ≡ true → c.optics.initial_gray ≤ 255 → (calls : List Call) (u : World) → Made otp (world_of p) calls u
    → Pictured u (reckon otp (first_reckoning (core_of (world_of p))) calls)
made_panel_file c otp b answer p begins ok byte calls u made =
    let is = new_started begins in
    subst (λ (x : Powered). Runs otp (world_of x) calls u → Pictured u (reckon otp (first_reckoning (core_of (world_of x))) calls))
    (ap (λ (x : Start). x.left) (sym is))
    (panel_file_is c otp b byte (ap (λ (x : Start). is_accepted x.answer) (sym is) ∙ ok) calls u)
    (made_runs made)
