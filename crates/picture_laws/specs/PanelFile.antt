-- The panel as a file (#109; SCOPE, Pictures): the lent pixels in the size of `panel_image`, and what the theorem says of each grey byte.
use Rattle.std.specs.Prelude.{ℕ, ◌+◌, ◌*◌, ◌<◌, ◌≡◌, true, List, pos, length, get_or}
use Rattle.glass.specs.declared.PanelImage.{PanelImage}
use Rattle.glass.specs.Greys.{gray_z}
use Rattle.world.specs.World.{World}
use Rattle.query.specs.Queries.{image_asked}
use Rattle.pgm.specs.Form.{in_range, pgm_header, pgm_file}
use Rattle.history.specs.Reckon.{swing_s, Reckoning}

-- the header that `panel_image` gives
abbrev pub image_of : World → PanelImage
image_of w = (image_asked w.device).held

-- the pixel in row y and column x, both from 0, of rows so wide (SCOPE, Buffers)
abbrev pub pixel_at : ℕ → ℕ → ℕ → ℕ
pixel_at width y x = y * width + x

-- the lent pixels as a file
abbrev pub panel_file : World → List ℕ
panel_file w = pgm_file (image_of w).width (image_of w).height w.picture.pixels

-- its grey byte in row y and column x
abbrev pub grey_byte : World → ℕ → ℕ → ℕ
grey_byte w y x = get_or (panel_file w) (length (pgm_header (image_of w).width (image_of w).height) + pixel_at (image_of w).width y x) 0

-- the file of a world beside the reckoning (history/specs/History, `Agrees`): its size is the panel's, which the form has, there is a pixel for
-- each place of it, and each grey byte is the grey of its pixel's whole number
pub record Pictured (w : World) (r : Reckoning) : Type 0 where
  pub wide : (image_of w).width ≡ w.device.config.panel.width
  pub high : (image_of w).height ≡ w.device.config.panel.height
  pub is_in_range : in_range (image_of w).width (image_of w).height ≡ true
  pub full : length w.picture.pixels ≡ (image_of w).width * (image_of w).height
  pub greys : (y x : ℕ) → y < (image_of w).height → x < (image_of w).width
      → grey_byte w y x ≡ gray_z (pos (r.number (pixel_at (image_of w).width y x))) (pos (swing_s w.device.config))
