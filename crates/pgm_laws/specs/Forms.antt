-- What it is for a file to have the form of #109, with no word of how it is read, and for two pictures to be the same.
use Rattle.std.specs.Prelude.{◌≡◌, true, List, ℕ, Result, Ok, Err}
use Rattle.pgm.specs.declared.PgmError.{PgmError}
use Rattle.pgm.specs.declared.form.Size.{Size}
use Rattle.pgm.specs.Form.{in_range, pgm_file}

-- the header of some size in range, and then some bytes
pub record HasForm (f : List ℕ) : Type 0 where
  pub width : ℕ
  pub height : ℕ
  pub rest : List ℕ
  pub is_in_range : in_range width height ≡ true
  pub is : f ≡ pgm_file width height rest

-- equal size and equal pixels
pub record SamePicture (w h : ℕ) (pixels : List ℕ) (w' h' : ℕ) (pixels' : List ℕ) : Type 0 where
  pub wide : w ≡ w'
  pub high : h ≡ h'
  pub grey : pixels ≡ pixels'

-- how many bytes are written; of a refusal none
abbrev pub bytes_of : Result ℕ PgmError → ℕ
bytes_of (Ok bytes) = bytes
bytes_of (Err error) = 0

-- the size of what is read; of a refusal none
abbrev pub size_of : Result Size PgmError → Size
size_of (Ok size) = size
size_of (Err error) = record { width = 0; height = 0 }
