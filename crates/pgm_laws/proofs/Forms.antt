-- The form of a file: a header with a size in range is accepted whatever stands behind it, and nothing else is. Assumes nothing.
use mathlib.Core.Path.{◌≡◌, refl, sym, ap, ◌∙◌}
use mathlib.Core.Bool.{true, false, ◌&&◌}
use mathlib.Core.List.{List, [], ◌∷◌, ◌++◌, append_assoc}
use Prim.Native.Nat.{ℕ, ◌+◌}
use native.Mathlib.Omega.{arith}
use lib.ListN.{length, drop, length-append}
use lib.Seq.{drop-append_seam}
use Rattle.column.proofs.Symbols.{column_length}
use Rattle.pgm.specs.declared.form.Number.{Number}
use Rattle.pgm.specs.declared.form.Size.{Size}
use Rattle.pgm.specs.Form.{in_range, digit_count, decimal, magic, maxval, pgm_header, pgm_file, number_at, size_in, width_in, height_in, is_header_of, is_header, pixels_in}
use Rattle.pgm.proofs.Headers.{ranged}
use Rattle.pgm.proofs.Starts.{starts_append, found_in_range, found_front}
use Rattle.pgm_laws.specs.Forms.{HasForm}
use Rattle.pgm_laws.proofs.Decimals.{decimal_read}

abbrev size : ℕ → ℕ → Size
size w h = record { width = w; height = h }

module _ (w h : ℕ) (s : List ℕ) (is : in_range w h ≡ true) where
  -- the file, cut before the width and before the height
  at_width : pgm_file w h s ≡ magic ++ (decimal w ++ (32 ∷ (decimal h ++ (maxval ++ s))))
  unfolding pgm_header
  at_width = simp append_assoc

  at_height : pgm_file w h s ≡ (magic ++ decimal w ++ (32 ∷ [])) ++ (decimal h ++ (maxval ++ s))
  unfolding pgm_header
  at_height = simp append_assoc

  width_read : number_at (pgm_file w h s) 3 ≡ record { value = w; end = 3 + digit_count w }
  width_read =
      ap (λ (f : List ℕ). number_at f 3) at_width
      ∙ decimal_read magic (decimal h ++ (maxval ++ s)) w 32 (let r = ranged w h is in omega arith) refl

  front : length (magic ++ decimal w ++ (32 ∷ [])) ≡ 3 + digit_count w + 1
  front = simp length-append (let e = column_length (digit_count w) false w in omega arith)

  height_read : (number_at (pgm_file w h s) (3 + digit_count w + 1)).value ≡ h
  height_read =
      (λ i. (number_at (at_height i) (sym front i)).value)
      ∙ ap (λ (n : Number). n.value) (decimal_read (magic ++ decimal w ++ (32 ∷ [])) (50 ∷ 53 ∷ 53 ∷ 10 ∷ s) h 10 (let r = ranged w h is in omega arith) refl)

  -- the size that is read in it is its own
  pub size_read : size_in (pgm_file w h s) ≡ size w h
  unfolding size_in
  size_read =
      λ i. record {
        width = (width_read i).value;
        height = (ap (λ (n : Number). (number_at (pgm_file w h s) (n.end + 1)).value) width_read ∙ height_read) i;
      }

  pub header_read : is_header (pgm_file w h s) ≡ true
  unfolding is_header_of
  header_read =
      ap (λ (z : Size). is_header_of z.width z.height (pgm_file w h s)) size_read
      ∙ (λ i. is i && starts_append (pgm_header w h) s i)

  pub pixels_read : pixels_in (pgm_file w h s) ≡ s
  pixels_read = ap (λ (z : Size). drop (length (pgm_header z.width z.height)) (pgm_file w h s)) size_read ∙ drop-append_seam (pgm_header w h) s

-- ---- every file of the form has its header accepted, and a file whose header is accepted has the form
module _ (f : List ℕ) where
  pub form_accepted : HasForm f → is_header f ≡ true
  form_accepted form = ap is_header form.is ∙ header_read form.width form.height form.rest form.is_in_range

  pub form_only : is_header f ≡ true → HasForm f
  form_only is =
      record {
        width = width_in f;
        height = height_in f;
        rest = pixels_in f;
        is_in_range = found_in_range (width_in f) (height_in f) f is;
        is = found_front (width_in f) (height_in f) f is;
      }
