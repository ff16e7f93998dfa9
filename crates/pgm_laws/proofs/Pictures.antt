-- A written file, read, gives the picture, and each accepted file is the one written for its picture. Assumes nothing.
use Rattle.std.specs.Prelude.{Result, is_ok}
use mathlib.Core.Path.{◌≡◌, refl, sym, ap, subst, ◌∙◌}
use mathlib.Core.Bool.{Bool, true, false, not, true≢false}
use mathlib.Core.List.{List, ◌++◌}
use Prim.Native.Nat.{ℕ, ◌*◌, ◌≤◌}
use native.Mathlib.Omega.{arith}
use lib.Dec.{eqb, ltb}
use lib.ListN.{length, take, drop}
use lib.Seq.{take-append_seam}
use borrow.Author.Tests.{eq-eqb, le-ltb}
use Rattle.numbers.specs.Choice.{pick}
use Rattle.numbers.proofs.Cases.{took}
use Rattle.pgm.specs.declared.PgmError.{PgmError}
use Rattle.pgm.specs.declared.PgmError.TheVariants.{Form, Count, Room}
use Rattle.pgm.specs.declared.form.Size.{Size}
use Rattle.pgm.specs.Form.{in_range, pgm_header, pgm_file, size_in, is_header, width_in, height_in, pixels_in}
use Rattle.pgm.specs.Files.{Answered, answered, over_front, file_of, not_written, header_written, file_written, picture_of, not_read, file_read}
use Rattle.pgm.proofs.Headers.{header_few}
use Rattle.pgm.proofs.Starts.{found_in_range, found_front}
use Rattle.pgm_laws.specs.Forms.{HasForm, SamePicture, bytes_of, size_of}
use Rattle.pgm_laws.proofs.Cases.{written_cases, header_cases, read_cases}
use Rattle.pgm_laws.proofs.Forms.{size_read, header_read, pixels_read, form_only}

-- ---- what reading answers of every file: 71 where it has not the form, and of one that has it:
pub read_file : (w h : ℕ) (s out : List ℕ) → in_range w h ≡ true
    → file_read (pgm_file w h s) out
    ≡ pick (not (eqb (length s) (w * h))) (not_read Count out)
    (pick (ltb (length out) (w * h)) (not_read Room out)
    (answered (picture_of w h) (over_front s out)))
unfolding file_read
read_file w h s out is =
    (λ i. pick (not (header_read w h s is i)) (not_read Form out)
    (pick (not (eqb (length (pixels_read w h s is i)) ((size_read w h s is i).width * (size_read w h s is i).height))) (not_read Count out)
    (pick (ltb (length out) ((size_read w h s is i).width * (size_read w h s is i).height)) (not_read Room out)
    (answered (picture_of (size_read w h s is i).width (size_read w h s is i).height) (over_front (pixels_read w h s is i) out)))))

pub not_the_form : (f out : List ℕ) → (HasForm f → ⊥) → file_read f out ≡ not_read Form out
unfolding file_read
not_the_form f out none = go (is_header f) refl
  where
    go : (t : Bool) → is_header f ≡ t → file_read f out ≡ not_read Form out
    go true e = absurd (none (form_only f e))
    go false e = sym (took _ _ _ _ (ap not e) refl)

-- ---- what writing answers where nothing refuses it
pub file_written_is : (w h : ℕ) (pixels out : List ℕ) → in_range w h ≡ true → length pixels ≡ w * h → length (pgm_file w h pixels) ≤ length out
    → file_written w h pixels out ≡ answered (file_of (length (pgm_file w h pixels))) (over_front (pgm_file w h pixels) out)
unfolding file_written
file_written_is w h pixels out is full room =
    λ i. pick (not (is i)) (not_written Form out)
    (pick (not (eq-eqb (length pixels) (w * h) full i)) (not_written Count out)
    (pick (le-ltb (length out) (length (pgm_file w h pixels)) room i) (not_written Room out)
    (answered (file_of (length (pgm_file w h pixels))) (over_front (pgm_file w h pixels) out))))

-- of a header too: 15 bytes hold each (`HEADER_BYTES`)
pub header_fits : (w h : ℕ) (out : List ℕ) → in_range w h ≡ true → 15 ≤ length out
    → header_written w h out ≡ answered (file_of (length (pgm_header w h))) (over_front (pgm_header w h) out)
unfolding header_written
header_fits w h out is room =
    λ i. pick (not (is i)) (not_written Form out)
    (pick (le-ltb (length out) (length (pgm_header w h)) (omega (arith, header_few w h)) i) (not_written Room out)
    (answered (file_of (length (pgm_header w h))) (over_front (pgm_header w h) out)))

-- ---- what an accepted writing and reading left
record Wrote (w h : ℕ) (pixels out : List ℕ) (r : Answered (Result ℕ PgmError)) : Type 0 where
  is_in_range : in_range w h ≡ true
  full : length pixels ≡ w * h
  is : r ≡ answered (file_of (length (pgm_file w h pixels))) (over_front (pgm_file w h pixels) out)

wrote_whole : (w h : ℕ) (pixels out : List ℕ) → is_ok (file_written w h pixels out).answer ≡ true → Wrote w h pixels out (file_written w h pixels out)
wrote_whole w h pixels out =
    written_cases w h pixels out (λ r. is_ok r.answer ≡ true → Wrote w h pixels out r)
    (λ e is. absurd (true≢false (sym is)))
    (λ p q is. record { is_in_range = p; full = q; is = refl })

record Got (f out : List ℕ) (r : Answered (Result Size PgmError)) : Type 0 where
  header : is_header f ≡ true
  full : length (pixels_in f) ≡ width_in f * height_in f
  is : r ≡ answered (picture_of (width_in f) (height_in f)) (over_front (pixels_in f) out)

got_whole : (f out : List ℕ) → is_ok (file_read f out).answer ≡ true → Got f out (file_read f out)
got_whole f out =
    read_cases f out (λ r. is_ok r.answer ≡ true → Got f out r)
    (λ e is. absurd (true≢false (sym is)))
    (λ p q is. record { header = p; full = q; is = refl })

-- ---- reading what was written gives the picture
pub written_read : (w h : ℕ) (pixels out to : List ℕ) → is_ok (file_written w h pixels out).answer ≡ true → w * h ≤ length to
    → file_read (take (bytes_of (file_written w h pixels out).answer) (file_written w h pixels out).out) to ≡ answered (picture_of w h) (over_front pixels to)
written_read w h pixels out to e l =
    let whole = wrote_whole w h pixels out e in
    ap (λ (r : Answered (Result ℕ PgmError)). file_read (take (bytes_of r.answer) r.out) to) whole.is
    ∙ ap (λ (f : List ℕ). file_read f to) (take-append_seam (pgm_file w h pixels) (drop (length (pgm_file w h pixels)) out))
    ∙ read_file w h pixels to whole.is_in_range
    ∙ (λ i. pick (not (eq-eqb (length pixels) (w * h) whole.full i)) (not_read Count to)
    (pick (le-ltb (length to) (w * h) l i) (not_read Room to) (answered (picture_of w h) (over_front pixels to))))

-- a header written, and then the pixels from where they lie: the same file
pub header_then_pixels : (w h : ℕ) (pixels out : List ℕ) → is_ok (header_written w h out).answer ≡ true
    → take (bytes_of (header_written w h out).answer) (header_written w h out).out ++ pixels ≡ pgm_file w h pixels
header_then_pixels w h pixels out =
    header_cases w h out (λ r. is_ok r.answer ≡ true → take (bytes_of r.answer) r.out ++ pixels ≡ pgm_file w h pixels)
    (λ e is. absurd (true≢false (sym is)))
    (λ is. ap (λ (l : List ℕ). l ++ pixels) (take-append_seam (pgm_header w h) (drop (length (pgm_header w h)) out)))

-- ---- each accepted file is the one written for its picture: the size answered, and the bytes left at the buffer's front
module _ (f out : List ℕ) (accepted : is_ok (file_read f out).answer ≡ true) where
  abbrev width : ℕ
  width = (size_of (file_read f out).answer).width

  abbrev height : ℕ
  height = (size_of (file_read f out).answer).height

  abbrev pixels : List ℕ
  pixels = take (width * height) (file_read f out).out

  pixels_are : pixels ≡ pixels_in f
  pixels_are =
      let got = got_whole f out accepted in
      ap (λ (r : Answered (Result Size PgmError)). take ((size_of r.answer).width * (size_of r.answer).height) r.out) got.is
      ∙ ap (λ (n : ℕ). take n (over_front (pixels_in f) out)) (sym got.full) ∙ take-append_seam (pixels_in f) (drop (length (pixels_in f)) out)

  pub read_file_of : f ≡ pgm_file width height pixels
  read_file_of =
      let got = got_whole f out accepted in
      found_front (width_in f) (height_in f) f got.header
      ∙ (λ i. pgm_file (size_of (sym got.is i).answer).width (size_of (sym got.is i).answer).height (sym pixels_are i))

  pub read_written : (to : List ℕ) → length f ≤ length to → file_written width height pixels to ≡ answered (file_of (length f)) (over_front f to)
  read_written to l =
      let got = got_whole f out accepted in
      let ranged = ap (λ (r : Answered (Result Size PgmError)). in_range (size_of r.answer).width (size_of r.answer).height) got.is ∙ found_in_range (width_in f) (height_in f) f got.header in
      let full = ap length pixels_are ∙ got.full ∙ ap (λ (r : Answered (Result Size PgmError)). (size_of r.answer).width * (size_of r.answer).height) (sym got.is) in
      let room = subst (λ (g : List ℕ). length g ≤ length to) read_file_of l in
      file_written_is width height pixels to ranged full room
      ∙ ap (λ (g : List ℕ). answered (file_of (length g)) (over_front g to)) (sym read_file_of)

-- ---- equal files have equal size and picture
pub one_file : (w h w' h' : ℕ) (pixels pixels' : List ℕ) → in_range w h ≡ true → in_range w' h' ≡ true → pgm_file w h pixels ≡ pgm_file w' h' pixels'
    → SamePicture w h pixels w' h' pixels'
one_file w h w' h' pixels pixels' is is' e =
    let sizes = sym (size_read w h pixels is) ∙ ap size_in e ∙ size_read w' h' pixels' is' in
    record {
      wide = ap (λ (s : Size). s.width) sizes;
      high = ap (λ (s : Size). s.height) sizes;
      grey = sym (pixels_read w h pixels is) ∙ ap pixels_in e ∙ pixels_read w' h' pixels' is';
    }
