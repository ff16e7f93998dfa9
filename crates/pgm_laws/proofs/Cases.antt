-- What writing and reading leave, by cases: a refusal, or the whole result. Assumes nothing.
use Rattle.std.specs.Prelude.{Result}
use mathlib.Core.Path.{◌≡◌, refl}
use mathlib.Core.Bool.{Bool, true, false, not}
use mathlib.Core.List.{List}
use Prim.Native.Nat.{ℕ, ◌*◌}
use lib.Dec.{eqb, ltb}
use lib.ListN.{length}
use borrow.Author.Tests.{eqb-true}
use Rattle.numbers.specs.Choice.{pick}
use Rattle.pgm.specs.declared.PgmError.{PgmError}
use Rattle.pgm.specs.declared.PgmError.TheVariants.{Form, Count, Room}
use Rattle.pgm.specs.declared.form.Size.{Size}
use Rattle.pgm.specs.Form.{in_range, pgm_header, pgm_file, is_header, width_in, height_in, pixels_in}
use Rattle.pgm.specs.Files.{Answered, answered, over_front, file_of, not_written, header_written, file_written, picture_of, not_read, file_read}

pub written_cases : (w h : ℕ) (pixels out : List ℕ) (P : Answered (Result ℕ PgmError) → Type 0) → ((e : PgmError) → P (not_written e out))
    → (in_range w h ≡ true → length pixels ≡ w * h → P (answered (file_of (length (pgm_file w h pixels))) (over_front (pgm_file w h pixels) out))) → P (file_written w h pixels out)
unfolding file_written
written_cases w h pixels out P refused whole = go (in_range w h) (eqb (length pixels) (w * h)) (ltb (length out) (length (pgm_file w h pixels))) refl refl
  where
    go : (a b c : Bool) → in_range w h ≡ a → eqb (length pixels) (w * h) ≡ b
        → P (pick (not a) (not_written Form out) (pick (not b) (not_written Count out) (pick c (not_written Room out) (answered (file_of (length (pgm_file w h pixels))) (over_front (pgm_file w h pixels) out)))))
    go false b c p q = refused Form
    go true false c p q = refused Count
    go true true true p q = refused Room
    go true true false p q = whole p (eqb-true (length pixels) (w * h) q)

pub header_cases : (w h : ℕ) (out : List ℕ) (P : Answered (Result ℕ PgmError) → Type 0) → ((e : PgmError) → P (not_written e out))
    → P (answered (file_of (length (pgm_header w h))) (over_front (pgm_header w h) out)) → P (header_written w h out)
unfolding header_written
header_cases w h out P refused whole = go (in_range w h) (ltb (length out) (length (pgm_header w h)))
  where
    go : (a b : Bool)
        → P (pick (not a) (not_written Form out) (pick b (not_written Room out) (answered (file_of (length (pgm_header w h))) (over_front (pgm_header w h) out))))
    go false b = refused Form
    go true true = refused Room
    go true false = whole

pub read_cases : (f out : List ℕ) (P : Answered (Result Size PgmError) → Type 0) → ((e : PgmError) → P (not_read e out))
    → (is_header f ≡ true → length (pixels_in f) ≡ width_in f * height_in f → P (answered (picture_of (width_in f) (height_in f)) (over_front (pixels_in f) out))) → P (file_read f out)
unfolding file_read
read_cases f out P refused whole = go (is_header f) (eqb (length (pixels_in f)) (width_in f * height_in f)) (ltb (length out) (width_in f * height_in f)) refl refl
  where
    go : (a b c : Bool) → is_header f ≡ a → eqb (length (pixels_in f)) (width_in f * height_in f) ≡ b
        → P (pick (not a) (not_read Form out) (pick (not b) (not_read Count out) (pick c (not_read Room out) (answered (picture_of (width_in f) (height_in f)) (over_front (pixels_in f) out)))))
    go false b c p q = refused Form
    go true false c p q = refused Count
    go true true true p q = refused Room
    go true true false p q = whole p (eqb-true (length (pixels_in f)) (width_in f * height_in f) q)
