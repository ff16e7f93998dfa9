-- Headers as they stand in files, in ASCII, by computing the definition. Assumes nothing.
use mathlib.Core.Path.{◌≡◌, refl}
use mathlib.Core.List.{[], ◌∷◌}
use Rattle.numbers.specs.Lists.{tab}
use Rattle.column.specs.Columns.{column_of, symbol_at}
use Rattle.pgm.specs.Form.{digit_count, pgm_header}

-- "P5\n1 1\n255\n"
pub smallest : pgm_header 1 1 ≡ 80 ∷ 53 ∷ 10 ∷ 49 ∷ 32 ∷ 49 ∷ 10 ∷ 50 ∷ 53 ∷ 53 ∷ 10 ∷ []
unfolding pgm_header digit_count column_of tab symbol_at
smallest = refl

-- "P5\n9 10\n255\n"
pub nine_by_ten : pgm_header 9 10 ≡ 80 ∷ 53 ∷ 10 ∷ 57 ∷ 32 ∷ 49 ∷ 48 ∷ 10 ∷ 50 ∷ 53 ∷ 53 ∷ 10 ∷ []
unfolding pgm_header digit_count column_of tab symbol_at
nine_by_ten = refl

-- "P5\n99 100\n255\n"
pub ninety_nine_by_a_hundred : pgm_header 99 100 ≡ 80 ∷ 53 ∷ 10 ∷ 57 ∷ 57 ∷ 32 ∷ 49 ∷ 48 ∷ 48 ∷ 10 ∷ 50 ∷ 53 ∷ 53 ∷ 10 ∷ []
unfolding pgm_header digit_count column_of tab symbol_at
ninety_nine_by_a_hundred = refl

-- "P5\n960 680\n255\n"
pub largest : pgm_header 960 680 ≡ 80 ∷ 53 ∷ 10 ∷ 57 ∷ 54 ∷ 48 ∷ 32 ∷ 54 ∷ 56 ∷ 48 ∷ 10 ∷ 50 ∷ 53 ∷ 53 ∷ 10 ∷ []
unfolding pgm_header digit_count column_of tab symbol_at
largest = refl
