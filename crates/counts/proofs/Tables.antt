-- What the loops of `count` know: together, four tables count the pixels passed. Assumes nothing.
use mathlib.Core.Path.{◌≡◌, refl, ap, ◌∙◌}
use mathlib.Core.Bool.{Bool, true, false}
use mathlib.Core.List.{List, []}
use Prim.Native.Nat.{ℕ, ◌+◌, ◌≤◌, ◌<◌, ◌^◌}
use native.Mathlib.Omega.{arith}
use lib.Dec.{eqb}
use lib.ListN.{length, take, get_or, length-set}
use lib.Seq.{length-take-le, take_all}
use borrow.Author.Tests.{eqb-true}
use Rattle.numbers.specs.Choice.{pick}
use Rattle.numbers.proofs.Painted.{tab_ext}
use Rattle.counts.specs.Counts.{occurs, counts_of}
use Rattle.counts.specs.Tables.{one_more, Room, sum_at, joined, Joinable}
use Rattle.counts.proofs.Occurs.{hit, occurs_le, occurs_more, counts_length, count_at, set_at}

-- one more at the grey's place, and nothing elsewhere
more_at : (t : List ℕ) (x g : ℕ) {t' : List ℕ} → t' ≡ one_more t x → x < length t → get_or t' g 0 ≡ get_or t g 0 + hit x g
unfolding one_more
more_at t x g e l = ap (λ (u : List ℕ). get_or u g 0) e ∙ set_at t x (get_or t x 0 + 1) g l ∙ by (eqb x g) refl
  where
    by : (b : Bool) → eqb x g ≡ b → pick b (get_or t x 0 + 1) (get_or t g 0) ≡ get_or t g 0 + pick b 1 0
    by true s = ap (λ (k : ℕ). get_or t k 0 + 1) (eqb-true x g s)
    by false s = omega arith

more_length : (t : List ℕ) (x : ℕ) {t' : List ℕ} → t' ≡ one_more t x → length t' ≡ length t
unfolding one_more
more_length t x e = ap length e ∙ length-set t x (get_or t x 0 + 1)

-- after i pixels
pub record Counted (xs : List ℕ) (i : ℕ) (a b c d : List ℕ) : Type 0 where
  pub within : i ≤ length xs
  pub a_long : length a ≡ 256
  pub b_long : length b ≡ 256
  pub c_long : length c ≡ 256
  pub d_long : length d ≡ 256
  pub is : (g : ℕ) → g < 256 → sum_at a b c d g ≡ occurs g (take i xs)

module _ {xs : List ℕ} {i : ℕ} {a b c d : List ℕ} (p : Counted xs i a b c d) (few : length xs < 2 ^ 32) where
  passed : (g : ℕ) → g < 256 → sum_at a b c d g ≤ i
  passed g l = omega (arith, p.is g l, occurs_le g (take i xs), length-take-le i xs p.within)

  pub a_room : (g : ℕ) → g < 256 → i < length xs → Room a g
  a_room g l m = record { long = p.a_long; below = omega (arith, passed g l) }

  pub b_room : (g : ℕ) → g < 256 → i < length xs → Room b g
  b_room g l m = record { long = p.b_long; below = omega (arith, passed g l) }

  pub c_room : (g : ℕ) → g < 256 → i < length xs → Room c g
  c_room g l m = record { long = p.c_long; below = omega (arith, passed g l) }

  pub d_room : (g : ℕ) → g < 256 → i < length xs → Room d g
  d_room g l m = record { long = p.d_long; below = omega (arith, passed g l) }

  pub joinable : Joinable a b c d
  joinable =
      record {
        a_long = p.a_long;
        b_long = p.b_long;
        c_long = p.c_long;
        d_long = p.d_long;
        below = λ g l. omega (arith, passed g l);
      }

-- before the first
pub counted_none : (xs : List ℕ) → Counted xs 0 (counts_of []) (counts_of []) (counts_of []) (counts_of [])
unfolding occurs
counted_none xs =
    record {
      within = omega arith;
      a_long = counts_length [];
      b_long = counts_length [];
      c_long = counts_length [];
      d_long = counts_length [];
      is = λ g l. omega (arith, count_at [] g l);
    }

-- one more, in the first table
pub counted_one : {xs : List ℕ} {i j : ℕ} {a a' b c d : List ℕ} → Counted xs i a b c d → i < length xs → get_or xs i 0 < 256
    → a' ≡ one_more a (get_or xs i 0) → j ≡ i + 1 → Counted xs j a' b c d
counted_one {xs} {i} {j} {a} {a'} {b} {c} {d} p l byte ea e =
    record {
      within = omega (arith, e);
      a_long = more_length a (get_or xs i 0) ea ∙ p.a_long;
      b_long = p.b_long;
      c_long = p.c_long;
      d_long = p.d_long;
      is = λ g m. omega (arith, p.is g m, more_at a (get_or xs i 0) g ea (omega (arith, p.a_long)), occurs_more g xs i j l e);
    }

-- four more, a table each
pub counted_four : {xs : List ℕ} {i j : ℕ} {a a' b b' c c' d d' : List ℕ} → Counted xs i a b c d → i + 3 < length xs → ((k : ℕ) → get_or xs k 0 < 256)
    → a' ≡ one_more a (get_or xs i 0) → b' ≡ one_more b (get_or xs (i + 1) 0) → c' ≡ one_more c (get_or xs (i + 2) 0) → d' ≡ one_more d (get_or xs (i + 3) 0)
    → j ≡ i + 4 → Counted xs j a' b' c' d'
counted_four {xs} {i} {j} {a} {a'} {b} {b'} {c} {c'} {d} {d'} p l byte ea eb ec ed e =
    record {
      within = omega (arith, e);
      a_long = more_length a (get_or xs i 0) ea ∙ p.a_long;
      b_long = more_length b (get_or xs (i + 1) 0) eb ∙ p.b_long;
      c_long = more_length c (get_or xs (i + 2) 0) ec ∙ p.c_long;
      d_long = more_length d (get_or xs (i + 3) 0) ed ∙ p.d_long;
      is = λ g m.
          omega (
            arith,
            p.is g m,
            more_at a (get_or xs i 0) g ea (omega (arith, byte i, p.a_long)),
            more_at b (get_or xs (i + 1) 0) g eb (omega (arith, byte (i + 1), p.b_long)),
            more_at c (get_or xs (i + 2) 0) g ec (omega (arith, byte (i + 2), p.c_long)),
            more_at d (get_or xs (i + 3) 0) g ed (omega (arith, byte (i + 3), p.d_long)),
            occurs_more g xs i (i + 1) (omega arith) refl,
            occurs_more g xs (i + 1) (i + 2) (omega arith) (omega arith),
            occurs_more g xs (i + 2) (i + 3) (omega arith) (omega arith),
            occurs_more g xs (i + 3) j (omega arith) (omega (arith, e)),
          );
    }

-- after the last
pub counted_all : {xs : List ℕ} {i : ℕ} {a b c d : List ℕ} → Counted xs i a b c d → length xs ≤ i → joined a b c d ≡ counts_of xs
unfolding joined counts_of
counted_all {xs} {i} {a} {b} {c} {d} p l =
    tab_ext 256 (λ g. sum_at a b c d g) (λ g. occurs g xs) (λ g m. p.is g m ∙ ap (occurs g) (take_all i xs l))
