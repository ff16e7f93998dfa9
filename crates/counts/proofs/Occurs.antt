-- Laws of `occurs` and `counts_of`. Assumes nothing.
use mathlib.Core.Path.{◌≡◌, refl, sym, ap, ◌∙◌}
use mathlib.Core.Bool.{Bool, true, false}
use mathlib.Core.List.{List, [], ◌∷◌, ◌++◌}
use Prim.Native.Nat.{ℕ, zero, suc, ◌+◌, ◌≤◌, ◌<◌}
use native.Mathlib.Numerals.{add-one}
use native.Mathlib.Omega.{arith}
use lib.Dec.{eqb}
use lib.ListN.{length, set, take, get_or, replicate, length-set}
use lib.Seq.{take-suc, get_or-set_same, get_or-set_other, ext_get_or}
use borrow.Author.Tests.{eqb-true, eqb-false}
use Rattle.numbers.specs.Choice.{pick}
use Rattle.numbers.specs.Lists.{tab}
use Rattle.numbers.proofs.Painted.{length_tab, get_d_tab}
use Rattle.counts.specs.Counts.{occurs, counts_of}

-- 1 where a pixel has this grey
abbrev pub hit : ℕ → ℕ → ℕ
hit x g = pick (eqb x g) 1 0

hit_le : (b : Bool) → pick b 1 0 ≤ 1
hit_le true = omega arith
hit_le false = omega arith

pub occurs_le : (g : ℕ) (xs : List ℕ) → occurs g xs ≤ length xs
unfolding occurs
occurs_le g [] = omega arith
occurs_le g (x ∷ xs) = omega (arith, hit_le (eqb x g), occurs_le g xs)

-- two parts, one after the other
occurs_append : (g : ℕ) (xs ys : List ℕ) → occurs g (xs ++ ys) ≡ occurs g xs + occurs g ys
unfolding occurs
occurs_append g [] ys = omega arith
occurs_append g (x ∷ xs) ys = omega (arith, occurs_append g xs ys)

occurs_one : (g x : ℕ) → occurs g (x ∷ []) ≡ hit x g
unfolding occurs
occurs_one g x = omega arith

-- one pixel more
pub occurs_more : (g : ℕ) (xs : List ℕ) (i j : ℕ) → i < length xs → j ≡ i + 1
    → occurs g (take j xs) ≡ occurs g (take i xs) + hit (get_or xs i 0) g
occurs_more g xs i j l e =
    ap (λ (n : ℕ). occurs g (take n xs)) (e ∙ add-one i)
    ∙ ap (occurs g) (take-suc xs i 0 l)
    ∙ occurs_append g (take i xs) (get_or xs i 0 ∷ [])
    ∙ ap (λ (n : ℕ). occurs g (take i xs) + n) (occurs_one g (get_or xs i 0))

-- as many pixels of one grey
occurs_same : (n x g : ℕ) → occurs g (tab n (λ _. x)) ≡ pick (eqb x g) n 0
unfolding occurs tab
occurs_same n x g = by (eqb x g) refl n
  where
    by : (b : Bool) → eqb x g ≡ b → (n : ℕ) → occurs g (tab n (λ _. x)) ≡ pick b n 0
    by true e zero = refl
    by true e (suc n) = rw e (omega (arith, by true e n))
    by false e zero = refl
    by false e (suc n) = rw e (omega (arith, by false e n))

pub counts_length : (xs : List ℕ) → length (counts_of xs) ≡ 256
unfolding counts_of
counts_length xs = length_tab 256 (λ g. occurs g xs)

pub count_at : (xs : List ℕ) (g : ℕ) → g < 256 → get_or (counts_of xs) g 0 ≡ occurs g xs
unfolding counts_of
count_at xs g l = get_d_tab 256 (λ g. occurs g xs) g 0 l

-- a list after a store
pub set_at : (t : List ℕ) (x v g : ℕ) → x < length t → get_or (set t x v) g 0 ≡ pick (eqb x g) v (get_or t g 0)
set_at t x v g l = by (eqb x g) refl
  where
    by : (b : Bool) → eqb x g ≡ b → get_or (set t x v) g 0 ≡ pick b v (get_or t g 0)
    by true e = ap (λ (k : ℕ). get_or (set t x v) k 0) (sym (eqb-true x g e)) ∙ get_or-set_same t x v 0 l
    by false e = get_or-set_other t x g v 0 (λ s. eqb-false x g e (sym s))

-- no pixel
pub counts_none : replicate 256 0 ≡ counts_of []
unfolding counts_of occurs tab
counts_none = refl

-- as many pixels of one grey: their number at the grey's place, and nothing elsewhere
pub counts_same : (n x : ℕ) → x < 256 → set (counts_of []) x n ≡ counts_of (tab n (λ _. x))
unfolding occurs
counts_same n x l =
    ext_get_or 0 (set (counts_of []) x n) (counts_of (tab n (λ _. x)))
    (length-set (counts_of []) x n ∙ counts_length [] ∙ sym (counts_length (tab n (λ _. x))))
    (λ g m.
    let h : g < 256 = omega (arith, length-set (counts_of []) x n, counts_length []) in
    set_at (counts_of []) x n g (omega (arith, counts_length []))
    ∙ ap (pick (eqb x g) n) (count_at [] g h)
    ∙ sym (count_at (tab n (λ _. x)) g h ∙ occurs_same n x g))
