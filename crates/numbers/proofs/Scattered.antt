-- A list after stores at places given by a function: `scatter n pos d` has k stored at `pos k`, for k from 0 to n - 1 in turn.
-- Assumes nothing.
use mathlib.Core.Path.{◌≡◌, refl, sym, ap, subst, ◌∙◌}
use mathlib.Core.List.{List}
use mathlib.Core.Logic.{⊎_elim, ◌⊎◌}
use Prim.Native.Nat.{ℕ, zero, suc, ◌+◌, ◌<◌, ◌≤◌}
use native.Mathlib.Nat.{not-suc-le-zero, lt_of_lt_of_le, eq-or-lt_of_le, le_of_suc-le-suc}
use native.Mathlib.Numerals.{add-one}
use native.Mathlib.Omega.{arith}
use lib.ListN.{length, set, get_or, length-set}
use lib.Seq.{get_or-set_same, get_or-set_other, ext_get_or, set_out}
use Rattle.numbers.specs.Lists.{tab}
use Rattle.numbers.proofs.Painted.{length_tab, get_d_tab}

unfoldable pub scatter : ℕ → (ℕ → ℕ) → List ℕ → List ℕ
scatter zero pos d = d
scatter (suc n) pos d = set (scatter n pos d) (pos n) n

pub scatter_none : (pos : ℕ → ℕ) (d : List ℕ) → d ≡ scatter 0 pos d
unfolding scatter
scatter_none pos d = refl

pub scatter_more : (n : ℕ) (pos : ℕ → ℕ) (d : List ℕ) → scatter (n + 1) pos d ≡ set (scatter n pos d) (pos n) n
unfolding scatter
scatter_more n pos d = ap (λ (k : ℕ). scatter k pos d) (add-one n)

pub length_scatter : (n : ℕ) (pos : ℕ → ℕ) (d : List ℕ) → length (scatter n pos d) ≡ length d
unfolding scatter
length_scatter zero pos d = refl
length_scatter (suc n) pos d = length-set (scatter n pos d) (pos n) n ∙ length_scatter n pos d

-- What a loop knows after n stores: the list is s.
pub record Scattered (n : ℕ) (pos : ℕ → ℕ) (d s : List ℕ) : Type 0 where
  pub is : s ≡ scatter n pos d
  pub long : length s ≡ length d

pub scattered_none : (pos : ℕ → ℕ) (d : List ℕ) → Scattered 0 pos d d
scattered_none pos d = record { is = scatter_none pos d; long = refl }

-- a store at pos n; where that is past the end, `set` changes nothing
pub scattered_more : {n p : ℕ} {pos : ℕ → ℕ} {d s : List ℕ} → Scattered n pos d s → p ≡ pos n → Scattered (n + 1) pos d (set s p n)
scattered_more {n} {p} {pos} {d} {s} q e =
    record {
      is = ap (λ (t : List ℕ). set t p n) q.is ∙ ap (λ (k : ℕ). set (scatter n pos d) k n) e ∙ sym (scatter_more n pos d);
      long = length-set s p n ∙ q.long;
    }

pub scattered_past : {n p : ℕ} {pos : ℕ → ℕ} {d s : List ℕ} → Scattered n pos d s → p ≡ pos n → length s ≤ p → Scattered (n + 1) pos d s
scattered_past {n} {p} {pos} {d} {s} q e l = subst (λ (t : List ℕ). Scattered (n + 1) pos d t) (set_out s p n l) (scattered_more q e)

pub scattered_all : {n m : ℕ} {pos : ℕ → ℕ} {d s : List ℕ} → Scattered n pos d s → n ≡ m → s ≡ scatter m pos d
scattered_all {n} {m} {pos} {d} {s} q e = q.is ∙ ap (λ (k : ℕ). scatter k pos d) e

lt_suc : (n : ℕ) → n < suc n
lt_suc n = omega arith

le_suc : (n : ℕ) → n ≤ suc n
le_suc n = omega arith

last_or_below : (k n : ℕ) → k < suc n → (k ≡ n) ⊎ (k < n)
last_or_below k n l = eq-or-lt_of_le (le_of_suc-le-suc l)

-- an element of the scattered list: pos hits y at k alone among the numbers below n
scatter_at : (n : ℕ) (pos : ℕ → ℕ) (d : List ℕ) (k y : ℕ) → k < n → y < length d → pos k ≡ y → ((j : ℕ) → j < n → pos j ≡ y → j ≡ k)
    → get_or (scatter n pos d) y 0 ≡ k
unfolding scatter
scatter_at zero pos d k y l i h only = absurd (not-suc-le-zero l)
scatter_at (suc n) pos d k y l i h only =
    ⊎_elim
    (λ (e : k ≡ n).
    subst (λ (j : ℕ). get_or (set (scatter n pos d) j n) y 0 ≡ k) (sym (ap pos (sym e) ∙ h))
    (get_or-set_same (scatter n pos d) y n 0 (subst (λ (m : ℕ). y < m) (sym (length_scatter n pos d)) i) ∙ sym e))
    (λ (l' : k < n).
    get_or-set_other (scatter n pos d) (pos n) y n 0 (λ (e : y ≡ pos n). let z : n ≡ k = only n (lt_suc n) (sym e) in omega arith)
    ∙ scatter_at n pos d k y l' i h (λ j m. only j (lt_of_lt_of_le m (le_suc n))))
    (last_or_below k n l)

-- where pos is a permutation of the numbers below n, with inverse inv, the scattered list is the inverse's table
pub scatter_tab : (n : ℕ) (pos inv : ℕ → ℕ) (d : List ℕ) → length d ≡ n
    → ((y : ℕ) → y < n → inv y < n) → ((y : ℕ) → y < n → pos (inv y) ≡ y) → ((k : ℕ) → k < n → inv (pos k) ≡ k)
    → scatter n pos d ≡ tab n inv
scatter_tab n pos inv d len within back forth =
    ext_get_or 0 (scatter n pos d) (tab n inv) (length_scatter n pos d ∙ len ∙ sym (length_tab n inv))
    (λ y l.
    let i : y < n = subst (λ (m : ℕ). y < m) (length_scatter n pos d ∙ len) l in
    scatter_at n pos d (inv y) y (within y i) (subst (λ (m : ℕ). y < m) (sym len) i) (back y i) (λ j m e. sym (forth j m) ∙ ap inv e)
    ∙ sym (get_d_tab n inv y 0 i))
