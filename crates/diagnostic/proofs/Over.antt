-- A part of a list that is written over whole, or from its front. Assumes nothing.
use Prim.Native.Nat.{ℕ, zero, suc, ◌+◌, ◌-◌, ◌≤◌}
use native.Mathlib.Omega.{arith}
use native.Mathlib.Nat.{sub-zero, not-suc-le-zero, le_of_suc-le-suc}
use mathlib.Core.Path.{◌≡◌, sym, ◌∙◌}
use mathlib.Core.List.{List, ◌++◌, append-nil}
use lib.ListN.{length, take, drop, replicate}
use lib.Seq.{take-length, drop-length, drop-drop}

-- src copied over a part as long as itself leaves src
pub over : (src part ys : List ℕ) → length part ≡ length src → ys ≡ take (length src) src ++ drop (length src) part → ys ≡ src
over src part ys same e = e ∙ rw (take-length, ← same, drop-length, append-nil)

-- the part from a to a + n of xs is src, where it was lent and came back as ys
pub wrote : (xs src part ys : List ℕ) (a n : ℕ) → length src ≡ n → length part ≡ n → ys ≡ take (length src) src ++ drop (length src) part →
    take a xs ++ (ys ++ drop (a + n - a) (drop a xs)) ≡ take a xs ++ (src ++ drop (a + n) xs)
wrote xs src part ys a n hs hp e =
    let k : a + n - a ≡ n = omega arith in
    rw (over src part ys (hp ∙ sym hs) e, k, drop-drop n a xs)

drop_replicate : (k n x : ℕ) → k ≤ n → drop k (replicate n x) ≡ replicate (n - k) x
drop_replicate zero n x h = rw (sub-zero n)
drop_replicate (suc k) zero x h = absurd (not-suc-le-zero h)
drop_replicate (suc k) (suc n) x h =
    let e : n - k ≡ suc n - suc k = omega arith in
    drop_replicate k n x (le_of_suc-le-suc h) ∙ rw e

-- src copied over the front of a list of n times x
pub padding : (src ys : List ℕ) (n x : ℕ) → length src ≤ n → ys ≡ take (length src) src ++ drop (length src) (replicate n x) → ys ≡ src ++ replicate (n - length src) x
padding src ys n x h e = e ∙ rw (take-length, drop_replicate (length src) n x h)
