-- A text copied over a part of a buffer that runs to the buffer's end. Assumes nothing.
use mathlib.Core.Path.{◌≡◌, sym, ap, ◌∙◌}
use mathlib.Core.List.{List, [], ◌++◌, append_assoc, append-nil}
use Prim.Native.Nat.{ℕ, ◌+◌, ◌-◌}
use native.Mathlib.Omega.{arith}
use lib.ListN.{length, take, drop, length-append, length-drop, drop_of_length-le}
use lib.Seq.{take_all, take-length, drop-drop, take-append_seam, drop-append-add}

module _ (out : List ℕ) (at : ℕ) where
  pub to_end : take (length out - at) (drop at out) ≡ drop at out
  to_end = take_all (length out - at) (drop at out) (omega (arith, length-drop at out))

  rest : drop (length out - at) (drop at out) ≡ []
  rest = drop_of_length-le (drop at out) {i = length out - at} (omega (arith, length-drop at out))

module _ (out text part : List ℕ) (at : ℕ) where
  pub copied : part ≡ take (length text) text ++ drop (length text) (take (length out - at) (drop at out))
      → take at out ++ (part ++ drop (length out - at) (drop at out)) ≡ take at out ++ text ++ drop (at + length text) out
  copied e =
      (λ i. take at out ++ (e i ++ rest out at i))
      ∙ ap (λ (l : List ℕ). take at out ++ l) (append-nil (take (length text) text ++ drop (length text) (take (length out - at) (drop at out))))
      ∙ (λ i. take at out ++ (take-length text i ++ drop (length text) (to_end out at i)))
      ∙ ap (λ (l : List ℕ). take at out ++ (text ++ l)) (drop-drop (length text) at out)
      ∙ sym (append_assoc (take at out) text (drop (at + length text) out))

-- a header at the front of a buffer, and then a text behind it
pub filled : (head text out after part : List ℕ) (at : ℕ) → at ≡ length head → after ≡ head ++ drop (length head) out
    → part ≡ take (length text) text ++ drop (length text) (take (length after - at) (drop at after))
    → take at after ++ (part ++ drop (length after - at) (drop at after)) ≡ (head ++ text) ++ drop (length (head ++ text)) out
filled head text out after part at s e g =
    copied after text part at g ∙ (λ i. take (s i) (e i) ++ text ++ drop (s i + length text) (e i))
    ∙ (λ i. take-append_seam head (drop (length head) out) i ++ text ++ (drop-append-add head (drop (length head) out) (length text) ∙ drop-drop (length text) (length head) out) i)
    ∙ ap (λ (n : ℕ). head ++ text ++ drop n out) (sym (length-append head text))

-- a file from a place on, copied over the front of a buffer
pub copied_front : (f out after : List ℕ) (at : ℕ)
    → after ≡ take (length (take (length f - at) (drop at f))) (take (length f - at) (drop at f)) ++ drop (length (take (length f - at) (drop at f))) out
    → after ≡ drop at f ++ drop (length (drop at f)) out
copied_front f out after at e =
    e ∙ (λ i. take (length (to_end f at i)) (to_end f at i) ++ drop (length (to_end f at i)) out)
    ∙ ap (λ (l : List ℕ). l ++ drop (length (drop at f)) out) (take-length (drop at f))
