-- A walk over a list that is joined from lists, one more at a time: what the loops of the walks know. Assumes nothing.
use mathlib.Core.Path.{◌≡◌, refl, sym, ap, ◌∙◌}
use mathlib.Core.List.{List, [], ◌∷◌, foldl, foldl-append}
use Prim.Native.Nat.{ℕ, ◌+◌}
use native.Mathlib.Numerals.{add-one}
use borrow.Author.Tests.{eq-eqb, ne_eqb}
use Rattle.waveform.specs.declared.Phase.{Phase}
use Rattle.waveform.specs.Phases.{driven, joined}

-- a phase of 0 frames, and any other
pub driven_none : (p : Phase) → p.frames ≡ 0 → driven p ≡ []
unfolding driven
driven_none p e = simp (eq-eqb p.frames 0 e)

pub driven_some : (p : Phase) → (p.frames ≡ 0 → ⊥) → driven p ≡ p ∷ []
unfolding driven
driven_some p h = simp (ne_eqb p.frames 0 h)

module _ {A : Type 0} (step : A → Phase → A) where
  -- where a loop begins
  pub fold_none : (a : A) (f : ℕ → List Phase) → a ≡ foldl step a (joined 0 f)
  unfolding joined
  fold_none a f = refl

  -- a turn of a loop
  pub fold_more : (a₀ : A) (f : ℕ → List Phase) (n : ℕ) {a b : A} → a ≡ foldl step a₀ (joined n f) → b ≡ foldl step a (f n)
      → b ≡ foldl step a₀ (joined (n + 1) f)
  unfolding joined
  fold_more a₀ f n e h =
      h
      ∙ ap (λ (c : A). foldl step c (f n)) e
      ∙ sym (foldl-append step a₀ (joined n f) (f n))
      ∙ ap (λ (k : ℕ). foldl step a₀ (joined k f)) (sym (add-one n))
