-- What `stream` promises, by whether it was one. Assumes nothing.
use Rattle.std.specs.Prelude.{Option, Some, None, is_some}
use Prim.Native.Nat.{ℕ}
use mathlib.Core.Path.{◌≡◌, refl, sym, ap, ◌∙◌}
use mathlib.Core.Bool.{false}
use mathlib.Core.List.{List, []}
use Rattle.numbers.proofs.Cases.{took, passed}
use Rattle.device.specs.declared.Ssd1677.{Ssd1677}
use Rattle.device.specs.Parts.{with_pointed}
use Rattle.world.specs.World.{WithRam, with_ram}
use Rattle.data.specs.declared.Streamed.{Streamed}
use Rattle.data.specs.Data.{data_taken}
use Rattle.data.specs.Stream.{left_by, is_streamed, streamed}

module _ (byte : ℕ) (d : Ssd1677) (b r : List ℕ) (o : Option Streamed) (e f : List ℕ)
    (tells : is_some o ≡ is_streamed d b r d.bus.current)
    (gives : (l : List ℕ) → with_ram (left_by d o) e f l ≡ streamed byte (with_ram d b r l) d.bus.current) where
  pub taken : (s : Streamed) (x : Ssd1677) (l : List ℕ) → o ≡ Some s → x ≡ with_pointed d s.counter s.bus
      → with_ram x e f l ≡ data_taken byte (with_ram d b r l) d.bus.current
  taken s x l h k =
      ap (λ (y : Ssd1677). with_ram y e f l) (k ∙ ap (left_by d) (sym h)) ∙ gives l
      ∙ sym (took (is_streamed d b r d.bus.current) _ (with_ram d b r l) _ (sym tells ∙ ap is_some h) refl)

  module _ (h : o ≡ None) where
    untouched : (l : List ℕ) → with_ram d e f l ≡ with_ram d b r l
    untouched l =
        ap (λ (y : Option Streamed). with_ram (left_by d y) e f l) (sym h) ∙ gives l
        ∙ sym (passed (is_streamed d b r d.bus.current) (data_taken byte (with_ram d b r l) d.bus.current) _ _ (sym tells ∙ ap is_some h) refl)

    -- what comes after finds the planes as they were
    pub not_taken : (v : WithRam) (l : List ℕ) → v ≡ data_taken byte (with_ram d e f l) d.bus.current
        → v ≡ data_taken byte (with_ram d b r l) d.bus.current
    not_taken v l k = k ∙ ap (λ (y : WithRam). data_taken byte (with_ram d y.black_white y.red l) d.bus.current) (untouched l)

    pub still_not : is_streamed d e f d.bus.current ≡ false
    still_not = ap (λ (y : WithRam). is_streamed d y.black_white y.red d.bus.current) (untouched []) ∙ sym tells ∙ ap is_some h
