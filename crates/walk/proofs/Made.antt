-- What is made of a group once for all its repeats: the walk over it is that over the group's own phases. Assumes nothing.
use mathlib.Core.Path.{◌≡◌, refl, sym, ap, ◌∙◌}
use mathlib.Core.Bool.{Bool, true, false, not, ◌&&◌}
use mathlib.Core.List.{List, [], ◌++◌, foldl, foldl-append}
use Prim.Native.Nat.{ℕ, zero, suc}
use lib.Dec.{eqb}
use lib.ListN.{get_or}
use borrow.Author.Tests.{eqb-true}
use Rattle.numbers.proofs.Cases.{left, right}
use Rattle.glass.specs.declared.Transfer.{Transfer}
use Rattle.glass.specs.Transfers.{then_t, shift_t}
use Rattle.waveform.specs.declared.Driving.{Driving}
use Rattle.waveform.specs.declared.Group.{Group}
use Rattle.waveform.specs.declared.Phase.{Phase}
use Rattle.waveform.specs.declared.DrivenPhase.{DrivenPhase}
use Rattle.waveform.specs.Phases.{phase_of, driven, joined}
use Rattle.waveform.specs.Walks.{phase_in, four_in, group_in, drive_stepped, pushed}
use Rattle.waveform_laws.proofs.Joined.{driven_none}
use Rattle.waveform_laws.proofs.Stepped.{drive_some, stepped_some}
use Rattle.walk.specs.declared.phases.Lasting.{Lasting}
use Rattle.walk.specs.Ready.{LastingOf, no_frames}

-- no phases, repeated
none_joined : (n : ℕ) → joined {A = Phase} n (λ k. []) ≡ []
unfolding joined
none_joined zero = refl
none_joined (suc n) = ap (λ (l : List Phase). l ++ []) (none_joined n)

-- a test that is not passed
not_false : (b : Bool) → not b ≡ false → b ≡ true
not_false true e = refl
not_false false e = sym e

-- a walk is not moved by a group without frames
pub idle_walk : {A : Type 0} (step : A → Phase → A) (d : Driving) (g : Group) (a : A) {idle : Bool} → idle ≡ no_frames g.frames → not idle ≡ false → a ≡ foldl step a (group_in d g)
unfolding phase_of joined
idle_walk step d g a h n = ap (foldl step a) (sym (ap (λ (l : List Phase). joined g.repeats (λ k. l)) four ∙ none_joined g.repeats))
  where
    e : no_frames g.frames ≡ true
    e = sym h ∙ not_false _ n

    z : ℕ → Bool
    z k = eqb (get_or g.frames k 0) 0

    none : (k : ℕ) → z k ≡ true → driven (phase_in d g k) ≡ []
    none k h = driven_none (phase_in d g k) (eqb-true _ _ h)

    three : ((z 0 && z 1) && z 2) ≡ true
    three = left ((z 0 && z 1) && z 2) (z 3) e

    two : (z 0 && z 1) ≡ true
    two = left (z 0 && z 1) (z 2) three

    four : four_in d g ≡ []
    four = λ i. ((none 0 (left (z 0) (z 1) two) i ++ none 1 (right (z 0) (z 1) two) i) ++ none 2 (right (z 0 && z 1) (z 2) three) i) ++ none 3 (right ((z 0 && z 1) && z 2) (z 3) e) i

-- the drive made for a phase with frames is that of all its frames
pub ready_step : (d : Driving) (l : Lasting) (t : Transfer) → LastingOf d l → (l.step.phase.frames ≡ 0 → ⊥) → drive_stepped d l.step t ≡ pushed d l.step.phase l.step.phase.frames t
unfolding pushed
ready_step d l t r h =
    stepped_some d l.step t h
    ∙ ap (λ (s : DrivenPhase). then_t t (shift_t s.drive d.swing)) (r.drive_is ∙ sym (drive_some d l.step.phase h))

-- one walk, then another
pub then_on : {A : Type 0} (step : A → Phase → A) (w : A) (xs ys : List Phase) {one two : A} → one ≡ foldl step w xs → two ≡ foldl step one ys → two ≡ foldl step w (xs ++ ys)
then_on {A} step w xs ys p q = q ∙ ap (λ (v : A). foldl step v ys) p ∙ sym (foldl-append step w xs ys)
