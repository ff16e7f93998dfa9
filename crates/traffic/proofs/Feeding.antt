-- Steps one after the other: one more, the last where it is refused, and the end. Assumes nothing.
use Rattle.std.specs.Prelude.{Option, Result, Ok, Err, is_ok}
use mathlib.Core.Path.{◌≡◌, refl, sym, ap, ◌∙◌}
use mathlib.Core.Bool.{true, false}
use mathlib.Core.List.{List}
use Prim.Native.Nat.{ℕ, suc, ◌+◌, ◌-◌, ◌<◌}
use native.Mathlib.Omega.{arith}
use lib.Dec.{eqb}
use Rattle.numbers.specs.Choice.{pick}
use Rattle.query.specs.Outcome.{Outcome, outcome}
use Rattle.guard.specs.declared.Refusal.{Refusal}
use Rattle.guard.specs.declared.Refusal.TheVariants.{Buffer, Table, State, Counts}
use Rattle.guard.specs.Refusals.{number_of, refusal_number}
use Rattle.event.specs.declared.Event.{Event}
use Rattle.world.specs.World.{World}
use Rattle.dispatch.specs.Dispatch.{told, dispatched}
use Rattle.traffic.specs.Traffic.{Fed, fed, feeding, ended, unread, made}

pub never : false ≡ true → ⊥
never e = let z : ◌≡◌ {A = ℕ} 0 1 = cc in omega arith

module _ {A : Type 0} (step : ℕ → A → Outcome A) where
  -- where a step goes on
  abbrev pub going_on : ℕ → ℕ → Outcome A → Fed A
  going_on n i o = pick (eqb o.number 0) (feeding step n (i + 1) o.held) (fed o.number i o.held)

  pub one : (n i : ℕ) (w : A) → feeding step (suc n) i w ≡ going_on n i (step i w)
  unfolding feeding
  one n i w = refl

  -- the steps that are left, after one of them
  left : (count i : ℕ) → i < count → count - i ≡ suc (count - (i + 1))
  left count i h = omega (arith, h)

  next : (count i : ℕ) (w : A) → i < count → feeding step (count - i) i w ≡ going_on (count - (i + 1)) i (step i w)
  next count i w h = ap (λ (k : ℕ). feeding step k i w) (left count i h) ∙ one (count - (i + 1)) i w

  -- an accepted step
  pub fed_more : (count i : ℕ) (f : Fed A) (w : A) {v : A} → i < count
      → outcome 0 v ≡ step i w → feeding step (count - i) i w ≡ f → feeding step (count - (i + 1)) (i + 1) v ≡ f
  fed_more count i f w h e g = ap (going_on (count - (i + 1)) i) e ∙ sym (next count i w h) ∙ g

  -- a refused step is the last
  pub fed_last : (count i : ℕ) (f : Fed A) (w : A) {v : A} (refusal : Refusal) → i < count
      → outcome (number_of refusal) v ≡ step i w → feeding step (count - i) i w ≡ f → fed (number_of refusal) i v ≡ f
  fed_last count i f w Buffer h e g = ap (going_on (count - (i + 1)) i) e ∙ sym (next count i w h) ∙ g
  fed_last count i f w Table h e g = ap (going_on (count - (i + 1)) i) e ∙ sym (next count i w h) ∙ g
  fed_last count i f w State h e g = ap (going_on (count - (i + 1)) i) e ∙ sym (next count i w h) ∙ g
  fed_last count i f w Counts h e g = ap (going_on (count - (i + 1)) i) e ∙ sym (next count i w h) ∙ g

  -- all were accepted
  pub fed_all : (count i : ℕ) (f : Fed A) (w : A) → count - i ≡ 0 → feeding step (count - i) i w ≡ f → fed 0 i w ≡ f
  unfolding feeding
  fed_all count i f w h g = sym (ap (λ (k : ℕ). feeding step k i w) h) ∙ g

  -- after accepted steps the others are made
  pub ended_on : (count : ℕ) (answer : Result Unit Refusal) (i : ℕ) (w : A) → is_ok answer ≡ true
      → ended step count (fed (refusal_number answer) i w) ≡ feeding step (count - i) i w
  unfolding ended
  ended_on count (Ok value) i w a = refl
  ended_on count (Err refusal) i w a = absurd (never a)

  -- after a refused one none is
  pub ended_there : (count : ℕ) (answer : Result Unit Refusal) (i : ℕ) (w : A) → is_ok answer ≡ false
      → ended step count (fed (refusal_number answer) i w) ≡ fed (refusal_number answer) i w
  unfolding ended
  ended_there count (Ok value) i w a = absurd (never (sym a))
  ended_there count (Err Buffer) i w a = refl
  ended_there count (Err Table) i w a = refl
  ended_there count (Err State) i w a = refl
  ended_there count (Err Counts) i w a = refl

  -- a step with those that are made by then: accepted, or refused
  pub one_made : (count i : ℕ) (w : A) {v : A} → i < count → outcome 0 v ≡ step i w → ended step count (fed 0 (i + 1) v) ≡ feeding step (count - i) i w
  one_made count i w {v} h e = ended_on count (Ok tt) (i + 1) v refl ∙ fed_more count i _ w h e refl

  pub none_made : (count i : ℕ) (w : A) {v : A} (refusal : Refusal) → i < count → outcome (number_of refusal) v ≡ step i w
      → ended step count (fed (number_of refusal) i v) ≡ feeding step (count - i) i w
  none_made count i w {v} refusal h e = ended_there count (Err refusal) i v refl ∙ fed_last count i _ w refusal h e refl

-- the step of a place, by what its event does
pub made_one : (otp : List ℕ) (events : ℕ → Event) (i : ℕ) (w : World) {v : World} {number : ℕ} {byte : Option ℕ} {event : Event}
    → outcome number (told v byte) ≡ dispatched otp w event → event ≡ events i → outcome number v ≡ made otp events i w
made_one otp events i w e f = ap unread e ∙ ap (λ (x : Event). unread (dispatched otp w x)) f
