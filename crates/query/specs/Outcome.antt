-- What a call that may be refused answers and leaves (SCOPE, Refusals).
use Rattle.std.specs.Prelude.{ℕ, not, Result, Ok, Err, is_ok}
use Rattle.numbers.specs.Choice.{pick}
use Rattle.device.specs.declared.Ssd1677.{Ssd1677}
use Rattle.guard.specs.declared.Refusal.{Refusal}
use Rattle.guard.specs.declared.Refusal.TheVariants.{State}
use Rattle.guard.specs.declared.Refused.{Refused}
use Rattle.guard_state.specs.State.{state_fine}
use Rattle.guard.specs.Refusals.{number_of, refusal_number}

-- the refusal's number, 0 for a call that is accepted, and all that the call answers and leaves beside it
pub record Outcome (A : Type 0) : Type 0 where
  pub number : ℕ
  pub held : A

-- the two as one
abbrev pub outcome : {A : Type 0} → ℕ → A → Outcome A
outcome number held = record { number = number; held = held }

-- what an accepted call does, and of a refused one all as it was given
abbrev pub unless : {A : Type 0} → Result Unit Refusal → A → A → Outcome A
unless answer given done = outcome (refusal_number answer) (pick (is_ok answer) done given)

-- whether a call was refused, of one that hands back its state
abbrev pub answer_in : {A : Type 0} → Result A Refused → Result Unit Refusal
answer_in (Ok value) = Ok tt
answer_in (Err refused) = Err refused.refusal

-- the state that a call leaves, or hands back
abbrev pub state_in : Result Ssd1677 Refused → Ssd1677
state_in (Ok state) = state
state_in (Err refused) = refused.state

-- what a question answers: of a refused state what stands for nothing
abbrev pub told : {A : Type 0} → A → Result A Refusal → Outcome A
told none (Ok value) = outcome 0 value
told none (Err refusal) = outcome (number_of refusal) none

-- a refusal with the state as given
abbrev pub given_back : Ssd1677 → Result Unit Refusal → Result Unit Refused
given_back d (Ok value) = Ok value
given_back d (Err refusal) = Err (record { refusal = refusal; state = d })

-- what a question after a part of the state answers: of a refused state that part of the one handed back
abbrev pub told_part : {A : Type 0} → (Ssd1677 → A) → Result A Refused → Outcome A
told_part part (Ok value) = outcome 0 value
told_part part (Err refused) = outcome (number_of refused.refusal) (part refused.state)

-- 13 alone, of a call that is lent nothing
unfoldable pub state_guarded : Ssd1677 → Result Unit Refusal
state_guarded d = pick (not (state_fine d)) (Err State) (Ok tt)
