-- Events made one after the other, up to the first call that is refused (#102).
use Rattle.std.specs.Prelude.{◌≡◌, List, ℕ, zero, suc, ◌+◌, ◌-◌, min, eqb, ℤ, length, get_or}
use Rattle.numbers.specs.Choice.{pick}
use Rattle.event.specs.declared.Event.{Event}
use Rattle.event.specs.Events.{event_of}
use Rattle.guard_lengths.specs.declared.Lengths.{Lengths}
use Rattle.guard_lengths.specs.Lengths.{planes_log_lent}
use Rattle.query.specs.Outcome.{Outcome, outcome}
use Rattle.counts.specs.Counts.{Picture}
use Rattle.world.specs.World.{World, world}
use Rattle.dispatch.specs.Dispatch.{Told, dispatched}
use Rattle.burst.specs.Burst.{Bursted}

-- the event at a place of three lists
abbrev pub event_at : List ℕ → List ℕ → List ℕ → ℕ → Event
event_at kinds times values i = event_of (get_or kinds i 0) (get_or times i 0) (get_or values i 0)

-- how many events three lists have
abbrev pub shortest : List ℕ → List ℕ → List ℕ → ℕ
shortest kinds times values = min (length kinds) (min (length times) (length values))

-- how steps ended: the number of the one that was refused, 0 for none, how many were made before it, and what they leave
pub record Fed (A : Type 0) : Type 0 where
  pub number : ℕ
  pub made : ℕ
  pub left : A

-- the three as one
abbrev pub fed : {A : Type 0} → ℕ → ℕ → A → Fed A
fed number made left = record { number = number; made = made; left = left }

-- n steps, the first of them at place i: an accepted one hands what it leaves to the next, a refused one is the last
unfoldable pub feeding : {A : Type 0} → (ℕ → A → Outcome A) → ℕ → ℕ → A → Fed A
feeding step zero i w = fed 0 i w
feeding step (suc n) i w =
    pick (eqb (step i w).number 0) (feeding step n (i + 1) (step i w).held) (fed (step i w).number i (step i w).held)

-- how count steps end, by how the first of them ended: a refused one was the last, after accepted ones the others are made
unfoldable pub ended : {A : Type 0} → (ℕ → A → Outcome A) → ℕ → Fed A → Fed A
ended step count f = pick (eqb f.number 0) (feeding step (count - f.made) f.made f.left) f

-- the byte that a read gives is dropped
abbrev pub unread : Outcome Told → Outcome World
unread o = outcome o.number o.held.left

-- the step that makes the event of a place
abbrev pub made : List ℕ → (ℕ → Event) → ℕ → World → Outcome World
made otp event i w = unread (dispatched otp w (event i))

-- the rest of the events, fed from one place with its state and planes, ends as from another, whatever else is lent with the lengths of a data byte's call
unfoldable pub EndsAlike : List ℕ → List ℕ → List ℕ → ℕ → Lengths → Bursted → Bursted → Type 0
EndsAlike kinds times values count lengths one other =
    (gates otp luts : List ℕ) (shown : Picture) (log : List ℕ) (states : List ℤ)
    → lengths ≡ planes_log_lent (length states) (length luts) (length shown.pixels) (length shown.counts) (length log) (length one.black_white) (length one.red)
    → feeding (made otp (event_at kinds times values)) (count - other.made) other.made
    (world other.device states luts shown other.black_white other.red gates log)
    ≡ feeding (made otp (event_at kinds times values)) (count - one.made) one.made
    (world one.device states luts shown one.black_white one.red gates log)
