-- Calls, events and lists of events by the contracts of the entry points, of `dispatch` and of `feed` (history/specs/Contracts).
use Rattle.std.specs.Prelude.{ℕ, ◌≡◌, List, [], ◌∷◌, ◌++◌, Result, Ok}
use contract.Lifetimes.{Lfts}
use Rattle.guard.specs.declared.Refusal.{Refusal}
use Rattle.query.specs.Outcome.{answer_in}
use Rattle.driven.specs.Read.{reading_in}
use Rattle.event.specs.declared.Event.{Event}
use Rattle.traffic.specs.Traffic.{event_at}
use Rattle.counts.specs.Counts.{picture}
use Rattle.world.specs.World.{World, world}
use Rattle.calls.specs.World.{Call}
use Rattle.history.specs.Runs.{Beside}
use Rattle.history.specs.Claims.{Made}
use Rattle.dispatch.proofs.dispatch.Reads as dispatch-reads
use Rattle.traffic.proofs.feed.Reads as feed-reads
use Rattle.traffic_laws.specs.Events.{call_of, calls_from}

-- an event handed to `dispatch` under a table, with a world, and what it answered and left. Its arguments: state, states, LUTs, pixels,
-- counts, black-white, red, gates, log, table, event; the byte of a read is the caller's
pub data Dispatches : List ℕ → World → Event → Result Unit Refusal → World → Type 0 where
  dispatch : (κs : Lfts 9) (a : _) (r : _) (s : _) → dispatch-reads.Learnt κs a r s
      → Dispatches a.1.1.1.1.1.1.1.1.1.0.now
      (world a.0 a.1.0.now a.1.1.0.now (picture a.1.1.1.0.now a.1.1.1.1.0.now) a.1.1.1.1.1.0.now a.1.1.1.1.1.1.0.now
      a.1.1.1.1.1.1.1.0.now a.1.1.1.1.1.1.1.1.0.now)
      a.1.1.1.1.1.1.1.1.1.1.0
      (answer_in r)
      (world (reading_in r).state s.1.0.now s.1.1.0.now (picture s.1.1.1.0.now s.1.1.1.1.0.now) s.1.1.1.1.1.0.now s.1.1.1.1.1.1.0.now
      a.1.1.1.1.1.1.1.0.now s.1.1.1.1.1.1.1.1.0.now)

-- events handed to `feed` under a table, with a world: the calls of as many of them as it says it made, and what it left. Its arguments: as of
-- `dispatch`, with kinds, times and values in place of the event
pub data Feeds : List ℕ → World → List Call → World → Type 0 where
  feed : (κs : Lfts 12) (a : _) (r : _) (s : _) → feed-reads.Learnt κs a r s
      → Feeds a.1.1.1.1.1.1.1.1.1.0.now
      (world a.0 a.1.0.now a.1.1.0.now (picture a.1.1.1.0.now a.1.1.1.1.0.now) a.1.1.1.1.1.0.now a.1.1.1.1.1.1.0.now
      a.1.1.1.1.1.1.1.0.now a.1.1.1.1.1.1.1.1.0.now)
      (calls_from
      (event_at a.1.1.1.1.1.1.1.1.1.1.0.now a.1.1.1.1.1.1.1.1.1.1.1.0.now a.1.1.1.1.1.1.1.1.1.1.1.1.0.now)
      r.made 0)
      (world r.state s.1.0.now s.1.1.0.now (picture s.1.1.1.0.now s.1.1.1.1.0.now) s.1.1.1.1.1.0.now s.1.1.1.1.1.1.0.now
      a.1.1.1.1.1.1.1.0.now s.1.1.1.1.1.1.1.1.0.now)

-- calls, events and lists of events one after the other, by the calls that were accepted; beside them events that `dispatch` refused and lists of
-- which `feed` made none, each handed anything
pub data Traffic (otp : List ℕ) : World → List Call → World → Type 0 where
  done : {w : World} → Traffic otp w [] w
  calls : {w v u : World} {made more : List Call} → Made otp w made v → Traffic otp v more u → Traffic otp w (made ++ more) u
  event : {w v u : World} {sent : Event} {more : List Call} → Dispatches otp w sent (Ok tt) v → Traffic otp v more u → Traffic otp w (call_of sent ∷ more) u
  refused : {w v u handed back : World} {sent : Event} {reason : Result Unit Refusal} {more : List Call} (table : List ℕ) → (reason ≡ Ok tt → ⊥)
      → Dispatches table handed sent reason back → Beside w handed back v → Traffic otp v more u → Traffic otp w more u
  events : {w v u : World} {made more : List Call} → Feeds otp w made v → Traffic otp v more u → Traffic otp w (made ++ more) u
  none_made : {w v u handed back : World} {more : List Call} (table : List ℕ) → Feeds table handed [] back → Beside w handed back v
      → Traffic otp v more u → Traffic otp w more u
