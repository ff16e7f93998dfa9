-- The contracts of `dispatch` and `feed` give the theorem too: History holds of every mixture of calls, events and lists of events that were made of
-- a device which `new` has started. Weaken an `ensures` of these, and this is refused. Assumes nothing.
use Rattle.std.specs.Prelude.{Result}
use Rattle.device.specs.declared.Ssd1677.{Ssd1677}
use Prim.Native.Nat.{ℕ, zero, suc, ◌+◌, ◌≤◌}
use mathlib.Core.Path.{◌≡◌, refl, sym, ap, subst, ◌∙◌}
use mathlib.Core.Bool.{Bool, true, false}
use mathlib.Core.List.{List, [], ◌∷◌, ◌++◌}
use native.Mathlib.Omega.{arith}
use lib.Dec.{eqb}
use borrow.Author.Tests.{eqb-true, eqb-false}
use Rattle.numbers.specs.Choice.{pick}
use Rattle.config.specs.declared.Ssd1677Config.{Ssd1677Config}
use Rattle.config.specs.Answer.{is_accepted}
use Rattle.guard.specs.declared.Refusal.{Refusal}
use Rattle.guard.specs.Refusals.{refusal_number}
use Rattle.query.specs.Outcome.{Outcome, outcome}
use Rattle.power_on.specs.declared.StartError.{StartError}
use Rattle.power_on.specs.Start.{Buffers, Powered, start_answer_of, world_of}
use Rattle.event.specs.declared.Event.{Event}
use Rattle.dispatch.specs.Dispatch.{Told}
use Rattle.traffic.specs.Traffic.{Fed, fed, feeding, unread, made, event_at, shortest}
use Rattle.calls.specs.World.{Call, called}
use Rattle.counts.specs.Counts.{picture}
use Rattle.world.specs.World.{World, world}
use Rattle.history.specs.Reckon.{core_of, reckon, first_reckoning}
use Rattle.history.specs.Runs as runs
use Rattle.history.specs.Runs.{Runs}
use Rattle.history.specs.History.{Agrees}
use Rattle.history.specs.Claims.{New}
use Rattle.history.proofs.Calls.{refused_same, beside_same}
use Rattle.history.proofs.Contracts.{not_nought, made_runs, new_agrees}
use Rattle.history.proofs.Exists.{one_end}
use Rattle.traffic_laws.specs.Events.{call_of, calls_from}
use Rattle.traffic_laws.specs.Claims as contracts
use Rattle.traffic_laws.specs.Claims.{Dispatches, Feeds, Traffic, done, calls, event, refused, events, none_made}
use Rattle.traffic_laws.proofs.Events.{dispatched_called}

-- ---- an event
pub dispatches_called : {otp : List ℕ} {w v : World} {sent : Event} {reason : Result Unit Refusal} → Dispatches otp w sent reason v
    → outcome (refusal_number reason) v ≡ called otp w (call_of sent)
dispatches_called (contracts.dispatch κs a r s q) =
    let w =
    world a.0 a.1.0.now a.1.1.0.now (picture a.1.1.1.0.now a.1.1.1.1.0.now) a.1.1.1.1.1.0.now a.1.1.1.1.1.1.0.now
    a.1.1.1.1.1.1.1.0.now a.1.1.1.1.1.1.1.1.0.now in
    ap (λ (o : Outcome Told). unread o) q
    ∙ dispatched_called a.1.1.1.1.1.1.1.1.1.0.now w a.1.1.1.1.1.1.1.1.1.1.0

-- ---- a list of events: those that are made run, and a refused one leaves what it was handed
module _ (otp : List ℕ) (event : ℕ → Event) where
  abbrev step : ℕ → World → Outcome World
  step = made otp event

  not_back : (n i : ℕ) (w : World) → i ≤ (feeding step n i w).made
  unfolding feeding
  not_back zero i w = omega arith
  not_back (suc n) i w = by (eqb (step i w).number 0) (not_back n (i + 1) (step i w).held)
    where
      by : (b : Bool) → i + 1 ≤ (feeding step n (i + 1) (step i w).held).made
          → i ≤ (pick b (feeding step n (i + 1) (step i w).held) (fed (step i w).number i (step i w).held)).made
      by true h = omega (arith, h)
      by false h = omega arith

  fed_runs : (n i k : ℕ) (w : World) → (feeding step n i w).made ≡ i + k
      → Runs otp w (calls_from event k i) (feeding step n i w).left
  unfolding feeding
  fed_runs zero i zero w e = runs.done
  fed_runs zero i (suc k) w e = absurd (omega (arith, e))
  fed_runs (suc n) i k w e = by (eqb (step i w).number 0) refl k e (λ j f. fed_runs n (i + 1) j (step i w).held f)
    where
      is : outcome (step i w).number (step i w).held ≡ called otp w (call_of (event i))
      is = dispatched_called otp w (event i)

      by : (b : Bool) → eqb (step i w).number 0 ≡ b → (k : ℕ)
          → (pick b (feeding step n (i + 1) (step i w).held) (fed (step i w).number i (step i w).held)).made ≡ i + k
          → ((j : ℕ) → (feeding step n (i + 1) (step i w).held).made ≡ i + 1 + j
          → Runs otp (step i w).held (calls_from event j (i + 1)) (feeding step n (i + 1) (step i w).held).left)
          → Runs otp w (calls_from event k i)
          (pick b (feeding step n (i + 1) (step i w).held) (fed (step i w).number i (step i w).held)).left
      by true o zero f rest = absurd (omega (arith, f, not_back n (i + 1) (step i w).held))
      by true o (suc k) f rest =
          runs.accepted
          (ap (λ (m : ℕ). outcome m (step i w).held) (sym (eqb-true (step i w).number 0 o)) ∙ is)
          (rest k (omega (arith, f)))
      by false o zero f rest =
          subst (Runs otp w [])
          (sym (refused_same otp w (step i w).held (step i w).number (call_of (event i)) (eqb-false (step i w).number 0 o) is))
          runs.done
      by false o (suc k) f rest = absurd (omega (arith, f))

from_none : {n m : ℕ} → n ≡ m → n ≡ 0 + m
from_none e = omega arith

pub feeds_runs : {otp : List ℕ} {w v : World} {list : List Call} → Feeds otp w list v → Runs otp w list v
feeds_runs (contracts.feed κs a r s q) =
    let otp = a.1.1.1.1.1.1.1.1.1.0.now in
    let kinds = a.1.1.1.1.1.1.1.1.1.1.0.now in
    let times = a.1.1.1.1.1.1.1.1.1.1.1.0.now in
    let values = a.1.1.1.1.1.1.1.1.1.1.1.1.0.now in
    let w =
    world a.0 a.1.0.now a.1.1.0.now (picture a.1.1.1.0.now a.1.1.1.1.0.now) a.1.1.1.1.1.0.now a.1.1.1.1.1.1.0.now
    a.1.1.1.1.1.1.1.0.now a.1.1.1.1.1.1.1.1.0.now in
    let event = event_at kinds times values in
    subst (λ (x : World). Runs otp w (calls_from event r.made 0) x)
    (ap (λ (f : Fed World). f.left) (sym q))
    (fed_runs otp event (shortest kinds times values) 0 r.made w (from_none (ap (λ (f : Fed World). f.made) (sym q))))

-- ---- a mixture
runs_then : {otp : List ℕ} {w v u : World} {list more : List Call} → Runs otp w list v → Runs otp v more u → Runs otp w (list ++ more) u
runs_then runs.done rest = rest
runs_then (runs.accepted e r) rest = runs.accepted e (runs_then r rest)
runs_then (runs.refused call table n e b r) rest = runs.refused call table n e b (runs_then r rest)

pub traffic_runs : {otp : List ℕ} {w u : World} {list : List Call} → Traffic otp w list u → Runs otp w list u
traffic_runs done = runs.done
traffic_runs (calls m rest) = runs_then (made_runs m) (traffic_runs rest)
traffic_runs (event d rest) = runs.accepted (dispatches_called d) (traffic_runs rest)
traffic_runs (refused {sent = sent} {reason = reason} table n d b rest) =
    runs.refused (call_of sent) table (not_nought reason n) (dispatches_called d) b (traffic_runs rest)
traffic_runs (events f rest) = runs_then (feeds_runs f) (traffic_runs rest)
traffic_runs {otp = otp} (none_made {w = w} {v = v} {u = u} {handed = handed} {back = back} {more = more} table f b rest) =
    subst (λ (x : World). Runs otp x more u) (beside_same w handed back v (one_end (feeds_runs f)) b) (traffic_runs rest)

-- the theorem: whatever is then made of a device that `new` has started, what is left agrees with the reckoning
pub traffic_agrees : (c : Ssd1677Config) (otp : List ℕ) (b : Buffers) (answer : Result Ssd1677 StartError) (p : Powered) → New c otp b answer p
    → is_accepted (start_answer_of answer) ≡ true → c.optics.initial_gray ≤ 255 → (list : List Call) (u : World) → Traffic otp (world_of p) list u
    → Agrees u (reckon otp (first_reckoning (core_of (world_of p))) list)
traffic_agrees c otp b answer p begins ok byte list u t = new_agrees c otp b answer p begins ok byte list u (traffic_runs t)
