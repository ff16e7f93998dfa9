-- An event does what its call does, and a list of events what the list of their calls does: from an accepted start on none is refused, and all are
-- made (SCOPE, History). Assumes nothing.
use Prim.Native.Nat.{ℕ, zero, suc, ◌+◌}
use mathlib.Core.Path.{◌≡◌, refl, sym, ap, ◌∙◌}
use mathlib.Core.Bool.{true}
use mathlib.Core.List.{List}
use native.Mathlib.Omega.{arith}
use lib.Dec.{eqb}
use Rattle.numbers.specs.Choice.{pick}
use Rattle.config.specs.declared.Ssd1677Config.{Ssd1677Config}
use Rattle.config.specs.Answer.{is_accepted}
use Rattle.query.specs.Outcome.{Outcome, outcome}
use Rattle.power_on.specs.Start.{Buffers, started, world_of}
use Rattle.event.specs.declared.Event.{Event}
use Rattle.event.specs.declared.Event.TheVariants.{Command, Data, Read, Reset, Advance}
use Rattle.dispatch.specs.Dispatch.{dispatched}
use Rattle.traffic.specs.Traffic.{fed, feeding, unread, made}
use Rattle.calls.specs.World.{Call, called, taken, left_by, AllTyped}
use Rattle.world.specs.World.{World}
use Rattle.calls.specs.Sound.{Sound}
use Rattle.calls.proofs.Accepted.{accepted_takes}
use Rattle.calls.proofs.Kept.{sound_kept}
use Rattle.calls.proofs.Runs.{run_kept}
use Rattle.traffic_laws.specs.Events.{call_of, calls_from}

-- an event does what its call does: History holds of what is handed to `dispatch`
pub dispatched_called : (otp : List ℕ) (w : World) (event : Event) → unread (dispatched otp w event) ≡ called otp w (call_of event)
unfolding dispatched
dispatched_called otp w (Command time command) = refl
dispatched_called otp w (Data time byte) = refl
dispatched_called otp w (Read time) = refl
dispatched_called otp w (Reset time low) = refl
dispatched_called otp w (Advance time) = refl

-- ---- a list of them
module _ (otp : List ℕ) (event : ℕ → Event) where
  -- what the event of a place leaves
  abbrev next : ℕ → World → World
  next i w = taken otp w (call_of (event i))

  fed_sound : (n i : ℕ) (w : World) → Sound otp w → AllTyped (calls_from event n i)
      → feeding (made otp event) n i w ≡ fed 0 (i + n) (left_by otp w (calls_from event n i))
  unfolding feeding
  fed_sound zero i w s t = ap (λ (m : ℕ). fed 0 m w) (omega arith)
  fed_sound (suc n) i w s t =
      ap (λ (o : Outcome World). pick (eqb o.number 0) (feeding (made otp event) n (i + 1) o.held) (fed o.number i o.held))
      (dispatched_called otp w (event i) ∙ takes)
      ∙ fed_sound n (i + 1) (next i w) (sound_kept otp w s (call_of (event i)) t.0) t.1
      ∙ ap (λ (m : ℕ). fed 0 m (left_by otp (next i w) (calls_from event n (i + 1)))) (omega arith)
      ∙ ap (λ (o : Outcome World). fed 0 (i + suc n) (left_by otp o.held (calls_from event n (i + 1)))) (sym takes)
    where
      takes : called otp w (call_of (event i)) ≡ outcome 0 (next i w)
      takes = accepted_takes otp w s (call_of (event i))

module _ (c : Ssd1677Config) (otp : List ℕ) (b : Buffers) (ok : is_accepted (started c otp b).answer ≡ true) (calls : List Call) (typed : AllTyped calls)
    (event : ℕ → Event) (n : ℕ) (bytes : AllTyped (calls_from event n 0)) where
  -- the device and its buffers after an accepted start and the calls
  abbrev present : World
  present = left_by otp (world_of (started c otp b).left) calls

  -- events fed to it: none is refused, all are made, and they leave what their calls leave
  pub fed_left : feeding (made otp event) n 0 present ≡ fed 0 n (left_by otp present (calls_from event n 0))
  fed_left =
      fed_sound otp event n 0 present (run_kept c otp b ok calls typed).sound bytes
      ∙ ap (λ (m : ℕ). fed 0 m (left_by otp present (calls_from event n 0))) (omega arith)
