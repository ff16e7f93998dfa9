-- From an accepted start on, whatever calls came, each with what the call before it left: no further call is refused, and BUSY is high to
-- the end of the display in progress. Assumes nothing.
use Rattle.std.specs.Prelude.{Some, None, Ok}
use Prim.Native.Nat.{ℕ, ◌<◌}
use mathlib.Core.Path.{◌≡◌, sym, ap, subst, ◌∙◌}
use mathlib.Core.Bool.{true}
use mathlib.Core.List.{List, [], ◌∷◌}
use Rattle.config.specs.declared.Ssd1677Config.{Ssd1677Config}
use Rattle.config.specs.Answer.{is_accepted}
use Rattle.panel.specs.declared.Display.{Display}
use Rattle.world.specs.World.{World}
use Rattle.busy.specs.Busy.{busy_at, deadline_of}
use Rattle.query.specs.Outcome.{Outcome, outcome, state_guarded}
use Rattle.power_on.specs.Start.{Buffers, started, world_of}
use Rattle.calls.specs.World.{Call, set_reset, called, taken, left_by, AllTyped}
use Rattle.calls.specs.Sound.{Sound, Held}
use Rattle.calls.proofs.Accepted.{accepted_takes, state_passes}
use Rattle.calls.proofs.Kept.{sound_kept}
use Rattle.calls.proofs.Start.{started_sound}
use Rattle.calls.proofs.Held.{held_kept, low_stops, started_held, busy_to_end, deadline_at_end}

-- both of what every call keeps
pub record Kept (otp : List ℕ) (w : World) : Type 0 where
  pub sound : Sound otp w
  pub held : Held w.device

pub run_keeps : (otp : List ℕ) (w : World) (calls : List Call) → AllTyped calls → Kept otp w → Kept otp (left_by otp w calls)
run_keeps otp w [] t k = k
run_keeps otp w (call ∷ calls) t k = run_keeps otp (called otp w call).held calls t.1 next
  where
    same : (called otp w call).held ≡ taken otp w call
    same = ap (λ (o : Outcome World). o.held) (accepted_takes otp w k.sound call)

    next : Kept otp (called otp w call).held
    next =
        subst (Kept otp) (sym same)
        (record { sound = sound_kept otp w k.sound call t.0; held = held_kept otp w k.held call t.0 })

module _ (c : Ssd1677Config) (otp : List ℕ) (b : Buffers) (accepts : is_accepted (started c otp b).answer ≡ true) (calls : List Call)
    (typed : AllTyped calls) where
  -- the device and its buffers after the calls
  abbrev pub present : World
  present = left_by otp (world_of (started c otp b).left) calls

  pub run_kept : Kept otp present
  run_kept =
      run_keeps otp (world_of (started c otp b).left) calls typed (record { sound = started_sound c otp b accepts; held = started_held c otp b })

  -- no further call is refused: it answers 0 and does what it is to do
  pub never_refused : (call : Call) → called otp present call ≡ outcome 0 (taken otp present call)
  never_refused call = accepted_takes otp present run_kept.sound call

  -- nor is a question (is_busy, busy_pin, next_deadline, config, panel_image, dropped_diagnostics): 13 accepts the state
  pub never_refused_asking : state_guarded present.device ≡ Ok tt
  never_refused_asking = state_passes present.device run_kept.sound.state

  -- after a call that asserts RES# no refresh is under way
  pub reset_stops : (time : ℕ) → (called otp present (set_reset time true)).held.device.display ≡ None
  reset_stops time =
      ap (λ (o : Outcome World). o.held.device.display) (never_refused (set_reset time true)) ∙ low_stops otp present run_kept.held time

  module _ (display : Display) (is : present.device.display ≡ Some display) where
    -- while a refresh runs, BUSY is high up to its end
    pub busy_while_running : (t : ℕ) → t < display.ends → busy_at present.device.bus t ≡ true
    busy_while_running t h = busy_to_end present.device display (run_kept.held display is) t h

    -- and the next deadline is that end
    pub deadline_while_running : deadline_of present.device ≡ Some display.ends
    deadline_while_running = deadline_at_end present.device display (run_kept.held display is)
