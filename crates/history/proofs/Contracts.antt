-- The contracts give the theorem: what the checker reads off the `ensures` of `new` and of each entry point is the equation that the run relation
-- is made of, so that History holds of every list of calls that were made. Weaken an `ensures`, and this is refused. Assumes nothing.
use Rattle.std.specs.Prelude.{Result, Ok, Err}
use Prim.Native.Nat.{ℕ, ◌≤◌}
use mathlib.Core.Path.{◌≡◌, refl, sym, ap, subst, ◌∙◌}
use mathlib.Core.Bool.{true}
use mathlib.Core.List.{List}
use native.Mathlib.Omega.{arith}
use Rattle.config.specs.declared.Ssd1677Config.{Ssd1677Config}
use Rattle.config.specs.Answer.{is_accepted}
use Rattle.device.specs.declared.Ssd1677.{Ssd1677}
use Rattle.counts.specs.Counts.{picture}
use Rattle.world.specs.World.{World, world, WithGlass, WithGlassLog, WithBuffers, WithPlanes, device_in_world, glass_in_world, glass_log_in_world, buffers_in_world, planes_in_world}
use Rattle.guard.specs.declared.Refusal.{Refusal}
use Rattle.guard.specs.declared.Refusal.TheVariants.{Buffer, Table, State, Counts}
use Rattle.guard.specs.Refusals.{refusal_number}
use Rattle.query.specs.Outcome.{Outcome, outcome}
use Rattle.query.specs.Queries.{WithCount}
use Rattle.driven.specs.Read.{WithRead}
use Rattle.power_on.specs.declared.StartError.{StartError}
use Rattle.power_on.specs.Start.{Buffers, Powered, Start, start, start_answer_of, started, world_of}
use Rattle.calls.specs.World.{Call, back, called}
use Rattle.history.specs.Reckon.{core_of, reckon, first_reckoning}
use Rattle.history.specs.Runs as runs
use Rattle.history.specs.Runs.{Runs}
use Rattle.history.specs.History.{Agrees}
use Rattle.history.specs.Claims.{New, new, Answers, Made, done, accepted, refused}
use Rattle.history.specs.Claims as contracts
use Rattle.history.proofs.History.{history}

-- ---- by call
pub answers_called : {otp : List ℕ} {w v : World} {call : Call} {reason : Result Unit Refusal} → Answers otp w call reason v → outcome (refusal_number reason) v ≡ called otp w call
answers_called (contracts.advance κs a r s q otp b e g l) =
    ap (λ (o : Outcome WithGlass). back (glass_in_world.put (world a.0 a.1.0.now a.1.1.0.now (picture a.1.1.1.0.now a.1.1.1.1.0.now) b e g l)) o) q
answers_called (contracts.set_reset κs a r s q otp b e g) =
    ap (λ (o : Outcome WithGlassLog). back (glass_log_in_world.put (world a.0 a.1.0.now a.1.1.0.now (picture a.1.1.1.0.now a.1.1.1.1.0.now) b e g a.1.1.1.1.1.0.now)) o) q
answers_called (contracts.write_command κs a r s q) =
    ap
    (λ (o : Outcome WithBuffers).
    back
    (buffers_in_world.put
    (world a.0 a.1.0.now a.1.1.0.now (picture a.1.1.1.0.now a.1.1.1.1.0.now) a.1.1.1.1.1.0.now a.1.1.1.1.1.1.0.now
    a.1.1.1.1.1.1.1.0.now a.1.1.1.1.1.1.1.1.0.now))
    o)
    q
answers_called (contracts.write_data κs a r s q otp g) =
    ap
    (λ (o : Outcome WithPlanes).
    back
    (planes_in_world.put
    (world a.0 a.1.0.now a.1.1.0.now (picture a.1.1.1.0.now a.1.1.1.1.0.now) a.1.1.1.1.1.0.now a.1.1.1.1.1.1.0.now g
    a.1.1.1.1.1.1.1.0.now))
    o)
    q
answers_called (contracts.read_data κs a r s q otp g) =
    ap
    (λ (o : Outcome WithRead).
    back
    (λ (x : WithRead).
    glass_log_in_world.put
    (world a.0 a.1.0.now a.1.1.0.now (picture a.1.1.1.0.now a.1.1.1.1.0.now) a.1.1.1.1.1.0.now a.1.1.1.1.1.1.0.now g
    a.1.1.1.1.1.1.1.0.now)
    x.left)
    o)
    q
answers_called (contracts.set_ambient κs a r s q otp w) = ap (λ (o : Outcome Ssd1677). back (device_in_world.put w) o) q
answers_called (contracts.take_diagnostics κs a r s q otp w) = ap (λ (o : Outcome WithCount). back (λ (t : WithCount). device_in_world.put w t.device) o) q

pub not_nought : (r : Result Unit Refusal) → (r ≡ Ok tt → ⊥) → refusal_number r ≡ 0 → ⊥
not_nought (Ok value) n e = n refl
not_nought (Err Buffer) n e = omega arith
not_nought (Err Table) n e = omega arith
not_nought (Err State) n e = omega arith
not_nought (Err Counts) n e = omega arith

-- ---- the start
pub new_started : {c : Ssd1677Config} {otp : List ℕ} {b : Buffers} {answer : Result Ssd1677 StartError} {p : Powered} → New c otp b answer p
    → start (start_answer_of answer) p ≡ started c otp b
new_started (new κs a r s q) = q

-- ---- a list of calls
pub made_runs : {otp : List ℕ} {w u : World} {calls : List Call} → Made otp w calls u → Runs otp w calls u
made_runs done = runs.done
made_runs (accepted a rest) = runs.accepted (answers_called a) (made_runs rest)
made_runs (refused {reason = reason} call table n a b rest) = runs.refused call table (not_nought reason n) (answers_called a) b (made_runs rest)

-- ---- the theorem, from a device that `new` has started
module _ (c : Ssd1677Config) (otp : List ℕ) (b : Buffers) (answer : Result Ssd1677 StartError) (p : Powered) (begins : New c otp b answer p)
    (ok : is_accepted (start_answer_of answer) ≡ true) (byte : c.optics.initial_gray ≤ 255) (calls : List Call) (u : World) where
  pub new_agrees : Runs otp (world_of p) calls u → Agrees u (reckon otp (first_reckoning (core_of (world_of p))) calls)
  new_agrees =
      let is = new_started begins in
      let accepts : is_accepted (started c otp b).answer ≡ true = ap (λ (x : Start). is_accepted x.answer) (sym is) ∙ ok in
      subst (λ (x : Powered). Runs otp (world_of x) calls u → Agrees u (reckon otp (first_reckoning (core_of (world_of x))) calls))
      (ap (λ (x : Start). x.left) (sym is))
      (history c otp b byte accepts calls u)

  -- whatever calls are then made, what they leave agrees with the reckoning
  pub made_agrees : Made otp (world_of p) calls u → Agrees u (reckon otp (first_reckoning (core_of (world_of p))) calls)
  made_agrees made = new_agrees (made_runs made)
