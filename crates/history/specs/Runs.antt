-- Every list of calls that the contracts allow (SCOPE, History). An accepted call is handed what the last accepted one left, at first
-- what start left, and the table of the start; a refused one may be handed anything, the run's own state and buffers among it.
use Rattle.std.specs.Prelude.{ℕ, ◌≡◌, List, [], ◌∷◌}
use Rattle.query.specs.Outcome.{outcome}
use Rattle.world.specs.World.{World}
use Rattle.calls.specs.World.{Call, called}

-- a caller beside a refused call: its own state and buffers are put together from what it hands over and what it keeps, and afterwards in the same
-- way from what it is handed back. `put` says how, and is any: a buffer in its own slot or in another (`(put w).red` is `w.black_white`), a piece of
-- one (`(put w).states` is `w.states ++ rest`), a copy of the state, or nothing of its own (`put w` is the same for every w)
pub record Beside (own handed back next : World) : Type 0 where
  pub put : World → World
  pub before : own ≡ put handed
  pub after : next ≡ put back

-- a run from one world to another, by the calls that it accepted
pub data Runs (otp : List ℕ) : World → List Call → World → Type 0 where
  done : {w : World} → Runs otp w [] w
  accepted : {w v u : World} {call : Call} {calls : List Call} → outcome 0 v ≡ called otp w call → Runs otp v calls u → Runs otp w (call ∷ calls) u
  refused : {w v u handed back : World} {number : ℕ} {calls : List Call} (call : Call) (table : List ℕ) → (number ≡ 0 → ⊥)
      → outcome number back ≡ called table handed call → Beside w handed back v → Runs otp v calls u → Runs otp w calls u
