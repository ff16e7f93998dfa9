-- Cuts over a whole list of calls (#101): from an accepted start on, whatever moment cuts the refresh under way, the nanoseconds up to it are at most
-- 2^64 − 2; and at 1,000,000,000 cycles a second the reckoning's cut is the cycles themselves. Assumes nothing.
use Rattle.std.specs.Prelude.{Some}
use Prim.Native.Nat.{ℕ, ◌-◌, ◌≤◌, ◌<◌}
use mathlib.Core.Path.{◌≡◌, subst}
use mathlib.Core.Bool.{true, ◌&&◌}
use mathlib.Core.List.{List, [], ◌∷◌}
use native.Mathlib.Omega.{arith}
use lib.Dec.{leb, ltb}
use Rattle.numbers.specs.Choice.{pick}
use Rattle.config.specs.declared.Ssd1677Config.{Ssd1677Config}
use Rattle.config.specs.Answer.{is_accepted}
use Rattle.panel.specs.declared.Display.{Display}
use Rattle.power_on.specs.Start.{Buffers, started, world_of}
use Rattle.world.specs.World.{World}
use Rattle.calls.specs.World.{Call}
use Rattle.history.specs.Reckon.{core_of, Refresh, one, up_to, worked_of, lasted, cut_at, first_reckoning}
use Rattle.history.specs.Runs.{Runs}
use Rattle.history.proofs.Shows.{Short}
use Rattle.history.proofs.History.{run_kept, start_kept}

-- no cut of a run asks for a premise on its span
pub cuts_short : (c : Ssd1677Config) (otp : List ℕ) (b : Buffers) → c.optics.initial_gray ≤ 255 → is_accepted (started c otp b).answer ≡ true
    → (calls : List Call) (u : World) → Runs otp (world_of (started c otp b).left) calls u
    → (display : Display) → u.device.display ≡ Some display → (t : ℕ) → display.started ≤ t → t < display.ends
    → lasted u.device.config.frequency (t - display.started) ≤ 18446744073709551614
cuts_short c otp b byte ok calls u runs display is t begun early =
    let k = run_kept (first_reckoning (core_of (world_of (started c otp b).left))) 0 runs (start_kept c otp b byte ok) in
    let brief : Short u.device.config.frequency (Some display) = subst (Short u.device.config.frequency) is k.shows.short in
    let short = brief (t - display.started) (omega (arith, begun, early)) in
    omega (arith, short)

-- at 1,000,000,000 cycles a second
pub lasted_same : (cycles : ℕ) → lasted 1000000000 cycles ≡ cycles
lasted_same cycles = omega arith

pub cut_same : (t : ℕ) (r : Refresh)
    → cut_at 1000000000 t (one r) ≡ pick (leb r.started t && ltb t r.ends) (worked_of r (up_to (t - r.started)) ∷ []) []
unfolding cut_at
cut_same t r = rw (lasted_same (t - r.started))
