-- The clock: what each return of the code hands over, over plain variables. Assumes nothing.
use Rattle.std.specs.Prelude.{None, Result, Ok, Err}
use Prim.Native.Nat.{ℕ}
use mathlib.Core.Path.{◌≡◌, ap, ◌∙◌}
use mathlib.Core.List.{List}
use lib.ListN.{length}
use Rattle.world.specs.World.{WithGlass}
use Rattle.clock.specs.Advance.{Ready, advanced}
use Rattle.guard_lengths.specs.declared.Lengths.{Lengths}
use Rattle.guard.specs.declared.Refusal.{Refusal}
use Rattle.guard_lengths.specs.Lengths.{glass_lent}
use Rattle.guard.specs.Refusals.{number_of, guarded}
use Rattle.query.specs.Outcome.{outcome}
use Rattle.query.proofs.Cases.{grants, refuses}
use Rattle.entry_laws.proofs.Passed.{ready_fine, state_passed, lengths_passed, counts_passed}
use Rattle.wait.specs.Wait.{clock_moved}

module _ (luts : List ℕ) (time : ℕ) (g : WithGlass) (l : Lengths)
    (lent : l ≡ glass_lent (length g.states) (length luts) (length g.picture.pixels) (length g.picture.counts)) where
  abbrev guard : Result Unit Refusal
  guard = guarded g.device (glass_lent (length g.states) (length luts) (length g.picture.pixels) (length g.picture.counts))

  same : (r : Result Unit Refusal) → r ≡ guarded g.device l → r ≡ guard
  same r is = is ∙ ap (guarded g.device) lent

  module _ (passes : Ok tt ≡ guarded g.device l) where
    pub clock_ready : Ready g.device g.states luts g.picture.pixels g.picture.counts
    clock_ready =
        ready_fine g.device g.states luts g.picture.pixels g.picture.counts None None None None
        (state_passed g.device _ (same _ passes)) (lengths_passed g.device _ (same _ passes))
        (counts_passed g.device _ (same _ passes))

    pub clock_moves : (v : WithGlass) → v ≡ advanced luts time g → outcome 0 v ≡ clock_moved luts time g
    unfolding clock_moved
    clock_moves v e = grants guard g (advanced luts time g) v (same _ passes) e

  pub clock_refused : (r : Refusal) → Err r ≡ guarded g.device l → outcome (number_of r) g ≡ clock_moved luts time g
  unfolding clock_moved
  clock_refused r is = refuses guard g (advanced luts time g) r (same _ is)
