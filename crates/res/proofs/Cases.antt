-- The reset line: what each return of the code hands over, over plain variables. Assumes nothing.
use Rattle.std.specs.Prelude.{Some, None, Result, Ok, Err}
use Prim.Native.Nat.{ℕ}
use mathlib.Core.Path.{◌≡◌, refl, sym, ap, subst, ◌∙◌}
use mathlib.Core.Bool.{Bool}
use mathlib.Core.List.{List}
use lib.ListN.{length}
use Rattle.world.specs.World.{WithGlass, with_glass, WithGlassLog, with_glass_log}
use Rattle.clock.specs.Advance.{Ready, advanced}
use Rattle.reset.specs.Reset.{by_line}
use Rattle.activation.proofs.Kept.{ready_advanced}
use Rattle.guard_lengths.specs.declared.Lengths.{Lengths}
use Rattle.guard.specs.declared.Refusal.{Refusal}
use Rattle.guard_lengths.specs.Lengths.{glass_log_lent}
use Rattle.guard.specs.Refusals.{number_of, guarded}
use Rattle.query.specs.Outcome.{outcome}
use Rattle.query.proofs.Cases.{grants, refuses}
use Rattle.entry_laws.proofs.Passed.{ready_fine, log_fine, state_passed, lengths_passed, counts_passed}
use Rattle.res.specs.Line.{line_taken, line_moved}

module _ (luts : List ℕ) (time : ℕ) (low : Bool) (w : WithGlassLog) (l : Lengths)
    (lent : l ≡ glass_log_lent (length w.states) (length luts) (length w.picture.pixels) (length w.picture.counts) (length w.log)) where
  abbrev guard : Result Unit Refusal
  guard = guarded w.device (glass_log_lent (length w.states) (length luts) (length w.picture.pixels) (length w.picture.counts) (length w.log))

  same_lent : (r : Result Unit Refusal) → r ≡ guarded w.device l → r ≡ guard
  same_lent r is = is ∙ ap (guarded w.device) lent

  module _ (passes : Ok tt ≡ guarded w.device l) where
    pub line_ready : Ready w.device w.states luts w.picture.pixels w.picture.counts
    line_ready =
        ready_fine w.device w.states luts w.picture.pixels w.picture.counts (Some (length w.log)) None None None
        (state_passed w.device _ (same_lent _ passes)) (lengths_passed w.device _ (same_lent _ passes))
        (counts_passed w.device _ (same_lent _ passes))

    pub line_log : length w.log ≡ 16384
    line_log =
        log_fine w.device w.states luts w.picture.pixels w.picture.counts (Some (length w.log)) None None None
        (state_passed w.device _ (same_lent _ passes)) (lengths_passed w.device _ (same_lent _ passes)) (length w.log) refl

    pub line_ready_then : (a : WithGlass) → a ≡ advanced luts time (with_glass w.device w.states w.picture)
        → Ready a.device a.states luts a.picture.pixels a.picture.counts
    line_ready_then a e =
        subst (λ (x : WithGlass). Ready x.device x.states luts x.picture.pixels x.picture.counts) (sym e)
        (ready_advanced luts time (with_glass w.device w.states w.picture) line_ready)

    pub line_moves : (a : WithGlass) (v : WithGlassLog) → a ≡ advanced luts time (with_glass w.device w.states w.picture)
        → v ≡ by_line luts low (with_glass_log a.device a.states a.picture w.log) a.device.bus.power
        → outcome 0 v ≡ line_moved luts time low w
    unfolding line_moved line_taken
    line_moves a v e f = grants guard w (line_taken luts time low w) v (same_lent _ passes) (rw (f, e))

  pub line_refused : (r : Refusal) → Err r ≡ guarded w.device l → outcome (number_of r) w ≡ line_moved luts time low w
  unfolding line_moved
  line_refused r is = refuses guard w (line_taken luts time low w) r (same_lent _ is)
