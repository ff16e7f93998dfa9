-- The byte that the MCU reads: what each return of the code hands over, over plain variables. Assumes nothing.
use Rattle.std.specs.Prelude.{Some, None, Result, Ok, Err}
use Prim.Native.Nat.{ℕ}
use mathlib.Core.Path.{◌≡◌, refl, ap, ◌∙◌}
use mathlib.Core.List.{List}
use lib.ListN.{length}
use Rattle.world.specs.World.{with_log, WithGlass, with_glass, WithGlassLog, with_glass_log}
use Rattle.clock.specs.Advance.{Ready, advanced}
use Rattle.reading.specs.Reading.{WithByte, read_taken}
use Rattle.guard_lengths.specs.declared.Lengths.{Lengths}
use Rattle.guard.specs.declared.Refusal.{Refusal}
use Rattle.guard_lengths.specs.Lengths.{planes_log_lent}
use Rattle.guard.specs.Refusals.{number_of, guarded}
use Rattle.query.specs.Outcome.{outcome}
use Rattle.query.proofs.Cases.{grants, refuses}
use Rattle.driven.specs.Read.{with_read, read_in, data_read}
use Rattle.entry_laws.proofs.Passed.{ready_fine, log_fine, state_passed, lengths_passed, counts_passed}

module _ (luts black_white red : List ℕ) (time : ℕ) (w : WithGlassLog) (l : Lengths)
    (Lent-is : l ≡ planes_log_lent (length w.states) (length luts) (length w.picture.pixels) (length w.picture.counts) (length w.log) (length black_white) (length red)) where
  abbrev guard : Result Unit Refusal
  guard =
      guarded w.device (planes_log_lent (length w.states) (length luts) (length w.picture.pixels) (length w.picture.counts) (length w.log) (length black_white) (length red))

  same : (r : Result Unit Refusal) → r ≡ guarded w.device l → r ≡ guard
  same r is = is ∙ ap (guarded w.device) Lent-is

  module _ (passes : Ok tt ≡ guarded w.device l) where
    pub read_ready : Ready w.device w.states luts w.picture.pixels w.picture.counts
    read_ready =
        ready_fine w.device w.states luts w.picture.pixels w.picture.counts (Some (length w.log)) (Some (length black_white)) (Some (length red)) None
        (state_passed w.device _ (same _ passes)) (lengths_passed w.device _ (same _ passes))
        (counts_passed w.device _ (same _ passes))

    pub read_log : length w.log ≡ 16384
    read_log =
        log_fine w.device w.states luts w.picture.pixels w.picture.counts (Some (length w.log)) (Some (length black_white)) (Some (length red)) None
        (state_passed w.device _ (same _ passes)) (lengths_passed w.device _ (same _ passes)) (length w.log) refl

    pub read_moves : (a : WithGlass) (m : WithByte) → a ≡ advanced luts time (with_glass w.device w.states w.picture)
        → m ≡ read_taken black_white red (with_log a.device w.log) a.device.bus.power
        → outcome 0 (with_read (with_glass_log m.left.device a.states a.picture m.left.log) m.byte) ≡ data_read luts black_white red time w
    unfolding data_read read_in
    read_moves a m e f =
        grants guard (with_read w None) (read_in luts black_white red time w)
        (with_read (with_glass_log m.left.device a.states a.picture m.left.log) m.byte) (same _ passes) (rw (f, e))

  pub read_refused : (r : Refusal) → Err r ≡ guarded w.device l → outcome (number_of r) (with_read w None) ≡ data_read luts black_white red time w
  unfolding data_read
  read_refused r is = refuses guard (with_read w None) (read_in luts black_white red time w) r (same _ is)
