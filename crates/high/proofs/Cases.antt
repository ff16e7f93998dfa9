-- A data byte: what each return of the code hands over, over plain variables. Assumes nothing.
use Rattle.std.specs.Prelude.{Some, None, Result, Ok, Err}
use Prim.Native.Nat.{ℕ, max}
use mathlib.Core.Path.{◌≡◌, refl, ap, ◌∙◌}
use mathlib.Core.Bool.{Bool, true}
use mathlib.Core.List.{List}
use lib.ListN.{length}
use Rattle.device.specs.declared.Ssd1677.{Ssd1677}
use Rattle.device.specs.Parts.{with_now}
use Rattle.world.specs.World.{WithGlass, with_glass, WithRam, with_ram, WithPlanes, with_planes, glass_in_planes, ram_in_planes}
use Rattle.clock.specs.Advance.{Ready, is_quiet, advanced}
use Rattle.clock.proofs.Cases.{rests}
use Rattle.data.specs.Data.{data_taken}
use Rattle.guard_lengths.specs.declared.Lengths.{Lengths}
use Rattle.guard.specs.declared.Refusal.{Refusal}
use Rattle.guard_lengths.specs.Lengths.{planes_log_lent}
use Rattle.guard.specs.Refusals.{number_of, guarded}
use Rattle.query.specs.Outcome.{outcome}
use Rattle.query.proofs.Cases.{grants, refuses}
use Rattle.entry_laws.proofs.Passed.{ready_fine, log_fine, state_passed, lengths_passed, counts_passed}
use Rattle.high.specs.Data.{data_in, data_written}

module _ (luts : List ℕ) (time byte : ℕ) (w : WithPlanes) (l : Lengths)
    (Lent-is : l ≡ planes_log_lent (length w.states) (length luts) (length w.picture.pixels) (length w.picture.counts) (length w.log) (length w.black_white) (length w.red)) where
  abbrev guard : Result Unit Refusal
  guard =
      guarded w.device
      (planes_log_lent (length w.states) (length luts) (length w.picture.pixels) (length w.picture.counts) (length w.log) (length w.black_white) (length w.red))

  same : (r : Result Unit Refusal) → r ≡ guarded w.device l → r ≡ guard
  same r is = is ∙ ap (guarded w.device) Lent-is

  module _ (passes : Ok tt ≡ guarded w.device l) where
    pub data_ready : Ready w.device w.states luts w.picture.pixels w.picture.counts
    data_ready =
        ready_fine w.device w.states luts w.picture.pixels w.picture.counts (Some (length w.log)) (Some (length w.black_white)) (Some (length w.red)) None
        (state_passed w.device _ (same _ passes)) (lengths_passed w.device _ (same _ passes))
        (counts_passed w.device _ (same _ passes))

    pub data_log : length w.log ≡ 16384
    data_log =
        log_fine w.device w.states luts w.picture.pixels w.picture.counts (Some (length w.log)) (Some (length w.black_white)) (Some (length w.red)) None
        (state_passed w.device _ (same _ passes)) (lengths_passed w.device _ (same _ passes)) (length w.log) refl

    pub data_moves : (a : WithGlass) (m : WithRam) → a ≡ advanced luts time (with_glass w.device w.states w.picture)
        → m ≡ data_taken byte (with_ram a.device w.black_white w.red w.log) a.device.bus.current
        → outcome 0 (ram_in_planes.put (glass_in_planes.put w a) m) ≡ data_written luts time byte w
    unfolding data_written data_in
    data_moves a m e f = grants guard w (data_in luts time byte w) (ram_in_planes.put (glass_in_planes.put w a) m) (same _ passes) (rw (f, e))

    -- where the clock alone moves
    pub data_rests : (m : Ssd1677) (q : Bool) (v : WithRam) → m ≡ with_now w.device (max w.device.now time) → q ≡ is_quiet m → q ≡ true
        → v ≡ data_taken byte (with_ram m w.black_white w.red w.log) m.bus.current
        → outcome 0 (with_planes v.device w.states w.picture v.black_white v.red v.log) ≡ data_written luts time byte w
    data_rests m q v e f g k =
        data_moves (with_glass m w.states w.picture) v (rests luts time (with_glass w.device w.states w.picture) m q e f g) k

  pub data_refused : (r : Refusal) → Err r ≡ guarded w.device l → outcome (number_of r) w ≡ data_written luts time byte w
  unfolding data_written
  data_refused r is = refuses guard w (data_in luts time byte w) r (same _ is)
