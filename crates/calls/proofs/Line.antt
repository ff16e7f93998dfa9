-- What the end of a command and the reset line leave: configuration and swing, the states' and the log's lengths, the log's count at most
-- 1,024, registers within the bounds of 13, and a current command that 13 lets pass. Assumes nothing.
use Prim.Native.Nat.{ℕ, ◌≤◌}
use mathlib.Core.Path.{◌≡◌, refl, ap, ◌∙◌}
use mathlib.Core.Bool.{Bool, true, false}
use mathlib.Core.List.{List}
use lib.Dec.{ltb}
use lib.ListN.{length}
use Rattle.numbers.specs.Choice.{pick}
use Rattle.diagnostic.specs.declared.DiagnosticKind.TheVariants.{MissingData, ResetDuringDisplay}
use Rattle.diagnostic.specs.Log.{Entries, reported}
use Rattle.diagnostic.proofs.Kept.{reported_length, reported_count}
use Rattle.panel.specs.declared.Display.{Display}
use Rattle.panel.specs.Finish.{finished, published}
use Rattle.panel_laws.proofs.Exactly.{states_length}
use Rattle.device.specs.declared.Current.{Current}
use Rattle.device.specs.declared.Current.TheVariants.{Idle, Ignoring, Active}
use Rattle.device.specs.declared.Power.{Power}
use Rattle.device.specs.declared.Power.TheVariants.{Running, Asleep, InReset}
use Rattle.world.specs.World.{WithLog, with_log, WithGlassLog, on, device_in_glass_log, log_in_glass_log, glass_in_glass_log}
use Rattle.registers.proofs.Bounds.{Bounded, reset_bounded}
use Rattle.guard_kinds.specs.Kinds.{current_fine}
use Rattle.device.specs.Kinds.{expected_of}
use Rattle.chip.specs.Close.{missing, entries_of, closed}
use Rattle.chip.specs.Report.{logged}
use Rattle.moment.proofs.Current.{current_busy}
use Rattle.reset.specs.Reset.{restored, display_cut, display_dropped, cut, in_reset, asserted, released, by_line}
use Rattle.reset.proofs.Kept.{cut_holds}

-- ---- 26 if parameters lack
module _ (time : ℕ) (e : Entries) where
  missing_count : (c : Current) → e.journal.count ≤ 1024 → (missing time e c).journal.count ≤ 1024
  unfolding missing
  missing_count Idle h = h
  missing_count Ignoring h = h
  missing_count (Active a) h = by (ltb a.received (expected_of a.kind))
    where
      by : (b : Bool) → (pick b (reported e time (MissingData a.command (expected_of a.kind) a.received)) e).journal.count ≤ 1024
      by true = reported_count e time (MissingData a.command (expected_of a.kind) a.received) h
      by false = h

  missing_length : (c : Current) → length e.log ≡ 16384 → length (missing time e c).log ≡ 16384
  unfolding missing
  missing_length Idle h = h
  missing_length Ignoring h = h
  missing_length (Active a) h = by (ltb a.received (expected_of a.kind))
    where
      by : (b : Bool) → length (pick b (reported e time (MissingData a.command (expected_of a.kind) a.received)) e).log ≡ 16384
      by true = reported_length e time (MissingData a.command (expected_of a.kind) a.received) h
      by false = h

-- ---- the end of a command
module _ (k : WithLog) where
  pub closed_count : k.device.journal.count ≤ 1024 → (closed k).device.journal.count ≤ 1024
  unfolding closed
  closed_count h = missing_count k.device.now (entries_of k) k.device.bus.current h

  pub closed_length : length k.log ≡ 16384 → length (closed k).log ≡ 16384
  unfolding closed
  closed_length h = missing_length k.device.now (entries_of k) k.device.bus.current h

  pub closed_regs : (closed k).device.regs ≡ k.device.regs
  unfolding closed
  closed_regs = refl

  pub closed_config : (closed k).device.config ≡ k.device.config
  unfolding closed
  closed_config = refl

  pub closed_swing : (closed k).device.panel.swing ≡ k.device.panel.swing
  unfolding closed
  closed_swing = refl

  pub closed_current : current_fine (closed k).device.bus.current ≡ true
  unfolding closed current_fine
  closed_current = refl

-- ---- the line
-- what a step on the state, the glass and the log leaves
pub record LineLeaves (w v : WithGlassLog) : Type 0 where
  pub same_config : v.device.config ≡ w.device.config
  pub same_swing : v.device.panel.swing ≡ w.device.panel.swing
  pub bounded : Bounded w.device.regs → Bounded v.device.regs
  pub count : w.device.journal.count ≤ 1024 → v.device.journal.count ≤ 1024
  pub states_long : length v.states ≡ length w.states
  pub log_long : length w.log ≡ 16384 → length v.log ≡ 16384

leaves_all : (w : WithGlassLog) → LineLeaves w w
leaves_all w =
    record { same_config = refl; same_swing = refl; bounded = λ h. h; count = λ h. h; states_long = refl; log_long = λ h. h }

leaves_then : (u v w : WithGlassLog) → LineLeaves u v → LineLeaves v w → LineLeaves u w
leaves_then u v w p q =
    record {
      same_config = q.same_config ∙ p.same_config;
      same_swing = q.same_swing ∙ p.same_swing;
      bounded = λ h. q.bounded (p.bounded h);
      count = λ h. q.count (p.count h);
      states_long = q.states_long ∙ p.states_long;
      log_long = λ h. q.log_long (p.log_long h);
    }

leaves_closed : (w : WithGlassLog) → LineLeaves w (on log_in_glass_log closed w)
unfolding closed
leaves_closed w =
    let k = with_log w.device w.log in
    record {
      same_config = refl;
      same_swing = refl;
      bounded = λ h. h;
      count = missing_count w.device.now (entries_of k) w.device.bus.current;
      states_long = refl;
      log_long = missing_length w.device.now (entries_of k) w.device.bus.current;
    }

leaves_logged : (w : WithGlassLog) → LineLeaves w (on log_in_glass_log (logged ResetDuringDisplay) w)
unfolding logged
leaves_logged w =
    let k = with_log w.device w.log in
    record {
      same_config = refl;
      same_swing = refl;
      bounded = λ h. h;
      count = reported_count (entries_of k) w.device.now ResetDuringDisplay;
      states_long = refl;
      log_long = reported_length (entries_of k) w.device.now ResetDuringDisplay;
    }

leaves_shortened : (luts : List ℕ) (display : Display) (w : WithGlassLog) → LineLeaves w (on glass_in_glass_log (display_cut luts display) w)
unfolding display_cut finished published
leaves_shortened luts display w =
    record {
      same_config = refl;
      same_swing = refl;
      bounded = λ h. h;
      count = λ h. h;
      states_long = states_length _ luts w.states;
      log_long = λ h. h;
    }

leaves_dropped : (w : WithGlassLog) → LineLeaves w (on device_in_glass_log display_dropped w)
leaves_dropped w =
    record { same_config = refl; same_swing = refl; bounded = λ h. h; count = λ h. h; states_long = refl; log_long = λ h. h }

leaves_cut : (luts : List ℕ) (w : WithGlassLog) → LineLeaves w (cut luts w)
leaves_cut luts w =
    let v = on log_in_glass_log (logged ResetDuringDisplay) w in
    cut_holds (LineLeaves w) luts w
    (λ display is. leaves_then w v (on glass_in_glass_log (display_cut luts display) v) (leaves_logged w) (leaves_shortened luts display v))
    (leaves_dropped w) (λ is. leaves_all w)

leaves_restored : (w : WithGlassLog) → LineLeaves w (on device_in_glass_log in_reset (on device_in_glass_log restored w))
unfolding in_reset restored
leaves_restored w =
    record {
      same_config = refl;
      same_swing = refl;
      bounded = λ h. reset_bounded w.device.config.user_id;
      count = λ h. h;
      states_long = refl;
      log_long = λ h. h;
    }

leaves_asserted : (luts : List ℕ) (w : WithGlassLog) → LineLeaves w (asserted luts w)
unfolding asserted
leaves_asserted luts w =
    let u = on log_in_glass_log closed w in
    let v = cut luts u in
    leaves_then w u (on device_in_glass_log in_reset (on device_in_glass_log restored v)) (leaves_closed w)
    (leaves_then u v (on device_in_glass_log in_reset (on device_in_glass_log restored v)) (leaves_cut luts u) (leaves_restored v))

leaves_released : (w : WithGlassLog) → LineLeaves w (on device_in_glass_log released w)
unfolding released
leaves_released w =
    record { same_config = refl; same_swing = refl; bounded = λ h. h; count = λ h. h; states_long = refl; log_long = λ h. h }

module _ (luts : List ℕ) where
  pub line_leaves : (low : Bool) (w : WithGlassLog) (p : Power) → LineLeaves w (by_line luts low w p)
  unfolding by_line
  line_leaves true w InReset = leaves_all w
  line_leaves true w Running = leaves_asserted luts w
  line_leaves true w Asleep = leaves_asserted luts w
  line_leaves false w InReset = leaves_released w
  line_leaves false w Running = leaves_all w
  line_leaves false w Asleep = leaves_all w

  current_asserted : (w : WithGlassLog) → current_fine (asserted luts w).device.bus.current ≡ true
  unfolding asserted in_reset current_fine
  current_asserted w = refl

  idle : current_fine Idle ≡ true
  unfolding current_fine
  idle = refl

  current_released : (w : WithGlassLog) → current_fine (released w.device).bus.current ≡ true
  unfolding released
  current_released w = ap current_fine (current_busy _ w.device.config.frequency w.device.now w.device.config.timing.hardware_reset) ∙ idle

  pub current_line : (low : Bool) (w : WithGlassLog) (p : Power) → current_fine w.device.bus.current ≡ true
      → current_fine (by_line luts low w p).device.bus.current ≡ true
  unfolding by_line
  current_line true w InReset h = h
  current_line true w Running h = current_asserted w
  current_line true w Asleep h = current_asserted w
  current_line false w InReset h = current_released w
  current_line false w Running h = h
  current_line false w Asleep h = h
