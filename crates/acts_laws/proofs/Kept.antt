-- What a parameter that acts at once leaves: configuration, clock, glass and display, and the current command; the planes' and the log's lengths, the log's
-- count at most 1,024, and registers within the bounds of 13. Assumes nothing.
use Prim.Native.Nat.{ℕ, ◌+◌, ◌*◌, ◌/◌, ◌%◌, ◌≤◌}
use mathlib.Core.Path.{◌≡◌, refl, ◌∙◌}
use mathlib.Core.Bool.{Bool, true, false, ◌&&◌, ◌||◌}
use mathlib.Core.List.{List}
use lib.Dec.{eqb, leb, ltb}
use lib.ListN.{length}
use Rattle.numbers.specs.Choice.{pick}
use Rattle.numbers.proofs.Painted.{length_tab}
use Rattle.diagnostic.specs.declared.DiagnosticKind.{DiagnosticKind}
use Rattle.diagnostic.specs.declared.DiagnosticKind.TheVariants.{WithoutClock, WithoutAnalog}
use Rattle.diagnostic.specs.declared.Stage.{Stage}
use Rattle.diagnostic.specs.declared.Stage.TheVariants.{HvReadyDetection, VciDetection}
use Rattle.diagnostic.proofs.Kept.{reported_length, reported_count, reserved_length, reserved_count}
use Rattle.device.specs.declared.Ssd1677.{Ssd1677}
use Rattle.device.specs.declared.Status.{Status}
use Rattle.device.specs.Parts.{with_status}
use Rattle.world.specs.World.{WithLog, with_log, WithRam, on, device_in_ram, log_in_ram}
use Rattle.registers.proofs.Bounds.{Bounded}
use Rattle.moment.proofs.Current.{current_busy}
use Rattle.chip.specs.Close.{entries_of}
use Rattle.chip.specs.Report.{logged}
use Rattle.start.specs.Start.{with_busy_for, is_powered, unpowered}
use Rattle.acts.specs.Reserved.{reserved, checked}
use Rattle.acts.specs.Acts.{asleep, ram_lost, sleeps, slept, with_hv_not_ready, hv_detected, hv_ready, vci_level, with_vci_low, vci_detected, vci_sensed}

-- what stays of the state
pub record Same (d e : Ssd1677) : Type 0 where
  pub same_config : e.config ≡ d.config
  pub same_now : e.now ≡ d.now
  pub same_panel : e.panel ≡ d.panel
  pub same_display : e.display ≡ d.display
  pub same_current : e.bus.current ≡ d.bus.current

-- what is so of the state and its log before stays so
pub record Sound (d : Ssd1677) (log : List ℕ) : Type 0 where
  pub bounded : Bounded d.regs
  pub room : d.journal.count ≤ 1024
  pub long : length log ≡ 16384

-- a step on the state and the log
pub record Kept (k j : WithLog) : Type 0 where
  pub same : Same k.device j.device
  pub sound : Sound k.device k.log → Sound j.device j.log

-- a step on the state, the planes and the log
pub record KeptRam (w v : WithRam) : Type 0 where
  pub same : Same w.device v.device
  pub sound : Sound w.device w.log → Sound v.device v.log
  pub black_white_long : length v.black_white ≡ length w.black_white
  pub red_long : length v.red ≡ length w.red

pub same_all : (d : Ssd1677) → Same d d
same_all d = record { same_config = refl; same_now = refl; same_panel = refl; same_display = refl; same_current = refl }

pub same_then : (d e f : Ssd1677) → Same d e → Same e f → Same d f
same_then d e f p q =
    record {
      same_config = q.same_config ∙ p.same_config;
      same_now = q.same_now ∙ p.same_now;
      same_panel = q.same_panel ∙ p.same_panel;
      same_display = q.same_display ∙ p.same_display;
      same_current = q.same_current ∙ p.same_current;
    }

kept_all : (k : WithLog) → Kept k k
kept_all k = record { same = same_all k.device; sound = λ s. s }

pub kept_then : (k j l : WithLog) → Kept k j → Kept j l → Kept k l
kept_then k j l p q = record { same = same_then k.device j.device l.device p.same q.same; sound = λ s. q.sound (p.sound s) }

pub ram_then : (u v w : WithRam) → KeptRam u v → KeptRam v w → KeptRam u w
ram_then u v w p q =
    record {
      same = same_then u.device v.device w.device p.same q.same;
      sound = λ s. q.sound (p.sound s);
      black_white_long = q.black_white_long ∙ p.black_white_long;
      red_long = q.red_long ∙ p.red_long;
    }

-- what leaves the planes
pub on_log : (f : WithLog → WithLog) (w : WithRam) → Kept (with_log w.device w.log) (f (with_log w.device w.log)) → KeptRam w (on log_in_ram f w)
on_log f w p = record { same = p.same; sound = p.sound; black_white_long = refl; red_long = refl }

-- reports
pub logged_kept : (kind : DiagnosticKind) (k : WithLog) → Kept k (logged kind k)
unfolding logged
logged_kept kind k =
    record {
      same = record { same_config = refl; same_now = refl; same_panel = refl; same_display = refl; same_current = refl };
      sound = λ s.
          record {
            bounded = s.bounded;
            room = reported_count (entries_of k) k.device.now kind s.room;
            long = reported_length (entries_of k) k.device.now kind s.long;
          };
    }

reserved_kept : (command value : ℕ) (k : WithLog) → Kept k (reserved command value k)
unfolding reserved
reserved_kept command value k =
    record {
      same = record { same_config = refl; same_now = refl; same_panel = refl; same_display = refl; same_current = refl };
      sound = λ s.
          record {
            bounded = s.bounded;
            room = reserved_count (entries_of k) k.device.now command value s.room;
            long = reserved_length (entries_of k) k.device.now command value s.long;
          };
    }

pub checked_kept : (b : Bool) (command value : ℕ) (k : WithLog) → Kept k (checked b command value k)
unfolding checked
checked_kept true command value k = kept_all k
checked_kept false command value k = reserved_kept command value k

unpowered_kept : (stage : Stage) (k : WithLog) → Kept k (unpowered stage k)
unfolding unpowered
unpowered_kept stage k = by k.device.clock k.device.analog
  where
    by : (b c : Bool) → Kept k (pick b (pick c k (logged (WithoutAnalog stage) k)) (logged (WithoutClock stage) k))
    by true true = kept_all k
    by true false = logged_kept (WithoutAnalog stage) k
    by false c = logged_kept (WithoutClock stage) k

-- BUSY and the status leave the command
pub busy_kept : (d : Ssd1677) (log : List ℕ) (ns : ℕ) → Kept (with_log d log) (with_log (with_busy_for d ns) log)
busy_kept d log ns =
    record {
      same = record { same_config = refl; same_now = refl; same_panel = refl; same_display = refl; same_current = current_busy d.bus d.config.frequency d.now ns };
      sound = λ s. record { bounded = s.bounded; room = s.room; long = s.long };
    }

status_kept : (d : Ssd1677) (log : List ℕ) (status : Status) → Kept (with_log d log) (with_log (with_status d status) log)
status_kept d log status =
    record {
      same = record { same_config = refl; same_now = refl; same_panel = refl; same_display = refl; same_current = refl };
      sound = λ s. record { bounded = s.bounded; room = s.room; long = s.long };
    }

module _ (byte : ℕ) (k : WithLog) where
  hv_detected_kept : Kept k (hv_detected byte k)
  unfolding hv_detected
  hv_detected_kept = by (is_powered k.device)
    where
      by : (b : Bool)
          → Kept k
          (pick b
          (with_log (with_busy_for (with_hv_not_ready k.device false) ((byte / 16 % 8 + 1) * 10000000)) k.log)
          (with_log (with_hv_not_ready (unpowered HvReadyDetection k).device true) (unpowered HvReadyDetection k).log))
      by true =
          kept_then k (with_log (with_hv_not_ready k.device false) k.log) (with_log (with_busy_for (with_hv_not_ready k.device false) ((byte / 16 % 8 + 1) * 10000000)) k.log)
          (status_kept k.device k.log (with_hv_not_ready k.device false).status)
          (busy_kept (with_hv_not_ready k.device false) k.log ((byte / 16 % 8 + 1) * 10000000))
      by false =
          kept_then k (unpowered HvReadyDetection k) (with_log (with_hv_not_ready (unpowered HvReadyDetection k).device true) (unpowered HvReadyDetection k).log)
          (unpowered_kept HvReadyDetection k)
          (status_kept (unpowered HvReadyDetection k).device (unpowered HvReadyDetection k).log (with_hv_not_ready (unpowered HvReadyDetection k).device true).status)

  vci_detected_kept : Kept k (vci_detected byte k)
  unfolding vci_detected
  vci_detected_kept = by (is_powered k.device)
    where
      by : (b : Bool) → Kept k (pick b (with_log (with_busy_for (with_vci_low k.device (ltb k.device.config.vci_millivolts (vci_level byte))) k.device.config.timing.vci_detection) k.log) (unpowered VciDetection k))
      by true =
          kept_then k (with_log (with_vci_low k.device (ltb k.device.config.vci_millivolts (vci_level byte))) k.log) _
          (status_kept k.device k.log (with_vci_low k.device (ltb k.device.config.vci_millivolts (vci_level byte))).status)
          (busy_kept (with_vci_low k.device (ltb k.device.config.vci_millivolts (vci_level byte))) k.log k.device.config.timing.vci_detection)
      by false = unpowered_kept VciDetection k

module _ (byte : ℕ) (k : WithLog) where
  pub hv_ready_kept : Kept k (hv_ready byte k)
  unfolding hv_ready
  hv_ready_kept =
      let j = checked (eqb (byte / 128) 0 && eqb (byte / 8 % 2) 0) 0x14 byte k in
      kept_then k j (hv_detected byte j) (checked_kept (eqb (byte / 128) 0 && eqb (byte / 8 % 2) 0) 0x14 byte k) (hv_detected_kept byte j)

  pub vci_sensed_kept : Kept k (vci_sensed byte k)
  unfolding vci_sensed
  vci_sensed_kept =
      let j = checked (leb 3 byte && ltb byte 8) 0x15 byte k in
      kept_then k j (vci_detected byte j) (checked_kept (leb 3 byte && ltb byte 8) 0x15 byte k) (vci_detected_kept byte j)

asleep_kept : (w : WithRam) → KeptRam w (on device_in_ram asleep w)
unfolding asleep
asleep_kept w =
    record {
      same = record { same_config = refl; same_now = refl; same_panel = refl; same_display = refl; same_current = refl };
      sound = λ s. record { bounded = s.bounded; room = s.room; long = s.long };
      black_white_long = refl;
      red_long = refl;
    }

emptied_kept : (w : WithRam) → KeptRam w (ram_lost w)
emptied_kept w =
    record {
      same = same_all w.device;
      sound = λ s. s;
      black_white_long = length_tab (length w.black_white) (λ _. 0);
      red_long = length_tab (length w.red) (λ _. 0);
    }

ram_all : (w : WithRam) → KeptRam w w
ram_all w = record { same = same_all w.device; sound = λ s. s; black_white_long = refl; red_long = refl }

sleeps_kept : (byte : ℕ) (w : WithRam) → KeptRam w (sleeps byte w)
unfolding sleeps
sleeps_kept byte w = by (eqb (byte % 4) 0) (eqb (byte % 4) 3)
  where
    by : (b c : Bool) → KeptRam w (pick b w (pick c (on device_in_ram asleep (ram_lost w)) (on device_in_ram asleep w)))
    by true c = ram_all w
    by false true = ram_then w (ram_lost w) (on device_in_ram asleep (ram_lost w)) (emptied_kept w) (asleep_kept (ram_lost w))
    by false false = asleep_kept w

pub slept_kept : (byte : ℕ) (w : WithRam) → KeptRam w (slept byte w)
unfolding slept
slept_kept byte w =
    let f = checked (eqb byte 0 || eqb byte 3) 0x10 byte in
    ram_then w (on log_in_ram f w) (sleeps byte (on log_in_ram f w))
    (on_log f w (checked_kept (eqb byte 0 || eqb byte 3) 0x10 byte (with_log w.device w.log)))
    (sleeps_kept byte (on log_in_ram f w))
