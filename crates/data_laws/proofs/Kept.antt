-- What a data byte leaves: configuration, clock, glass and display; the planes' and the log's lengths, the log's count at most 1,024, registers
-- within the bounds of 13, and of the current command all that `kind` goes by. Assumes nothing.
use Rattle.std.specs.Prelude.{Option, Some, None}
use Prim.Native.Nat.{ℕ, ◌≤◌}
use mathlib.Core.Path.{◌≡◌, refl, subst, sym, ◌∙◌}
use mathlib.Core.Bool.{Bool, true, false}
use mathlib.Core.List.{List}
use lib.Dec.{ltb}
use lib.ListN.{length, length-set}
use Rattle.numbers.specs.Choice.{pick}
use Rattle.counter.specs.declared.Counter.{Counter}
use Rattle.ram.specs.declared.Plane.{Plane}
use Rattle.ram.specs.declared.Plane.TheVariants.{BlackWhite, Red}
use Rattle.ram.specs.Plane.{index_of, put_at, written_at}
use Rattle.ram_laws.proofs.Tens.{advanced_ten}
use Rattle.diagnostic.specs.declared.DiagnosticKind.{DiagnosticKind}
use Rattle.diagnostic.specs.declared.DiagnosticKind.TheVariants.{DataWithoutCommand, ExtraData, RamOutOfRange}
use Rattle.device.specs.declared.Active.{Active}
use Rattle.device.specs.declared.Current.{Current}
use Rattle.device.specs.declared.Current.TheVariants as current
use Rattle.device.specs.declared.Kind.{Kind}
use Rattle.device.specs.declared.Kind.TheVariants.{Write, Read, Unsupported, Reserved}
use Rattle.device.specs.declared.Params.TheVariants.{Exactly, Between, Stream}
use Rattle.device.specs.declared.Power.{Power}
use Rattle.device.specs.declared.Power.TheVariants.{Running, Asleep, InReset}
use Rattle.world.specs.World.{WithLog, with_log, WithRam, on, device_in_ram, log_in_ram}
use Rattle.chip.specs.Report.{logged}
use Rattle.parameter.specs.Parameter.{parameter_taken}
use Rattle.acts_laws.proofs.Kept.{Sound, KeptRam, on_log, logged_kept}
use Rattle.parameter.proofs.Kept.{parameter_kept}
use Rattle.data.specs.Data.{one_byte_more, current_set, writing_on, surplus, at_most, plane_for, plane_written, is_inside, counter_stepped, out_of_range, ram_written, data_by_kind, unasked, data_taken}

-- ---- of a state and its log, whatever becomes of the current command
pub record Rests (k j : WithLog) : Type 0 where
  pub same_config : j.device.config ≡ k.device.config
  pub same_now : j.device.now ≡ k.device.now
  pub same_panel : j.device.panel ≡ k.device.panel
  pub same_display : j.device.display ≡ k.device.display
  pub sound : Sound k.device k.log → Sound j.device j.log

pub rests_all : (k : WithLog) → Rests k k
rests_all k = record { same_config = refl; same_now = refl; same_panel = refl; same_display = refl; sound = λ s. s }

pub rests_then : (k j l : WithLog) → Rests k j → Rests j l → Rests k l
rests_then k j l p q =
    record {
      same_config = q.same_config ∙ p.same_config;
      same_now = q.same_now ∙ p.same_now;
      same_panel = q.same_panel ∙ p.same_panel;
      same_display = q.same_display ∙ p.same_display;
      sound = λ s. q.sound (p.sound s);
    }

-- another current command
pub rests_made : (c : Current) (k : WithLog) → Rests k (with_log (current_set c k.device) k.log)
rests_made c k =
    record {
      same_config = refl;
      same_now = refl;
      same_panel = refl;
      same_display = refl;
      sound = λ s. record { bounded = s.bounded; room = s.room; long = s.long };
    }

-- the counter stays within ten bits
pub rests_stepped : (k : WithLog) → Rests k (with_log (counter_stepped k.device) k.log)
rests_stepped k =
    record {
      same_config = refl;
      same_now = refl;
      same_panel = refl;
      same_display = refl;
      sound = λ s.
          record {
            bounded =
                record {
                  mux_ten = s.bounded.mux_ten;
                  entry_three = s.bounded.entry_three;
                  window_ten = s.bounded.window_ten;
                  counter_ten =
                      advanced_ten k.device.regs.counter k.device.regs.window k.device.regs.entry s.bounded.counter_ten s.bounded.window_ten;
                  temperature_twelve = s.bounded.temperature_twelve;
                };
            room = s.room;
            long = s.long;
          };
    }

-- ---- of a state, its log and the planes
-- the state and its log
abbrev log_of : WithRam → WithLog
log_of w = with_log w.device w.log

pub record DataLeaves (w v : WithRam) : Type 0 where
  pub rests : Rests (with_log w.device w.log) (with_log v.device v.log)
  pub black_white_long : length v.black_white ≡ length w.black_white
  pub red_long : length v.red ≡ length w.red

leaves_all : (w : WithRam) → DataLeaves w w
leaves_all w = record { rests = rests_all (log_of w); black_white_long = refl; red_long = refl }

leaves_then : (u v w : WithRam) → DataLeaves u v → DataLeaves v w → DataLeaves u w
leaves_then u v w p q =
    record {
      rests = rests_then (log_of u) (log_of v) (log_of w) p.rests q.rests;
      black_white_long = q.black_white_long ∙ p.black_white_long;
      red_long = q.red_long ∙ p.red_long;
    }

of_kept : (w v : WithRam) → KeptRam w v → DataLeaves w v
of_kept w v p =
    record {
      rests =
          record {
            same_config = p.same.same_config;
            same_now = p.same.same_now;
            same_panel = p.same.same_panel;
            same_display = p.same.same_display;
            sound = p.sound;
          };
      black_white_long = p.black_white_long;
      red_long = p.red_long;
    }

leaves_made : (c : Current) (w : WithRam) → DataLeaves w (on device_in_ram (current_set c) w)
leaves_made c w = record { rests = rests_made c (log_of w); black_white_long = refl; red_long = refl }

leaves_stepped : (w : WithRam) → DataLeaves w (on device_in_ram counter_stepped w)
leaves_stepped w = record { rests = rests_stepped (log_of w); black_white_long = refl; red_long = refl }

pub written_length : (p : List ℕ) (c : Counter) (byte : ℕ) → length (written_at p c byte) ≡ length p
unfolding written_at
written_length p c byte = by (index_of c)
  where
    by : (q : Option ℕ) → length (put_at p q byte) ≡ length p
    by (Some i) = length-set p i byte
    by None = refl

leaves_put : (plane : Plane) (byte : ℕ) (w : WithRam) → DataLeaves w (plane_written plane byte w)
leaves_put BlackWhite byte w =
    record { rests = rests_all (log_of w); black_white_long = written_length w.black_white w.device.regs.counter byte; red_long = refl }
leaves_put Red byte w =
    record { rests = rests_all (log_of w); black_white_long = refl; red_long = written_length w.red w.device.regs.counter byte }

leaves_logged : (b : Bool) (kind : DiagnosticKind) (w : WithRam) → DataLeaves w (pick b w (on log_in_ram (logged kind) w))
leaves_logged true kind w = leaves_all w
leaves_logged false kind w = of_kept w (on log_in_ram (logged kind) w) (on_log (logged kind) w (logged_kept kind (with_log w.device w.log)))

module _ (a : Active) (w : WithRam) where
  leaves_surplus : DataLeaves w (surplus a w)
  unfolding surplus
  leaves_surplus =
      let v = pick a.extra_reported w (on log_in_ram (logged (ExtraData a.command)) w) in
      leaves_then w v (writing_on a true a.range_reported v)
      (leaves_logged a.extra_reported (ExtraData a.command) w)
      (leaves_made (current.Active (one_byte_more a true a.range_reported)) v)

  leaves_up_to : (most byte : ℕ) → byte ≤ 255 → DataLeaves w (at_most most byte a w)
  unfolding at_most
  leaves_up_to most byte small = by (ltb a.received most)
    where
      by : (b : Bool)
          → DataLeaves w (pick b (writing_on a a.extra_reported a.range_reported (parameter_taken a.command a.received byte w)) (surplus a w))
      by true =
          leaves_then w (parameter_taken a.command a.received byte w)
          (writing_on a a.extra_reported a.range_reported (parameter_taken a.command a.received byte w))
          (of_kept w (parameter_taken a.command a.received byte w) (parameter_kept a.command a.received byte w small))
          (leaves_made (current.Active (one_byte_more a a.extra_reported a.range_reported)) (parameter_taken a.command a.received byte w))
      by false = leaves_surplus

  leaves_out : DataLeaves w (on log_in_ram (out_of_range a) w)
  unfolding out_of_range
  leaves_out = by a.range_reported
    where
      by : (b : Bool)
          → DataLeaves w
          (log_in_ram.put w
          (pick b (with_log w.device w.log)
          (logged (RamOutOfRange a.command w.device.regs.counter.x w.device.regs.counter.y) (with_log w.device w.log))))
      by true = leaves_all w
      by false = leaves_logged false (RamOutOfRange a.command w.device.regs.counter.x w.device.regs.counter.y) w

  -- a step of the counter, and a byte more
  leaves_on : (range : Bool) (v : WithRam) → DataLeaves w v → DataLeaves w (writing_on a a.extra_reported range (on device_in_ram counter_stepped v))
  leaves_on range v p =
      leaves_then w (on device_in_ram counter_stepped v) (writing_on a a.extra_reported range (on device_in_ram counter_stepped v))
      (leaves_then w v (on device_in_ram counter_stepped v) p (leaves_stepped v))
      (leaves_made (current.Active (one_byte_more a a.extra_reported range)) (on device_in_ram counter_stepped v))

  leaves_ram : (byte : ℕ) → DataLeaves w (ram_written byte a w)
  unfolding ram_written
  leaves_ram byte = by (is_inside (plane_for a.command) w)
    where
      by : (b : Bool)
          → DataLeaves w
          (pick b
          (writing_on a a.extra_reported a.range_reported (on device_in_ram counter_stepped (plane_written (plane_for a.command) byte w)))
          (writing_on a a.extra_reported true (on device_in_ram counter_stepped (on log_in_ram (out_of_range a) w))))
      by true = leaves_on a.range_reported (plane_written (plane_for a.command) byte w) (leaves_put (plane_for a.command) byte w)
      by false = leaves_on true (on log_in_ram (out_of_range a) w) leaves_out

  leaves_kind : (byte : ℕ) → byte ≤ 255 → (k : Kind) → DataLeaves w (data_by_kind byte a w k)
  unfolding data_by_kind
  leaves_kind byte small (Write (Exactly count)) = leaves_up_to count byte small
  leaves_kind byte small (Write (Between least most)) = leaves_up_to most byte small
  leaves_kind byte small (Write Stream) = leaves_ram byte
  leaves_kind byte small Read = leaves_surplus
  leaves_kind byte small Unsupported = leaves_surplus
  leaves_kind byte small Reserved = leaves_surplus

leaves_unasked : (byte : ℕ) (w : WithRam) (p : Power) → DataLeaves w (unasked byte w p)
unfolding unasked
leaves_unasked byte w Running = leaves_logged false (DataWithoutCommand byte) w
leaves_unasked byte w Asleep = leaves_all w
leaves_unasked byte w InReset = leaves_all w

pub data_leaves : (byte : ℕ) (w : WithRam) (c : Current) → byte ≤ 255 → DataLeaves w (data_taken byte w c)
unfolding data_taken
data_leaves byte w current.Idle small =
    let v = unasked byte w w.device.bus.power in
    leaves_then w v (on device_in_ram (current_set current.Ignoring) v) (leaves_unasked byte w w.device.bus.power) (leaves_made current.Ignoring v)
data_leaves byte w current.Ignoring small = leaves_all w
data_leaves byte w (current.Active a) small = leaves_kind a w byte small a.kind

-- what is so of an ignored command, and goes by the command and its kind alone, stays so of the current one
module _ (P : Current → Type 0) (ignored : P current.Ignoring)
    (counts : (a : Active) (extra range : Bool) → P (current.Active a) → P (current.Active (one_byte_more a extra range))) where
  current_up_to : (most byte : ℕ) (a : Active) (w : WithRam) → P (current.Active a) → P (at_most most byte a w).device.bus.current
  unfolding at_most surplus
  current_up_to most byte a w h = by (ltb a.received most)
    where
      by : (b : Bool)
          → P (pick b (writing_on a a.extra_reported a.range_reported (parameter_taken a.command a.received byte w)) (surplus a w)).device.bus.current
      by true = counts a a.extra_reported a.range_reported h
      by false = counts a true a.range_reported h

  current_ram : (byte : ℕ) (a : Active) (w : WithRam) → P (current.Active a) → P (ram_written byte a w).device.bus.current
  unfolding ram_written
  current_ram byte a w h = by (is_inside (plane_for a.command) w)
    where
      by : (b : Bool)
          → P
          (pick b
          (writing_on a a.extra_reported a.range_reported (on device_in_ram counter_stepped (plane_written (plane_for a.command) byte w)))
          (writing_on a a.extra_reported true (on device_in_ram counter_stepped (on log_in_ram (out_of_range a) w)))).device.bus.current
      by true = counts a a.extra_reported a.range_reported h
      by false = counts a a.extra_reported true h

  current_kind : (byte : ℕ) (a : Active) (w : WithRam) (k : Kind) → P (current.Active a) → P (data_by_kind byte a w k).device.bus.current
  unfolding data_by_kind surplus
  current_kind byte a w (Write (Exactly count)) h = current_up_to count byte a w h
  current_kind byte a w (Write (Between least most)) h = current_up_to most byte a w h
  current_kind byte a w (Write Stream) h = current_ram byte a w h
  current_kind byte a w Read h = counts a true a.range_reported h
  current_kind byte a w Unsupported h = counts a true a.range_reported h
  current_kind byte a w Reserved h = counts a true a.range_reported h

  pub current_kept : (byte : ℕ) (w : WithRam) (c : Current) → w.device.bus.current ≡ c → P c → P (data_taken byte w c).device.bus.current
  unfolding data_taken
  current_kept byte w current.Idle e h = ignored
  current_kept byte w current.Ignoring e h = subst P (sym e) h
  current_kept byte w (current.Active a) e h = current_kind byte a w a.kind h
