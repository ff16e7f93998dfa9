-- A command byte keeps BUSY high to the end of the display in progress: while there is one every command but 0x2F is held off, and where there is none
-- only 0x20 starts one. Assumes nothing.
use Rattle.std.specs.Prelude.{Option, Some, None}
use Prim.Native.Nat.{ℕ}
use mathlib.Core.Path.{◌≡◌, refl, sym, ap, subst, ◌∙◌}
use mathlib.Core.Bool.{Bool, true, false, ◌&&◌, ◌||◌, not}
use native.Mathlib.Omega.{arith}
use lib.Dec.{eqb}
use borrow.Author.Tests.{eqb-true, lt-ltb}
use Rattle.numbers.specs.Choice.{pick}
use Rattle.numbers.specs.Rows.{lookup}
use Rattle.counter.specs.Counter.{within_of}
use Rattle.diagnostic.specs.declared.DiagnosticKind.TheVariants.{WhileBusy, WithoutClock, WithoutAnalog, CounterOutsideWindow}
use Rattle.diagnostic.specs.declared.Stage.TheVariants.{VcomSense}
use Rattle.panel.specs.declared.Display.{Display}
use Rattle.device.specs.declared.Kind.{Kind}
use Rattle.device.specs.declared.Kind.TheVariants.{Write, Read, Unsupported, Reserved}
use Rattle.device.specs.declared.Power.{Power}
use Rattle.device.specs.declared.Power.TheVariants.{Running, Asleep, InReset}
use Rattle.device.specs.declared.Ssd1677.{Ssd1677}
use Rattle.world.specs.World.{WithLog, with_log, WithBuffers, Lent, on, device_in_buffers, log_in_buffers}
use Rattle.command.specs.Table.{rows, kind_of}
use Rattle.busy.specs.Busy.{pending}
use Rattle.chip.specs.Close.{closed}
use Rattle.chip.specs.Report.{logged}
use Rattle.reset.specs.Reset.{restored}
use Rattle.start.specs.Start.{with_busy_for, soft_reset, is_powered, unpowered, sensing_time, vcom_sensed, pointed}
use Rattle.stages_laws.proofs.Kept.{either}
use Rattle.activation.specs.Activation.{activated}
use Rattle.begin.specs.Begin.{command_made, run, command_by_kind, is_held_off, begun}
use Rattle.calls.specs.Sound.{takes_none, UnderWay, Held}
use Rattle.calls.proofs.Clock.{held_still, held_shown, under_way_kept}
use Rattle.calls.proofs.Activated.{held_activated}

-- ---- the end of a command
pub held_closed : (k : WithLog) → Held k.device → Held (closed k).device
unfolding closed
held_closed k h display is = under_way_kept k.device _ refl refl refl refl refl (h display is)

-- ---- what a command does at once, beside an activation, leaves the display
module _ (k : WithLog) where
  abbrev Same : WithLog → Type 0
  Same x = x.device.display ≡ k.device.display

  unpowered_same : Same (unpowered VcomSense k)
  unfolding unpowered logged
  unpowered_same =
      let off = logged (WithoutAnalog VcomSense) k in
      let stopped = logged (WithoutClock VcomSense) k in
      either Same k.device.clock (pick k.device.analog k off) stopped (either Same k.device.analog k off refl refl) refl

  sensed_same : Same (vcom_sensed k)
  unfolding vcom_sensed
  sensed_same =
      either Same (is_powered k.device) (with_log (with_busy_for k.device (sensing_time k.device)) k.log) (unpowered VcomSense k) refl
      unpowered_same

  pointed_same : (command : ℕ) → Same (pointed command k)
  unfolding pointed logged
  pointed_same command =
      let regs = k.device.regs in
      either Same (within_of regs.counter regs.window) k (logged (CounterOutsideWindow command regs.counter.x regs.counter.y) k) refl refl

reset_same : (d : Ssd1677) → (soft_reset d).display ≡ d.display
unfolding soft_reset restored
reset_same d = refl

-- ---- 0x20 takes no data byte
abbrev known_takes_none : Option Kind → Bool
known_takes_none (Some kind) = takes_none kind
known_takes_none None = true

activation_takes_none : known_takes_none (kind_of 0x20) ≡ true
unfolding kind_of lookup rows
activation_takes_none = refl

activation_kind : (command : ℕ) (kind : Kind) → command ≡ 0x20 → kind_of command ≡ Some kind → takes_none kind ≡ true
activation_kind command kind is e =
    ap known_takes_none (sym e) ∙ ap (λ (c : ℕ). known_takes_none (kind_of c)) is ∙ activation_takes_none

-- by a test, of which the first arm may know that it holds
when : {A : Type 0} (P : A → Type 0) (b : Bool) (x y : A) → (b ≡ true → P x) → P y → P (pick b x y)
when P true x y p q = p refl
when P false x y p q = q

abbrev HeldWith : WithBuffers → Type 0
HeldWith w = Held w.device

-- ---- no display is in progress
module _ (k : Lent) (command : ℕ) (w : WithBuffers) (still : w.device.display ≡ None) where
  made_activated : (kind : Kind) → w.device.bus.power ≡ Running → takes_none kind ≡ true → HeldWith (activated k (on device_in_buffers (command_made command kind) w))
  unfolding command_made
  made_activated kind power none = held_activated k (on device_in_buffers (command_made command kind) w) power none still

  made_still : (kind : Kind) → (on device_in_buffers (command_made command kind) w).device.display ≡ None
  unfolding command_made
  made_still kind = still

  run_held : (kind : Kind) → w.device.bus.power ≡ Running → kind_of command ≡ Some kind → HeldWith (run k command (on device_in_buffers (command_made command kind) w))
  unfolding run
  run_held kind power e =
      let v = on device_in_buffers (command_made command kind) w in
      let entry = with_log v.device v.log in
      either HeldWith (eqb command 0x12) (on device_in_buffers soft_reset v) _ (held_still _ (reset_same v.device ∙ made_still kind))
      (when HeldWith (eqb command 0x20) (activated k v) _
      (λ is. made_activated kind power (activation_kind command kind (eqb-true command 0x20 is) e))
      (either HeldWith (eqb command 0x28) (on log_in_buffers vcom_sensed v) _ (held_still _ (sensed_same entry ∙ made_still kind))
      (either HeldWith (eqb command 0x24 || eqb command 0x26 || eqb command 0x27) (on log_in_buffers (pointed command) v) v
      (held_still _ (pointed_same entry command ∙ made_still kind)) (held_still _ (made_still kind)))))

  kind_held : (known : Option Kind) → w.device.bus.power ≡ Running → kind_of command ≡ known → HeldWith (command_by_kind k command w known)
  unfolding command_by_kind logged
  kind_held None power e = held_still _ still
  kind_held (Some Reserved) power e = held_still _ still
  kind_held (Some Unsupported) power e = held_still _ still
  kind_held (Some (Write params)) power e = run_held (Write params) power e
  kind_held (Some Read) power e = run_held Read power e

  begun_still : (p : Power) → w.device.bus.power ≡ p → HeldWith (begun k command w p)
  unfolding begun logged
  begun_still InReset power = held_still _ still
  begun_still Asleep power = held_still _ still
  begun_still Running power =
      either HeldWith (is_held_off command w.device) (on log_in_buffers (logged (WhileBusy command)) w) (command_by_kind k command w (kind_of command)) (held_still _ still)
      (kind_held (kind_of command) power refl)

-- ---- one is
module _ (k : Lent) (w : WithBuffers) {display : Display} (u : UnderWay w.device display) where
  is_pending : pending w.device.bus.busy_until w.device.now ≡ true
  unfolding pending
  is_pending =
      let a = u.before_its_end in
      let b = u.to_its_end in
      rw (u.busy, lt-ltb w.device.now u.until (omega arith))

  -- 0x2F is taken: its data bytes are read
  status_under_way : UnderWay (begun k 0x2F w Running).device display
  unfolding begun command_by_kind run command_made kind_of lookup rows
  status_under_way = by (pending w.device.bus.busy_until w.device.now)
    where
      by : (b : Bool) → UnderWay (pick (b && not (eqb 0x2F 0x2F)) (on log_in_buffers (logged (WhileBusy 0x2F)) w) (on device_in_buffers (command_made 0x2F Read) w)).device display
      by true = under_way_kept w.device _ refl refl refl refl refl u
      by false = under_way_kept w.device _ refl refl refl refl refl u

  begun_under_way : (command : ℕ) → UnderWay (begun k command w Running).device display
  unfolding begun logged
  begun_under_way command = by (eqb command 0x2F) refl
    where
      by : (b : Bool) → eqb command 0x2F ≡ b → UnderWay (begun k command w Running).device display
      by true e = subst (λ (c : ℕ). UnderWay (begun k c w Running).device display) (sym (eqb-true command 0x2F e)) status_under_way
      by false e = rw (is_pending, e) (under_way_kept w.device _ refl refl refl refl u.inert_command u)

pub held_begun : (k : Lent) (command : ℕ) (w : WithBuffers) → Held w.device → Held (begun k command w w.device.bus.power).device
held_begun k command w h = by w.device.display refl
  where
    by : (o : Option Display) → w.device.display ≡ o → Held (begun k command w w.device.bus.power).device
    by (Some display) is =
        let u = h display is in
        held_shown _ display (subst (λ (p : Power). UnderWay (begun k command w p).device display) (sym u.runs) (begun_under_way k w u command))
    by None is = begun_still k command w is w.device.bus.power refl
