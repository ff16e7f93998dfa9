-- What a command byte keeps: all that a diagnostic, a command made current, a restoring, BUSY and an activation with what is lent keep. Assumes nothing.
use Rattle.std.specs.Prelude.{Option, Some, None}
use Prim.Native.Nat.{ℕ, ◌≤◌, ◌%◌}
use mathlib.Core.Path.{◌≡◌, refl, sym, ap, subst, ◌∙◌}
use mathlib.Core.Bool.{true, ◌||◌}
use native.Mathlib.Omega.{arith}
use lib.Dec.{eqb}
use lib.ListN.{length}
use Rattle.numbers.specs.Choice.{pick}
use Rattle.counter.specs.Counter.{within_of}
use Rattle.diagnostic.specs.declared.DiagnosticKind.{DiagnosticKind}
use Rattle.diagnostic.specs.declared.DiagnosticKind.TheVariants.{UnknownCommand, ReservedCommand, UnsupportedCommand, WhileBusy, WhileAsleep, WhileInReset, WithoutClock, WithoutAnalog, CounterOutsideWindow}
use Rattle.diagnostic.specs.declared.Stage.TheVariants.{VcomSense}
use Rattle.diagnostic.specs.Log.{entries}
use Rattle.diagnostic.proofs.Kept.{reported_length, reported_count}
use Rattle.device.specs.declared.Kind.{Kind}
use Rattle.device.specs.declared.Kind.TheVariants.{Write, Read, Unsupported, Reserved}
use Rattle.device.specs.declared.Power.{Power}
use Rattle.device.specs.declared.Power.TheVariants.{Running, Asleep, InReset}
use Rattle.device.specs.declared.Ssd1677.{Ssd1677}
use Rattle.world.specs.World.{WithLog, with_log, WithBuffers, Lent, on, device_in_buffers, log_in_buffers}
use Rattle.command.specs.Table.{kind_of}
use Rattle.registers.proofs.Bounds.{Bounded, reset_bounded}
use Rattle.guard_kinds.specs.Kinds.{current_fine}
use Rattle.guard_kinds.proofs.SameKind.{active_fine}
use Rattle.clock.specs.Advance.{Ready}
use Rattle.chip.specs.Report.{logged}
use Rattle.moment.proofs.Current.{current_busy}
use Rattle.reset.specs.Reset.{restored}
use Rattle.start.specs.Start.{with_busy_for, soft_reset, is_powered, unpowered, sensing_time, vcom_sensed, pointed}
use Rattle.stages_laws.proofs.Kept.{either}
use Rattle.activation.specs.Activation.{activated}
use Rattle.activation.proofs.Kept.{ready_activated}
use Rattle.activation_laws.proofs.Parts.{config_activated, swing_activated, states_activated, luts_activated, current_activated, regs_activated, activated_holds}
use Rattle.begin.specs.Begin.{command_made, run, command_by_kind, is_held_off, begun}

-- BUSY high for a span
abbrev busy_then : ℕ → WithBuffers → WithBuffers
busy_then ns w = on device_in_buffers (λ (d : Ssd1677). with_busy_for d ns) w

module _ (k : Lent) (P : WithBuffers → Type 0)
    (reports : (kind : DiagnosticKind) (w : WithBuffers) → P w → P (on log_in_buffers (logged kind) w))
    (makes : (command : ℕ) (kind : Kind) (w : WithBuffers) → kind_of command ≡ Some kind → P w → P (on device_in_buffers (command_made command kind) w))
    (restores : (w : WithBuffers) → P w → P (on device_in_buffers restored w))
    (waits : (ns : ℕ) (w : WithBuffers) → P w → P (busy_then ns w))
    (activates : (w : WithBuffers) → P w → P (activated k w)) where
  reset_keeps : (w : WithBuffers) → P w → P (on device_in_buffers soft_reset w)
  unfolding soft_reset
  reset_keeps w h = waits (restored w.device).config.timing.soft_reset (on device_in_buffers restored w) (restores w h)

  module _ (w : WithBuffers) (h : P w) where
    -- the state and the log, and what is kept of them
    abbrev entry : WithLog
    entry = with_log w.device w.log

    abbrev Put : WithLog → Type 0
    Put x = P (log_in_buffers.put w x)

    unpowered_keeps : Put (unpowered VcomSense entry)
    unfolding unpowered
    unpowered_keeps =
        let off = logged (WithoutAnalog VcomSense) entry in
        let stopped = logged (WithoutClock VcomSense) entry in
        either Put w.device.clock (pick w.device.analog entry off) stopped
        (either Put w.device.analog entry off h (reports (WithoutAnalog VcomSense) w h))
        (reports (WithoutClock VcomSense) w h)

    sensed_keeps : Put (vcom_sensed entry)
    unfolding vcom_sensed
    sensed_keeps =
        let t = sensing_time w.device in
        either Put (is_powered w.device) (with_log (with_busy_for w.device t) w.log) (unpowered VcomSense entry) (waits t w h) unpowered_keeps

    pointed_keeps : (command : ℕ) → Put (pointed command entry)
    unfolding pointed
    pointed_keeps command =
        let regs = w.device.regs in
        let outside = CounterOutsideWindow command regs.counter.x regs.counter.y in
        either Put (within_of regs.counter regs.window) entry (logged outside entry) h (reports outside w h)

    run_keeps : (command : ℕ) → P (run k command w)
    unfolding run
    run_keeps command =
        either P (eqb command 0x12) _ _ (reset_keeps w h)
        (either P (eqb command 0x20) _ _ (activates w h)
        (either P (eqb command 0x28) _ _ sensed_keeps
        (either P (eqb command 0x24 || eqb command 0x26 || eqb command 0x27) _ _ (pointed_keeps command) h)))

  module _ (command : ℕ) (w : WithBuffers) (h : P w) where
    accepted_keeps : (kind : Kind) → kind_of command ≡ Some kind → P (run k command (on device_in_buffers (command_made command kind) w))
    accepted_keeps kind e = run_keeps (on device_in_buffers (command_made command kind) w) (makes command kind w e h) command

    kind_keeps : (known : Option Kind) → kind_of command ≡ known → P (command_by_kind k command w known)
    unfolding command_by_kind
    kind_keeps None e = reports (UnknownCommand command) w h
    kind_keeps (Some Reserved) e = reports (ReservedCommand command) w h
    kind_keeps (Some Unsupported) e = reports (UnsupportedCommand command) w h
    kind_keeps (Some (Write params)) e = accepted_keeps (Write params) e
    kind_keeps (Some Read) e = accepted_keeps Read e

    pub begun_keeps : (p : Power) → P (begun k command w p)
    unfolding begun
    begun_keeps InReset = reports (WhileInReset command) w h
    begun_keeps Asleep = reports (WhileAsleep command) w h
    begun_keeps Running =
        either P (is_held_off command w.device) _ _ (reports (WhileBusy command) w h) (kind_keeps (kind_of command) refl)

-- ---- what finishing a display asks
abbrev pub ReadyWith : WithBuffers → Type 0
ReadyWith w = Ready w.device w.states w.luts w.picture.pixels w.picture.counts

pub ready_begun : (k : Lent) (command : ℕ) (w : WithBuffers) (p : Power) → ReadyWith w → ReadyWith (begun k command w p)
unfolding logged command_made restored
ready_begun k command w p h = begun_keeps k ReadyWith (λ kind w h. h) (λ command kind w e h. h) (λ w h. h) (λ ns w h. h) (ready_activated k) command w h p

-- ---- the configuration and the swing
pub config_begun : (k : Lent) (command : ℕ) (w : WithBuffers) (p : Power) → (begun k command w p).device.config ≡ w.device.config
unfolding logged command_made restored
config_begun k command w p =
    begun_keeps k (λ (x : WithBuffers). x.device.config ≡ w.device.config) (λ kind x h. h) (λ command kind x e h. h) (λ x h. h) (λ ns x h. h)
    (λ x h. config_activated k x ∙ h)
    command w refl p

pub swing_begun : (k : Lent) (command : ℕ) (w : WithBuffers) (p : Power) → (begun k command w p).device.panel.swing ≡ w.device.panel.swing
unfolding logged command_made restored
swing_begun k command w p =
    begun_keeps k (λ (x : WithBuffers). x.device.panel.swing ≡ w.device.panel.swing) (λ kind x h. h) (λ command kind x e h. h) (λ x h. h) (λ ns x h. h)
    (λ x h. swing_activated k x ∙ h)
    command w refl p

-- ---- the buffers' lengths
pub states_begun : (k : Lent) (command : ℕ) (w : WithBuffers) (p : Power) → length (begun k command w p).states ≡ length w.states
states_begun k command w p =
    begun_keeps k (λ (x : WithBuffers). length x.states ≡ length w.states) (λ kind x h. h) (λ command kind x e h. h) (λ x h. h) (λ ns x h. h)
    (λ x h. states_activated k x ∙ h)
    command w refl p

pub luts_begun : (k : Lent) (command : ℕ) (w : WithBuffers) (p : Power) → length (begun k command w p).luts ≡ length w.luts
luts_begun k command w p =
    begun_keeps k (λ (x : WithBuffers). length x.luts ≡ length w.luts) (λ kind x h. h) (λ command kind x e h. h) (λ x h. h) (λ ns x h. h)
    (λ x h. luts_activated k x ∙ h)
    command w refl p

-- the pixels are as many as the states
pub pixels_begun : (k : Lent) (command : ℕ) (w : WithBuffers) (p : Power) → ReadyWith w → length (begun k command w p).picture.pixels ≡ length w.picture.pixels
pixels_begun k command w p h =
    (ready_begun k command w p h).pixels_long ∙ states_begun k command w p ∙ sym h.pixels_long

pub log_begun : (k : Lent) (command : ℕ) (w : WithBuffers) (p : Power) → length w.log ≡ 16384 → length (begun k command w p).log ≡ 16384
unfolding logged command_made restored
log_begun k command w p h =
    begun_keeps k (λ (x : WithBuffers). length x.log ≡ 16384)
    (λ kind x h. reported_length (entries x.device.journal x.log) x.device.now kind h)
    (λ command kind x e h. h) (λ x h. h) (λ ns x h. h)
    (activated_holds (λ t e. length e.log ≡ 16384) (λ t e time kind h. reported_length e time kind h) (λ t register e h. h) k)
    command w h p

-- ---- what refusal 13 asks of registers, log count and current command
pub count_begun : (k : Lent) (command : ℕ) (w : WithBuffers) (p : Power) → w.device.journal.count ≤ 1024
    → (begun k command w p).device.journal.count ≤ 1024
unfolding logged command_made restored
count_begun k command w p h =
    begun_keeps k (λ (x : WithBuffers). x.device.journal.count ≤ 1024)
    (λ kind x h. reported_count (entries x.device.journal x.log) x.device.now kind h)
    (λ command kind x e h. h) (λ x h. h) (λ ns x h. h)
    (activated_holds (λ t e. e.journal.count ≤ 1024) (λ t e time kind h. reported_count e time kind h) (λ t register e h. h) k)
    command w h p

twelve : (register : ℕ) → register % 4096 ≤ 4095
twelve register = omega arith

bounded_activated : (k : Lent) (w : WithBuffers) → Bounded w.device.regs → Bounded (activated k w).device.regs
bounded_activated k w h =
    subst Bounded (sym (regs_activated k w))
    (record {
      mux_ten = h.mux_ten;
      entry_three = h.entry_three;
      window_ten = h.window_ten;
      counter_ten = h.counter_ten;
      temperature_twelve =
          activated_holds (λ t e. t ≤ 4095) (λ t e time kind b. b) (λ t register e b. twelve register) k w h.temperature_twelve;
    })

pub bounded_begun : (k : Lent) (command : ℕ) (w : WithBuffers) (p : Power) → Bounded w.device.regs → Bounded (begun k command w p).device.regs
unfolding logged command_made restored
bounded_begun k command w p h =
    begun_keeps k (λ (x : WithBuffers). Bounded x.device.regs) (λ kind x h. h) (λ command kind x e h. h)
    (λ x h. reset_bounded x.device.config.user_id) (λ ns x h. h) (bounded_activated k)
    command w h p

pub current_begun : (k : Lent) (command : ℕ) (w : WithBuffers) (p : Power) → current_fine w.device.bus.current ≡ true
    → current_fine (begun k command w p).device.bus.current ≡ true
unfolding logged command_made restored
current_begun k command w p h =
    begun_keeps k (λ (x : WithBuffers). current_fine x.device.bus.current ≡ true) (λ kind x h. h)
    (λ command kind x e h. active_fine _ e) (λ x h. h)
    (λ ns x h. ap current_fine (current_busy x.device.bus x.device.config.frequency x.device.now ns) ∙ h)
    (λ x h. ap current_fine (current_activated k x) ∙ h)
    command w h p
