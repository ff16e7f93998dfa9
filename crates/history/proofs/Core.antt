-- An accepted call steps the core as its definition says, whatever the glass, the journal and the log hold (SCOPE, History: the
-- reckoning is fed none of them). Assumes nothing.
use Rattle.std.specs.Prelude.{Option, Some, None}
use Prim.Native.Nat.{ℕ}
use mathlib.Core.Path.{◌≡◌, refl, sym, ap, ◌∙◌}
use mathlib.Core.Bool.{Bool, true, false}
use mathlib.Core.List.{List, []}
use lib.Dec.{leb}
use Rattle.numbers.specs.Choice.{pick}
use Rattle.panel.specs.declared.Display.{Display}
use Rattle.diagnostic.specs.declared.DiagnosticKind.TheVariants.{ResetDuringDisplay}
use Rattle.device.specs.declared.Power.{Power}
use Rattle.device.specs.declared.Power.TheVariants.{Running, Asleep, InReset}
use Rattle.world.specs.World.{World, WithLog, with_log, WithGlass, with_glass, WithGlassLog, with_glass_log, WithRam, with_ram, WithBuffers, with_buffers, Lent, lent_of, WithPlanes, with_planes, on, device_in_glass_log, log_in_glass_log, glass_in_glass_log, log_in_buffers, glass_in_world, glass_log_in_world, buffers_in_world, planes_in_world}
use Rattle.clock.specs.Advance.{advanced}
use Rattle.chip.specs.Close.{closed}
use Rattle.chip.specs.Report.{logged}
use Rattle.reset.specs.Reset.{restored, display_cut, display_dropped, cut_by, cut, in_reset, asserted, released, by_line}
use Rattle.data.specs.Data.{data_taken}
use Rattle.begin.specs.Begin as begin
use Rattle.res.specs.Line.{line_taken}
use Rattle.low.specs.Command.{moved_to, command_taken}
use Rattle.high.specs.Data.{data_in}
use Rattle.driven.specs.Read.{read_in}
use Rattle.reading.specs.Reading.{read_taken}
use Rattle.calls.specs.World.{Call, advance, set_reset, write_command, write_data, read_data, set_ambient, take_diagnostics, taken}
use Rattle.history.specs.Reckon.{core_of, unseen, bare, core_after}
use Rattle.history.proofs.Blind.{plain, plain_log, plain_glass_log, plain_ram, plain_buffers, plain_planes, Blind, blind_then}
use Rattle.history.proofs.Steps.{quiet_closed}
use Rattle.history.proofs.Written.{quiet_data}
use Rattle.history.proofs.Read.{quiet_read}
use Rattle.history.proofs.Begun.{blind_advanced, quiet_log, blind_begun}

-- ---- the reset line
blind_asserted : (luts : List ℕ) → Blind plain_glass_log plain_glass_log (asserted luts)
unfolding asserted in_reset restored cut display_cut closed logged
blind_asserted luts w = by w.device.display
  where
    fallen : WithGlassLog → WithGlassLog
    fallen x = plain_glass_log (on device_in_glass_log in_reset (on device_in_glass_log restored x))

    cuts : Display → Bool → WithGlassLog → WithGlassLog
    cuts display b x =
        let c = on log_in_glass_log closed x in
        pick b (on glass_in_glass_log (display_cut luts display) (on log_in_glass_log (logged ResetDuringDisplay) c)) (on device_in_glass_log display_dropped c)

    at : (display : Display) (b : Bool) → fallen (cuts display b w) ≡ fallen (cuts display b (plain_glass_log w))
    at display true = refl
    at display false = refl

    by : (o : Option Display)
        → fallen (cut_by luts (on log_in_glass_log closed w) o) ≡ fallen (cut_by luts (on log_in_glass_log closed (plain_glass_log w)) o)
    by None = refl
    by (Some display) = at display (leb display.started w.device.now)

blind_line : (luts : List ℕ) (low : Bool) (power : Power) → Blind plain_glass_log plain_glass_log (λ (w : WithGlassLog). by_line luts low w power)
unfolding by_line released
blind_line luts true InReset w = refl
blind_line luts true Running w = blind_asserted luts w
blind_line luts true Asleep w = blind_asserted luts w
blind_line luts false InReset w = refl
blind_line luts false Running w = refl
blind_line luts false Asleep w = refl

blind_clock : (luts : List ℕ) (time : ℕ) → Blind plain_glass_log plain_glass_log (on glass_in_glass_log (advanced luts time))
blind_clock luts time w =
    ap (λ (g : WithGlass). with_glass_log g.device g.states g.picture []) (blind_advanced luts time (with_glass w.device w.states w.picture))

blind_reset : (luts : List ℕ) (time : ℕ) (low : Bool) → Blind plain_glass_log plain_glass_log (line_taken luts time low)
unfolding line_taken
blind_reset luts time low =
    blind_then plain_glass_log plain_glass_log plain_glass_log (on glass_in_glass_log (advanced luts time)) (λ (w : WithGlassLog). by_line luts low w w.device.bus.power)
    (blind_clock luts time)
    (λ (w : WithGlassLog). blind_line luts low w.device.bus.power w)

-- ---- a command byte
blind_arrived : (time : ℕ) → Blind plain_buffers plain_buffers (moved_to time)
blind_arrived time w =
    ap (λ (g : WithGlass). with_buffers g.device g.states w.luts g.picture []) (blind_advanced w.luts time (with_glass w.device w.states w.picture))

blind_command : (k : Lent) (time command : ℕ) → Blind plain_buffers plain_buffers (command_taken k time command)
unfolding command_taken
blind_command k time command =
    blind_then plain_buffers plain_buffers plain_buffers (moved_to time)
    (λ (w : WithBuffers). begin.begun k command (on log_in_buffers closed w) (on log_in_buffers closed w).device.bus.power)
    (blind_arrived time)
    (blind_then plain_buffers plain_buffers plain_buffers (on log_in_buffers closed) (λ (w : WithBuffers). begin.begun k command w w.device.bus.power)
    (quiet_log closed quiet_closed).blind
    (λ (w : WithBuffers). blind_begun k command w.device.bus.power w))

-- ---- a data byte
blind_data : (luts : List ℕ) (time byte : ℕ) → Blind plain_planes plain_planes (data_in luts time byte)
unfolding data_in
blind_data luts time byte w =
    let g = advanced luts time (with_glass w.device w.states w.picture) in
    let h = advanced luts time (with_glass (plain w.device) [] unseen) in
    ap put
    ((quiet_data byte g.device.bus.current).blind (with_ram g.device w.black_white w.red w.log)
    ∙ ap bare_byte (blind_advanced luts time (with_glass w.device w.states w.picture))
    ∙ sym ((quiet_data byte h.device.bus.current).blind (with_ram h.device w.black_white w.red [])))
  where
    put : WithRam → WithPlanes
    put m = with_planes m.device [] unseen m.black_white m.red m.log

    bare_byte : WithGlass → WithRam
    bare_byte g = plain_ram (data_taken byte (with_ram (plain g.device) w.black_white w.red []) g.device.bus.current)

-- ---- a read
blind_read : (luts black_white red : List ℕ) (time : ℕ) → Blind plain_glass_log plain_glass_log (λ w. (read_in luts black_white red time w).left)
unfolding read_in
blind_read luts black_white red time w =
    let g = advanced luts time (with_glass w.device w.states w.picture) in
    let h = advanced luts time (with_glass (plain w.device) [] unseen) in
    ap put
    ((quiet_read black_white red g.device.bus.power).blind (with_log g.device w.log)
    ∙ ap bare_read (blind_advanced luts time (with_glass w.device w.states w.picture))
    ∙ sym ((quiet_read black_white red h.device.bus.power).blind (with_log h.device [])))
  where
    put : WithLog → WithGlassLog
    put k = with_glass_log k.device [] unseen k.log

    bare_read : WithGlass → WithLog
    bare_read g = plain_log (read_taken black_white red (with_log (plain g.device) []) g.device.bus.power).left

-- ---- every call
pub core_taken : (otp : List ℕ) (w : World) (call : Call) → core_of (taken otp w call) ≡ core_after otp (core_of w) call
core_taken otp w (advance time) =
    ap (λ (g : WithGlass). core_of (glass_in_world.put (bare (core_of w)) g)) (blind_advanced w.luts time (glass_in_world.get w))
core_taken otp w (set_reset time low) =
    ap (λ (g : WithGlassLog). core_of (glass_log_in_world.put (bare (core_of w)) g)) (blind_reset w.luts time low (glass_log_in_world.get w))
core_taken otp w (write_command time command) =
    ap (λ (b : WithBuffers). core_of (buffers_in_world.put (bare (core_of w)) b)) (blind_command (lent_of otp w) time command (buffers_in_world.get w))
core_taken otp w (write_data time byte) =
    ap (λ (p : WithPlanes). core_of (planes_in_world.put (bare (core_of w)) p)) (blind_data w.luts time byte (planes_in_world.get w))
core_taken otp w (read_data time) =
    ap (λ (g : WithGlassLog). core_of (glass_log_in_world.put (bare (core_of w)) g)) (blind_read w.luts w.black_white w.red time (glass_log_in_world.get w))
core_taken otp w (set_ambient register) = refl
core_taken otp w take_diagnostics = refl
