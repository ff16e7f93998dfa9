-- Every call keeps BUSY high to the end of the display in progress; what that says of `is_busy` and of the next deadline. Assumes nothing.
use Rattle.std.specs.Prelude.{Option, Some, None}
use Prim.Native.Nat.{ℕ, ◌≤◌, ◌<◌, min}
use mathlib.Core.Path.{◌≡◌, refl, sym, ◌∙◌}
use mathlib.Core.Bool.{Bool, true, false}
use mathlib.Core.List.{List}
use native.Mathlib.Omega.{arith}
use borrow.Author.Tests.{lt-ltb}
use Rattle.config.specs.declared.Ssd1677Config.{Ssd1677Config}
use Rattle.panel.specs.declared.Display.{Display}
use Rattle.device.specs.declared.Current.{Current}
use Rattle.device.specs.declared.Power.{Power}
use Rattle.device.specs.declared.Power.TheVariants.{Running, Asleep, InReset}
use Rattle.device.specs.declared.Ssd1677.{Ssd1677}
use Rattle.world.specs.World.{World, WithLog, with_log, WithGlass, WithGlassLog, with_glass_log, with_ram, with_buffers, lent_of, on, log_in_glass_log, glass_in_world}
use Rattle.busy.specs.Busy.{pending, busy_in, busy_at, earlier, deadline_of}
use Rattle.clock.specs.Advance.{advanced}
use Rattle.chip.specs.Close.{closed}
use Rattle.reset.specs.Reset.{restored, display_cut, cut, in_reset, asserted, released, by_line}
use Rattle.reset.proofs.Kept.{cut_holds}
use Rattle.reading.specs.Reading.{read_taken}
use Rattle.reading_laws.proofs.Kept.{read_leaves, current_read}
use Rattle.power_on.specs.Start.{Buffers, powered_on, unstarted, Powered, powered, powered_up, started}
use Rattle.config.specs.Answer.{is_accepted}
use Rattle.res.specs.Line.{line_taken}
use Rattle.low.specs.Command.{command_taken}
use Rattle.high.specs.Data.{data_in}
use Rattle.driven.specs.Read.{read_in}
use Rattle.stages_laws.proofs.Kept.{either}
use Rattle.calls.specs.World.{Call, advance, set_reset, write_command, write_data, read_data, set_ambient, take_diagnostics, taken, Typed}
use Rattle.calls.specs.Sound.{inert, UnderWay, Held}
use Rattle.calls.proofs.Clock.{held_still, under_way_kept, held_advanced}
use Rattle.calls.proofs.Begun.{held_closed, held_begun}
use Rattle.calls.proofs.Written.{held_data}

-- ---- the reset line stops the display
module _ (luts : List ℕ) where
  cut_still : (w : WithGlassLog) → (cut luts w).device.display ≡ None
  unfolding display_cut
  cut_still w = cut_holds (λ (x : WithGlassLog). x.device.display ≡ None) luts w (λ display is. refl) refl (λ is. is)

  asserted_still : (w : WithGlassLog) → (asserted luts w).device.display ≡ None
  unfolding asserted in_reset restored
  asserted_still w = cut_still (on log_in_glass_log closed w)

  -- none runs in reset
  none_in_reset : (d : Ssd1677) → Held d → d.bus.power ≡ InReset → (o : Option Display) → d.display ≡ o → d.display ≡ None
  none_in_reset d h p (Some display) e = absurd (let u = h display e in let r = u.runs in let z : ◌≡◌ {A = ℕ} 0 1 = cc in omega arith)
  none_in_reset d h p None e = e

  held_released : (w : WithGlassLog) → Held w.device → w.device.bus.power ≡ InReset → Held (released w.device)
  unfolding released
  held_released w h p = held_still _ (none_in_reset w.device h p w.device.display refl)

  held_line : (low : Bool) (w : WithGlassLog) (p : Power) → w.device.bus.power ≡ p → Held w.device → Held (by_line luts low w p).device
  unfolding by_line
  held_line true w InReset e h = h
  held_line true w Running e h = held_still _ (asserted_still w)
  held_line true w Asleep e h = held_still _ (asserted_still w)
  held_line false w InReset e h = held_released w h e
  held_line false w Running e h = h
  held_line false w Asleep e h = h

  -- a line that is put low leaves no refresh under way
  stopped_low : (w : WithGlassLog) (p : Power) → w.device.bus.power ≡ p → Held w.device → (by_line luts true w p).device.display ≡ None
  unfolding by_line
  stopped_low w InReset e h = none_in_reset w.device h e w.device.display refl
  stopped_low w Running e h = asserted_still w
  stopped_low w Asleep e h = asserted_still w

-- ---- a read changes nothing of the display in progress, and of the command its counts alone
held_read : (black_white red : List ℕ) (k : WithLog) (p : Power) → Held k.device → Held (read_taken black_white red k p).left.device
held_read black_white red k p h display is =
    let l = read_leaves black_white red k p in
    let u = h display (sym l.rests.same_display ∙ is) in
    under_way_kept k.device (read_taken black_white red k p).left.device l.rests.same_display l.rests.same_now l.same_power l.same_until
    (current_read (λ (c : Current). inert c ≡ true) (λ a range nothing e. e) black_white red k p u.inert_command) u

-- ---- every call
module _ (otp : List ℕ) (w : World) (h : Held w.device) where
  module _ (time : ℕ) where
    -- the clock has moved
    abbrev moved : WithGlass
    moved = advanced w.luts time (glass_in_world.get w)

    held_moved : Held moved.device
    held_moved = held_advanced w.luts time (glass_in_world.get w) (λ display is ahead. h display is)

    line_holds : (low : Bool) → Held (taken otp w (set_reset time low)).device
    unfolding line_taken
    line_holds low =
        held_line w.luts low (with_glass_log moved.device moved.states moved.picture w.log) moved.device.bus.power refl held_moved

    pub low_stops : (taken otp w (set_reset time true)).device.display ≡ None
    unfolding line_taken
    low_stops =
        stopped_low w.luts (with_glass_log moved.device moved.states moved.picture w.log) moved.device.bus.power refl held_moved

    command_holds : (command : ℕ) → Held (taken otp w (write_command time command)).device
    unfolding command_taken
    command_holds command =
        let c = closed (with_log moved.device w.log) in
        held_begun (lent_of otp w) command (with_buffers c.device moved.states w.luts moved.picture c.log)
        (held_closed (with_log moved.device w.log) held_moved)

    data_holds : (byte : ℕ) → byte ≤ 255 → Held (taken otp w (write_data time byte)).device
    unfolding data_in
    data_holds byte small = held_data byte (with_ram moved.device w.black_white w.red w.log) small held_moved

    read_holds : Held (taken otp w (read_data time)).device
    unfolding read_in
    read_holds = held_read w.black_white w.red (with_log moved.device w.log) moved.device.bus.power held_moved

  pub held_kept : (call : Call) → Typed call → Held (taken otp w call).device
  held_kept (advance time) t = held_moved time
  held_kept (set_reset time low) t = line_holds time low
  held_kept (write_command time command) t = command_holds time command
  held_kept (write_data time byte) t = data_holds time byte t
  held_kept (read_data time) t = read_holds time
  held_kept (set_ambient register) t = λ display is. under_way_kept w.device _ refl refl refl refl (h display is).inert_command (h display is)
  held_kept take_diagnostics t = λ display is. under_way_kept w.device _ refl refl refl refl (h display is).inert_command (h display is)

-- ---- the start: no display runs at power-on
pub started_held : (c : Ssd1677Config) (otp : List ℕ) (b : Buffers) → Held (started c otp b).left.device
unfolding started powered_up powered_on unstarted
started_held c otp b =
    either (λ (p : Powered). Held p.device) (is_accepted (started c otp b).answer) (powered_up c b) (powered (unstarted c) b) (held_still _ refl)
    (held_still _ refl)

-- ---- what it says
module _ (d : Ssd1677) (display : Display) (u : UnderWay d display) where
  -- the controller is busy up to the display's end
  pub busy_to_end : (t : ℕ) → t < display.ends → busy_at d.bus t ≡ true
  unfolding busy_in pending
  busy_to_end t h = let l = u.to_its_end in rw (u.runs, u.busy, lt-ltb t u.until (omega arith))

  -- the next deadline is that end
  pub deadline_at_end : deadline_of d ≡ Some display.ends
  unfolding deadline_of earlier
  deadline_at_end =
      let l = u.to_its_end in
      let first : min display.ends u.until ≡ display.ends = omega arith in
      rw (u.shown, u.busy, first)

  pub deadline_not_after : (n : ℕ) → deadline_of d ≡ Some n → n ≤ display.ends
  deadline_not_after n e = let a = deadline_at_end in let same : n ≡ display.ends = cc in omega arith
