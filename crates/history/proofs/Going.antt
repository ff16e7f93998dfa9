-- The refresh that the reckoning follows is the one of the device, after every call, and what a call works in by the one is what it works in
-- by the other. Assumes nothing.
use Rattle.std.specs.Prelude.{Option}
use Prim.Native.Nat.{ℕ, max}
use mathlib.Core.Path.{◌≡◌, refl, sym, ap, subst, ◌∙◌}
use mathlib.Core.Bool.{Bool, true, false}
use mathlib.Core.List.{List, [], ◌++◌}
use lib.Dec.{eqb}
use borrow.Author.Tests.{eqb-true}
use Rattle.numbers.specs.Choice.{pick}
use Rattle.panel.specs.declared.Display.{Display}
use Rattle.device.specs.declared.Power.{Power}
use Rattle.world.specs.World.{World, with_log, WithGlass, with_ram, WithBuffers, lent_of, on, glass_in_glass_log, log_in_buffers, glass_in_world, glass_log_in_world, buffers_in_world}
use Rattle.busy.specs.Busy.{pending}
use Rattle.clock.specs.Advance.{advanced}
use Rattle.chip.specs.Close.{closed}
use Rattle.activation.specs.Activation.{with_luts, staged}
use Rattle.res.specs.Line.{line_taken}
use Rattle.low.specs.Command.{moved_to, command_taken}
use Rattle.high.specs.Data.{data_in}
use Rattle.driven.specs.Read.{read_in}
use Rattle.calls.specs.World.{Call, advance, set_reset, write_command, write_data, read_data, set_ambient, take_diagnostics, taken}
use Rattle.history.specs.Reckon.{Core, core_of, device_of, bare, core_after, Refreshing, none, shown_by, Reckoning, falls, activates, begins, unreached, instead, going_on, Worked, reached, cut_at, worked}
use Rattle.history.proofs.Blind.{Seen}
use Rattle.history.proofs.Written.{quiet_data}
use Rattle.history.proofs.Read.{quiet_read}
use Rattle.history.proofs.Begun.{still_begun}
use Rattle.history.proofs.Core.{core_taken}
use Rattle.history.proofs.Shows.{ends_in}
use Rattle.history.proofs.Line.{now_moved, power_moved}
use Rattle.history.proofs.Moved.{pending_moved}
use Rattle.history.proofs.Once.{reaches, at_once}
use Rattle.history.proofs.Taken.{reaches_is, reaches_not, worked_by}
use Rattle.history.proofs.Refreshed.{reached_is, cut_is, moved_is, instead_once, instead_ends, line_is, staged_core, begins_core, begins_in, onward, activation_is, luts_begun}

-- ---- every call
-- the refresh of a world
abbrev pub shows_in : World → Refreshing
shows_in w = shown_by w.device.display w.luts

-- a world's own reckoning, with any numbers
abbrev pub beside : World → (ℕ → ℕ) → Reckoning
beside w number = record { core = core_of w; under_way = shows_in w; number = number }

module _ (otp : List ℕ) (w : World) where
  module _ (time : ℕ) where
    abbrev g : WithGlass
    g = advanced w.luts time (glass_in_world.get w)

    abbrev t : ℕ
    t = max w.device.now time

    -- the core once the clock has moved
    abbrev c : Core
    c = core_after otp (core_of w) (advance time)

    moves : shown_by g.device.display w.luts ≡ unreached t (shows_in w)
    moves = moved_is w.luts w.luts time (glass_in_world.get w)

    resets : (low : Bool) → shows_in (taken otp w (set_reset time low)) ≡ pick (falls low w.device.bus.power) none (unreached t (shows_in w))
    unfolding line_taken
    resets low =
        line_is w.luts low (on glass_in_glass_log (advanced w.luts time) (glass_log_in_world.get w)) g.device.bus.power
        ∙ ap (λ (p : Power). pick (falls low p) none (shown_by g.device.display w.luts)) (power_moved w.luts time (glass_in_world.get w))
        ∙ ap (pick (falls low w.device.bus.power) none) moves

    -- the clock moved and the last command closed
    abbrev a : WithBuffers
    a = on log_in_buffers closed (moved_to time (buffers_in_world.get w))

    begins_is : begins_in (lent_of otp w) g.device w.luts ≡ begins otp c
    begins_is = sym (begins_core otp (taken otp w (advance time))) ∙ ap (begins otp) (core_taken otp w (advance time))

    reach_is : reaches g.device.bus.power (pending g.device.bus.busy_until g.device.now) ≡ activates t 0x20 (core_of w)
    reach_is =
        ap (λ (p : Power). reaches p (pending g.device.bus.busy_until g.device.now)) (power_moved w.luts time (glass_in_world.get w))
        ∙ ap (reaches w.device.bus.power) (pending_moved w.luts time (glass_in_world.get w))
        ∙ sym (reaches_is t (core_of w))

    onward_once : (b : Bool) (s o : Refreshing) → onward b t s (unreached t o) ≡ unreached t (pick b (instead s o) o)
    onward_once true s o = instead_once t s o
    onward_once false s o = refl

    commands : (command : ℕ) (b : Bool) → eqb command 0x20 ≡ b → shows_in (taken otp w (write_command time command))
        ≡ unreached t (pick (activates t command (core_of w)) (instead (begins otp c) (shows_in w)) (shows_in w))
    unfolding command_taken closed
    commands command true e =
        subst
        (λ (x : ℕ). shows_in (taken otp w (write_command time x)) ≡ unreached t (pick (activates t x (core_of w)) (instead (begins otp c) (shows_in w)) (shows_in w)))
        (sym (eqb-true command 0x20 e))
        (activation_is (lent_of otp w) a a.device.bus.power
        ∙ ap (λ (q : Bool). onward q g.device.now (begins_in (lent_of otp w) g.device w.luts) (shown_by g.device.display w.luts)) reach_is
        ∙ ap (λ (n : ℕ). onward (activates t 0x20 (core_of w)) n (begins_in (lent_of otp w) g.device w.luts) (shown_by g.device.display w.luts))
        (now_moved w.luts time (glass_in_world.get w))
        ∙ ap (λ (s : Refreshing). onward (activates t 0x20 (core_of w)) t s (shown_by g.device.display w.luts)) begins_is
        ∙ ap (onward (activates t 0x20 (core_of w)) t (begins otp c)) moves
        ∙ onward_once (activates t 0x20 (core_of w)) (begins otp c) (shows_in w))
    commands command false e =
        ap (λ (d : Option Display). shown_by d (taken otp w (write_command time command)).luts)
        (ap (λ (s : Seen). s.display) (still_begun (lent_of otp w) command e a.device.bus.power a))
        ∙ ap (shown_by g.device.display) (luts_begun (lent_of otp w) command e a a.device.bus.power)
        ∙ moves
        ∙ ap (λ (q : Bool). unreached t (pick q (instead (begins otp c) (shows_in w)) (shows_in w))) (sym (reaches_not t command (core_of w) e))

    writes : (byte : ℕ) → shows_in (taken otp w (write_data time byte)) ≡ unreached t (shows_in w)
    unfolding data_in
    writes byte =
        ap (λ (s : Seen). shown_by s.display w.luts)
        ((quiet_data byte g.device.bus.current).still (with_ram g.device w.black_white w.red w.log))
        ∙ moves

    reads : shows_in (taken otp w (read_data time)) ≡ unreached t (shows_in w)
    unfolding read_in
    reads =
        ap (λ (s : Seen). shown_by s.display w.luts)
        ((quiet_read w.black_white w.red g.device.bus.power).still (with_log g.device w.log))
        ∙ moves

    -- ---- what it works in
    core_shows : shown_by c.display c.luts ≡ unreached t (shows_in w)
    core_shows = ap (λ (x : Core). shown_by x.display x.luts) (sym (core_taken otp w (advance time))) ∙ moves

    core_now : c.now ≡ t
    core_now = ap (λ (x : Core). x.now) (sym (core_taken otp w (advance time))) ∙ now_moved w.luts time (glass_in_world.get w)

    at_once_is : reached t (begins otp c) ≡ at_once otp c
    at_once_is =
        let s = staged (lent_of otp (bare c)) (with_luts (device_of c) c.luts []) in
        sym (instead_ends t (begins otp c) (shows_in w))
        ∙ ap (λ (o : Refreshing). reached t (instead (begins otp c) o)) (sym core_shows)
        ∙ ap (reached t) (sym (staged_core otp c))
        ∙ ap (λ (n : ℕ). reached n (shown_by s.device.display s.luts)) (sym core_now)
        ∙ reached_is s.luts c.now s.device.display

  pub goes_on : (number : ℕ → ℕ) (call : Call) → shows_in (taken otp w call) ≡ going_on otp (beside w number) call
  unfolding going_on
  goes_on number (advance time) = moves time
  goes_on number (set_reset time low) = resets time low
  goes_on number (write_command time command) = commands time command (eqb command 0x20) refl
  goes_on number (write_data time byte) = writes time byte
  goes_on number (read_data time) = reads time
  goes_on number (set_ambient register) = refl
  goes_on number take_diagnostics = refl

  pub worked_in : (number : ℕ → ℕ) (call : Call) → worked otp (beside w number) call ≡ worked_by otp w call
  unfolding worked
  worked_in number (advance time) = reached_is w.luts (t time) w.device.display
  worked_in number (set_reset time low) =
      ap (λ (us : List Worked). us ++ pick (falls low w.device.bus.power) (cut_at w.device.config.frequency (t time) (shows_in w)) [])
      (reached_is w.luts (t time) w.device.display)
      ∙ ap (λ (us : List Worked). ends_in w.luts time w.device ++ pick (falls low w.device.bus.power) us [])
      (cut_is w.luts (t time) w.device.display w.device.config.frequency)
  worked_in number (write_command time command) =
      ap (λ (us : List Worked). us ++ pick (activates (t time) command (core_of w)) (reached (t time) (begins otp (c time))) [])
      (reached_is w.luts (t time) w.device.display)
      ∙ ap (λ (us : List Worked). ends_in w.luts time w.device ++ pick (activates (t time) command (core_of w)) us []) (at_once_is time)
  worked_in number (write_data time byte) = reached_is w.luts (t time) w.device.display
  worked_in number (read_data time) = reached_is w.luts (t time) w.device.display
  worked_in number (set_ambient register) = refl
  worked_in number take_diagnostics = refl
