-- Every accepted call beside the whole numbers: each lent state is afterwards its pixel's number with the refreshes worked in that the
-- reckoning says, and each pixel shows the grey of it. Assumes nothing.
use Prim.Native.Nat.{ℕ, max}
use mathlib.Core.Path.{◌≡◌, refl, sym, ap, subst, ◌∙◌}
use mathlib.Core.Bool.{Bool, true, false}
use mathlib.Core.List.{List, [], ◌++◌}
use lib.Dec.{eqb}
use borrow.Author.Tests.{eqb-true}
use Rattle.numbers.specs.Choice.{pick}
use Rattle.config.specs.declared.Ssd1677Config.{Ssd1677Config}
use Rattle.device.specs.declared.Power.{Power}
use Rattle.device.specs.declared.Power.TheVariants.{Running, Asleep, InReset}
use Rattle.world.specs.World.{World, with_log, WithGlass, WithGlassLog, with_ram, WithBuffers, lent_of, on, glass_in_glass_log, log_in_buffers, glass_in_world, glass_log_in_world, buffers_in_world}
use Rattle.busy.specs.Busy.{pending}
use Rattle.clock.specs.Advance.{advanced}
use Rattle.chip.specs.Close.{closed}
use Rattle.res.specs.Line.{line_taken}
use Rattle.low.specs.Command.{moved_to, command_taken}
use Rattle.high.specs.Data.{data_in}
use Rattle.driven.specs.Read.{read_in}
use Rattle.calls.specs.World.{Call, advance, set_reset, write_command, write_data, read_data, set_ambient, take_diagnostics, taken}
use Rattle.history.specs.Reckon.{Core, core_of, Worked, falls, activates, core_after, number_over}
use Rattle.history.proofs.Blind.{Seen, seen_by, seen_glass, seen_buffers, behind}
use Rattle.history.proofs.Steps.{quiet_closed}
use Rattle.history.proofs.Written.{quiet_data}
use Rattle.history.proofs.Read.{quiet_read}
use Rattle.history.proofs.Begun.{quiet_log, still_begun}
use Rattle.history.proofs.Core.{core_taken}
use Rattle.clock.proofs.Arrived.{config_advanced}
use Rattle.history.proofs.Shows.{Marks, Shows, over, over_join, count_join, ends_in, advance_shows}
use Rattle.history.proofs.Line.{cut_in, not_over, power_moved, line_shows}
use Rattle.history.proofs.Moved.{cut_at, cut_moved, pending_moved}
use Rattle.history.proofs.Once.{once_in, at_once, at_once_is, reaches, activation_shows}

abbrev pub seen : World → Seen
seen w = seen_by w.device w.states w.picture

-- first some refreshes, then others
joins : (s : Seen) (c d : Ssd1677Config) (us vs : List Worked) (number : Marks) → d ≡ c → Shows s (over d vs (over c us number)) → Shows s (over c (us ++ vs) number)
joins s c d us vs number e h =
    let same : over c vs (over c us number) ≡ over c (us ++ vs) number =
    λ j. record { of = λ i. sym (over_join c i (number.of i) us vs) j; count = sym (count_join number.count us vs) j } in
    subst (Shows s) same (subst (λ (x : Ssd1677Config). Shows s (over x vs (over c us number))) e h)

-- what the reckoning says of 0x20 is what reaches the chip
pub reaches_is : (t : ℕ) (x : Core) → activates t 0x20 x ≡ reaches x.bus.power (pending x.bus.busy_until t)
reaches_is t x = by x.bus.power
  where
    put : Power → Core
    put q =
        record {
          config = x.config;
          now = x.now;
          regs = x.regs;
          bus = record { power = q; current = x.bus.current; busy_until = x.bus.busy_until };
          clock = x.clock;
          analog = x.analog;
          status = x.status;
          display = x.display;
          luts = x.luts;
          black_white = x.black_white;
          red = x.red;
          gates = x.gates;
        }

    by : (q : Power) → activates t 0x20 (put q) ≡ reaches q (pending x.bus.busy_until t)
    by Running = refl
    by Asleep = refl
    by InReset = refl

-- another command is none of it
pub reaches_not : (t command : ℕ) (x : Core) → eqb command 0x20 ≡ false → activates t command x ≡ false
reaches_not t command x e = rw e

-- what a call works in, by the display of the device
abbrev pub worked_by : List ℕ → World → Call → List Worked
worked_by otp w (advance time) = ends_in w.luts time w.device
worked_by otp w (set_reset time low) =
    ends_in w.luts time w.device
    ++ pick (falls low w.device.bus.power) (cut_at w.luts (max w.device.now time) w.device) []
worked_by otp w (write_command time command) =
    ends_in w.luts time w.device
    ++ pick (activates (max w.device.now time) command (core_of w)) (at_once otp (core_after otp (core_of w) (advance time))) []
worked_by otp w (write_data time byte) = ends_in w.luts time w.device
worked_by otp w (read_data time) = ends_in w.luts time w.device
worked_by otp w (set_ambient register) = []
worked_by otp w take_diagnostics = []

module _ (otp : List ℕ) (w : World) (number : Marks) (h : Shows (seen w) number) where
  -- the glass after the clock's move
  abbrev g : ℕ → WithGlass
  g time = advanced w.luts time (glass_in_world.get w)

  -- what ended
  abbrev first : ℕ → List Worked
  first time = ends_in w.luts time w.device

  abbrev c : Ssd1677Config
  c = w.device.config

  moves : (time : ℕ) → Shows (seen_glass (g time)) (over c (first time) number)
  moves time = advance_shows w.luts time (glass_in_world.get w) number h

  -- ---- the reset line
  resets : (time : ℕ) (low : Bool) → Shows (seen (taken otp w (set_reset time low))) (over c (worked_by otp w (set_reset time low)) number)
  unfolding line_taken
  resets time low =
      let a : WithGlassLog = on glass_in_glass_log (advanced w.luts time) (glass_log_in_world.get w) in
      let t = max w.device.now time in
      joins (seen (taken otp w (set_reset time low))) c (g time).device.config (first time) (pick (falls low w.device.bus.power) (cut_at w.luts t w.device) []) number
      (config_advanced w.luts time (glass_in_world.get w))
      (subst (λ (ws : List Worked). Shows (seen (taken otp w (set_reset time low))) (over (g time).device.config ws (over c (first time) number)))
      (ap (λ (p : Power). pick (falls low p) (cut_in w.luts (g time).device) []) (power_moved w.luts time (glass_in_world.get w))
      ∙ ap (λ (ws : List Worked). pick (falls low w.device.bus.power) ws []) (cut_moved w.luts time (glass_in_world.get w)))
      (line_shows w.luts low a (over c (first time) number) (g time).device.bus.power (not_over w.luts time (glass_in_world.get w)) (moves time)))

  -- ---- a command byte
  module _ (time : ℕ) where
    -- the clock moved and the last command closed
    abbrev a : WithBuffers
    a = on log_in_buffers closed (moved_to time (buffers_in_world.get w))

    abbrev t : ℕ
    t = max w.device.now time

    closes : Shows (seen_buffers a) (over c (first time) number)
    closes =
        subst (λ (s : Seen). Shows s (over c (first time) number)) (sym ((quiet_log closed quiet_closed).still (moved_to time (buffers_in_world.get w)))) (moves time)

    -- 0x20, as the reckoning has it
    abbrev starts : List Worked
    starts = pick (activates t 0x20 (core_of w)) (at_once otp (core_after otp (core_of w) (advance time))) []

    starts_is : pick (reaches a.device.bus.power (pending a.device.bus.busy_until a.device.now)) (once_in (lent_of otp w) a.device a.luts) [] ≡ starts
    unfolding closed
    starts_is =
        let once : once_in (lent_of otp w) a.device a.luts ≡ at_once otp (core_after otp (core_of w) (advance time)) =
        sym (at_once_is otp (taken otp w (advance time))) ∙ ap (at_once otp) (core_taken otp w (advance time)) in
        ap (λ (p : Power). pick (reaches p (pending (g time).device.bus.busy_until (g time).device.now)) (once_in (lent_of otp w) a.device a.luts) [])
        (power_moved w.luts time (glass_in_world.get w))
        ∙ ap (λ (b : Bool). pick (reaches w.device.bus.power b) (once_in (lent_of otp w) a.device a.luts) []) (pending_moved w.luts time (glass_in_world.get w))
        ∙ ap (λ (ws : List Worked). pick (reaches w.device.bus.power (pending w.device.bus.busy_until t)) ws []) once
        ∙ ap (λ (b : Bool). pick b (at_once otp (core_after otp (core_of w) (advance time))) []) (sym (reaches_is t (core_of w)))

    config_is : a.device.config ≡ c
    unfolding closed
    config_is = config_advanced w.luts time (glass_in_world.get w)

    abbrev left : ℕ → World
    left command = taken otp w (write_command time command)

    -- the command's start, by whether it is 0x20
    commands : (command : ℕ) (b : Bool) → eqb command 0x20 ≡ b
        → Shows (seen (left command)) (over c (worked_by otp w (write_command time command)) number)
    unfolding command_taken number_over
    commands command true e =
        subst (λ (x : ℕ). Shows (seen (left x)) (over c (worked_by otp w (write_command time x)) number)) (sym (eqb-true command 0x20 e))
        (joins (seen (left 0x20)) c a.device.config (first time) starts number config_is
        (subst (λ (ws : List Worked). Shows (seen (left 0x20)) (over a.device.config ws (over c (first time) number))) starts_is
        (activation_shows (lent_of otp w) (over c (first time) number) a a.device.bus.power closes)))
    commands command false e =
        joins (seen (left command)) c c (first time)
        (pick (activates t command (core_of w)) (at_once otp (core_after otp (core_of w) (advance time))) [])
        number refl
        (subst (λ (b : Bool). Shows (seen (left command)) (over c (pick b (at_once otp (core_after otp (core_of w) (advance time))) []) (over c (first time) number)))
        (sym (reaches_not t command (core_of w) e))
        (subst (λ (s : Seen). Shows s (over c (first time) number)) (sym (still_begun (lent_of otp w) command e a.device.bus.power a)) closes))

  -- ---- a data byte
  writes : (time byte : ℕ) → Shows (seen (taken otp w (write_data time byte))) (over c (worked_by otp w (write_data time byte)) number)
  unfolding data_in
  writes time byte =
      subst (λ (s : Seen). Shows s (over c (first time) number))
      (sym
      (ap (behind (g time).states (g time).picture)
      ((quiet_data byte (g time).device.bus.current).still (with_ram (g time).device w.black_white w.red w.log))))
      (moves time)

  -- ---- a read
  reads : (time : ℕ) → Shows (seen (taken otp w (read_data time))) (over c (worked_by otp w (read_data time)) number)
  unfolding read_in
  reads time =
      subst (λ (s : Seen). Shows s (over c (first time) number))
      (sym
      (ap (behind (g time).states (g time).picture)
      ((quiet_read w.black_white w.red (g time).device.bus.power).still (with_log (g time).device w.log))))
      (moves time)

-- ---- every call
pub shows_taken : (otp : List ℕ) (w : World) (number : Marks) → Shows (seen w) number → (call : Call)
    → Shows (seen (taken otp w call)) (over w.device.config (worked_by otp w call) number)
unfolding number_over
shows_taken otp w number h (advance time) = moves otp w number h time
shows_taken otp w number h (set_reset time low) = resets otp w number h time low
shows_taken otp w number h (write_command time command) = commands otp w number h time command (eqb command 0x20) refl
shows_taken otp w number h (write_data time byte) = writes otp w number h time byte
shows_taken otp w number h (read_data time) = reads otp w number h time
shows_taken otp w number h (set_ambient register) =
    record { swing = h.swing; some = h.some; ticks = h.ticks; short = h.short; states = h.states; within = h.within; pixels = h.pixels; sized = h.sized; pixels_long = h.pixels_long; counts = h.counts; generation = h.generation }
shows_taken otp w number h take_diagnostics = h
