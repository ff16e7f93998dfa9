-- All else leaves the picture alone (#108): a call that ends no refresh and cuts none leaves every pixel and every grey count as it was,
-- whatever they were. A refresh that a fall of RES# drops is neither ended nor cut. Assumes nothing.
use Rattle.std.specs.Prelude.{Option, Some, None}
use Prim.Native.Nat.{ℕ, ◌-◌, max}
use mathlib.Core.Path.{◌≡◌, refl, sym, ap, subst, ◌∙◌}
use mathlib.Core.Bool.{Bool, true, false, ◌&&◌, not}
use mathlib.Core.List.{List, [], ◌∷◌, ◌++◌}
use native.Mathlib.Omega.{arith}
use lib.Dec.{eqb, leb}
use lib.ListN.{length}
use borrow.Author.Tests.{eqb-true}
use Rattle.numbers.specs.Choice.{pick}
use Rattle.numbers.specs.Rows.{lookup}
use Rattle.panel.specs.declared.Display.{Display}
use Rattle.panel.specs.Finish.{finished}
use Rattle.diagnostic.specs.declared.DiagnosticKind.TheVariants.{ResetDuringDisplay, WhileBusy, WhileAsleep, WhileInReset}
use Rattle.device.specs.declared.Kind.TheVariants.{Write}
use Rattle.device.specs.declared.Params.TheVariants.{Exactly}
use Rattle.device.specs.declared.Power.{Power}
use Rattle.device.specs.declared.Power.TheVariants.{Running, Asleep, InReset}
use Rattle.world.specs.World.{World, WithGlass, with_glass, WithGlassLog, WithBuffers, Lent, lent_of, on, device_in_glass_log, log_in_glass_log, glass_in_glass_log, device_in_buffers, log_in_buffers, glass_in_world, glass_log_in_world, buffers_in_world}
use Rattle.command.specs.Table.{rows, kind_of}
use Rattle.busy.specs.Busy.{pending}
use Rattle.clock.specs.Advance.{clocked, quieted, glass_published, ending_of, glass_of, ended_by, ended, advanced}
use Rattle.chip.specs.Close.{closed}
use Rattle.chip.specs.Report.{logged}
use Rattle.reset.specs.Reset.{restored, display_cut, display_dropped, cut_by, cut, in_reset, asserted, released, by_line}
use Rattle.activation.specs.Activation.{with_luts, staged_in, activated}
use Rattle.begin.specs.Begin as begin
use Rattle.res.specs.Line.{line_taken}
use Rattle.low.specs.Command.{moved_to, command_taken}
use Rattle.high.specs.Data.{data_in}
use Rattle.driven.specs.Read.{read_in}
use Rattle.calls.specs.World.{Call, advance, set_reset, write_command, write_data, read_data, set_ambient, take_diagnostics, taken}
use Rattle.history.specs.Reckon.{core_of, all, up_to, lasted, Worked, falls, activates, core_after, worked}
use Rattle.history.proofs.Blind.{Seen}
use Rattle.history.proofs.Steps.{quiet_closed}
use Rattle.history.proofs.Begun.{told, still_told, quiet_log, still_begun}
use Rattle.history.proofs.Core.{core_taken}
use Rattle.history.proofs.Shows.{refresh, ends_by, ends_in}
use Rattle.history.proofs.Line.{cuts_by, cut_in, power_moved}
use Rattle.history.proofs.Moved.{cut_at, cut_moved, pending_moved}
use Rattle.history.proofs.Once.{once_in, staged_once, at_once, at_once_is, reaches}
use Rattle.history.proofs.Taken.{reaches_is, worked_by}
use Rattle.history.proofs.Going.{beside, worked_in}

-- ---- no refreshes
some_none : (u : Worked) (us : List Worked) → u ∷ us ≡ [] → ⊥
some_none u us e = let z = ap length e in omega (arith, z)

first_none : (us vs : List Worked) → us ++ vs ≡ [] → us ≡ []
first_none [] vs e = refl
first_none (u ∷ us) vs e = absurd (some_none u (us ++ vs) e)

then_none : (us vs : List Worked) → us ++ vs ≡ [] → vs ≡ []
then_none [] vs e = e
then_none (u ∷ us) vs e = absurd (some_none u (us ++ vs) e)

-- ---- the clock's move
advance_leaves : (luts : List ℕ) (time : ℕ) (g : WithGlass) → ends_in luts time g.device ≡ [] → (advanced luts time g).picture ≡ g.picture
unfolding advanced ended
advance_leaves luts time g = by g.device.display
  where
    x : WithGlass
    x = clocked time g

    at : (display : Display) (b : Bool) → pick b (refresh luts display all ∷ []) [] ≡ []
        → (quieted (pick b (glass_published x (finished (ending_of x.device display display.ends None) luts (glass_of x))) x)).picture ≡ g.picture
    at display true e = absurd (some_none (refresh luts display all) [] e)
    at display false e = refl

    by : (o : Option Display) → ends_by luts (max g.device.now time) o ≡ [] → (quieted (ended_by luts x o)).picture ≡ g.picture
    by None e = refl
    by (Some display) e = at display (leb display.ends (max g.device.now time)) e

-- ---- the reset line
asserted_leaves : (luts : List ℕ) (w : WithGlassLog) → cut_in luts w.device ≡ [] → (asserted luts w).picture ≡ w.picture
unfolding asserted in_reset restored cut display_cut closed logged
asserted_leaves luts w = by w.device.display
  where
    c : WithGlassLog
    c = on log_in_glass_log closed w

    fallen : WithGlassLog → WithGlassLog
    fallen x = on device_in_glass_log in_reset (on device_in_glass_log restored x)

    u : Display → Worked
    u display = refresh luts display (up_to (lasted w.device.config.frequency (w.device.now - display.started)))

    at : (display : Display) (b : Bool) → pick b (u display ∷ []) [] ≡ []
        → (fallen (pick b (on glass_in_glass_log (display_cut luts display) (on log_in_glass_log (logged ResetDuringDisplay) c)) (on device_in_glass_log display_dropped c))).picture ≡ w.picture
    at display true e = absurd (some_none (u display) [] e)
    at display false e = refl

    by : (o : Option Display) → cuts_by luts w.device.config.frequency w.device.now o ≡ [] → (fallen (cut_by luts c o)).picture ≡ w.picture
    by None e = refl
    by (Some display) e = at display (leb display.started w.device.now) e

line_leaves : (luts : List ℕ) (low : Bool) (w : WithGlassLog) (power : Power) → pick (falls low power) (cut_in luts w.device) [] ≡ []
    → (by_line luts low w power).picture ≡ w.picture
unfolding by_line released
line_leaves luts true w InReset e = refl
line_leaves luts true w Running e = asserted_leaves luts w e
line_leaves luts true w Asleep e = asserted_leaves luts w e
line_leaves luts false w InReset e = refl
line_leaves luts false w Running e = refl
line_leaves luts false w Asleep e = refl

-- ---- 0x20
module _ (k : Lent) where
  activated_leaves : (w : WithBuffers) → once_in k w.device w.luts ≡ [] → (activated k w).picture ≡ w.picture
  unfolding activated
  activated_leaves w e =
      advance_leaves (staged_in k w).luts (staged_in k w).device.now (with_glass (staged_in k w).device w.states w.picture)
      (staged_once k (with_luts w.device w.luts w.log) ∙ e)

  activation_leaves : (w : WithBuffers) (power : Power)
      → pick (reaches power (pending w.device.bus.busy_until w.device.now)) (once_in k w.device w.luts) [] ≡ []
      → (begin.begun k 0x20 w power).picture ≡ w.picture
  unfolding begin.begun begin.command_by_kind begin.run begin.command_made kind_of rows lookup
  activation_leaves w InReset e = ap (λ (s : Seen). s.picture) (still_told k 0x20 (WhileInReset 0x20) w)
  activation_leaves w Asleep e = ap (λ (s : Seen). s.picture) (still_told k 0x20 (WhileAsleep 0x20) w)
  activation_leaves w Running e = by (pending w.device.bus.busy_until w.device.now) e
    where
      by : (b : Bool) → pick (not b) (once_in k w.device w.luts) [] ≡ []
          → (pick (b && true) (told (WhileBusy 0x20) w) (begin.command_by_kind k 0x20 w (kind_of 0x20))).picture ≡ w.picture
      by true o = ap (λ (s : Seen). s.picture) (still_told k 0x20 (WhileBusy 0x20) w)
      by false o = activated_leaves (on device_in_buffers (begin.command_made 0x20 (Write (Exactly 0))) w) o

-- ---- by call
module _ (otp : List ℕ) (w : World) (time : ℕ) where
  -- the glass after the clock's move
  abbrev g : WithGlass
  g = advanced w.luts time (glass_in_world.get w)

  -- what ended
  abbrev first : List Worked
  first = ends_in w.luts time w.device

  abbrev t : ℕ
  t = max w.device.now time

  moves : first ≡ [] → g.picture ≡ w.picture
  moves = advance_leaves w.luts time (glass_in_world.get w)

  resets : (low : Bool) → worked_by otp w (set_reset time low) ≡ [] → (taken otp w (set_reset time low)).picture ≡ w.picture
  unfolding line_taken
  resets low e =
      let cuts = pick (falls low w.device.bus.power) (cut_at w.luts t w.device) [] in
      line_leaves w.luts low (on glass_in_glass_log (advanced w.luts time) (glass_log_in_world.get w)) g.device.bus.power
      (ap (λ (p : Power). pick (falls low p) (cut_in w.luts g.device) []) (power_moved w.luts time (glass_in_world.get w))
      ∙ ap (λ (ws : List Worked). pick (falls low w.device.bus.power) ws []) (cut_moved w.luts time (glass_in_world.get w))
      ∙ then_none first cuts e)
      ∙ moves (first_none first cuts e)

  -- the clock moved and the last command closed
  abbrev a : WithBuffers
  a = on log_in_buffers closed (moved_to time (buffers_in_world.get w))

  closes : first ≡ [] → a.picture ≡ w.picture
  closes e = ap (λ (s : Seen). s.picture) ((quiet_log closed quiet_closed).still (moved_to time (buffers_in_world.get w))) ∙ moves e

  -- what starts and ends at once, as the reckoning has it
  abbrev starts : ℕ → List Worked
  starts command = pick (activates t command (core_of w)) (at_once otp (core_after otp (core_of w) (advance time))) []

  starts_is : pick (reaches a.device.bus.power (pending a.device.bus.busy_until a.device.now)) (once_in (lent_of otp w) a.device a.luts) [] ≡ starts 0x20
  unfolding closed
  starts_is =
      let once : once_in (lent_of otp w) a.device a.luts ≡ at_once otp (core_after otp (core_of w) (advance time)) =
      sym (at_once_is otp (taken otp w (advance time))) ∙ ap (at_once otp) (core_taken otp w (advance time)) in
      ap (λ (p : Power). pick (reaches p (pending g.device.bus.busy_until g.device.now)) (once_in (lent_of otp w) a.device a.luts) [])
      (power_moved w.luts time (glass_in_world.get w))
      ∙ ap (λ (b : Bool). pick (reaches w.device.bus.power b) (once_in (lent_of otp w) a.device a.luts) []) (pending_moved w.luts time (glass_in_world.get w))
      ∙ ap (λ (ws : List Worked). pick (reaches w.device.bus.power (pending w.device.bus.busy_until t)) ws []) once
      ∙ ap (λ (b : Bool). pick b (at_once otp (core_after otp (core_of w) (advance time))) []) (sym (reaches_is t (core_of w)))

  -- 0x20 and the other commands
  activates_leaves : worked_by otp w (write_command time 0x20) ≡ [] → (taken otp w (write_command time 0x20)).picture ≡ w.picture
  unfolding command_taken
  activates_leaves e =
      activation_leaves (lent_of otp w) a a.device.bus.power (starts_is ∙ then_none first (starts 0x20) e) ∙ closes (first_none first (starts 0x20) e)

  commands : (command : ℕ) (b : Bool) → eqb command 0x20 ≡ b → worked_by otp w (write_command time command) ≡ []
      → (taken otp w (write_command time command)).picture ≡ w.picture
  unfolding command_taken
  commands command true is e =
      subst (λ (x : ℕ). worked_by otp w (write_command time x) ≡ [] → (taken otp w (write_command time x)).picture ≡ w.picture)
      (sym (eqb-true command 0x20 is))
      activates_leaves
      e
  commands command false is e =
      ap (λ (s : Seen). s.picture) (still_begun (lent_of otp w) command is a.device.bus.power a) ∙ closes (first_none first (starts command) e)

-- ---- every call
-- one that works in no refresh leaves the picture, its pixels and its counts, as it was
pub left_alone : (otp : List ℕ) (w : World) (call : Call) → worked_by otp w call ≡ [] → (taken otp w call).picture ≡ w.picture
unfolding data_in read_in
left_alone otp w (advance time) e = moves otp w time e
left_alone otp w (set_reset time low) e = resets otp w time low e
left_alone otp w (write_command time command) e = commands otp w time command (eqb command 0x20) refl e
left_alone otp w (write_data time byte) e = moves otp w time e
left_alone otp w (read_data time) e = moves otp w time e
left_alone otp w (set_ambient register) e = refl
left_alone otp w take_diagnostics e = refl

-- the same by the reckoning, whatever its numbers
pub works_none_leaves : (otp : List ℕ) (w : World) (number : ℕ → ℕ) (call : Call) → worked otp (beside w number) call ≡ [] → (taken otp w call).picture ≡ w.picture
works_none_leaves otp w number call e = left_alone otp w call (sym (worked_in otp w number call) ∙ e)
