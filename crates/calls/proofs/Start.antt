-- An accepted start leaves a sound state and sound buffers; the state that a refused one hands back, every call refuses with 13.
-- Assumes nothing.
use Rattle.std.specs.Prelude.{Result, Err}
use Prim.Native.Nat.{ℕ, zero-le, ◌≤◌}
use mathlib.Core.Path.{◌≡◌, refl, sym, ap, subst, ◌∙◌}
use mathlib.Core.Bool.{true, false}
use mathlib.Core.List.{List}
use lib.IntN.{pos}
use lib.ListN.{length}
use Rattle.numbers.specs.Saturation.{sat_z, least, most}
use Rattle.numbers.proofs.Hold.{at_most}
use Rattle.numbers.proofs.Lin.{is_le, le_out, whole}
use Rattle.numbers.proofs.Painted.{length_tab}
use Rattle.config.specs.declared.PanelGeometry.{PanelGeometry}
use Rattle.config.specs.declared.Ssd1677Config.{Ssd1677Config}
use Rattle.config.specs.Answer.{is_accepted, first_of}
use Rattle.otp.specs.Table.{start_tests}
use Rattle.counts.specs.Counts.{counts_of}
use Rattle.panel.specs.Start.{panel_at_power_on, power_on}
use Rattle.panel_laws.proofs.Start.{some_swing}
use Rattle.device.specs.declared.Current.TheVariants.{Idle}
use Rattle.device.specs.declared.Ssd1677.{Ssd1677}
use Rattle.world.specs.World.{World, device_in_world, glass_in_world, glass_log_in_world, buffers_in_world, planes_in_world}
use Rattle.registers.proofs.Bounds.{reset_bounded}
use Rattle.guard.specs.declared.Refusal.{Refusal}
use Rattle.guard.specs.declared.Refusal.TheVariants.{State}
use Rattle.guard_lengths.specs.declared.Lengths.{Lengths}
use Rattle.guard_kinds.specs.Kinds.{current_fine}
use Rattle.guard.specs.Refusals.{guarded, guarded_with_table}
use Rattle.guard_state.specs.State.{swing_fine, state_fine}
use Rattle.guard_laws.proofs.Accepted.{FineLengths}
use Rattle.guard_laws.proofs.Started.{started_panel, started_swing, started_periods, started_frequency, started_table}
use Rattle.query.specs.Outcome.{outcome, unless, state_guarded}
use Rattle.query.specs.Queries.{WithCount, ambient_set, diagnostics_taken}
use Rattle.power_on.specs.Start.{Buffers, lengths_in, all_tests, powered_on, cleared, filled, Powered, powered_up, unstarted, started, world_of}
use Rattle.power_on.proofs.Accepted.{parameters, lengths, passed, left_is}
use Rattle.power_on.proofs.Refused.{unstarted_refused}
use Rattle.wait.specs.Wait.{clock_moved}
use Rattle.res.specs.Line.{line_moved}
use Rattle.low.specs.Command.{command_written}
use Rattle.high.specs.Data.{data_written}
use Rattle.driven.specs.Read.{WithRead, data_read}
use Rattle.calls.specs.World.{Call, advance, set_reset, write_command, write_data, read_data, set_ambient, take_diagnostics, back, called}
use Rattle.calls.specs.Sound.{Sound}
use Rattle.calls.proofs.Parts.{Fine, Long, is_sound}

-- ---- the parts of the chip at power-on
swing_is_fine : (n : ℕ) → 1 ≤ n → swing_fine (sat_z (pos n)) ≡ true
swing_is_fine n h =
    rw (is_le (pos 1) (sat_z (pos n)) (le_out (some_swing n h)), is_le (sat_z (pos n)) most (at_most (pos n) least most (omega whole)))

idle : current_fine Idle ≡ true
unfolding current_fine
idle = refl

module _ (c : Ssd1677Config) (otp : List ℕ) (b : Buffers) where
  module _ (accepts : is_accepted (first_of (all_tests c otp (lengths_in b))) ≡ true) where
    tests : is_accepted (first_of (start_tests c otp)) ≡ true
    tests = parameters c otp (lengths_in b) accepts

    long : FineLengths c.panel (lengths_in b)
    long = lengths c otp (lengths_in b) accepts

    powered_fine : Fine (powered_up c b).device
    unfolding powered_up powered_on panel_at_power_on
    powered_fine =
        record {
          panel = started_panel c otp tests;
          swing = swing_is_fine c.optics.full_swing (started_swing c otp tests);
          periods = started_periods c otp tests;
          bounded = reset_bounded c.user_id;
          count = zero-le;
          current = idle;
          ticks = started_frequency c otp tests;
        }

    powered_long : Long c.panel (world_of (powered_up c b))
    unfolding powered_up filled power_on cleared counts_of
    powered_long =
        record {
          states = length_tab (length b.states) _ ∙ long.states;
          luts = length_tab (length b.luts) _ ∙ long.luts;
          pixels = length_tab (length b.picture.pixels) _ ∙ long.pixels;
          counts = length_tab 256 _;
          log = length_tab (length b.log) _ ∙ long.log (length b.log) refl;
          black_white = length_tab (length b.black_white) _ ∙ long.black_white (length b.black_white) refl;
          red = length_tab (length b.red) _ ∙ long.red (length b.red) refl;
          gates = length_tab c.panel.height _;
        }

    same_panel : (powered_up c b).device.config.panel ≡ c.panel
    unfolding powered_up powered_on
    same_panel = refl

    powered_sound : Sound otp (world_of (powered_up c b))
    powered_sound =
        is_sound otp (world_of (powered_up c b)) (started_table c otp tests) powered_fine
        (subst (λ (p : PanelGeometry). Long p (world_of (powered_up c b))) (sym same_panel) powered_long)

  pub started_sound : is_accepted (started c otp b).answer ≡ true → Sound otp (world_of (started c otp b).left)
  started_sound h = subst (λ (p : Powered). Sound otp (world_of p)) (sym (left_is c otp b h)) (powered_sound (passed c otp b h))

  pub refused_start : is_accepted (started c otp b).answer ≡ false → state_fine (started c otp b).left.device ≡ false
  unfolding started
  refused_start h = rw h (unstarted_refused c)

-- ---- 13 refuses every call
refused_13 : {A : Type 0} (r : Result Unit Refusal) (given done : A) → r ≡ Err State → unless r given done ≡ outcome 13 given
refused_13 r given done e = rw e

alone_refuses : (d : Ssd1677) → state_fine d ≡ false → state_guarded d ≡ Err State
unfolding state_guarded
alone_refuses d e = rw e

two_refuse : (d : Ssd1677) (l : Lengths) → state_fine d ≡ false → guarded d l ≡ Err State
unfolding guarded
two_refuse d l e = rw e

three_refuse : (d : Ssd1677) (l : Lengths) (otp : List ℕ) → state_fine d ≡ false → guarded_with_table d l otp ≡ Err State
unfolding guarded_with_table
three_refuse d l otp e = rw e

-- and leaves the world as given
pub unfine_refused : (otp : List ℕ) (w : World) → state_fine w.device ≡ false → (call : Call) → called otp w call ≡ outcome 13 w
unfolding clock_moved line_moved command_written data_written data_read ambient_set diagnostics_taken
unfine_refused otp w e (advance time) = ap (back (glass_in_world.put w)) (refused_13 _ _ _ (two_refuse w.device _ e))
unfine_refused otp w e (set_reset time low) = ap (back (glass_log_in_world.put w)) (refused_13 _ _ _ (two_refuse w.device _ e))
unfine_refused otp w e (write_command time command) = ap (back (buffers_in_world.put w)) (refused_13 _ _ _ (three_refuse w.device _ otp e))
unfine_refused otp w e (write_data time byte) = ap (back (planes_in_world.put w)) (refused_13 _ _ _ (two_refuse w.device _ e))
unfine_refused otp w e (read_data time) =
    ap (back (λ (r : WithRead). glass_log_in_world.put w r.left)) (refused_13 _ _ _ (two_refuse w.device _ e))
unfine_refused otp w e (set_ambient register) = ap (back (device_in_world.put w)) (refused_13 _ _ _ (alone_refuses w.device e))
unfine_refused otp w e take_diagnostics =
    ap (back (λ (t : WithCount). device_in_world.put w t.device)) (refused_13 _ _ _ (alone_refuses w.device e))

-- what a refused start hands back, 13 refuses also where it is only asked (is_busy, busy_pin, next_deadline, config, panel_image,
-- dropped_diagnostics)
pub unstarted_refuses : (c : Ssd1677Config) → state_guarded (unstarted c) ≡ Err State
unstarted_refuses c = alone_refuses (unstarted c) (unstarted_refused c)

-- and so does every call with what a refused start left, whatever table it is lent
pub refused_start_refuses : (c : Ssd1677Config) (otp : List ℕ) (b : Buffers) → is_accepted (started c otp b).answer ≡ false
    → (table : List ℕ) (call : Call) → called table (world_of (started c otp b).left) call ≡ outcome 13 (world_of (started c otp b).left)
refused_start_refuses c otp b h table call = unfine_refused table (world_of (started c otp b).left) (refused_start c otp b h) call
