-- Every call leaves a sound state and sound buffers: 13, 11, 15 and 12 refuse no later call. Assumes nothing.
use Rattle.std.specs.Prelude.{Some}
use Prim.Native.Nat.{ℕ, zero-le, ◌≤◌}
use mathlib.Core.Path.{◌≡◌, refl, sym, ap, subst, ◌∙◌}
use mathlib.Core.Bool.{Bool, true}
use mathlib.Core.List.{List}
use lib.ListN.{length}
use Rattle.config.specs.declared.Ssd1677Config.{Ssd1677Config}
use Rattle.diagnostic.specs.declared.Journal.{Journal}
use Rattle.device.specs.declared.Active as the
use Rattle.device.specs.declared.Current.{Current}
use Rattle.device.specs.declared.Current.TheVariants.{Ignoring, Active}
use Rattle.world.specs.World.{World, with_log, WithGlass, with_glass_log, with_ram, with_buffers, lent_of, glass_in_world}
use Rattle.registers.proofs.Bounds.{Bounded}
use Rattle.guard_kinds.specs.Kinds.{current_fine}
use Rattle.clock.specs.Advance.{Ready, advanced}
use Rattle.chip.specs.Close.{closed}
use Rattle.clock.proofs.Arrived.{config_advanced, swing_advanced, regs_advanced, journal_advanced, current_advanced, states_advanced}
use Rattle.reset.proofs.Kept.{ready_closed, ready_line}
use Rattle.activation.proofs.Kept.{ready_advanced}
use Rattle.begin_laws.proofs.Kept.{config_begun, swing_begun, states_begun, luts_begun, pixels_begun, ready_begun, log_begun, count_begun, bounded_begun, current_begun}
use Rattle.data.specs.Data.{one_byte_more}
use Rattle.data_laws.proofs.Kept.{data_leaves, current_kept}
use Rattle.reading.specs.Reading.{one_read_more}
use Rattle.reading_laws.proofs.Kept.{read_leaves, current_read}
use Rattle.res.specs.Line.{line_taken}
use Rattle.low.specs.Command.{command_taken}
use Rattle.high.specs.Data.{data_in}
use Rattle.driven.specs.Read.{read_in}
use Rattle.entry_laws.proofs.Passed.{ready_fine}
use Rattle.calls.specs.World.{Call, advance, set_reset, write_command, write_data, read_data, set_ambient, take_diagnostics, taken, Typed}
use Rattle.calls.specs.Sound.{Sound}
use Rattle.calls.proofs.Parts.{fine_kept, long_kept, sound_fine, sound_long, is_sound}
use Rattle.calls.proofs.Line.{closed_count, closed_length, closed_regs, closed_config, closed_swing, closed_current, line_leaves, current_line}

-- an ignored command passes 13, and one with a byte or a read more as it did
ignored : current_fine Ignoring ≡ true
unfolding current_fine
ignored = refl

goes_on : (a : the.Active) (extra range : Bool) → current_fine (Active a) ≡ true → current_fine (Active (one_byte_more a extra range)) ≡ true
unfolding current_fine
goes_on a extra range h = h

reads_on : (a : the.Active) (range nothing : Bool) → current_fine (Active a) ≡ true → current_fine (Active (one_read_more a range nothing)) ≡ true
unfolding current_fine
reads_on a range nothing h = h

-- a call hands back as many states as it was lent
pub states_kept : (otp : List ℕ) (w : World) (call : Call) → length (taken otp w call).states ≡ length w.states
unfolding line_taken command_taken data_in read_in
states_kept otp w (advance time) = states_advanced w.luts time (glass_in_world.get w)
states_kept otp w (set_reset time low) =
    let g = advanced w.luts time (glass_in_world.get w) in
    (line_leaves w.luts low (with_glass_log g.device g.states g.picture w.log) g.device.bus.power).states_long
    ∙ states_advanced w.luts time (glass_in_world.get w)
states_kept otp w (write_command time command) =
    let g = advanced w.luts time (glass_in_world.get w) in
    let c = closed (with_log g.device w.log) in
    states_begun (lent_of otp w) command (with_buffers c.device g.states w.luts g.picture c.log) c.device.bus.power
    ∙ states_advanced w.luts time (glass_in_world.get w)
states_kept otp w (write_data time byte) = states_advanced w.luts time (glass_in_world.get w)
states_kept otp w (read_data time) = states_advanced w.luts time (glass_in_world.get w)
states_kept otp w (set_ambient register) = refl
states_kept otp w take_diagnostics = refl

module _ (otp : List ℕ) (w : World) (s : Sound otp w) where
  -- what finishing a display asks
  ready : Ready w.device w.states w.luts w.picture.pixels w.picture.counts
  ready =
      ready_fine w.device w.states w.luts w.picture.pixels w.picture.counts (Some (length w.log)) (Some (length w.black_white)) (Some (length w.red))
      (Some (length w.gates)) s.state s.lengths (sound_long otp w s).counts

  module _ (time : ℕ) where
    -- the clock has moved
    abbrev moved : WithGlass
    moved = advanced w.luts time (glass_in_world.get w)

    moved_ready : Ready moved.device moved.states w.luts moved.picture.pixels moved.picture.counts
    moved_ready = ready_advanced w.luts time (glass_in_world.get w) ready

    moved_pixels : length moved.picture.pixels ≡ length w.picture.pixels
    moved_pixels = moved_ready.pixels_long ∙ states_advanced w.luts time (glass_in_world.get w) ∙ sym ready.pixels_long

    moved_config : moved.device.config ≡ w.device.config
    moved_config = config_advanced w.luts time (glass_in_world.get w)

    moved_swing : moved.device.panel.swing ≡ w.device.panel.swing
    moved_swing = swing_advanced w.luts time (glass_in_world.get w)

    moved_bounded : Bounded moved.device.regs
    moved_bounded = subst Bounded (sym (regs_advanced w.luts time (glass_in_world.get w))) (sound_fine otp w s).bounded

    moved_count : moved.device.journal.count ≤ 1024
    moved_count =
        subst (λ (j : Journal). j.count ≤ 1024) (sym (journal_advanced w.luts time (glass_in_world.get w))) (sound_fine otp w s).count

    moved_current : current_fine moved.device.bus.current ≡ true
    moved_current = ap current_fine (current_advanced w.luts time (glass_in_world.get w)) ∙ (sound_fine otp w s).current

    -- a later state of the same configuration and swing, with its buffers
    later_sound : (v : World) → v.device.config ≡ moved.device.config → v.device.panel.swing ≡ moved.device.panel.swing
        → Bounded v.device.regs → v.device.journal.count ≤ 1024 → current_fine v.device.bus.current ≡ true
        → length v.states ≡ length moved.states → length v.luts ≡ length w.luts → length v.picture.pixels ≡ length moved.picture.pixels
        → length v.picture.counts ≡ 256 → length v.log ≡ 16384 → length v.black_white ≡ length w.black_white → length v.red ≡ length w.red
        → length v.gates ≡ length w.gates → Sound otp v
    later_sound v config swing bounded count current states luts pixels counts log black_white red gates =
        let same = config ∙ moved_config in
        is_sound otp v s.table
        (fine_kept w.device v.device (sound_fine otp w s) (ap (λ (c : Ssd1677Config). c.panel) same) (ap (λ (c : Ssd1677Config). c.timing) same)
        (ap (λ (c : Ssd1677Config). c.frequency) same) (swing ∙ moved_swing) bounded count current)
        (long_kept w.device.config.panel v.device.config.panel w v (sound_long otp w s) (ap (λ (c : Ssd1677Config). c.panel) same)
        (states ∙ states_advanced w.luts time (glass_in_world.get w)) luts (pixels ∙ moved_pixels) counts log black_white red gates)

    clock_keeps : Sound otp (taken otp w (advance time))
    clock_keeps =
        later_sound (taken otp w (advance time)) refl refl moved_bounded moved_count moved_current refl refl refl moved_ready.counts_long (sound_long otp w s).log refl refl refl

    line_keeps : (low : Bool) → Sound otp (taken otp w (set_reset time low))
    unfolding line_taken
    line_keeps low =
        let a = with_glass_log moved.device moved.states moved.picture w.log in
        let p = moved.device.bus.power in
        let l = line_leaves w.luts low a p in
        later_sound (taken otp w (set_reset time low)) l.same_config l.same_swing (l.bounded moved_bounded) (l.count moved_count)
        (current_line w.luts low a p moved_current) l.states_long refl
        ((ready_line w.luts low a p moved_ready).pixels_long ∙ l.states_long ∙ sym moved_ready.pixels_long)
        (ready_line w.luts low a p moved_ready).counts_long
        (l.log_long (sound_long otp w s).log) refl refl refl

    command_keeps : (command : ℕ) → Sound otp (taken otp w (write_command time command))
    unfolding command_taken
    command_keeps command =
        let k = with_log moved.device w.log in
        let c = closed k in
        let a = with_buffers c.device moved.states w.luts moved.picture c.log in
        let p = c.device.bus.power in
        let t = lent_of otp w in
        let closes = ready_closed moved.states w.luts moved.picture.pixels moved.picture.counts k c refl moved_ready in
        later_sound (taken otp w (write_command time command)) (config_begun t command a p ∙ closed_config k) (swing_begun t command a p ∙ closed_swing k)
        (bounded_begun t command a p (subst Bounded (sym (closed_regs k)) moved_bounded))
        (count_begun t command a p (closed_count k moved_count)) (current_begun t command a p (closed_current k)) (states_begun t command a p)
        (luts_begun t command a p)
        (pixels_begun t command a p closes)
        (ready_begun t command a p closes).counts_long
        (log_begun t command a p (closed_length k (sound_long otp w s).log))
        refl refl refl

    data_keeps : (byte : ℕ) → byte ≤ 255 → Sound otp (taken otp w (write_data time byte))
    unfolding data_in
    data_keeps byte small =
        let r = with_ram moved.device w.black_white w.red w.log in
        let c = moved.device.bus.current in
        let l = data_leaves byte r c small in
        let kept = l.rests.sound (record { bounded = moved_bounded; room = moved_count; long = (sound_long otp w s).log }) in
        later_sound (taken otp w (write_data time byte)) l.rests.same_config (ap (λ x. x.swing) l.rests.same_panel) kept.bounded kept.room
        (current_kept (λ (x : Current). current_fine x ≡ true) ignored goes_on byte r c refl moved_current) refl refl refl moved_ready.counts_long kept.long
        l.black_white_long l.red_long refl

    read_keeps : Sound otp (taken otp w (read_data time))
    unfolding read_in
    read_keeps =
        let k = with_log moved.device w.log in
        let p = moved.device.bus.power in
        let l = read_leaves w.black_white w.red k p in
        let kept = l.rests.sound (record { bounded = moved_bounded; room = moved_count; long = (sound_long otp w s).log }) in
        later_sound (taken otp w (read_data time)) l.rests.same_config (ap (λ x. x.swing) l.rests.same_panel) kept.bounded kept.room
        (current_read (λ (x : Current). current_fine x ≡ true) reads_on w.black_white w.red k p moved_current) refl refl refl moved_ready.counts_long kept.long
        refl refl refl

  ambient_keeps : (register : ℕ) → Sound otp (taken otp w (set_ambient register))
  ambient_keeps register =
      let v = taken otp w (set_ambient register) in
      let f = sound_fine otp w s in
      let l = sound_long otp w s in
      is_sound otp v s.table (fine_kept w.device v.device f refl refl refl refl f.bounded f.count f.current)
      (long_kept w.device.config.panel w.device.config.panel w v l refl refl refl refl l.counts l.log refl refl refl)

  diagnostics_keeps : Sound otp (taken otp w take_diagnostics)
  diagnostics_keeps =
      let v = taken otp w take_diagnostics in
      let f = sound_fine otp w s in
      let l = sound_long otp w s in
      is_sound otp v s.table (fine_kept w.device v.device f refl refl refl refl f.bounded zero-le f.current)
      (long_kept w.device.config.panel w.device.config.panel w v l refl refl refl refl l.counts l.log refl refl refl)

  pub sound_kept : (call : Call) → Typed call → Sound otp (taken otp w call)
  sound_kept (advance time) t = clock_keeps time
  sound_kept (set_reset time low) t = line_keeps time low
  sound_kept (write_command time command) t = command_keeps time command
  sound_kept (write_data time byte) t = data_keeps time byte t
  sound_kept (read_data time) t = read_keeps time
  sound_kept (set_ambient register) t = ambient_keeps register
  sound_kept take_diagnostics t = diagnostics_keeps
