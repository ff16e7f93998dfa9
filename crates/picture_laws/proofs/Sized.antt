-- The image's size stays the panel's, and there are as many states and pixels as the panel has: so an accepted start leaves it, and so does every
-- call. Assumes nothing.
use Rattle.std.specs.Prelude.{Option, None}
use Prim.Native.Nat.{ℕ}
use mathlib.Core.Path.{◌≡◌, refl, sym, ap, subst, ◌∙◌}
use mathlib.Core.Bool.{Bool, true, false}
use mathlib.Core.List.{List}
use lib.IntN.{ℤ}
use lib.ListN.{length}
use Rattle.glass.specs.declared.PanelImage.{PanelImage}
use Rattle.config.specs.declared.PanelGeometry.{PanelGeometry}
use Rattle.config.specs.declared.Ssd1677Config.{Ssd1677Config}
use Rattle.config.specs.Answer.{is_accepted}
use Rattle.panel.specs.declared.Display.{Display}
use Rattle.panel.specs.Start.{panel_at_power_on}
use Rattle.panel.specs.Finish.{finished, published}
use Rattle.panel_laws.proofs.Exactly.{states_length, pixels_length}
use Rattle.diagnostic.specs.declared.DiagnosticKind.TheVariants.{ResetDuringDisplay}
use Rattle.device.specs.declared.Power.{Power}
use Rattle.device.specs.declared.Power.TheVariants.{Running, Asleep, InReset}
use Rattle.device.specs.declared.Ssd1677.{Ssd1677}
use Rattle.world.specs.World.{World, with_log, WithGlass, with_glass, WithGlassLog, with_ram, WithBuffers, Lent, lent_of, on, device_in_glass_log, log_in_glass_log, glass_in_glass_log, log_in_buffers, glass_in_world, glass_log_in_world, buffers_in_world}
use Rattle.guard_lengths.specs.Lengths.{pixels_of}
use Rattle.clock.specs.Advance.{clocked, quieted, glass_published, ending_of, glass_of, advanced}
use Rattle.clock.proofs.Arrived.{ended_holds}
use Rattle.chip.specs.Close.{closed}
use Rattle.chip.specs.Report.{logged}
use Rattle.reset.specs.Reset.{restored, display_cut, in_reset, asserted, released, by_line}
use Rattle.reset.proofs.Kept.{cut_holds}
use Rattle.activation.specs.Activation.{run_settled, staged, staged_in, activated}
use Rattle.begin.specs.Begin.{command_made, begun}
use Rattle.begin_laws.proofs.Kept.{begun_keeps}
use Rattle.res.specs.Line.{line_taken}
use Rattle.low.specs.Command.{moved_to, command_taken}
use Rattle.high.specs.Data.{data_in}
use Rattle.driven.specs.Read.{read_in}
use Rattle.power_on.specs.Start.{Buffers, Powered, powered_on, powered_up, started, world_of}
use Rattle.power_on.proofs.Accepted.{left_is}
use Rattle.calls.specs.World.{Call, advance, set_reset, write_command, write_data, read_data, set_ambient, take_diagnostics, taken}
use Rattle.calls.proofs.Parts.{sound_long}
use Rattle.calls.proofs.Start.{started_sound}
use Rattle.history.specs.Runs.{Runs, done, accepted, refused}
use Rattle.history.proofs.Blind.{Seen}
use Rattle.history.proofs.Written.{quiet_data}
use Rattle.history.proofs.Read.{quiet_read}
use Rattle.history.proofs.Calls.{accepted_taken, refused_changes_nothing}

-- a configured panel, an image, states and pixels of the size of p
pub record Sized (p q : PanelGeometry) (image : PanelImage) (states : List ℤ) (pixels : List ℕ) : Type 0 where
  pub panel : q ≡ p
  pub wide : image.width ≡ p.width
  pub high : image.height ≡ p.height
  pub states_long : length states ≡ pixels_of p
  pub pixels_long : length pixels ≡ pixels_of p

module _ (p : PanelGeometry) where
  abbrev SizedBy : Ssd1677 → List ℤ → List ℕ → Type 0
  SizedBy d states pixels = Sized p d.config.panel d.panel.image states pixels

  abbrev SizedGlass : WithGlass → Type 0
  SizedGlass g = SizedBy g.device g.states g.picture.pixels

  abbrev SizedLog : WithGlassLog → Type 0
  SizedLog w = SizedBy w.device w.states w.picture.pixels

  abbrev SizedBuffers : WithBuffers → Type 0
  SizedBuffers w = SizedBy w.device w.states w.picture.pixels

  abbrev pub SizedWorld : World → Type 0
  SizedWorld w = SizedBy w.device w.states w.picture.pixels

  -- ---- the end of a display
  finish_sized : (luts : List ℕ) (display : Display) (at : ℕ) (until : Option ℕ) (g : WithGlass) → SizedGlass g
      → SizedGlass (glass_published g (finished (ending_of g.device display at until) luts (glass_of g)))
  unfolding finished published
  finish_sized luts display at until g h =
      let states = states_length _ luts g.states ∙ h.states_long in
      record { panel = h.panel; wide = h.wide; high = h.high; states_long = states; pixels_long = pixels_length _ _ ∙ states }

  advance_sized : (luts : List ℕ) (time : ℕ) (g : WithGlass) → SizedGlass g → SizedGlass (advanced luts time g)
  unfolding advanced
  advance_sized luts time g h =
      let x = clocked time g in
      ended_holds (λ (y : WithGlass). SizedGlass (quieted y)) luts x (λ display. finish_sized luts display display.ends None x h) h

  -- ---- the reset line
  asserted_sized : (luts : List ℕ) (w : WithGlassLog) → SizedLog w → SizedLog (asserted luts w)
  unfolding asserted in_reset restored display_cut closed logged
  asserted_sized luts w h =
      let c = on log_in_glass_log closed w in
      cut_holds (λ (v : WithGlassLog). SizedLog (on device_in_glass_log in_reset (on device_in_glass_log restored v))) luts c
      (λ display is. finish_sized luts display _ _ (glass_in_glass_log.get (on log_in_glass_log (logged ResetDuringDisplay) c)) h)
      h (λ is. h)

  line_sized : (luts : List ℕ) (low : Bool) (w : WithGlassLog) (power : Power) → SizedLog w → SizedLog (by_line luts low w power)
  unfolding by_line released
  line_sized luts true w InReset h = h
  line_sized luts true w Running h = asserted_sized luts w h
  line_sized luts true w Asleep h = asserted_sized luts w h
  line_sized luts false w InReset h = h
  line_sized luts false w Running h = h
  line_sized luts false w Asleep h = h

  -- ---- a command byte
  activated_sized : (k : Lent) (w : WithBuffers) → SizedBuffers w → SizedBuffers (activated k w)
  unfolding activated staged run_settled
  activated_sized k w h = advance_sized (staged_in k w).luts (staged_in k w).device.now (with_glass (staged_in k w).device w.states w.picture) h

  begun_sized : (k : Lent) (command : ℕ) (w : WithBuffers) (power : Power) → SizedBuffers w → SizedBuffers (begun k command w power)
  unfolding logged command_made restored
  begun_sized k command w power h =
      begun_keeps k SizedBuffers (λ kind w h. h) (λ command kind w e h. h) (λ w h. h) (λ ns w h. h) (activated_sized k) command w h power

  -- ---- every call
  module _ (otp : List ℕ) (w : World) (h : SizedWorld w) where
    -- the clock has moved
    abbrev g : ℕ → WithGlass
    g time = advanced w.luts time (glass_in_world.get w)

    moves : (time : ℕ) → SizedGlass (g time)
    moves time = advance_sized w.luts time (glass_in_world.get w) h

    pub sized_taken : (call : Call) → SizedWorld (taken otp w call)
    unfolding line_taken command_taken data_in read_in closed
    sized_taken (advance time) = moves time
    sized_taken (set_reset time low) =
        let a = on glass_in_glass_log (advanced w.luts time) (glass_log_in_world.get w) in
        line_sized w.luts low a a.device.bus.power (moves time)
    sized_taken (write_command time command) =
        let a = on log_in_buffers closed (moved_to time (buffers_in_world.get w)) in
        begun_sized (lent_of otp w) command a a.device.bus.power (moves time)
    sized_taken (write_data time byte) =
        subst (λ (s : Seen). Sized p s.config.panel s.panel.image (g time).states (g time).picture.pixels)
        (sym ((quiet_data byte (g time).device.bus.current).still (with_ram (g time).device w.black_white w.red w.log)))
        (moves time)
    sized_taken (read_data time) =
        subst (λ (s : Seen). Sized p s.config.panel s.panel.image (g time).states (g time).picture.pixels)
        (sym ((quiet_read w.black_white w.red (g time).device.bus.power).still (with_log (g time).device w.log)))
        (moves time)
    sized_taken (set_ambient register) = h
    sized_taken take_diagnostics = h

-- over a list of calls
pub sized_runs : {otp : List ℕ} {w u : World} {calls : List Call} (p : PanelGeometry) → Runs otp w calls u → SizedWorld p w → SizedWorld p u
sized_runs p done h = h
sized_runs {otp = otp} p (accepted {w = w} {v = v} {call = call} e rest) h =
    sized_runs p rest (subst (SizedWorld p) (sym (accepted_taken otp w v call e)) (sized_taken p otp w h call))
sized_runs p (refused {w = w} {v = v} {handed = handed} {back = back} {number = number} call table n e b rest) h =
    sized_runs p rest (subst (SizedWorld p) (sym (refused_changes_nothing table w handed back v number call n e b)) h)

-- ---- the start
module _ (c : Ssd1677Config) (otp : List ℕ) (b : Buffers) where
  config_powered : (powered_up c b).device.config ≡ c
  unfolding powered_up powered_on
  config_powered = refl

  wide_powered : (powered_up c b).device.panel.image.width ≡ c.panel.width
  unfolding powered_up powered_on panel_at_power_on
  wide_powered = refl

  high_powered : (powered_up c b).device.panel.image.height ≡ c.panel.height
  unfolding powered_up powered_on panel_at_power_on
  high_powered = refl

  pub sized_started : is_accepted (started c otp b).answer ≡ true → SizedWorld c.panel (world_of (started c otp b).left)
  sized_started ok =
      let left = left_is c otp b ok in
      let panel : (started c otp b).left.device.config.panel ≡ c.panel = ap (λ (x : Powered). x.device.config.panel) left ∙ ap (λ (x : Ssd1677Config). x.panel) config_powered in
      let long = sound_long otp (world_of (started c otp b).left) (started_sound c otp b ok) in
      record {
        panel = panel;
        wide = ap (λ (x : Powered). x.device.panel.image.width) left ∙ wide_powered;
        high = ap (λ (x : Powered). x.device.panel.image.height) left ∙ high_powered;
        states_long = long.states ∙ ap pixels_of panel;
        pixels_long = long.pixels ∙ ap pixels_of panel;
      }
