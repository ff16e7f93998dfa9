-- What each return of the code hands over, over plain variables. Assumes nothing.
use Rattle.std.specs.Prelude.{Option, Some, None}
use Prim.Native.Nat.{ℕ}
use mathlib.Core.Path.{◌≡◌, refl, sym, ap, subst, ◌∙◌}
use mathlib.Core.Bool.{Bool, true, false, ◌&&◌, ◌||◌, not}
use mathlib.Core.List.{List}
use lib.Dec.{eqb}
use lib.IntN.{ℤ}
use Rattle.numbers.proofs.Cases.{took, passed}
use Rattle.diagnostic.specs.declared.DiagnosticKind.TheVariants.{UnknownCommand, ReservedCommand, UnsupportedCommand, WhileBusy, WhileAsleep, WhileInReset}
use Rattle.device.specs.declared.Kind.{Kind}
use Rattle.device.specs.declared.Kind.TheVariants.{Write, Read, Unsupported, Reserved}
use Rattle.device.specs.declared.Params.{Params}
use Rattle.device.specs.declared.Power.{Power}
use Rattle.device.specs.declared.Power.TheVariants.{Running, Asleep, InReset}
use Rattle.device.specs.declared.Ssd1677.{Ssd1677}
use Rattle.world.specs.World.{WithLog, with_log, WithBuffers, with_buffers, Lent, on, device_in_buffers, log_in_buffers}
use Rattle.command.specs.Table.{kind_of}
use Rattle.busy.specs.Busy.{pending}
use Rattle.chip.specs.Report.{logged}
use Rattle.start.specs.Start.{soft_reset, vcom_sensed, pointed}
use Rattle.activation.specs.Activation.{Activatable, activated}
use Rattle.begin.specs.Begin.{command_made, run, command_by_kind, begun}

-- a command made current leaves what an activation asks
pub still_activatable : (command : ℕ) (kind : Kind) (d r : Ssd1677) (states : List ℤ) (luts pixels counts black_white red gates : List ℕ) → r ≡ command_made command kind d
    → Activatable d states luts pixels counts black_white red gates → Activatable r states luts pixels counts black_white red gates
unfolding command_made
still_activatable command kind d r states luts pixels counts black_white red gates e h =
    subst (λ (x : Ssd1677). Activatable x states luts pixels counts black_white red gates) (sym e)
    (record { startable = h.startable; ready = h.ready })

module _ (k : Lent) (command : ℕ) (w : WithBuffers) where
  -- the state and the log as they are lent
  abbrev entry : WithLog
  entry = with_log w.device w.log

  -- the state put back
  abbrev put : Ssd1677 → WithBuffers
  put d = with_buffers d w.states w.luts w.picture w.log

  pub resets : (r : Ssd1677) → eqb command 0x12 ≡ true → r ≡ soft_reset w.device → put r ≡ run k command w
  unfolding run
  resets r h e = took _ _ _ _ h (ap put e)

  module _ (not-reset : eqb command 0x12 ≡ false) where
    pub activates : (z : WithBuffers) → eqb command 0x20 ≡ true → z ≡ activated k w → z ≡ run k command w
    unfolding run
    activates z h e = passed _ _ _ _ not-reset (took _ _ _ _ h e)

    module _ (not-activation : eqb command 0x20 ≡ false) where
      pub senses : (z : WithLog) → eqb command 0x28 ≡ true → z ≡ vcom_sensed entry → log_in_buffers.put w z ≡ run k command w
      unfolding run
      senses z h e = passed _ _ _ _ not-reset (passed _ _ _ _ not-activation (took _ _ _ _ h (ap (log_in_buffers.put w) e)))

      module _ (not-sensing : eqb command 0x28 ≡ false) where
        pub points : (z : WithLog) → eqb command 0x24 || eqb command 0x26 || eqb command 0x27 ≡ true → z ≡ pointed command entry
            → log_in_buffers.put w z ≡ run k command w
        unfolding run
        points z h e =
            passed _ _ _ _ not-reset (passed _ _ _ _ not-activation (passed _ _ _ _ not-sensing (took _ _ _ _ h (ap (log_in_buffers.put w) e))))

        pub starts_nothing : eqb command 0x24 || eqb command 0x26 || eqb command 0x27 ≡ false → w ≡ run k command w
        unfolding run
        starts_nothing h =
            passed _ _ _ _ not-reset (passed _ _ _ _ not-activation (passed _ _ _ _ not-sensing (passed _ _ _ _ h refl)))

  pub accepts : (kind : Kind) (d : Ssd1677) (z : WithBuffers) → d ≡ command_made command kind w.device → z ≡ run k command (put d)
      → z ≡ run k command (on device_in_buffers (command_made command kind) w)
  accepts kind d z e f = f ∙ ap (λ (x : Ssd1677). run k command (put x)) e

  module _ (known : Option Kind) (told : known ≡ kind_of command) where
    -- what the table has, by what the decoder answered
    by : (x : Option Kind) → known ≡ x → command_by_kind k command w x ≡ command_by_kind k command w (kind_of command)
    by x e = ap (command_by_kind k command w) (sym e ∙ told)

    pub unknown : (z : WithLog) → known ≡ None → z ≡ logged (UnknownCommand command) entry → log_in_buffers.put w z ≡ command_by_kind k command w (kind_of command)
    unfolding command_by_kind
    unknown z e f = ap (log_in_buffers.put w) f ∙ by None e

    module _ (kind : Kind) (of : known ≡ Some kind) where
      pub reserved : (z : WithLog) → kind ≡ Reserved → z ≡ logged (ReservedCommand command) entry → log_in_buffers.put w z ≡ command_by_kind k command w (kind_of command)
      unfolding command_by_kind
      reserved z e f = ap (log_in_buffers.put w) f ∙ by (Some Reserved) (of ∙ ap Some e)

      pub unsupported : (z : WithLog) → kind ≡ Unsupported → z ≡ logged (UnsupportedCommand command) entry
          → log_in_buffers.put w z ≡ command_by_kind k command w (kind_of command)
      unfolding command_by_kind
      unsupported z e f = ap (log_in_buffers.put w) f ∙ by (Some Unsupported) (of ∙ ap Some e)

      -- with the kind as the code has it
      abbrev accepted : Kind → WithBuffers
      accepted x = run k command (on device_in_buffers (command_made command x) w)

      pub writes : (p : Params) (z : WithBuffers) → kind ≡ Write p → z ≡ accepted kind → z ≡ command_by_kind k command w (kind_of command)
      unfolding command_by_kind
      writes p z e f = f ∙ ap accepted e ∙ by (Some (Write p)) (of ∙ ap Some e)

      pub reads : (z : WithBuffers) → kind ≡ Read → z ≡ accepted kind → z ≡ command_by_kind k command w (kind_of command)
      unfolding command_by_kind
      reads z e f = f ∙ ap accepted e ∙ by (Some Read) (of ∙ ap Some e)

  module _ (p : Power) where
    pub in_reset_is : (z : WithLog) → p ≡ InReset → z ≡ logged (WhileInReset command) entry → log_in_buffers.put w z ≡ begun k command w p
    unfolding begun
    in_reset_is z e f = ap (log_in_buffers.put w) f ∙ ap (begun k command w) (sym e)

    pub asleep : (z : WithLog) → p ≡ Asleep → z ≡ logged (WhileAsleep command) entry → log_in_buffers.put w z ≡ begun k command w p
    unfolding begun
    asleep z e f = ap (log_in_buffers.put w) f ∙ ap (begun k command w) (sym e)

    module _ (is : p ≡ Running) (b : Bool) (waits : b ≡ pending w.device.bus.busy_until w.device.now) where
      -- the test of BUSY and 0x2F
      held_off : (x : Bool) → b && not (eqb command 0x2F) ≡ x → pending w.device.bus.busy_until w.device.now && not (eqb command 0x2F) ≡ x
      held_off x h = ap (λ (y : Bool). y && not (eqb command 0x2F)) (sym waits) ∙ h

      pub busy : (z : WithLog) → b && not (eqb command 0x2F) ≡ true → z ≡ logged (WhileBusy command) entry → log_in_buffers.put w z ≡ begun k command w p
      unfolding begun
      busy z h f =
          took _ _ (command_by_kind k command w (kind_of command)) _ (held_off true h) (ap (log_in_buffers.put w) f)
          ∙ ap (begun k command w) (sym is)

      pub free : (z : WithBuffers) → b && not (eqb command 0x2F) ≡ false → z ≡ command_by_kind k command w (kind_of command) → z ≡ begun k command w p
      unfolding begun
      free z h f =
          passed _ (on log_in_buffers (logged (WhileBusy command)) w) _ _ (held_off false h) f
          ∙ ap (begun k command w) (sym is)
