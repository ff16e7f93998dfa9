-- The clock's move and a command's start: what the core keeps of them does not look at the glass, the journal or the log, and a command
-- other than 0x20 leaves the glass. Assumes nothing.
use Rattle.std.specs.Prelude.{Option, Some, None}
use Prim.Native.Nat.{ℕ, max}
use mathlib.Core.Path.{◌≡◌, refl, sym, ap, ◌∙◌}
use mathlib.Core.Bool.{Bool, true, false, ◌||◌}
use mathlib.Core.List.{List, []}
use lib.Dec.{eqb, leb}
use Rattle.numbers.specs.Choice.{pick}
use Rattle.diagnostic.specs.declared.DiagnosticKind.{DiagnosticKind}
use Rattle.diagnostic.specs.declared.DiagnosticKind.TheVariants.{UnknownCommand, ReservedCommand, UnsupportedCommand, WhileBusy, WhileAsleep, WhileInReset}
use Rattle.device.specs.declared.Kind.{Kind}
use Rattle.device.specs.declared.Kind.TheVariants.{Write, Read, Unsupported, Reserved}
use Rattle.device.specs.declared.Power.{Power}
use Rattle.device.specs.declared.Power.TheVariants.{Running, Asleep, InReset}
use Rattle.world.specs.World.{WithLog, with_log, WithGlass, with_glass, WithBuffers, with_buffers, Lent, on, device_in_buffers, log_in_buffers}
use Rattle.command.specs.Table.{kind_of}
use Rattle.clock.specs.Advance.{clocked, quieted, glass_published, ending_of, glass_of, ended_by, ended, advanced}
use Rattle.panel.specs.declared.Display.{Display}
use Rattle.panel.specs.Finish.{finished}
use Rattle.chip.specs.Report.{logged}
use Rattle.reset.specs.Reset.{restored}
use Rattle.start.specs.Start.{soft_reset, vcom_sensed, pointed}
use Rattle.activation.specs.Activation.{WithLuts, with_luts, staged_in, arrived, both_left, activated}
use Rattle.begin.specs.Begin.{command_made, run, command_by_kind, is_held_off, begun}
use Rattle.history.specs.Reckon.{unseen}
use Rattle.history.proofs.Blind.{plain_glass, plain_buffers, seen_buffers, behind, Blind, Quiet, blind_then, blind_pick}
use Rattle.history.proofs.Steps.{QuietLog, quiet_logged, quiet_sensed, quiet_pointed}
use Rattle.history.proofs.Stages.{plain_luts}
use Rattle.history.proofs.Display.{staged_plain}

-- ---- the clock's move
pub blind_advanced : (luts : List ℕ) (time : ℕ) → Blind plain_glass plain_glass (advanced luts time)
unfolding advanced ended
blind_advanced luts time g = by g.device.display
  where
    left : Option Display → WithGlass → WithGlass
    left o x = plain_glass (quieted (ended_by luts (clocked time x) o))

    over : Display → WithGlass → WithGlass
    over display x = glass_published x (finished (ending_of x.device display display.ends None) luts (glass_of x))

    at : (display : Display) (b : Bool)
        → plain_glass (quieted (pick b (over display (clocked time g)) (clocked time g)))
        ≡ plain_glass (quieted (pick b (over display (clocked time (plain_glass g))) (clocked time (plain_glass g))))
    at display true = refl
    at display false = refl

    by : (o : Option Display) → left o g ≡ left o (plain_glass g)
    by None = refl
    by (Some display) = at display (leb display.ends (max g.device.now time))

-- ---- 0x20
joined_plain : (w : WithBuffers) (s : WithLuts) → plain_buffers (both_left s (arrived w s)) ≡ plain_buffers (both_left (plain_luts s) (arrived (plain_buffers w) (plain_luts s)))
joined_plain w s =
    ap (λ (g : WithGlass). with_buffers g.device g.states s.luts g.picture [])
    (blind_advanced s.luts s.device.now (with_glass s.device w.states w.picture))

pub blind_activated : (k : Lent) → Blind plain_buffers plain_buffers (activated k)
unfolding activated
blind_activated k w =
    joined_plain w (staged_in k w)
    ∙ ap (λ (s : WithLuts). plain_buffers (both_left s (arrived (plain_buffers w) s))) (staged_plain k (with_luts w.device w.luts w.log))
    ∙ sym (joined_plain (plain_buffers w) (staged_in k (plain_buffers w)))

-- ---- the other commands
abbrev pub QuietBuffers : (WithBuffers → WithBuffers) → Type 0
QuietBuffers = Quiet plain_buffers seen_buffers

pub quiet_log : (f : WithLog → WithLog) → QuietLog f → QuietBuffers (on log_in_buffers f)
quiet_log f q =
    record {
      blind = λ (w : WithBuffers). ap (λ (k : WithLog). with_buffers k.device [] w.luts unseen k.log) (q.blind (with_log w.device w.log));
      still = λ (w : WithBuffers). ap (behind w.states w.picture) (q.still (with_log w.device w.log));
    }

abbrev pub told : DiagnosticKind → WithBuffers → WithBuffers
told kind = on log_in_buffers (logged kind)

quiet_told : (kind : DiagnosticKind) → QuietBuffers (told kind)
quiet_told kind = quiet_log (logged kind) (quiet_logged kind)

quiet_reset : QuietBuffers (on device_in_buffers soft_reset)
unfolding soft_reset restored
quiet_reset = record { blind = λ w. refl; still = λ w. refl }

pub quiet_made : (command : ℕ) (kind : Kind) → QuietBuffers (on device_in_buffers (command_made command kind))
unfolding command_made
quiet_made command kind = record { blind = λ w. refl; still = λ w. refl }

none : QuietBuffers (λ w. w)
none = record { blind = λ w. refl; still = λ w. refl }

module _ (k : Lent) (command : ℕ) where
  -- the choices of a command's start
  abbrev chosen : Bool → Bool → Bool → Bool → WithBuffers → WithBuffers
  chosen a b c d w = pick a (on device_in_buffers soft_reset w) (pick b (activated k w) (pick c (on log_in_buffers vcom_sensed w) (pick d (on log_in_buffers (pointed command) w) w)))

  blind_run : Blind plain_buffers plain_buffers (run k command)
  unfolding run
  blind_run = by (eqb command 0x12) (eqb command 0x20) (eqb command 0x28) (eqb command 0x24 || eqb command 0x26 || eqb command 0x27)
    where
      by : (a b c d : Bool) → Blind plain_buffers plain_buffers (chosen a b c d)
      by true b c d = quiet_reset.blind
      by false true c d = blind_activated k
      by false false true d = (quiet_log vcom_sensed quiet_sensed).blind
      by false false false true = (quiet_log (pointed command) (quiet_pointed command)).blind
      by false false false false = none.blind

  still_run : eqb command 0x20 ≡ false → (w : WithBuffers) → seen_buffers (run k command w) ≡ seen_buffers w
  unfolding run
  still_run e w = rw e (by (eqb command 0x12) (eqb command 0x28) (eqb command 0x24 || eqb command 0x26 || eqb command 0x27))
    where
      by : (a c d : Bool) → seen_buffers (chosen a false c d w) ≡ seen_buffers w
      by true c d = quiet_reset.still w
      by false true d = (quiet_log vcom_sensed quiet_sensed).still w
      by false false true = (quiet_log (pointed command) (quiet_pointed command)).still w
      by false false false = refl

  blind_kind : (known : Option Kind) → Blind plain_buffers plain_buffers (λ (w : WithBuffers). command_by_kind k command w known)
  unfolding command_by_kind
  blind_kind None = (quiet_told (UnknownCommand command)).blind
  blind_kind (Some Reserved) = (quiet_told (ReservedCommand command)).blind
  blind_kind (Some Unsupported) = (quiet_told (UnsupportedCommand command)).blind
  blind_kind (Some (Write params)) =
      blind_then plain_buffers plain_buffers plain_buffers (on device_in_buffers (command_made command (Write params))) (run k command) (quiet_made command (Write params)).blind blind_run
  blind_kind (Some Read) =
      blind_then plain_buffers plain_buffers plain_buffers (on device_in_buffers (command_made command Read)) (run k command) (quiet_made command Read).blind blind_run

  still_kind : eqb command 0x20 ≡ false → (known : Option Kind) (w : WithBuffers) → seen_buffers (command_by_kind k command w known) ≡ seen_buffers w
  unfolding command_by_kind
  still_kind e None w = (quiet_told (UnknownCommand command)).still w
  still_kind e (Some Reserved) w = (quiet_told (ReservedCommand command)).still w
  still_kind e (Some Unsupported) w = (quiet_told (UnsupportedCommand command)).still w
  still_kind e (Some (Write params)) w = still_run e (on device_in_buffers (command_made command (Write params)) w) ∙ (quiet_made command (Write params)).still w
  still_kind e (Some Read) w = still_run e (on device_in_buffers (command_made command Read) w) ∙ (quiet_made command Read).still w

  pub blind_begun : (power : Power) → Blind plain_buffers plain_buffers (λ (w : WithBuffers). begun k command w power)
  unfolding begun
  blind_begun InReset = (quiet_told (WhileInReset command)).blind
  blind_begun Asleep = (quiet_told (WhileAsleep command)).blind
  blind_begun Running =
      blind_pick plain_buffers plain_buffers (λ w. is_held_off command w.device) (told (WhileBusy command)) (λ w. command_by_kind k command w (kind_of command)) (λ w. refl)
      (quiet_told (WhileBusy command)).blind
      (blind_kind (kind_of command))

  -- a command that is held off, asleep or in reset is only told
  pub still_told : (kind : DiagnosticKind) (w : WithBuffers) → seen_buffers (told kind w) ≡ seen_buffers w
  still_told kind w = (quiet_told kind).still w

  pub still_begun : eqb command 0x20 ≡ false → (power : Power) (w : WithBuffers) → seen_buffers (begun k command w power) ≡ seen_buffers w
  unfolding begun
  still_begun e InReset w = still_told (WhileInReset command) w
  still_begun e Asleep w = still_told (WhileAsleep command) w
  still_begun e Running w = by (is_held_off command w.device)
    where
      by : (b : Bool) → seen_buffers (pick b (told (WhileBusy command) w) (command_by_kind k command w (kind_of command))) ≡ seen_buffers w
      by true = still_told (WhileBusy command) w
      by false = still_kind e (kind_of command) w
