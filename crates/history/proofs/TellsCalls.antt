-- The reports of every call, by what it is lent. Assumes nothing.
use Rattle.std.specs.Prelude.{Option, Some, None}
use Prim.Native.Nat.{ℕ, ◌+◌, ◌≤◌}
use mathlib.Core.Path.{◌≡◌, refl, ap, ◌∙◌}
use mathlib.Core.Bool.{Bool, true, false, ◌||◌}
use mathlib.Core.List.{List, []}
use native.Mathlib.Omega.{arith}
use lib.Dec.{eqb, leb}
use Rattle.numbers.specs.Choice.{pick}
use Rattle.panel.specs.declared.Display.{Display}
use Rattle.diagnostic.specs.declared.DiagnosticKind.{DiagnosticKind}
use Rattle.diagnostic.specs.declared.DiagnosticKind.TheVariants.{UnknownCommand, ReservedCommand, UnsupportedCommand, WhileBusy, WhileAsleep, WhileInReset, ResetDuringDisplay}
use Rattle.device.specs.declared.Current.{Current}
use Rattle.device.specs.declared.Kind.{Kind}
use Rattle.device.specs.declared.Kind.TheVariants.{Write, Read, Unsupported, Reserved}
use Rattle.device.specs.declared.Power.{Power}
use Rattle.device.specs.declared.Power.TheVariants.{Running, Asleep, InReset}
use Rattle.world.specs.World.{WithLog, with_log, WithGlass, with_glass, WithGlassLog, with_glass_log, WithRam, with_ram, WithBuffers, with_buffers, Lent, WithPlanes, with_planes, on, device_in_glass_log, log_in_glass_log, glass_in_glass_log, device_in_buffers, log_in_buffers}
use Rattle.command.specs.Table.{kind_of}
use Rattle.clock.specs.Advance.{advanced}
use Rattle.clock.proofs.Arrived.{journal_advanced}
use Rattle.chip.specs.Close.{closed}
use Rattle.chip.specs.Report.{logged}
use Rattle.reset.specs.Reset.{restored, display_cut, display_dropped, cut_by, cut, in_reset, asserted, released, by_line}
use Rattle.start.specs.Start.{soft_reset, vcom_sensed, pointed}
use Rattle.activation.specs.Activation.{with_luts, staged_in, activated}
use Rattle.data.specs.Data.{data_taken}
use Rattle.begin.specs.Begin.{command_made, run, command_by_kind, is_held_off, begun}
use Rattle.reading.specs.Reading.{read_taken}
use Rattle.res.specs.Line.{line_taken}
use Rattle.low.specs.Command.{moved_to, command_taken}
use Rattle.high.specs.Data.{data_in}
use Rattle.driven.specs.Read.{read_in}
use Rattle.history.specs.Reckon.{unseen}
use Rattle.history.proofs.Blind.{plain_glass, plain_glass_log, plain_buffers, plain_planes}
use Rattle.history.proofs.Begun.{blind_advanced, blind_activated}
use Rattle.history.proofs.Tells.{Bundle, Tells, tells_none, tells_more, tells_by, tells_pick, tells_then}
use Rattle.history.proofs.TellsLog.{in_log, TellsLog, tells_logged, tells_closed, tells_sensed, tells_pointed, tells_read}
use Rattle.history.proofs.TellsData.{tells_data}
use Rattle.history.proofs.TellsShown.{tells_staged}

abbrev pub in_glass : Bundle WithGlass
in_glass = record { plain = plain_glass; journal = λ (g : WithGlass). g.device.journal }

abbrev pub in_glass_log : Bundle WithGlassLog
in_glass_log = record { plain = plain_glass_log; journal = λ (w : WithGlassLog). w.device.journal }

abbrev pub in_buffers : Bundle WithBuffers
in_buffers = record { plain = plain_buffers; journal = λ (w : WithBuffers). w.device.journal }

abbrev pub in_planes : Bundle WithPlanes
in_planes = record { plain = plain_planes; journal = λ (w : WithPlanes). w.device.journal }

-- ---- the clock's move reports nothing
pub tells_advanced : (luts : List ℕ) (time : ℕ) → Tells in_glass in_glass 0 (advanced luts time)
tells_advanced luts time = tells_none in_glass in_glass (advanced luts time) (blind_advanced luts time) (journal_advanced luts time)

-- ---- the reset line
abbrev TellsLine : ℕ → (WithGlassLog → WithGlassLog) → Type 0
TellsLine = Tells in_glass_log in_glass_log

abbrev then_line : (m n : ℕ) (f g : WithGlassLog → WithGlassLog) → TellsLine m f → TellsLine n g → TellsLine (m + n) (λ w. g (f w))
then_line = tells_then in_glass_log in_glass_log in_glass_log

line_log : (n : ℕ) (f : WithLog → WithLog) → TellsLog n f → TellsLine n (on log_in_glass_log f)
line_log n f t =
    record {
      blind = λ (w : WithGlassLog). ap (λ (k : WithLog). with_glass_log k.device [] unseen k.log) (t.blind (with_log w.device w.log));
      makes = λ (w : WithGlassLog). t.makes (with_log w.device w.log);
      is = λ (w : WithGlassLog). t.is (with_log w.device w.log);
      adds = λ (w : WithGlassLog). t.adds (with_log w.device w.log);
    }

-- 39, or nothing
tells_cut : (luts : List ℕ) → TellsLine 1 (cut luts)
unfolding cut display_cut
tells_cut luts = tells_by in_glass_log in_glass_log 1 (λ (w : WithGlassLog). w.device.display) (λ o w. cut_by luts w o) (λ w. refl) by
  where
    by : (o : Option Display) → TellsLine 1 (λ w. cut_by luts w o)
    by None = tells_more in_glass_log in_glass_log 0 1 (λ w. w) (omega arith) (tells_none in_glass_log in_glass_log (λ w. w) (λ w. refl) (λ w. refl))
    by (Some display) =
        tells_pick in_glass_log in_glass_log 1 0 (λ (w : WithGlassLog). leb display.started w.device.now)
        (λ w. on glass_in_glass_log (display_cut luts display) (on log_in_glass_log (logged ResetDuringDisplay) w)) (on device_in_glass_log display_dropped) (λ w. refl)
        (then_line 1 0 (on log_in_glass_log (logged ResetDuringDisplay)) (on glass_in_glass_log (display_cut luts display)) (line_log 1 (logged ResetDuringDisplay) (tells_logged ResetDuringDisplay))
        (tells_none in_glass_log in_glass_log (on glass_in_glass_log (display_cut luts display)) (λ w. refl) (λ w. refl)))
        (tells_none in_glass_log in_glass_log (on device_in_glass_log display_dropped) (λ w. refl) (λ w. refl))

tells_asserted : (luts : List ℕ) → TellsLine 2 (asserted luts)
unfolding asserted in_reset restored
tells_asserted luts =
    let low : WithGlassLog → WithGlassLog = λ (w : WithGlassLog). on device_in_glass_log in_reset (on device_in_glass_log restored w) in
    then_line 2 0 (λ w. cut luts (on log_in_glass_log closed w)) low
    (then_line 1 1 (on log_in_glass_log closed) (cut luts) (line_log 1 closed tells_closed) (tells_cut luts))
    (tells_none in_glass_log in_glass_log low (λ w. refl) (λ w. refl))

line_none : TellsLine 2 (λ w. w)
line_none = tells_more in_glass_log in_glass_log 0 2 (λ w. w) (omega arith) (tells_none in_glass_log in_glass_log (λ w. w) (λ w. refl) (λ w. refl))

tells_line : (luts : List ℕ) (low : Bool) (power : Power) → TellsLine 2 (λ (w : WithGlassLog). by_line luts low w power)
unfolding by_line released
tells_line luts true InReset = line_none
tells_line luts true Running = tells_asserted luts
tells_line luts true Asleep = tells_asserted luts
tells_line luts false InReset =
    tells_more in_glass_log in_glass_log 0 2 (on device_in_glass_log released) (omega arith)
    (tells_none in_glass_log in_glass_log (on device_in_glass_log released) (λ w. refl) (λ w. refl))
tells_line luts false Running = line_none
tells_line luts false Asleep = line_none

line_clock : (luts : List ℕ) (time : ℕ) → TellsLine 0 (on glass_in_glass_log (advanced luts time))
line_clock luts time =
    tells_none in_glass_log in_glass_log (on glass_in_glass_log (advanced luts time))
    (λ (w : WithGlassLog).
    ap (λ (g : WithGlass). with_glass_log g.device g.states g.picture []) (blind_advanced luts time (with_glass w.device w.states w.picture)))
    (λ (w : WithGlassLog). journal_advanced luts time (with_glass w.device w.states w.picture))

pub tells_reset : (luts : List ℕ) (time : ℕ) (low : Bool) → TellsLine 2 (line_taken luts time low)
unfolding line_taken
tells_reset luts time low =
    then_line 0 2 (on glass_in_glass_log (advanced luts time)) (λ (w : WithGlassLog). by_line luts low w w.device.bus.power) (line_clock luts time)
    (tells_by in_glass_log in_glass_log 2 (λ (w : WithGlassLog). w.device.bus.power) (λ (power : Power) (w : WithGlassLog). by_line luts low w power) (λ w. refl)
    (tells_line luts low))

-- ---- a read
pub tells_read_in : (luts black_white red : List ℕ) (time : ℕ) → TellsLine 1 (λ w. (read_in luts black_white red time w).left)
unfolding read_in
tells_read_in luts black_white red time =
    let reads : WithLog → WithLog = λ (k : WithLog). (read_taken black_white red k k.device.bus.power).left in
    then_line 0 1 (on glass_in_glass_log (advanced luts time)) (on log_in_glass_log reads) (line_clock luts time)
    (line_log 1 reads
    (tells_by in_log in_log 1 (λ (k : WithLog). k.device.bus.power) (λ (power : Power) (k : WithLog). (read_taken black_white red k power).left) (λ k. refl)
    (tells_read black_white red)))

-- ---- a data byte
abbrev on_ram : (WithRam → WithRam) → WithPlanes → WithPlanes
on_ram f w =
    let m = f (with_ram w.device w.black_white w.red w.log) in
    with_planes m.device w.states w.picture m.black_white m.red m.log

abbrev on_clock : List ℕ → ℕ → WithPlanes → WithPlanes
on_clock luts time w =
    let g = advanced luts time (with_glass w.device w.states w.picture) in
    with_planes g.device g.states g.picture w.black_white w.red w.log

planes_data : (byte : ℕ) (c : Current) → Tells in_planes in_planes 4 (on_ram (λ (m : WithRam). data_taken byte m c))
planes_data byte c =
    let t = tells_data byte c in
    record {
      blind = λ (w : WithPlanes).
          ap (λ (m : WithRam). with_planes m.device [] unseen m.black_white m.red m.log) (t.blind (with_ram w.device w.black_white w.red w.log));
      makes = λ (w : WithPlanes). t.makes (with_ram w.device w.black_white w.red w.log);
      is = λ (w : WithPlanes). t.is (with_ram w.device w.black_white w.red w.log);
      adds = λ (w : WithPlanes). t.adds (with_ram w.device w.black_white w.red w.log);
    }

pub tells_data_in : (luts : List ℕ) (time byte : ℕ) → Tells in_planes in_planes 4 (data_in luts time byte)
unfolding data_in
tells_data_in luts time byte =
    tells_then in_planes in_planes in_planes 0 4 (on_clock luts time) (λ (w : WithPlanes). on_ram (λ (m : WithRam). data_taken byte m w.device.bus.current) w)
    (tells_none in_planes in_planes (on_clock luts time)
    (λ (w : WithPlanes).
    ap (λ (g : WithGlass). with_planes g.device [] unseen w.black_white w.red []) (blind_advanced luts time (with_glass w.device w.states w.picture)))
    (λ (w : WithPlanes). journal_advanced luts time (with_glass w.device w.states w.picture)))
    (tells_by in_planes in_planes 4 (λ (w : WithPlanes). w.device.bus.current) (λ (c : Current) (w : WithPlanes). on_ram (λ (m : WithRam). data_taken byte m c) w)
    (λ w. refl) (planes_data byte))

-- ---- a command byte
abbrev TellsBuffers : ℕ → (WithBuffers → WithBuffers) → Type 0
TellsBuffers = Tells in_buffers in_buffers

abbrev then_buffers : (m n : ℕ) (f g : WithBuffers → WithBuffers) → TellsBuffers m f → TellsBuffers n g → TellsBuffers (m + n) (λ w. g (f w))
then_buffers = tells_then in_buffers in_buffers in_buffers

buffers_log : (n : ℕ) (f : WithLog → WithLog) → TellsLog n f → TellsBuffers n (on log_in_buffers f)
buffers_log n f t =
    record {
      blind = λ (w : WithBuffers). ap (λ (k : WithLog). with_buffers k.device [] w.luts unseen k.log) (t.blind (with_log w.device w.log));
      makes = λ (w : WithBuffers). t.makes (with_log w.device w.log);
      is = λ (w : WithBuffers). t.is (with_log w.device w.log);
      adds = λ (w : WithBuffers). t.adds (with_log w.device w.log);
    }

tells_activated : (k : Lent) → TellsBuffers 8 (activated k)
unfolding activated
tells_activated k =
    let t = tells_staged k in
    record {
      blind = blind_activated k;
      makes = λ (w : WithBuffers). t.makes (with_luts w.device w.luts []);
      is = λ (w : WithBuffers).
          journal_advanced (staged_in k w).luts (staged_in k w).device.now (with_glass (staged_in k w).device w.states w.picture)
          ∙ t.is (with_luts w.device w.luts w.log);
      adds = λ (w : WithBuffers). t.adds (with_luts w.device w.luts []);
    }

up : (n : ℕ) (f : WithBuffers → WithBuffers) → n ≤ 8 → TellsBuffers n f → TellsBuffers 8 f
up n f le = tells_more in_buffers in_buffers n 8 f le

module _ (k : Lent) (command : ℕ) where
  tells_soft : TellsBuffers 0 (on device_in_buffers soft_reset)
  unfolding soft_reset restored
  tells_soft = tells_none in_buffers in_buffers (on device_in_buffers soft_reset) (λ w. refl) (λ w. refl)

  tells_made : (kind : Kind) → TellsBuffers 0 (on device_in_buffers (command_made command kind))
  unfolding command_made
  tells_made kind = tells_none in_buffers in_buffers (on device_in_buffers (command_made command kind)) (λ w. refl) (λ w. refl)

  tells_run : TellsBuffers 8 (run k command)
  unfolding run
  tells_run = by (eqb command 0x12) (eqb command 0x20) (eqb command 0x28) (eqb command 0x24 || eqb command 0x26 || eqb command 0x27)
    where
      by : (a b c d : Bool)
          → TellsBuffers 8 (λ w. pick a (on device_in_buffers soft_reset w) (pick b (activated k w) (pick c (on log_in_buffers vcom_sensed w) (pick d (on log_in_buffers (pointed command) w) w))))
      by true b c d = up 0 (on device_in_buffers soft_reset) (omega arith) tells_soft
      by false true c d = tells_activated k
      by false false true d = up 2 (on log_in_buffers vcom_sensed) (omega arith) (buffers_log 2 vcom_sensed tells_sensed)
      by false false false true = up 1 (on log_in_buffers (pointed command)) (omega arith) (buffers_log 1 (pointed command) (tells_pointed command))
      by false false false false = up 0 (λ w. w) (omega arith) (tells_none in_buffers in_buffers (λ w. w) (λ w. refl) (λ w. refl))

  tells_told : (kind : DiagnosticKind) → TellsBuffers 8 (on log_in_buffers (logged kind))
  tells_told kind = up 1 (on log_in_buffers (logged kind)) (omega arith) (buffers_log 1 (logged kind) (tells_logged kind))

  tells_kind : (known : Option Kind) → TellsBuffers 8 (λ (w : WithBuffers). command_by_kind k command w known)
  unfolding command_by_kind
  tells_kind None = tells_told (UnknownCommand command)
  tells_kind (Some Reserved) = tells_told (ReservedCommand command)
  tells_kind (Some Unsupported) = tells_told (UnsupportedCommand command)
  tells_kind (Some (Write params)) = then_buffers 0 8 (on device_in_buffers (command_made command (Write params))) (run k command) (tells_made (Write params)) tells_run
  tells_kind (Some Read) = then_buffers 0 8 (on device_in_buffers (command_made command Read)) (run k command) (tells_made Read) tells_run

  tells_begun : (power : Power) → TellsBuffers 16 (λ (w : WithBuffers). begun k command w power)
  unfolding begun
  tells_begun InReset = tells_more in_buffers in_buffers 8 16 (on log_in_buffers (logged (WhileInReset command))) (omega arith) (tells_told (WhileInReset command))
  tells_begun Asleep = tells_more in_buffers in_buffers 8 16 (on log_in_buffers (logged (WhileAsleep command))) (omega arith) (tells_told (WhileAsleep command))
  tells_begun Running =
      tells_pick in_buffers in_buffers 8 8 (λ (w : WithBuffers). is_held_off command w.device) (on log_in_buffers (logged (WhileBusy command)))
      (λ w. command_by_kind k command w (kind_of command)) (λ w. refl)
      (tells_told (WhileBusy command))
      (tells_kind (kind_of command))

  pub tells_command : (time : ℕ) → TellsBuffers 17 (command_taken k time command)
  unfolding command_taken
  tells_command time =
      then_buffers 0 17 (moved_to time) (λ (w : WithBuffers). begun k command (on log_in_buffers closed w) (on log_in_buffers closed w).device.bus.power)
      (tells_none in_buffers in_buffers (moved_to time)
      (λ (w : WithBuffers).
      ap (λ (g : WithGlass). with_buffers g.device g.states w.luts g.picture []) (blind_advanced w.luts time (with_glass w.device w.states w.picture)))
      (λ (w : WithBuffers). journal_advanced w.luts time (with_glass w.device w.states w.picture)))
      (then_buffers 1 16 (on log_in_buffers closed) (λ (w : WithBuffers). begun k command w w.device.bus.power) (buffers_log 1 closed tells_closed)
      (tells_by in_buffers in_buffers 16 (λ (w : WithBuffers). w.device.bus.power) (λ (power : Power) (w : WithBuffers). begun k command w power) (λ w. refl)
      tells_begun))
