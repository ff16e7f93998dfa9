-- A diagnostic's number and fields, and its record of 16 bytes (SCOPE, Log; SCOPE, Diagnostics).
use Rattle.std.specs.Prelude.{ℕ, ◌*◌, ◌/◌, ◌%◌, ◌^◌, List, [], ◌∷◌}
use Rattle.config.specs.Mode.{mode_number}
use Rattle.diagnostic.specs.declared.Stage.{Stage}
use Rattle.diagnostic.specs.declared.Stage.TheVariants.{AnalogOn, TemperatureLoad, LutLoad, Display, HvReadyDetection, VciDetection, VcomSense}
use Rattle.diagnostic.specs.declared.DiagnosticKind.{DiagnosticKind}
use Rattle.diagnostic.specs.declared.DiagnosticKind.TheVariants.{
  UnknownCommand,
  ReservedCommand,
  UnsupportedCommand,
  DataWithoutCommand,
  ExtraData,
  MissingData,
  WhileBusy,
  WhileAsleep,
  WhileInReset,
  ReservedValue,
  RamOutOfRange,
  CounterOutsideWindow,
  WithoutClock,
  WithoutAnalog,
  NoWaveform,
  NoExternalSensor,
  RamPingPong,
  NothingToRead,
  ResetDuringDisplay,
}
use Rattle.diagnostic.specs.declared.Fields.{Fields}

-- the stages, counted from 0 in their order
abbrev pub stage_number : Stage → ℕ
stage_number AnalogOn = 0
stage_number TemperatureLoad = 1
stage_number LutLoad = 2
stage_number Display = 3
stage_number HvReadyDetection = 4
stage_number VciDetection = 5
stage_number VcomSense = 6

-- 21 to 39, the cases of DiagnosticKind in its order
abbrev pub diagnostic_number : DiagnosticKind → ℕ
diagnostic_number (UnknownCommand command) = 21
diagnostic_number (ReservedCommand command) = 22
diagnostic_number (UnsupportedCommand command) = 23
diagnostic_number (DataWithoutCommand byte) = 24
diagnostic_number (ExtraData command) = 25
diagnostic_number (MissingData command expected received) = 26
diagnostic_number (WhileBusy command) = 27
diagnostic_number (WhileAsleep command) = 28
diagnostic_number (WhileInReset command) = 29
diagnostic_number (ReservedValue command value) = 30
diagnostic_number (RamOutOfRange command x y) = 31
diagnostic_number (CounterOutsideWindow command x y) = 32
diagnostic_number (WithoutClock stage) = 33
diagnostic_number (WithoutAnalog stage) = 34
diagnostic_number (NoWaveform mode temperature) = 35
diagnostic_number NoExternalSensor = 36
diagnostic_number RamPingPong = 37
diagnostic_number (NothingToRead command) = 38
diagnostic_number ResetDuringDisplay = 39

-- field a is the command; for 24 the data, for 33 and 34 the stage, for 35 the mode
abbrev pub field_a : DiagnosticKind → ℕ
field_a (UnknownCommand command) = command
field_a (ReservedCommand command) = command
field_a (UnsupportedCommand command) = command
field_a (DataWithoutCommand byte) = byte
field_a (ExtraData command) = command
field_a (MissingData command expected received) = command
field_a (WhileBusy command) = command
field_a (WhileAsleep command) = command
field_a (WhileInReset command) = command
field_a (ReservedValue command value) = command
field_a (RamOutOfRange command x y) = command
field_a (CounterOutsideWindow command x y) = command
field_a (WithoutClock stage) = stage_number stage
field_a (WithoutAnalog stage) = stage_number stage
field_a (NoWaveform mode temperature) = mode_number mode
field_a NoExternalSensor = 0
field_a RamPingPong = 0
field_a (NothingToRead command) = command
field_a ResetDuringDisplay = 0

-- field b is expected (26), value (30), x (31, 32) or temperature register (35), and 0 where it is not used
abbrev pub field_b : DiagnosticKind → ℕ
field_b (UnknownCommand command) = 0
field_b (ReservedCommand command) = 0
field_b (UnsupportedCommand command) = 0
field_b (DataWithoutCommand byte) = 0
field_b (ExtraData command) = 0
field_b (MissingData command expected received) = expected
field_b (WhileBusy command) = 0
field_b (WhileAsleep command) = 0
field_b (WhileInReset command) = 0
field_b (ReservedValue command value) = value
field_b (RamOutOfRange command x y) = x
field_b (CounterOutsideWindow command x y) = x
field_b (WithoutClock stage) = 0
field_b (WithoutAnalog stage) = 0
field_b (NoWaveform mode temperature) = temperature
field_b NoExternalSensor = 0
field_b RamPingPong = 0
field_b (NothingToRead command) = 0
field_b ResetDuringDisplay = 0

-- field c is received (26) or y (31, 32), and 0 where it is not used
abbrev pub field_c : DiagnosticKind → ℕ
field_c (UnknownCommand command) = 0
field_c (ReservedCommand command) = 0
field_c (UnsupportedCommand command) = 0
field_c (DataWithoutCommand byte) = 0
field_c (ExtraData command) = 0
field_c (MissingData command expected received) = received
field_c (WhileBusy command) = 0
field_c (WhileAsleep command) = 0
field_c (WhileInReset command) = 0
field_c (ReservedValue command value) = 0
field_c (RamOutOfRange command x y) = y
field_c (CounterOutsideWindow command x y) = y
field_c (WithoutClock stage) = 0
field_c (WithoutAnalog stage) = 0
field_c (NoWaveform mode temperature) = 0
field_c NoExternalSensor = 0
field_c RamPingPong = 0
field_c (NothingToRead command) = 0
field_c ResetDuringDisplay = 0

-- number and fields of a diagnostic
abbrev pub fields_of : DiagnosticKind → Fields
fields_of k = record { number = diagnostic_number k; a = field_a k; b = field_b k; c = field_c k }

-- byte k of a number, low byte first
abbrev pub record_byte : ℕ → ℕ → ℕ
record_byte x k = x / 2 ^ (8 * k) % 256

-- a record: time 0–7, number 8, field a 9, b 10–11, c 12–13, low byte first, then zeros
unfoldable pub record_of : ℕ → Fields → List ℕ
record_of time f =
    record_byte time 0 ∷ record_byte time 1 ∷ record_byte time 2 ∷ record_byte time 3 ∷ record_byte time 4 ∷ record_byte time 5 ∷ record_byte time 6 ∷ record_byte time 7
    ∷ f.number ∷ f.a ∷ record_byte f.b 0 ∷ record_byte f.b 1 ∷ record_byte f.c 0 ∷ record_byte f.c 1 ∷ 0 ∷ 0 ∷ []
