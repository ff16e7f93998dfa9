-- `is_listed`: in each arm the command is the row's number; in the last, no row's.
use Prim.{Unit}
use mathlib.Core.Bool.{true}
use Rattle.numbers.specs.Rows.{lookup}
use Rattle.numbers.proofs.Miss.{miss}
use Rattle.listed.specs.Listed.{listed_rows, listed}
use Rattle.listed.proofs.is_listed.Goals as goal

pub returns-in-1 : goal.returns-in-1
unfolding listed lookup
returns-in-1 c = rw c.in-1.is c.driver_output.ensures

pub returns-in-3 : goal.returns-in-3
unfolding listed lookup
returns-in-3 c = rw c.in-3.is c.gate_code_is_listed.ensures

pub returns-in-4 : goal.returns-in-4
unfolding listed lookup
returns-in-4 c = rw c.in-4.is c.sources.ensures

pub returns-in-17 : goal.returns-in-17
unfolding listed lookup
returns-in-17 c = rw c.in-17.is c.entry.ensures

pub returns-in-24 : goal.returns-in-24
unfolding listed lookup
returns-in-24 c = rw c.in-24.is

pub returns-in-26 : goal.returns-in-26
unfolding listed lookup
returns-in-26 c = rw c.in-26.is c.temperature.ensures

pub returns-in-33 : goal.returns-in-33
unfolding listed lookup
returns-in-33 c = rw c.in-33.is c.update_control_1.ensures

pub returns-in-41 : goal.returns-in-41
unfolding listed lookup
returns-in-41 c = rw c.in-41.is c.vcom_sense.ensures

pub returns-in-44 : goal.returns-in-44
unfolding listed lookup
returns-in-44 c = rw (c.in-44.is, c.is_some.ensures, c.vcom_millivolts.ensures)

pub returns-in-50 : goal.returns-in-50
unfolding listed lookup
returns-in-50 c = rw c.in-50.is c.waveform_byte.ensures

pub returns-in-60 : goal.returns-in-60
unfolding listed lookup
returns-in-60 c = rw c.in-60.is c.border.ensures

pub returns-in-65 : goal.returns-in-65
unfolding listed lookup
returns-in-65 c = rw c.in-65.is c.read_ram.ensures

pub returns-in-68 : goal.returns-in-68
unfolding listed lookup
returns-in-68 c = rw c.in-68.is c.window_byte.ensures

pub returns-in-69 : goal.returns-in-69
unfolding listed lookup
returns-in-69 c = rw c.in-69.is c.window_byte-in-69.ensures

pub returns-in-70 : goal.returns-in-70
unfolding listed lookup
returns-in-70 c = rw c.in-70.is c.auto_write.ensures

pub returns-in-71 : goal.returns-in-71
unfolding listed lookup
returns-in-71 c = rw c.in-71.is c.auto_write-in-71.ensures

pub returns-in_default : goal.returns-in_default
unfolding listed
returns-in_default c =
    let start = c.args in
    (miss true start.command (listed_rows start.regs start.index start.byte) Unit c.in_default.in_default-own.rest).1
