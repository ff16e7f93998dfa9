-- `store`: in each arm the command is one that writes a register; in the last, none.
use borrow.Author.Tests.{lt-ltb}
use lib.Bits.{and_mask}
use mathlib.Core.Path.{◌∙◌}
use Prim.Native.Nat.{◌+◌, min}
use native.Mathlib.Omega.{arith}
use Rattle.numbers.specs.Choice.{bit_of}
use Rattle.numbers.proofs.Fields.{test_bit}
use Rattle.registers.specs.Store.{stored}
use Rattle.store.proofs.Unwritten.{unwritten}
use Rattle.store.proofs.store.Goals as goal

pub returns-in-1 : goal.returns-in-1
unfolding stored
returns-in-1 c = rw (c.in-1.is, c.mux.ensures, c.gate_scan.ensures)

pub returns-in-3 : goal.returns-in-3
unfolding stored
returns-in-3 c = rw c.in-3.is c.waveform_byte.ensures

pub returns-in-4 : goal.returns-in-4
unfolding stored
returns-in-4 c =
    rw c.in-4.is
    (c.waveform_byte-in-4.ensures
    ∙ rw (c.min.ensures, lt-ltb (106 + min c.args.index 2) 112 (omega arith)))

pub returns-in-17 : goal.returns-in-17
unfolding stored
returns-in-17 c = rw (c.in-17.is, and_mask c.args.byte 3)

pub returns-in-24 : goal.returns-in-24
unfolding stored
returns-in-24 c = rw c.in-24.is

pub returns-in-26 : goal.returns-in-26
unfolding stored
returns-in-26 c = rw (c.in-26.is, c.temperature.ensures)

pub returns-in-33 : goal.returns-in-33
unfolding stored
returns-in-33 c = rw (c.in-33.is, c.two_bytes.ensures)

pub returns-in-34 : goal.returns-in-34
unfolding stored
returns-in-34 c = rw c.in-34.is

pub returns-in-41 : goal.returns-in-41
unfolding stored
returns-in-41 c = rw c.in-41.is

pub returns-in-44 : goal.returns-in-44
unfolding stored
returns-in-44 c = rw c.in-44.is c.waveform_byte-in-44.ensures

pub returns-in-50 : goal.returns-in-50
unfolding stored
returns-in-50 c = rw c.in-50.is c.waveform_byte-in-50.ensures

pub returns-in-55 : goal.returns-in-55
unfolding stored
returns-in-55 c = rw (c.in-55.is, c.ten_bytes.ensures)

pub returns-in-56 : goal.returns-in-56
unfolding stored
returns-in-56 c = rw (c.in-56.is, c.ten_bytes-in-56.ensures)

pub returns-in-60 : goal.returns-in-60
unfolding stored
returns-in-60 c = rw c.in-60.is

pub returns-in-65 : goal.returns-in-65
unfolding stored bit_of
returns-in-65 c = rw (c.in-65.is, test_bit 0 c.args.byte)

pub returns-in-68 : goal.returns-in-68
unfolding stored
returns-in-68 c = rw (c.in-68.is, c.start.ensures, c.end.ensures)

pub returns-in-69 : goal.returns-in-69
unfolding stored
returns-in-69 c = rw (c.in-69.is, c.start-in-69.ensures, c.end-in-69.ensures)

pub returns-in-78 : goal.returns-in-78
unfolding stored
returns-in-78 c = rw (c.in-78.is, c.ten_bits.ensures)

pub returns-in-79 : goal.returns-in-79
unfolding stored
returns-in-79 c = rw (c.in-79.is, c.ten_bits-in-79.ensures)

pub returns-in_default : goal.returns-in_default
returns-in_default c = unwritten c.args.regs c.args.command c.args.index c.args.byte c.in_default.in_default-own.rest
