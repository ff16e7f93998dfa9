use Rattle.std.proofs.Common.{◌≡◌, take}
use Rattle.text.specs.Text.{written, hex_of}
use Rattle.text.proofs.Text.hex.Given as goal

abbrev pub invariant-loop-byte : goal.invariant-loop-byte
invariant-loop-byte l = l.self ≡ written l.initial.self (hex_of (take l.byte-index l.bytes))
