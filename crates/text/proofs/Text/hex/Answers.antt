-- `text::Text::hex` meets its contract: after i turns the first i bytes are written.
use mathlib.Core.Path.{refl}
use native.Mathlib.Omega.{arith}
use Rattle.text.specs.Text.{written, hex_of}
use Rattle.text.proofs.Laws.{hex_step}
use Rattle.text.proofs.Text.hex.Goals as goal

pub loop-byte-init : goal.loop-byte-init
unfolding written hex_of
loop-byte-init c = refl

pub loop-byte-preserved : goal.loop-byte-preserved
loop-byte-preserved c =
    let l = c.loop-byte in
    let s = c.args in
    hex_step s.self.now s.bytes.now l.byte-index (omega arith) l.invariant c.hex_byte.ensures
