-- `driver_output`: MUX is one less than the lines; SM and GD are the bits that the mask leaves out.
use mathlib.Core.Bool.{◌&&◌}
use Prim.Native.Nat.{ℕ, ◌%◌}
use lib.Dec.{eqb, ltb}
use lib.Bits.{bit_and}
use borrow.Author.Tests.{eq-eqb, ne_eqb}
use native.Mathlib.Omega.{arith}
use Rattle.listed.proofs.Masks.{agree, up}
use Rattle.listed.proofs.driver_output.Goals as goal

pub returns-then-index-eq0 : goal.returns-then-index-eq0
returns-then-index-eq0 c = rw (eq-eqb c.args.index 0 c.if-index-eq0.true)

pub returns-then-index-eq1 : goal.returns-then-index-eq1
returns-then-index-eq1 c =
    let start = c.args in
    rw (
      ne_eqb start.index 0 c.if-index-eq0.false,
      eq-eqb start.index 1 c.if-index-eq1.true,
      c.two_bits.ensures,
      up 299 start.mux,
      up start.mux 679,
    )

pub returns : goal.returns
returns c =
    let start = c.args in
    rw (ne_eqb start.index 0 c.if-index-eq0.false, ne_eqb start.index 1 c.if-index-eq1.false)
    (agree (λ (b : ℕ). eqb (bit_and b 0xF9) 0) (λ (b : ℕ). eqb (b % 2) 0 && ltb b 8) tt start.byte (omega arith))
