-- `read_register::display_option`: the eleven bytes, one of another register among them.
use mathlib.Core.Path.{◌≡◌, refl}
use native.Mathlib.Omega.{arith}
use Rattle.read_register.proofs.Bytes.{here, past, option_later}
use Rattle.registers.specs.Read.{option_bytes}
use Rattle.read_register.proofs.display_option.Goals as goal

pub returns-then-index-eq0 : goal.returns-then-index-eq0
returns-then-index-eq0 c =
    rw c.if-index-eq0.true (here 11 (option_bytes c.args.regs) 0 _ (omega arith) refl)

pub returns-then-index-eq1 : goal.returns-then-index-eq1
returns-then-index-eq1 c =
    rw c.if-index-eq1.true (here 11 (option_bytes c.args.regs) 1 _ (omega arith) refl)

pub returns-then-index-lt11 : goal.returns-then-index-lt11
returns-then-index-lt11 c =
    let second : c.args.index ≡ 0 → ⊥ = c.if-index-eq0.false in
    let third : c.args.index ≡ 1 → ⊥ = c.if-index-eq1.false in
    here 11 (option_bytes c.args.regs) c.args.index _ (omega arith)
    (option_later c.args.regs.display_option _ _ c.args.index (omega (arith, second, third)))

pub returns : goal.returns
returns c = past 11 (option_bytes c.args.regs) c.args.index (omega arith)
