-- `read_register::status_byte`: each flag in a bit of its own.
use Rattle.std.specs.Prelude.{Some}
use mathlib.Core.Path.{◌≡◌, ap}
use mathlib.Core.List.{[], ◌∷◌}
use native.Mathlib.Omega.{arith}
use Rattle.read_register.proofs.Bytes.{past, joined}
use Rattle.registers.specs.Read.{status_byte}
use Rattle.read_register.proofs.status_byte.Goals as goal

pub returns-then-index-eq0 : goal.returns-then-index-eq0
returns-then-index-eq0 c =
    let first : c.args.index ≡ 0 = c.if-index-eq0.true in
    rw first
    (ap Some
    (rw (c.flag-hv_not_ready.ensures, c.flag-vci_low.ensures, c.flag-operating.ensures)
    (joined c.args.status.hv_not_ready c.args.status.vci_low c.args.busy)))

pub returns : goal.returns
returns c =
    let later : c.args.index ≡ 0 → ⊥ = c.if-index-eq0.false in
    past 1 (status_byte c.args.status c.args.busy ∷ []) c.args.index (omega (arith, later))
