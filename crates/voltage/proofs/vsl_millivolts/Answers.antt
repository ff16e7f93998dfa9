-- `voltage::vsl_millivolts` meets its contract.
use Rattle.std.specs.Prelude.{Some}
use mathlib.Core.Path.{refl, ap, ◌∙◌}
use mathlib.Core.List.{[]}
use Prim.Native.Nat.{ℕ, ◌+◌, ◌-◌, ◌*◌, ◌/◌}
use native.Mathlib.Omega.{arith}
use lib.IntN.{pos, neg_ℤ, +ℤ_idl}
use mir.Syntax.{w64}
use mir.Val.{SFits}
use Rattle.numbers.proofs.Lin.{whole, rd, ranged, back, sub_out, fits_is}
use Rattle.voltage.specs.Codes.{voltage, below, vsl_line}
use Rattle.voltage.proofs.Lines.{first_line, next_line}
use Rattle.voltage.proofs.vsl_millivolts.Goals.{In-26-to-58}
use Rattle.voltage.proofs.vsl_millivolts.Goals as goal

pub returns-then-code-eq1 : goal.returns-then-code-eq1
unfolding voltage
returns-then-code-eq1 c =
    let code = c.args.code in
    next_line below vsl_line [] code (λ h. omega arith) refl

abbrev size : In-26-to-58 → ℕ
size c = 9000 + (c.args.code - 0x1A) / 2 * 500

fits : (c : In-26-to-58) → SFits w64 (pos (size c))
fits c = record { sfits = omega arith }

pub overflow_sub-result-in-26-to-58 : goal.overflow_sub-result-in-26-to-58
overflow_sub-result-in-26-to-58 c = fits_is (omega (whole, ranged (fits c), sub_out (pos 0) (rd (pos (size c)))))

pub returns-in-26-to-58 : goal.returns-in-26-to-58
returns-in-26-to-58 c =
    let code = c.args.code in
    ap Some (back (overflow_sub-result-in-26-to-58 c) ∙ +ℤ_idl _ ∙ ap neg_ℤ (back (fits c)))
    ∙ first_line below vsl_line [] code (record { from = omega arith; to = omega arith; whole = omega arith })

pub returns-in_default : goal.returns-in_default
unfolding voltage
returns-in_default c =
    let code = c.args.code in
    next_line below vsl_line [] code (λ h. omega arith) refl

pub returns-in_default-2 : goal.returns-in_default-2
unfolding voltage
returns-in_default-2 c =
    let code = c.args.code in
    next_line below vsl_line [] code (λ h. omega arith) refl
