-- `voltage::vcom_millivolts` meets its contract.
use Rattle.std.specs.Prelude.{Some}
use mathlib.Core.Path.{refl, ap, ◌∙◌}
use mathlib.Core.List.{[], ◌∷◌}
use Prim.Native.Nat.{ℕ, ◌+◌, ◌-◌, ◌*◌, ◌/◌}
use native.Mathlib.Omega.{arith}
use lib.IntN.{pos, neg_ℤ, +ℤ_idl}
use mir.Syntax.{w64}
use mir.Val.{SFits}
use Rattle.numbers.proofs.Lin.{whole, rd, ranged, back, sub_out, fits_is}
use Rattle.voltage.specs.Codes.{voltage, below, vcom_zero, vcom_line}
use Rattle.voltage.proofs.Lines.{first_line, next_line}
use Rattle.voltage.proofs.vcom_millivolts.Goals.{In-8-to-160}
use Rattle.voltage.proofs.vcom_millivolts.Goals as goal

pub returns-then-code-ne0 : goal.returns-then-code-ne0
unfolding voltage
returns-then-code-ne0 c =
    let code = c.args.code in
    next_line below vcom_zero (vcom_line ∷ []) code (λ h. omega arith) (next_line below vcom_line [] code (λ h. omega arith) refl)

abbrev size : In-8-to-160 → ℕ
size c = 200 + (c.args.code - 0x08) / 4 * 100

fits : (c : In-8-to-160) → SFits w64 (pos (size c))
fits c = record { sfits = omega arith }

pub overflow_sub-result-in-8-to-160 : goal.overflow_sub-result-in-8-to-160
overflow_sub-result-in-8-to-160 c = fits_is (omega (whole, ranged (fits c), sub_out (pos 0) (rd (pos (size c)))))

pub returns-in-0 : goal.returns-in-0
unfolding voltage
returns-in-0 c = rw c.in-0.is

pub returns-in-8-to-160 : goal.returns-in-8-to-160
returns-in-8-to-160 c =
    let code = c.args.code in
    ap Some (back (overflow_sub-result-in-8-to-160 c) ∙ +ℤ_idl _ ∙ ap neg_ℤ (back (fits c)))
    ∙ next_line below vcom_zero (vcom_line ∷ []) code (λ h. omega arith)
    (first_line below vcom_line [] code (record { from = omega arith; to = omega arith; whole = omega arith }))

pub returns-in_default : goal.returns-in_default
unfolding voltage
returns-in_default c =
    let code = c.args.code in
    next_line below vcom_zero (vcom_line ∷ []) code (λ h. omega arith) (next_line below vcom_line [] code (λ h. omega arith) refl)

pub returns-in_default-2 : goal.returns-in_default-2
unfolding voltage
returns-in_default-2 c =
    let code = c.args.code in
    next_line below vcom_zero (vcom_line ∷ []) code (λ h. omega arith) (next_line below vcom_line [] code (λ h. omega arith) refl)
