-- `voltage::source_millivolts` meets its contract: the sheet follows the rule, by one test of each figure, which antt computes.
use Rattle.std.specs.Prelude.{ℤ, Option, Some, None}
use mathlib.Core.Path.{◌≡◌, refl, sym, ap, ◌∙◌}
use mathlib.Core.Bool.{Bool, true, false}
use mathlib.Core.List.{List, ◌++◌}
use Prim.Native.Nat.{ℕ, ◌+◌, ◌*◌, ◌<◌}
use native.Mathlib.Omega.{arith}
use lib.Dec.{T, eqb, eqb→eq}
use lib.IntN.{pos, negsuc}
use lib.ListN.{get_or, replicate}
use Rattle.numbers.specs.Lists.{tab}
use Rattle.numbers.proofs.Every.{at}
use Rattle.numbers.proofs.Lin.{got}
use Rattle.voltage.specs.Codes.{voltage, source_voltage}
use Rattle.voltage.proofs.source_millivolts.Goals as goal

same : Option ℕ → Option ℤ → Bool
same (Some m) (Some (pos n)) = eqb m n
same (Some m) (Some (negsuc n)) = false
same (Some m) None = false
same None (Some z) = false
same None None = true

-- what an entry of the sheet says
said : Option ℕ → Option ℤ
said (Some m) = Some (pos m)
said None = None

is_same : (u : Option ℕ) (v : Option ℤ) → T (same u v) → said u ≡ v
unfolding same said
is_same (Some m) (Some (pos n)) t = ap (λ (k : ℕ). Some (pos k)) (eqb→eq m n t)
is_same (Some m) (Some (negsuc n)) t = absurd t
is_same (Some m) None t = absurd t
is_same None (Some z) t = absurd t
is_same None None t = refl

-- the sheet run by run: 00h on no code is listed, 23h on by 200 from 9,000, 4Ch on none, 8Eh on by 100 from 2,400, CFh on none
sheet : List (Option ℕ)
sheet = tab 35 (λ k. None) ++ tab 41 (λ k. Some (9000 + 200 * k)) ++ tab 66 (λ k. None) ++ tab 65 (λ k. Some (2400 + 100 * k)) ++ tab 49 (λ k. None)

right : ℕ → ℕ → Bool
right code x = same (get_or sheet code None) (source_voltage code)

-- the figure of each code follows the rule
follows : (code : ℕ) → code < 256 → said (get_or sheet code None) ≡ source_voltage code
unfolding sheet right same voltage tab
follows code h = is_same (get_or sheet code None) (source_voltage code) (at right (replicate 256 0) tt code h)

pub returns-in_err-millivolts : goal.returns-in_err-millivolts
unfolding sheet tab said
returns-in_err-millivolts c = c.from_residual.ensures ∙ ap said (sym c.in_err-millivolts.was) ∙ follows c.args.code (omega arith)

pub returns : goal.returns
unfolding sheet tab said
returns c =
    ap Some (got c.from.type_inv c.from.ensures)
    ∙ ap said (sym c.in_ok-millivolts.was) ∙ follows c.args.code (omega arith)
