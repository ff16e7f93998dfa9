-- `setting::spread` meets its contract, by a test over all 256 bytes. Assumes nothing.
use mathlib.Core.Path.{◌≡◌, ap, ◌∙◌}
use mathlib.Core.Bool.{Bool}
use Prim.Native.Nat.{ℕ, ◌*◌, ◌/◌, ◌<◌}
use native.Mathlib.Omega.{arith}
use lib.Bits.{bit_and}
use lib.Dec.{eqb, eqb→eq}
use lib.ListN.{replicate}
use Rattle.numbers.proofs.Every.{at}
use Rattle.setting.specs.Word.{codes_in_word}
use Rattle.setting.proofs.spread.Goals as goal

-- the word that the code makes of a byte
made : ℕ → ℕ
made b = bit_and (b * 1074791425 / 64) 50529027

is : ℕ → ℕ → Bool
is b x = eqb (made b) (codes_in_word b)

all_are : (b : ℕ) → b < 256 → made b ≡ codes_in_word b
unfolding made is
all_are b h = eqb→eq (made b) (codes_in_word b) (at is (replicate 256 0) tt b h)

pub returns : goal.returns
unfolding made
returns c = ap made c.from.ensures ∙ all_are c.args.byte (omega arith)
