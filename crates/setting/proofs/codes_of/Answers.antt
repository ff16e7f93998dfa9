-- `setting::codes_of` meets its contract. Assumes nothing.
use mathlib.Core.Path.{◌≡◌, refl, ap, ◌∙◌}
use mathlib.Core.List.{List, ◌∷◌}
use Prim.Native.Nat.{ℕ, ◌+◌, ◌*◌, ◌/◌, ◌%◌, ◌<◌}
use native.Mathlib.Omega.{arith}
use lib.ListN.{get_or}
use Rattle.numbers.specs.Lists.{tab}
use Rattle.waveform.specs.Setting.{code_in, codes_of}
use Rattle.setting.specs.Word.{codes_in_word}
use Rattle.setting.proofs.codes_of.Goals as goal

-- the bytes of a word
digits : (w a b c d : ℕ) → a < 4 → b < 4 → c < 4 → d < 4 → w ≡ a + 256 * b + 65536 * c + 16777216 * d
    → (w % 256 ≡ a) × (w / 256 % 256 ≡ b) × (w / 65536 % 256 ≡ c) × (w / 16777216 % 256 ≡ d)
digits w a b c d ha hb hc hd e =
    let second : w / 256 ≡ b + 256 * c + 65536 * d = omega arith in
    let third : w / 65536 ≡ c + 256 * d = omega arith in
    let fourth : w / 16777216 ≡ d = omega arith in (
      omega arith,
      ap (λ (n : ℕ). n % 256) second ∙ omega arith,
      ap (λ (n : ℕ). n % 256) third ∙ omega arith,
      ap (λ (n : ℕ). n % 256) fourth ∙ omega arith,
    )

-- the four codes of a byte, taken out of their word, before others
codes : {w : ℕ} (byte : ℕ) {others rest : List ℕ} → w ≡ codes_in_word byte → others ≡ rest
    → w % 256 ∷ w / 256 % 256 ∷ w / 65536 % 256 ∷ w / 16777216 % 256 ∷ others ≡ code_in byte 0 ∷ code_in byte 1 ∷ code_in byte 2 ∷ code_in byte 3 ∷ rest
codes {w} byte e rest =
    let f = digits w (code_in byte 0) (code_in byte 1) (code_in byte 2) (code_in byte 3) (omega arith) (omega arith) (omega arith) (omega arith) e in
    λ i. f.0 i ∷ f.1 i ∷ f.2 i ∷ f.3 i ∷ rest i

pub returns : goal.returns
unfolding codes_of tab
returns c =
    let four = c.before.before.before in
    let three = four.before.before in
    let two = three.before.before in
    let one = two.before.before in
    let a = one.args in
    let s = a.setting.now in
    let g = a.group in
    let first : g ≡ 0 + g = omega arith in
    codes (get_or s (0 + g) 0) (one.spread-lut0.ensures ∙ ap (λ (n : ℕ). codes_in_word (get_or s n 0)) first)
    (codes (get_or s (10 + g) 0) two.spread-lut1.ensures
    (codes (get_or s (20 + g) 0) three.spread-lut2.ensures
    (codes (get_or s (30 + g) 0) four.spread-lut3.ensures
    (codes (get_or s (40 + g) 0) c.spread-lut4.ensures refl))))
