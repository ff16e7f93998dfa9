-- `sheet_text::lines::put_luts` meets its contract: a blank and four digits for each LUT.
use mathlib.Core.Path.{◌≡◌, ap, ◌∙◌}
use Prim.Native.Nat.{ℕ}
use native.Mathlib.Omega.{arith}
use Rattle.waveform.specs.declared.GroupCodes.{GroupCodes}
use mathlib.Core.List.{List, ◌∷◌, []}
use Rattle.waveform.specs.Phases.{joined}
use Rattle.column.specs.Columns.{gathered}
use Rattle.column.proofs.Gathered.{after}
use Rattle.listing.proofs.Joined.{joined_none, joined_more}
use Rattle.sheet_text.specs.Text.{digits_text, codes_text, text_bytes}
use Rattle.sheet_text.proofs.lines.put_luts.Goals as goal

codes_of : (g : GroupCodes) (lut : ℕ) (t : List ℕ) {u v : List ℕ} → u ≡ gathered text_bytes t (32 ∷ []) → v ≡ gathered text_bytes u (digits_text g lut)
    → v ≡ gathered text_bytes t (codes_text g lut)
unfolding codes_text
codes_of g lut t e f = after text_bytes _ _ _ e f

pub loop-lut-init : goal.loop-lut-init
loop-lut-init c = joined_none text_bytes c.args.text.now _

pub loop-lut-preserved : goal.loop-lut-preserved
loop-lut-preserved c =
    let g = c.args.group in
    joined_more text_bytes c.args.text.now (codes_text g) c.loop-lut.lut c.loop-lut.invariant (codes_of g c.loop-lut.lut c.loop-lut.text c.put.ensures c.put_codes.ensures)

pub returns : goal.returns
returns c =
    let e : c.loop-lut.lut ≡ 5 = omega arith in
    c.loop-lut.invariant ∙ ap (λ (n : ℕ). gathered text_bytes c.args.text.now (joined n (codes_text c.args.group))) e
