-- `pgm::header::text_of` meets its contract: five texts, one after the other.
use mathlib.Core.Path.{ap, ◌∙◌}
use mathlib.Core.List.{List, []}
use Prim.Native.Nat.{ℕ}
use native.Mathlib.Omega.{arith}
use Rattle.column.specs.Columns.{gathered}
use Rattle.column.proofs.Gathered.{after, all_fits}
use Rattle.pgm.specs.Form.{pgm_header, header_bytes}
use Rattle.pgm.proofs.Headers.{header_few}
use Rattle.pgm.proofs.header.text_of.Goals as goal

pub returns : goal.returns
unfolding pgm_header
returns c =
    let s = c.args in
    after header_bytes _ _ _
    (after header_bytes _ _ _ c.put_text.ensures
    (after header_bytes _ _ _ (after header_bytes _ _ _ c.put_decimal.ensures c.put.ensures) c.put_decimal-2.ensures))
    c.put_text-2.ensures
    ∙ ap (λ (g : List ℕ). gathered header_bytes g (pgm_header s.width s.height)) c.new-header.ensures
    ∙ all_fits header_bytes [] (pgm_header s.width s.height) (omega (arith, header_few s.width s.height))
