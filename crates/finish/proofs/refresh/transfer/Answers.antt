-- `finish::refresh::transfer` meets its contract. Assumes nothing.
use mathlib.Core.Path.{sym, ap, subst, ◌∙◌}
use lib.IntN.{ℤ, pos}
use lib.Signed.{◌≤ℤ◌}
use Rattle.numbers.proofs.Lin.{field_back}
use Rattle.glass.specs.declared.Transfer.{Transfer}
use Rattle.glass.specs.Transfers.{apply_t}
use Rattle.waveform.specs.Walks.{transfer_of}
use Rattle.finish.specs.Refresh.{waveform_in, transfer_in}
use Rattle.finish.proofs.Moves.{combined_high}
use Rattle.finish.proofs.refresh.transfer.Goals as goal

pub returns : goal.returns
unfolding transfer_in
returns c =
    let told = c in
    let s = told in
    let a = s.args in
    let r = a.refresh in
    let same = field_back r.swing told.struct_told-1.given.1.1.0.1 in
    let some = subst (λ (z : ℤ). pos 1 ≤ℤ z) (sym same) s.requires.1 in record { alike = λ z. c.transfer.ensures.alike z ∙ ap (λ (y : ℤ). apply_t (transfer_of (waveform_in r) a.drive y r.positive_drives_black r.until) z) same; pos_bound = subst (λ (t : Transfer). pos 0 ≤ℤ t.hi) (sym c.transfer.ensures.value) (combined_high (waveform_in r) a.drive _ r.positive_drives_black some r.until) }
