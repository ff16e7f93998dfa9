-- `combine::transfer` meets its contract. Assumes nothing.
use Rattle.std.specs.Prelude.{ℕ, Option}
use mathlib.Core.Path.{sym, ap, subst, ◌∙◌}
use lib.IntN.{ℤ, pos}
use lib.Signed.{◌≤ℤ◌}
use Rattle.numbers.proofs.Lin.{back}
use Rattle.glass.specs.declared.Transfer.{Transfer}
use Rattle.glass.specs.Transfers.{apply_t}
use Rattle.waveform.specs.declared.Waveform.{Waveform}
use Rattle.waveform.specs.Setting.{waveform_of}
use Rattle.waveform.specs.Walks.{Walkable, whole_of, cut_of, transfer_of}
use Rattle.combine.specs.Settled.{settled, combined_of}
use Rattle.combine.proofs.transfer.Goals as goal

pub transfer_whole-requires : goal.transfer_whole-requires
transfer_whole-requires c =
    let s = c in
    (s.requires.0, subst (λ (z : ℤ). pos 1 ≤ℤ z) (sym (back s.ranges.swing)) s.requires.1)

pub transfer_cut-requires : goal.transfer_cut-requires
transfer_cut-requires c =
    let s = c in
    subst (λ (w : Waveform). Walkable w s.args.drive) (sym c.from_setting-decoded.ensures) s.requires.0

pub returns-in-None : goal.returns-in-None
returns-in-None c =
    let s = c in
    let a = s.args in
    let decoded = waveform_of a.setting.now a.frame_period.now in
    let black = a.positive_drives_black in
    let swing = back s.ranges.swing in
    let whole = c.in-None.is in record { value = c.transfer_whole.ensures.value ∙ ap (λ (z : ℤ). settled (whole_of decoded a.drive z black)) swing ∙ sym (ap (combined_of decoded a.drive a.swing black) whole); alike = λ z. c.transfer_whole.ensures.alike z ∙ ap (λ (y : ℤ). apply_t (whole_of decoded a.drive y black) z) swing ∙ sym (ap (λ (u : Option ℕ). apply_t (transfer_of decoded a.drive a.swing black u) z) whole) }

pub returns-in-Some : goal.returns-in-Some
returns-in-Some c =
    let call = c in
    let s = call in
    let a = s.args in
    let decoded = waveform_of a.setting.now a.frame_period.now in
    let black = a.positive_drives_black in
    let known = call.in-Some in
    let e =
    c.transfer_cut.ensures
    ∙ (λ i. cut_of (c.from_setting-decoded.ensures i) a.drive (back s.ranges.swing i) black known.cut) in record { value = e ∙ sym (ap (combined_of decoded a.drive a.swing black) known.is); alike = λ z. ap (λ (t : Transfer). apply_t t z) (e ∙ sym (ap (transfer_of decoded a.drive a.swing black) known.is)) }
