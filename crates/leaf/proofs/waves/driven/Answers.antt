-- `leaf::waves::driven` is safe: its waveform is one that the walks take, since every period was tested, and so was the swing of what
-- is combined.
use Rattle.std.proofs.Common.{pos}
use Rattle.numbers.proofs.Lin.{rd, le_in, le_true}
use Rattle.waveform_laws.proofs.Decoded.{walkable, decoded_walkable}
use Rattle.leaf.proofs.waves.driven.Goals as goal

pub transfer-walked-requires : goal.transfer-walked-requires
transfer-walked-requires c =
    let tested = c in
    let s = tested in
    decoded_walkable _ _ _ c.from_setting-waveform.ensures (tested.lasting.ensures.code_nonzero tested.if-lasting.true) s.requires

pub transfer-transfer-requires : goal.transfer-transfer-requires
transfer-transfer-requires c =
    let tested = c in
    let signed = tested in
    let swing = rd signed.signed-swing.result in (
      walkable _ _ _ (tested.lasting.ensures.code_nonzero tested.if-lasting.true) signed.requires,
      le_in (pos 1) swing (le_true (pos 1) swing c.if-swing-ge1.true),
    )
