-- `finish::refresh::transfers` meets its contract. Assumes nothing.
use mathlib.Core.List.{[], ◌∷◌}
use native.Mathlib.Omega.{arith}
use lib.IntN.{pos}
use lib.Signed.{◌≤ℤ◌}
use Rattle.waveform.specs.declared.Drive.TheVariants.{Lut}
use Rattle.combine.specs.Settled.{Alike}
use Rattle.finish.specs.Refresh.{transfer_in, in_table}
use Rattle.finish.proofs.Moves.{four}
use Rattle.finish.proofs.refresh.transfers.Goals as goal

pub transfer-lut0-requires : goal.transfer-lut0-requires
transfer-lut0-requires c = (c.requires.walkable _ (omega arith), c.requires.some)

pub transfer-lut1-requires : goal.transfer-lut1-requires
transfer-lut1-requires c = (c.requires.walkable _ (omega arith), c.requires.some)

pub transfer-lut2-requires : goal.transfer-lut2-requires
transfer-lut2-requires c = (c.requires.walkable _ (omega arith), c.requires.some)

pub transfer-lut3-requires : goal.transfer-lut3-requires
transfer-lut3-requires c = (c.requires.walkable _ (omega arith), c.requires.some)

pub returns : goal.returns
returns c =
    let one = c in
    let two = c in
    let three = c in
    let made = one.transfer-lut0.result ∷ two.transfer-lut1.result ∷ three.transfer-lut2.result ∷ c.transfer-lut3.result ∷ [] in record { four_alike = four (λ k. Alike (in_table made k) (transfer_in one.args.refresh (Lut k))) one.transfer-lut0.ensures.alike two.transfer-lut1.ensures.alike three.transfer-lut2.ensures.alike c.transfer-lut3.ensures.alike; movable = four (λ k. pos 0 ≤ℤ (in_table made k).hi) one.transfer-lut0.ensures.pos_bound two.transfer-lut1.ensures.pos_bound three.transfer-lut2.ensures.pos_bound c.transfer-lut3.ensures.pos_bound }
