-- `listing::line::put_drives` meets its contract: a column for each LUT.
use mathlib.Core.Path.{◌≡◌, ap, ◌∙◌}
use Prim.Native.Nat.{ℕ}
use native.Mathlib.Omega.{arith}
use lib.IntN.{ℤ}
use Rattle.numbers.proofs.Lin.{got}
use Rattle.waveform.specs.Phases.{joined}
use Rattle.column.specs.Columns.{whole, gathered}
use Rattle.listing.specs.Listing.{drive_of, drives_of, room}
use Rattle.listing.proofs.Joined.{joined_none, joined_more}
use Rattle.listing.proofs.line.put_drives.Goals as goal

pub loop-lut-init : goal.loop-lut-init
loop-lut-init c = joined_none room c.args.text.now _

pub loop-lut-preserved : goal.loop-lut-preserved
loop-lut-preserved c =
    let s = c.args in
    let l = c.loop-lut in
    joined_more room s.text.now (λ k. whole 7 (drive_of s.levels s.group s.phase k)) l.lut l.invariant
    (c.put_whole.ensures ∙ ap (λ (z : ℤ). gathered room l.text (whole 7 z)) (got c.drive_of.type_inv c.drive_of.ensures))

pub returns : goal.returns
unfolding drives_of
returns c =
    let s = c.args in
    let e : c.loop-lut.lut ≡ 4 = omega arith in
    c.loop-lut.invariant ∙ ap (λ (n : ℕ). gathered room s.text.now (joined n (λ k. whole 7 (drive_of s.levels s.group s.phase k)))) e
