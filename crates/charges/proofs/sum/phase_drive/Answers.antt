-- `charges::sum::phase_drive` meets its contract: neither product leaves 64 bits.
use mathlib.Core.Path.{◌≡◌}
use native.Mathlib.Omega.{arith}
use lib.IntN.{pos, ◌*ℤ◌}
use mir.Syntax.{w64}
use mir.Val.{to_z}
use Rattle.numbers.proofs.Lin.{rd, back}
use Rattle.waveform.specs.declared.Phase.{Phase}
use Rattle.charges.proofs.Sums.{drive_of}
use Rattle.charges.proofs.Bounds.{size_fits, fits_as, read_back, counted, product_within, drive_within}
use Rattle.charges.proofs.sum.phase_drive.Goals.{After-struct_told-1, Start}
use Rattle.charges.proofs.sum.phase_drive.Goals as goal

abbrev start : After-struct_told-1 → Start
start c = c.before.before.before.before

abbrev phase : After-struct_told-1 → Phase
phase c = (start c).args.phase

-- the two products, of numbers that are read back
first_is : (c : After-struct_told-1) → rd (phase c).millivolts *ℤ to_z w64 (phase c).frames ≡ (phase c).millivolts *ℤ pos (phase c).frames
first_is c =
    let h = (start c).requires in
    λ i. back (size_fits {z = (phase c).millivolts} (omega (arith, h.millivolts_within))) i *ℤ counted (phase c).frames (omega (arith, h.frames_within)) i

second_is : (c : After-struct_told-1) → rd (rd (phase c).millivolts *ℤ to_z w64 (phase c).frames) *ℤ to_z w64 (phase c).frame_ns ≡ drive_of (phase c)
second_is c =
    let h = (start c).requires in
    λ i. read_back (first_is c) (omega (arith, product_within (phase c) h)) i *ℤ counted (phase c).frame_ns (omega (arith, h.period_within)) i

pub overflow_mul-result : goal.overflow_mul-result
overflow_mul-result c = fits_as (first_is c) (omega (arith, product_within (phase c) (start c).requires))

pub overflow_mul-result-2 : goal.overflow_mul-result-2
overflow_mul-result-2 c = fits_as (second_is c) (omega (arith, drive_within (phase c) (start c).requires))

pub returns : goal.returns
returns c = read_back (second_is c) (omega (arith, drive_within (phase c) (start c).requires))
