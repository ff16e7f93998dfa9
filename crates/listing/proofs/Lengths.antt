-- How long a listing is: at most 40 lines of 52 bytes and one of 21. Assumes nothing.
use mathlib.Core.Path.{◌≡◌}
use mathlib.Core.Bool.{Bool, true, false}
use mathlib.Core.List.{[]}
use Prim.Native.Nat.{ℕ, ◌≤◌}
use native.Mathlib.Omega.{arith}
use lib.Dec.{eqb}
use lib.ListN.{length, length-append, get_or}
use Rattle.numbers.specs.Choice.{pick}
use Rattle.waveform.specs.declared.Group.{Group}
use Rattle.waveform.specs.declared.Levels.{Levels}
use Rattle.waveform.specs.declared.Waveform.{Waveform}
use Rattle.waveform.specs.Phases.{no_group}
use Rattle.column.specs.Columns.{whole}
use Rattle.column.proofs.Symbols.{column_length}
use Rattle.listing.specs.Listing.{drive_of, drives_of, head_of, line_of, phase_text, group_text, lines_of, listing_of}
use Rattle.listing.proofs.Joined.{joined_length}

module _ (levels : Levels) (group : Group) (number phase : ℕ) where
  drives_length : length (drives_of levels group phase) ≤ 28
  unfolding drives_of
  drives_length = joined_length 7 (λ lut. whole 7 (drive_of levels group phase lut)) (λ i. omega (arith, column_length)) 4

  head_length : length (head_of group number phase) ≡ 23
  unfolding head_of
  head_length = simp (length-append, column_length)

  line_length : length (line_of levels group number phase) ≤ 52
  unfolding line_of
  line_length = simp length-append (omega (arith, head_length, drives_length))

  phase_length : length (phase_text levels group number phase) ≤ 52
  unfolding phase_text
  phase_length = by (eqb (get_or group.frames phase 0) 0)
    where
      by : (b : Bool) → length (pick b [] (line_of levels group number phase)) ≤ 52
      by true = omega arith
      by false = line_length

module _ (w : Waveform) where
  group_length : (number : ℕ) → length (group_text w.levels (get_or w.groups number no_group) number) ≤ 208
  unfolding group_text
  group_length number = let g = get_or w.groups number no_group in joined_length 52 (phase_text w.levels g number) (phase_length w.levels g number) 4

  lines_length : length (lines_of w) ≤ 2080
  unfolding lines_of
  lines_length = joined_length 208 (λ number. group_text w.levels (get_or w.groups number no_group) number) group_length 10

  pub listing_length : length (listing_of w) ≤ 2101
  unfolding listing_of
  listing_length = simp (length-append, column_length) (omega (arith, lines_length))
