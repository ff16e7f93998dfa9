-- What a call that is accepted has: what its callees ask. Assumes nothing.
use Rattle.std.specs.Prelude.{Option, Some, Ok}
use Prim.Native.Nat.{ℕ, ◌≤◌, ◌<◌, ◌^◌}
use mathlib.Core.Path.{◌≡◌, sym, ◌∙◌}
use mathlib.Core.Bool.{true}
use mathlib.Core.List.{List}
use native.Mathlib.Nat.{mul-le-mul}
use native.Mathlib.Omega.{arith}
use lib.IntN.{ℤ}
use lib.ListN.{length}
use Rattle.clock.specs.Advance.{Ready}
use Rattle.device.specs.declared.Ssd1677.{Ssd1677}
use Rattle.guard_lengths.specs.declared.Lengths.{Lengths}
use Rattle.guard_lengths.specs.Lengths.{lengths_fit, lengths_of}
use Rattle.guard_state.specs.State.{state_fine}
use Rattle.guard.specs.Refusals.{guarded, guarded_with_table}
use Rattle.guard_laws.proofs.Accepted.{accepted_state, accepted_lengths, accepted_counts, table_state, table_lengths, table_counts, fine_state, fine_lengths}

module _ (d : Ssd1677) (states : List ℤ) (luts pixels counts : List ℕ) (log black red gates : Option ℕ)
    (fine : state_fine d ≡ true)
    (fit : lengths_fit d.config.panel (lengths_of (length states) (length luts) (length pixels) (length counts) log black red gates) ≡ true) where
  abbrev lengths : Lengths
  lengths = lengths_of (length states) (length luts) (length pixels) (length counts) log black red gates

  -- fewer pixels than a u32 counts
  few : length states < 2 ^ 32
  few =
      let f = (fine_state d fine).panel in
      let wide : d.config.panel.width ≤ 960 = omega (arith, f.sources) in
      let most = mul-le-mul {n₂ = 960} {m₂ = 680} wide f.gates in
      omega (arith, most, (fine_lengths d.config.panel lengths fit).states)

  -- what finishing a display asks
  pub ready_fine : length counts ≡ 256 → Ready d states luts pixels counts
  ready_fine counted =
      let f = fine_state d fine in
      let g = fine_lengths d.config.panel lengths fit in
      record {
        luts_long = g.luts ∙ sym g.states;
        pixels_long = g.pixels ∙ sym g.states;
        counts_long = counted;
        few = few;
        some = f.swing;
        lasting = f.periods;
      }

  -- the log has its length
  pub log_fine : (n : ℕ) → log ≡ Some n → n ≡ 16384
  log_fine n e = (fine_lengths d.config.panel lengths fit).log n e

module _ (d : Ssd1677) (l : Lengths) (passes : Ok tt ≡ guarded d l) where
  pub state_passed : state_fine d ≡ true
  state_passed = accepted_state d l (sym passes)

  pub lengths_passed : lengths_fit d.config.panel l ≡ true
  lengths_passed = accepted_lengths d l (sym passes)

  pub counts_passed : l.counts ≡ 256
  counts_passed = accepted_counts d l (sym passes)

module _ (d : Ssd1677) (l : Lengths) (otp : List ℕ) (passes : Ok tt ≡ guarded_with_table d l otp) where
  pub table_state_passed : state_fine d ≡ true
  table_state_passed = table_state d l otp (sym passes)

  pub table_lengths_passed : lengths_fit d.config.panel l ≡ true
  table_lengths_passed = table_lengths d l otp (sym passes)

  pub table_counts_passed : l.counts ≡ 256
  table_counts_passed = table_counts d l otp (sym passes)
