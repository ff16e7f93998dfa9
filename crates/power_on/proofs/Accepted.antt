-- What an accepted start has found, and what it leaves. Assumes nothing.
use Prim.Native.Nat.{ℕ, ◌≤◌, ◌<◌, ◌^◌}
use mathlib.Core.Path.{◌≡◌, sym, ap, subst, ◌∙◌}
use mathlib.Core.Bool.{true}
use mathlib.Core.List.{List, [], ◌∷◌}
use native.Mathlib.Nat.{mul-le-mul}
use native.Mathlib.Omega.{arith}
use lib.ListN.{length}
use borrow.Author.Tests.{eqb-true, not-false}
use Rattle.config.specs.declared.Ssd1677Config.{Ssd1677Config}
use Rattle.config.specs.Answer.{Answer, is_accepted, first_of}
use Rattle.otp.specs.Table.{start_tests}
use Rattle.gates_laws.specs.OneToOne.{Scanned}
use Rattle.guard_lengths.specs.declared.Lengths.{Lengths}
use Rattle.guard_lengths.specs.Lengths.{lengths_fit, counts_fit}
use Rattle.guard_laws.proofs.Accepted.{none_refuses, FinePanel, fine_panel, FineLengths, fine_lengths, some_ticks}
use Rattle.guard_laws.proofs.Started.{both, started_panel, started_swing, started_frequency}
use Rattle.power_on.specs.Start.{Buffers, lengths_in, buffer_test, counts_test, all_tests, powered_up, started}

-- ---- every test is passed
module _ (c : Ssd1677Config) (otp : List ℕ) (l : Lengths) (passes : is_accepted (first_of (all_tests c otp l)) ≡ true) where
  each : (is_accepted (first_of (start_tests c otp)) ≡ true) × (is_accepted (first_of (buffer_test c.panel l ∷ counts_test l ∷ [])) ≡ true)
  each = both (start_tests c otp) (buffer_test c.panel l ∷ counts_test l ∷ []) passes

  pub parameters : is_accepted (first_of (start_tests c otp)) ≡ true
  parameters = each.0

  pub full_swing : 1 ≤ c.optics.full_swing
  full_swing = started_swing c otp parameters

  pub some_cycles : 0 < c.frequency
  some_cycles = some_ticks c.frequency (started_frequency c otp parameters)

  fine : FinePanel c.panel
  fine = fine_panel c.panel (started_panel c otp parameters)

  pub scanned : Scanned c.panel.native_scan c.panel.height
  scanned = record { some = fine.height; most = fine.gates; even = fine.even }

  pub lengths : FineLengths c.panel l
  lengths = fine_lengths c.panel l (not-false (lengths_fit c.panel l) (none_refuses (buffer_test c.panel l) (counts_test l ∷ []) each.1).0)

  pub counted : l.counts ≡ 256
  counted =
      eqb-true l.counts 256
      (not-false (counts_fit l) (none_refuses (counts_test l) [] (none_refuses (buffer_test c.panel l) (counts_test l ∷ []) each.1).1).0)

  -- fewer pixels than a u32 counts
  few : l.pixels < 2 ^ 32
  few =
      let wide : c.panel.width ≤ 960 = omega (arith, fine.sources) in
      let most = mul-le-mul {n₂ = 960} {m₂ = 680} wide fine.gates in
      omega (arith, most, lengths.pixels)

-- what the chip is set up with
pub ready : (c : Ssd1677Config) (otp : List ℕ) (b : Buffers) (l : Lengths) (x : Answer) → l ≡ lengths_in b → x ≡ first_of (all_tests c otp l) → is_accepted x ≡ true
    → (1 ≤ c.optics.full_swing) × Scanned c.panel.native_scan c.panel.height × (length b.gates ≡ c.panel.height) × (length b.picture.pixels < 2 ^ 32)
ready c otp b l x is told ok =
    let passes = ap is_accepted (sym told) ∙ ok in (
      full_swing c otp l passes,
      scanned c otp l passes,
      (lengths c otp l passes).gates (length b.gates) (ap (λ (z : Lengths). z.gates) is),
      subst (λ (z : Lengths). z.pixels < 2 ^ 32) is (few c otp l passes),
    )

-- the table of counts and the log of an accepted start
pub ready_arrays : (c : Ssd1677Config) (otp : List ℕ) (b : Buffers) (l : Lengths) (x : Answer) → l ≡ lengths_in b → x ≡ first_of (all_tests c otp l) → is_accepted x ≡ true
    → (length b.picture.counts ≡ 256) × (length b.log ≡ 16384)
ready_arrays c otp b l x is told ok =
    let passes = ap is_accepted (sym told) ∙ ok in (
      ap (λ (z : Lengths). z.counts) (sym is) ∙ counted c otp l passes,
      (lengths c otp l passes).log (length b.log) (ap (λ (z : Lengths). z.log) is),
    )

-- ---- the chip and its buffers at power-on are left
module _ (c : Ssd1677Config) (otp : List ℕ) (b : Buffers) (ok : is_accepted (started c otp b).answer ≡ true) where
  pub passed : is_accepted (first_of (all_tests c otp (lengths_in b))) ≡ true
  unfolding started
  passed = ok

  pub left_is : (started c otp b).left ≡ powered_up c b
  unfolding started
  left_is = rw ok
