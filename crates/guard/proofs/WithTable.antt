-- 12 stands after 13, 11 and 15: what a call lent no table answers decides, unless it is accepted. Assumes nothing.
use Rattle.std.specs.Prelude.{Result, Ok, Err}
use Prim.Native.Nat.{ℕ}
use mathlib.Core.Path.{◌≡◌}
use mathlib.Core.Bool.{Bool, true, false, not}
use mathlib.Core.List.{List}
use Rattle.numbers.specs.Choice.{pick}
use Rattle.otp.specs.Table.{bad_table}
use Rattle.device.specs.declared.Ssd1677.{Ssd1677}
use Rattle.guard_lengths.specs.declared.Lengths.{Lengths}
use Rattle.guard.specs.declared.Refusal.{Refusal}
use Rattle.guard.specs.declared.Refusal.TheVariants.{Buffer, Table, State, Counts}
use Rattle.guard_state.specs.State.{state_fine}
use Rattle.guard_lengths.specs.Lengths.{lengths_fit, counts_fit}
use Rattle.guard.specs.Refusals.{guarded, guarded_with_table}

abbrev three : Bool → Bool → Bool → Result Unit Refusal
three a b k = pick (not a) (Err State) (pick (not b) (Err Buffer) (pick (not k) (Err Counts) (Ok tt)))

abbrev four : Bool → Bool → Bool → Bool → Result Unit Refusal
four a b k c = pick (not a) (Err State) (pick (not b) (Err Buffer) (pick (not k) (Err Counts) (pick c (Err Table) (Ok tt))))

stays : (a b k c : Bool) (r : Refusal) → Err r ≡ three a b k → Err r ≡ four a b k c
stays true true true c r e = cc
stays true true false c r e = e
stays true false k c r e = e
stays false b k c r e = e

goes_on : (a b k c : Bool) (x : Result Unit Refusal) → Ok tt ≡ three a b k → x ≡ pick c (Err Table) (Ok tt) → x ≡ four a b k c
goes_on true true true c x e f = f
goes_on true true false c x e f = cc
goes_on true false k c x e f = cc
goes_on false b k c x e f = cc

module _ (d : Ssd1677) (l : Lengths) (otp : List ℕ) where
  pub refused_before : (r : Refusal) → Err r ≡ guarded d l → Err r ≡ guarded_with_table d l otp
  unfolding guarded guarded_with_table
  refused_before r e = stays (state_fine d) (lengths_fit d.config.panel l) (counts_fit l) (bad_table otp) r e

  pub table_decides : (x : Result Unit Refusal) → Ok tt ≡ guarded d l → x ≡ pick (bad_table otp) (Err Table) (Ok tt) → x ≡ guarded_with_table d l otp
  unfolding guarded guarded_with_table
  table_decides x e f = goes_on (state_fine d) (lengths_fit d.config.panel l) (counts_fit l) (bad_table otp) x e f
