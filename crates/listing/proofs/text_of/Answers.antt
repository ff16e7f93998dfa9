-- `listing::text_of` meets its contract.
use mathlib.Core.Path.{◌≡◌, refl, sym, ap, subst, ◌∙◌}
use mathlib.Core.List.{List, []}
use Prim.Native.Nat.{ℕ, ◌≤◌}
use native.Mathlib.Omega.{arith}
use lib.ListN.{length, replicate}
use borrow.Author.Tests.{eq-eqb, ne_eqb}
use Rattle.numbers.proofs.Cases.{took, passed}
use Rattle.waveform.specs.declared.Waveform.{Waveform}
use Rattle.waveform.specs.Setting.{waveform_of}
use Rattle.waveform.specs.Voltages.{AllListable}
use Rattle.waveform_laws.proofs.Decoded.{levels_listable}
use Rattle.column.specs.Columns.{gathered}
use Rattle.column.proofs.Gathered.{all_fits}
use Rattle.listing.specs.Listing.{period, listing_of, not_a_setting, text_of, room}
use Rattle.listing.proofs.Lengths.{listing_length}
use Rattle.listing.proofs.text_of.Goals as goal

-- the text of a setting, and of anything else
text_is : (s : List ℕ) {w : Waveform} → length s ≡ 112 → w ≡ waveform_of s (replicate 16 period) → listing_of w ≡ text_of s
unfolding text_of
text_is s h e = took _ _ _ _ (eq-eqb (length s) 112 h) (ap listing_of e)

not_text : (s : List ℕ) → (length s ≡ 112 → ⊥) → not_a_setting ≡ text_of s
unfolding text_of
not_text s h = passed _ _ _ _ (ne_eqb (length s) 112 h) refl

listable : (s p : List ℕ) {w : Waveform} → w ≡ waveform_of s p → AllListable w.levels
unfolding waveform_of
listable s p e = subst (λ (v : Waveform). AllListable v.levels) (sym e) (levels_listable s)

-- of texts that have room
alone : (s : List ℕ) {g b : List ℕ} → g ≡ [] → b ≡ gathered room g s → length s ≤ room → b ≡ s
alone s e f h = f ∙ ap (λ (g : List ℕ). gathered room g s) e ∙ all_fits room [] s (omega arith)

pub returns-in_default : goal.returns-in_default
returns-in_default c = alone not_a_setting c.new-text.ensures c.put_text.ensures (omega arith) ∙ not_text c.args.setting.now (search c.in_default.ensures)

pub put_listing-requires : goal.put_listing-requires
put_listing-requires c = listable _ (replicate 16 period) c.from_setting-waveform.ensures

whole : (p : List ℕ) {s t : List ℕ} → t ≡ s → waveform_of t p ≡ waveform_of s p
whole p e = ap (λ (l : List ℕ). waveform_of l p) e

pub returns : goal.returns
returns c =
    alone (listing_of c.from_setting-waveform.result) c.new-text.ensures c.put_listing.ensures (listing_length _)
    ∙ text_is c.args.setting.now (search c.in-Ok.ensures) (c.from_setting-waveform.ensures ∙ whole (replicate 16 period) (search c.in-Ok.ensures))
