-- `otp::find_waveform` meets its contract: the part is the entry found, and the place its number.
use Rattle.std.specs.Prelude.{Some}
use mathlib.Core.Path.{◌≡◌, sym, ap, ◌∙◌}
use Prim.Native.Nat.{◌+◌, ◌-◌, ◌*◌, ◌<◌}
use native.Mathlib.Omega.{arith}
use Rattle.otp.specs.Table.{entry_count}
use Rattle.otp.specs.Waveform.{found_entry, part_of, place_of}
use Rattle.otp.proofs.Found.{found_is, found_few}
use Rattle.otp.proofs.find_waveform.Goals.{In-Some}
use Rattle.otp.proofs.find_waveform.Goals as goal

pub returns-in_default : goal.returns-in_default
returns-in_default c =
    let s = c in
    let e = sym c.in_default.is ∙ c.find_entry.ensures in
    (ap (part_of s.args.otp.now) e, ap place_of e)

-- what `find_entry` found
told : (c : In-Some)
    → let s = c in found_entry s.args.otp.now s.args.mode s.args.register ≡ Some c.in-Some.entry
told c = sym c.find_entry.ensures ∙ c.in-Some.is

-- the entry found is one of the table's
within : (c : In-Some) → c.in-Some.entry < entry_count c.args.otp.now
within c =
    let s = c in
    (found_is s.args.otp.now s.args.mode s.args.register _ (told c)).within

pub overflow_cast-place : goal.overflow_cast-place
overflow_cast-place c =
    let s = c in
    let few = found_few s.args.otp.now s.args.mode s.args.register _ (told c) in
    omega arith

pub overflow_mul-at : goal.overflow_mul-at
overflow_mul-at c = let h = within c in omega arith

pub overflow_add-end : goal.overflow_add-end
overflow_add-end c = let h = within c in omega arith

pub slice_bounds-result-end-2 : goal.slice_bounds-result-end-2
slice_bounds-result-end-2 c = let h = within c in omega arith

pub returns : goal.returns
returns c =
    let s = c in
    let entry = c.in-Some.entry in
    let e : 118 * entry + 118 - 118 * entry ≡ 118 = omega arith in
    let found = sym c.in-Some.is ∙ c.find_entry.ensures in
    (rw e (ap (part_of s.args.otp.now) found), ap place_of found)
