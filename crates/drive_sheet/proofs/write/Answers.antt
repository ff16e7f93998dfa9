-- `drive_sheet::write` meets its contract: the tests in their order, then the bytes.
use native.Mathlib.Omega.{arith}
use borrow.Author.Rules.{rules}
use mathlib.Core.Path.{◌≡◌, sym, ap, ◌∙◌}
use mathlib.Core.Bool.{Bool, false}
use Rattle.drive_sheet.specs.declared.Sheet.{Sheet}
use Rattle.drive_sheet.specs.declared.SupplyCodes.{SupplyCodes}
use Rattle.drive_sheet.specs.Supplies.{supply_codes_of, lacks_code}
use Rattle.drive_sheet.specs.Bytes.{sheet_of}
use Rattle.drive_sheet.specs.Tests.{supplies_test, repeats_test, codes_test, Writable, told_of}
use Rattle.drive_sheet.proofs.Order.{length_refused, voltage_refused, repeats_refused, codes_refused, all_written}
use Rattle.drive_sheet.proofs.Back.{sheet_back}
use Rattle.drive_sheet.proofs.write.Goals as goal

-- what `find_codes` and `lacks_code` have found
no_code : (h : Sheet) (codes : SupplyCodes) (lacks : Bool) → codes ≡ supply_codes_of h → lacks ≡ lacks_code codes → lacks ≡ (supplies_test h).refuses
no_code h codes lacks e f = f ∙ ap lacks_code e

pub returns-then-out-ne-SETTING_BYTES : goal.returns-then-out-ne-SETTING_BYTES
unfolding told_of
returns-then-out-ne-SETTING_BYTES c =
    record { bytes = length_refused c.args.sheet c.args.out.now (λ e. omega arith); back = tt }

pub returns-then-no_code : goal.returns-then-no_code
unfolding told_of
returns-then-no_code c =
    let none = no_code c.args.sheet _ _ c.find_codes-codes.ensures.codes c.lacks_code-no_code.ensures in record {
      bytes = voltage_refused c.args.sheet c.args.out.now c.if-out-ne-SETTING_BYTES.false (sym none ∙ c.if-no_code.true);
      back = tt;
    }

pub returns-then-bad_repeats : goal.returns-then-bad_repeats
unfolding told_of
returns-then-bad_repeats c =
    let none = no_code c.args.sheet _ _ c.find_codes-codes.ensures.codes c.lacks_code-no_code.ensures in
    let coded : c.lacks_code-no_code.result ≡ false = search rules in record {
      bytes = repeats_refused c.args.sheet c.args.out.now c.if-out-ne-SETTING_BYTES.false (sym none ∙ coded)
          (sym c.any_bad_repeats-bad_repeats.ensures ∙ c.if-bad_repeats.true);
      back = tt;
    }

pub returns-then-bad_codes : goal.returns-then-bad_codes
unfolding told_of
returns-then-bad_codes c =
    let none = no_code c.args.sheet _ _ c.find_codes-codes.ensures.codes c.lacks_code-no_code.ensures in record {
      bytes = codes_refused c.args.sheet c.args.out.now c.if-out-ne-SETTING_BYTES.false (sym none ∙ c.if-no_code.false)
          (sym c.any_bad_repeats-bad_repeats.ensures ∙ c.if-bad_repeats.false) (sym c.any_bad_codes-bad_codes.ensures ∙ c.if-bad_codes.true);
      back = tt;
    }

-- what 61, 62 and 63 have let pass
writable : (h : Sheet) {lacks repeats codes : Bool} → lacks ≡ (supplies_test h).refuses → lacks ≡ false → repeats ≡ (repeats_test h).refuses → repeats ≡ false
    → codes ≡ (codes_test h).refuses → codes ≡ false → Writable h
writable h l ln r rn k kn = record { supplied = sym l ∙ ln; repeated = sym r ∙ rn; coded = sym k ∙ kn }

pub fill-requires : goal.fill-requires
fill-requires c =
    let none = no_code c.args.sheet _ _ c.find_codes-codes.ensures.codes c.lacks_code-no_code.ensures in (
      c.if-out-ne-SETTING_BYTES.false,
      record {
        passes = writable c.args.sheet none c.if-no_code.false c.any_bad_repeats-bad_repeats.ensures c.if-bad_repeats.false c.any_bad_codes-bad_codes.ensures c.if-bad_codes.false;
        found = c.find_codes-codes.ensures.codes;
      },
    )

pub returns : goal.returns
unfolding told_of
returns c =
    let none = no_code c.args.sheet _ _ c.find_codes-codes.ensures.codes c.lacks_code-no_code.ensures in
    let passes = writable c.args.sheet none c.if-no_code.false c.any_bad_repeats-bad_repeats.ensures c.if-bad_repeats.false c.any_bad_codes-bad_codes.ensures c.if-bad_codes.false in
    let e = c.fill.ensures in record {
      bytes = all_written c.args.sheet c.args.out.now _ c.if-out-ne-SETTING_BYTES.false passes e;
      back = ap sheet_of e ∙ sheet_back c.args.sheet c.find_codes-codes.ensures.formed passes;
    }
