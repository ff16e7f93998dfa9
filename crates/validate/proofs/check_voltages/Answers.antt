-- `validate::check_voltages` meets its contract: the loop has passed no unlisted voltage.
use mathlib.Core.Path.{◌≡◌, refl, sym, ap, ◌∙◌}
use mathlib.Core.Bool.{not, ◌||◌}
use mathlib.Core.List.{List, []}
use Prim.Native.Nat.{ℕ, ◌/◌, ◌<◌}
use lib.ListN.{length, get_or}
use Rattle.std.specs.Simd.{first_chunks}
use Rattle.voltage.specs.Codes.{is_voltage, source_voltage, vsl_voltage, vcom_voltage}
use Rattle.otp.proofs.Bytes.{byte_is}
use native.Mathlib.Omega.{arith}
use borrow.Author.Count.{below_more, below_none}
use borrow.Author.Tests.{lt-ltb, le-ltb}
use Rattle.config.specs.Answer.{refused, refused_by, answer_of}
use Rattle.config.proofs.Answers.{refuses, passes, none_left}
use Rattle.config.proofs.Lowest.{lowest_at, lowest_none}
use Rattle.otp.specs.Table.{entry_count, unlisted_voltage, unlisted_entry, voltages_test}
use Rattle.validate.proofs.check_voltages.Goals as goal

-- the voltages of an entry, taken out of the table, are those of the table's
unlisted_in : (o : List ℕ) (k : ℕ) (within : k < entry_count o) {entries : List (List ℕ)} → entries ≡ first_chunks 118 (length o / 118) o
    → unlisted_voltage (get_or entries k []) 0 ≡ unlisted_voltage o k
unfolding unlisted_voltage
unlisted_in o k within cut =
    let vsh1 = byte_is o k within cut 112 (omega arith) in
    let vsh2 = byte_is o k within cut 113 (omega arith) in
    let vsl = byte_is o k within cut 114 (omega arith) in
    let vcom = byte_is o k within cut 115 (omega arith) in
    λ i.
    not (is_voltage (source_voltage (vsh1 i))) || not (is_voltage (source_voltage (vsh2 i)))
    || not (is_voltage (vsl_voltage (vsl i))) || not (is_voltage (vcom_voltage (vcom i)))

pub loop-entry-init : goal.loop-entry-init
loop-entry-init c = below_none _

pub returns-then-has_unlisted_voltage : goal.returns-then-has_unlisted_voltage
unfolding answer_of refused_by
returns-then-has_unlisted_voltage c =
    let otp = c.args.otp.now in
    let here = unlisted_in otp c.loop-entry.entry (omega (arith, c.loop-entry-test.true, c.as_chunks.ensures.front_len)) c.as_chunks.ensures.front in
    let few : c.loop-entry.entry < entry_count otp = omega (arith, c.loop-entry-test.true, c.as_chunks.ensures.front_len) in
    let e =
    lowest_at (unlisted_voltage otp) (entry_count otp) c.loop-entry.entry few c.loop-entry.invariant
    (sym here ∙ sym c.has_unlisted_voltage.ensures ∙ c.if-has_unlisted_voltage.true)
    in
    refuses (voltages_test otp) [] _ (lt-ltb (unlisted_entry otp) (entry_count otp) (omega (arith, e, few))) (ap (refused 6) (sym e))

pub loop-entry-preserved : goal.loop-entry-preserved
loop-entry-preserved c =
    let otp = c.args.otp.now in
    let here = unlisted_in otp c.loop-entry.entry (omega (arith, c.loop-entry-test.true, c.as_chunks.ensures.front_len)) c.as_chunks.ensures.front in
    below_more _ _ c.loop-entry.invariant (sym here ∙ sym c.has_unlisted_voltage.ensures ∙ c.if-has_unlisted_voltage.false)

pub returns : goal.returns
unfolding answer_of refused_by
returns c =
    let otp = c.args.otp.now in
    let n : c.loop-entry.entry ≡ entry_count otp = omega (arith, c.as_chunks.ensures.front_len) in
    let e = lowest_none (unlisted_voltage otp) (entry_count otp) (rw n at c.loop-entry.invariant) in
    passes (voltages_test otp) [] _ (le-ltb (unlisted_entry otp) (entry_count otp) (omega (arith, e))) (none_left _ refl)
