-- `charges::put_text` meets its contract: a line for each entry, which fill the buffer.
use mathlib.Core.Path.{◌≡◌, ap, ◌∙◌}
use mathlib.Core.List.{List}
use Prim.Native.Nat.{ℕ, ◌+◌, ◌*◌, ◌-◌}
use native.Mathlib.Omega.{arith}
use lib.ListN.{length, take, drop, length-take, length-drop}
use Rattle.otp.specs.Table.{entry_count}
use Rattle.charges.specs.Report.{setting_bytes, charge_line, charge_text}
use Rattle.charges.proofs.Lines.{line_length, lines_none, lines_more, lines_all}
use Rattle.charges.proofs.put_text.Invariants.{line_in}
use Rattle.charges.proofs.put_text.Goals as goal

long : (periods otp : List ℕ) (i : ℕ) → length (line_in periods otp i) ≡ 88
long periods otp i = line_length periods (setting_bytes otp i) i

pub loop-entry-init : goal.loop-entry-init
loop-entry-init c = lines_none (line_in c.args.frame_period.now c.args.otp.now) (long _ _) c.args.out.now

-- what is copied is the setting of the entry, and then its line
setting_is : (otp : List ℕ) (entry : ℕ) {s : List ℕ} → s ≡ take (118 * entry + 6 + 112 - (118 * entry + 6)) (drop (118 * entry + 6) otp) → s ≡ setting_bytes otp entry
setting_is otp entry e =
    e ∙ ap (λ (n : ℕ). take n (drop (118 * entry + 6) otp)) (let n : 118 * entry + 6 + 112 - (118 * entry + 6) ≡ 112 = omega arith in n)

line_is : (periods otp : List ℕ) (entry : ℕ) {s line text : List ℕ} → s ≡ take (118 * entry + 6 + 112 - (118 * entry + 6)) (drop (118 * entry + 6) otp)
    → line ≡ charge_line periods s entry → text ≡ line → text ≡ line_in periods otp entry
line_is periods otp entry e f g = g ∙ f ∙ ap (λ (s : List ℕ). charge_line periods s entry) (setting_is otp entry e)

pub copy_from_slice-requires-in-loop-entry : goal.copy_from_slice-requires-in-loop-entry
copy_from_slice-requires-in-loop-entry c =
    let s = c.args in
    let e = line_is s.frame_period.now s.otp.now c.loop-entry.entry c.copy_from_slice.ensures.after c.line_of-line.ensures c.text.ensures in
    simp (length-take, length-drop) (omega (arith, ap length e, long s.frame_period.now s.otp.now c.loop-entry.entry, c.requires.room))

pub loop-entry-preserved : goal.loop-entry-preserved
loop-entry-preserved c =
    let s = c.args in
    let n = c.loop-entry.entry in
    lines_more (line_in s.frame_period.now s.otp.now) (long s.frame_period.now s.otp.now) s.out.now n (88 * n) (88 * n + 88 - 88 * n) c.loop-entry.invariant (omega arith) (omega arith)
    (c.copy_from_slice-in-loop-entry.ensures.after
    ∙ line_is s.frame_period.now s.otp.now n c.copy_from_slice.ensures.after c.line_of-line.ensures c.text.ensures)

pub returns : goal.returns
unfolding charge_text
returns c =
    let s = c.args in
    lines_all (line_in s.frame_period.now s.otp.now) (long s.frame_period.now s.otp.now) s.out.now c.loop-entry.entry (entry_count s.otp.now) c.loop-entry.invariant (omega arith)
    c.requires.room
