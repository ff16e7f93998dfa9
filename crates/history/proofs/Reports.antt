-- After every list of calls from every accepted start, the dropped count is the number of reports beyond the log's room, stopping at 2^64 − 1,
-- and no call makes more reports than an empty log has room for. Assumes nothing beside acceptance.
use Prim.Native.Nat.{ℕ, ◌+◌, ◌-◌, ◌≤◌, min}
use mathlib.Core.Path.{◌≡◌, refl, sym, ap, ap₂, subst, ◌∙◌}
use mathlib.Core.Bool.{Bool, true, false, true≢false}
use mathlib.Core.List.{List, [], ◌∷◌}
use native.Mathlib.Omega.{arith}
use Rattle.numbers.specs.Saturation.{largest}
use Rattle.config.specs.declared.Ssd1677Config.{Ssd1677Config}
use Rattle.config.specs.Answer.{is_accepted}
use Rattle.diagnostic.specs.declared.Journal.{Journal}
use Rattle.clock.specs.Advance.{advanced}
use Rattle.power_on.specs.Start.{Buffers, Powered, powered_on, powered_up, started, world_of}
use Rattle.res.specs.Line.{line_taken}
use Rattle.low.specs.Command.{command_taken}
use Rattle.high.specs.Data.{data_in}
use Rattle.driven.specs.Read.{read_in}
use Rattle.world.specs.World.{World, WithGlassLog, lent_of, glass_in_world, glass_log_in_world, buffers_in_world, planes_in_world}
use Rattle.calls.specs.World.{Call, advance, set_reset, write_command, write_data, read_data, set_ambient, take_diagnostics, taken}
use Rattle.history.specs.Reckon.{Core, core_of, core_after}
use Rattle.history.specs.Runs.{Runs, done, accepted, refused}
use Rattle.history.specs.Reports.{bare_with, reports_of, flag_after, Tally, after_reports, tally_call, tally, no_report, reports_in, takes_records, Untaken, Tallies}
use Rattle.history.proofs.Tells.{journal, journals, grown, Bundle, Tells}
use Rattle.history.proofs.TellsCalls.{in_glass, in_glass_log, in_buffers, in_planes, tells_advanced, tells_reset, tells_read_in, tells_data_in, tells_command}
use Rattle.history.proofs.Core.{core_taken}
use Rattle.history.proofs.Calls.{accepted_taken, refused_changes_nothing}
use Rattle.power_on.proofs.Accepted.{left_is}

-- a journal within the log's room and its own word
pub record Fits (j : Journal) : Type 0 where
  pub room : j.count ≤ 1024
  pub held : j.dropped ≤ largest 64

-- what a step made of a journal, beside what it makes of an empty one
record Met (j after fresh : Journal) : Type 0 where
  few : fresh.count ≤ 1023
  is : after ≡ grown j fresh.count fresh.reserved_reported

-- no report more
grown_none : (j : Journal) → Fits j → j ≡ grown j 0 j.reserved_reported
grown_none j f = journals (omega (arith, f.room)) (omega (arith, f.room, f.held)) refl

meets : {A B : Type 0} (p : Bundle A) (q : Bundle B) (n : ℕ) (f : A → B) → n ≤ 1023 → Tells p q n f → (a b : A) → p.plain a ≡ p.plain b
    → p.journal b ≡ journal 0 0 (p.journal a).reserved_reported → Fits (p.journal a) → Met (p.journal a) (q.journal (f a)) (q.journal (f b))
meets p q n f le t a b same none fits =
    let j = p.journal a in
    let l = journal 0 0 j.reserved_reported in
    let m = t.makes (p.plain a) in
    let small : 0 + n ≤ 1024 = omega (arith, le) in
    let is-fresh : m l ≡ q.journal (f b) = ap₂ t.makes same (sym none) ∙ sym (t.is b) in
    record {
      few = omega (arith, le, (t.adds (p.plain a)).few l small, ap (λ (x : Journal). x.count) is-fresh);
      is =
          t.is a ∙ ap m (grown_none j fits) ∙ (t.adds (p.plain a)).grows j l small
          ∙ ap (λ (x : Journal). grown j x.count x.reserved_reported) is-fresh;
    }

-- ---- every call but take_diagnostics
abbrev MetBy : List ℕ → World → Call → Type 0
MetBy otp w call =
    Met w.device.journal (taken otp w call).device.journal
    (taken otp (bare_with (core_of w) w.device.journal.reserved_reported) call).device.journal

module _ (otp : List ℕ) (w : World) (fits : Fits w.device.journal) where
  abbrev bared : World
  bared = bare_with (core_of w) w.device.journal.reserved_reported

  met_advance : (time : ℕ) → MetBy otp w (advance time)
  met_advance time =
      meets in_glass in_glass 0 (advanced w.luts time) (omega arith) (tells_advanced w.luts time) (glass_in_world.get w) (glass_in_world.get bared) refl refl fits

  met_reset : (time : ℕ) (low : Bool) → MetBy otp w (set_reset time low)
  met_reset time low =
      meets in_glass_log in_glass_log 2 (line_taken w.luts time low) (omega arith) (tells_reset w.luts time low) (glass_log_in_world.get w) (glass_log_in_world.get bared) refl refl fits

  met_command : (time command : ℕ) → MetBy otp w (write_command time command)
  met_command time command =
      meets in_buffers in_buffers 17 (command_taken (lent_of otp w) time command) (omega arith) (tells_command (lent_of otp w) command time) (buffers_in_world.get w)
      (buffers_in_world.get bared) refl refl fits

  met_data : (time byte : ℕ) → MetBy otp w (write_data time byte)
  met_data time byte =
      meets in_planes in_planes 4 (data_in w.luts time byte) (omega arith) (tells_data_in w.luts time byte) (planes_in_world.get w) (planes_in_world.get bared) refl refl fits

  met_read : (time : ℕ) → MetBy otp w (read_data time)
  met_read time =
      meets in_glass_log in_glass_log 1 (λ (x : WithGlassLog). (read_in w.luts w.black_white w.red time x).left) (omega arith)
      (tells_read_in w.luts w.black_white w.red time) (glass_log_in_world.get w) (glass_log_in_world.get bared) refl refl fits

  met_ambient : (register : ℕ) → MetBy otp w (set_ambient register)
  met_ambient register = record { few = omega arith; is = grown_none w.device.journal fits }

-- ---- a call beside the tally
abbrev tally_of : Journal → Tally
tally_of j = record { waiting = j.count; dropped = j.dropped; flag = j.reserved_reported }

record Goes (j : Journal) (t : Tally) : Type 0 where
  is : tally_of j ≡ t
  fits : Fits j

grown_fits : (j : Journal) (n : ℕ) (flag : Bool) → Fits (grown j n flag)
grown_fits j n flag = record { room = omega arith; held = omega arith }

goes : (j after fresh : Journal) → Met j after fresh → Goes after (tally_of (grown j fresh.count fresh.reserved_reported))
goes j after fresh m = record { is = ap tally_of m.is; fits = subst Fits (sym m.is) (grown_fits j fresh.count fresh.reserved_reported) }

step_goes : (otp : List ℕ) (w : World) (call : Call) → Fits w.device.journal
    → Goes (taken otp w call).device.journal (tally_call otp (core_of w) (tally_of w.device.journal) call)
step_goes otp w call fits = by call
  where
    j : Journal
    j = w.device.journal

    after : Call → Journal
    after call = (taken otp w call).device.journal

    alone : Call → Journal
    alone call = (taken otp (bare_with (core_of w) w.device.journal.reserved_reported) call).device.journal

    from : (call : Call) → MetBy otp w call → Goes (after call) (tally_of (grown j (alone call).count (alone call).reserved_reported))
    from call = goes j (after call) (alone call)

    by : (call : Call) → Goes (taken otp w call).device.journal (tally_call otp (core_of w) (tally_of w.device.journal) call)
    by (advance time) = from (advance time) (met_advance otp w fits time)
    by (set_reset time low) = from (set_reset time low) (met_reset otp w fits time low)
    by (write_command time command) = from (write_command time command) (met_command otp w fits time command)
    by (write_data time byte) = from (write_data time byte) (met_data otp w fits time byte)
    by (read_data time) = from (read_data time) (met_read otp w fits time)
    by (set_ambient register) = from (set_ambient register) (met_ambient otp w fits register)
    by take_diagnostics = record { is = refl; fits = record { room = omega arith; held = fits.held } }

-- a call makes fewer reports than an empty log has room for
pub reports_few : (otp : List ℕ) (c : Core) (flag : Bool) (call : Call) → reports_of otp c flag call ≤ 1023
reports_few otp c flag = by
  where
    fits : Fits (journal 0 0 flag)
    fits = record { room = omega arith; held = omega arith }

    by : (call : Call) → reports_of otp c flag call ≤ 1023
    by (advance time) = (met_advance otp (bare_with c flag) fits time).few
    by (set_reset time low) = (met_reset otp (bare_with c flag) fits time low).few
    by (write_command time command) = (met_command otp (bare_with c flag) fits time command).few
    by (write_data time byte) = (met_data otp (bare_with c flag) fits time byte).few
    by (read_data time) = (met_read otp (bare_with c flag) fits time).few
    by (set_ambient register) = (met_ambient otp (bare_with c flag) fits register).few
    by take_diagnostics = omega arith

-- ---- over the list
record Kept (w : World) (c : Core) (t : Tally) : Type 0 where
  core : core_of w ≡ c
  goes_on : Goes w.device.journal t

step_kept : (otp : List ℕ) (w : World) (c : Core) (t : Tally) (call : Call) → Kept w c t → Kept (taken otp w call) (core_after otp c call) (tally_call otp c t call)
step_kept otp w c t call k =
    let g = step_goes otp w call k.goes_on.fits in
    record {
      core = core_taken otp w call ∙ ap (λ (x : Core). core_after otp x call) k.core;
      goes_on = record { is = g.is ∙ (λ i. tally_call otp (k.core i) (k.goes_on.is i) call); fits = g.fits };
    }

run_kept : {otp : List ℕ} {w u : World} {calls : List Call} (c : Core) (t : Tally) → Runs otp w calls u → Kept w c t → Goes u.device.journal (tally otp c t calls)
unfolding tally
run_kept c t done k = k.goes_on
run_kept {otp = otp} c t (accepted {w = w} {v = v} {call = call} e rest) k =
    run_kept (core_after otp c call) (tally_call otp c t call) rest
    (subst (λ (x : World). Kept x (core_after otp c call) (tally_call otp c t call)) (sym (accepted_taken otp w v call e)) (step_kept otp w c t call k))
run_kept c t (refused {w = w} {v = v} {handed = handed} {back = back} {number = number} call table n e b rest) k =
    run_kept c t rest (subst (λ (x : World). Kept x c t) (sym (refused_changes_nothing table w handed back v number call n e b)) k)

-- at first nothing waits and nothing was dropped
start_goes : (c : Ssd1677Config) (otp : List ℕ) (b : Buffers) → is_accepted (started c otp b).answer ≡ true
    → Goes (world_of (started c otp b).left).device.journal no_report
unfolding powered_up powered_on
start_goes c otp b ok = subst (λ (p : Powered). Goes (world_of p).device.journal no_report) (sym (left_is c otp b ok)) powered
  where
    powered : Goes (world_of (powered_up c b)).device.journal no_report
    powered = record { is = refl; fits = record { room = omega arith; held = omega arith } }

-- the theorem
pub dropped_counts : (c : Ssd1677Config) (otp : List ℕ) (b : Buffers) → is_accepted (started c otp b).answer ≡ true
    → (calls : List Call) (u : World) → Runs otp (world_of (started c otp b).left) calls u
    → Tallies u (tally otp (core_of (world_of (started c otp b).left)) no_report calls)
dropped_counts c otp b ok calls u runs =
    let first = core_of (world_of (started c otp b).left) in
    let e = (run_kept first no_report runs (record { core = refl; goes_on = start_goes c otp b ok })).is in
    record {
      waiting = ap (λ (t : Tally). t.waiting) e;
      dropped = ap (λ (t : Tally). t.dropped) e;
      flag = ap (λ (t : Tally). t.flag) e;
    }

-- ---- where no call takes the records that wait
-- those beyond, of one call and then of others
split : (w n r : ℕ) → w + n - 1024 + (min (w + n) 1024 + r - 1024) ≡ w + (n + r) - 1024
split w n r = omega arith

-- held twice or once
held_once : (x y most : ℕ) → min (min x most + y) most ≡ min (x + y) most
held_once x y most = omega arith

joined : (d a b c : ℕ) → a + b ≡ c → d + a + b ≡ d + c
joined d a b c e = omega (arith, e)

beyond : (w d n r : ℕ) → min (min (d + (w + n - 1024)) (largest 64) + (min (w + n) 1024 + r - 1024)) (largest 64) ≡ min (d + (w + (n + r) - 1024)) (largest 64)
beyond w d n r =
    held_once (d + (w + n - 1024)) (min (w + n) 1024 + r - 1024) (largest 64)
    ∙ ap (λ (k : ℕ). min k (largest 64)) (joined d (w + n - 1024) (min (w + n) 1024 + r - 1024) (w + (n + r) - 1024) (split w n r))

untaken_told : (otp : List ℕ) (c : Core) (t : Tally) (call : Call) → takes_records call ≡ false → tally_call otp c t call ≡ after_reports otp c t call
untaken_told otp c t (advance time) e = refl
untaken_told otp c t (set_reset time low) e = refl
untaken_told otp c t (write_command time command) e = refl
untaken_told otp c t (write_data time byte) e = refl
untaken_told otp c t (read_data time) e = refl
untaken_told otp c t (set_ambient register) e = refl
untaken_told otp c t take_diagnostics e = absurd (true≢false e)

record Beyond (t : Tally) (n : ℕ) (u : Tally) : Type 0 where
  waiting : u.waiting ≡ min (t.waiting + n) 1024
  dropped : u.dropped ≡ min (t.dropped + (t.waiting + n - 1024)) (largest 64)

untaken_tally : (otp : List ℕ) (c : Core) (t : Tally) (calls : List Call) → t.waiting ≤ 1024 → t.dropped ≤ largest 64 → Untaken calls
    → Beyond t (reports_in otp c t.flag calls) (tally otp c t calls)
unfolding tally
untaken_tally otp c t [] room held none = record { waiting = omega (arith, room); dropped = omega (arith, room, held) }
untaken_tally otp c t (call ∷ calls) room held none =
    let n = reports_of otp c t.flag call in
    let f = flag_after otp c t.flag call in
    let r = reports_in otp (core_after otp c call) f calls in
    let b = untaken_tally otp (core_after otp c call) (after_reports otp c t call) calls (omega arith) (omega arith) none.1 in
    subst (λ (x : Tally). Beyond t (n + r) (tally otp (core_after otp c call) x calls)) (sym (untaken_told otp c t call none.0))
    (record { waiting = b.waiting ∙ waits t.waiting n r; dropped = b.dropped ∙ beyond t.waiting t.dropped n r })
  where
    waits : (w n r : ℕ) → min (min (w + n) 1024 + r) 1024 ≡ min (w + (n + r)) 1024
    waits w n r = omega arith

-- the dropped count is the number of reports beyond the 1,024 that wait, stopping at 2^64 − 1
pub dropped_beyond : (c : Ssd1677Config) (otp : List ℕ) (b : Buffers) → is_accepted (started c otp b).answer ≡ true
    → (calls : List Call) (u : World) → Untaken calls → Runs otp (world_of (started c otp b).left) calls u
    → u.device.journal.dropped ≡ min (reports_in otp (core_of (world_of (started c otp b).left)) false calls - 1024) (largest 64)
dropped_beyond c otp b ok calls u none runs =
    (dropped_counts c otp b ok calls u runs).dropped
    ∙ (untaken_tally otp (core_of (world_of (started c otp b).left)) no_report calls (omega arith) (omega arith) none).dropped
    ∙ from_none (reports_in otp (core_of (world_of (started c otp b).left)) false calls)
  where
    from_none : (n : ℕ) → min (0 + (0 + n - 1024)) (largest 64) ≡ min (n - 1024) (largest 64)
    from_none n = omega arith
