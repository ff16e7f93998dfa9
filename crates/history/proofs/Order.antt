-- Two pixels whose LUTs are equal in every refresh that a list of calls works in keep the order of their states. Assumes nothing.
use Prim.Native.Nat.{ℕ, suc, ◌-◌, ◌≤◌, ◌<◌, min}
use mathlib.Core.Path.{◌≡◌, refl, ap, subst, ◌∙◌}
use mathlib.Core.Bool.{Bool, true, false, cond}
use mathlib.Core.List.{List, [], ◌∷◌}
use native.Mathlib.Omega.{arith}
use lib.Dec.{ltb}
use lib.IntN.{ℤ, pos, negsuc}
use lib.Signed.{◌≤ℤ◌}
use lib.ListN.{length, get_or}
use borrow.Author.Tests.{ltb-true}
use Rattle.numbers.specs.Choice.{pick}
use Rattle.numbers.proofs.Lin.{le_in, le_out, whole}
use Rattle.glass.specs.Exact.{held, drive, drives}
use Rattle.glass.proofs.Exactly.{drive_pos}
use Rattle.waveform.specs.declared.Drive.TheVariants.{Lut}
use Rattle.waveform.specs.Exact.{setting_phases}
use Rattle.config.specs.declared.Ssd1677Config.{Ssd1677Config}
use Rattle.config.specs.Answer.{is_accepted}
use Rattle.power_on.specs.Start.{Buffers, started, world_of}
use Rattle.world.specs.World.{World}
use Rattle.calls.specs.World.{Call}
use Rattle.calls.proofs.Kept.{states_kept}
use Rattle.history.specs.Reckon.{Worked, worked, swing_s, drives_by, number_after, number_over, core_of, Reckoning, reckon_call, reckon, first_reckoning}
use Rattle.history.specs.Runs.{Runs, done, accepted, refused}
use Rattle.history.specs.History.{SameLut, AlwaysSameLut}
use Rattle.history.proofs.Calls.{accepted_taken, refused_changes_nothing}
use Rattle.history.proofs.History.{Kept, run_kept, start_kept}

-- ---- one drive, whatever the states
drive_down : (S d x : ℕ) → drive S (negsuc d) x ≡ min (x - suc d) S
unfolding drive
drive_down S d x = by (ltb x (suc d)) refl
  where
    by : (t : Bool) → ltb x (suc d) ≡ t → held S (cond t (negsuc (suc d - suc x)) (pos (x - suc d))) ≡ min (x - suc d) S
    by true e = omega (arith, ltb-true x (suc d) e)
    by false e = refl

drive_keeps : (S : ℕ) (d : ℤ) (x y : ℕ) → x ≤ y → drive S d x ≤ drive S d y
drive_keeps S (pos d) x y h = omega (arith, drive_pos S d x, drive_pos S d y)
drive_keeps S (negsuc d) x y h = omega (arith, drive_down S d x, drive_down S d y)

drives_keep : (S : ℕ) (ds : List ℤ) (x y : ℕ) → x ≤ y → drives S ds x ≤ drives S ds y
unfolding drives
drives_keep S [] x y h = h
drives_keep S (d ∷ ds) x y h = drives_keep S ds (drive S d x) (drive S d y) (drive_keeps S d x y h)

-- ---- a run hands back as many states as it had
runs_long : {otp : List ℕ} {w u : World} {calls : List Call} → Runs otp w calls u → length u.states ≡ length w.states
runs_long done = refl
runs_long {otp = otp} (accepted {w = w} {v = v} {call = call} e rest) =
    runs_long rest ∙ ap (λ (x : World). length x.states) (accepted_taken otp w v call e) ∙ states_kept otp w call
runs_long (refused {w = w} {v = v} {handed = handed} {back = back} {number = number} call table n e b rest) =
    runs_long rest ∙ ap (λ (x : World). length x.states) (refused_changes_nothing table w handed back v number call n e b)

-- ---- the refreshes of a call, and of a list of calls
module _ (i j : ℕ) where
  after_keeps : (c : Ssd1677Config) (w : Worked) (x y : ℕ) → get_or w.luts i 0 ≡ get_or w.luts j 0 → x ≤ y → number_after c i x w ≤ number_after c j y w
  unfolding number_after
  after_keeps c w x y e h =
      subst (λ (lut : ℕ). pick (ltb (get_or w.luts i 0) 4) (drives (swing_s c) (by (get_or w.luts i 0)) x) x ≤ pick (ltb lut 4) (drives (swing_s c) (by lut) y) y) e
      (go (ltb (get_or w.luts i 0) 4))
    where
      by : ℕ → List ℤ
      by lut = drives_by c.optics.positive_drives_black w.part (setting_phases w.setting c.timing.frame_period (Lut lut))

      go : (t : Bool) → pick t (drives (swing_s c) (by (get_or w.luts i 0)) x) x ≤ pick t (drives (swing_s c) (by (get_or w.luts i 0)) y) y
      go true = drives_keep (swing_s c) (by (get_or w.luts i 0)) x y h
      go false = h

  over_keeps : (c : Ssd1677Config) (ws : List Worked) (x y : ℕ) → SameLut i j ws → x ≤ y → number_over c i x ws ≤ number_over c j y ws
  unfolding number_over
  over_keeps c [] x y s h = h
  over_keeps c (w ∷ ws) x y s h = over_keeps c ws (number_after c i x w) (number_after c j y w) s.1 (after_keeps c w x y s.0 h)

  -- of the whole numbers
  pub order_kept : (otp : List ℕ) (calls : List Call) (r : Reckoning) → AlwaysSameLut i j otp r calls → r.number i ≤ r.number j
      → (reckon otp r calls).number i ≤ (reckon otp r calls).number j
  unfolding reckon
  order_kept otp [] r a h = h
  order_kept otp (call ∷ calls) r a h =
      order_kept otp calls (reckon_call otp r call) a.1 (over_keeps r.core.config (worked otp r call) (r.number i) (r.number j) a.0 h)

  -- and of the lent states
  states_ordered : {otp : List ℕ} {w u : World} {calls : List Call} (r : Reckoning) (count : ℕ) → Runs otp w calls u → Kept w r count
      → AlwaysSameLut i j otp r calls → i < length w.states → j < length w.states → get_or w.states i (pos 0) ≤ℤ get_or w.states j (pos 0)
      → get_or u.states i (pos 0) ≤ℤ get_or u.states j (pos 0)
  states_ordered {otp = otp} {calls = calls} r count runs k a in-i in-j h =
      let s = k.shows in
      let t = (run_kept r count runs k).shows in
      let n : r.number i ≤ r.number j = omega (whole, le_out (rw (s.states i in-i, s.states j in-j) at h)) in
      rw (t.states i (omega (arith, runs_long runs)), t.states j (omega (arith, runs_long runs))) (le_in _ _ (omega (whole, order_kept otp calls r a n)))

-- the theorem: from an accepted start, after any calls and then any more, two pixels that have one LUT in every refresh of the latter keep the
-- order of their states
pub order : (c : Ssd1677Config) (otp : List ℕ) (b : Buffers) → c.optics.initial_gray ≤ 255 → is_accepted (started c otp b).answer ≡ true
    → (calls more : List Call) (v u : World) → Runs otp (world_of (started c otp b).left) calls v → Runs otp v more u → (i j : ℕ)
    → i < length v.states → j < length v.states → AlwaysSameLut i j otp (reckon otp (first_reckoning (core_of (world_of (started c otp b).left))) calls) more
    → get_or v.states i (pos 0) ≤ℤ get_or v.states j (pos 0) → get_or u.states i (pos 0) ≤ℤ get_or u.states j (pos 0)
order c otp b byte ok calls more v u runs rest i j in-i in-j a h =
    let first = first_reckoning (core_of (world_of (started c otp b).left)) in
    states_ordered i j (reckon otp first calls) _ rest (run_kept first 0 runs (start_kept c otp b byte ok)) a in-i in-j h
