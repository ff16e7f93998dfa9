-- From every accepted start there is a run for every list of calls: nothing is refused on the way. Its end is the one that the contracts give,
-- and every other run of these calls, whatever it was refused beside them, ends there too. Assumes nothing.
use Prim.Native.Nat.{ℕ, ◌≤◌}
use mathlib.Core.Path.{◌≡◌, refl, sym, ap, subst, ◌∙◌}
use mathlib.Core.Bool.{true}
use mathlib.Core.List.{List, [], ◌∷◌}
use Rattle.config.specs.declared.Ssd1677Config.{Ssd1677Config}
use Rattle.config.specs.Answer.{is_accepted}
use Rattle.query.specs.Outcome.{Outcome, outcome}
use Rattle.power_on.specs.Start.{Buffers, started, world_of}
use Rattle.world.specs.World.{World}
use Rattle.calls.specs.World.{Call, called, taken, left_by, AllTyped}
use Rattle.calls.specs.Sound.{Sound}
use Rattle.calls.proofs.Accepted.{accepted_takes}
use Rattle.calls.proofs.Kept.{sound_kept}
use Rattle.calls.proofs.Start.{started_sound}
use Rattle.history.specs.Reckon.{core_of, reckon, first_reckoning}
use Rattle.history.specs.Runs.{Runs, done, accepted, refused}
use Rattle.history.specs.History.{Agrees}
use Rattle.history.proofs.Calls.{refused_changes_nothing}
use Rattle.history.proofs.History.{history}

pub runs : (otp : List ℕ) (w : World) (calls : List Call) → Sound otp w → AllTyped calls → Runs otp w calls (left_by otp w calls)
runs otp w [] s t = done
runs otp w (call ∷ calls) s t =
    let is = accepted_takes otp w s call in
    let left : (called otp w call).held ≡ taken otp w call = ap (λ (o : Outcome World). o.held) is in
    accepted (ap (λ (o : Outcome World). outcome 0 o.held) is ∙ sym is)
    (runs otp (called otp w call).held calls (subst (Sound otp) (sym left) (sound_kept otp w s call t.0)) t.1)

-- a run's calls decide its end
pub one_end : {otp : List ℕ} {w u : World} {calls : List Call} → Runs otp w calls u → u ≡ left_by otp w calls
one_end done = refl
one_end {otp = otp} (accepted {calls = calls} e rest) = one_end rest ∙ ap (λ (x : World). left_by otp x calls) (ap (λ (o : Outcome World). o.held) e)
one_end {otp = otp} (refused {w = w} {v = v} {handed = handed} {back = back} {number = number} {calls = calls} call table n e b rest) =
    one_end rest ∙ ap (λ (x : World). left_by otp x calls) (refused_changes_nothing table w handed back v number call n e b)

module _ (c : Ssd1677Config) (otp : List ℕ) (b : Buffers) (ok : is_accepted (started c otp b).answer ≡ true) (calls : List Call) (typed : AllTyped calls) where
  pub exists : Runs otp (world_of (started c otp b).left) calls (left_by otp (world_of (started c otp b).left) calls)
  exists = runs otp (world_of (started c otp b).left) calls (started_sound c otp b ok) typed

  -- what the calls leave agrees with the reckoning
  pub left_agrees : c.optics.initial_gray ≤ 255
      → Agrees (left_by otp (world_of (started c otp b).left) calls) (reckon otp (first_reckoning (core_of (world_of (started c otp b).left))) calls)
  left_agrees byte = history c otp b byte ok calls (left_by otp (world_of (started c otp b).left) calls) exists
