-- SCOPE, History: after every list of calls from every accepted start, the reckoning has the core, each lent state is its pixel's whole
-- number, from 0 to S, each pixel shows the grey of it, and the counts are those of the pixels. The one premise beside acceptance is the starting grey's type, a byte.
use Prim.Native.Nat.{ℕ, ◌≤◌, ◌+◌, min}
use mathlib.Core.Path.{◌≡◌, refl, sym, ap, subst, ◌∙◌}
use mathlib.Core.Bool.{true}
use mathlib.Core.List.{List, [], ◌∷◌}
use native.Mathlib.Omega.{arith}
use lib.ListN.{length}
use Rattle.numbers.specs.Saturation.{largest}
use Rattle.config.specs.declared.Ssd1677Config.{Ssd1677Config}
use Rattle.config.specs.Answer.{is_accepted}
use Rattle.power_on.specs.Start.{Buffers, started, world_of}
use Rattle.world.specs.World.{World}
use Rattle.calls.specs.World.{Call, taken}
use Rattle.history.specs.Reckon.{core_of, shown_by, Worked, worked, Reckoning, reckon_call, reckon, first_reckoning}
use Rattle.history.specs.Runs.{Runs, done, accepted, refused}
use Rattle.history.specs.History.{Agrees, works_in}
use Rattle.history.proofs.Core.{core_taken}
use Rattle.history.proofs.Shows.{Marks, Shows, count_over, over}
use Rattle.history.proofs.Taken.{seen, shows_taken}
use Rattle.history.proofs.Going.{beside, goes_on, worked_in}
use Rattle.history.proofs.Calls.{accepted_taken, refused_changes_nothing}
use Rattle.history.proofs.Counted.{counts_each, counts_all}
use Rattle.history.proofs.Start.{start_shows, start_rests}

-- the reckoning's numbers, and how many refreshes have been worked in
abbrev marks : Reckoning → ℕ → Marks
marks r count = record { of = r.number; count = count }

-- what every call keeps of a world beside the reckoning
pub record Kept (w : World) (r : Reckoning) (count : ℕ) : Type 0 where
  pub core : core_of w ≡ r.core
  pub shown_under_way : shown_by w.device.display w.luts ≡ r.under_way
  pub shows : Shows (seen w) (marks r count)

-- how many refreshes a list of calls works in, counted on from so many
abbrev refreshes : List ℕ → Reckoning → List Call → ℕ → ℕ
refreshes otp r [] count = count
refreshes otp r (call ∷ calls) count = refreshes otp (reckon_call otp r call) calls (count_over count (worked otp r call))

count_is : (n : ℕ) (ws : List Worked) → count_over n ws ≡ n + length ws
count_is n [] = omega arith
count_is n (w ∷ ws) = omega (arith, count_is (n + 1) ws)

refreshes_is : (otp : List ℕ) (r : Reckoning) (calls : List Call) (n : ℕ) → refreshes otp r calls n ≡ n + works_in otp r calls
refreshes_is otp r [] n = omega arith
refreshes_is otp r (call ∷ calls) n =
    omega (arith, refreshes_is otp (reckon_call otp r call) calls (count_over n (worked otp r call)), count_is n (worked otp r call))

from_none : {n m : ℕ} → n ≡ 0 + m → n ≡ m
from_none e = omega arith

step_kept : (otp : List ℕ) (w : World) (r : Reckoning) (count : ℕ) (call : Call) → Kept w r count
    → Kept (taken otp w call) (reckon_call otp r call) (count_over count (worked otp r call))
step_kept otp w r count call k =
    subst (λ (x : Reckoning). Kept (taken otp w call) (reckon_call otp x call) (count_over count (worked otp x call))) same
    (record {
      core = core_taken otp w call;
      shown_under_way = goes_on otp w r.number call;
      shows =
          subst (λ (ws : List Worked). Shows (seen (taken otp w call)) (over w.device.config ws (marks r count))) (sym (worked_in otp w r.number call))
          (shows_taken otp w (marks r count) k.shows call);
    })
  where
    same : beside w r.number ≡ r
    same = λ i. record { core = k.core i; under_way = k.shown_under_way i; number = r.number }

-- over the list
pub run_kept : {otp : List ℕ} {w u : World} {calls : List Call} (r : Reckoning) (count : ℕ) → Runs otp w calls u → Kept w r count
    → Kept u (reckon otp r calls) (refreshes otp r calls count)
unfolding reckon
run_kept r count done k = k
run_kept {otp = otp} r count (accepted {w = w} {v = v} {call = call} e rest) k =
    let more = count_over count (worked otp r call) in
    run_kept (reckon_call otp r call) more rest
    (subst (λ (x : World). Kept x (reckon_call otp r call) more) (sym (accepted_taken otp w v call e)) (step_kept otp w r count call k))
run_kept r count (refused {w = w} {v = v} {handed = handed} {back = back} {number = number} call table n e b rest) k =
    run_kept r count rest (subst (λ (x : World). Kept x r count) (sym (refused_changes_nothing table w handed back v number call n e b)) k)

-- what is kept is what the theorem says
agrees : (w : World) (r : Reckoning) (count : ℕ) → Kept w r count → Agrees w r
agrees w r count k =
    let s = k.shows in
    record {
      core = k.core;
      shown_under_way = k.shown_under_way;
      swing = s.swing;
      states = s.states;
      within = s.within;
      pixels = s.pixels;
      counts = counts_each (seen w) (marks r count) s;
      total = counts_all (seen w) (marks r count) s;
    }

pub start_kept : (c : Ssd1677Config) (otp : List ℕ) (b : Buffers) → c.optics.initial_gray ≤ 255 → is_accepted (started c otp b).answer ≡ true
    → Kept (world_of (started c otp b).left) (first_reckoning (core_of (world_of (started c otp b).left))) 0
start_kept c otp b byte ok = record { core = refl; shown_under_way = start_rests c otp b ok; shows = start_shows c otp b ok byte }

-- the theorem
pub history : (c : Ssd1677Config) (otp : List ℕ) (b : Buffers) → c.optics.initial_gray ≤ 255 → is_accepted (started c otp b).answer ≡ true
    → (calls : List Call) (u : World) → Runs otp (world_of (started c otp b).left) calls u
    → Agrees u (reckon otp (first_reckoning (core_of (world_of (started c otp b).left))) calls)
history c otp b byte ok calls u runs =
    let first = core_of (world_of (started c otp b).left) in
    agrees u (reckon otp (first_reckoning first) calls) (refreshes otp (first_reckoning first) calls 0) (run_kept (first_reckoning first) 0 runs (start_kept c otp b byte ok))

-- the image is of as many generations as refreshes were worked in, stopping at 2^64 − 1
pub generations : (c : Ssd1677Config) (otp : List ℕ) (b : Buffers) → c.optics.initial_gray ≤ 255 → is_accepted (started c otp b).answer ≡ true
    → (calls : List Call) (u : World) → Runs otp (world_of (started c otp b).left) calls u
    → u.device.panel.image.generation ≡ min (works_in otp (first_reckoning (core_of (world_of (started c otp b).left))) calls) (largest 64)
generations c otp b byte ok calls u runs =
    let first = core_of (world_of (started c otp b).left) in
    (run_kept (first_reckoning first) 0 runs (start_kept c otp b byte ok)).shows.generation
    ∙ ap (λ (n : ℕ). min n (largest 64)) (from_none (refreshes_is otp (first_reckoning first) calls 0))
