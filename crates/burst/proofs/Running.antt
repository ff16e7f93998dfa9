-- Bytes one after the other: one more, the first event that is none, and the end. Assumes nothing.
use mathlib.Core.Path.{◌≡◌, refl, sym, ap, ◌∙◌}
use mathlib.Core.Bool.{Bool, true, false}
use mathlib.Core.List.{List}
use Prim.Native.Nat.{ℕ, zero, suc, ◌+◌, ◌-◌, ◌≤◌, ◌<◌}
use native.Mathlib.Omega.{arith}
use lib.ListN.{get_or}
use Rattle.numbers.specs.Choice.{pick}
use Rattle.ram.specs.Plane.{written_at}
use Rattle.burst.specs.declared.Course.{Course}
use Rattle.burst.specs.declared.Reached.{Reached}
use Rattle.burst.specs.Running.{takes, onward, ByteStep, taking, Ran, ran, running}

module _ (kinds times values : List ℕ) (c : Course) where
  abbrev goes : ℕ → ℕ → Reached → List ℕ → Ran
  goes n i s plane = running kinds times values c n i s plane

  -- the event at a place
  abbrev pub takingAt : ℕ → Reached → List ℕ → ByteStep
  takingAt i s plane = taking c (get_or kinds i 0) (get_or times i 0) (get_or values i 0) s plane

  -- where an event leads
  abbrev onwards : ℕ → ℕ → Reached → List ℕ → ByteStep → Ran
  onwards n i s plane t = pick t.done (goes n (i + 1) t.reached t.plane) (ran i s plane)

  one : (n i : ℕ) (s : Reached) (plane : List ℕ) → goes (suc n) i s plane ≡ onwards n i s plane (takingAt i s plane)
  unfolding running
  one n i s plane = by (takes c (get_or kinds i 0) (get_or times i 0) s plane)
    where
      by : (b : Bool)
          → pick b (goes n (i + 1) (onward c (get_or times i 0) s) (written_at plane s.counter (get_or values i 0))) (ran i s plane)
          ≡ pick b
          (goes n (i + 1) (pick b (onward c (get_or times i 0) s) s) (pick b (written_at plane s.counter (get_or values i 0)) plane))
          (ran i s plane)
      by true = refl
      by false = refl

  -- the events that are left, after one of them
  left : (count i : ℕ) → i < count → count - i ≡ suc (count - (i + 1))
  left count i h = omega (arith, h)

  next : (count i : ℕ) (s : Reached) (plane : List ℕ) → i < count
      → goes (count - i) i s plane ≡ onwards (count - (i + 1)) i s plane (takingAt i s plane)
  next count i s plane h = ap (λ (k : ℕ). goes k i s plane) (left count i h) ∙ one (count - (i + 1)) i s plane

  module _ (count i : ℕ) (s : Reached) (plane : List ℕ) (r : Ran) (inv : goes (count - i) i s plane ≡ r) where
    -- one byte more
    pub more : (t : ByteStep) → i < count → t ≡ takingAt i s plane → t.done ≡ true → goes (count - (i + 1)) (i + 1) t.reached t.plane ≡ r
    more t h e d =
        sym (ap (λ (b : Bool). pick b (goes (count - (i + 1)) (i + 1) t.reached t.plane) (ran i s plane)) d)
        ∙ ap (onwards (count - (i + 1)) i s plane) e
        ∙ sym (next count i s plane h)
        ∙ inv

    -- the first event that is none
    pub ends : (t : ByteStep) → i < count → t ≡ takingAt i s plane → t.done ≡ false → ran i s t.plane ≡ r
    ends t h e d =
        ap (ran i s) (stays t e d)
        ∙ sym (ap (λ (b : Bool). pick b (goes (count - (i + 1)) (i + 1) t.reached t.plane) (ran i s plane)) d)
        ∙ ap (onwards (count - (i + 1)) i s plane) e
        ∙ sym (next count i s plane h)
        ∙ inv
      where
        stays : (t : ByteStep) → t ≡ takingAt i s plane → t.done ≡ false → t.plane ≡ plane
        stays t e d = ap (λ (x : ByteStep). x.plane) e ∙ by (takes c (get_or kinds i 0) (get_or times i 0) s plane) (sym (ap (λ (x : ByteStep). x.done) e) ∙ d)
          where
            by : (b : Bool) → b ≡ false → pick b (written_at plane s.counter (get_or values i 0)) plane ≡ plane
            by b h = rw h

    -- no event is left
    pub all : count - i ≡ 0 → ran i s plane ≡ r
    unfolding running
    all h = sym (ap (λ (k : ℕ). goes k i s plane) h) ∙ inv

  -- the bytes end among the events
  pub from_on : (n i : ℕ) (s : Reached) (plane : List ℕ) → i ≤ (goes n i s plane).made
  unfolding running
  from_on zero i s plane = omega arith
  from_on (suc n) i s plane =
      by (takes c (get_or kinds i 0) (get_or times i 0) s plane) _
      (from_on n (i + 1) (onward c (get_or times i 0) s) (written_at plane s.counter (get_or values i 0)))
    where
      by : (b : Bool) (r : Ran) → i + 1 ≤ r.made → i ≤ (pick b r (ran i s plane)).made
      by true r h = omega (arith, h)
      by false r h = omega arith

  pub not_past : (n i : ℕ) (s : Reached) (plane : List ℕ) → (goes n i s plane).made ≤ i + n
  unfolding running
  not_past zero i s plane = omega arith
  not_past (suc n) i s plane =
      by (takes c (get_or kinds i 0) (get_or times i 0) s plane) _
      (not_past n (i + 1) (onward c (get_or times i 0) s) (written_at plane s.counter (get_or values i 0)))
    where
      by : (b : Bool) (r : Ran) → r.made ≤ i + 1 + n → (pick b r (ran i s plane)).made ≤ i + suc n
      by true r h = omega (arith, h)
      by false r h = omega arith
