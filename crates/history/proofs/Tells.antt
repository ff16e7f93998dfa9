-- How many reports a step of the chip makes depends on what the core keeps and on whether the command has reported a reserved value: the law,
-- and how it goes through a sequence and a choice. Assumes nothing.
use Prim.Native.Nat.{ℕ, ◌+◌, ◌-◌, ◌≤◌, min}
use mathlib.Core.Path.{◌≡◌, refl, sym, ap, ap₂, ◌∙◌}
use mathlib.Core.Bool.{Bool, true, false}
use native.Mathlib.Omega.{arith}
use lib.Dec.{ltb}
use borrow.Author.Tests.{ltb-true, ltb-false, lt-ltb}
use Rattle.numbers.specs.Choice.{pick}
use Rattle.numbers.specs.Saturation.{largest}
use Rattle.diagnostic.specs.declared.DiagnosticKind.{DiagnosticKind}
use Rattle.diagnostic.specs.declared.DiagnosticKind.TheVariants.{ReservedValue}
use Rattle.diagnostic.specs.declared.Journal.{Journal}
use Rattle.diagnostic.specs.Log.{Entries, room, kept, one_more_dropped, reported, marked, reserved_reported}
use Rattle.diagnostic.specs.Record.{fields_of, record_of}
use Rattle.chip.specs.Close.{reserved_unreported}
use Rattle.history.proofs.Blind.{Blind, blind_then}

-- ---- journals
abbrev pub journal : ℕ → ℕ → Bool → Journal
journal count one_more_dropped flag = record { count = count; dropped = one_more_dropped; reserved_reported = flag }

pub journals : {c c' d d' : ℕ} {f f' : Bool} → c ≡ c' → d ≡ d' → f ≡ f' → journal c d f ≡ journal c' d' f'
journals ec ed ef = λ i. journal (ec i) (ed i) (ef i)

-- so many reports more
abbrev pub grown : Journal → ℕ → Bool → Journal
grown j n flag = journal (min (j.count + n) 1024) (min (j.dropped + (j.count + n - 1024)) (largest 64)) flag

-- one
abbrev pub one : Journal → Journal
one j =
    pick (ltb j.count room) (journal (j.count + 1) j.dropped j.reserved_reported)
    (journal j.count (min (j.dropped + 1) (largest 64)) j.reserved_reported)

-- a reserved value
abbrev pub one_reserved : Journal → Journal
one_reserved j = pick j.reserved_reported j (one (journal j.count j.dropped true))

pub reported_one : (e : Entries) (time : ℕ) (kind : DiagnosticKind) → (reported e time kind).journal ≡ one e.journal
unfolding reported
reported_one e time kind = by (ltb e.journal.count room)
  where
    by : (b : Bool)
        → (pick b (kept e (record_of time (fields_of kind))) (one_more_dropped e)).journal
        ≡ pick b (journal (e.journal.count + 1) e.journal.dropped e.journal.reserved_reported)
        (journal e.journal.count (min (e.journal.dropped + 1) (largest 64)) e.journal.reserved_reported)
    by true = refl
    by false = refl

pub reserved_one : (e : Entries) (time command value : ℕ) → (reserved_reported e time command value).journal ≡ one_reserved e.journal
unfolding reserved_reported
reserved_one e time command value = by e.journal.reserved_reported
  where
    by : (b : Bool)
        → (pick b e (reported (marked e) time (ReservedValue command value))).journal
        ≡ pick b e.journal (one (journal e.journal.count e.journal.dropped true))
    by true = refl
    by false = reported_one (marked e) time (ReservedValue command value)

-- ---- at most so many reports: what is made of an empty log is made of every one
pub record Adds (n : ℕ) (h : Journal → Journal) : Type 0 where
  pub few : (l : Journal) → l.count + n ≤ 1024 → (h l).count ≤ l.count + n
  pub grows : (j l : Journal) → l.count + n ≤ 1024 → h (grown j l.count l.reserved_reported) ≡ grown j (h l).count (h l).reserved_reported

pub adds_none : Adds 0 (λ j. j)
adds_none = record { few = λ l h. omega arith; grows = λ j l h. refl }

pub adds_fresh : Adds 0 reserved_unreported
adds_fresh = record { few = λ l h. omega arith; grows = λ j l h. refl }

pub adds_then : (m n : ℕ) (f g : Journal → Journal) → Adds m f → Adds n g → Adds (m + n) (λ j. g (f j))
adds_then m n f g af ag =
    record {
      few = λ l h. omega (arith, af.few l (omega arith), ag.few (f l) (omega (arith, af.few l (omega arith))));
      grows = λ j l h. ap g (af.grows j l (omega arith)) ∙ ag.grows j (f l) (omega (arith, af.few l (omega arith)));
    }

pub adds_more : (m n : ℕ) (f : Journal → Journal) → m ≤ n → Adds m f → Adds n f
adds_more m n f le a =
    record {
      few = λ l h. omega (arith, le, a.few l (omega (arith, le)));
      grows = λ j l h. a.grows j l (omega (arith, le));
    }

one_room : (l : Journal) → l.count + 1 ≤ 1024 → one l ≡ journal (l.count + 1) l.dropped l.reserved_reported
one_room l h =
    ap
    (λ (b : Bool).
    pick b (journal (l.count + 1) l.dropped l.reserved_reported) (journal l.count (min (l.dropped + 1) (largest 64)) l.reserved_reported))
    (lt-ltb l.count room (omega arith))

one_grown : (j : Journal) (n : ℕ) (flag : Bool) → one (grown j n flag) ≡ grown j (n + 1) flag
one_grown j n flag = by (ltb (min (j.count + n) 1024) room) refl
  where
    by : (b : Bool) → ltb (min (j.count + n) 1024) room ≡ b
        → pick b (journal ((grown j n flag).count + 1) (grown j n flag).dropped flag) (journal (grown j n flag).count (min ((grown j n flag).dropped + 1) (largest 64)) flag)
        ≡ grown j (n + 1) flag
    by true e = let h = ltb-true (min (j.count + n) 1024) room e in journals (omega (arith, h)) (omega (arith, h)) refl
    by false e = let h = ltb-false (min (j.count + n) 1024) room e in journals (omega (arith, h)) (omega (arith, h)) refl

pub adds_one : Adds 1 one
adds_one =
    record {
      few = λ l h. omega (arith, ap (λ (j : Journal). j.count) (one_room l h));
      grows = λ j l h. one_grown j l.count l.reserved_reported ∙ sym (ap (λ (k : Journal). grown j k.count k.reserved_reported) (one_room l h));
    }

adds_marked : Adds 0 (λ j. journal j.count j.dropped true)
adds_marked = record { few = λ l h. omega arith; grows = λ j l h. refl }

-- by whether the command has reported one: the journal made of the log is of the same flag
adds_flag : (n : ℕ) (f g : Journal → Journal) → Adds n f → Adds n g → Adds n (λ j. pick j.reserved_reported (f j) (g j))
adds_flag n f g af ag = record { few = λ l h. few l h l.reserved_reported; grows = λ j l h. grows j l h l.reserved_reported }
  where
    few : (l : Journal) → l.count + n ≤ 1024 → (b : Bool) → (pick b (f l) (g l)).count ≤ l.count + n
    few l h true = af.few l h
    few l h false = ag.few l h

    grows : (j l : Journal) → l.count + n ≤ 1024 → (b : Bool)
        → pick b (f (grown j l.count l.reserved_reported)) (g (grown j l.count l.reserved_reported))
        ≡ grown j (pick b (f l) (g l)).count (pick b (f l) (g l)).reserved_reported
    grows j l h true = af.grows j l h
    grows j l h false = ag.grows j l h

pub adds_reserved : Adds 1 one_reserved
adds_reserved =
    adds_flag 1 (λ j. j) (λ j. one (journal j.count j.dropped true)) (adds_more 0 1 (λ j. j) (omega arith) adds_none)
    (adds_then 0 1 (λ j. journal j.count j.dropped true) one adds_marked adds_one)

-- ---- a bundle: what the core keeps of it, and its journal
pub record Bundle (A : Type 0) : Type 0 where
  pub plain : A → A
  pub journal : A → Journal

-- a step makes at most so many reports, and what the core keeps decides which
pub record Tells {A B : Type 0} (p : Bundle A) (q : Bundle B) (n : ℕ) (f : A → B) : Type 0 where
  pub blind : Blind p.plain q.plain f
  pub makes : A → Journal → Journal
  pub is : (a : A) → q.journal (f a) ≡ makes (p.plain a) (p.journal a)
  pub adds : (a : A) → Adds n (makes a)

module _ {A B : Type 0} (p : Bundle A) (q : Bundle B) where
  pub tells_none : (f : A → B) → Blind p.plain q.plain f → ((a : A) → q.journal (f a) ≡ p.journal a) → Tells p q 0 f
  tells_none f blind same = record { blind = blind; makes = λ a j. j; is = same; adds = λ a. adds_none }

  pub tells_more : (m n : ℕ) (f : A → B) → m ≤ n → Tells p q m f → Tells p q n f
  tells_more m n f le t = record { blind = t.blind; makes = t.makes; is = t.is; adds = λ a. adds_more m n (t.makes a) le (t.adds a) }

  -- by what the core has
  pub tells_by : {D : Type 0} (n : ℕ) (d : A → D) (f : D → A → B) → ((a : A) → d a ≡ d (p.plain a)) → ((x : D) → Tells p q n (f x)) → Tells p q n (λ a. f (d a) a)
  tells_by n d f same t =
      record {
        blind = λ a. (t (d a)).blind a ∙ ap (λ x. q.plain (f x (p.plain a))) (same a);
        makes = λ a. (t (d a)).makes a;
        is = λ a. (t (d a)).is a ∙ ap (λ x. (t x).makes (p.plain a) (p.journal a)) (same a);
        adds = λ a. (t (d a)).adds a;
      }

  pub tells_pick : (m n : ℕ) (t : A → Bool) (f g : A → B) → ((a : A) → t a ≡ t (p.plain a)) → Tells p q m f → Tells p q n g
      → Tells p q (m + n) (λ a. pick (t a) (f a) (g a))
  tells_pick m n t f g same tf tg = tells_by (m + n) t (λ b a. pick b (f a) (g a)) same by
    where
      by : (b : Bool) → Tells p q (m + n) (λ a. pick b (f a) (g a))
      by true = tells_more m (m + n) f (omega arith) tf
      by false = tells_more n (m + n) g (omega arith) tg

pub tells_then : {A B C : Type 0} (p : Bundle A) (q : Bundle B) (r : Bundle C) (m n : ℕ) (f : A → B) (g : B → C) → Tells p q m f → Tells q r n g
    → Tells p r (m + n) (λ a. g (f a))
tells_then p q r m n f g tf tg =
    record {
      blind = blind_then p.plain q.plain r.plain f g tf.blind tg.blind;
      makes = λ a j. tg.makes (q.plain (f a)) (tf.makes a j);
      is = λ a. tg.is (f a) ∙ ap₂ tg.makes (tf.blind a) (tf.is a);
      adds = λ a. adds_then m n (tf.makes a) (tg.makes (q.plain (f a))) (tf.adds a) (tg.adds (q.plain (f a)));
    }
