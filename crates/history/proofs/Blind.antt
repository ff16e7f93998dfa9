-- What a step of the chip does to the core does not look at the glass, the journal or the log, and most steps leave the glass: the two laws,
-- and how they go through a sequence, a choice and a larger bundle. Assumes nothing.
use Rattle.std.specs.Prelude.{Option}
use mathlib.Core.Path.{◌≡◌, sym, ap, subst, ◌∙◌}
use mathlib.Core.Bool.{Bool, true, false}
use mathlib.Core.List.{List, []}
use lib.IntN.{ℤ, pos}
use Rattle.numbers.specs.Choice.{pick}
use Rattle.glass.specs.declared.RefreshKind.TheVariants.{PowerOn}
use Rattle.config.specs.declared.Ssd1677Config.{Ssd1677Config}
use Rattle.counts.specs.Counts.{Picture}
use Rattle.panel.specs.declared.Display.{Display}
use Rattle.panel.specs.declared.Panel.{Panel}
use Rattle.device.specs.declared.Ssd1677.{Ssd1677}
use Rattle.world.specs.World.{WithLog, with_log, WithGlass, with_glass, WithGlassLog, with_glass_log, WithRam, with_ram, WithBuffers, with_buffers, WithPlanes, with_planes}
use Rattle.history.specs.Reckon.{unseen}

-- ---- what the core keeps, as the same bundle with nothing else in it
abbrev pub plain : Ssd1677 → Ssd1677
plain d =
    record {
      config = d.config;
      now = d.now;
      regs = d.regs;
      bus = d.bus;
      clock = d.clock;
      analog = d.analog;
      status = d.status;
      panel =
          record {
            swing = pos 0;
            border = pos 0;
            image = record { width = 0; height = 0; border = 0; generation = 0; kind = PowerOn; interrupted = false; started = 0; at = 0 };
          };
      display = d.display;
      journal = record { count = 0; dropped = 0; reserved_reported = false };
    }

abbrev pub plain_log : WithLog → WithLog
plain_log k = with_log (plain k.device) []

abbrev pub plain_glass : WithGlass → WithGlass
plain_glass g = with_glass (plain g.device) [] unseen

abbrev pub plain_glass_log : WithGlassLog → WithGlassLog
plain_glass_log w = with_glass_log (plain w.device) [] unseen []

abbrev pub plain_ram : WithRam → WithRam
plain_ram w = with_ram (plain w.device) w.black_white w.red []

abbrev pub plain_buffers : WithBuffers → WithBuffers
plain_buffers w = with_buffers (plain w.device) [] w.luts unseen []

abbrev pub plain_planes : WithPlanes → WithPlanes
plain_planes w = with_planes (plain w.device) [] unseen w.black_white w.red []

-- ---- what the whole numbers stand on
pub record Seen : Type 0 where
  pub config : Ssd1677Config
  pub panel : Panel
  pub display : Option Display
  pub states : List ℤ
  pub picture : Picture

abbrev pub seen_by : Ssd1677 → List ℤ → Picture → Seen
seen_by d states picture = record { config = d.config; panel = d.panel; display = d.display; states = states; picture = picture }

abbrev pub seen_device : Ssd1677 → Seen
seen_device d = seen_by d [] unseen

abbrev pub seen_log : WithLog → Seen
seen_log k = seen_device k.device

abbrev pub seen_ram : WithRam → Seen
seen_ram w = seen_device w.device

abbrev pub seen_glass : WithGlass → Seen
seen_glass g = seen_by g.device g.states g.picture

abbrev pub seen_glass_log : WithGlassLog → Seen
seen_glass_log w = seen_by w.device w.states w.picture

abbrev pub seen_buffers : WithBuffers → Seen
seen_buffers w = seen_by w.device w.states w.picture

-- the glass of one with the states and the picture of another
abbrev pub behind : List ℤ → Picture → Seen → Seen
behind states picture s = record { config = s.config; panel = s.panel; display = s.display; states = states; picture = picture }

-- ---- the two laws
abbrev pub Blind : {A B : Type 0} → (A → A) → (B → B) → (A → B) → Type 0
Blind {A = A} p q f = (a : A) → q (f a) ≡ q (f (p a))

pub record Quiet {A : Type 0} (p : A → A) (see : A → Seen) (f : A → A) : Type 0 where
  pub blind : Blind p p f
  pub still : (a : A) → see (f a) ≡ see a

pub blind_then : {A B C : Type 0} (p : A → A) (q : B → B) (r : C → C) (f : A → B) (g : B → C) → Blind p q f → Blind q r g → Blind p r (λ a. g (f a))
blind_then p q r f g bf bg a = bg (f a) ∙ ap (λ b. r (g b)) (bf a) ∙ sym (bg (f (p a)))

pub blind_pick : {A B : Type 0} (p : A → A) (q : B → B) (t : A → Bool) (f g : A → B) → ((a : A) → t a ≡ t (p a)) → Blind p q f → Blind p q g
    → Blind p q (λ a. pick (t a) (f a) (g a))
blind_pick p q t f g same bf bg a =
    subst (λ (b : Bool). q (pick (t a) (f a) (g a)) ≡ q (pick b (f (p a)) (g (p a)))) (same a) (by (t a))
  where
    by : (b : Bool) → q (pick b (f a) (g a)) ≡ q (pick b (f (p a)) (g (p a)))
    by true = bf a
    by false = bg a

module _ {A : Type 0} (p : A → A) (see : A → Seen) where
  pub quiet_then : (f g : A → A) → Quiet p see f → Quiet p see g → Quiet p see (λ a. g (f a))
  quiet_then f g qf qg =
      record {
        blind = blind_then p p p f g qf.blind qg.blind;
        still = λ a. qg.still (f a) ∙ qf.still a;
      }

  pub quiet_pick : (t : A → Bool) (f g : A → A) → ((a : A) → t a ≡ t (p a)) → Quiet p see f → Quiet p see g → Quiet p see (λ a. pick (t a) (f a) (g a))
  quiet_pick t f g same qf qg = record { blind = blind_pick p p t f g same qf.blind qg.blind; still = λ a. by a (t a) }
    where
      by : (a : A) (b : Bool) → see (pick b (f a) (g a)) ≡ see a
      by a true = qf.still a
      by a false = qg.still a
