-- What each return of the code hands over, over plain variables. Assumes nothing.
use Rattle.std.specs.Prelude.{None, Ok, Err}
use Prim.Native.Nat.{ℕ}
use mathlib.Core.Path.{◌≡◌, refl, sym, ap, ◌∙◌}
use mathlib.Core.Bool.{Bool, true, false}
use mathlib.Core.List.{List, [], ◌∷◌}
use lib.ListN.{length}
use Rattle.numbers.specs.Lists.{tab}
use Rattle.config.specs.declared.ConfigError.{ConfigError}
use Rattle.config.specs.declared.PanelGeometry.{PanelGeometry}
use Rattle.config.specs.declared.Ssd1677Config.{Ssd1677Config}
use Rattle.config.specs.Answer.{Answer, accepted, refused, is_accepted, Test, first_of, answer_of}
use Rattle.config.proofs.Answers.{stops_at, goes_past, ok_accepted}
use Rattle.otp.specs.Table.{start_tests}
use Rattle.gates.specs.Gates.{gates_stored}
use Rattle.gates_laws.specs.OneToOne.{Scanned}
use Rattle.gates_laws.proofs.OneToOne.{gates_table}
use Rattle.panel.specs.declared.Panel.{Panel}
use Rattle.panel.specs.Start.{Fresh, power_on}
use Rattle.device.specs.declared.Registers.{Registers}
use Rattle.device.specs.declared.Power.TheVariants.{Running}
use Rattle.device.specs.declared.Current.TheVariants.{Idle}
use Rattle.device.specs.declared.Ssd1677.{Ssd1677}
use Rattle.registers.specs.Reset.{reset_of}
use Rattle.guard_lengths.specs.declared.Lengths.{Lengths}
use Rattle.guard_lengths.specs.Lengths.{lengths_fit, counts_fit}
use Rattle.power_on.specs.declared.StartError.{StartError}
use Rattle.power_on.specs.declared.RefusedStart.{RefusedStart}
use Rattle.power_on.specs.declared.StartError.TheVariants.{Parameters, Buffer, Counts}
use Rattle.power_on.specs.Start.{buffer_test, counts_test, all_tests, start_refused_by, start_answer_of, start_error_in, refused_start, chip_with, powered_on, chip_in, Buffers, buffers, lengths_in, Clean, clean, cleared, filled, powered, powered_up, start, started}

-- ---- the tests
module _ (p : PanelGeometry) (l : Lengths) (fit : Bool) (is : fit ≡ lengths_fit p l) where
  fits_not : fit ≡ false → refused 11 0 ≡ first_of (buffer_test p l ∷ counts_test l ∷ [])
  unfolding first_of
  fits_not h = rw (← is, h)

  module _ (counted : Bool) (counts-is : counted ≡ counts_fit l) where
    fits : fit ≡ true → counted ≡ true → accepted ≡ first_of (buffer_test p l ∷ counts_test l ∷ [])
    unfolding first_of
    fits h k = rw (← is, h, ← counts-is, k)

    counts_not : fit ≡ true → counted ≡ false → refused 15 0 ≡ first_of (buffer_test p l ∷ counts_test l ∷ [])
    unfolding first_of
    counts_not h k = rw (← is, h, ← counts-is, k)

module _ (c : Ssd1677Config) (otp : List ℕ) (l : Lengths) where
  abbrev lent : List Test
  lent = buffer_test c.panel l ∷ counts_test l ∷ []

  pub refuses_parameters : (error : ConfigError) → answer_of {A = Unit} (Err error) ≡ first_of (start_tests c otp)
      → start_answer_of {A = Unit} (Err (Parameters error)) ≡ first_of (all_tests c otp l)
  unfolding start_answer_of start_refused_by answer_of
  refuses_parameters error is = stops_at Unit Unit (start_tests c otp) lent error is

  module _ (fit : Bool) (is : answer_of {A = Unit} (Ok tt) ≡ first_of (start_tests c otp)) (fits_is : fit ≡ lengths_fit c.panel l) where
    pub refuses_buffer : fit ≡ false → start_answer_of {A = Unit} (Err Buffer) ≡ first_of (all_tests c otp l)
    unfolding start_answer_of start_refused_by
    refuses_buffer f = goes_past tt (start_tests c otp) lent (refused 11 0) is (fits_not c.panel l fit fits_is f)

    module _ (counted : Bool) (counts-is : counted ≡ counts_fit l) where
      pub refuses_counts : fit ≡ true → counted ≡ false → start_answer_of {A = Unit} (Err Counts) ≡ first_of (all_tests c otp l)
      unfolding start_answer_of start_refused_by
      refuses_counts f k = goes_past tt (start_tests c otp) lent (refused 15 0) is (counts_not c.panel l fit fits_is counted counts-is f k)

      pub passes : fit ≡ true → counted ≡ true → start_answer_of {A = Unit} (Ok tt) ≡ first_of (all_tests c otp l)
      unfolding start_answer_of
      passes f k = goes_past tt (start_tests c otp) lent accepted is (fits c.panel l fit fits_is counted counts-is f k)

-- every error refuses
refused_all : (error : StartError) → is_accepted (start_refused_by error) ≡ false
unfolding start_refused_by answer_of
refused_all (Parameters error) = sym (ok_accepted Unit (Err error))
refused_all Buffer = refl
refused_all Counts = refl

-- ---- what is set up
pub chips : (c : Ssd1677Config) (p : Panel) (r : Registers) → r ≡ reset_of c.user_id
    → record {
      config = c;
      now = 0;
      regs = r;
      bus = record { power = Running; current = Idle; busy_until = None };
      clock = false;
      analog = false;
      status = record { hv_not_ready = false; vci_low = false };
      panel = p;
      display = None;
      journal = record { count = 0; dropped = 0; reserved_reported = false };
    }
    ≡ chip_with c p
chips c p r e = rw e

pub clears : (n m k : ℕ) (b r l : List ℕ) → b ≡ tab n (λ _. 0) → r ≡ tab m (λ _. 0) → l ≡ tab k (λ _. 0) → clean b r l ≡ cleared n m k
unfolding cleared
clears n m k b r l e f g = rw (e, f, g)

pub powers_up : (c : Ssd1677Config) (b : Buffers) (x : Fresh) (e : Clean) (g : List ℕ) (d : Ssd1677)
    → x ≡ power_on c.panel c.optics (length b.states) (length b.luts) (length b.picture.pixels)
    → e ≡ cleared (length b.black_white) (length b.red) (length b.log)
    → g ≡ gates_stored c.panel c.panel.height b.gates
    → Scanned c.panel.native_scan c.panel.height
    → length b.gates ≡ c.panel.height
    → d ≡ chip_with c x.panel
    → powered d (buffers x.states x.luts x.picture e.black_white e.red g e.log) ≡ powered_up c b
unfolding powered_up powered_on filled power_on
powers_up c b x e g d p q r scanned long s = rw (s, r ∙ gates_table c.panel scanned b.gates long, q, p)

-- ---- the start
module _ (c : Ssd1677Config) (otp : List ℕ) (b : Buffers) (l : Lengths) (is : l ≡ lengths_in b) where
  same : (x : Answer) → x ≡ first_of (all_tests c otp l) → x ≡ first_of (all_tests c otp (lengths_in b))
  same x told = told ∙ ap (λ (z : Lengths). first_of (all_tests c otp z)) is

  pub starts : (d : Ssd1677) (left : Buffers) → start_answer_of {A = Unit} (Ok tt) ≡ first_of (all_tests c otp l) → powered d left ≡ powered_up c b
      → start (start_answer_of (start_error_in (Ok d))) (powered (chip_in (Ok d)) left) ≡ started c otp b
  unfolding started start_answer_of
  starts d left told e = rw (← same accepted told, e)

  pub starts_not : (error : StartError) (r : RefusedStart) → start_answer_of {A = Unit} (Err error) ≡ first_of (all_tests c otp l) → r ≡ refused_start c error
      → start (start_answer_of (start_error_in {A = Ssd1677} (Err r))) (powered (chip_in (Err r)) b) ≡ started c otp b
  unfolding started start_answer_of
  starts_not error r told is = rw (is, ← same (start_refused_by error) told, refused_all error)
