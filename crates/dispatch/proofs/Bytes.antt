-- A call that gives no byte leaves what it left, refused or not. Assumes nothing.
use Rattle.std.specs.Prelude.{None, Result, Ok, Err}
use mathlib.Core.Path.{◌≡◌, refl}
use Rattle.device.specs.declared.Ssd1677.{Ssd1677}
use Rattle.guard.specs.declared.Refused.{Refused}
use Rattle.query.specs.Outcome.{answer_in, state_in}
use Rattle.driven.specs.Read.{reading_in}
use Rattle.dispatch.specs.Dispatch.{silent}

pub same_answer : (r : Result Ssd1677 Refused) → answer_in (silent r) ≡ answer_in r
same_answer (Ok state) = refl
same_answer (Err refused) = refl

pub same_state : (r : Result Ssd1677 Refused) → (reading_in (silent r)).state ≡ state_in r
same_state (Ok state) = refl
same_state (Err refused) = refl

pub no_byte : (r : Result Ssd1677 Refused) → (reading_in (silent r)).byte ≡ None
no_byte (Ok state) = refl
no_byte (Err refused) = refl
