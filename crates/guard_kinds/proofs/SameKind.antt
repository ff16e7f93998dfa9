-- Two kinds whose numbers agree are equal, and what that says of an active command. Assumes nothing.
use Rattle.std.specs.Prelude.{Option, Some, None}
use mathlib.Core.Path.{◌≡◌, refl, sym, ap, ◌∙◌}
use mathlib.Core.Bool.{Bool, true, false, ◌&&◌}
use lib.Dec.{eqb}
use borrow.Author.Tests.{eqb-true, eq-eqb}
use Rattle.numbers.specs.Choice.{pick}
use Rattle.numbers.proofs.Cases.{left, right}
use Rattle.std.specs.Option.{option_eq}
use Rattle.device.specs.declared.Kind.{Kind}
use Rattle.device.specs.contracts.KindPartialEq.TheImpl.{eq-value}
use Rattle.device.specs.declared.Kind.TheVariants.{Write, Read, Unsupported, Reserved}
use Rattle.device.specs.declared.Params.TheVariants.{Exactly, Between, Stream}
use Rattle.device.specs.declared.Active as the
use Rattle.device.specs.declared.Current.{Current}
use Rattle.device.specs.declared.Current.TheVariants.{Active}
use Rattle.command.specs.Table.{kind_of}
use Rattle.guard_kinds.specs.Kinds.{Code, code_of, same_code, same_kind, gives, current_fine}

-- ---- the numbers of a kind name it
kind_from : Code → Kind
kind_from x =
    pick (eqb x.form 0) (Write (Exactly x.least))
    (pick (eqb x.form 1) (Write (Between x.least x.most))
    (pick (eqb x.form 2) (Write Stream) (pick (eqb x.form 3) Read (pick (eqb x.form 4) Unsupported Reserved))))

from_code : (k : Kind) → kind_from (code_of k) ≡ k
unfolding kind_from
from_code (Write (Exactly n)) = refl
from_code (Write (Between n m)) = refl
from_code (Write Stream) = refl
from_code Read = refl
from_code Unsupported = refl
from_code Reserved = refl

from_same : (x y : Code) → same_code x y ≡ true → kind_from x ≡ kind_from y
unfolding kind_from
from_same x y e =
    let f = left (eqb x.form y.form && eqb x.least y.least) (eqb x.most y.most) e in
    rw (
      eqb-true x.form y.form (left (eqb x.form y.form) (eqb x.least y.least) f),
      eqb-true x.least y.least (right (eqb x.form y.form) (eqb x.least y.least) f),
      eqb-true x.most y.most (right (eqb x.form y.form && eqb x.least y.least) (eqb x.most y.most) e),
    )

pub same_is_equal : (a b : Kind) → same_kind a b ≡ true → a ≡ b
unfolding same_kind
same_is_equal a b e = sym (from_code a) ∙ from_same (code_of a) (code_of b) e ∙ from_code b

agrees : (x : Code) → same_code x x ≡ true
agrees x = rw (eq-eqb x.form x.form refl, eq-eqb x.least x.least refl, eq-eqb x.most x.most refl)

pub same_as_itself : (k : Kind) → same_kind k k ≡ true
unfolding same_kind
same_as_itself k = agrees (code_of k)

-- an active command that has the kind that `kind` gives it passes 13
pub active_fine : (a : the.Active) → kind_of a.command ≡ Some a.kind → current_fine (Active a) ≡ true
unfolding current_fine
active_fine a e = ap (λ (x : Option Kind). gives x a.kind) e ∙ same_as_itself a.kind

-- ---- what `==` says of two kinds
twice : (t : Bool) → t ≡ (t && t)
twice true = refl
twice false = refl

pub compared : (a b : Kind) → eq-value.it a b ≡ same_kind a b
unfolding same_kind
compared (Write (Exactly n)) (Write (Exactly k)) = twice (eqb n k)
compared (Write (Exactly n)) (Write (Between k l)) = refl
compared (Write (Exactly n)) (Write Stream) = refl
compared (Write (Exactly n)) Read = refl
compared (Write (Exactly n)) Unsupported = refl
compared (Write (Exactly n)) Reserved = refl
compared (Write (Between n m)) (Write (Exactly k)) = refl
compared (Write (Between n m)) (Write (Between k l)) = refl
compared (Write (Between n m)) (Write Stream) = refl
compared (Write (Between n m)) Read = refl
compared (Write (Between n m)) Unsupported = refl
compared (Write (Between n m)) Reserved = refl
compared (Write Stream) (Write (Exactly k)) = refl
compared (Write Stream) (Write (Between k l)) = refl
compared (Write Stream) (Write Stream) = refl
compared (Write Stream) Read = refl
compared (Write Stream) Unsupported = refl
compared (Write Stream) Reserved = refl
compared Read (Write (Exactly k)) = refl
compared Read (Write (Between k l)) = refl
compared Read (Write Stream) = refl
compared Read Read = refl
compared Read Unsupported = refl
compared Read Reserved = refl
compared Unsupported (Write (Exactly k)) = refl
compared Unsupported (Write (Between k l)) = refl
compared Unsupported (Write Stream) = refl
compared Unsupported Read = refl
compared Unsupported Unsupported = refl
compared Unsupported Reserved = refl
compared Reserved (Write (Exactly k)) = refl
compared Reserved (Write (Between k l)) = refl
compared Reserved (Write Stream) = refl
compared Reserved Read = refl
compared Reserved Unsupported = refl
compared Reserved Reserved = refl

pub given_compared : (o : Option Kind) (k : Kind) → option_eq eq-value.it o (Some k) ≡ gives o k
given_compared None k = refl
given_compared (Some given) k = compared given k
