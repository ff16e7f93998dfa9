-- What the bounds of a kind say of it. Assumes nothing.
use Rattle.std.specs.Prelude.{◌≡◌, Bool, true, false, Option, Some, None, is_some}
use mathlib.Core.Path.{refl, sym, ap, ◌∙◌}
use Rattle.device.specs.declared.Bounds.{Bounds}
use Rattle.device.specs.declared.Kind.{Kind}
use Rattle.device.specs.declared.Kind.TheVariants.{Write, Read, Unsupported, Reserved}
use Rattle.device.specs.declared.Params.TheVariants.{Exactly, Between, Stream}
use Rattle.device.specs.Kinds.{is_stream, expected_of, most_of, bounds_of}

pub record Bounded (k : Kind) (b : Bounds) : Type 0 where
  pub no_stream : is_stream k ≡ false
  pub least : b.least ≡ expected_of k
  pub most : b.most ≡ most_of k

pub bounded : (k : Kind) (b : Bounds) → Some b ≡ bounds_of k → Bounded k b
bounded (Write (Exactly count)) b e = record { no_stream = refl; least = cc; most = cc }
bounded (Write (Between least most)) b e = record { no_stream = refl; least = cc; most = cc }
bounded (Write Stream) b e = absurd cc
bounded Read b e = record { no_stream = refl; least = cc; most = cc }
bounded Unsupported b e = record { no_stream = refl; least = cc; most = cc }
bounded Reserved b e = record { no_stream = refl; least = cc; most = cc }

-- by whether there are bounds
module _ (k : Kind) (o : Option Bounds) (t : Bool) (e : o ≡ bounds_of k) (f : t ≡ is_some o) where
  pub streaming : t ≡ false → true ≡ is_stream k
  streaming h = by k (ap is_some (sym e) ∙ sym f ∙ h)
    where
      by : (x : Kind) → is_some (bounds_of x) ≡ false → true ≡ is_stream x
      by (Write (Exactly count)) i = i
      by (Write (Between least most)) i = i
      by (Write Stream) i = refl
      by Read i = i
      by Unsupported i = i
      by Reserved i = i

  pub not_streaming : t ≡ true → false ≡ is_stream k
  not_streaming h = by k (ap is_some (sym e) ∙ sym f ∙ h)
    where
      by : (x : Kind) → is_some (bounds_of x) ≡ true → false ≡ is_stream x
      by (Write (Exactly count)) i = refl
      by (Write (Between least most)) i = refl
      by (Write Stream) i = i
      by Read i = refl
      by Unsupported i = refl
      by Reserved i = refl

pub no_least : (k : Kind) → None ≡ bounds_of k → expected_of k ≡ 0
no_least (Write (Exactly count)) e = absurd cc
no_least (Write (Between least most)) e = absurd cc
no_least (Write Stream) e = refl
no_least Read e = refl
no_least Unsupported e = refl
no_least Reserved e = refl
