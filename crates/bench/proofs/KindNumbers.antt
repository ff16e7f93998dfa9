-- The number of a refresh's kind is that of its variant in order. Assumes nothing.
use mathlib.Core.Path.{◌≡◌, refl}
use denote.Enum.Declared.{tag_of}
use Rattle.glass.specs.contracts.RefreshKind.{the_type}
use Rattle.glass.specs.declared.RefreshKind.{RefreshKind}
use Rattle.glass.specs.declared.RefreshKind.TheVariants.{PowerOn, Full, Partial}
use Rattle.bench.specs.Made.{kind_number}

pub kind_is : (kind : RefreshKind) → tag_of the_type kind ≡ kind_number kind
kind_is PowerOn = refl
kind_is Full = refl
kind_is Partial = refl
