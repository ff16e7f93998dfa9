-- What a command takes, by its kind (mod.rs, `write_data`, `close_command`).
use Rattle.std.specs.Prelude.{ℕ, Bool, true, false, Option, Some, None}
use Rattle.numbers.specs.Choice.{pick}
use Rattle.device.specs.declared.Bounds.{Bounds}
use Rattle.device.specs.declared.Kind.{Kind}
use Rattle.device.specs.declared.Kind.TheVariants.{Write, Read, Unsupported, Reserved}
use Rattle.device.specs.declared.Params.TheVariants.{Exactly, Between, Stream}

-- RAM data, as many bytes as written
abbrev pub is_stream : Kind → Bool
is_stream (Write (Exactly count)) = false
is_stream (Write (Between least most)) = false
is_stream (Write Stream) = true
is_stream Read = false
is_stream Unsupported = false
is_stream Reserved = false

-- the fewest parameters that a command of the kind takes
abbrev pub expected_of : Kind → ℕ
expected_of (Write (Exactly count)) = count
expected_of (Write (Between least most)) = least
expected_of (Write Stream) = 0
expected_of Read = 0
expected_of Unsupported = 0
expected_of Reserved = 0

-- the most parameter bytes
abbrev pub most_of : Kind → ℕ
most_of (Write (Exactly count)) = count
most_of (Write (Between least most)) = most
most_of (Write Stream) = 0
most_of Read = 0
most_of Unsupported = 0
most_of Reserved = 0

-- the fewest and the most, but for RAM data
abbrev pub bounds_of : Kind → Option Bounds
bounds_of k = pick (is_stream k) None (Some (record { least = expected_of k; most = most_of k }))
