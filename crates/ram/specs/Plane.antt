-- A plane of RAM as the list of its bytes, 680 rows of 120 (datasheet §6.5).
use Rattle.std.specs.Prelude.{Bool, false, ◌&&◌, List, ℕ, ◌+◌, ◌-◌, ◌*◌, ◌/◌, ◌%◌, ltb, length, get_or, set, Option, Some, None}
use Rattle.numbers.specs.Choice.{pick, bit_of}
use Rattle.counter.specs.declared.Counter.{Counter}
use Rattle.ram.specs.declared.Plane.{Plane}
use Rattle.ram.specs.declared.Plane.TheVariants.{BlackWhite, Red}

-- one of the two planes (§6.5)
abbrev pub plane_of : List ℕ → List ℕ → Plane → List ℕ
plane_of black_white red BlackWhite = black_white
plane_of black_white red Red = red

-- the byte of column x / 8 and row y, 120 columns to a row and 680 rows; outside there is none (§6.5)
unfoldable pub index_of : Counter → Option ℕ
index_of c = pick (ltb (c.x / 8) 120 && ltb c.y 680) (Some (c.y * 120 + c.x / 8)) None

-- the byte at a place; outside there is none (SCOPE, Buffers), nor past the end of a list too short (docs/DECISIONS.md, 22)
abbrev pub byte_at : List ℕ → Option ℕ → Option ℕ
byte_at p (Some i) = pick (ltb i (length p)) (Some (get_or p i 0)) None
byte_at p None = None

-- what a read at the counter finds: the byte the index names, or none (SCOPE, Buffers)
unfoldable pub read_at : List ℕ → Counter → Option ℕ
read_at p c = byte_at p (index_of c)

-- a place is within the list
abbrev pub is_there : List ℕ → Option ℕ → Bool
is_there p (Some i) = ltb i (length p)
is_there p None = false

-- whether a write at the counter finds its byte (ram.rs, `write`)
unfoldable pub wrote_at : List ℕ → Counter → Bool
wrote_at p c = is_there p (index_of c)

-- a byte put at a place; `set` past the end changes nothing, as a write outside does (ram.rs)
abbrev pub put_at : List ℕ → Option ℕ → ℕ → List ℕ
put_at p (Some i) b = set p i b
put_at p None b = p

-- the plane after a write at the counter: that byte is b and every other is as it was (ram.rs, `write`)
unfoldable pub written_at : List ℕ → Counter → ℕ → List ℕ
written_at p c b = put_at p (index_of c) b

-- the bit of a byte's pixel, the most significant at the lowest x (§6.5)
abbrev pub bit_in : Option ℕ → ℕ → Option Bool
bit_in (Some b) x = Some (bit_of b (7 - x % 8))
bit_in None x = None

-- the bit of the pixel at x in a row (ram.rs, `bit`)
unfoldable pub bit_at : List ℕ → ℕ → ℕ → Option Bool
bit_at p x row = bit_in (read_at p (record { x = x; y = row })) x
