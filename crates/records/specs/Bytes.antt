-- Numbers in a list of bytes, most significant byte first, and the version that either record starts with (01, "The two records").
use Rattle.std.specs.Prelude.{ℕ, ◌+◌, ◌*◌, ◌/◌, ◌%◌, ◌<◌, Bool, ◌||◌, List, [], ◌∷◌, get_or, eqb}

-- the byte at a place; 0 past the end
abbrev pub byte_at : List ℕ → ℕ → ℕ
byte_at s at = get_or s at 0

-- the number in two, three and four bytes from a place
unfoldable pub be16 : List ℕ → ℕ → ℕ
be16 s at = byte_at s at * 256 + byte_at s (at + 1)

unfoldable pub be24 : List ℕ → ℕ → ℕ
be24 s at = be16 s at * 256 + byte_at s (at + 2)

unfoldable pub be32 : List ℕ → ℕ → ℕ
be32 s at = be24 s at * 256 + byte_at s (at + 3)

-- a number as two and as four bytes
unfoldable pub bytes16 : ℕ → List ℕ
bytes16 x = x / 256 % 256 ∷ x % 256 ∷ []

unfoldable pub bytes32 : ℕ → List ℕ
bytes32 x = x / 16777216 % 256 ∷ x / 65536 % 256 ∷ x / 256 % 256 ∷ x % 256 ∷ []

-- the version of a record, cluster or plan; of each there are two (02, Jobs 2 and 7)
abbrev pub version_of : List ℕ → ℕ
version_of s = byte_at s 0

unfoldable pub known_version : ℕ → Bool
known_version version = eqb version 1 || eqb version 2

-- each element is a byte: what a slice of u8 always is, and a list of numbers need not be
abbrev pub AreBytes : List ℕ → Type 0
AreBytes s = (i : ℕ) → byte_at s i < 256
