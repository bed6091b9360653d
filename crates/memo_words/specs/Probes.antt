-- Where a key is looked for.
use Rattle.std.specs.Prelude.{ℕ, ◌+◌, ◌-◌, ◌*◌, ◌/◌, ◌%◌, ◌^◌}

-- the position, of 2 ^ bits, at which the search for a key begins
unfoldable pub home : ℕ → ℕ → ℕ
home code bits = code * 11400714819323198485 % 2 ^ 64 / 2 ^ (64 - bits)

-- the position at which the search for a key is after so many others
abbrev pub probed : ℕ → ℕ → ℕ → ℕ
probed code bits turn = (home code bits + turn) % 2 ^ bits
