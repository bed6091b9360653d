-- The text of a schedule: one character for each entry, which names a machine.
use Rattle.std.specs.Prelude.{ℕ, ◌+◌, ◌-◌, Bool, ◌&&◌, ◌||◌, nat_le, List, length, map, if◌then◌else◌}
use Rattle.std.specs.List.{list_all}
use Rattle.adp_model.specs.Ascii.{digit_nine, digit_zero, small_a, small_v}

-- `0` to `9`, or `a` to `v`
abbrev pub is_entry_byte : ℕ → Bool
is_entry_byte byte =
    (nat_le digit_zero byte && nat_le byte digit_nine) || (nat_le small_a byte && nat_le byte small_v)

-- the number of the machine that a character names: the letters go on from 10
abbrev pub entry_of : ℕ → ℕ
entry_of byte = if nat_le byte digit_nine then byte - digit_zero else byte - small_a + 10

-- the numbers of the machines that the characters of a schedule name
abbrev pub machines_of : List ℕ → List ℕ
machines_of text = map entry_of text

-- a schedule has at most this many entries
abbrev pub most_entries : ℕ
most_entries = 4096

abbrev pub is_schedule : List ℕ → Bool
is_schedule text = nat_le 1 (length text) && nat_le (length text) most_entries && list_all is_entry_byte text
