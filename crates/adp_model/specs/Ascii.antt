-- Bytes of ASCII by name.
use Rattle.std.specs.Prelude.{ℕ}

abbrev pub line_feed : ℕ
line_feed = 10

-- the first printable byte
abbrev pub space : ℕ
space = 32

abbrev pub quote : ℕ
quote = 34

abbrev pub opening_bracket : ℕ
opening_bracket = 40

abbrev pub closing_bracket : ℕ
closing_bracket = 41

abbrev pub comma : ℕ
comma = 44

abbrev pub digit_zero : ℕ
digit_zero = 48

abbrev pub digit_nine : ℕ
digit_nine = 57

abbrev pub capital_a : ℕ
capital_a = 65

abbrev pub capital_z : ℕ
capital_z = 90

abbrev pub backslash : ℕ
backslash = 92

abbrev pub underscore : ℕ
underscore = 95

abbrev pub small_a : ℕ
small_a = 97

abbrev pub small_v : ℕ
small_v = 118

abbrev pub small_x : ℕ
small_x = 120

abbrev pub small_z : ℕ
small_z = 122

-- the last printable byte
abbrev pub tilde : ℕ
tilde = 126
