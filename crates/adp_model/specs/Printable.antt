-- Printable ASCII: what names, words and literals are made of.
use Rattle.std.specs.Prelude.{ℕ, List, Bool, ◌&&◌, nat_le, IsTrue}
use Rattle.std.specs.List.{list_all}
use Rattle.adp_model.specs.Ascii.{space, tilde}

-- a byte from the space to the tilde
abbrev pub is_printable_byte : ℕ → Bool
is_printable_byte byte = nat_le space byte && nat_le byte tilde

-- every byte is printable
abbrev pub IsPrintable : List ℕ → Type 0
IsPrintable bytes = IsTrue (list_all is_printable_byte bytes)
