use Rattle.std.proofs.Common.{◌≡◌, drop}
use Rattle.std.specs.Str.{all_ascii_digits}
use Rattle.table_certificate.proofs.numbers.are_digits.Given as goal

-- whether all are digits, what is left tells
abbrev pub invariant-loop-byte : goal.invariant-loop-byte
invariant-loop-byte l = all_ascii_digits (drop l.byte-index l.word) ≡ all_ascii_digits l.word
