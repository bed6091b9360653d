use Rattle.std.proofs.Common.{◌≡◌, take}
use Rattle.std.specs.Str.Parse.{digits_value}
use Rattle.table_certificate.specs.KeptForms.{kept}
use Rattle.table_certificate.proofs.numbers.value.Given as goal

abbrev pub invariant-loop-byte : goal.invariant-loop-byte
invariant-loop-byte l = l.value ≡ kept (digits_value 10 (take l.byte-index l.digits))
