-- The first bytes were judged.
use Rattle.std.proofs.Common.{◌≡◌, take}
use Rattle.std.specs.List.{list_all}
use Rattle.adp_model.specs.Printable.{is_printable_byte}
use Rattle.adp_model.proofs.text.is_printable.Given as goal

abbrev pub invariant-loop-byte : goal.invariant-loop-byte
invariant-loop-byte l = l.printable ≡ list_all is_printable_byte (take l.byte-index l.bytes)
