use Rattle.std.proofs.Common.{◌≡◌, drop}
use Rattle.job_texts.specs.TermText as terms
use Rattle.algebra_terms.specs.Reading.{parts_seen}
use Rattle.algebra_terms.proofs.read.are_numbers.Given as goal

abbrev pub invariant-loop-part : goal.invariant-loop-part
invariant-loop-part l = terms.are_numbers (parts_seen l.parts) ≡ terms.are_numbers (parts_seen (drop l.part-index l.parts))
