use Rattle.std.proofs.Common.{◌≡◌, ◌+ℤ◌, ◌*◌, ◌^◌, ◌≤◌, nat_abs, None, drop}
use Rattle.job_texts.specs.TermText as terms
use Rattle.algebra_terms.specs.Reading.{parts_seen}
use Rattle.algebra_terms.proofs.total.constant_of.Given as goal

abbrev pub invariant-loop-part : goal.invariant-loop-part
invariant-loop-part l = record {
  exact : (l.sum +ℤ terms.total None (parts_seen (drop l.part-index l.parts))) ≡ terms.total None (parts_seen l.parts);
  small : nat_abs l.sum ≤ 2 ^ 63 * l.part-index;
}
