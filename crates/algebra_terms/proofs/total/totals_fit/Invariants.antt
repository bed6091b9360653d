use Rattle.std.proofs.Common.{◌≡◌, drop}
use Rattle.std.specs.List.{list_all}
use Rattle.job_texts.specs.TermText as terms
use Rattle.adp_model.specs.WellFormed.{is_in_range}
use Rattle.algebra_terms.specs.Reading.{parts_seen}
use Rattle.algebra_terms.proofs.total.totals_fit.Given as goal

abbrev pub invariant-loop-part : goal.invariant-loop-part
invariant-loop-part l =
    terms.totals_fit (parts_seen l.parts)
    ≡ list_all (λ (part : terms.Part). is_in_range (terms.total part.variable (parts_seen l.parts))) (parts_seen (drop l.part-index l.parts))
