use Rattle.std.proofs.Common.{sym, ◌∙◌, rules, tests}
use Rattle.std.proofs.lemmas.Iterator.{YieldsList-from_slice}
use Rattle.std.proofs.lemmas.Iterator.Search.{any_from_yields_List}
use Rattle.job_texts.specs.TextFaults as faults
use Rattle.grammar_text.specs.declared.reader.declaration.Alternative.{Alternative}
use Rattle.grammar_text.specs.Seen.{alternative_seen}
use Rattle.grammar_text.proofs.Tests.{list_any-map}
use Rattle.grammar_text.proofs.reader.judge.some_is_crossed.Goals as goal

pub returns : goal.returns
returns c =
    any_from_yields_List (λ (alternative : Alternative). faults.is_crossed_alternative (alternative_seen alternative)) _ _ _ c.any.ensures.ran
    (YieldsList-from_slice c.args.alternatives.now cc) (λ x b q k. search (rules, tests))
    ∙ sym (list_any-map faults.is_crossed_alternative alternative_seen c.args.alternatives.now)
