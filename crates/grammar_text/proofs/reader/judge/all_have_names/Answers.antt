use Rattle.std.proofs.Common.{sym, ◌∙◌, rules, tests}
use Rattle.std.specs.List.{list_all}
use Rattle.std.proofs.lemmas.Iterator.{YieldsList-from_slice}
use Rattle.std.proofs.lemmas.Iterator.Search.{all_from_yields_List}
use Rattle.adp_model.specs.WellFormed.{is_name}
use Rattle.job_texts.specs.TextFaults as faults
use Rattle.grammar_text.specs.declared.reader.declaration.Alternative.{Alternative}
use Rattle.grammar_text.specs.Seen.{alternative_seen}
use Rattle.grammar_text.proofs.Tests.{list_all-flat_map}
use Rattle.grammar_text.proofs.reader.judge.all_have_names.Goals as goal

pub returns : goal.returns
returns c =
    all_from_yields_List (λ (alternative : Alternative). list_all is_name (faults.alternative_names (alternative_seen alternative))) _ _ _ c.all.ensures.ran
    (YieldsList-from_slice c.args.alternatives.now cc) (λ x b q k. search (rules, tests))
    ∙ sym (list_all-flat_map is_name faults.alternative_names alternative_seen c.args.alternatives.now)
