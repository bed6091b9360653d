use Rattle.std.proofs.Common.{is_none, sym, ◌∙◌, rules, tests}
use Rattle.std.proofs.lemmas.List.Folds.{list_all-map}
use Rattle.std.proofs.lemmas.Iterator.{YieldsList-from_slice}
use Rattle.std.proofs.lemmas.Iterator.Search.{all_from_yields_List}
use Rattle.job_texts.specs.Declarations as forms
use Rattle.grammar_text.specs.declared.reader.declaration.Alternative.{Alternative}
use Rattle.grammar_text.specs.Seen.{alternative_seen}
use Rattle.grammar_text.proofs.reader.shape.have_no_sizes.Goals as goal

pub returns : goal.returns
returns c =
    all_from_yields_List (λ (alternative : Alternative). is_none (alternative_seen alternative).size) _ _ _ c.all.ensures.ran (YieldsList-from_slice c.args.alternatives.now cc) (λ x b q k. search (rules, tests))
    ∙ sym (list_all-map (λ (alternative : forms.Alternative). is_none alternative.size) alternative_seen c.args.alternatives.now)
