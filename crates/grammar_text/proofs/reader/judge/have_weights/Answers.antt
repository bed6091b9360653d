use Rattle.std.proofs.Common.{sym, ◌∙◌, rules, tests}
use Rattle.std.specs.Option.{is_some}
use Rattle.std.proofs.lemmas.Iterator.{YieldsList-from_slice}
use Rattle.std.proofs.lemmas.Iterator.Search.{all_from_yields_List}
use Rattle.std.proofs.lemmas.List.Folds.{list_all-map}
use Rattle.job_texts.specs.Declarations as forms
use Rattle.job_texts.specs.TextFaults as faults
use Rattle.grammar_text.specs.declared.reader.declaration.Item.{Item}
use Rattle.grammar_text.specs.Seen.{item_seen}
use Rattle.grammar_text.proofs.reader.judge.have_weights.Goals as goal

pub returns : goal.returns
returns c =
    all_from_yields_List (λ (item : Item). is_some (faults.weight_of (item_seen item))) _ _ _ c.all.ensures.ran
    (YieldsList-from_slice c.args.items.now cc) (λ x b q k. search (rules, tests))
    ∙ sym (list_all-map (λ (item : forms.Item). is_some (faults.weight_of item)) item_seen c.args.items.now)
