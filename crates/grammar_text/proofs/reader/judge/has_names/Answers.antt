use Rattle.std.proofs.Common.{◌≡◌, true, sym, ◌∙◌, rules, tests}
use Rattle.std.specs.List.{list_all}
use Rattle.std.proofs.lemmas.Iterator.{YieldsList-from_slice}
use Rattle.std.proofs.lemmas.Iterator.Search.{all_from_yields_List}
use Rattle.adp_model.specs.WellFormed.{is_name}
use Rattle.job_texts.specs.TextFaults.{argument_names}
use Rattle.grammar_text.specs.declared.reader.declaration.Argument.{Argument}
use Rattle.grammar_text.specs.Seen.{argument_seen}
use Rattle.grammar_text.proofs.Tests.{list_all-flat_map}
use Rattle.grammar_text.proofs.reader.judge.has_names.Goals as goal

pub returns-then-is_name : goal.returns-then-is_name
returns-then-is_name c =
    let sign : true ≡ is_name c.args.alternative.now.sign.now = c.if-is_name.ensures in
    rw (← sign)
    (all_from_yields_List (λ (argument : Argument). list_all is_name (argument_names (argument_seen argument))) _ _ _ c.all.ensures.ran
    (YieldsList-from_slice c.args.alternative.now.arguments.items cc) (λ x b q k. search (rules, tests))
    ∙ sym (list_all-flat_map is_name argument_names argument_seen c.args.alternative.now.arguments.items))
