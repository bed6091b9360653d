use Rattle.std.proofs.Common.{List, ℕ, sym, ◌∙◌, rules, tests}
use Rattle.std.specs.List.{list_all}
use Rattle.std.specs.Option.{is_some}
use Rattle.std.proofs.lemmas.Iterator.{YieldsList-from_slice}
use Rattle.std.proofs.lemmas.Iterator.Search.{all_from_yields_List}
use Rattle.job_texts.specs.TextFaults.{bound_of, argument_bounds}
use Rattle.grammar_text.specs.declared.reader.declaration.Argument.{Argument}
use Rattle.grammar_text.specs.Seen.{argument_seen}
use Rattle.grammar_text.proofs.Tests.{list_all-flat_map}
use Rattle.grammar_text.proofs.reader.judge.have_bounds.Goals as goal

pub returns : goal.returns
returns c =
    all_from_yields_List (λ (argument : Argument). list_all (λ (word : List ℕ). is_some (bound_of word)) (argument_bounds (argument_seen argument))) _ _ _ c.all.ensures.ran
    (YieldsList-from_slice c.args.arguments.now cc) (λ x b q k. search (rules, tests))
    ∙ sym (list_all-flat_map (λ (word : List ℕ). is_some (bound_of word)) argument_bounds argument_seen c.args.arguments.now)
