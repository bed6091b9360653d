use Rattle.std.proofs.Common.{sym, ◌∙◌, rules, tests}
use Rattle.std.proofs.lemmas.Iterator.{YieldsList-from_slice}
use Rattle.std.proofs.lemmas.Iterator.Search.{any_from_yields_List}
use Rattle.job_texts.specs.TextFaults.{has_crossed_bounds}
use Rattle.grammar_text.specs.declared.reader.declaration.Argument.{Argument}
use Rattle.grammar_text.specs.Seen.{argument_seen}
use Rattle.grammar_text.proofs.Tests.{list_any-map}
use Rattle.grammar_text.proofs.reader.judge.has_crossed_argument.Goals as goal

pub returns : goal.returns
returns c =
    any_from_yields_List (λ (argument : Argument). has_crossed_bounds (argument_seen argument)) _ _ _ c.any.ensures.ran
    (YieldsList-from_slice c.args.alternative.now.arguments.items cc) (λ x b q k. search (rules, tests))
    ∙ sym (list_any-map has_crossed_bounds argument_seen c.args.alternative.now.arguments.items)
