use Rattle.std.proofs.Common.{sym, ◌∙◌, rules, tests}
use Rattle.std.proofs.lemmas.List.Folds.{list_all-map}
use Rattle.std.proofs.lemmas.Iterator.{YieldsList-from_slice}
use Rattle.std.proofs.lemmas.Iterator.Search.{all_from_yields_List}
use Rattle.algebra_terms.specs.declared.wide_steps.Step.{Step}
use Rattle.algebra_terms.specs.WideSteps.{step_seen}
use Rattle.algebra_terms.specs.WideReading.{is_numbered}
use Rattle.algebra_terms.proofs.wide_reading.are_numbered.Goals as goal

pub returns : goal.returns
returns c =
    all_from_yields_List (λ (step : Step). is_numbered (step_seen step)) _ _ _ c.all.ensures.ran (YieldsList-from_slice c.args.steps.now cc) (λ x b q k. search (rules, tests))
    ∙ sym (list_all-map is_numbered step_seen c.args.steps.now)
