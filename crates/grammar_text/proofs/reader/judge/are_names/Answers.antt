use Rattle.std.proofs.Common.{List, ℕ, sym, ◌∙◌, rules, tests}
use Rattle.std.specs.Borrow.{Bor}
use Rattle.std.proofs.lemmas.List.Folds.{list_all-map}
use Rattle.std.proofs.lemmas.Iterator.{YieldsList-from_slice}
use Rattle.std.proofs.lemmas.Iterator.Search.{all_from_yields_List}
use Rattle.adp_model.specs.WellFormed.{is_name}
use Rattle.grammar_text.proofs.reader.judge.are_names.Goals as goal

pub returns : goal.returns
returns c =
    all_from_yields_List (λ (word : Bor (List ℕ)). is_name word.now) _ _ _ c.all.ensures.ran (YieldsList-from_slice c.args.texts.now cc) (λ x b q k. search (rules, tests))
    ∙ sym (list_all-map is_name (λ (word : Bor (List ℕ)). word.now) c.args.texts.now)
