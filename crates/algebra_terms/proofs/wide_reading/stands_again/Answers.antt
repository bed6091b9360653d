use Rattle.std.proofs.Common.{◌≡◌, Bool, false, List, [], ◌∷◌, ◌||◌, map, refl, sym, ◌∙◌, ap, rules, tests}
use Rattle.std.specs.List.{list_any}
use Rattle.std.proofs.lemmas.Iterator.{YieldsList-from_slice}
use Rattle.std.proofs.lemmas.Iterator.Search.{any_from_yields_List}
use Rattle.job_texts.specs.TermText.{begins_number}
use Rattle.algebra_terms.specs.declared.wide_steps.Step.{Step}
use Rattle.algebra_terms.specs.WideSteps.{step_seen}
use Rattle.algebra_terms.specs.WideReading.{is_leaf_of}
use Rattle.algebra_terms.proofs.wide_reading.stands_again.Goals as goal

any_seen : {A B : Type 0} (seen : A → B) (p : B → Bool) (xs : List A) → list_any (λ x. p (seen x)) xs ≡ list_any p (map seen xs)
any_seen seen p [] = refl
any_seen seen p (x ∷ xs) = ap (λ (b : Bool). p (seen x) || b) (any_seen seen p xs)

pub returns-then-not-begins_number : goal.returns-then-not-begins_number
returns-then-not-begins_number c =
    let word = c.in-Leaf.word.now in
    let variable : begins_number word ≡ false = sym c.begins_number.ensures ∙ c.if-not-begins_number.true in
    let any = any_from_yields_List (λ (step : Step). is_leaf_of word (step_seen step)) _ _ _ c.any.ensures.ran (YieldsList-from_slice c.args.others.now cc) (λ x b q k. search (rules, tests))
    ∙ any_seen step_seen (is_leaf_of word) c.args.others.now in
    rw c.in-Leaf.is (rw variable any)
