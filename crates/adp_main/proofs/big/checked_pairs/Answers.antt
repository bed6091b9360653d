use Rattle.std.proofs.Common.{◌≡◌, ◌∙◌, ℕ, List, codes, Err, subst}
use Rattle.adp_model.specs.declared.grammar.Grammar.{Grammar}
use Rattle.adp_model.specs.GrammarFaults.{IsFaultless, IsGrammarFault}
use Rattle.grammar_check.specs.CheckAnswers.{MatchCheck}
use Rattle.adp_main.proofs.MadeWords.{first_algebra, no_fault}
use Rattle.adp_main.proofs.big.checked_pairs.Goals as goal

pub unreachable-requires : goal.unreachable-requires
unreachable-requires c =
    let name : c.new-name.result ≡ codes "pairs" = c.new-name.ensures ∙ c.in_ok-from_slice.ensures.items in
    no_fault (codes "pairs") c.in-Err-Fault.field-0-0 c.pairs_are_faultless.ensures.faultless
    (subst (λ (it : Grammar × List ℕ). IsGrammarFault it.0 it.1 c.in-Err-Fault.field-0-0)
    (λ i. (c.in_ok-grammar.ensures i, name i))
    (subst (λ error. MatchCheck c.in_ok-grammar.grammar c.new-name.result (Err error)) c.in-Err-Fault.field-0-is
    c.in-Err-Fault.ensures))

pub returns-in-Ok-clause-grammar : goal.returns-in-Ok-clause-grammar
returns-in-Ok-clause-grammar c = c.in-Ok.ensures.0 ∙ c.in_ok-grammar.ensures

pub returns-in-Ok-clause-algebra : goal.returns-in-Ok-clause-algebra
returns-in-Ok-clause-algebra c =
    first_algebra c.new-name.result c.in-Ok.checked.algebra
    (subst (λ (grammar : Grammar). IsFaultless grammar c.new-name.result c.in-Ok.checked.algebra)
    c.in_ok-grammar.ensures c.in-Ok.ensures.1)
