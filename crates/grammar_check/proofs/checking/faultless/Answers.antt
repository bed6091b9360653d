use Rattle.std.proofs.Common.{subst}
use Rattle.yield_sizes.specs.LoopAnswers.{IsFirstLoop}
use Rattle.grammar_check.specs.CheckAnswers.{IsFirstUnproductive}
use Rattle.grammar_check.proofs.ImpossibleFaults.{impossible_fault}
use Rattle.grammar_check.proofs.FirstFaults.{no_algebra, rule_read, sign_read, unproductive_fault, loop_fault, term_fault}
use Rattle.grammar_check.proofs.checking.faultless.Goals as goal

pub returns-in_default : goal.returns-in_default
returns-in_default c = no_algebra c.args.grammar.now c.args.algebra.now c.refusal.result c.in_default.ensures c.refusal.ensures

pub returns-in-Some-2 : goal.returns-in-Some-2
returns-in-Some-2 c =
    let grammar = c.args.grammar.now in
    let rule = c.in-Some-2.rule in
    let first = subst (IsFirstUnproductive grammar) c.in-Some-2.is c.in_ok-rule.ensures in
    unproductive_fault grammar c.args.algebra.now c.in-Some.number rule _ c.refusal-in-Some-2.result c.in-Some.ensures first
    (rule_read grammar c.as_slice.result.now rule c.index-as_slice-rule.result c.as_slice.ensures first.in_range) c.refusal-in-Some-2.ensures

pub sizes-requires-clause-productive : goal.sizes-requires-clause-productive
sizes-requires-clause-productive c = subst (IsFirstUnproductive c.args.grammar.now) c.in_default-2.is c.in_ok-rule.ensures

pub returns-in-Some-3 : goal.returns-in-Some-3
returns-in-Some-3 c =
    let grammar = c.args.grammar.now in
    let rule = c.in-Some-3.rule in
    let productive = subst (IsFirstUnproductive grammar) c.in_default-2.is c.in_ok-rule.ensures in
    let first = subst (IsFirstLoop grammar) c.in-Some-3.is c.in_ok-rule-2.ensures in
    loop_fault grammar c.args.algebra.now c.in-Some.number rule _ c.refusal-in-Some-3.result c.in-Some.ensures productive first
    (rule_read grammar c.as_slice-in-Some-3.result.now rule c.index-as_slice-rule-in-Some-3.result c.as_slice-in-Some-3.ensures first.in_range) c.refusal-in-Some-3.ensures

pub returns-in-Some-first_other_term : goal.returns-in-Some-first_other_term
returns-in-Some-first_other_term c =
    let grammar = c.args.grammar.now in
    let sign = c.in-Some-first_other_term.sign in
    let productive = subst (IsFirstUnproductive grammar) c.in_default-2.is c.in_ok-rule.ensures in
    let free = subst (IsFirstLoop grammar) c.in_default-3.is c.in_ok-rule-2.ensures in
    let first = c.in-Some-first_other_term.ensures in
    term_fault grammar c.args.algebra.now c.in-Some.number sign _ c.refusal-in-Some-first_other_term.result c.in-Some.ensures productive free first
    (sign_read grammar c.as_slice-in-Some-first_other_term.result.now sign c.index-as_slice-sign.result c.as_slice-in-Some-first_other_term.ensures first.in_range) c.refusal-in-Some-first_other_term.ensures

pub returns-in-Some-first_impossible : goal.returns-in-Some-first_impossible
returns-in-Some-first_impossible c =
    let grammar = c.args.grammar.now in
    let rule = c.in-Some-first_impossible.rule in
    let productive = subst (IsFirstUnproductive grammar) c.in_default-2.is c.in_ok-rule.ensures in
    let free = subst (IsFirstLoop grammar) c.in_default-3.is c.in_ok-rule-2.ensures in
    let first = c.in-Some-first_impossible.ensures in
    impossible_fault grammar c.args.algebra.now c.in-Some.number rule _ c.refusal-in-Some-first_impossible.result c.in-Some.ensures productive free c.in_default-first_other_term.ensures first
    (rule_read grammar c.as_slice-in-Some-first_impossible.result.now rule c.index-as_slice-rule-in-Some-first_impossible.result c.as_slice-in-Some-first_impossible.ensures first.in_range) c.refusal-in-Some-first_impossible.ensures

pub returns : goal.returns
returns c =
    let grammar = c.args.grammar.now in
    let productive = subst (IsFirstUnproductive grammar) c.in_default-2.is c.in_ok-rule.ensures in
    let free = subst (IsFirstLoop grammar) c.in_default-3.is c.in_ok-rule-2.ensures in (
      record {
        named = c.in-Some.ensures;
        productive = productive;
        no_loop = λ rule inside. free rule;
        monotone = c.in_default-first_other_term.ensures;
        possible = c.in_default-first_impossible.ensures;
      },
      free,
      c.in_ok-sizes.ensures,
    )
