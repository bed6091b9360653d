use Rattle.std.proofs.Common.{ℤ, FitsSigned, w64, rules, subst, sym}
use Rattle.std.proofs.lemmas.Int.{to_z-of_z}
use Rattle.adp_model.specs.PosedProblem.{axiom_cell}
use Rattle.adp_model.specs.Answers.{IsAnswer}
use Rattle.lex_product.specs.CompiledTerms.{IsJoinedFrom}
use Rattle.lex_product.specs.PairOrder.{scores_of}
use Rattle.adp_main.proofs.CompiledWords.{joined_scores}
use Rattle.adp_main.proofs.lex.both_scores.Goals as goal

pub returns-in-NoCandidate : goal.returns-in-NoCandidate
returns-in-NoCandidate c =
    let p = c.args.problem.now in
    let none = subst (IsAnswer p (axiom_cell p)) c.in-NoCandidate.is c.requires.finished.1.answer in
    record { there = none; both = λ name asked for same. none }

pub pair_of-requires : goal.pair_of-requires
pair_of-requires c =
    let p = c.args.problem.now in
    let fits : FitsSigned w64 c.in-Best.score = search rules in
    let best = subst (IsAnswer p (axiom_cell p)) c.in-Best.is c.requires.finished.1.answer in
    let asked = c.requires.compiled in
    let joined = joined_scores asked.0 asked.1 c.args.compiled.now asked.2
    c.compiled_algebras_change_scores_alone.ensures.trees c.compiled_scores_are_both_scores.ensures p asked.3
    (axiom_cell p) best.0 best.1.derived in (
      scores_of asked.1 asked.2.second best.0,
      simp to_z-of_z (subst (λ (score : ℤ). IsJoinedFrom c.args.compiled.now.multiplier c.args.compiled.now.same score
          (scores_of asked.1 asked.2.second best.0)) (sym best.2) joined),
    )

pub returns-in-Best : goal.returns-in-Best
returns-in-Best c =
    let p = c.args.problem.now in
    let fits : FitsSigned w64 c.in-Best.score = search rules in
    let best = subst (IsAnswer p (axiom_cell p)) c.in-Best.is c.requires.finished.1.answer in
    record {
      there = (best.0, best.1);
      both = λ name asked for same. (
        best.0,
        best.1,
        c.pair_of.ensures (scores_of asked for.second best.0)
            (simp to_z-of_z (subst (λ (score : ℤ). IsJoinedFrom c.args.compiled.now.multiplier c.args.compiled.now.same score
            (scores_of asked for.second best.0)) (sym best.2)
            (joined_scores name asked c.args.compiled.now for c.compiled_algebras_change_scores_alone.ensures.trees
            c.compiled_scores_are_both_scores.ensures p same (axiom_cell p) best.0 best.1.derived))),
      );
    }
