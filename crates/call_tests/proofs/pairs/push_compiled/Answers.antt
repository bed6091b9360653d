use Rattle.std.proofs.Common.{◌≡◌, ◌≤◌, ℕ, length, ap, subst, sym}
use Rattle.adp_model.specs.Bounds.{IsScoreBound}
use Rattle.adp_model.specs.PosedProblem.{PosedProblem}
use Rattle.adp_model.specs.ProblemFields.{greatest_score}
use Rattle.call_tests.proofs.pairs.push_compiled.Goals as goal

pub compile-requires-clause-low : goal.compile-requires-clause-low
compile-requires-clause-low c =
    let scores = subst (λ (p : PosedProblem). (bound : ℕ) × IsScoreBound p.grammar p.algebra (length p.word) bound × (bound ≤ greatest_score)) c.in-Ok.ensures c.admissible.ensures.limits.scores in
    subst (λ n. (bound : ℕ) × IsScoreBound c.args.second.now.grammar c.args.second.now.algebra n bound × (bound ≤ greatest_score)) (sym (ap length c.bytes.ensures.bytes)) scores
