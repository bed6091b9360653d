use Rattle.std.proofs.Common.{◌≡◌, ◌-◌, ℕ, ℤ, pos, suc, List, ◌++◌, replicate, ap, ◌∙◌, arith}
use Rattle.cell_answers.specs.TermScores.{first_values}
use Rattle.cell_answers.proofs.TermScores.{more_before}
use Rattle.cell_answers.proofs.by_term.FirstValues.+with_nothing.Goals as goal

pub returns-clause-values : goal.returns-clause-values
returns-clause-values t c =
    let before : List ℤ = first_values c.args.self in
    let others : List ℤ = replicate (c.args.more - 1) (pos 0) in
    let next : suc (c.args.more - 1) ≡ c.args.more = omega (arith, c.if-more-eq0.false) in
    c.with_nothing.ensures.values ∙ ap (λ (values : List ℤ). values ++ others) c.with.ensures.values ∙ more_before before (pos 0) others
    ∙ ap (λ (n : ℕ). before ++ replicate n (pos 0)) next
