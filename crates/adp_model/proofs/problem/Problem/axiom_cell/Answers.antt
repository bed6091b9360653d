use Rattle.std.proofs.Common.{ℕ, length, ap, ◌∙◌}
use Rattle.adp_model.specs.declared.cell.Cell.{Cell}
use Rattle.adp_model.specs.PosedProblem.{PosedProblem}
use Rattle.adp_model.proofs.problem.Problem.axiom_cell.Goals as goal

-- the cell of a rule and the first letters
abbrev front : ℕ → ℕ → Cell
front rule to = record { rule = rule; from = 0; to = to }

pub returns : goal.returns
returns c =
    ap (λ (p : PosedProblem). front p.grammar.axiom (length c.letters.result.now)) c.self.view_is
    ∙ ap (λ xs. front c.args.self.now.grammar.axiom (length xs)) c.letters.ensures.word
