use Rattle.std.proofs.Common.{sym, subst, ◌∙◌}
use Rattle.std.proofs.lemmas.Bool.{false≢true}
use Rattle.adp_model.specs.PosedProblem.{PosedProblem}
use Rattle.adp_model.specs.Splits.{IsViable}
use Rattle.argument_search.proofs.walk.candidate_left.Goals as goal

pub returns-then-not-have : goal.returns-then-not-have
returns-then-not-have g c = λ cuts number child asks.
    absurd
    (c.requires.others (λ is. false≢true (sym c.if-not-have.true ∙ c.have.ensures.1 is)) cuts
    (subst (λ (q : PosedProblem). IsViable q c.args.cell c.args.alt cuts) (sym c.requires.same) asks.viable))
