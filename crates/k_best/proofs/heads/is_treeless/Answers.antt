use Rattle.std.proofs.Common.{sym, subst, arith}
use Rattle.adp_model.specs.declared.grammar.Arg.{Arg}
use Rattle.viable_splits.specs.Placing.{on_span}
use Rattle.k_best.specs.Heads.{IsTreeless}
use Rattle.k_best.proofs.heads.is_treeless.Goals as goal

pub returns-in-Nothing : goal.returns-in-Nothing
returns-in-Nothing c =
    subst (λ (argument : Arg). IsTreeless c.args.basis.now.lines.now c.args.basis.now.k (on_span argument c.args.from c.args.to))
    (sym c.in-Rule.is) (λ rank score has. c.in-Nothing.ensures rank score (omega arith) has)
