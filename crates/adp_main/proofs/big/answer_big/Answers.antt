use Rattle.std.proofs.Common.{◌≡◌, ◌∙◌, ℕ, length, sym, ap, subst, arith}
use Rattle.std.proofs.lemmas.Result.{err_from_is_err_and}
use Rattle.adp_model.specs.declared.grammar.Grammar.{Grammar}
use Rattle.adp_model.specs.ProblemFields.{KeepsLimits}
use Rattle.adp_model.specs.BigReport.{made_word}
use Rattle.verdicts.specs.Command.{Command}
use Rattle.adp_main.proofs.MadeWords.{made_length, problem_is}
use Rattle.adp_main.proofs.Running.{not_written}
use Rattle.adp_main.proofs.big.answer_big.Goals as goal

pub returns-in_err-checked-clause-ending : goal.returns-in_err-checked-clause-ending
returns-in_err-checked-clause-ending g c =
    let p = err_from_is_err_and c.from_residual.result c.from_residual.ensures.1 in
    rw (p.1, p.2) (not_written _ _)

pub returns-in_err-word-clause-ending : goal.returns-in_err-word-clause-ending
returns-in_err-word-clause-ending g c =
    let p = err_from_is_err_and c.from_residual-in_err-word.result c.from_residual-in_err-word.ensures.1 in
    rw (p.1, p.2) (not_written _ _)

pub returns-in_err-rows-clause-ending : goal.returns-in_err-rows-clause-ending
returns-in_err-rows-clause-ending g c =
    let p = err_from_is_err_and c.from_residual-in_err-rows.result c.from_residual-in_err-rows.ensures.1 in
    rw (p.1, p.2) (not_written _ _)

pub admitted-problem-requires-clause-known : goal.admitted-problem-requires-clause-known
admitted-problem-requires-clause-known g c =
    let size : length c.in_ok-word.word ≡ c.command.inside.size =
    ap length c.in_ok-word.ensures ∙ made_length c.command.inside.seed c.command.inside.size in
    omega (arith, size, c.in_ok-rows.ensures.longest)

pub admitted-problem-requires-clause-limits : goal.admitted-problem-requires-clause-limits
admitted-problem-requires-clause-limits g c =
    let size : length c.in_ok-word.word ≡ c.args.command.now.size =
    ap length c.in_ok-word.ensures ∙ made_length c.command.inside.seed c.command.inside.size
    ∙ ap (λ (it : Command). it.size) c.command.view_is in
    subst (λ (it : Grammar × ℕ × ℕ). KeepsLimits it.0 it.1 it.2)
    (λ i. (sym c.in_ok-checked.ensures.grammar i, sym c.in_ok-checked.ensures.algebra i, sym size i))
    (c.made_words_keep_the_limits.ensures c.args.command.now.size c.in_range.ensures.size)

pub report_made-requires-clause-made : goal.report_made-requires-clause-made
report_made-requires-clause-made g c =
    λ lifetimes inside.
    problem_is c.admitted-problem.result c.in_ok-checked.checked.grammar c.in_ok-checked.checked.algebra
    c.args.command.now.seed c.args.command.now.size c.in_ok-word.word c.admitted-problem.ensures
    c.in_ok-checked.ensures.grammar c.in_ok-checked.ensures.algebra
    (c.in_ok-word.ensures ∙ ap (λ (it : Command). made_word it.seed it.size) c.command.view_is)
