use Rattle.std.proofs.Common.{List, ℕ, sym, subst}
use Rattle.std.specs.List.{AllByRecursion}
use Rattle.verdicts.specs.SecondAlgebra.{IsAdmissibleWith}
use Rattle.adp_main.specs.KeptLengths.{HaveKept}
use Rattle.verdicts.specs.Posed.{posed_words}
use Rattle.adp_main.specs.Reporting.{AreShort}
use Rattle.adp_main.proofs.FirstLimit.{admissible-at, short_at}
use Rattle.adp_main.proofs.KeptLengths.{kept_at}
use Rattle.adp_main.proofs.writing.is_admitted.Goals as goal

pub returns-clause-known : goal.returns-clause-known
returns-clause-known c =
    short_at c.args.judged.now.rows.first.longest c.args.words.now c.args.place c.args.word.now c.requires.inside c.requires.word
    (subst (AreShort c.args.judged.now.rows.first.longest) (sym c.requires.words) c.requires.judged.known)

pub returns-clause-admissible : goal.returns-clause-admissible
returns-clause-admissible c =
    let job = c.args.job.now in
    let second = c.args.command.now.second in
    admissible-at second job.checked.grammar job.checked.algebra c.args.words.now c.args.place c.args.word.now
    c.requires.inside c.requires.word
    (subst (λ (ws : List (List ℕ)). AllByRecursion (IsAdmissibleWith second)
    (posed_words job.checked.grammar job.checked.algebra ws)) (sym c.requires.words) c.requires.judged.admissible)

pub returns-clause-bound : goal.returns-clause-bound
returns-clause-bound c =
    let job = c.args.job.now in
    let second = c.args.command.now.second in
    kept_at job.checked.grammar job.checked.algebra second c.args.judged.now.compiled.items c.args.words.now c.args.place
    c.args.word.now c.requires.inside c.requires.word
    (subst (HaveKept second job.checked.grammar job.checked.algebra c.args.judged.now.compiled.items)
    (sym c.requires.words) c.requires.judged.bounds)
