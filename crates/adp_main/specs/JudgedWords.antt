-- The words of a job, judged: each of them keeps its limits.
use Rattle.std.specs.Prelude.{◌≤◌, length}
use Rattle.std.specs.List.{AllByRecursion}
use Rattle.verdicts.specs.Command.{Command}
use Rattle.verdicts.specs.Posed.{posed_words}
use Rattle.verdicts.specs.SecondAlgebra.{IsAdmissibleWith}
use Rattle.adp_main.specs.declared.checking.CheckedJob.{CheckedJob}
use Rattle.adp_main.specs.declared.limits.Judged.{Judged}
use Rattle.adp_main.specs.KeptLengths.{HaveKept}
use Rattle.adp_main.specs.Reporting.{AreShort}
use Rattle.adp_main.specs.Seconds.{AreJobRows, IsSecondOf}

-- all words are admissible, and what was judged tells of each what its report needs
pub record AreJudged (command : Command) (job : CheckedJob) (judged : Judged) : Type 0 where
  pub few : length job.words ≤ 65536
  pub second : IsSecondOf command.second job.checked job.second
  pub rows : AreJobRows job.checked job.second judged.rows
  pub known : AreShort judged.rows.first.longest job.words
  pub bounds : HaveKept command.second job.checked.grammar job.checked.algebra judged.compiled.items job.words
  pub admissible : AllByRecursion (IsAdmissibleWith command.second)
      (posed_words job.checked.grammar job.checked.algebra job.words)
