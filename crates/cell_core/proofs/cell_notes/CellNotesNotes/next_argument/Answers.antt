use Rattle.std.proofs.Common.{subst}
use Rattle.std.specs.Prelude.{MatchOption}
use Rattle.adp_model.specs.SplitArguments.{IsSplitArgument}
use Rattle.memo_model.specs.Visits.{argument_at}
use Rattle.cell_tables.specs.Noted.{Notes, IsNoted}
use Rattle.argument_search.specs.Seeking.{IsNextSought, IsNoneSought}
use Rattle.cell_core.proofs.PassingNone.{nothing_passed}
use Rattle.cell_core.proofs.cell_notes.CellNotesNotes.next_argument.Goals as goal

pub returns-then-self : goal.returns-then-self
returns-then-self c =
    subst
    (λ (notes : Notes).
    MatchOption c.seek.result (IsNoneSought c.args.self.now.problem (IsNoted notes) c.args.visit)
    (λ found. IsSplitArgument c.args.self.now.problem (argument_at c.args.visit.cell found.0)
    × IsNextSought c.args.self.now.problem (IsNoted notes) c.args.visit found.0 found.1))
    c.noted-noted.ensures
    (subst
    (λ q.
    MatchOption c.seek.result (IsNoneSought q (IsNoted c.noted-noted.result.now) c.args.visit)
    (λ found. IsSplitArgument q (argument_at c.args.visit.cell found.0)
    × IsNextSought q (IsNoted c.noted-noted.result.now) c.args.visit found.0 found.1))
    c.problem-problem.ensures c.seek.ensures.next)

pub returns : goal.returns
returns c =
    nothing_passed c.args.self.now.problem (IsNoted c.args.self.now) c.args.visit c.seek-2.result
    (subst
    (λ q.
    MatchOption c.seek-2.result (IsNoneSought q (λ _. ⊥) c.args.visit)
    (λ found. IsSplitArgument q (argument_at c.args.visit.cell found.0)
    × IsNextSought q (λ _. ⊥) c.args.visit found.0 found.1))
    c.problem-problem.ensures c.seek-2.ensures.next)
