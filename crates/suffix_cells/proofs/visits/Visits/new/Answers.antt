use Rattle.std.proofs.Common.{◌≡◌, ℕ, zero, ◌+◌, List, length, replicate, rules, ap, sym, subst, inl, ◌∙◌}
use Rattle.std.specs.Prelude.{slice_index}
use Rattle.std.specs.Int.{bit_at}
use Rattle.std.proofs.lemmas.List.{length-replicate}
use Rattle.adp_model.specs.PosedProblem.{PosedProblem}
use Rattle.cell_tables.specs.Marks.{IsMarkedInRow}
use Rattle.cell_tables.proofs.CellCounts.{no_cells}
use Rattle.suffix_cells.specs.Visits.{AreNumbers}
use Rattle.suffix_cells.proofs.VisitSteps.{no_bit}
use Rattle.suffix_cells.proofs.visits.Visits.new.Goals as goal

pub invariant_of-result : goal.invariant_of-result
invariant_of-result c =
    let marks = c.in_ok-marks.marks in
    let problem : c.problem-problem.result.now ≡ marks.problem = c.problem-problem.ensures ∙ sym c.in_ok-marks.ensures.problem in
    let zeros : c.in_ok-bits.bits.items ≡ replicate c.positions.result 0 = c.in_ok-bits.ensures.items_if_clones_equal (λ other e. search rules) in
    let N : PosedProblem → Type 0 = λ p. AreNumbers (length p.grammar.rules) c.args.order.items c.in_ok-numbers.numbers.items in
    let O : List ℕ → Type 0 = λ order. AreNumbers (length c.problem-problem.result.now.grammar.rules) order c.in_ok-numbers.numbers.items in
    record {
      problem = problem;
      numbers = subst N problem (subst O c.deref.ensures.value c.in_ok-numbers.ensures);
      each_start = ap length zeros ∙ length-replicate c.positions.result zero ∙ c.positions.ensures.same
          ∙ ap (λ (p : PosedProblem). length p.word + 1) (sym c.in_ok-marks.ensures.problem);
      in_rows = λ cell marked. absurd (c.in_ok-marks.ensures.none cell marked);
      exact = λ from number. (
        λ set. absurd (no_bit c.positions.result from number (ap (λ (xs : List ℕ). bit_at (slice_index xs from) number) (sym zeros) ∙ set)),
        λ it. absurd (c.in_ok-marks.ensures.none _ (inl it.marked)),
      );
      counted = no_cells (IsMarkedInRow marks) (λ cell row. c.in_ok-marks.ensures.none cell (inl row));
    }
