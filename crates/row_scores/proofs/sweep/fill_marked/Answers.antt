use Rattle.std.proofs.Common.{◌≡◌, ℕ, false, Option, Some, None, refl, sym, subst, arith}
use Rattle.std.specs.Option.{is_some}
use Rattle.std.proofs.lemmas.Bool.{false≢true}
use Rattle.adp_model.specs.PosedProblem.{PosedProblem}
use Rattle.adp_model.specs.ProblemFields.{IsAdmissible}
use Rattle.row_scores.proofs.sweep.fill_marked.Goals as goal

is_None : (found : Option ℕ) → is_some found ≡ false → found ≡ None
is_None None none = refl
is_None (Some end) none = absurd (false≢true (sym none))

-- where no cell of the row is marked none is demanded
pub returns-then-is_none-clause-filled : goal.returns-then-is_none-clause-filled
returns-then-is_none-clause-filled g c =
    let p = c.args.lines.now in
    let admissible : IsAdmissible p = subst (λ (q : PosedProblem). IsAdmissible q) c.problem.ensures c.admissible.ensures in
    let none = c.next_marked.ensures.none (is_None c.next_marked.result c.if-is_none.ensures) in
    record {
      numbers = c.requires.children.0;
      filled = λ cell demanded (same_rule, same_from).
          let counted = c.demanded_cells_are_counted.ensures p admissible.checked.well_formed cell demanded in
          absurd (none cell.to (omega (arith, same_from, counted.in_order)) (record {
            from = cell.from;
            from_first = omega (arith, same_from);
            before = omega (arith, same_from);
            marked = (cell.rule, (0, omega arith, sym same_rule), (c.requires.swept.marked cell).1 demanded);
          }));
    }
