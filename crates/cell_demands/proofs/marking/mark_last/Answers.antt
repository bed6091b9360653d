use Rattle.std.proofs.Common.{[], length, refl, sym, subst, inl, ◌∙◌}
use Rattle.std.proofs.lemmas.Bool.{false≢true}
use Rattle.adp_model.specs.PosedProblem.{PosedProblem}
use Rattle.adp_model.specs.Cells.{IsCounted}
use Rattle.adp_model.specs.Splits.{FitsSpan}
use Rattle.viable_splits.specs.Placing.{on_span}
use Rattle.split_lines.specs.Laid.{IsCellOf}
use Rattle.cell_demands.proofs.MarkSteps.{marked_in_rows}
use Rattle.cell_demands.proofs.OneEnds.{cover_nowhere, marked_nowhere, last_misses, last_marked}
use Rattle.cell_demands.proofs.marking.mark_last.Goals as goal

pub mark_argument-requires : goal.mark_argument-requires
mark_argument-requires c = λ cell is.
    let C : PosedProblem → Type 0 = λ p. IsCounted p.grammar (length p.word) cell in
    subst C (sym c.requires.same_problem) (c.requires.counted cell (c.args.to, c.fits.ensures.0 c.if-not-fits.false, inl (is, refl)))

pub returns-then-not-fits : goal.returns-then-not-fits
returns-then-not-fits c =
    let p = c.args.lines.now in
    let argument = c.args.argument.now in
    let misses : FitsSpan p (on_span argument c.args.from c.args.to) → ⊥ = λ fits. false≢true (sym c.if-not-fits.true ∙ c.fits.ensures.1 fits) in
    let none = last_misses p argument c.args.from c.args.to misses in
    record {
      laid = (λ is. absurd (false≢true is), λ cover. absurd (cover_nowhere p argument [] c.args.from c.args.to none cover));
      marked = marked_nowhere p argument [] c.args.from c.args.to none c.args.begin c.args.marks.now;
    }

pub returns : goal.returns
returns c =
    let p = c.args.lines.now in
    let argument = c.args.argument.now in
    let fits = c.fits.ensures.0 c.if-not-fits.false in
    record {
      laid = (λ is. (c.args.to, fits, refl), λ cover. refl);
      marked = last_marked p argument c.args.from c.args.to fits c.args.begin c.args.marks.now c.mark_argument.new.marks
          (marked_in_rows c.args.begin c.args.marks.now c.mark_argument.new.marks
          (IsCellOf argument c.args.from c.args.to) c.mark_argument.ensures.marked c.mark_argument.ensures.in_row);
    }
