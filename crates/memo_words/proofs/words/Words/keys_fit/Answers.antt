use Rattle.std.proofs.Common.{◌≡◌, ℕ, ◌∙◌, sym, ap, length}
use Rattle.std.proofs.Math.Logic.{∥∥₁_elim}
use Rattle.std.specs.Coded.{le_prop}
use Rattle.adp_model.specs.declared.cell.Cell.{Cell}
use Rattle.adp_model.specs.Cells.{IsCounted, IsPlaceOf}
use Rattle.memo_words.specs.CodedCells.{IsCodeOf}
use Rattle.memo_words.specs.Codes.{cell_code}
use Rattle.memo_words.specs.Passes.{plan_of, problem_of}
use Rattle.memo_words.proofs.Room.{spread}
use Rattle.memo_words.proofs.words.Words.keys_fit.Goals as goal

pub returns : goal.returns
returns c = λ keys slots demanded apart.
    let p = problem_of c.args.self.now in let len : ℕ = length p.word in
    let IsPlace : ℕ → ℕ → Type 0 = λ code k. (cell : Cell) × IsCodeOf cell code × IsCounted p.grammar len cell ×
    IsPlaceOf p.grammar len cell k in
    ∥∥₁_elim c.args.self.now.planned le_prop (λ planned.
    spread IsPlace keys slots (plan_of c.args.self.now).cells
    (λ i lt full. let d = demanded i lt full in
    let counted = c.demanded_cells_are_counted.ensures p planned.well_formed d.0 d.2 in
    let place = c.places_fill_the_bound.ensures.placed p.grammar len d.0
    (plan_of c.args.self.now).cells counted planned.cells in (
      place.0,
      c.places_fill_the_bound.ensures.below p.grammar len d.0 place.0
          (plan_of c.args.self.now).cells counted place.1 planned.cells,
      (d.0, d.1, counted, place.1),
    ))
    (λ a b k s t. let same : s.0 ≡ t.0 = c.places_tell_cells_apart.ensures p.grammar len s.0 t.0 k s.2 t.2 s.3 t.3 in
    s.1.same ∙ (ap cell_code same ∙ sym t.1.same))
    apart)
