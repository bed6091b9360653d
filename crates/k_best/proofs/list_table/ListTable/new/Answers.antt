use Rattle.std.proofs.Common.{◌≡◌, List, length, sym, ap, subst, ◌∙◌, arith}
use Rattle.std.specs.Prelude.{slice_get}
use Rattle.adp_model.specs.PosedProblem.{PosedProblem}
use Rattle.adp_model.specs.Cells.{IsCellBound}
use Rattle.k_best.specs.declared.list_table.Part.{Part}
use Rattle.k_best.proofs.ListParts.{replicated, replicated_length}
use Rattle.k_best.proofs.list_table.ListTable.new.Goals as goal

pub returns : goal.returns
returns c =
    let empty : Part = record { start = 0; end = 0 } in
    let are = c.in_ok-parts.ensures.items_if_clones_equal (λ y e. e) in
    let each : IsCellBound c.args.problem.now.grammar (length c.args.problem.now.word) c.problem.inside.cells =
    subst (λ (p : PosedProblem). IsCellBound p.grammar (length p.word) c.problem.inside.cells) c.problem.view_is c.problem.invariant.cells in
    let many : c.problem.inside.cells ≡ length c.in_ok-parts.parts.items =
    sym (ap length are ∙ replicated_length c.problem.inside.cells empty) in
    record {
      problem = c.in_ok-of.ensures ∙ c.requires;
      each = subst (IsCellBound c.args.problem.now.grammar (length c.args.problem.now.word)) many each;
      within = λ place part at.
          let same : part ≡ empty = replicated c.problem.inside.cells empty place part (sym (ap (λ (parts : List Part). slice_get parts place) are) ∙ at) in
          (omega (arith, ap (λ (x : Part). x.start) same, ap (λ (x : Part). x.end) same), omega (arith, ap (λ (x : Part). x.end) same));
    }
