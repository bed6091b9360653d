use Rattle.std.proofs.Common.{◌≤◌, ℕ, length, refl, sym, subst, ap, arith}
use Rattle.std.specs.Prelude.{IfSome}
use Rattle.std.proofs.lemmas.Bool.{false≢true}
use Rattle.adp_model.specs.declared.cell.Cell.{Cell}
use Rattle.adp_model.specs.Sizes.{IsWithinSizes}
use Rattle.adp_model.specs.Demand.{Axiom}
use Rattle.cell_core.proofs.FreshMachines.{axiom_within}
use Rattle.cell_core.proofs.work.demands_axiom.Goals as goal

pub returns-then-letters-least : goal.returns-then-letters-least
returns-then-letters-least c =
    let letters = ap (λ (cell : Cell). cell.to) c.axiom_cell-cell.ensures in
    let rule = ap (λ (cell : Cell). cell.rule) c.axiom_cell-cell.ensures in (
      λ t. absurd (false≢true t),
      λ demanded.
          let parts = (c.sizes-least.ensures (length c.args.problem.now.word)).0
          (subst (λ (rule : ℕ). IsWithinSizes c.args.problem.now.grammar rule (length c.args.problem.now.word)) (sym rule)
          (axiom_within c.args.problem.now (λ cell demanded. c.demanded_cells_are_counted.ensures c.args.problem.now c.admissible.ensures.checked.well_formed cell demanded) demanded)) in
          let least = parts.0 in
          absurd (omega (arith, c.if-letters-least.true)),
    )

pub returns-then-greatest-letters : goal.returns-then-greatest-letters
returns-then-greatest-letters c =
    let letters = ap (λ (cell : Cell). cell.to) c.axiom_cell-cell.ensures in
    let rule = ap (λ (cell : Cell). cell.rule) c.axiom_cell-cell.ensures in (
      λ t. absurd (false≢true t),
      λ demanded.
          let parts = (c.sizes-least.ensures (length c.args.problem.now.word)).0
          (subst (λ (rule : ℕ). IsWithinSizes c.args.problem.now.grammar rule (length c.args.problem.now.word)) (sym rule)
          (axiom_within c.args.problem.now (λ cell demanded. c.demanded_cells_are_counted.ensures c.args.problem.now c.admissible.ensures.checked.well_formed cell demanded) demanded)) in
          let most : length c.args.problem.now.word ≤ c.in-Some.greatest =
          subst (λ greatest. IfSome greatest (λ most. length c.args.problem.now.word ≤ most)) c.in-Some.is parts.1 in
          absurd (omega (arith, c.if-greatest-letters.true)),
    )

pub returns-else-greatest-letters : goal.returns-else-greatest-letters
returns-else-greatest-letters c =
    let letters = ap (λ (cell : Cell). cell.to) c.axiom_cell-cell.ensures in
    let rule = ap (λ (cell : Cell). cell.rule) c.axiom_cell-cell.ensures in
    let more : length c.args.problem.now.word ≤ c.in-Some.greatest = omega (arith, c.if-greatest-letters.false) in
    let less : c.sizes-least.result.0 ≤ length c.args.problem.now.word = omega (arith, c.if-letters-least.false) in (
      λ t.
          Axiom (subst (λ (rule : ℕ). IsWithinSizes c.args.problem.now.grammar rule (length c.args.problem.now.word)) rule
          ((c.sizes-least.ensures (length c.args.problem.now.word)).1
          (less, subst (λ greatest. IfSome greatest (λ most. length c.args.problem.now.word ≤ most)) (sym c.in-Some.is) more))),
      λ demanded. refl,
    )

pub returns-in-None : goal.returns-in-None
returns-in-None c =
    let letters = ap (λ (cell : Cell). cell.to) c.axiom_cell-cell.ensures in
    let rule = ap (λ (cell : Cell). cell.rule) c.axiom_cell-cell.ensures in
    let less : c.sizes-least.result.0 ≤ length c.args.problem.now.word = omega (arith, c.if-letters-least.false) in (
      λ t.
          Axiom (subst (λ (rule : ℕ). IsWithinSizes c.args.problem.now.grammar rule (length c.args.problem.now.word)) rule
          ((c.sizes-least.ensures (length c.args.problem.now.word)).1
          (less, subst (λ greatest. IfSome greatest (λ most. length c.args.problem.now.word ≤ most)) (sym c.in-None.is) tt))),
      λ demanded. refl,
    )
