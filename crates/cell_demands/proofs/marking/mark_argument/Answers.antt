use Rattle.std.proofs.Common.{◌≡◌, ℕ, refl, sym, subst, inl, inr, ◌∙◌}
use Rattle.adp_model.specs.declared.grammar.Arg.{Arg}
use Rattle.adp_model.specs.declared.grammar.Arg.TheVariants.{Rule}
use Rattle.adp_model.specs.declared.cell.Cell.{Cell}
use Rattle.split_lines.specs.Laid.{IsCellOf}
use Rattle.cell_tables.specs.Marks.{CellMarks, AreMarkedToo}
use Rattle.cell_demands.proofs.MarkSteps.{too_none}
use Rattle.cell_demands.proofs.marking.mark_argument.Goals as goal

pub mark-requires : goal.mark-requires
mark-requires c =
    c.requires (record { rule = c.in-Rule.rule; from = c.args.from; to = c.args.to }) (record { rule = c.in-Rule.is; begins = refl; ends = refl })

-- the cell of a rule on a span is this one alone
module _ (argument : Arg) (rule from to : ℕ) (is : argument ≡ Rule rule) (other : Cell) where
  one_cell : IsCellOf argument from to other → other ≡ record { rule = rule; from = from; to = to }
  one_cell it =
      let told : Rule rule ≡ Rule other.rule = sym is ∙ it.rule in
      let e : rule ≡ other.rule = cc in
      λ k. record { rule = sym e k; from = sym it.begins k; to = sym it.ends k }

  cell_of : other ≡ record { rule = rule; from = from; to = to } → IsCellOf argument from to other
  cell_of e = subst (IsCellOf argument from to) (sym e) (record { rule = is; begins = refl; ends = refl })

marked_cell : (argument : Arg) (rule from to : ℕ) → argument ≡ Rule rule → (old new : CellMarks)
    → AreMarkedToo old new (λ other. other ≡ record { rule = rule; from = from; to = to })
    → AreMarkedToo old new (IsCellOf argument from to)
marked_cell argument rule from to is old new marked = record {
  problem = marked.problem;
  exact = λ cell. (
    λ now. elim ((marked.exact cell).0 now) [ inl was ↦ inl was | inr this ↦ inr (cell_of argument rule from to is cell this) ],
    λ either. (marked.exact cell).1 (elim either [ inl was ↦ inl was | inr it ↦ inr (one_cell argument rule from to is cell it) ]),
  );
  rows_stay = marked.rows_stay;
}

pub returns-in-Rule-clause-marked : goal.returns-in-Rule-clause-marked
returns-in-Rule-clause-marked c =
    marked_cell c.args.argument.now c.in-Rule.rule c.args.from c.args.to c.in-Rule.is c.args.marks.now c.mark.new.self c.mark.ensures.marked

pub returns-in-Rule-clause-in_row : goal.returns-in-Rule-clause-in_row
returns-in-Rule-clause-in_row c = λ cell it.
    c.mark.ensures.in_row cell (one_cell c.args.argument.now c.in-Rule.rule c.args.from c.args.to c.in-Rule.is cell it)

pub returns-in_default : goal.returns-in_default
returns-in_default c =
    let none : (cell : Cell) → IsCellOf c.args.argument.now c.args.from c.args.to cell → ⊥ = λ cell it. c.in_default.not-Rule cell.rule it.rule in
    record { marked = too_none c.args.marks.now (IsCellOf c.args.argument.now c.args.from c.args.to) none; in_row = λ cell it. absurd (none cell it) }
