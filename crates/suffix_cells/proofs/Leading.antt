-- The rules to which a rule leads one letter later.
use Rattle.std.proofs.Common.{◌≡◌, ℕ, ◌+◌, ◌≤◌, ◌<◌, Option, Some, None, List, [], ◌∷◌, length, slice_get, refl, sym, ap, subst, inl, inr, ⊎_elim, ◌∙◌}
use Rattle.std.specs.Prelude.{IfSome}
use Rattle.std.specs.Int.{bit_at}
use Rattle.adp_model.specs.declared.grammar.Arg.{Arg}
use Rattle.adp_model.specs.declared.grammar.Arg.TheVariants.{Rule}
use Rattle.adp_model.specs.declared.cell.Cell.{Cell}
use Rattle.adp_model.specs.PosedProblem.{PosedProblem}
use Rattle.adp_model.specs.Parts.{alternatives_of, arguments_of}
use Rattle.adp_model.specs.Demand.{IsDemandedChild}
use Rattle.split_lines.specs.declared.kept.KeptAlternative.{KeptAlternative}
use Rattle.split_lines.specs.Kept.{IsAlternative}
use Rattle.split_lines.specs.Laid.{Demands}
use Rattle.cell_tables.specs.Marks.{CellMarks, IsMarkedInRow}
use Rattle.cell_demands.specs.Rows.{AreMarkedInRows}
use Rattle.cell_demands.proofs.LineDemands.{demands_behind, first_of_child}
use Rattle.cell_demands.proofs.MarkSteps.{same_rule}
use Rattle.suffix_cells.specs.Straight.{AreStraight}
use Rattle.suffix_cells.specs.Targets.{AreTargets, HasRule, LeadsBy, LeadsTo}
use Rattle.suffix_cells.specs.Visits.{IsVisited, Visited, suffix_cell}
use Rattle.suffix_cells.proofs.Straights.{child_ends}

-- ---- one alternative

module _ (p : PosedProblem) (order : List ℕ) (rule alternative : ℕ) (kept : KeptAlternative) (is : IsAlternative p rule alternative kept) where
  behind : (from : ℕ) (child : Cell) → Demands p (arguments_of p.grammar rule alternative) from (length p.word) child
      → (middle : ℕ) × (middle ≡ from + kept.letters) × Demands p kept.others.now middle (length p.word) child
  behind from child demands =
      let D : List Arg → Type 0 = λ arguments. Demands p arguments from (length p.word) child in
      let parts = demands_behind p kept.front.now kept.others.now from (length p.word) child is.in_front.fixed (subst D is.arguments demands) in
      (parts.0, is.in_front.letters from parts.0 parts.1, parts.2)

  -- tokens alone
  pub leads_nowhere : kept.others.now ≡ [] → (bits : ℕ) → LeadsBy p order rule alternative bits
  leads_nowhere none bits from child (allowed, demands) =
      let parts = behind from child demands in
      absurd (subst (λ others. Demands p others parts.0 (length p.word) child) none parts.2)

  -- one letter, and then a rule
  pub leads_on : (argument : Arg) (other number bits : ℕ) → kept.others.now ≡ argument ∷ [] → argument ≡ Rule other → kept.letters ≡ 1
      → slice_get order number ≡ Some other → bit_at bits number ≡ 1 → LeadsBy p order rule alternative bits
  leads_on argument other number bits one it letter stands set from child (allowed, demands) =
      let parts = behind from child demands in
      by parts.0 (parts.1 ∙ ap (λ letters. from + letters) letter) (subst (λ others. Demands p others parts.0 (length p.word) child) one parts.2)
    where
      by : (middle : ℕ) → middle ≡ from + 1 → Demands p (argument ∷ []) middle (length p.word) child
          → (child.from ≡ from + 1) × HasRule order bits child.rule
      by middle later (end, fits, inl (cell, ends)) =
          let same = same_rule argument other child.rule it cell.rule in
          (sym cell.begins ∙ later, (number, subst (λ r. slice_get order number ≡ Some r) (sym same) stands, set))
      by middle later (end, fits, inr none) = absurd none

-- with more bits
pub leads_still : (p : PosedProblem) (order : List ℕ) (rule alternative bits more : ℕ)
    → ((number : ℕ) → bit_at bits number ≡ 1 → bit_at more number ≡ 1)
    → LeadsBy p order rule alternative bits → LeadsBy p order rule alternative more
leads_still p order rule alternative bits more kept leads from child demands =
    let it = leads from child demands in
    (it.0, (it.1.0, it.1.1, kept it.1.0 it.1.2))

-- all alternatives
pub leads_to : (p : PosedProblem) (order : List ℕ) (rule bits : ℕ)
    → ((alternative : ℕ) → length (arguments_of p.grammar rule alternative) ≤ 4)
    → ((alternative : ℕ) → alternative < length (alternatives_of p.grammar rule) → LeadsBy p order rule alternative bits)
    → LeadsTo p order rule bits
leads_to p order rule bits few each from child is =
    let it = first_of_child p (suffix_cell p rule from) few child is in
    each it.0 it.1 from child it.2

-- what is told of a number
pub told : (p : PosedProblem) (order : List ℕ) (targets : List (Option ℕ)) → AreTargets p order targets → (number rule : ℕ)
    → slice_get order number ≡ Some rule → (found : Option ℕ) → IfSome found (λ bits. slice_get targets number ≡ Some (Some bits))
    → IfSome found (LeadsTo p order rule)
told p order targets are number rule stands None at = tt
told p order targets are number rule stands (Some bits) at = are number rule bits stands at

-- ---- what is visited is marked already

pub all_marked : (marks : CellMarks) (Holds : Cell → Type 0) → ((cell : Cell) → Holds cell → IsMarkedInRow marks cell)
    → AreMarkedInRows marks marks Holds
all_marked marks Holds here = record {
  marked = record {
    problem = refl;
    exact = λ other. (inl, ⊎_elim (λ was. was) (λ holds. inl (here other holds)));
    rows_stay = λ other stays. stays;
  };
  in_rows = here;
}

pub nothing_left : (p : PosedProblem) → AreStraight p → (visits : Visited) → visits.marks.problem ≡ p → (rule from bits : ℕ)
    → LeadsTo p visits.order rule bits → ((number : ℕ) → bit_at bits number ≡ 1 → IsVisited visits (from + 1) number)
    → AreMarkedInRows visits.marks visits.marks (IsDemandedChild p (suffix_cell p rule from))
nothing_left p straight visits same rule from bits leads visited =
    all_marked visits.marks (IsDemandedChild p (suffix_cell p rule from)) here
  where
    here : (child : Cell) → IsDemandedChild p (suffix_cell p rule from) child → IsMarkedInRow visits.marks child
    here child is =
        let it = leads from child is in
        let at = visited it.1.0 it.1.2 in
        let told : Some at.rule ≡ Some child.rule = sym at.stands ∙ it.1.1 in
        let same_rule : at.rule ≡ child.rule = cc in
        let ends : length visits.marks.problem.word ≡ child.to =
        ap (λ (q : PosedProblem). length q.word) same ∙ sym (child_ends p straight (suffix_cell p rule from) child is) in
        let cell : suffix_cell visits.marks.problem at.rule (from + 1) ≡ child =
        λ k. record { rule = same_rule k; from = sym it.0 k; to = ends k } in
        subst (IsMarkedInRow visits.marks) cell at.marked
