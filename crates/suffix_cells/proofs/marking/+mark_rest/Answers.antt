use Rattle.std.proofs.Common.{◌≡◌, ℕ, ◌+◌, Option, Some, List, [], ◌∷◌, length, refl, sym, ap, subst, inr, ◌∙◌, arith}
use Rattle.std.specs.List.{AllByRecursion}
use Rattle.std.proofs.lemmas.Bool.{false≢true}
use Rattle.adp_model.specs.declared.grammar.Arg.{Arg}
use Rattle.adp_model.specs.declared.cell.Cell.{Cell}
use Rattle.adp_model.specs.PosedProblem.{PosedProblem}
use Rattle.adp_model.specs.Cells.{IsCounted}
use Rattle.adp_model.specs.Splits.{FitsSpan}
use Rattle.adp_model.specs.WellFormed.{IsKnown}
use Rattle.viable_splits.specs.Placing.{on_span}
use Rattle.split_lines.specs.Ends.{IsEndTold}
use Rattle.split_lines.specs.Laid.{Demands}
use Rattle.cell_demands.specs.Rows.{AreMarkedInRows}
use Rattle.cell_demands.proofs.OneEnds.{last_misses, none_ends, one_ends}
use Rattle.suffix_cells.specs.Straight.{IsStraight}
use Rattle.suffix_cells.specs.Visits.{suffix_cell}
use Rattle.suffix_cells.proofs.RowSteps.{alone, behind_token, fixed_first, nowhere, rule_demanded, rule_marked, straight_others}
use Rattle.suffix_cells.proofs.marking.+mark_rest.Goals as goal
use Rattle.suffix_cells.proofs.marking.+mark_rest.Goals.{After-fits, After-token_end}

-- ---- a rule

one : (t : ℕ) (c : After-fits t) → c.args.arguments.now ≡ c.in-Some.argument.now ∷ []
one t c = alone c.args.arguments.now c.in-Some.others.now c.in-Some.argument.now c.in-Rule.rule c.in-Some.ensures.cases.0 c.in-Rule.is c.requires.straight

pub visit-requires : goal.visit-requires
visit-requires t c =
    let at = (goal.at.visit-requires t c).After-fits in
    let p = c.args.lines.now in
    let C : PosedProblem → Type 0 = λ q. IsCounted q.grammar (length q.word) (suffix_cell q c.in-Rule.rule c.args.from) in
    let E : ℕ → Type 0 = λ to. IsCounted p.grammar (length p.word) (record { rule = c.in-Rule.rule; from = c.args.from; to = to }) in
    let cell : Cell = record { rule = c.in-Rule.rule; from = c.args.from; to = c.args.to } in
    let D : List Arg → Type 0 = λ arguments. Demands p arguments c.args.from c.args.to cell in
    subst C (sym c.requires.same_problem) (subst E c.requires.whole (c.requires.counted cell (subst D (sym (one t at))
    (rule_demanded p c.in-Some.argument.now c.in-Rule.rule c.args.from c.args.to c.in-Rule.is (c.fits.ensures.0 c.if-fits.true) cell refl))))

pub returns-then-fits-clause-marked : goal.returns-then-fits-clause-marked
returns-then-fits-clause-marked t c =
    let at = (goal.at.returns-then-fits-clause-marked t c).After-fits in
    let p = c.args.lines.now in
    let old = c.args.visits.now.marks in
    let new = c.visit.new.self.marks in
    let M : List Arg → Type 0 = λ arguments. AreMarkedInRows old new (Demands p arguments c.args.from c.args.to) in
    let ends : length old.problem.word ≡ c.args.to = ap (λ (q : PosedProblem). length q.word) c.requires.same_problem ∙ sym c.requires.whole in
    let V : ℕ → Type 0 = λ to. AreMarkedInRows old new (λ cell. cell ≡ record { rule = c.in-Rule.rule; from = c.args.from; to = to }) in
    subst M (sym (one t at))
    (rule_marked p c.in-Some.argument.now c.in-Rule.rule c.args.from c.args.to c.in-Rule.is (c.fits.ensures.0 c.if-fits.true) old new
    (subst V ends c.visit.ensures.marked))

pub returns-else-fits-clause-marked : goal.returns-else-fits-clause-marked
returns-else-fits-clause-marked t c =
    let at = (goal.at.returns-else-fits-clause-marked t c).After-fits in
    let p = c.args.lines.now in
    let argument = c.in-Some.argument.now in
    let old = c.args.visits.now.marks in
    let misses : FitsSpan p (on_span argument c.args.from c.args.to) → ⊥ = λ fits. false≢true (sym c.if-fits.false ∙ c.fits.ensures.1 fits) in
    let M : List Arg → Type 0 = λ arguments. AreMarkedInRows old old (Demands p arguments c.args.from c.args.to) in
    subst M (sym (one t at)) (nowhere p argument [] c.args.from c.args.to old (last_misses p argument c.args.from c.args.to misses))

-- ---- a token in front

straight_all : (t : ℕ) (c : After-token_end t) → IsStraight (c.in-Some.argument.now ∷ c.in-Some.others.now)
straight_all t c = subst IsStraight c.in-Some.ensures.cases.0 c.requires.straight

known_all : (t : ℕ) (c : After-token_end t) → AllByRecursion (IsKnown c.args.lines.now.grammar) (c.in-Some.argument.now ∷ c.in-Some.others.now)
known_all t c = subst (λ (xs : List Arg). AllByRecursion (IsKnown c.args.lines.now.grammar) xs) c.in-Some.ensures.cases.0 c.requires.known

told : (t : ℕ) (c : After-token_end t) (end : Option ℕ) → c.token_end.result ≡ end
    → IsEndTold c.args.lines.now c.in-Some.argument.now c.args.from c.args.to end
told t c end is =
    let E : Option ℕ → Type 0 = IsEndTold c.args.lines.now c.in-Some.argument.now c.args.from c.args.to in
    subst E is c.token_end.ensures

pub mark_rest-requires : goal.mark_rest-requires
mark_rest-requires t c =
    let at = (goal.at.mark_rest-requires t c).After-token_end in
    let p = c.args.lines.now in
    let argument = c.in-Some.argument.now in
    let others = c.in-Some.others.now in
    let split = c.in-Some.ensures.cases.0 in
    let end = c.in-Some-token_end.end in
    let there = (told t at (Some end) c.in-Some-token_end.is end).0 (λ i. Some end) in
    let fewer : length c.args.arguments.now ≡ length others + 1 = ap length split ∙ omega arith in
    let D : List Arg → Type 0 = λ xs. (cell : Cell) → Demands p xs c.args.from c.args.to cell → IsCounted p.grammar (length p.word) cell in (
      omega (arith, fewer, c.decreases),
      (
        straight_others argument others c.in_default-argument.not-Rule (straight_all t at),
        (
          (known_all t at).1,
          (
            there.0,
            (
              c.requires.whole,
              (c.requires.same_problem, λ cell demands. (subst D split c.requires.counted) cell (end, there.1, inr demands)),
            ),
          ),
        ),
      ),
    )

pub returns-in-Some-token_end : goal.returns-in-Some-token_end
returns-in-Some-token_end t c =
    let at = (goal.at.returns-in-Some-token_end t c).After-token_end in
    let p = c.args.lines.now in
    let argument = c.in-Some.argument.now in
    let others = c.in-Some.others.now in
    let end = c.in-Some-token_end.end in
    let is = told t at (Some end) c.in-Some-token_end.is in
    let there = (is end).0 (λ i. Some end) in
    let old = c.args.visits.now.marks in
    let new = c.mark_rest.new.visits.marks in
    let M : List Arg → Type 0 = λ arguments. AreMarkedInRows old new (Demands p arguments c.args.from c.args.to) in
    record {
      marked = subst M (sym c.in-Some.ensures.cases.0)
          (behind_token p argument others c.args.from c.args.to end there.1 (one_ends p argument others c.args.from c.args.to end is)
          (fixed_first argument others c.in_default-argument.not-Rule (straight_all t at)) old new c.mark_rest.ensures.marked);
      order = c.mark_rest.ensures.order;
    }

pub returns-in_default-token_end : goal.returns-in_default-token_end
returns-in_default-token_end t c =
    let at = (goal.at.returns-in_default-token_end t c).After-token_end in
    let p = c.args.lines.now in
    let argument = c.in-Some.argument.now in
    let others = c.in-Some.others.now in
    let old = c.args.visits.now.marks in
    let M : List Arg → Type 0 = λ arguments. AreMarkedInRows old old (Demands p arguments c.args.from c.args.to) in
    record {
      marked = subst M (sym c.in-Some.ensures.cases.0)
          (nowhere p argument others c.args.from c.args.to old
          (none_ends p argument others c.args.from c.args.to (told t at _ c.in_default-token_end.is)));
      order = refl;
    }
