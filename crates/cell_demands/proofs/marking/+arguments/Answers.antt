use Rattle.std.proofs.Common.{◌≡◌, ◌↔◌, ◌≤◌, ℕ, ◌+◌, Bool, false, IsTrue, Option, Some, List, [], ◌∷◌, length, drop}
use Rattle.std.proofs.Common.{refl, sym, ap, subst, inl, inr, ◌∙◌, arith, rules}
use Rattle.std.specs.Option.{option_copied}
use Rattle.std.specs.Prelude.{IfSome}
use Rattle.std.specs.List.{AllByRecursion}
use Rattle.std.proofs.lemmas.Bool.{false≢true}
use Rattle.adp_model.specs.declared.grammar.Arg.{Arg}
use Rattle.adp_model.specs.declared.cell.Cell.{Cell}
use Rattle.adp_model.specs.PosedProblem.{PosedProblem}
use Rattle.adp_model.specs.Cells.{IsCounted}
use Rattle.adp_model.specs.WellFormed.{IsKnown}
use Rattle.viable_splits.specs.Placing.{Cover}
use Rattle.split_lines.specs.Laid.{Demands, IsCellOf}
use Rattle.split_lines.specs.Lines.{IsLine}
use Rattle.cell_tables.specs.Marks.{CellMarks, AreMarkedFrom}
use Rattle.cell_demands.specs.Tails.{IsOwner}
use Rattle.cell_demands.specs.Runs.{CoversBelow, DemandsBelow}
use Rattle.cell_demands.specs.TailNotes.{AreTrue}
use Rattle.cell_demands.proofs.TailSteps.{shorter_owner, owner_tail, true_later, true_from, found_true}
use Rattle.cell_demands.proofs.MarkSteps.{marked_in_rows, none_marked}
use Rattle.cell_demands.proofs.LineDemands.{marked_none, marked_some, covers_more, covers_none, demands_more, all_covered, all_marked}
use Rattle.split_lines.specs.Ends.{IsEndTold}
use Rattle.cell_demands.proofs.OneEnds.{none_ends, one_ends, cover_nowhere, cover_from, marked_nowhere, marked_behind, empty_without}
use Rattle.cell_demands.proofs.marking.+arguments.Goals as goal
use Rattle.cell_demands.proofs.marking.+arguments.Goals.{mark_arguments-After-saturating_sub-ahead}
use Rattle.cell_demands.proofs.marking.+arguments.Goals.{mark_arguments-In-Some-token_end, mark_by_ends-then-mark_tail}
use Rattle.cell_demands.proofs.marking.+arguments.Goals.{mark_by_ends-else-mark_tail}

-- ---- the arguments behind the first one

-- they are fewer
length_behind : (t : ℕ) (c : mark_arguments-After-saturating_sub-ahead t)
    → length c.args.arguments.now ≡ length c.in-Some.others.now + 1
length_behind t c = ap length c.in-Some.ensures.cases.0 ∙ omega arith

-- the alternative whose last arguments they are
owner_behind : (t : ℕ) (c : mark_arguments-After-saturating_sub-ahead t)
    → IsOwner c.args.lines.now c.args.owner c.in-Some.others.now
owner_behind t c =
    let p = c.args.lines.now in
    shorter_owner p c.args.owner c.in-Some.argument.now c.in-Some.others.now
    (subst (λ xs. IsOwner p c.args.owner xs) c.in-Some.ensures.cases.0 c.requires.owner)

-- their line
line_behind : (t : ℕ) (c : mark_arguments-After-saturating_sub-ahead t) → IfSome (option_copied c.args.line)
    (λ line. IsLine c.args.lines.now (drop c.saturating_sub-ahead.result c.in-Some.others.now) line)
line_behind t c =
    let p = c.args.lines.now in
    let argument = c.in-Some.argument.now in
    let others = c.in-Some.others.now in
    let line = option_copied c.args.line in
    let L : List Arg → Type 0 = λ xs. IfSome line (λ line. IsLine p (drop c.args.ahead xs) line) in
    let N : ℕ → Type 0 = λ n. IfSome line (λ line. IsLine p (drop n others) line) in
    subst N (sym c.saturating_sub-ahead.ensures)
    (c.line_begins_later.ensures p argument others line (option_copied c.line_here.result) c.args.ahead
    c.line_here.ensures (ap option_copied c.in_default-line_here.is) (subst L c.in-Some.ensures.cases.0 c.requires.line))

-- all of them, with the first one, are known
known_of : (t : ℕ) (c : mark_arguments-After-saturating_sub-ahead t)
    → AllByRecursion (IsKnown c.args.lines.now.grammar) (c.in-Some.argument.now ∷ c.in-Some.others.now)
known_of t c =
    subst (λ (xs : List Arg). AllByRecursion (IsKnown c.args.lines.now.grammar) xs) c.in-Some.ensures.cases.0
    c.requires.known

-- and the cells that they demand are counted
counted_of : (t : ℕ) (c : mark_arguments-After-saturating_sub-ahead t) (cell : Cell)
    → Demands c.args.lines.now (c.in-Some.argument.now ∷ c.in-Some.others.now) c.args.from c.args.to cell
    → IsCounted c.args.lines.now.grammar (length c.args.lines.now.word) cell
counted_of t c =
    let p = c.args.lines.now in
    let D : List Arg → Type 0 = λ xs. (it : Cell) → Demands p xs c.args.from c.args.to it
    → IsCounted p.grammar (length p.word) it in
    subst D c.in-Some.ensures.cases.0 c.requires.counted

pub mark_arguments-mark_line-requires-clause-line : goal.mark_arguments-mark_line-requires-clause-line
mark_arguments-mark_line-requires-clause-line t c =
    c.line_begins_here.ensures c.args.lines.now c.args.arguments.now (option_copied c.args.line)
    (option_copied c.line_here.result) c.args.ahead c.in-Some-line_here.line.now c.line_here.ensures
    (ap option_copied c.in-Some-line_here.is) c.requires.line

-- ---- a token in front

told_end : (t : ℕ) (c : mark_arguments-In-Some-token_end t)
    → IsEndTold c.args.lines.now c.in-Some.argument.now c.args.from c.args.to (Some c.in-Some-token_end.end)
told_end t c =
    let E : Option ℕ → Type 0 = IsEndTold c.args.lines.now c.in-Some.argument.now c.args.from c.args.to in
    subst E c.in-Some-token_end.is c.token_end.ensures

pub mark_arguments-mark_arguments-requires : goal.mark_arguments-mark_arguments-requires
mark_arguments-mark_arguments-requires t c =
    let at = (goal.at.mark_arguments-mark_arguments-requires t c).After-saturating_sub-ahead in
    let end = c.in-Some-token_end.end in
    let there = (told_end t (goal.at.mark_arguments-mark_arguments-requires t c).In-Some-token_end end).0 (λ i. Some end) in
    let same_length = length_behind t at in (
      omega (arith, same_length, c.decreases),
      (
        owner_behind t at,
        (
          line_behind t at,
          (
            (known_of t at).1,
            (
              omega (arith, same_length, c.requires.few),
              (
                omega (arith, c.requires.begin, there.1.0.in_order),
                (
                  record { in_order = there.0; in_word = c.requires.span.in_word },
                  (
                    c.requires.same_problem,
                    (c.requires.noted, λ cell demands. counted_of t at cell (end, there.1, inr demands)),
                  ),
                ),
              ),
            ),
          ),
        ),
      ),
    )

pub mark_arguments-returns-in-Some-token_end : goal.mark_arguments-returns-in-Some-token_end
mark_arguments-returns-in-Some-token_end t c =
    let p = c.args.lines.now in
    let from = c.args.from in
    let to = c.args.to in
    let argument = c.in-Some.argument.now in
    let others = c.in-Some.others.now in
    let split : c.args.arguments.now ≡ argument ∷ others = c.in-Some.ensures.cases.0 in
    let end = c.in-Some-token_end.end in
    let told = told_end t (goal.at.mark_arguments-returns-in-Some-token_end t c).In-Some-token_end in
    let there = (told end).0 (λ i. Some end) in
    let only = one_ends p argument others from to end told in
    let fixed = c.is_fixed.ensures.0 c.if-is_fixed.true in
    let done = c.mark_arguments in
    let C : List Arg → Type 0 = λ xs. IsTrue done.result ↔ Cover p xs from to in
    let M : List Arg → Type 0 = λ xs. AreMarkedFrom c.args.begin c.args.marks.now done.new.marks (Demands p xs from to) in
    record {
      laid = subst C (sym split)
          (cover_from p argument others from to end there.1 only done.result done.ensures.laid);
      marked = subst M (sym split)
          (marked_behind p argument others from to end there.1 only fixed c.args.begin c.args.marks.now done.new.marks
          done.ensures.marked);
      noted = done.ensures.noted;
    }

pub mark_arguments-returns-in-None : goal.mark_arguments-returns-in-None
mark_arguments-returns-in-None t c =
    let p = c.args.lines.now in
    let from = c.args.from in
    let to = c.args.to in
    let argument = c.in-Some.argument.now in
    let others = c.in-Some.others.now in
    let split : c.args.arguments.now ≡ argument ∷ others = c.in-Some.ensures.cases.0 in
    let E : Option ℕ → Type 0 = IsEndTold p argument from to in
    let none = none_ends p argument others from to (subst E c.in-None.is c.token_end.ensures) in
    let C : List Arg → Type 0 = λ xs. IsTrue false ↔ Cover p xs from to in
    let M : List Arg → Type 0 = λ xs. AreMarkedFrom c.args.begin c.args.marks.now c.args.marks.now
    (Demands p xs from to) in
    record {
      laid = subst C (sym split)
          (λ is. absurd (false≢true is), λ cover. absurd (cover_nowhere p argument others from to none cover));
      marked = subst M (sym split) (marked_nowhere p argument others from to none c.args.begin c.args.marks.now);
      noted = c.requires.noted;
    }

-- ---- the last argument

-- nothing stands behind it
alone : (all : List Arg) (argument : Arg) (others : List Arg) → all ≡ argument ∷ others → length others ≡ 0 → all ≡ argument ∷ []
alone all argument others is none = is ∙ ap (λ xs. argument ∷ xs) (empty_without others none)

pub mark_arguments-mark_last-requires-clause-counted : goal.mark_arguments-mark_last-requires-clause-counted
mark_arguments-mark_last-requires-clause-counted t c =
    let p = c.args.lines.now in
    let one = alone c.args.arguments.now c.in-Some.argument.now c.in-Some.others.now c.in-Some.ensures.cases.0 (search rules) in
    let D : List Arg → Type 0 = λ xs. (cell : Cell) → Demands p xs c.args.from c.args.to cell → IsCounted p.grammar (length p.word) cell in
    subst D one c.requires.counted

pub mark_arguments-returns-then-is_empty : goal.mark_arguments-returns-then-is_empty
mark_arguments-returns-then-is_empty t c =
    let p = c.args.lines.now in
    let one = alone c.args.arguments.now c.in-Some.argument.now c.in-Some.others.now c.in-Some.ensures.cases.0 (search rules) in
    record {
      laid = subst (λ xs. IsTrue c.mark_last.result ↔ Cover p xs c.args.from c.args.to) (sym one) c.mark_last.ensures.laid;
      marked = subst (λ xs. AreMarkedFrom c.args.begin c.args.marks.now c.mark_last.new.marks
          (Demands p xs c.args.from c.args.to)) (sym one) c.mark_last.ensures.marked;
      noted = true_from p c.args.begin c.args.marks.now c.mark_last.new.marks
          (Demands p (c.in-Some.argument.now ∷ []) c.args.from c.args.to) c.mark_last.ensures.marked c.args.tails.now
          c.requires.noted;
    }

pub mark_arguments-mark_last-requires-clause-same_problem : goal.mark_arguments-mark_last-requires-clause-same_problem
mark_arguments-mark_last-requires-clause-same_problem t c = c.requires.same_problem

pub mark_arguments-mark_last-requires-clause-span : goal.mark_arguments-mark_last-requires-clause-span
mark_arguments-mark_last-requires-clause-span t c = c.requires.span

pub mark_arguments-mark_line-requires-clause-begin : goal.mark_arguments-mark_line-requires-clause-begin
mark_arguments-mark_line-requires-clause-begin t c = c.requires.begin

pub mark_arguments-mark_line-requires-clause-counted : goal.mark_arguments-mark_line-requires-clause-counted
mark_arguments-mark_line-requires-clause-counted t c = c.requires.counted

pub mark_arguments-mark_line-requires-clause-known : goal.mark_arguments-mark_line-requires-clause-known
mark_arguments-mark_line-requires-clause-known t c = c.requires.known

pub mark_arguments-mark_line-requires-clause-same_problem : goal.mark_arguments-mark_line-requires-clause-same_problem
mark_arguments-mark_line-requires-clause-same_problem t c = c.requires.same_problem

pub mark_arguments-mark_line-requires-clause-span : goal.mark_arguments-mark_line-requires-clause-span
mark_arguments-mark_line-requires-clause-span t c = c.requires.span

pub mark_arguments-ends_of_first-ends-requires-clause-few : goal.mark_arguments-ends_of_first-ends-requires-clause-few
mark_arguments-ends_of_first-ends-requires-clause-few t c = c.requires.few

pub mark_arguments-ends_of_first-ends-requires-clause-known : goal.mark_arguments-ends_of_first-ends-requires-clause-known
mark_arguments-ends_of_first-ends-requires-clause-known t c = c.requires.known

pub mark_arguments-ends_of_first-ends-requires-clause-span : goal.mark_arguments-ends_of_first-ends-requires-clause-span
mark_arguments-ends_of_first-ends-requires-clause-span t c = c.requires.span

pub mark_arguments-token_end-requires-clause-span : goal.mark_arguments-token_end-requires-clause-span
mark_arguments-token_end-requires-clause-span t c = c.requires.span

pub mark_arguments-returns-in-Some-line_here-clause-laid : goal.mark_arguments-returns-in-Some-line_here-clause-laid
mark_arguments-returns-in-Some-line_here-clause-laid t c = c.mark_line.ensures.laid

pub mark_arguments-returns-in-Some-line_here-clause-marked : goal.mark_arguments-returns-in-Some-line_here-clause-marked
mark_arguments-returns-in-Some-line_here-clause-marked t c = c.mark_line.ensures.marked

pub mark_arguments-mark_last-requires-clause-known : goal.mark_arguments-mark_last-requires-clause-known
mark_arguments-mark_last-requires-clause-known t c =
    (subst (λ (arguments : List Arg). AllByRecursion (IsKnown c.args.lines.now.grammar) arguments) c.in-Some.ensures.cases.0 c.requires.known).0

pub mark_arguments-token_end-requires-clause-known : goal.mark_arguments-token_end-requires-clause-known
mark_arguments-token_end-requires-clause-known t c =
    (subst (λ (arguments : List Arg). AllByRecursion (IsKnown c.args.lines.now.grammar) arguments) c.in-Some.ensures.cases.0 c.requires.known).0

-- ---- end by end

pub mark_arguments-mark_by_ends-requires : goal.mark_arguments-mark_by_ends-requires
mark_arguments-mark_by_ends-requires t c =
    let at = (goal.at.mark_arguments-mark_by_ends-requires t c).After-saturating_sub-ahead in
    let argument = c.in-Some.argument.now in
    let others = c.in-Some.others.now in
    let split = c.in-Some.ensures.cases.0 in
    let same_length = length_behind t at in (
      omega (arith, same_length, c.decreases),
      (
        owner_behind t at,
        (
          line_behind t at,
          (
            (known_of t at).1,
            (
              omega (arith, same_length, c.requires.few),
              (
                c.requires.begin,
                (
                  c.requires.span,
                  (
                    c.ends_of_first-ends.ensures argument others split,
                    (c.requires.same_problem, (c.requires.noted, counted_of t at)),
                  ),
                ),
              ),
            ),
          ),
        ),
      ),
    )

pub mark_arguments-returns : goal.mark_arguments-returns
mark_arguments-returns t c =
    let p = c.args.lines.now in
    let done = c.mark_by_ends in
    let D : List Arg → Type 0 = λ xs. record {
      laid : IsTrue done.result ↔ Cover p xs c.args.from c.args.to;
      marked : AreMarkedFrom c.args.begin c.args.marks.now done.new.marks (Demands p xs c.args.from c.args.to);
      noted : AreTrue p done.new.marks done.new.tails;
    } in
    subst D (sym c.in-Some.ensures.cases.0) done.ensures

pub mark_by_ends-mark_run-noted-requires-clause-fit : goal.mark_by_ends-mark_run-noted-requires-clause-fit
mark_by_ends-mark_run-noted-requires-clause-fit t c = λ end l m. c.requires.ends.fit end l m

pub mark_by_ends-mark_run-noted-requires-clause-counted : goal.mark_by_ends-mark_run-noted-requires-clause-counted
mark_by_ends-mark_run-noted-requires-clause-counted t c = λ cell (end, l, m, fits, some).
    c.requires.counted cell (end, fits, some)

pub mark_by_ends-loop-end-init : goal.mark_by_ends-loop-end-init
mark_by_ends-loop-end-init t c =
    let p = c.args.lines.now in
    let first = c.mark_run-noted.ensures in
    let past = c.mark_run-noted.result.past in
    let demanded = DemandsBelow p c.args.argument.now c.args.others.now c.args.from c.args.to c.args.ends.start past in
    record {
      above = first.from_first;
      laid = first.laid;
      marked = first.marked;
      noted = true_from p c.args.begin c.args.marks.now c.mark_run-noted.new.marks demanded first.marked c.args.tails.now
          c.requires.noted;
    }

pub mark_by_ends-mark_tail-requires : goal.mark_by_ends-mark_tail-requires
mark_by_ends-mark_tail-requires t c =
    let end = c.loop-end.end in
    let was = c.loop-end.invariant in
    let fits = c.requires.ends.fit end was.above c.loop-end-test.true in (
      omega (arith, c.decreases),
      (
        c.requires.owner,
        (
          c.requires.line,
          (
            c.requires.known,
            (
              c.requires.few,
              (
                omega (arith, c.requires.begin, fits.0.in_order),
                (
                  record {
                    in_order = omega (arith, c.requires.ends.up_to_last, c.loop-end-test.true);
                    in_word = c.requires.span.in_word;
                  },
                  (
                    was.marked.marked.problem ∙ c.requires.same_problem,
                    (was.noted, λ cell demands. c.requires.counted cell (end, fits, inr demands)),
                  ),
                ),
              ),
            ),
          ),
        ),
      ),
    )

pub mark_by_ends-mark_argument-requires : goal.mark_by_ends-mark_argument-requires
mark_by_ends-mark_argument-requires t c = λ cell is.
    let end = c.loop-end.end in
    let was = c.loop-end.invariant in
    let fits = c.requires.ends.fit end was.above c.loop-end-test.true in
    let C : PosedProblem → Type 0 = λ q. IsCounted q.grammar (length q.word) cell in
    let same = c.mark_tail.ensures.marked.marked.problem ∙ was.marked.marked.problem ∙ c.requires.same_problem in
    subst C (sym same) (c.requires.counted cell (end, fits, inl (is, c.if-mark_tail.ensures.laid.0 refl)))

pub mark_by_ends-mark_run-run-requires-clause-fit : goal.mark_by_ends-mark_run-run-requires-clause-fit
mark_by_ends-mark_run-run-requires-clause-fit t c = λ end l m.
    c.requires.ends.fit end (omega (arith, c.loop-end.invariant.above, l)) m

pub mark_by_ends-mark_run-run-requires-clause-counted : goal.mark_by_ends-mark_run-run-requires-clause-counted
mark_by_ends-mark_run-run-requires-clause-counted t c = λ cell (end, l, m, fits, some).
    c.requires.counted cell (end, fits, some)

pub mark_by_ends-mark_run-run-requires-clause-noted : goal.mark_by_ends-mark_run-run-requires-clause-noted
mark_by_ends-mark_run-run-requires-clause-noted t c =
    let p = c.args.lines.now in
    let tail = c.mark_tail.new in
    let IsHere : Cell → Type 0 = IsCellOf c.args.argument.now c.args.from c.loop-end.end in
    let T : CellMarks → Type 0 = λ marks. AreTrue p marks tail.tails in
    elim c.if-mark_tail.branch [
      | mark_by_ends-then-mark_tail w ↦
          let here = w.mark_argument in
          subst T (sym w.marks-is)
          (true_later p tail.marks here.new.marks IsHere here.ensures.marked tail.tails c.mark_tail.ensures.noted)
      | mark_by_ends-else-mark_tail w ↦ subst T (sym w.marks-is) c.mark_tail.ensures.noted
    ]

pub mark_by_ends-loop-end-preserved : goal.mark_by_ends-loop-end-preserved
mark_by_ends-loop-end-preserved t c =
    let p = c.args.lines.now in
    let from = c.args.from in
    let to = c.args.to in
    let begin = c.args.begin in
    let low = c.args.ends.start in
    let end = c.loop-end.end in
    let argument = c.args.argument.now in
    let others = c.args.others.now in
    let was = c.loop-end.invariant in
    let above = was.above in
    let fits = c.requires.ends.fit end above c.loop-end-test.true in
    let run = c.mark_run-run.ensures in
    let past = c.mark_run-run.result.past in
    let later : low ≤ end + 1 = omega (arith, above) in
    let start = c.args.marks.now in
    let marks = c.loop-end.marks in
    let tail = c.mark_tail.new in
    let done = c.mark_tail.ensures in
    let IsHere : Cell → Type 0 = IsCellOf argument from end in
    let T : CellMarks → Type 0 = λ marks. AreTrue p marks c.mark_tail.new.tails in
    let demanded = DemandsBelow p argument others from to low (end + 1) in
    let M : CellMarks → Type 0 = λ marks. AreMarkedFrom begin c.args.marks.now marks demanded in
    let S : Bool → Type 0 = λ is_laid. IsTrue is_laid ↔ CoversBelow p argument others from to low (end + 1) in
    let told : S c.if-mark_tail.is_laid × M c.if-mark_tail.marks × T c.if-mark_tail.marks = elim c.if-mark_tail.branch [
      | mark_by_ends-then-mark_tail w ↦
          let here = w.mark_argument in
          let cover : Cover p others end to = w.if-mark_tail.ensures.laid.0 refl in (
            subst S (sym w.is_laid-is) (λ _. (end, above, omega arith, fits, cover), λ _. refl),
            subst M (sym w.marks-is)
                (marked_some p argument others from to low end fits above begin start marks tail.marks was.marked done.marked
                here.new.marks cover
                (marked_in_rows begin tail.marks here.new.marks IsHere here.ensures.marked here.ensures.in_row)),
            subst T (sym w.marks-is)
                (true_later p tail.marks here.new.marks IsHere here.ensures.marked tail.tails done.noted),
          )
      | mark_by_ends-else-mark_tail w ↦
          let none : Cover p others end to → ⊥ = λ cover. let yes = w.if-mark_tail.ensures.laid.1 cover in absurd cc in (
            subst S (sym w.is_laid-is) (covers_none p argument others from to low end c.loop-end.is_laid was.laid none),
            subst M (sym w.marks-is)
                (marked_none p argument others from to low end fits above begin start marks tail.marks was.marked done.marked
                none),
            subst T (sym w.marks-is) done.noted,
          )
    ] in
    record {
      above = omega (arith, above, run.from_first);
      laid = covers_more p argument others from to low (end + 1) past later run.from_first c.if-mark_tail.is_laid
          c.mark_run-run.result.is_laid told.0 run.laid;
      marked = demands_more p argument others from to low (end + 1) past later run.from_first begin start
          c.if-mark_tail.marks c.mark_run-run.new.marks told.1 run.marked;
      noted = true_from p begin c.if-mark_tail.marks c.mark_run-run.new.marks
          (DemandsBelow p argument others from to (end + 1) past) run.marked tail.tails told.2;
    }

pub mark_by_ends-returns-clause-laid : goal.mark_by_ends-returns-clause-laid
mark_by_ends-returns-clause-laid t c =
    all_covered c.args.lines.now c.args.argument.now c.args.others.now c.args.from c.args.to c.args.ends c.loop-end.end
    c.requires.ends c.loop-end-test.false c.loop-end.is_laid c.loop-end.invariant.laid

pub mark_by_ends-returns-clause-marked : goal.mark_by_ends-returns-clause-marked
mark_by_ends-returns-clause-marked t c =
    all_marked c.args.lines.now c.args.argument.now c.args.others.now c.args.from c.args.to c.args.ends c.loop-end.end
    c.requires.ends c.loop-end-test.false c.args.begin c.args.marks.now c.loop-end.marks c.loop-end.invariant.marked

pub mark_arguments-returns-in_default-clause-marked : goal.mark_arguments-returns-in_default-clause-marked
mark_arguments-returns-in_default-clause-marked t c =
    let p = c.args.lines.now in
    subst (λ xs. AreMarkedFrom c.args.begin c.args.marks.now c.args.marks.now (Demands p xs c.args.from c.args.to))
    (sym (empty_without c.args.arguments.now c.in_default.ensures.cases))
    (none_marked c.args.begin c.args.marks.now (Demands p [] c.args.from c.args.to) (λ cell demands. demands))

pub mark_arguments-returns-in-Some-line_here-clause-noted : goal.mark_arguments-returns-in-Some-line_here-clause-noted
mark_arguments-returns-in-Some-line_here-clause-noted t c =
    true_from c.args.lines.now c.args.begin c.args.marks.now c.mark_line.new.marks
    (Demands c.args.lines.now c.args.arguments.now c.args.from c.args.to) c.mark_line.ensures.marked
    c.args.tails.now c.requires.noted

-- ---- what is noted

pub mark_tail-returns-in-Some-clause-noted : goal.mark_tail-returns-in-Some-clause-noted
mark_tail-returns-in-Some-clause-noted t c =
    let p = c.args.lines.now in
    let arguments = c.args.arguments.now in
    let now = c.mark_arguments-is_laid.new.marks in
    let done = c.mark_arguments-is_laid.ensures in
    let tail = c.in-Some.tail in
    let is = owner_tail p c.args.owner arguments tail (sym c.in-Some.is ∙ c.tail_of.ensures) c.requires.owner in
    c.note.ensures p now done.noted
    (found_true p c.args.begin now tail arguments c.args.from c.args.to is c.args.marks.now
    c.mark_arguments-is_laid.result done.laid done.marked)
