use Rattle.std.proofs.Common.{◌≡◌, ◌<ℤ◌, length, sym, ap, subst, ◌∙◌, arith}
use Rattle.std.proofs.lemmas.Int.{ints}
use Rattle.adp_model.specs.PosedProblem.{PosedProblem}
use Rattle.adp_model.specs.ProblemFields.{IsAdmissible}
use Rattle.adp_model.specs.Bounds.{IsScoreBound}
use Rattle.adp_model.specs.Parts.{algebra_of}
use Rattle.cell_answers.specs.Entries.{HasEntry}
use Rattle.cell_answers.specs.ScoresFields.{IsPacked, table_of}
use Rattle.score_numbers.specs.Packing.{long, medium, short}
use Rattle.score_rows.specs.Numbers.{least}
use Rattle.row_scores.specs.Ready.{IsLowProblem}
use Rattle.row_scores.proofs.CellNumbers.{fresh_numbers, low_scores, of_width, scored}
use Rattle.row_scores.proofs.sweep.scores_by_rows.Goals as goal
use Rattle.row_scores.proofs.sweep.scores_by_rows.Goals.{then-problem+in_ok-table+in_ok-fill, else-problem+then-problem-2+in_ok-table-2+in_ok-fill-2}
use Rattle.row_scores.proofs.sweep.scores_by_rows.Goals.{else-problem+else-problem-2+then-problem-3+in_ok-table-3+in_ok-fill-3}

short_dead : short.mark <ℤ least short
short_dead = omega (arith, ints)

medium_dead : medium.mark <ℤ least medium
medium_dead = omega (arith, ints)

long_dead : long.mark <ℤ least long
long_dead = omega (arith, ints)

pub fill-requires-clause-swept : goal.fill-requires-clause-swept
fill-requires-clause-swept c =
    let S : PosedProblem → Type 0 = λ q. IsScoreBound q.grammar q.algebra (length q.word) c.problem.inside.score_bound in
    let is_bound = subst S c.problem-problem.ensures (subst S c.problem.view_is c.problem.invariant.scores) in
    record {
      same_layout = c.requires.same_layout;
      marked = c.requires.marked;
      low = record { bound = c.problem.inside.score_bound; is_bound = is_bound; low = omega (arith, c.if-problem.true) };
    }

pub fill-requires-clause-numbers : goal.fill-requires-clause-numbers
fill-requires-clause-numbers c =
    let p = c.args.lines.now in
    let admissible : IsAdmissible p = subst (λ (q : PosedProblem). IsAdmissible q) c.problem-problem.ensures c.admissible.ensures in
    let S : PosedProblem → Type 0 = λ q. IsScoreBound q.grammar q.algebra (length q.word) c.problem.inside.score_bound in
    let is_bound = subst S c.problem-problem.ensures (subst S c.problem.view_is c.problem.invariant.scores) in
    let low : IsLowProblem p short = record { bound = c.problem.inside.score_bound; is_bound = is_bound; low = omega (arith, c.if-problem.true) } in
    fresh_numbers short p c.args.layout.now c.requires.same_layout
    (low_scores p admissible c.words_keep_their_score_bound.ensures.score short low) c.in_ok-table.table
    c.in_ok-table.ensures.problem c.cells.ensures c.in_ok-table.ensures.rows c.in_ok-table.ensures.columns

pub fill-requires-then-problem-2-clause-swept : goal.fill-requires-then-problem-2-clause-swept
fill-requires-then-problem-2-clause-swept c =
    let S : PosedProblem → Type 0 = λ q. IsScoreBound q.grammar q.algebra (length q.word) c.problem.inside.score_bound in
    let is_bound = subst S c.problem-problem.ensures (subst S c.problem.view_is c.problem.invariant.scores) in
    record {
      same_layout = c.requires.same_layout;
      marked = c.requires.marked;
      low = record { bound = c.problem.inside.score_bound; is_bound = is_bound; low = omega (arith, c.if-problem-2.true) };
    }

pub fill-requires-then-problem-2-clause-numbers : goal.fill-requires-then-problem-2-clause-numbers
fill-requires-then-problem-2-clause-numbers c =
    let p = c.args.lines.now in
    let admissible : IsAdmissible p = subst (λ (q : PosedProblem). IsAdmissible q) c.problem-problem.ensures c.admissible.ensures in
    let S : PosedProblem → Type 0 = λ q. IsScoreBound q.grammar q.algebra (length q.word) c.problem.inside.score_bound in
    let is_bound = subst S c.problem-problem.ensures (subst S c.problem.view_is c.problem.invariant.scores) in
    let low : IsLowProblem p medium = record { bound = c.problem.inside.score_bound; is_bound = is_bound; low = omega (arith, c.if-problem-2.true) } in
    fresh_numbers medium p c.args.layout.now c.requires.same_layout
    (low_scores p admissible c.words_keep_their_score_bound.ensures.score medium low) c.in_ok-table-2.table
    c.in_ok-table-2.ensures.problem c.cells-then-problem-2.ensures c.in_ok-table-2.ensures.rows c.in_ok-table-2.ensures.columns

pub fill-requires-then-problem-3-clause-swept : goal.fill-requires-then-problem-3-clause-swept
fill-requires-then-problem-3-clause-swept c =
    let S : PosedProblem → Type 0 = λ q. IsScoreBound q.grammar q.algebra (length q.word) c.problem.inside.score_bound in
    let is_bound = subst S c.problem-problem.ensures (subst S c.problem.view_is c.problem.invariant.scores) in
    record {
      same_layout = c.requires.same_layout;
      marked = c.requires.marked;
      low = record { bound = c.problem.inside.score_bound; is_bound = is_bound; low = omega (arith, c.if-problem-3.true) };
    }

pub fill-requires-then-problem-3-clause-numbers : goal.fill-requires-then-problem-3-clause-numbers
fill-requires-then-problem-3-clause-numbers c =
    let p = c.args.lines.now in
    let admissible : IsAdmissible p = subst (λ (q : PosedProblem). IsAdmissible q) c.problem-problem.ensures c.admissible.ensures in
    let S : PosedProblem → Type 0 = λ q. IsScoreBound q.grammar q.algebra (length q.word) c.problem.inside.score_bound in
    let is_bound = subst S c.problem-problem.ensures (subst S c.problem.view_is c.problem.invariant.scores) in
    let low : IsLowProblem p long = record { bound = c.problem.inside.score_bound; is_bound = is_bound; low = omega (arith, c.if-problem-3.true) } in
    fresh_numbers long p c.args.layout.now c.requires.same_layout
    (low_scores p admissible c.words_keep_their_score_bound.ensures.score long low) c.in_ok-table-3.table
    c.in_ok-table-3.ensures.problem c.cells-then-problem-3.ensures c.in_ok-table-3.ensures.rows c.in_ok-table-3.ensures.columns

pub of-requires : goal.of-requires
of-requires c =
    let p = c.args.lines.now in
    let admissible : IsAdmissible p = subst (λ (q : PosedProblem). IsAdmissible q) c.problem-problem.ensures c.admissible.ensures in
    let S : PosedProblem → Type 0 = λ q. IsScoreBound q.grammar q.algebra (length q.word) c.problem.inside.score_bound in
    let is_bound = subst S c.problem-problem.ensures (subst S c.problem.view_is c.problem.invariant.scores) in
    elim c.if-problem.branch [
      | then-problem+in_ok-table+in_ok-fill w ↦
          let low : IsLowProblem p short = record { bound = c.problem.inside.score_bound; is_bound = is_bound; low = omega (arith, w.if-problem.true) } in
          let within = low_scores p admissible c.words_keep_their_score_bound.ensures.score short low in
          subst (λ packed. IsPacked packed) (sym w.packed-is) (of_width short p w.fill.new.table w.in_ok-fill.ensures.numbers within)
      | else-problem+then-problem-2+in_ok-table-2+in_ok-fill-2 w ↦
          let low : IsLowProblem p medium = record { bound = c.problem.inside.score_bound; is_bound = is_bound; low = omega (arith, w.if-problem-2.true) } in
          let within = low_scores p admissible c.words_keep_their_score_bound.ensures.score medium low in
          subst (λ packed. IsPacked packed) (sym w.packed-is) (of_width medium p w.fill-then-problem-2.new.table w.in_ok-fill-2.ensures.numbers within)
      | else-problem+else-problem-2+then-problem-3+in_ok-table-3+in_ok-fill-3 w ↦
          let low : IsLowProblem p long = record { bound = c.problem.inside.score_bound; is_bound = is_bound; low = omega (arith, w.if-problem-3.true) } in
          let within = low_scores p admissible c.words_keep_their_score_bound.ensures.score long low in
          subst (λ packed. IsPacked packed) (sym w.packed-is) (of_width long p w.fill-then-problem-3.new.table w.in_ok-fill-3.ensures.numbers within)
    ]

pub returns-clause-scored : goal.returns-clause-scored
returns-clause-scored c = λ cell demanded.
    let p = c.args.lines.now in
    let admissible : IsAdmissible p = subst (λ (q : PosedProblem). IsAdmissible q) c.problem-problem.ensures c.admissible.ensures in
    let S : PosedProblem → Type 0 = λ q. IsScoreBound q.grammar q.algebra (length q.word) c.problem.inside.score_bound in
    let is_bound = subst S c.problem-problem.ensures (subst S c.problem.view_is c.problem.invariant.scores) in
    let same_goal : c.goal.result ≡ (algebra_of p).goal = c.goal.ensures ∙ ap (λ (q : PosedProblem). (algebra_of q).goal) c.problem-problem.ensures in
    subst (λ scores. HasEntry scores cell) (sym c.of.ensures) (elim c.if-problem.branch [
      | then-problem+in_ok-table+in_ok-fill w ↦
          let low : IsLowProblem p short = record { bound = c.problem.inside.score_bound; is_bound = is_bound; low = omega (arith, w.if-problem.true) } in
          let within = low_scores p admissible c.words_keep_their_score_bound.ensures.score short low in
          subst (λ packed. HasEntry (table_of c.goal.result packed) cell) (sym w.packed-is)
          (scored short short_dead (omega arith) p within c.goal.result same_goal w.fill.new.table w.in_ok-fill.ensures cell demanded)
      | else-problem+then-problem-2+in_ok-table-2+in_ok-fill-2 w ↦
          let low : IsLowProblem p medium = record { bound = c.problem.inside.score_bound; is_bound = is_bound; low = omega (arith, w.if-problem-2.true) } in
          let within = low_scores p admissible c.words_keep_their_score_bound.ensures.score medium low in
          subst (λ packed. HasEntry (table_of c.goal.result packed) cell) (sym w.packed-is)
          (scored medium medium_dead (omega arith) p within c.goal.result same_goal w.fill-then-problem-2.new.table w.in_ok-fill-2.ensures cell demanded)
      | else-problem+else-problem-2+then-problem-3+in_ok-table-3+in_ok-fill-3 w ↦
          let low : IsLowProblem p long = record { bound = c.problem.inside.score_bound; is_bound = is_bound; low = omega (arith, w.if-problem-3.true) } in
          let within = low_scores p admissible c.words_keep_their_score_bound.ensures.score long low in
          subst (λ packed. HasEntry (table_of c.goal.result packed) cell) (sym w.packed-is)
          (scored long long_dead (omega arith) p within c.goal.result same_goal w.fill-then-problem-3.new.table w.in_ok-fill-3.ensures cell demanded)
    ])
