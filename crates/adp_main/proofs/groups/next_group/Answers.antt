use Rattle.std.proofs.Common.{◌≡◌, ◌<◌, ◌+◌, ◌++◌, [], ◌∷◌, List, ℕ, length, drop, take, get_or, refl, sym, ap, subst, ◌∙◌, arith, length-append}
use Rattle.std.specs.List.{AllZip}
use Rattle.std.specs.Option.{option_copied}
use Rattle.std.proofs.lemmas.List.{append_assoc, drop_more}
use Rattle.adp_model.specs.PosedProblem.{PosedProblem}
use Rattle.adp_model.specs.Cells.{IsCellBound}
use Rattle.verdicts.specs.Posed.{posed_word, posed_words}
use Rattle.adp_main.specs.Groups.{HaveCells, HaveNodes, IsSolvedFor}
use Rattle.adp_main.proofs.FirstLimit.{own_limits, posed_at}
use Rattle.adp_main.proofs.FirstWords.{cells_more, nodes_more, one_more_word, zip_more}
use Rattle.adp_main.proofs.groups.next_group.Goals as goal

pub loop-at-init : goal.loop-at-init
loop-at-init c =
    let made = option_copied c.args.made in
    record {
      few = omega (arith, ap length c.new-problems.ensures.items);
      together = subst (λ (items : List PosedProblem). HaveCells items 0) (sym c.new-problems.ensures.items) ([], tt, refl);
      small = omega arith;
      reached = omega (arith, ap length c.new-problems.ensures.items);
      trees = subst (λ (items : List PosedProblem). HaveNodes c.args.job.now.checked.grammar
          (take (length items) (drop c.args.place c.args.job.now.words)) 0) (sym c.new-problems.ensures.items)
          ([], tt, refl);
      light = omega arith;
      first = (
        [],
        subst (λ (items : List PosedProblem). AllZip (IsSolvedFor c.args.command.now made) [] items)
            (sym c.new-problems.ensures.items) tt,
        refl,
      );
    }

pub loop-at-preserved : goal.loop-at-preserved
loop-at-preserved c =
    let job = c.args.job.now in
    let all = posed_words job.checked.grammar job.checked.algebra job.words in
    let at = c.loop-at.at in
    let before = c.loop-at.problems.items in
    let problem = c.problem_of-problem.result in
    let word = c.index-words-at.result in
    let asked = posed_word job.checked.grammar job.checked.algebra word in
    let is = posed_at job.checked.grammar job.checked.algebra job.words at word asked
    (omega (arith, c.loop-at-test.true, ap length c.as_slice-words.ensures))
    (subst (λ (ws : List (List ℕ)). word ≡ get_or ws at word) c.as_slice-words.ensures c.index-words-at.is) refl in
    let solved = IsSolvedFor c.args.command.now (option_copied c.args.made) in
    let first = c.loop-at.invariant.first in
    let room = c.has_room.ensures.0 c.if-not-has_room.false in
    let cells = c.saturating_add-cells.result in
    let sum : c.loop-at.cells + c.problem.inside.cells ≡ cells = omega (arith, c.saturating_add-cells.ensures, room.1) in
    let grammar = job.checked.grammar in
    let place = c.args.place in
    let nodes = c.saturating_add-nodes.result in
    let trees : c.loop-at.nodes + c.nodes_of.result ≡ nodes =
    omega (arith, c.saturating_add-nodes.ensures, room.2) in
    let inside : place + length before < length job.words =
    omega (arith, c.loop-at.invariant.reached, c.loop-at-test.true, ap length c.as_slice-words.ensures) in
    let named : word ≡ get_or job.words (place + length before) word =
    subst (λ (n : ℕ). word ≡ get_or job.words n word) c.loop-at.invariant.reached
    (subst (λ (ws : List (List ℕ)). word ≡ get_or ws at word) c.as_slice-words.ensures c.index-words-at.is) in
    let bound = subst (λ (p : PosedProblem). IsCellBound p.grammar (length p.word) c.problem.inside.cells)
    c.problem.view_is c.problem.invariant.cells in
    record {
      few = omega (
        arith,
        room.0,
        c.len.ensures,
        c.loop-at.problems.ok.0,
        ap length c.in-Ok.ensures.items,
        length-append before (problem ∷ []),
      );
      together = subst (λ (items : List PosedProblem). HaveCells items cells) (sym c.in-Ok.ensures.items)
          (subst (λ (n : ℕ). HaveCells (before ++ problem ∷ []) n) sum
          (cells_more before problem c.loop-at.cells c.problem.inside.cells c.loop-at.invariant.together bound));
      small = room.1;
      reached = omega (
        arith,
        c.loop-at.invariant.reached,
        ap length c.in-Ok.ensures.items,
        length-append before (problem ∷ []),
      );
      trees = subst (λ (items : List PosedProblem). HaveNodes grammar (take (length items) (drop place job.words)) nodes)
          (sym c.in-Ok.ensures.items)
          (subst (λ (n : ℕ). HaveNodes grammar (take n (drop place job.words)) nodes)
          (sym (length-append before (problem ∷ [])))
          (subst (λ (it : List (List ℕ) × ℕ). HaveNodes grammar it.0 it.1)
          (λ i. (sym (one_more_word job.words place (length before) word inside named) i, trees i))
          (nodes_more grammar (take (length before) (drop place job.words)) word c.loop-at.nodes c.nodes_of.result
          c.loop-at.invariant.trees c.nodes_of.ensures.bound)));
      light = room.2;
      first = (
        first.0 ++ asked ∷ [],
        subst (λ (items : List PosedProblem). AllZip solved (first.0 ++ asked ∷ []) items) (sym c.in-Ok.ensures.items)
            (zip_more solved first.0 before asked problem first.1 c.problem_of-problem.ensures),
        append_assoc first.0 (asked ∷ []) (drop (at + 1) all)
            ∙ ap (λ rest. first.0 ++ rest)
            (ap (λ q. q ∷ drop (at + 1) all) is.1 ∙ sym (drop_more all at asked is.0))
            ∙ first.2,
      );
    }

pub nodes_of-requires-clause-limits : goal.nodes_of-requires-clause-limits
nodes_of-requires-clause-limits c =
    own_limits c.args.command.now.second
    (posed_word c.args.job.now.checked.grammar c.args.job.now.checked.algebra c.index-words-at.result)
    c.is_admitted.ensures.admissible

pub returns-then-not-has_its_length-clause-first : goal.returns-then-not-has_its_length-clause-first
returns-then-not-has_its_length-clause-first c =
    let job = c.args.job.now in
    let first = c.loop-at.invariant.first in
    (first.0, drop c.loop-at.at (posed_words job.checked.grammar job.checked.algebra job.words), first.1, first.2)

pub returns-then-not-has_room-clause-first : goal.returns-then-not-has_room-clause-first
returns-then-not-has_room-clause-first c =
    let job = c.args.job.now in
    let first = c.loop-at.invariant.first in
    (first.0, drop c.loop-at.at (posed_words job.checked.grammar job.checked.algebra job.words), first.1, first.2)

pub returns-in-Err-clause-first : goal.returns-in-Err-clause-first
returns-in-Err-clause-first c =
    let job = c.args.job.now in
    let first = c.loop-at.invariant.first in (
      first.0,
      drop c.loop-at.at (posed_words job.checked.grammar job.checked.algebra job.words),
      subst (λ (items : List PosedProblem). AllZip (IsSolvedFor c.args.command.now (option_copied c.args.made)) first.0 items)
          (sym c.in-Err.ensures.items) first.1,
      first.2,
    )

pub returns-after-loop-at-clause-first : goal.returns-after-loop-at-clause-first
returns-after-loop-at-clause-first c =
    let job = c.args.job.now in
    let first = c.loop-at.invariant.first in
    (first.0, drop c.loop-at.at (posed_words job.checked.grammar job.checked.algebra job.words), first.1, first.2)

pub returns-then-not-has_its_length-clause-small : goal.returns-then-not-has_its_length-clause-small
returns-then-not-has_its_length-clause-small c =
    (c.loop-at.cells, c.loop-at.invariant.together, c.loop-at.invariant.small)

pub returns-then-not-has_room-clause-small : goal.returns-then-not-has_room-clause-small
returns-then-not-has_room-clause-small c =
    (c.loop-at.cells, c.loop-at.invariant.together, c.loop-at.invariant.small)

pub returns-in-Err-clause-small : goal.returns-in-Err-clause-small
returns-in-Err-clause-small c = (
  c.loop-at.cells,
  subst (λ (items : List PosedProblem). HaveCells items c.loop-at.cells) (sym c.in-Err.ensures.items)
      c.loop-at.invariant.together,
  c.loop-at.invariant.small,
)

pub returns-after-loop-at-clause-small : goal.returns-after-loop-at-clause-small
returns-after-loop-at-clause-small c = (c.loop-at.cells, c.loop-at.invariant.together, c.loop-at.invariant.small)

pub returns-then-not-has_its_length-clause-light : goal.returns-then-not-has_its_length-clause-light
returns-then-not-has_its_length-clause-light c =
    (c.loop-at.nodes, c.loop-at.invariant.trees, c.loop-at.invariant.light)

pub returns-then-not-has_room-clause-light : goal.returns-then-not-has_room-clause-light
returns-then-not-has_room-clause-light c =
    (c.loop-at.nodes, c.loop-at.invariant.trees, c.loop-at.invariant.light)

pub returns-in-Err-clause-light : goal.returns-in-Err-clause-light
returns-in-Err-clause-light c = (
  c.loop-at.nodes,
  subst (λ (items : List PosedProblem). HaveNodes c.args.job.now.checked.grammar
      (take (length items) (drop c.args.place c.args.job.now.words)) c.loop-at.nodes) (sym c.in-Err.ensures.items)
      c.loop-at.invariant.trees,
  c.loop-at.invariant.light,
)

pub returns-after-loop-at-clause-light : goal.returns-after-loop-at-clause-light
returns-after-loop-at-clause-light c = (c.loop-at.nodes, c.loop-at.invariant.trees, c.loop-at.invariant.light)
