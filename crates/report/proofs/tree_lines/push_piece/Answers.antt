use Rattle.std.proofs.Common.{◌≡◌, ℕ, ◌+◌, ◌-◌, ◌*◌, ◌≤◌, List, [], ◌∷◌, ◌++◌, length, take, drop, slice_index_or, sym, subst, arith, length-append}
use Rattle.std.proofs.lemmas.List.{length-take-le, length-drop}
use Rattle.adp_model.specs.PosedProblem.{PosedProblem}
use Rattle.adp_model.specs.TreeText.{quoted}
use Rattle.traceback.specs.declared.tree_nodes.NodeAt.{NodeAt}
use Rattle.report.specs.Pieces.{Waiting, Unwritten, head_text, pieces_behind}
use Rattle.report.proofs.Writing.{written_mark, letters_span, written_letters, some_node, first_in_range, first_taken, few_pieces}
use Rattle.report.proofs.tree_lines.push_piece.Goals as goal

none : NodeAt
none = record { cell = record { rule = 0; from = 0; to = 0 }; choice = record { alt = 0; cuts = [] } }

pub letters-requires : goal.letters-requires
letters-requires c =
    letters_span c.args.problem.now c.args.pieces.now.items c.in-Letters.from c.in-Letters.to c.args.nodes.now c.requires.0
    (subst (λ x. Waiting c.args.problem.now (c.args.pieces.now.items ++ x ∷ []) c.args.nodes.now c.requires.0) c.in-Letters.is c.requires.1)

pub unreachable-requires : goal.unreachable-requires
unreachable-requires c =
    let p : PosedProblem = c.args.problem.now in
    let told = c.children_are_placed.ensures p c.admissible.ensures.checked.well_formed in
    let some : 1 ≤ length c.args.nodes.now = some_node p told c.args.pieces.now.items c.args.piece c.args.nodes.now c.requires.0 c.in-Subtree.is c.requires.1 in
    let none_left = c.in-empty.len_below in
    omega arith

pub push_head-requires : goal.push_head-requires
unfolding none
push_head-requires c =
    let p : PosedProblem = c.args.problem.now in
    let told = c.children_are_placed.ensures p c.admissible.ensures.checked.well_formed in
    first_in_range p told c.args.pieces.now.items c.args.piece c.args.nodes.now none c.requires.0 c.in-Subtree.is c.requires.1

pub push_behind-requires : goal.push_behind-requires
unfolding none
push_behind-requires c =
    let p : PosedProblem = c.args.problem.now in
    let told = c.children_are_placed.ensures p c.admissible.ensures.checked.well_formed in
    first_in_range p told c.args.pieces.now.items c.args.piece c.args.nodes.now none c.requires.0 c.in-Subtree.is c.requires.1

pub returns-in_ok-push-in-Mark-clause-same : goal.returns-in_ok-push-in-Mark-clause-same
returns-in_ok-push-in-Mark-clause-same c = λ whole unwritten.
    let p : PosedProblem = c.args.problem.now in
    subst (λ x. Unwritten p x c.args.pieces.now.items c.args.nodes.now whole) (sym c.in_ok-push-in-Mark.ensures.items)
    (written_mark p c.args.out.now.items c.args.pieces.now.items c.in-Mark.byte c.args.nodes.now whole
    (subst (λ x. Unwritten p c.args.out.now.items (c.args.pieces.now.items ++ x ∷ []) c.args.nodes.now whole) c.in-Mark.is unwritten))

pub returns-in_ok-push_quoted-in-Letters-clause-same :
    goal.returns-in_ok-push_quoted-in-Letters-clause-same
returns-in_ok-push_quoted-in-Letters-clause-same c = λ whole unwritten.
    let p : PosedProblem = c.args.problem.now in
    subst (λ x. Unwritten p x c.args.pieces.now.items c.args.nodes.now whole) (sym c.in_ok-push_quoted-in-Letters.ensures.appended)
    (subst (λ x. Unwritten p (c.args.out.now.items ++ quoted x) c.args.pieces.now.items c.args.nodes.now whole) (sym c.letters.ensures)
    (written_letters p c.args.out.now.items c.args.pieces.now.items c.in-Letters.from c.in-Letters.to c.args.nodes.now whole
    (subst (λ x. Unwritten p c.args.out.now.items (c.args.pieces.now.items ++ x ∷ []) c.args.nodes.now whole) c.in-Letters.is unwritten)))

pub returns-in_ok-push_behind-in-len1-up-clause-same :
    goal.returns-in_ok-push_behind-in-len1-up-clause-same
unfolding none
returns-in_ok-push_behind-in-len1-up-clause-same c = λ whole unwritten.
    let p : PosedProblem = c.args.problem.now in
    let told = c.children_are_placed.ensures p c.admissible.ensures.checked.well_formed in
    let others : List NodeAt = take (length c.args.nodes.now - 1) (drop 1 c.args.nodes.now) in
    let node : NodeAt = slice_index_or c.args.nodes.now 0 none in
    subst (λ x. Unwritten p x c.push_behind.new.pieces.items others whole) (sym c.in_ok-push_head-in-len1-up.ensures)
    (subst (λ x. Unwritten p (c.args.out.now.items ++ head_text p node) x others whole) (sym c.in_ok-push_behind-in-len1-up.ensures)
    (first_taken p told c.args.out.now.items c.args.pieces.now.items c.args.piece c.args.nodes.now none whole c.in-Subtree.is unwritten))

fewer : (nodes : List NodeAt) (old new behind : ℕ) → 1 ≤ length nodes → new ≡ old + behind → behind ≤ 8
    → 8 * length (take (length nodes - 1) (drop 1 nodes)) + new ≤ 8 * length nodes + old
fewer nodes old new behind some is few =
    let d : length (drop 1 nodes) ≡ length nodes - 1 = length-drop 1 nodes in
    let e : length (take (length nodes - 1) (drop 1 nodes)) ≡ length nodes - 1 = length-take-le (length nodes - 1) (drop 1 nodes) (omega arith) in
    omega arith

pub returns-in_ok-push_behind-in-len1-up-clause-fewer :
    goal.returns-in_ok-push_behind-in-len1-up-clause-fewer
unfolding none
returns-in_ok-push_behind-in-len1-up-clause-fewer c =
    let p : PosedProblem = c.args.problem.now in
    let few = c.arguments_are_few_and_known.ensures.few p.grammar c.admissible.ensures.checked.well_formed in
    let node : NodeAt = slice_index_or c.args.nodes.now 0 none in
    let grown : length c.push_behind.new.pieces.items ≡ length c.args.pieces.now.items + length (pieces_behind p node) =
    subst (λ (x : List _). length x ≡ length c.args.pieces.now.items + length (pieces_behind p node)) (sym c.in_ok-push_behind-in-len1-up.ensures)
    (length-append c.args.pieces.now.items (pieces_behind p node)) in
    fewer c.args.nodes.now (length c.args.pieces.now.items) (length c.push_behind.new.pieces.items) (length (pieces_behind p node)) c.in-len1-up.len_at_least grown (few_pieces p few node)
