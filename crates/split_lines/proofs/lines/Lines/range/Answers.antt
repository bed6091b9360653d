use Rattle.std.proofs.Common.{◌↔◌, ℕ, min, max, ◌+◌, ◌-◌, ◌<◌, ◌≤◌, List, length, take, drop, ap, sym, subst, ◌∙◌, arith}
use Rattle.std.specs.List.{AllByRecursion}
use Rattle.std.proofs.lemmas.List.{take_rest}
use Rattle.adp_model.specs.declared.grammar.Arg.{Arg}
use Rattle.adp_model.specs.PosedProblem.{PosedProblem}
use Rattle.adp_model.specs.WellFormed.{IsKnown}
use Rattle.viable_splits.specs.Placing.{Cover, AreEnds}
use Rattle.split_lines.specs.Begins.{AreStarts}
use Rattle.split_lines.specs.Extents.{IsExtent}
use Rattle.split_lines.specs.Lines.{parts_by, LeavesPosition}
use Rattle.split_lines.proofs.LineFacts.{rest_taken}
use Rattle.split_lines.proofs.LinePositions.{all_dropped, position_left}
use Rattle.split_lines.proofs.lines.Lines.range.Goals as goal

pub tail_covers-requires-clause-known : goal.tail_covers-requires-clause-known
tail_covers-requires-clause-known c =
    let all = c.args.arguments.now in
    let second = c.args.line.between + 1 + 1 in
    let known : AllByRecursion (IsKnown c.self.inside.tables.grammar) all = subst (λ (p : PosedProblem). AllByRecursion (IsKnown p.grammar) all) (sym c.self.view_is) c.requires.known in
    subst (AllByRecursion (IsKnown c.self.inside.tables.grammar)) (sym (take_rest all second)) (all_dropped (IsKnown c.self.inside.tables.grammar) second all known)

pub returns-clause-in_word : goal.returns-clause-in_word
returns-clause-in_word c =
    let before = subst (λ p. IsExtent p (parts_by c.args.arguments.now c.args.line.between).first c.args.line.before) (sym c.self.view_is) c.requires.line.before in
    let ends = c.ends-ends.ensures (parts_by c.args.arguments.now c.args.line.between).first before in
    omega (arith, ends.up_to_last, c.min-end.ensures, c.saturating_sub-last.ensures, c.requires.span.in_word)

pub returns-clause-exact : goal.returns-clause-exact
returns-clause-exact c =
    let p = c.args.self.now in
    let line = c.args.line in
    let all = c.args.arguments.now in
    let between = line.between in
    let parts = parts_by all between in
    let from = c.args.from in
    let to = c.args.to in
    let last = c.saturating_sub-last.result in
    let letters = line.middle.now.letters in
    let before = subst (λ p. IsExtent p parts.first line.before) (sym c.self.view_is) c.requires.line.before in
    let behind = subst (λ p. IsExtent p parts.second line.behind) (sym c.self.view_is) c.requires.line.behind in
    let C : PosedProblem → List Arg → Type 0 = λ p tokens. Cover p tokens last to in
    let ends = subst (λ p. AreEnds p parts.first from last c.ends-ends.result) c.self.view_is (c.ends-ends.ensures parts.first before) in
    let starts = subst (λ p. AreStarts p parts.second from last c.starts-starts.result) c.self.view_is (c.starts-starts.ensures parts.second behind) in
    let tail : C p (drop (between + 2) all) = subst (C p) (rest_taken all (between + 1 + 1) between (omega arith)) (subst (λ p. C p (take (length all - (between + 1 + 1)) (drop (between + 1 + 1) all))) c.self.view_is (c.tail_covers.ensures.0 c.if-not-tail_covers.false)) in
    let end_is = c.min-end.ensures ∙ ap (min c.ends-ends.result.end) c.saturating_sub-2.ensures in
    let start_is = c.min.ensures ∙ ap (λ n. min n c.min-end.result) (c.max-start.ensures ∙ ap (max c.ends-ends.result.start) c.saturating_sub.ensures) in
    let left = position_left p parts from to letters last c.ends-ends.result.start c.ends-ends.result.end c.starts-starts.result.start c.starts-starts.result.end c.min.result c.min-end.result ends starts tail end_is start_is in
    let L : ℕ → Type 0 = λ last. (position : ℕ) → ((c.min.result ≤ position) × (position < c.min-end.result)) ↔ LeavesPosition p parts from to letters last position in
    subst L c.saturating_sub-last.ensures left
