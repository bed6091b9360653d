use Rattle.std.proofs.Common.{ℕ, ◌<◌, Option, MatchOption, List, drop, length, sym, subst, arith}
use Rattle.adp_model.specs.declared.grammar.Arg.{Arg}
use Rattle.adp_model.specs.PosedProblem.{PosedProblem}
use Rattle.adp_model.specs.Parts.{alternatives_of, arguments_of}
use Rattle.split_lines.specs.declared.lines.Line.{Line}
use Rattle.split_lines.specs.Extents.{IsExtent}
use Rattle.split_lines.specs.Matching.{HaveLetters, AreMatches}
use Rattle.split_lines.specs.Lines.{parts_by, HasLine, IsLine}
use Rattle.split_lines.specs.KeptRules.{IsKept, IsKeptOrNone, kept_of}
use Rattle.split_lines.proofs.FoundLists.{list_at}
use Rattle.split_lines.proofs.KeptLines.{alternative_read, kept_rule_read, rule_there}
use Rattle.split_lines.proofs.lines.Lines.line.Goals as goal
use Rattle.split_lines.proofs.lines.Lines.line.Goals.{After-index-2, In_ok-kept}

-- what is kept of the alternative that is read
kept_line : (c : After-index-2) → IsKeptOrNone c.self.inside.tables (kept_of c.self.inside.kept).middles.items (arguments_of c.self.inside.tables.grammar c.args.rule c.args.alt) c.index-2.result.now.line
kept_line c =
    let p = c.self.inside.tables in
    let kept = kept_of c.self.inside.kept in
    let l : c.args.alt < length (alternatives_of p.grammar c.args.rule) = subst (λ (p : PosedProblem). c.args.alt < length (alternatives_of p.grammar c.args.rule)) (sym c.self.view_is) c.requires in
    let it = kept_rule_read p kept c.rules.result.now c.args.rule c.index.result.now (rule_there p.grammar c.args.rule c.args.alt l) c.self.invariant.short c.self.invariant.kept_are c.rules.ensures c.index.ensures in
    (alternative_read p kept.middles.items c.args.rule c.args.alt c.index.result.now c.index-2.result.now l it c.index-2.ensures).line

pub returns-in_err-kept : goal.returns-in_err-kept
returns-in_err-kept c =
    let at = (goal.at.returns-in_err-kept c).After-index-2 in
    let p = c.self.inside.tables in
    let none = subst (IsKeptOrNone p (kept_of c.self.inside.kept).middles.items (arguments_of p.grammar c.args.rule c.args.alt)) c.in_err-kept.was (kept_line at) in
    let N : PosedProblem → Type 0 = λ p. (first between : ℕ) → HasLine (drop first (arguments_of p.grammar c.args.rule c.args.alt)) between → ⊥ in
    let q = c.args.self.now in
    let M : Option Line → Type 0 = λ it. MatchOption it (N q) (λ line. IsLine q (drop line.first (arguments_of q.grammar c.args.rule c.args.alt)) line) in
    subst M (sym c.from_residual.ensures) (subst N c.self.view_is none)

-- the line that is kept
line_kept : (c : In_ok-kept) → IsKept c.self.inside.tables (kept_of c.self.inside.kept).middles.items (arguments_of c.self.inside.tables.grammar c.args.rule c.args.alt) c.in_ok-kept.kept
line_kept c =
    let p = c.self.inside.tables in
    subst (IsKeptOrNone p (kept_of c.self.inside.kept).middles.items (arguments_of p.grammar c.args.rule c.args.alt)) c.in_ok-kept.was (kept_line (goal.at.In_ok-kept c).After-index-2)

pub of-requires-clause-number : goal.of-requires-clause-number
of-requires-clause-number c =
    let within = (line_kept (goal.at.of-requires-clause-number c).In_ok-kept).middle.within in
    omega (arith, within, c.self.invariant.found_are.each)

pub of-requires-clause-list : goal.of-requires-clause-list
of-requires-clause-list c =
    (list_at c.self.inside.tables (kept_of c.self.inside.kept).middles.items c.self.inside.found _ c.in_ok-kept.kept.middle c.self.invariant.found_are (line_kept (goal.at.of-requires-clause-list c).In_ok-kept).middle).within

pub returns : goal.returns
returns c =
    let at = (goal.at.returns c).In_ok-kept in
    let p = c.self.inside.tables in
    let it = line_kept at in
    let line = c.in_ok-kept.kept in
    let rest : PosedProblem → List Arg = λ p. drop line.first (arguments_of p.grammar c.args.rule c.args.alt) in
    let tokens = (parts_by (rest p) line.between).middle in
    let matches = c.of.ensures p tokens (list_at p (kept_of c.self.inside.kept).middles.items c.self.inside.found tokens line.middle c.self.invariant.found_are it.middle) in
    record {
      has_line = subst (λ p. HasLine (rest p) line.between) c.self.view_is it.has_line;
      middle = subst (λ p. AreMatches p (parts_by (rest p) line.between).middle c.of.result.now) c.self.view_is matches;
      tail = subst (λ p. HaveLetters p (parts_by (rest p) line.between).tail line.tail) c.self.view_is it.tail;
      before = subst (λ p. IsExtent p (parts_by (rest p) line.between).first line.before) c.self.view_is it.before;
      behind = subst (λ p. IsExtent p (parts_by (rest p) line.between).second line.behind) c.self.view_is it.behind;
    }
