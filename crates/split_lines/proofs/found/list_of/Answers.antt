use Rattle.std.proofs.Common.{Bool, List, sym, subst, arith}
use Rattle.split_lines.specs.declared.matches.Matches.{Matches}
use Rattle.split_lines.specs.Found.{IsListOf}
use Rattle.std.specs.Bool.{OnTrue}
use Rattle.split_lines.specs.Matching.{MatchNowhere}
use Rattle.split_lines.specs.KeptRules.{HasAllOf}
use Rattle.split_lines.proofs.FoundLists.{list_of_last}
use Rattle.split_lines.proofs.KeptLines.{has_all-refl, has_all_more}
use Rattle.split_lines.proofs.found.list_of.Goals as goal

pub returns-then-match_nowhere-clause-longer : goal.returns-then-match_nowhere-clause-longer
returns-then-match_nowhere-clause-longer c = has_all-refl c.args.lists.now.items

pub returns-then-match_nowhere-clause-number : goal.returns-then-match_nowhere-clause-number
returns-then-match_nowhere-clause-number c =
    let N : Bool → Type 0 = λ told. OnTrue told (MatchNowhere c.args.tables.now c.args.tokens.now) in
    c.requires.nowhere c.args.tokens.now (subst N c.if-match_nowhere.true c.match_nowhere.ensures)

pub returns-clause-longer : goal.returns-clause-longer
returns-clause-longer c =
    let old = c.args.lists.now.items in
    subst (HasAllOf old) (sym {A = List Matches} c.in_ok-push.ensures.items) (has_all_more old c.in_ok-matches.matches)

pub returns-clause-number : goal.returns-clause-number
returns-clause-number c =
    let old = c.args.lists.now.items in
    let p = c.args.tables.now in
    subst (λ lists. IsListOf p lists c.args.tokens.now c.len-number.result) (sym {A = List Matches} c.in_ok-push.ensures.items)
    (list_of_last p old c.args.tokens.now c.len-number.result c.in_ok-matches.matches (omega (arith, c.len-number.ensures)) c.in_ok-matches.ensures)
