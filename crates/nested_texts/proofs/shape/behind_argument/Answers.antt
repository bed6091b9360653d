use Rattle.std.proofs.Common.{◌≡◌, ◌∷◌, drop, rules, arith}
use Rattle.job_texts.specs.LineTokens.{CloseBracket}
use Rattle.nested_texts.specs.Seen.{tokens_seen}
use Rattle.nested_texts.proofs.Shapes.{closes_inner}
use Rattle.nested_texts.proofs.shape.behind_argument.Goals as goal

pub returns-else-depth-eq0-clause-next : goal.returns-else-depth-eq0-clause-next
returns-else-depth-eq0-clause-next c =
    let front : tokens_seen c.args.said.now ≡ CloseBracket ∷ tokens_seen (drop 1 c.args.said.now) = search rules in
    (rw front (closes_inner c.args.depth (tokens_seen (drop 1 c.args.said.now)) (omega arith)), omega arith, c.in-CloseBracket.len_at_least)
