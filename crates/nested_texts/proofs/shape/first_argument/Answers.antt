use Rattle.std.proofs.Common.{◌≡◌, ◌∷◌, true, false, drop, rules, arith}
use Rattle.std.proofs.lemmas.Grind.{common_steps}
use Rattle.job_texts.specs.LineTokens.{Word}
use Rattle.nested_texts.specs.Seen.{opens_alternative, tokens_seen}
use Rattle.nested_texts.proofs.Shapes.{opens_inner, names_rule}
use Rattle.nested_texts.proofs.shape.first_argument.Goals as goal

pub returns-then-opens_alternative-clause-next : goal.returns-then-opens_alternative-clause-next
returns-then-opens_alternative-clause-next c =
    let opens : opens_alternative (tokens_seen c.args.said.now) ≡ true = grind (arith, common_steps) in
    (opens_inner c.args.depth c.args.said.now opens, omega arith, c.opens_alternative.ensures.long (grind (arith, common_steps)))

pub returns-in-Word-clause-next : goal.returns-in-Word-clause-next
returns-in-Word-clause-next c =
    let front : tokens_seen c.args.said.now ≡ Word c.in-Word._rule.now ∷ tokens_seen (drop 1 c.args.said.now) = search rules in
    let opens : opens_alternative (tokens_seen c.args.said.now) ≡ false = grind (arith, common_steps) in
    (rw front (names_rule c.args.depth c.in-Word._rule.now (tokens_seen (drop 1 c.args.said.now)) (rw front at opens)), omega arith, c.in-Word.len_at_least)
