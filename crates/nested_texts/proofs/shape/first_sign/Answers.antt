use Rattle.std.proofs.Common.{◌≡◌, ◌∷◌, drop, refl, rules, arith}
use Rattle.job_texts.specs.LineTokens.{Word, OpenBracket}
use Rattle.nested_texts.specs.Seen.{tokens_seen}
use Rattle.nested_texts.proofs.shape.first_sign.Goals as goal

pub returns-in-Word-clause-next : goal.returns-in-Word-clause-next
returns-in-Word-clause-next c =
    let front : tokens_seen c.args.said.now ≡ Word c.in-Word._sign.now ∷ OpenBracket ∷ tokens_seen (drop 2 c.args.said.now) = search rules in
    (rw front refl, omega arith, c.in-Word.len_at_least)
