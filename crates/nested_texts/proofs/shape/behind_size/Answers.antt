use Rattle.std.proofs.Common.{◌≡◌, ◌∷◌, drop, refl, rules, arith}
use Rattle.job_texts.specs.LineTokens.{Word, Bar}
use Rattle.nested_texts.specs.Seen.{tokens_seen}
use Rattle.nested_texts.proofs.shape.behind_size.Goals as goal

pub returns-in-Word-2-clause-next : goal.returns-in-Word-2-clause-next
returns-in-Word-2-clause-next c =
    let front : tokens_seen c.args.said.now ≡ Word c.in-Word-2._high.now ∷ Bar ∷ tokens_seen (drop 2 c.args.said.now) = search rules in
    (rw front refl, omega arith, c.in-Word-2.len_at_least)
