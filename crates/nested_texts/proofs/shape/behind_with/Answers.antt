use Rattle.std.proofs.Common.{◌≡◌, ◌∷◌, true, codes, drop, refl, rules, arith}
use Rattle.std.proofs.lemmas.Grind.{common_steps}
use Rattle.job_texts.specs.LineTokens.{Word}
use Rattle.job_texts.specs.TermText.{is_word}
use Rattle.nested_texts.specs.Seen.{tokens_seen}
use Rattle.nested_texts.proofs.shape.behind_with.Goals as goal

pub returns-then-is_word-clause-next : goal.returns-then-is_word-clause-next
returns-then-is_word-clause-next c =
    let front : tokens_seen c.args.said.now ≡ Word c.in-Word.word.now ∷ tokens_seen (drop 1 c.args.said.now) = search rules in
    let keyword : is_word (codes "size") c.in-Word.word.now ≡ true = grind (arith, common_steps) in
    (rw (front, keyword) refl, omega arith, c.in-Word.len_at_least)
