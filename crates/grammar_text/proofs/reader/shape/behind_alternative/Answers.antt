use Rattle.std.proofs.Common.{◌≡◌, true, false, ◌∷◌, drop, arith, rules}
use Rattle.std.proofs.lemmas.Grind.{common_steps}
use Rattle.job_texts.specs.LineTokens.{Word}
use Rattle.job_texts.specs.Declarations.{is_clause}
use Rattle.grammar_text.specs.Seen.{tokens_seen}
use Rattle.grammar_text.proofs.ShapeSteps.{rest_of, clause_end, no_clause}
use Rattle.grammar_text.proofs.reader.shape.behind_alternative.Goals as goal

pub returns-then-not-is_clause : goal.returns-then-not-is_clause
returns-then-not-is_clause c =
    let front : tokens_seen c.args.said.now ≡ Word c.in-Word.first.now ∷ Word c.in-Word.second.now ∷ tokens_seen (drop 2 c.args.said.now) = search rules in
    let other : is_clause c.in-Word.first.now c.in-Word.second.now ≡ false = grind (arith, common_steps) in
    no_clause c.in-Word.first.now c.in-Word.second.now c.args.said.now front other

pub returns-in-Some : goal.returns-in-Some
returns-in-Some c =
    let front : tokens_seen c.args.said.now ≡ Word c.in-Word.first.now ∷ Word c.in-Word.second.now ∷ tokens_seen (drop 2 c.args.said.now) = search rules in
    let clause : is_clause c.in-Word.first.now c.in-Word.second.now ≡ true = grind (arith, common_steps) in
    let end = rw rest_of at c.in-Some.ensures in
    clause_end c.in-Word.first.now c.in-Word.second.now c.args.said.now c.in-Some.size c.in-Some.next c.in-Some.used front c.in-Word.len_at_least clause end
