use Rattle.std.proofs.Common.{arith}
use Rattle.std.proofs.lemmas.Grind.{common_steps}
use Rattle.grammar_text.proofs.reader.shape.declaration.Goals as goal

pub returns-in_default : goal.returns-in_default
returns-in_default c = grind (arith, common_steps)

pub returns-then-is_word : goal.returns-then-is_word
returns-then-is_word c = grind (arith, common_steps)

pub returns-then-is_word-2 : goal.returns-then-is_word-2
returns-then-is_word-2 c = grind (arith, common_steps)

pub returns-then-is_word-3 : goal.returns-then-is_word-3
returns-then-is_word-3 c = grind (arith, common_steps)

pub returns-then-is_word-4 : goal.returns-then-is_word-4
returns-then-is_word-4 c = grind (arith, common_steps)

pub returns-then-is_word-5 : goal.returns-then-is_word-5
returns-then-is_word-5 c = grind (arith, common_steps)

pub returns-then-is_word-6 : goal.returns-then-is_word-6
returns-then-is_word-6 c = grind (arith, common_steps)

pub returns-then-is_word-7 : goal.returns-then-is_word-7
returns-then-is_word-7 c = grind (arith, common_steps)

pub returns-else-is_word-7 : goal.returns-else-is_word-7
returns-else-is_word-7 c = grind (arith, common_steps)

pub let_line-requires-clause-tokens : goal.let_line-requires-clause-tokens
let_line-requires-clause-tokens c = c.requires.tokens

pub let_line-requires-clause-spans : goal.let_line-requires-clause-spans
let_line-requires-clause-spans c = c.requires.spans

pub let_line-requires-clause-short : goal.let_line-requires-clause-short
let_line-requires-clause-short c = c.requires.short

pub let_line-requires-clause-said : goal.let_line-requires-clause-said
let_line-requires-clause-said c = grind (arith, common_steps)
