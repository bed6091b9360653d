use Rattle.std.proofs.Common.{◌≡◌, ◌+◌, ◌*◌, ◌∷◌, ◌∙◌, sym, length, drop, arith}
use Rattle.job_texts.specs.LineTokens.{Word, OpenBracket}
use Rattle.std.proofs.lemmas.Grind.{common_steps}
use Rattle.grammar_text.specs.Seen.{tokens_seen}
use Rattle.grammar_text.proofs.ShapeSteps.{rest_of}
use Rattle.grammar_text.proofs.LetLines.{let_unread, let_read, tokens_room, is_spelled}
use Rattle.grammar_text.proofs.reader.shape.let_line.Goals as goal

pub returns-then-not-branch : goal.returns-then-not-branch
returns-then-not-branch c =
    let front : tokens_seen c.args.said.now ≡ Word c.in-Word.sign.now ∷ OpenBracket ∷ tokens_seen (drop 2 c.args.said.now) = grind (arith, common_steps) in
    let found = rw (c.in-Some.is, rest_of) at c.in_ok-variables.ensures.variables in
    let size : c.len.result ≡ length c.in-Some.variables.items = omega (arith, c.in-Some.variables.ok.0) in
    let place : 3 + 2 * c.len.result ≡ 3 + 2 * length c.in-Some.variables.items = omega arith in
    let none = sym (rw rest_of at c.in_ok-spells_term.ensures) ∙ c.if-not-branch.true in
    let_unread c.args.version c.args.line.now c.args.tokens.now c.args.said.now c.in-Word.sign.now c.in-Some.variables.items (3 + 2 * c.len.result) front c.requires.said found place none

pub returns : goal.returns
returns c =
    let front : tokens_seen c.args.said.now ≡ Word c.in-Word.sign.now ∷ OpenBracket ∷ tokens_seen (drop 2 c.args.said.now) = grind (arith, common_steps) in
    let found = rw (c.in-Some.is, rest_of) at c.in_ok-variables.ensures.variables in
    let size : c.len.result ≡ length c.in-Some.variables.items = omega (arith, c.in-Some.variables.ok.0) in
    let place : 3 + 2 * c.len.result ≡ 3 + 2 * length c.in-Some.variables.items = omega arith in
    let some = sym (rw rest_of at c.in_ok-spells_term.ensures) ∙ c.if-not-branch.false in
    rw c.term_behind-term.ensures.version (let_read c.args.version c.args.line.now c.args.tokens.now c.args.said.now c.in-Word.sign.now c.in-Some.variables.items (3 + 2 * c.len.result) c.term_behind-term.result.bytes.now front c.requires.said found place some c.term_behind-term.ensures.spelled)

pub returns-in_default : goal.returns-in_default
returns-in_default c = grind (arith, common_steps)

pub returns-in_default-2 : goal.returns-in_default-2
returns-in_default-2 c = grind (arith, common_steps)

pub overflow_mul-equals : goal.overflow_mul-equals
overflow_mul-equals c =
    let within = rw c.in-Some.is at c.in_ok-variables.ensures.within in
    let room = tokens_room c.args.line.now c.args.tokens.now c.args.said.now (length c.in-Some.variables.items) c.requires.said within in
    omega (arith, room, c.in-Some.variables.ok.0)

pub overflow_add-equals : goal.overflow_add-equals
overflow_add-equals c =
    let within = rw c.in-Some.is at c.in_ok-variables.ensures.within in
    let room = tokens_room c.args.line.now c.args.tokens.now c.args.said.now (length c.in-Some.variables.items) c.requires.said within in
    omega (arith, room, c.in-Some.variables.ok.0)

pub overflow_add-equals-2 : goal.overflow_add-equals-2
overflow_add-equals-2 c =
    let within = rw c.in-Some.is at c.in_ok-variables.ensures.within in
    let room = tokens_room c.args.line.now c.args.tokens.now c.args.said.now (length c.in-Some.variables.items) c.requires.said within in
    omega (arith, room, c.in-Some.variables.ok.0)

pub offset_bounds-tokens-equals : goal.offset_bounds-tokens-equals
offset_bounds-tokens-equals c =
    let within = rw c.in-Some.is at c.in_ok-variables.ensures.within in
    let room = tokens_room c.args.line.now c.args.tokens.now c.args.said.now (length c.in-Some.variables.items) c.requires.said within in
    omega (arith, room, c.in-Some.variables.ok.0)

pub slice_bounds-spells_term-start : goal.slice_bounds-spells_term-start
slice_bounds-spells_term-start c =
    let within = rw c.in-Some.is at c.in_ok-variables.ensures.within in
    let room = tokens_room c.args.line.now c.args.tokens.now c.args.said.now (length c.in-Some.variables.items) c.requires.said within in
    omega (arith, room, c.in-Some.variables.ok.0)

pub slice_bounds-spells_term-count : goal.slice_bounds-spells_term-count
slice_bounds-spells_term-count c =
    let within = rw c.in-Some.is at c.in_ok-variables.ensures.within in
    let room = tokens_room c.args.line.now c.args.tokens.now c.args.said.now (length c.in-Some.variables.items) c.requires.said within in
    omega (arith, room, c.in-Some.variables.ok.0)

pub slice_bounds-spells_term-end : goal.slice_bounds-spells_term-end
slice_bounds-spells_term-end c =
    let within = rw c.in-Some.is at c.in_ok-variables.ensures.within in
    let room = tokens_room c.args.line.now c.args.tokens.now c.args.said.now (length c.in-Some.variables.items) c.requires.said within in
    omega (arith, room, c.in-Some.variables.ok.0)

pub term_behind-term-requires-clause-inside : goal.term_behind-term-requires-clause-inside
term_behind-term-requires-clause-inside c =
    let within = rw c.in-Some.is at c.in_ok-variables.ensures.within in
    let room = tokens_room c.args.line.now c.args.tokens.now c.args.said.now (length c.in-Some.variables.items) c.requires.said within in
    omega (arith, room, c.in-Some.variables.ok.0)

pub term_behind-term-requires-clause-spelled : goal.term_behind-term-requires-clause-spelled
term_behind-term-requires-clause-spelled c = is_spelled _ (sym (rw rest_of at c.in_ok-spells_term.ensures) ∙ c.if-not-branch.false)
