use Rattle.std.proofs.Common.{◌≡◌, ◌∙◌, ap, map}
use Rattle.algebra_terms.specs.Tokens as code
use Rattle.grammar_text.specs.Seen.{declaration_seen, tokens_seen}
use Rattle.grammar_text.proofs.HeaderLines.{says_form, has_no_form}
use Rattle.grammar_text.proofs.reader.shape.by_shape.Goals as goal

pub returns-in-Some : goal.returns-in-Some
returns-in-Some c =
    let same : tokens_seen c.deref.result.now ≡ map (code.said c.args.line.now) c.args.tokens.now = ap tokens_seen c.deref.ensures.value ∙ c.in_ok-said.ensures in
    says_form c.args.version c.args.line.now c.args.tokens.now c.deref.result.now (declaration_seen c.in-Some.declaration) c.requires.not_skipped c.requires.printable c.requires.tokens same
    (rw c.in-Some.is at c.in_ok-declaration.ensures)

pub returns : goal.returns
returns c =
    let same : tokens_seen c.deref.result.now ≡ map (code.said c.args.line.now) c.args.tokens.now = ap tokens_seen c.deref.ensures.value ∙ c.in_ok-said.ensures in
    has_no_form c.args.version c.args.line.now c.args.tokens.now c.deref.result.now c.requires.not_skipped c.requires.printable c.requires.tokens same
    (rw c.in-None.is at c.in_ok-declaration.ensures)
