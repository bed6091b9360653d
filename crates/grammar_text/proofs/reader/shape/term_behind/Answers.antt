use Rattle.std.proofs.Common.{length-drop, refl, arith}
use Rattle.algebra_terms.specs.declared.lexer.TokenKind.TheVariants as kinds
use Rattle.grammar_text.proofs.ShapeSteps.{rest_of}
use Rattle.grammar_text.proofs.BehindTokens.{term_behind}
use Rattle.grammar_text.proofs.reader.shape.term_behind.Goals as goal

pub invariant_of-result : goal.invariant_of-result
invariant_of-result c =
    let term = term_behind c.args.version c.args.line.now c.args.tokens.now c.args.equals (record { kind = kinds.Word; from = 0; to = 0 }) c.requires.inside c.requires.tokens in
    record {
      spelled = rw (rest_of, term) c.requires.spelled;
      short = rw (rest_of, length-drop) (omega arith);
    }

pub returns : goal.returns
returns c = record {
  spelled = rw rest_of (term_behind c.args.version c.args.line.now c.args.tokens.now c.args.equals _ c.requires.inside c.requires.tokens);
  version = refl;
}
