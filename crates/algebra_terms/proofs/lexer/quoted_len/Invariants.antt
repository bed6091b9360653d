use Rattle.std.proofs.Common.{◌≡◌, false, drop}
use Rattle.job_texts.specs.LineTokens.{quoted_rest}
use Rattle.algebra_terms.specs.Tokens.{quoted_bytes}
use Rattle.algebra_terms.proofs.QuotedTexts.{behind}
use Rattle.algebra_terms.proofs.lexer.quoted_len.Given as goal

abbrev pub invariant-loop-i : goal.invariant-loop-i
invariant-loop-i l = quoted_bytes (quoted_rest false l.text) ≡ behind l.i (quoted_bytes (quoted_rest l.escaped (drop l.i l.text)))
