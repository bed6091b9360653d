use Rattle.std.proofs.Common.{◌≡◌, map, take}
use Rattle.algebra_terms.specs.Tokens.{said}
use Rattle.nested_texts.specs.Seen.{tokens_seen}
use Rattle.nested_texts.proofs.header.symbols.Given as goal

abbrev pub invariant-loop-token : goal.invariant-loop-token
invariant-loop-token l = tokens_seen l.symbols.items ≡ map (said l.line) (take l.token-index l.tokens)
