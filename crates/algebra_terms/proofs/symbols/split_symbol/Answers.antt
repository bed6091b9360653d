use Rattle.std.proofs.lemmas.List.Elements.{All-tail}
use Rattle.algebra_terms.specs.Tokens.{IsIn}
use Rattle.algebra_terms.proofs.symbols.split_symbol.Goals as goal

pub returns-clause-within : goal.returns-clause-within
returns-clause-within c =
    let splits = (c.in_ok-first.ensures.cases).0 in
    All-tail (IsIn c.args.line.now) c.in_ok-first.first.now c.in_ok-first.rest.now (rw splits at c.requires)
