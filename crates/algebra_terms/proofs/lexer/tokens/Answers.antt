use Rattle.std.proofs.Common.{◌+◌, Err, map, slice_index, subst}
use Rattle.std.proofs.lemmas.Result.{err_from_is_err_and}
use Rattle.std.proofs.lemmas.List.Elements.{All-push}
use Rattle.algebra_terms.specs.Tokens.{placed, IsIn, IsBeginning}
use Rattle.algebra_terms.proofs.LineTokens.{rest_of, stopped, goes_on, token_is_in}
use Rattle.algebra_terms.proofs.lexer.tokens.Goals as goal

pub returns-in_err-kind-clause-tokens : goal.returns-in_err-kind-clause-tokens
returns-in_err-kind-clause-tokens c =
    let failed = err_from_is_err_and c.from_residual-in_err-kind.result c.from_residual-in_err-kind.ensures.1 in
    let stops = subst (λ rest. IsBeginning (slice_index c.args.line.now c.loop-at.at) rest (Err c.in_err-kind.field-0.0)) (rest_of c.args.line.now (c.loop-at.at + 1)) c.in_err-kind.ensures in
    rw (failed.1, failed.2)
    (stopped c.args.line.now c.loop-at.at (map (placed c.args.line.now) c.loop-at.tokens.items) _ c.loop-at-test.true c.loop-at.invariant.found stops)

pub loop-at-preserved : goal.loop-at-preserved
loop-at-preserved c =
    let begins = rw rest_of at (rw c.in-Some.is at c.in_ok-kind.ensures) in
    let is_in = token_is_in c.args.line.now c.loop-at.at c.in-Some.further c.in-Some.kind c.loop-at-test.true begins in
    record {
      within = is_in.inside;
      found = goes_on c.args.line.now c.loop-at.at c.in-Some.further c.in-Some.kind c.loop-at.tokens.items c.push.new.self.items
          c.loop-at-test.true c.loop-at.invariant.found begins c.in_ok-push.ensures.items;
      spans = rw c.in_ok-push.ensures.items (All-push (IsIn c.args.line.now) _ _ c.loop-at.invariant.spans is_in);
    }
