use Rattle.std.proofs.Common.{length}
use Rattle.yield_sizes.specs.References.{Reaches}
use Rattle.yield_sizes.specs.Relations.{IsTableOf, Leads}
use Rattle.yield_sizes.proofs.Searching.{if_ok_weaker}
use Rattle.yield_sizes.proofs.ArgumentFacts.{reached_table}
use Rattle.yield_sizes.proofs.references.reached.Goals as goal

pub returns : goal.returns
returns c =
    let grammar = c.args.grammar.now in
    let rows = c.in_ok-rows.rows.items in
    if_ok_weaker c.closure.result (λ closed. IsTableOf (length rows) (Leads rows) closed.items) (λ closed. IsTableOf (length grammar.rules) (Reaches grammar) closed.items)
    (λ closed table. reached_table grammar (length grammar.rules) rows closed.items c.in_ok-rows.ensures table) c.closure.ensures
