use Rattle.std.proofs.Common.{◌≡◌, ◌+◌, ◌<◌, Bool, List, length, sym, ap, subst, ◌∙◌, arith}
use Rattle.yield_sizes.specs.Relations.{rows_through}
use Rattle.yield_sizes.proofs.Closures.{IsClosing, closing_begins, closing_more, closing_ends}
use Rattle.yield_sizes.proofs.relation.closure.Goals as goal

pub loop-between-init : goal.loop-between-init
loop-between-init c = closing_begins (length c.args.relation.items) c.args.relation.items c.requires

pub loop-between-preserved : goal.loop-between-preserved
loop-between-preserved c =
    let old = c.args.relation.items in
    let rows = c.loop-between.rows.items in
    let between = c.loop-between.between in
    let inside : between < length old = omega (arith, c.args.relation.ok.0) in
    let new : c.in_ok-rows.rows.items ≡ rows_through rows between = c.in_ok-rows.ensures ∙ ap (λ (it : List (List Bool)). rows_through it between) c.deref.ensures.value in
    let P : List (List Bool) → Type 0 = λ it. IsClosing (length old) old it (between + 1) in
    subst P (sym new) (closing_more (length old) old rows between c.loop-between.invariant inside)

pub returns : goal.returns
returns c =
    let old = c.args.relation.items in
    closing_ends (length old) old c.loop-between.rows.items c.loop-between.between c.loop-between.invariant (omega (arith, c.args.relation.ok.0))
