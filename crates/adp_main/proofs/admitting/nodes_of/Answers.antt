use Rattle.std.proofs.Common.{length, slice_index, sym, ap, ap₂, subst}
use Rattle.grammar_check.specs.ToldBounds.{IsToldNodeBound}
use Rattle.adp_main.proofs.FirstLimit.{nodes_told}
use Rattle.adp_main.proofs.admitting.nodes_of.Goals as goal

pub returns-clause-bound : goal.returns-clause-bound
returns-clause-bound c =
    let checked = c.args.checked.now in
    let len = length c.args.word.now in
    (nodes_told checked.grammar len _
    (c.words_have_one_bound.ensures.one_node checked.grammar checked.algebra _ _ _ c.passes.ensures.found len)
    c.requires.limits.nodes
    (subst (IsToldNodeBound checked.grammar len)
    (sym (ap₂ (λ row n. slice_index row n) c.as_slice.ensures (ap length c.bytes.ensures.bytes)))
    (c.requires.rows.nodes_are len c.requires.known))).0

pub returns-clause-few : goal.returns-clause-few
returns-clause-few c =
    let checked = c.args.checked.now in
    let len = length c.args.word.now in
    (nodes_told checked.grammar len _
    (c.words_have_one_bound.ensures.one_node checked.grammar checked.algebra _ _ _ c.passes.ensures.found len)
    c.requires.limits.nodes
    (subst (IsToldNodeBound checked.grammar len)
    (sym (ap₂ (λ row n. slice_index row n) c.as_slice.ensures (ap length c.bytes.ensures.bytes)))
    (c.requires.rows.nodes_are len c.requires.known))).1
