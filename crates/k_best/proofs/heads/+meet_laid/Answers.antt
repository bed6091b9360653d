use Rattle.std.proofs.Common.{◌≡◌, ℕ, ◌+◌, ◌≤◌, List, [], ◌∷◌, true, length, take, rules, refl, sym, ap, subst, ◌∙◌, arith}
use Rattle.std.proofs.lemmas.Bool.{false≢true}
use Rattle.adp_model.specs.declared.grammar.Arg.{Arg}
use Rattle.adp_model.specs.Splits.{FitsSpan}
use Rattle.viable_splits.specs.Placing.{ArePositions, on_span}
use Rattle.k_best.specs.Growing.{AreHeaded}
use Rattle.k_best.specs.GrowingLists.{no_ranks}
use Rattle.k_best.specs.Heads.{AreHeadedBy, IsLaid}
use Rattle.k_best.proofs.Laying.{if_ok, laid_all, laid_more, laid_next, laid_none, last_viable, next_cuts, none_last, nothing_left, one_last, some_left, treeless}
use Rattle.k_best.proofs.Told.{zeros_under}
use Rattle.k_best.proofs.heads.+meet_laid.Goals as goal

pub returns-then-not-fits-clause-met : goal.returns-then-not-fits-clause-met
returns-then-not-fits-clause-met t c known =
    let p = c.args.basis.now.lines.now in
    let node = c.args.node in
    let argument = c.in-Some.argument.now in
    let three : length node.choice.cuts ≡ 3 = search rules in
    let are : c.args.arguments.now ≡ argument ∷ [] =
    c.in-Some.ensures.cases.0 ∙ ap (λ (them : List Arg). argument ∷ them) (nothing_left c.in-Some.others.now c.if-is_empty.ensures) in
    let laid = subst (λ them. IsLaid p node.cell node.choice.alt node.choice.cuts c.args.count them c.args.from) are c.requires.laid in
    none_last p node.cell node.choice.alt node.choice.cuts three c.args.count argument c.args.from laid c.args.basis.now.k c.args.found.now.items
    (λ fits. false≢true (sym c.if-not-fits.true ∙ c.fits.ensures.1 fits))

pub meet_at-requires-clause-viable : goal.meet_at-requires-clause-viable
meet_at-requires-clause-viable t c =
    let p = c.args.basis.now.lines.now in
    let node = c.args.node in
    let argument = c.in-Some.argument.now in
    let three : length node.choice.cuts ≡ 3 = search rules in
    let are : c.args.arguments.now ≡ argument ∷ [] =
    c.in-Some.ensures.cases.0 ∙ ap (λ (them : List Arg). argument ∷ them) (nothing_left c.in-Some.others.now c.if-is_empty.ensures) in
    let laid = subst (λ them. IsLaid p node.cell node.choice.alt node.choice.cuts c.args.count them c.args.from) are c.requires.laid in
    last_viable p node.cell node.choice.alt node.choice.cuts three c.args.count argument c.args.from laid (c.fits.ensures.0 c.if-not-fits.false)

pub returns-then-is_empty-clause-met : goal.returns-then-is_empty-clause-met
returns-then-is_empty-clause-met t c =
    let p = c.args.basis.now.lines.now in
    let k = c.args.basis.now.k in
    let node = c.args.node in
    let argument = c.in-Some.argument.now in
    let three : length node.choice.cuts ≡ 3 = search rules in
    let are : c.args.arguments.now ≡ argument ∷ [] =
    c.in-Some.ensures.cases.0 ∙ ap (λ (them : List Arg). argument ∷ them) (nothing_left c.in-Some.others.now c.if-is_empty.ensures) in
    let laid = subst (λ them. IsLaid p node.cell node.choice.alt node.choice.cuts c.args.count them c.args.from) are c.requires.laid in
    let new = c.meet_at.new.found.items in
    if_ok c.meet_at.result
    (λ is_known. is_known ≡ true → AreHeaded p k node.cell node.choice no_ranks new)
    (λ is_known. is_known ≡ true → AreHeadedBy p k node.cell node.choice.alt (take c.args.count node.choice.cuts) new)
    (λ is_known met known others entry is same. met known entry is
    (one_last p node.cell node.choice.alt node.choice.cuts three c.args.count argument c.args.from laid k entry others is same)
    (zeros_under no_ranks (refl, (refl, (refl, (refl, tt)))) entry.ranks))
    c.meet_at.ensures.met

pub loop-end-init : goal.loop-end-init
loop-end-init t c =
    let node = c.args.node in
    let start = c.ends_of_first-ends.result.start in
    laid_none c.args.basis.now.lines.now c.args.basis.now.k node.cell node.choice.alt (take c.args.count node.choice.cuts)
    start start c.args.found.now.items c.requires.listing

pub loop-end-preserved-then-is_treeless : goal.loop-end-preserved-then-is_treeless
loop-end-preserved-then-is_treeless t c =
    let p = c.args.basis.now.lines.now in
    let k = c.args.basis.now.k in
    let node = c.args.node in
    let others = c.in-Some.others.now in
    let three : length node.choice.cuts ≡ 3 = search rules in
    let laid = subst (λ them. IsLaid p node.cell node.choice.alt node.choice.cuts c.args.count them c.args.from) c.in-Some.ensures.cases.0 c.requires.laid in
    let here = c.loop-end.invariant in
    laid_more p k node.cell node.choice.alt (take c.args.count node.choice.cuts) c.ends_of_first-ends.result.start c.loop-end.end
    c.args.found.now.items c.loop-end.found.items c.loop-end.found.items here here.listing (λ entry settled. settled)
    (treeless p node.cell node.choice.alt node.choice.cuts three c.args.count c.in-Some.argument.now others
    (some_left others c.if-is_empty.ensures) c.args.from laid k c.loop-end.end c.loop-end.found.items c.if-is_treeless.ensures)

pub meet_laid-requires : goal.meet_laid-requires
meet_laid-requires t c =
    let p = c.args.basis.now.lines.now in
    let node = c.args.node in
    let argument = c.in-Some.argument.now in
    let others = c.in-Some.others.now in
    let three : length node.choice.cuts ≡ 3 = search rules in
    let some = some_left others c.if-is_empty.ensures in
    let laid = subst (λ them. IsLaid p node.cell node.choice.alt node.choice.cuts c.args.count them c.args.from) c.in-Some.ensures.cases.0 c.requires.laid in
    let positions : ArePositions p argument others c.args.from node.cell.to c.ends_of_first-ends.result =
    c.ends_of_first-ends.ensures argument others c.in-Some.ensures.cases.0 in
    let fits : FitsSpan p (on_span argument c.args.from c.loop-end.end) = positions.fit c.loop-end.end c.loop-end.auto.end c.loop-end-test.true in
    let low : c.loop-end.end ≤ node.cell.to = omega (arith, positions.up_to_last, c.loop-end-test.true) in
    let next =
    subst (λ (them : List ℕ). IsLaid p node.cell node.choice.alt them (c.args.count + 1) others c.loop-end.end) (sym c.with_cut.ensures)
    (laid_next p node.cell node.choice.alt node.choice.cuts three c.args.count argument others some c.args.from laid c.loop-end.end fits low) in
    let fewer = c.in-Some.ensures.cases.1 in
    (search rules, (c.requires.basis, (c.requires.growing, (c.requires.span, (next, (some, c.loop-end.invariant.listing))))))

pub returns-then-not-branch-clause-kept : goal.returns-then-not-branch-clause-kept
returns-then-not-branch-clause-kept t c entry settled =
    c.in_ok-meet_laid.ensures.kept entry (c.loop-end.invariant.kept entry settled)

pub loop-end-preserved : goal.loop-end-preserved
loop-end-preserved t c =
    let p = c.args.basis.now.lines.now in
    let k = c.args.basis.now.k in
    let node = c.args.node in
    let others = c.in-Some.others.now in
    let three : length node.choice.cuts ≡ 3 = search rules in
    let laid = subst (λ them. IsLaid p node.cell node.choice.alt node.choice.cuts c.args.count them c.args.from) c.in-Some.ensures.cases.0 c.requires.laid in
    let new = c.meet_laid.new.found.items in
    let cuts_are = ap (take (c.args.count + 1)) c.with_cut.ensures
    ∙ next_cuts p node.cell node.choice.alt node.choice.cuts three c.args.count c.in-Some.argument.now others
    (some_left others c.if-is_empty.ensures) c.args.from laid c.loop-end.end in
    laid_more p k node.cell node.choice.alt (take c.args.count node.choice.cuts) c.ends_of_first-ends.result.start c.loop-end.end
    c.args.found.now.items c.loop-end.found.items new c.loop-end.invariant c.in_ok-meet_laid.ensures.listing c.in_ok-meet_laid.ensures.kept
    (subst (λ (them : List ℕ). AreHeadedBy p k node.cell node.choice.alt them new) cuts_are (c.in_ok-meet_laid.ensures.met c.if-not-branch.false))

pub returns-clause-listing : goal.returns-clause-listing
returns-clause-listing t c = c.loop-end.invariant.listing

pub returns-clause-kept : goal.returns-clause-kept
returns-clause-kept t c = c.loop-end.invariant.kept

pub returns-clause-met : goal.returns-clause-met
returns-clause-met t c known =
    let p = c.args.basis.now.lines.now in
    let node = c.args.node in
    let argument = c.in-Some.argument.now in
    let others = c.in-Some.others.now in
    let three : length node.choice.cuts ≡ 3 = search rules in
    let laid = subst (λ them. IsLaid p node.cell node.choice.alt node.choice.cuts c.args.count them c.args.from) c.in-Some.ensures.cases.0 c.requires.laid in
    laid_all p node.cell node.choice.alt node.choice.cuts three c.args.count argument others (some_left others c.if-is_empty.ensures) c.args.from laid
    c.args.basis.now.k c.ends_of_first-ends.result (c.ends_of_first-ends.ensures argument others c.in-Some.ensures.cases.0)
    c.loop-end.end (omega (arith, c.loop-end-test.false)) c.args.found.now.items c.loop-end.found.items c.loop-end.invariant
