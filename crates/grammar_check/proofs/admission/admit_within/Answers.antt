use Rattle.std.proofs.Common.{length, slice_index, sym, ap, ap₂, subst}
use Rattle.grammar_check.specs.ToldBounds.{IsToldScoreBound, IsToldNodeBound}
use Rattle.grammar_check.proofs.Limits.{nodes_fault, few_nodes, scores_fault, score_told}
use Rattle.grammar_check.proofs.admission.admit_within.Goals as goal

pub returns-then-nodes-gt-MOST_NODES : goal.returns-then-nodes-gt-MOST_NODES
returns-then-nodes-gt-MOST_NODES c =
    let checked = c.args.checked.now in
    let len = length c.args.word.now in
    let node = subst (IsToldNodeBound checked.grammar len) (sym (ap₂ (λ row n. slice_index row n) c.as_slice.ensures (ap length c.bytes-letters.ensures.bytes))) (c.requires.rows.nodes_are len c.requires.known) in
    nodes_fault checked.grammar checked.algebra len c.args.cells _ c.requires.cells node c.if-nodes-gt-MOST_NODES.true

pub returns-then-score_bound-gt-GREATEST_SCORE : goal.returns-then-score_bound-gt-GREATEST_SCORE
returns-then-score_bound-gt-GREATEST_SCORE c =
    let checked = c.args.checked.now in
    let len = length c.args.word.now in
    let node = subst (IsToldNodeBound checked.grammar len) (sym (ap₂ (λ row n. slice_index row n) c.as_slice.ensures (ap length c.bytes-letters.ensures.bytes))) (c.requires.rows.nodes_are len c.requires.known) in
    let score = subst (IsToldScoreBound checked.grammar checked.algebra len) (sym (ap₂ (λ row n. slice_index row n) c.as_slice-2.ensures (ap length c.bytes-letters.ensures.bytes))) (c.requires.rows.scores_are len c.requires.known) in
    scores_fault checked.grammar checked.algebra len c.args.cells _ c.requires.cells (few_nodes checked.grammar len _ node c.if-nodes-gt-MOST_NODES.false) score c.if-score_bound-gt-GREATEST_SCORE.true

pub posed-requires-clause-nodes : goal.posed-requires-clause-nodes
posed-requires-clause-nodes c =
    let checked = c.args.checked.now in
    let len = length c.args.word.now in
    let node = subst (IsToldNodeBound checked.grammar len) (sym (ap₂ (λ row n. slice_index row n) c.as_slice.ensures (ap length c.bytes-letters.ensures.bytes))) (c.requires.rows.nodes_are len c.requires.known) in
    few_nodes checked.grammar len _ node c.if-nodes-gt-MOST_NODES.false

pub posed-requires-clause-scores : goal.posed-requires-clause-scores
posed-requires-clause-scores c =
    let checked = c.args.checked.now in
    let len = length c.args.word.now in
    let score = subst (IsToldScoreBound checked.grammar checked.algebra len) (sym (ap₂ (λ row n. slice_index row n) c.as_slice-2.ensures (ap length c.bytes-letters.ensures.bytes))) (c.requires.rows.scores_are len c.requires.known) in
    score_told checked.grammar checked.algebra len _ score c.if-score_bound-gt-GREATEST_SCORE.false
