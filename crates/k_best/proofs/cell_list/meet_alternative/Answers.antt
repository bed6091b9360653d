use Rattle.std.proofs.Common.{◌≡◌, ◌≤◌, ℕ, List, refl, sym, subst, arith}
use Rattle.adp_model.specs.ProblemFields.{IsAdmissible}
use Rattle.adp_model.specs.Splits.{IsViable}
use Rattle.adp_model.specs.Walk.{ranks_of}
use Rattle.k_best.proofs.Walking.{IsWalked, settled, all_walked, fewer_left, no_turns, walked_on}
use Rattle.k_best.proofs.cell_list.meet_alternative.Goals as goal
use Rattle.k_best.proofs.cell_list.meet_alternative.Goals.{After-ranks_tell_splits_apart}

known : (c : After-ranks_tell_splits_apart) → IsAdmissible c.args.lines.now
known c = subst IsAdmissible c.problem-problem.ensures c.admissible.ensures

apart : (c : After-ranks_tell_splits_apart) (cuts others : List ℕ) → IsViable c.args.lines.now c.args.cell c.args.alt cuts
    → IsViable c.args.lines.now c.args.cell c.args.alt others → ranks_of c.args.cell no_turns cuts ≡ ranks_of c.args.cell no_turns others → cuts ≡ others
apart c =
    c.ranks_tell_splits_apart.ensures c.args.lines.now (known c).checked.well_formed c.args.cell no_turns c.requires.span.in_order refl
    (omega arith, (omega arith, (omega arith, tt))) c.args.alt

pub returns-then-not-next_viable-clause-kept : goal.returns-then-not-next_viable-clause-kept
returns-then-not-next_viable-clause-kept c entry settled =
    c.in_ok-meet_split.ensures.kept entry (c.loop-cuts.invariant.kept entry settled)

pub returns-then-not-next_viable-clause-met : goal.returns-then-not-next_viable-clause-met
returns-then-not-next_viable-clause-met c =
    let at = (goal.at.returns-then-not-next_viable-clause-met c).After-ranks_tell_splits_apart in
    all_walked c.args.lines.now c.args.k c.args.cell (settled c.args.lines.now c.args.k) c.args.alt (apart at) c.loop-cuts.cuts.turns c.loop-cuts.cuts.at
    c.args.listed.now.items c.loop-cuts.listed.items c.meet_split.new.listed.items c.loop-cuts.invariant c.in_ok-meet_split.ensures.kept
    (λ entry is same. c.in_ok-meet_split.ensures.met entry is same tt) c.if-not-next_viable.ensures.last

pub loop-cuts-smaller : goal.loop-cuts-smaller
loop-cuts-smaller c =
    let at = (goal.at.loop-cuts-smaller c).After-ranks_tell_splits_apart in
    let short : c.args.cell.to ≤ 4000 = omega (arith, (known at).limits.letters, c.requires.span.in_word) in
    fewer_left c.args.lines.now c.args.k c.args.cell (settled c.args.lines.now c.args.k) c.args.alt (apart at) c.loop-cuts.cuts.turns c.loop-cuts.cuts.at
    c.args.listed.now.items c.loop-cuts.listed.items c.meet_split.new.listed.items c.loop-cuts.invariant c.in_ok-meet_split.ensures.kept
    (λ entry is same. c.in_ok-meet_split.ensures.met entry is same tt) short c.next_viable.new.cuts.at c.if-not-next_viable.ensures.next

pub loop-cuts-preserved : goal.loop-cuts-preserved
loop-cuts-preserved c =
    let at = (goal.at.loop-cuts-preserved c).After-ranks_tell_splits_apart in
    let p = c.args.lines.now in
    subst (λ turns. IsWalked p c.args.k c.args.cell (settled p c.args.k) c.args.alt turns c.next_viable.new.cuts.at c.args.listed.now.items c.meet_split.new.listed.items)
    (sym c.if-not-next_viable.ensures.turns)
    (walked_on p c.args.k c.args.cell (settled p c.args.k) c.args.alt (apart at) c.loop-cuts.cuts.turns c.loop-cuts.cuts.at
    c.args.listed.now.items c.loop-cuts.listed.items c.meet_split.new.listed.items c.loop-cuts.invariant c.in_ok-meet_split.ensures.kept
    (λ entry is same. c.in_ok-meet_split.ensures.met entry is same tt) c.next_viable.new.cuts.at c.if-not-next_viable.ensures.next
    c.in_ok-meet_split.ensures.listing)
