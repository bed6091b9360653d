use Rattle.std.proofs.Common.{◌≡◌, ◌++◌, ℕ, List, take, sym, ap, subst}
use Rattle.k_best.specs.Chosen.{ranks_of, values_of}
use Rattle.k_best.specs.Growing.{AreUnder}
use Rattle.k_best.specs.RankedRows.{BeginWith}
use Rattle.k_best.proofs.Told.{headed_by}
use Rattle.k_best.proofs.ranked.meet_at.Goals as goal

none_before : (count : ℕ) (xs ys : List ℕ) → count ≡ 0 → take count xs ++ ys ≡ ys
none_before count xs ys none = ap (λ n. take n xs ++ ys) none

pub returns-in_ok-meet_chosen-in-Found-clause-kept : goal.returns-in_ok-meet_chosen-in-Found-clause-kept
returns-in_ok-meet_chosen-in-Found-clause-kept c =
    let whole = none_before c.none.result.ranked c.none.result.ranks c.args.ranks.now c.none.ensures.ranked in
    let begins = subst (BeginWith (ranks_of c.in-Found.chosen)) whole c.in-Found.ensures.0 in
    record {
      kept = c.in_ok-meet_chosen-in-Found.ensures.kept;
      front = λ place other at each. c.in_ok-meet_chosen-in-Found.ensures.front place other at
          (λ entry is same ranks. each entry is same (subst (λ (xs : List ℕ). BeginWith xs c.args.ranks.now) (sym ranks) begins));
    }

pub returns-in_ok-meet_chosen-in-Found-clause-met : goal.returns-in_ok-meet_chosen-in-Found-clause-met
returns-in_ok-meet_chosen-in-Found-clause-met c known =
    let p = c.args.basis.now.lines.now in
    let whole = none_before c.none.result.ranked c.none.result.ranks c.args.ranks.now c.none.ensures.ranked in
    let begins = subst (BeginWith (ranks_of c.in-Found.chosen)) whole c.in-Found.ensures.0 in
    headed_by p c.args.basis.now.k c.args.node.cell c.args.node.choice c.args.ranks.now (ranks_of c.in-Found.chosen) (values_of c.in-Found.chosen)
    begins c.in-Found.ensures.1 c.requires.viable c.meet_chosen.new.listed.items c.in_ok-meet_chosen-in-Found.ensures.met

pub returns-in-Nowhere-clause-kept : goal.returns-in-Nowhere-clause-kept
returns-in-Nowhere-clause-kept c = record { kept = λ entry settled. settled; front = λ place other at each. at }

pub returns-in-Nowhere-clause-met : goal.returns-in-Nowhere-clause-met
returns-in-Nowhere-clause-met c known entry is same under =
    let whole = none_before c.none.result.ranked c.none.result.ranks c.args.ranks.now c.none.ensures.ranked in
    absurd (c.in-Nowhere.ensures entry is same (subst (λ (xs : List ℕ). AreUnder xs entry.ranks) (sym whole) under))

pub returns-in-NotYet-clause-kept : goal.returns-in-NotYet-clause-kept
returns-in-NotYet-clause-kept c = record { kept = λ entry settled. settled; front = λ place other at each. at }
