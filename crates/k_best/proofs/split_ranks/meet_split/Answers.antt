use Rattle.std.proofs.Common.{◌≡◌, ℕ, List, take, sym, subst}
use Rattle.k_best.specs.RankedRows.{BeginWith}
use Rattle.k_best.proofs.split_ranks.meet_split.Goals as goal

begin_none : (count : ℕ) (xs ys : List ℕ) → count ≡ 0 → BeginWith (take count xs) ys
begin_none count xs ys none = subst (λ n. BeginWith (take n xs) ys) (sym none) tt

pub returns-clause-met : goal.returns-clause-met
returns-clause-met c entry is same begins =
    c.in_ok-meet_ranked.ensures.met entry is same
    (begin_none c.none.result.ranked c.none.result.ranks entry.ranks c.none.ensures.ranked)
