use Rattle.std.proofs.Common.{◌≡◌, w64, of_z, inl, inr, refl, ap, rules}
use Rattle.score_numbers.proofs.FirstSums.{same_number}
use Rattle.score_numbers.proofs.WeighedPositions.{product_first, product_weight, product_second, sum_two, sum_all, all_is}
use Rattle.score_numbers.proofs.weighed_sums.Weights.sum.Goals as goal

pub overflow_mul-result : goal.overflow_mul-result
overflow_mul-result c =
    product_first c.args.scales.before c.args.before c.args.self.factor c.args.weight c.args.scales.behind c.args.behind (search rules) c.ranges.before (search rules) c.ranges.weight (search rules) c.ranges.behind
    (c.requires.low (λ e. c.if-behind-mark.false.0 (ap (of_z w64) e)) (λ e. c.if-behind-mark.false.1 (ap (of_z w64) e)))

pub overflow_mul-result-else-behind-mark : goal.overflow_mul-result-else-behind-mark
overflow_mul-result-else-behind-mark c =
    product_weight c.args.scales.before c.args.before c.args.self.factor c.args.weight c.args.scales.behind c.args.behind (search rules) c.ranges.before (search rules) c.ranges.weight (search rules) c.ranges.behind
    (c.requires.low (λ e. c.if-behind-mark.false.0 (ap (of_z w64) e)) (λ e. c.if-behind-mark.false.1 (ap (of_z w64) e)))

pub overflow_add-result-else-behind-mark : goal.overflow_add-result-else-behind-mark
overflow_add-result-else-behind-mark c =
    sum_all c.args.scales.before c.args.before c.args.self.factor c.args.weight c.args.scales.behind c.args.behind (search rules) c.ranges.before (search rules) c.ranges.weight (search rules) c.ranges.behind
    (c.requires.low (λ e. c.if-behind-mark.false.0 (ap (of_z w64) e)) (λ e. c.if-behind-mark.false.1 (ap (of_z w64) e)))

pub overflow_mul-result-else-behind-mark-2 : goal.overflow_mul-result-else-behind-mark-2
overflow_mul-result-else-behind-mark-2 c =
    product_second c.args.scales.before c.args.before c.args.self.factor c.args.weight c.args.scales.behind c.args.behind (search rules) c.ranges.before (search rules) c.ranges.weight (search rules) c.ranges.behind
    (c.requires.low (λ e. c.if-behind-mark.false.0 (ap (of_z w64) e)) (λ e. c.if-behind-mark.false.1 (ap (of_z w64) e)))

pub overflow_add-result : goal.overflow_add-result
overflow_add-result c =
    sum_two c.args.scales.before c.args.before c.args.self.factor c.args.weight c.args.scales.behind c.args.behind (search rules) c.ranges.before (search rules) c.ranges.weight (search rules) c.ranges.behind
    (c.requires.low (λ e. c.if-behind-mark.false.0 (ap (of_z w64) e)) (λ e. c.if-behind-mark.false.1 (ap (of_z w64) e)))

pub returns-then-behind-mark-clause-marked : goal.returns-then-behind-mark-clause-marked
returns-then-behind-mark-clause-marked c = λ marked. refl

pub returns-then-behind-mark-clause-scored : goal.returns-then-behind-mark-clause-scored
returns-then-behind-mark-clause-scored c = λ apart apart'.
    absurd (elim c.if-behind-mark.either [
      | inl e ↦ apart (same_number c.args.before c.args.mark c.ranges.before c.ranges.mark e)
      | inr e ↦ apart' (same_number c.args.behind c.args.mark c.ranges.behind c.ranges.mark e.1)
    ])

pub returns-else-behind-mark-clause-marked : goal.returns-else-behind-mark-clause-marked
returns-else-behind-mark-clause-marked c = λ marked.
    absurd (elim marked [ inl e ↦ c.if-behind-mark.false.0 (ap (of_z w64) e) | inr e ↦ c.if-behind-mark.false.1 (ap (of_z w64) e) ])

pub returns-else-behind-mark-clause-scored : goal.returns-else-behind-mark-clause-scored
returns-else-behind-mark-clause-scored c = λ apart apart'.
    all_is c.args.scales.before c.args.before c.args.self.factor c.args.weight c.args.scales.behind c.args.behind (search rules) c.ranges.before (search rules) c.ranges.weight (search rules) c.ranges.behind (c.requires.low apart apart')
