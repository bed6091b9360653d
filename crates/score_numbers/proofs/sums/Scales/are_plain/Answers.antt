use Rattle.std.proofs.Common.{pos, FitsSigned, w64, of_z, ap, rules}
use Rattle.score_numbers.proofs.FirstSums.{bits_same, same_bits, same_number}
use Rattle.score_numbers.proofs.sums.Scales.are_plain.Goals as goal

one_fits : FitsSigned w64 (pos 1)
one_fits = search rules

pub returns-then-self-eq1 : goal.returns-then-self-eq1
returns-then-self-eq1 c =
    let fits : FitsSigned w64 c.args.self.before = search rules in
    let fits' : FitsSigned w64 c.args.self.behind = search rules in
    (λ same. (same_number c.args.self.before (pos 1) fits one_fits c.if-self-eq1.true, same_bits c.args.self.behind (pos 1) fits' one_fits same), λ it. bits_same c.args.self.behind (pos 1) it.1)

pub returns-else-self-eq1 : goal.returns-else-self-eq1
returns-else-self-eq1 c =
    let fits : FitsSigned w64 c.args.self.before = search rules in
    (λ same. absurd (c.if-self-eq1.false (ap (of_z w64) (same_bits c.args.self.before (pos 1) fits one_fits same))), λ it. absurd (c.if-self-eq1.false (ap (of_z w64) it.0)))
