use Rattle.std.proofs.Common.{rules}
use Rattle.adp_model.specs.TermSigns.{known_by}
use Rattle.adp_model.specs.WideTerms.{form_of}
use Rattle.term_values.proofs.Rising.{sides_rise}
use Rattle.term_values.proofs.judge.+rises.Goals as goal
use Rattle.term_values.proofs.judge.+rises.Goals.{then-not-rises-via-then-not-rises, then-not-rises-via-else-not-rises+then-not-rises-2}

pub returns-then-not-rises : goal.returns-then-not-rises
returns-then-not-rises t c = (
  (λ h. absurd (search (rules, h))),
  (λ rising.
      let sides = sides_rise (known_by c.args.tokens c.args.scores) c.args.kinds.now (form_of c.in-Product.left.value) (form_of c.in-Product.right.value) (rw c.in-Product.is at rising) in
      elim c.then-not-rises.branch [
        | then-not-rises-via-then-not-rises w ↦ w.if-not-rises.ensures.1 (rw c.deref-in-Product-3.ensures sides.0)
        | then-not-rises-via-else-not-rises+then-not-rises-2 w ↦ w.if-not-rises-2.ensures.1 (rw w.deref-else-not-rises.ensures sides.1)
      ]),
)
