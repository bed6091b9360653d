use Rattle.std.proofs.Common.{◌≡◌, ◌<◌, ◌∙◌, arith}
use Rattle.std.proofs.lemmas.List.Elements.{All-head, All-tail}
use Rattle.adp_model.specs.LimitFaults.{told}
use Rattle.grammar_check.specs.declared.singles.Single.{Single}
use Rattle.grammar_check.specs.Tables.{entry}
use Rattle.grammar_check.specs.SingleRules.{single_number}
use Rattle.grammar_check.specs.TokenNumbers.{greatest_of}
use Rattle.grammar_check.proofs.SinglePlans.{single_step}
use Rattle.grammar_check.proofs.singles.greatest_at.Goals as goal

pub get-requires-clause-row : goal.get-requires-clause-row
get-requires-clause-row c =
    All-head (λ (single : Single). single.rule < c.args.bounds.now.rows) c.in-Some.first.now c.in-Some.others.now (rw c.in-Some.ensures.cases.0 at c.loop-first.invariant.readable)

pub loop-first-preserved : goal.loop-first-preserved
loop-first-preserved c =
    let first = c.in-Some.first.now in
    let others = c.in-Some.others.now in
    let split = c.in-Some.ensures.cases.0 in
    let inv = c.loop-first.invariant in
    let table = c.args.bounds.now in
    let own = c.args.own in
    record {
      readable = All-tail (λ (single : Single). single.rule < table.rows) first others (rw split at inv.readable);
      read = λ bound reads. All-tail (λ (single : Single). entry table single.rule own ≡ told (bound single.rule own)) first others (rw split at (inv.read bound reads));
      best = λ bound reads.
          let here = All-head (λ (single : Single). entry table single.rule own ≡ told (bound single.rule own)) first others (rw split at (inv.read bound reads)) in
          single_step c.max-best.result c.saturating_add-value.result c.loop-first.best first.constant c.get.result (bound first.rule own) (greatest_of (single_number bound own) others) _
          c.max-best.ensures (omega (arith, c.saturating_add-value.ensures)) (c.get.ensures ∙ here) (rw split at (inv.best bound reads));
    }
