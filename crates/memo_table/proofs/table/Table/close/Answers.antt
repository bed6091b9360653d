use Rattle.std.proofs.Common.{◌↔◌, ap, subst, sym, ◌∙◌}
use Rattle.adp_model.specs.ProblemFields.{IsAdmissible}
use Rattle.adp_model.specs.Demand.{IsDemanded}
use Rattle.memo_words.specs.declared.words.Words.{Words}
use Rattle.memo_words.specs.Kept.{IsPublished}
use Rattle.memo_words.specs.Layout.{IsPlanned, slots_of, records_of}
use Rattle.memo_words.specs.Steps.{IsClosing}
use Rattle.memo_words.specs.Passes.{view_of, plan_of, problem_of, rest_words}
use Rattle.memo_table.specs.ClosedTables.{IsSettled}
use Rattle.memo_table.proofs.Settling.{settled, won, held_once}
use Rattle.memo_table.proofs.Filling.{filled_is}
use Rattle.memo_table.proofs.table.Table.close.Goals as goal

pub invariant_of-result : goal.invariant_of-result
invariant_of-result c =
    let told = c.of-made_for.ensures in
    let here = c.self.view_is in
    let closing = subst (λ (w : Words). IsClosing (plan_of w) (view_of c.args.pass) (rest_words c.close.result)) here
    c.close.ensures.words in
    let known = settled (plan_of c.args.self) (view_of c.args.pass) (rest_words c.close.result)
    c.codes_tell_apart.ensures.cells closing c.requires.axiom in
    record {
      slots = c.close.ensures.slots ∙ ap (λ (w : Words). slots_of (plan_of w)) (sym told);
      records = c.close.ensures.records ∙ ap (λ (w : Words). records_of (plan_of w)) (sym told);
      bits = c.bits-bits.ensures ∙ ap (λ (w : Words). (plan_of w).bits) (sym told);
      planned = subst (λ (w : Words). IsPlanned (plan_of w)) (sym (told ∙ here)) c.planned.ensures.planned;
      admissible = subst (λ (w : Words). IsAdmissible (problem_of w)) (sym (told ∙ here)) c.planned.ensures.admissible;
      settled = subst (λ (w : Words). IsSettled (plan_of w) (rest_words c.close.result)) (sym (told ∙ here)) known;
    }

pub returns-clause-published : goal.returns-clause-published
returns-clause-published c cell =
    let told = c.of-made_for.ensures in
    let here = c.self.view_is in
    let closing = subst (λ (w : Words). IsClosing (plan_of w) (view_of c.args.pass) (rest_words c.close.result)) here
    c.close.ensures.words in
    let known = settled (plan_of c.args.self) (view_of c.args.pass) (rest_words c.close.result)
    c.codes_tell_apart.ensures.cells closing c.requires.axiom in
    subst (λ (w : Words). IsPublished (plan_of w) (rest_words c.close.result) cell ↔ IsDemanded
    (problem_of c.args.self) cell)
    (sym (told ∙ here)) (known.published cell)

pub returns-clause-once : goal.returns-clause-once
returns-clause-once c =
    let told = c.of-made_for.ensures in
    let here = c.self.view_is in
    let closing = subst (λ (w : Words). IsClosing (plan_of w) (view_of c.args.pass) (rest_words c.close.result)) here
    c.close.ensures.words in
    let known = settled (plan_of c.args.self) (view_of c.args.pass) (rest_words c.close.result)
    c.codes_tell_apart.ensures.cells closing c.requires.axiom in
    held_once (record { plan = plan_of c.of-made_for.result.value; words = rest_words c.close.result })
    (subst (λ (w : Words). IsSettled (plan_of w) (rest_words c.close.result)) (sym (told ∙ here)) known)

pub returns-clause-wins : goal.returns-clause-wins
returns-clause-wins c m (cells, all, is) =
    let here = c.self.view_is in
    let closing = subst (λ (w : Words). IsClosing (plan_of w) (view_of c.args.pass) (rest_words c.close.result)) here
    c.close.ensures.words in
    let known = settled (plan_of c.args.self) (view_of c.args.pass) (rest_words c.close.result)
    c.codes_tell_apart.ensures.cells closing c.requires.axiom in
    won (plan_of c.args.self) (view_of c.args.pass) (rest_words c.close.result) c.codes_tell_apart.ensures.cells closing
    ∙ filled_is (plan_of c.args.self) (rest_words c.close.result) cells all known c.codes_tell_apart.ensures.cells
    ∙ sym is
