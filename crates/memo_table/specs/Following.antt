-- A probe follows a pass on.
use Rattle.std.specs.Prelude.{◌≡◌, ◌≢◌, ℕ, ◌+◌, ◌<◌, Some}
use Rattle.std.proofs.Common.{refl, sym, subst, ◌∙◌, arith}
use Rattle.adp_model.specs.declared.cell.Cell.{Cell}
use Rattle.memo_model.specs.declared.probe.Stage.TheVariants as stages
use Rattle.adp_model.specs.Demand.{IsDemanded}
use Rattle.memo_words.specs.Codes.{cell_code}
use Rattle.memo_words.specs.Layout.{Plan, probed}
use Rattle.memo_words.specs.Views.{seen_at}
use Rattle.memo_words.specs.Passes.{view_of, plan_of, problem_of, IsPassOf}
use Rattle.memo_words.specs.declared.pass.Pass.{Pass}
use Rattle.memo_words.specs.declared.words.Words.{Words}
use Rattle.memo_table.specs.declared.probe.Next.{Next}
use Rattle.memo_table.specs.declared.probe.Next.TheVariants.{Key, Claim, RecordWord, Choice, Score, Reserve, StoreScore, StoreChoice, Publish, Done}
use Rattle.memo_table.specs.declared.probe.Probe.{Probe}
use Rattle.memo_table.specs.Probes.{stage_of, AreOthers, Stands, IsSeenNamed, IsDue, Follows}
use Rattle.memo_table.specs.Meanings.{PassGoesOn}

pub stands_on : (plan : Plan) (v w : Pass) (cell : Cell) (turn : ℕ) → PassGoesOn v w
    → Stands plan (view_of v) cell turn → Stands plan (view_of w) cell turn
stands_on plan v w cell turn on stands =
    let position = probed plan (cell_code cell) turn in
    let here : seen_at (view_of v).keys position ≡ cell_code cell = stands in
    let filled : 0 < seen_at (view_of v).keys position = omega arith in
    on.keys position filled ∙ stands

pub others_on : (plan : Plan) (v w : Pass) (cell : Cell) (turn : ℕ) → PassGoesOn v w
    → AreOthers plan (view_of v) cell turn → AreOthers plan (view_of w) cell turn
others_on plan v w cell turn on others j before =
    let position = probed plan (cell_code cell) j in
    let filled : 0 < seen_at (view_of v).keys position = (others j before).0 in
    let same : seen_at (view_of w).keys position ≡ seen_at (view_of v).keys position = on.keys position filled in
    (subst (λ (n : ℕ). 0 < n) (sym same) filled, λ e. (others j before).1 (sym same ∙ e))

pub named_on : (plan : Plan) (v w : Pass) (cell : Cell) (turn number : ℕ) → PassGoesOn v w
    → IsSeenNamed plan (view_of v) cell turn number → IsSeenNamed plan (view_of w) cell turn number
named_on plan v w cell turn number on seen =
    let position = probed plan (cell_code cell) turn in
    let here : seen_at (view_of v).names position ≡ number + 1 = seen.named in
    let filled : 0 < seen_at (view_of v).names position = omega arith in
    record {
      stands = stands_on plan v w cell turn on seen.stands;
      named = on.names position filled ∙ seen.named;
      known = on.known cell seen.known;
    }

due_on : (plan : Plan) (v w : Pass) (cell : Cell) (turn : ℕ) (next : Next) → PassGoesOn v w
    → stage_of next ≢ stages.Publishing → IsDue plan v cell turn next → IsDue plan w cell turn next
due_on plan v w cell turn Key on other due = others_on plan v w cell turn on due
due_on plan v w cell turn Claim on other due = others_on plan v w cell turn on due
due_on plan v w cell turn RecordWord on other due = stands_on plan v w cell turn on due
due_on plan v w cell turn (Choice number) on other due = named_on plan v w cell turn number on due
due_on plan v w cell turn (Score number) on other due = (named_on plan v w cell turn number on due.0, due.1)
due_on plan v w cell turn Reserve on other due = stands_on plan v w cell turn on due
due_on plan v w cell turn StoreScore on other due = absurd (other refl)
due_on plan v w cell turn StoreChoice on other due = absurd (other refl)
due_on plan v w cell turn Publish on other due = absurd (other refl)
due_on plan v w cell turn Done on other due = tt

pub follows_on : (probe : Probe) (v w : Pass) → PassGoesOn v w → stage_of probe.next ≢ stages.Publishing
    → Follows probe v → Follows probe w
follows_on probe v w on other follows = record {
  own = on.own probe.words.value follows.own;
  demanded = follows.demanded;
  coded = follows.coded;
  due = due_on (plan_of probe.words.value) v w probe.cell probe.turn probe.next on other follows.due;
}

same_plan : (a b : Plan) → Some a ≡ Some b → a ≡ b
same_plan a b e = cc

-- a pass is of tables with one plan
pub one_plan : (a b : Words) (pass : Pass) → IsPassOf a pass → IsPassOf b pass → plan_of a ≡ plan_of b
one_plan a b pass first second = same_plan (plan_of a) (plan_of b) (sym first.plan ∙ second.plan)

pub demanded_by : (words : Words) (pass : Pass) (probe : Probe) → IsPassOf words pass → Follows probe pass
    → IsDemanded (problem_of words) probe.cell
demanded_by words pass probe own follows =
    subst (λ (plan : Plan). IsDemanded plan.problem probe.cell) (one_plan probe.words.value words pass follows.own own)
    follows.demanded
