-- What the steps of a look tell.
use Rattle.std.proofs.Common.{◌≡◌, ℕ, ◌+◌, ◌*◌, ◌<◌, ◌≤◌, ◌⊎◌, List, ◌∷◌, [], Contains, Option, ℤ, true, false, sym, subst, ◌∙◌}
use Rattle.adp_model.specs.declared.cell.Cell.{Cell}
use Rattle.memo_model.specs.declared.probe.Look.TheVariants.{Going, Found}
use Rattle.memo_model.specs.declared.probe.Stage.TheVariants as stages
use Rattle.adp_model.specs.Demand.{IsDemandedCount}
use Rattle.memo_model.specs.Memos.{IsOnRecordWord, IsScoreOf}
use Rattle.history_table.specs.declared.history.Deed.{Deed}
use Rattle.history_table.specs.declared.history.Deed.TheVariants.{Load}
use Rattle.memo_words.specs.Layout.{Plan, slots_of}
use Rattle.memo_words.specs.Passes.{plan_of, problem_of, IsPassOf}
use Rattle.memo_words.specs.declared.pass.Pass.{Pass}
use Rattle.memo_words.specs.declared.words.Words.{Words}
use Rattle.memo_table.specs.declared.probe.Next.{Next}
use Rattle.memo_table.specs.declared.probe.Probe.{Probe}
use Rattle.memo_table.specs.Probes.{stage_of, loads_record, steps_left, IsDue, Follows}
use Rattle.memo_table.specs.Meanings.{table_meaning, knows, PassGoesOn}
use Rattle.memo_table.specs.Following.{one_plan}
use Rattle.memo_table.specs.Stepped.{IsLooked}
use Rattle.memo_table.proofs.Places.{last_is, off_record}
use Rattle.memo_table.proofs.Quiet.{IsQuiet}

-- the probe with another turn and another next step
abbrev pub moved : Probe → ℕ → Next → Probe
moved was turn next = record { cell = was.cell; turn = turn; next = next; words = was.words }

-- the probe follows the pass on
pub follows_now : (words : Words) (before after : Pass) (was : Probe) (turn : ℕ) (next : Next)
    → IsPassOf words before → Follows was before → PassGoesOn before after
    → IsDue (plan_of words) after was.cell turn next → Follows (moved was turn next) after
follows_now words before after was turn next own follows on due = record {
  own = on.own was.words.value follows.own;
  demanded = follows.demanded;
  coded = follows.coded;
  due =
      subst (λ (plan : Plan). IsDue plan after was.cell turn next)
      (sym (one_plan was.words.value words before follows.own own)) due;
}

-- what is due, by the plan of these words
pub due_here : (words : Words) (pass : Pass) (was : Probe) (next : Next) → IsPassOf words pass → Follows was pass
    → was.next ≡ next → IsDue (plan_of words) pass was.cell was.turn next
due_here words pass was next own follows is =
    subst (λ (plan : Plan). IsDue plan pass was.cell was.turn next)
    (one_plan was.words.value words pass follows.own own)
    (subst (λ (n : Next). IsDue (plan_of was.words.value) pass was.cell was.turn n) is follows.due)

module _ (words : Words) (before after : Pass) (was now : Probe) (word : ℕ) (own : IsPassOf words after)
    (on : PassGoesOn before after) (quiet : IsQuiet before after word)
    (outside : (word < 1 + slots_of (plan_of words)) ⊎ (1 + 2 * slots_of (plan_of words) ≤ word))
    (same_cell : now.cell ≡ was.cell) (follows : Follows now after) (no_load : loads_record was.next ≡ false)
    (fewer : (m : ℕ) → IsDemandedCount (problem_of words) m → steps_left m now.turn now.next < steps_left
    m was.turn was.next) where
  off : (d : Deed) (f : ℕ) → IsOnRecordWord table_meaning after was.cell d f → ⊥
  off =
      let step = quiet.stepped in
      off_record after (plan_of words) was.cell word step.0 step.1 own.plan (last_is before after word step.0 step.1 step.2)
      outside

  never : loads_record was.next ≡ true → ⊥
  never load = let both : true ≡ false = sym load ∙ no_load in cc

  -- a step off the record words that goes on
  pub going : stage_of now.next ≡ stages.Open
      → ((m : ℕ) → IsDemandedCount (problem_of words) m → 0 < steps_left m now.turn now.next)
      → IsLooked words before after was now Going
  going still_open some_left = record {
    own = own;
    on = on;
    share = λ i. quiet.weight i ∷ quiet.spare i ∷ [];
    wins = quiet.wins;
    known = λ cell has. subst (λ (l : List Cell). Contains l cell) (sym quiet.known) has;
    cell = same_cell;
    follows = follows;
    look = (still_open, λ other has not. subst (λ (l : List Cell). Contains l other) quiet.known has);
    loads = ((λ load. absurd (never load)), λ (f, at). absurd (off Load f at));
    unpublished = ((λ e. cc), λ at. absurd (off Load 0 at));
    fewer = fewer;
    some_left = λ m count e. some_left m count;
    two_left = λ m f count at full. absurd (off Load f at);
    four_left = λ m count e. cc;
  }

  -- a step off the record words that finds the score of a cell that the pass knows
  pub found_score : (score : Option ℤ) → stage_of now.next ≡ stages.Done → knows before was.cell
      → IsScoreOf (problem_of words) was.cell score → IsLooked words before after was now (Found score)
  found_score score done knows_it is_score = record {
    own = own;
    on = on;
    share = λ i. quiet.weight i ∷ quiet.spare i ∷ [];
    wins = quiet.wins;
    known = λ cell has. subst (λ (l : List Cell). Contains l cell) (sym quiet.known) has;
    cell = same_cell;
    follows = follows;
    look = (
      done,
      record {
        known = subst (λ (l : List Cell). Contains l was.cell) (sym quiet.known) knows_it;
        only = λ other has not. subst (λ (l : List Cell). Contains l other) quiet.known has;
      },
      is_score,
    );
    loads = ((λ load. absurd (never load)), λ (f, at). absurd (off Load f at));
    unpublished = ((λ e. cc), λ at. absurd (off Load 0 at));
    fewer = fewer;
    some_left = λ m count e. cc;
    two_left = λ m f count at full. absurd (off Load f at);
    four_left = λ m count e. cc;
  }
