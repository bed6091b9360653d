-- What a step of a probe of a table tells: the clauses of the memo, in one record each.
use Rattle.std.specs.Prelude.{◌≡◌, ◌↔◌, ℕ, ◌<◌, ◌≤◌, true}
use Rattle.memo_model.specs.declared.probe.Look.{Look}
use Rattle.memo_model.specs.declared.probe.Look.TheVariants as looks
use Rattle.memo_model.specs.declared.probe.Publish.{Publish as Publication}
use Rattle.memo_model.specs.declared.probe.Publish.TheVariants as publishes
use Rattle.adp_model.specs.Demand.{IsDemandedCount}
use Rattle.memo_model.specs.Memos.{HasLoaded, HasExchanged, StayKnown, IsLook, IsPublish}
use Rattle.memo_words.specs.Passes.{view_of, problem_of, IsPassOf}
use Rattle.memo_words.specs.declared.pass.Pass.{Pass}
use Rattle.memo_words.specs.declared.words.Words.{Words}
use Rattle.memo_table.specs.declared.probe.Probe.{Probe}
use Rattle.memo_table.specs.Probes.{stage_of, loads_record, steps_left, Follows}
use Rattle.memo_table.specs.Meanings.{table_meaning, knows, share_of, PassGoesOn}

pub record IsLooked (words : Words) (before after : Pass) (was now : Probe) (result : Look) : Type 0 where
  pub own : IsPassOf words after
  pub on : PassGoesOn before after
  pub share : share_of after ≡ share_of before
  pub wins : (view_of after).wins ≡ (view_of before).wins
  pub known : StayKnown (knows before) (knows after)
  pub cell : now.cell ≡ was.cell
  pub follows : Follows now after
  pub look : IsLook (problem_of words) was.cell (knows before) (knows after) (stage_of now.next) result
  pub loads : (loads_record was.next ≡ true)
      ↔ ((found : ℕ) × HasLoaded table_meaning after was.cell found)
  pub unpublished : (result ≡ looks.Unpublished) ↔ HasLoaded table_meaning after was.cell 0
  pub fewer : (m : ℕ) → IsDemandedCount (problem_of words) m
      → steps_left m now.turn now.next < steps_left m was.turn was.next
  pub some_left : (m : ℕ) → IsDemandedCount (problem_of words) m → result ≡ looks.Going
      → 0 < steps_left m now.turn now.next
  pub two_left : (m found : ℕ) → IsDemandedCount (problem_of words) m
      → HasLoaded table_meaning after was.cell found → 0 < found → steps_left m now.turn now.next ≤ 2
  pub four_left : (m : ℕ) → IsDemandedCount (problem_of words) m → result ≡ looks.Unpublished
      → steps_left m now.turn now.next ≡ 4

pub record IsPublished (words : Words) (before after : Pass) (was now : Probe) (result : Publication) : Type 0 where
  pub own : IsPassOf words after
  pub on : PassGoesOn before after
  pub share : share_of after ≡ share_of before
  pub known : StayKnown (knows before) (knows after)
  pub cell : now.cell ≡ was.cell
  pub follows : Follows now after
  pub publish : IsPublish was.cell (knows before) (knows after) (view_of before).wins (view_of after).wins
      (stage_of now.next) result
  pub won : (result ≡ publishes.Won) ↔ HasExchanged table_meaning after was.cell 0
  pub lost : (result ≡ publishes.Lost)
      ↔ ((found : ℕ) × (0 < found) × HasExchanged table_meaning after was.cell found)
  pub fewer : (m : ℕ) → IsDemandedCount (problem_of words) m
      → steps_left m now.turn now.next < steps_left m was.turn was.next
  pub some_left : (m : ℕ) → IsDemandedCount (problem_of words) m → result ≡ publishes.Going
      → 0 < steps_left m now.turn now.next
