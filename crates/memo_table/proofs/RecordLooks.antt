-- What the steps of a look on the words of a record tell.
use Rattle.std.proofs.Common.{◌≡◌, ◌≢◌, ℕ, ◌+◌, ◌*◌, ◌<◌, ◌≤◌, inr, Option, Some, ℤ, false, refl, sym, ap, subst, arith}
use Rattle.adp_model.specs.declared.cell.Answer.{Answer}
use Rattle.adp_model.specs.declared.cell.Answer.TheVariants.{NoCandidate, Best}
use Rattle.adp_model.specs.declared.cell.Cell.{Cell}
use Rattle.memo_model.specs.declared.probe.Look.TheVariants.{Going, Found}
use Rattle.memo_model.specs.declared.probe.Stage.TheVariants as stages
use Rattle.adp_model.specs.PosedProblem.{PosedProblem}
use Rattle.adp_model.specs.Answers.{IsAnswer}
use Rattle.memo_model.specs.Memos.{IsScoreOf}
use Rattle.memo_words.specs.declared.part.Part.{Part}
use Rattle.memo_words.specs.declared.part.Part.TheVariants as parts
use Rattle.memo_words.specs.declared.view.View.{View}
use Rattle.memo_words.specs.Codes.{cell_code, HasScoreCode, score_code}
use Rattle.memo_table.specs.AnswerWords.{HasAnswerWords}
use Rattle.memo_words.specs.CodedCells.{IsCodeOf, answer_word}
use Rattle.memo_words.specs.Layout.{Plan, slots_of, records_of, probed, arena_place}
use Rattle.memo_words.specs.Views.{seen_at, arena_loaded}
use Rattle.memo_words.specs.Steps.{IsAnswerWord, IsNamedAnswer}
use Rattle.memo_words.specs.Passes.{view_of, plan_of, problem_of, IsPassOf}
use Rattle.memo_words.specs.declared.pass.Pass.{Pass}
use Rattle.memo_words.specs.declared.words.Words.{Words}
use Rattle.memo_table.specs.declared.probe.Next.{Next}
use Rattle.memo_table.specs.declared.probe.Next.TheVariants.{Done}
use Rattle.memo_table.specs.declared.probe.Probe.{Probe}
use Rattle.memo_table.specs.Probes.{stage_of, loads_record, steps_left, IsSeenNamed, IsDue, Follows}
use Rattle.memo_table.specs.Meanings.{PassGoesOn}
use Rattle.memo_table.specs.Following.{named_on}
use Rattle.memo_table.specs.Stepped.{IsLooked}
use Rattle.memo_table.proofs.Quiet.{IsStepOn, IsQuiet, arena_load_is_quiet, known_on, sees_nothing}
use Rattle.memo_table.proofs.Looks.{moved, follows_now, going, found_score}

pub no_candidate : (p : PosedProblem) (cell : Cell) (answer : Answer) → IsAnswer p cell answer
    → 1 ≡ answer_word parts.Choice answer → IsAnswer p cell NoCandidate
unfolding answer_word
no_candidate p cell NoCandidate right word = right
no_candidate p cell (Best score choice) right word = absurd (omega arith)

pub some_candidate : (p : PosedProblem) (cell : Cell) (answer : Answer) (code : ℕ) → IsAnswer p cell answer
    → code ≡ answer_word parts.Choice answer → code ≢ 1 → IsAnswer p cell NoCandidate → ⊥
unfolding answer_word
some_candidate p cell NoCandidate code right word other none = other word
some_candidate p cell (Best score choice) code (tree, preferred, scored, chosen) word other none =
    none tree preferred.derived

-- the score of the word, where there is a candidate
pub score_word : (p : PosedProblem) (cell : Cell) (answer : Answer) (code : ℕ) → IsAnswer p cell answer
    → code ≡ answer_word parts.Score answer → (IsAnswer p cell NoCandidate → ⊥) → HasAnswerWords answer
    → (score : Option ℤ) × HasScoreCode score × (score_code score ≡ code)
unfolding answer_word
score_word p cell NoCandidate code right word some fits = absurd (some right)
score_word p cell (Best score choice) code right word some fits = (Some score, fits.0, sym word)

pub score_is : (p : PosedProblem) (cell : Cell) (answer : Answer) (code : ℕ) (found : Option ℤ)
    → IsAnswer p cell answer → code ≡ answer_word parts.Score answer → (IsAnswer p cell NoCandidate → ⊥)
    → HasAnswerWords answer
    → ((score : Option ℤ) → HasScoreCode score → score_code score ≡ code → found ≡ score)
    → IsScoreOf p cell found
unfolding answer_word
score_is p cell NoCandidate code found right word some fits inverse = absurd (some right)
score_is p cell (Best score choice) code found right word some fits inverse =
    subst (IsScoreOf p cell) (sym (inverse (Some score) fits.0 (sym word))) (choice, right)

arena_is_behind : (plan : Plan) (part : Part) (number : ℕ)
    → 1 + 2 * slots_of plan ≤ arena_place (slots_of plan) (records_of plan) part number
arena_is_behind plan parts.Score number = omega arith
arena_is_behind plan parts.Choice number = omega arith

module _ (words : Words) (before after : Pass) (was : Probe) (part : Part) (number code : ℕ)
    (own : IsPassOf words before) (follows : Follows was before)
    (seen : IsSeenNamed (plan_of words) (view_of before) was.cell was.turn number)
    (no_load : loads_record was.next ≡ false) (own' : IsPassOf words after)
    (e : view_of after ≡ arena_loaded (plan_of words) part number code (view_of before))
    (stepped : IsStepOn (arena_place (slots_of (plan_of words)) (records_of (plan_of words)) part number) before after) where
  abbrev word : ℕ
  word = arena_place (slots_of (plan_of words)) (records_of (plan_of words)) part number

  quiet : IsQuiet before after word
  quiet = arena_load_is_quiet before after (plan_of words) part number code e stepped

  on : PassGoesOn before after
  on =
      sees_nothing words before after own own' (known_on before after word quiet)
      (ap (λ (v : View). v.keys) e) (ap (λ (v : View). v.names) e)

  code_is : IsCodeOf was.cell (seen_at (view_of before).keys (probed (plan_of words) (cell_code was.cell) was.turn))
  code_is = record { coded = follows.coded; same = seen.stands }

  pub its_word : IsNamedAnswer (plan_of words) (view_of before) part number code
      → IsAnswerWord (plan_of words) part was.cell code
  its_word told = told (probed (plan_of words) (cell_code was.cell) was.turn) was.cell code_is seen.named

  pub read_on : (next : Next) → stage_of next ≡ stages.Open → IsDue (plan_of words) after was.cell was.turn next
      → ((m : ℕ) → steps_left m was.turn next < steps_left m was.turn was.next)
      → ((m : ℕ) → 0 < steps_left m was.turn next) → IsLooked words before after was (moved was was.turn next) Going
  read_on next still_open due fewer some_left =
      going words before after was (moved was was.turn next) word own' on quiet
      (inr (arena_is_behind (plan_of words) part number)) refl
      (follows_now words before after was was.turn next own follows on due) no_load (λ m count. fewer m) still_open
      (λ m count. some_left m)

  pub read_found : (score : Option ℤ) → IsScoreOf (problem_of words) was.cell score
      → ((m : ℕ) → 0 < steps_left m was.turn was.next)
      → IsLooked words before after was (moved was was.turn Done) (Found score)
  read_found score is_score fewer =
      found_score words before after was (moved was was.turn Done) word own' on quiet
      (inr (arena_is_behind (plan_of words) part number)) refl
      (follows_now words before after was was.turn Done own follows on tt) no_load (λ m count. fewer m) score refl
      seen.known is_score

  pub seen_on : IsSeenNamed (plan_of words) (view_of after) was.cell was.turn number
  seen_on = named_on (plan_of words) before after was.cell was.turn number on seen
