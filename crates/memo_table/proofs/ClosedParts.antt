-- The parts of a closed table, as contracts see them.
use Rattle.std.proofs.Common.{◌≡◌, ◌≢◌, ℕ, ◌+◌, ◌<◌, ◌≤◌, Option, Some, None, ℤ, sym, ap, subst, ◌∙◌, arith}
use mathlib.Core.Logic.{dite}
use native.Mathlib.Decide.{ℕ_discrete}
use Rattle.adp_model.specs.declared.cell.Answer.{Answer}
use Rattle.adp_model.specs.declared.cell.Cell.{Cell}
use Rattle.adp_model.specs.Answers.{IsAnswer}
use Rattle.adp_model.specs.Demand.{IsDemanded}
use Rattle.adp_model.specs.declared.cell.Answer.TheVariants.{NoCandidate, Best}
use Rattle.adp_model.specs.declared.cell.Choice.{Choice as Cuts}
use Rattle.memo_words.specs.declared.part.Part.{Part}
use Rattle.memo_words.specs.declared.part.Part.TheVariants as parts
use Rattle.memo_words.specs.Codes.{HasCellCode, cell_code, HasScoreCode, HasChoiceCode, score_code, choice_code}
use Rattle.memo_words.specs.CodedCells.{answer_word}
use Rattle.memo_words.specs.Layout.{slots_of, probed, key, record_word, arena_word}
use Rattle.memo_words.specs.Probes as probes
use Rattle.memo_words.specs.Kept.{name, IsHeldAt}
use Rattle.memo_words.specs.Passes.{plan_of, rest_words}
use Rattle.memo_table.specs.declared.closed.Closed.TheInside.{Inside}
use Rattle.memo_table.specs.AnswerWords.{HasAnswerWords, answer_of}
use Rattle.memo_table.specs.ClosedTables.{ClosedTable, closed_table, IsClosedTable, IsSettled, IsNowhere, AreWordsOf}

-- a word of a record, read from the rest
pub word_read : (inside : Inside) (now : ClosedTable) → closed_table inside ≡ now → IsClosedTable inside
    → (part : Part) (number : ℕ) (answer : Answer) → AreWordsOf now number answer
    → arena_word inside.rest.slots inside.rest.records (rest_words inside.rest) part number ≡ answer_word part answer
word_read inside now here whole part number answer words =
    ap (λ (s : ℕ). arena_word s inside.rest.records (rest_words inside.rest) part number) whole.slots
    ∙ ap (λ (r : ℕ). arena_word (slots_of (plan_of inside.made_for.value)) r (rest_words inside.rest) part number)
    whole.records
    ∙ subst (λ (t : ClosedTable). AreWordsOf t number answer) (sym here) words part

pub score_there : (answer : Answer) (code : ℕ) → HasAnswerWords answer → code ≡ answer_word parts.Score answer
    → (score : Option ℤ) × HasScoreCode score × (score_code score ≡ code)
unfolding answer_word
score_there NoCandidate code fits word = (None, tt, sym word)
score_there (Best score choice) code fits word = (Some score, fits.0, sym word)

pub choice_there : (answer : Answer) (code : ℕ) → HasAnswerWords answer → code ≡ answer_word parts.Choice answer
    → (choice : Option Cuts) × HasChoiceCode choice × (choice_code choice ≡ code)
unfolding answer_word
choice_there NoCandidate code fits word = (None, tt, sym word)
choice_there (Best score choice) code fits word = (Some choice, fits.1, sym word)

-- what was read is the answer
pub read_right : (answer : Answer) (score_word choice_word : ℕ) (score : Option ℤ) (choice : Option Cuts)
    → HasAnswerWords answer → score_word ≡ answer_word parts.Score answer → choice_word ≡ answer_word parts.Choice
    answer
    → ((s : Option ℤ) → HasScoreCode s → score_code s ≡ score_word → score ≡ s)
    → ((c : Option Cuts) → HasChoiceCode c → choice_code c ≡ choice_word → choice ≡ c)
    → answer_of score choice ≡ answer
unfolding answer_word
read_right NoCandidate score_word choice_word score choice fits scored chosen score_is choice_is =
    ap (λ (s : Option ℤ). answer_of s choice) (score_is None tt (sym scored))
read_right (Best s c) score_word choice_word score choice fits scored chosen score_is choice_is =
    ap (λ (x : Option ℤ). answer_of x choice) (score_is (Some s) fits.0 (sym scored))
    ∙ ap (λ (x : Option Cuts). answer_of (Some s) x) (choice_is (Some c) fits.1 (sym chosen))

-- ---- answers

-- at a position with the cell's code and a record stands the cell's answer
pub answered_at : (closed : ClosedTable) (cell : Cell) (position : ℕ) → IsSettled closed.plan closed.words
    → ((a b : Cell) → HasCellCode a → HasCellCode b → cell_code a ≡ cell_code b → a ≡ b) → HasCellCode cell
    → position < slots_of closed.plan → key closed.words position ≡ cell_code cell
    → 0 < name closed.plan closed.words position
    → (answer : Answer) × IsAnswer closed.plan.problem cell answer × IsHeldAt closed.plan closed.words position cell
    answer
answered_at closed cell position settled tell coded inside code some =
    let (other, answer, right, held) = settled.answered position inside some in
    let same : other ≡ cell = tell other cell held.key_is.coded coded (sym held.key_is.same ∙ code) in (
      answer,
      subst (λ (c : Cell). IsAnswer closed.plan.problem c answer) same right,
      subst (λ (c : Cell). IsHeldAt closed.plan closed.words position c answer) same held,
    )

pub nowhere_demanded : (closed : ClosedTable) (cell : Cell) → IsSettled closed.plan closed.words
    → IsNowhere closed (cell_code cell) → IsDemanded closed.plan.problem cell → ⊥
nowhere_demanded closed cell settled nowhere demanded =
    let (position, answer, held) = (settled.published cell).1 demanded in
    nowhere position held.inside held.key_is.same

pub its_demand : (closed : ClosedTable) (cell : Cell) (position : ℕ) (answer : Answer) → IsSettled closed.plan
    closed.words
    → IsHeldAt closed.plan closed.words position cell answer → IsDemanded closed.plan.problem cell
its_demand closed cell position answer settled held = (settled.published cell).0 (position, answer, held)

-- ---- the search

-- the first positions of the search hold other codes
abbrev pub AreOtherKeys : ClosedTable → ℕ → ℕ → Type 0
AreOtherKeys closed code turn =
    (j : ℕ) → j < turn → (0 < key closed.words (probed closed.plan code j)) ×
    (key closed.words (probed closed.plan code j) ≢ code)

pub more_others : (closed : ClosedTable) (code turn position found : ℕ) → AreOtherKeys closed code turn
    → position ≡ probed closed.plan code turn → found ≡ key closed.words position → (found ≡ code → ⊥) → (found ≡ 0 → ⊥)
    → AreOtherKeys closed code (turn + 1)
more_others closed code turn position found others at is other some j below =
    dite (ℕ_discrete j turn)
    (λ same.
    let here : found ≡ key closed.words (probed closed.plan code j) =
    is ∙ ap (key closed.words) (at ∙ ap (probed closed.plan code) (sym same)) in
    (subst (λ (n : ℕ). 0 < n) here (let full : 0 < found = omega (arith, some) in full), λ e. other (here ∙ e)))
    (λ earlier. others j (let h : (j ≡ turn) → ⊥ = earlier in omega arith))

-- a free position ends the search
pub ends_free : (closed : ClosedTable) (code turn : ℕ) → 0 < code → IsSettled closed.plan closed.words
    → AreOtherKeys closed code turn → key closed.words (probed closed.plan code turn) ≡ 0 → IsNowhere closed code
ends_free closed code turn some settled others free position below here =
    let stands = settled.keys position below (let full : 0 < key closed.words position = omega (arith, here) in full) in
    let at : probed closed.plan code stands.turn ≡ position =
    ap (λ (k : ℕ). probed closed.plan k stands.turn) (sym here) ∙ stands.here in
    let not_before : stands.turn < turn → ⊥ =
    λ before. (others stands.turn before).1 (ap (key closed.words) at ∙ here) in
    let not_behind : turn < stands.turn → ⊥ = λ behind.
    let full : 0 < key closed.words (probed closed.plan (key closed.words position) turn) = stands.before turn behind in
    let same : key closed.words (probed closed.plan (key closed.words position) turn) ≡ 0 =
    ap (λ (k : ℕ). key closed.words (probed closed.plan k turn)) here ∙ free in
    omega (arith, full, same) in
    let equal : stands.turn ≡ turn = omega (arith, not_before, not_behind) in
    let zero_here : key closed.words position ≡ 0 =
    ap (key closed.words) (sym at) ∙ ap (λ (t : ℕ). key closed.words (probed closed.plan code t)) equal ∙ free in
    omega (arith, zero_here, here, some)

-- and so does the last one
pub ends_full : (closed : ClosedTable) (code turn : ℕ) → slots_of closed.plan ≤ turn → AreOtherKeys closed code turn
    → ((position : ℕ) → position < slots_of closed.plan → (j : ℕ) × (j < slots_of closed.plan) ×
    (probed closed.plan code j ≡ position))
    → IsNowhere closed code
ends_full closed code turn all others reached position below here =
    let j = reached position below in
    let low : j.0 < turn = let l = j.1 in omega arith in
    (others j.0 low).1 (ap (key closed.words) j.2 ∙ here)

-- ---- words of the rest, as contracts see them

pub key_read : (inside : Inside) (now : ClosedTable) → closed_table inside ≡ now → (position : ℕ)
    → key (rest_words inside.rest) position ≡ key now.words position
key_read inside now here position = ap (λ (t : ClosedTable). key t.words position) here

pub name_read : (inside : Inside) (now : ClosedTable) → closed_table inside ≡ now → IsClosedTable inside →
    (position : ℕ)
    → record_word inside.rest.slots (rest_words inside.rest) position ≡ name now.plan now.words position
name_read inside now here whole position =
    ap (λ (s : ℕ). record_word s (rest_words inside.rest) position) whole.slots
    ∙ ap (λ (t : ClosedTable). name t.plan t.words position) here

pub position_read : (inside : Inside) (now : ClosedTable) → closed_table inside ≡ now → IsClosedTable inside
    → (code turn : ℕ) → probes.probed code inside.bits turn ≡ probed now.plan code turn
position_read inside now here whole code turn =
    ap (λ (b : ℕ). probes.probed code b turn) whole.bits ∙ ap (λ (t : ClosedTable). probed t.plan code turn) here

pub slots_read : (inside : Inside) (now : ClosedTable) → closed_table inside ≡ now → IsClosedTable inside
    → inside.rest.slots ≡ slots_of now.plan
slots_read inside now here whole = whole.slots ∙ ap (λ (t : ClosedTable). slots_of t.plan) here
