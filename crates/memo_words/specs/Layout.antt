-- What a table is made for, and where its words lie: the counter, a key word and a record word for each position, and a
-- score word and a choice word for each record.
use Rattle.std.specs.Prelude.{ℕ, zero, suc, ◌+◌, ◌*◌, ◌^◌, ◌≤◌, List, IsTrue, length, slice_index}
use Rattle.adp_model.specs.PosedProblem.{PosedProblem}
use Rattle.adp_model.specs.Cells.{IsCellBound}
use Rattle.adp_model.specs.ProblemFields.{most_letters, most_cells}
use Rattle.adp_model.specs.WellFormed.{is_well_formed}
use Rattle.memo_words.specs.declared.part.Part.{Part}
use Rattle.memo_words.specs.declared.part.Part.TheVariants.{Score, Choice}
use Rattle.memo_words.specs.Probes as probes

-- the problem and its cell bound, the number of bits of a position, and how many passes there can be
pub record Plan : Type 0 where
  pub problem : PosedProblem
  pub cells : ℕ
  pub bits : ℕ
  pub seats : ℕ

-- how many positions there are
abbrev pub slots_of : Plan → ℕ
slots_of plan = 2 ^ plan.bits

-- how many records there are
abbrev pub records_of : Plan → ℕ
records_of plan = plan.cells + plan.seats

-- the position that a code's probe sequence comes to at this turn
abbrev pub probed : Plan → ℕ → ℕ → ℕ
probed plan code turn = probes.probed code plan.bits turn

-- the bits are the least number, from 1 on, with two positions for each cell
pub record IsBits (cells bits : ℕ) : Type 0 where
  pub some : 1 ≤ bits
  pub enough : 2 * cells ≤ 2 ^ bits
  pub least : (fewer : ℕ) → 1 ≤ fewer → 2 * cells ≤ 2 ^ fewer → bits ≤ fewer

-- the plan of an admitted problem
pub record IsPlanned (plan : Plan) : Type 0 where
  pub well_formed : IsTrue (is_well_formed plan.problem.grammar)
  pub letters : length plan.problem.word ≤ most_letters
  pub cells : IsCellBound plan.problem.grammar (length plan.problem.word) plan.cells
  pub few_cells : plan.cells ≤ most_cells
  pub bits : IsBits plan.cells plan.bits
  pub some_seats : 1 ≤ plan.seats
  pub few_seats : plan.seats ≤ 32

abbrev pub key_place : ℕ → ℕ
key_place position = 1 + position

abbrev pub record_place : ℕ → ℕ → ℕ
record_place slots position = 1 + slots + position

abbrev pub arena_place : ℕ → ℕ → Part → ℕ → ℕ
arena_place slots records Score number = 1 + 2 * slots + number
arena_place slots records Choice number = 1 + 2 * slots + records + number

abbrev pub word_count : ℕ → ℕ → ℕ
word_count slots records = 1 + 2 * slots + 2 * records

abbrev pub counter : List ℕ → ℕ
counter words = slice_index words 0

abbrev pub key : List ℕ → ℕ → ℕ
key words position = slice_index words (key_place position)

-- the record word of a position
abbrev pub record_word : ℕ → List ℕ → ℕ → ℕ
record_word slots words position = slice_index words (record_place slots position)

-- a word of a record
abbrev pub arena_word : ℕ → ℕ → List ℕ → Part → ℕ → ℕ
arena_word slots records words part number = slice_index words (arena_place slots records part number)

-- f 0 + .. + f (n - 1)
abbrev pub tally : (ℕ → ℕ) → ℕ → ℕ
tally f zero = 0
tally f (suc n) = tally f n + f n
