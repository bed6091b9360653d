-- The words of the command line: a mode, and then options in any order, each at most once, with its value in the next
-- word.
use Rattle.std.specs.Prelude.{◌≡◌, ℕ, ◌^◌, ◌<◌, ◌≤◌, ◌⊎◌, Option, None, Some, IsSome, List, [], ◌∷◌, length, codes, IsTrue, map, All}
use Rattle.std.specs.Str.Parse.{IsNumeral, digits_value}
use Rattle.adp_model.specs.WellFormed.{is_name, are_distinct}
use Rattle.verdicts.specs.declared.command.Mode.{Mode}
use Rattle.verdicts.specs.declared.command.Mode.TheVariants.{Best, Serial, Wins, Replay, Lex, Cert, Verify, KBest, Big}
use Rattle.verdicts.specs.ScheduleText.{is_schedule, machines_of}

abbrev pub mode_word : Mode → List ℕ
mode_word Best = codes "best"
mode_word Serial = codes "serial"
mode_word Wins = codes "wins"
mode_word Replay = codes "replay"
mode_word Lex = codes "lex"
mode_word Cert = codes "cert"
mode_word Verify = codes "verify"
mode_word KBest = codes "kbest"
mode_word Big = codes "big"

-- an option with its value: an algebra's name; that of a second one, which decides among equals; a number of evaluators;
-- the seed of their orders; the machines that a schedule names in turn; how many first trees of each word are asked for;
-- the size of the word that is made
pub data Setting : Type 0 where
  Algebra : (name : List ℕ) → Setting
  Then : (name : List ℕ) → Setting
  Workers : (workers : ℕ) → Setting
  Seed : (seed : ℕ) → Setting
  Schedule : (machines : List ℕ) → Setting
  Trees : (best : ℕ) → Setting
  Size : (size : ℕ) → Setting

abbrev pub option_word : Setting → List ℕ
option_word (Algebra name) = codes "--algebra"
option_word (Then name) = codes "--then"
option_word (Workers workers) = codes "--workers"
option_word (Seed seed) = codes "--seed"
option_word (Schedule machines) = codes "--schedule"
option_word (Trees best) = codes "--best"
option_word (Size size) = codes "--size"

-- a mode that has no evaluators to choose: a certificate is checked, and first trees are found, without any
abbrev pub TakesNoWorkers : Mode → Type 0
TakesNoWorkers mode = (mode ≡ Verify) ⊎ (mode ≡ KBest)

-- the options of a mode: a word that is made has no other algebra than its grammar's, some modes have no evaluators, and
-- a second algebra or first trees are asked for, and a schedule followed, in one mode alone
abbrev pub Allows : Mode → Setting → Type 0
Allows mode (Algebra name) = (mode ≡ Big) → ⊥
Allows mode (Then name) = mode ≡ Lex
Allows mode (Workers workers) = TakesNoWorkers mode → ⊥
Allows mode (Seed seed) = TakesNoWorkers mode → ⊥
Allows mode (Schedule machines) = mode ≡ Replay
Allows mode (Trees best) = mode ≡ KBest
Allows mode (Size size) = mode ≡ Big

-- one or more decimal digits with this value; zeros may come first
abbrev pub IsNumberWord : List ℕ → ℕ → Type 0
IsNumberWord word number = IsNumeral 10 word × (number ≡ digits_value 10 word)

-- the greatest size of a word that is made
abbrev pub greatest_size : ℕ
greatest_size = 2046

-- the most first trees of a word
abbrev pub most_trees : ℕ
most_trees = 64

-- the word is a value that the setting allows
abbrev pub IsValue : List ℕ → Setting → Type 0
IsValue word (Algebra name) = IsTrue (is_name word) × (name ≡ word)
IsValue word (Then name) = IsTrue (is_name word) × (name ≡ word)
IsValue word (Workers workers) = IsNumberWord word workers × (1 ≤ workers) × (workers ≤ 32)
IsValue word (Seed seed) = IsNumberWord word seed × (seed < 2 ^ 64)
IsValue word (Schedule machines) = IsTrue (is_schedule word) × (machines ≡ machines_of word)
IsValue word (Trees best) = IsNumberWord word best × (1 ≤ best) × (best ≤ most_trees)
IsValue word (Size size) = IsNumberWord word size × (1 ≤ size) × (size ≤ greatest_size)

-- the words are these settings, one behind the other
abbrev pub AreSettings : List (List ℕ) → List Setting → Type 0
AreSettings [] [] = Unit {0}
AreSettings (option ∷ value ∷ words) (setting ∷ settings) =
    (option ≡ option_word setting) × IsValue value setting × AreSettings words settings
AreSettings words settings = ⊥

-- no option is set twice
abbrev pub AreSetOnce : List Setting → Type 0
AreSetOnce settings = IsTrue (are_distinct (map option_word settings))

-- the value of an option, or what holds where it is not set: the first algebra, no second one, one evaluator, the seed
-- 0, a schedule without machines, no first trees, the size 0
abbrev pub algebra_set : List Setting → Option (List ℕ)
algebra_set [] = None
algebra_set (Algebra name ∷ settings) = Some name
algebra_set (setting ∷ settings) = algebra_set settings

abbrev pub second_set : List Setting → Option (List ℕ)
second_set [] = None
second_set (Then name ∷ settings) = Some name
second_set (setting ∷ settings) = second_set settings

abbrev pub workers_set : List Setting → ℕ
workers_set [] = 1
workers_set (Workers workers ∷ settings) = workers
workers_set (setting ∷ settings) = workers_set settings

abbrev pub seed_set : List Setting → ℕ
seed_set [] = 0
seed_set (Seed seed ∷ settings) = seed
seed_set (setting ∷ settings) = seed_set settings

abbrev pub schedule_set : List Setting → List ℕ
schedule_set [] = []
schedule_set (Schedule machines ∷ settings) = machines
schedule_set (setting ∷ settings) = schedule_set settings

abbrev pub best_set : List Setting → ℕ
best_set [] = 0
best_set (Trees best ∷ settings) = best
best_set (setting ∷ settings) = best_set settings

abbrev pub size_set : List Setting → ℕ
size_set [] = 0
size_set (Size size ∷ settings) = size
size_set (setting ∷ settings) = size_set settings

-- what the words of a command line say: the names of the algebra and of the second one, and numbers; where none is set,
-- there is no machine in the schedule, no first trees are asked for, and the size is 0
pub record Command : Type 0 where
  pub mode : Mode
  pub algebra : Option (List ℕ)
  pub second : Option (List ℕ)
  pub workers : ℕ
  pub seed : ℕ
  pub schedule : List ℕ
  pub best : ℕ
  pub size : ℕ

-- the words are this command
pub record IsCommand (words : List (List ℕ)) (command : Command) : Type 0 where
  pub options : List (List ℕ)
  pub settings : List Setting
  pub words_are : words ≡ mode_word command.mode ∷ options
  pub set : AreSettings options settings
  pub once : AreSetOnce settings
  pub allowed : All (Allows command.mode) settings
  pub algebra_is : command.algebra ≡ algebra_set settings
  pub second_is : command.second ≡ second_set settings
  pub workers_are : command.workers ≡ workers_set settings
  pub seed_is : command.seed ≡ seed_set settings
  pub schedule_is : command.schedule ≡ schedule_set settings
  pub best_is : command.best ≡ best_set settings
  pub size_is : command.size ≡ size_set settings
  -- two algebras in order are two, what is replayed has a schedule, some first trees are asked for, and a word that is
  -- made has a size
  pub paired : command.mode ≡ Lex → IsSome command.second
  pub scheduled : command.mode ≡ Replay → 1 ≤ length command.schedule
  pub listed : command.mode ≡ KBest → 1 ≤ command.best
  pub sized : command.mode ≡ Big → 1 ≤ command.size

-- the words are some command
abbrev pub HasCommand : List (List ℕ) → Type 0
HasCommand words = (command : Command) × IsCommand words command

-- it holds of all words that are this command
abbrev pub ForWordsOf : Command → (List (List ℕ) → Type 0) → Type 0
ForWordsOf command holds = (words : List (List ℕ)) → IsCommand words command → holds words

-- whether a mode reads a job: a word that is made needs none
abbrev pub ReadsJob : Mode → Type 0
ReadsJob mode = (mode ≡ Big) → ⊥

-- whether the reports of a mode tell the wins of its evaluators
abbrev pub ShowsWins : Mode → Type 0
ShowsWins mode = (mode ≡ Wins) ⊎ (mode ≡ Replay)

-- the words are a command that checks a certificate
abbrev pub AsksToVerify : List (List ℕ) → Type 0
AsksToVerify words = (command : Command) × IsCommand words command × (command.mode ≡ Verify)

-- the words are a command that reads a job
abbrev pub AsksForJob : List (List ℕ) → Type 0
AsksForJob words = (command : Command) × IsCommand words command × ReadsJob command.mode
