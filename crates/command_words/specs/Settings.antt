-- The options of a command line that were read, and one more of them.
use Rattle.std.specs.Prelude.{◌≡◌, ℕ, ◌^◌, ◌<◌, ◌≤◌, List, Some, None, IsNone, IsSome, IsTrue}
use Rattle.adp_model.specs.WellFormed.{is_name}
use Rattle.verdicts.specs.declared.command.Mode.{Mode}
use Rattle.verdicts.specs.declared.command.Mode.TheVariants.{Replay, Lex, Verify, KBest, Big}
use Rattle.verdicts.specs.Command.{IsNumberWord, Setting, Algebra, Then, Workers, Seed, Schedule, Trees, Size, greatest_size, most_trees, option_word}
use Rattle.verdicts.specs.ScheduleText.{is_schedule, machines_of}
use Rattle.command_words.specs.OptionValues.{OptionValues}

-- the option is not set before, the value is a name, and then it is set
pub record AddsAlgebra (before : OptionValues) (value : List ℕ) (after : OptionValues) : Type 0 where
  pub free : before.algebra ≡ None
  pub name : IsTrue (is_name value)
  pub set : after ≡ record before { algebra = Some value }

-- the second algebra is not set before, the value is a name, and then it is set
pub record AddsSecond (before : OptionValues) (value : List ℕ) (after : OptionValues) : Type 0 where
  pub free : before.second ≡ None
  pub name : IsTrue (is_name value)
  pub set : after ≡ record before { second = Some value }

-- the option is not set before, the value is a number from 1 to 32, and then it is set
pub record AddsWorkers (before : OptionValues) (value : List ℕ) (workers : ℕ) (after : OptionValues) : Type 0 where
  pub free : before.workers ≡ None
  pub number : IsNumberWord value workers
  pub some : 1 ≤ workers
  pub few : workers ≤ 32
  pub set : after ≡ record before { workers = Some workers }

-- the option is not set before, the value is a number of 64 bits, and then it is set
pub record AddsSeed (before : OptionValues) (value : List ℕ) (seed : ℕ) (after : OptionValues) : Type 0 where
  pub free : before.seed ≡ None
  pub number : IsNumberWord value seed
  pub fits : seed < 2 ^ 64
  pub set : after ≡ record before { seed = Some seed }

-- the option is not set before, the value is a schedule, and then its machines are set
pub record AddsSchedule (before : OptionValues) (value : List ℕ) (after : OptionValues) : Type 0 where
  pub free : before.schedule ≡ None
  pub schedule : IsTrue (is_schedule value)
  pub set : after ≡ record before { schedule = Some (machines_of value) }

-- the option is not set before, the value is a number of first trees, and then it is set
pub record AddsTrees (before : OptionValues) (value : List ℕ) (best : ℕ) (after : OptionValues) : Type 0 where
  pub free : before.best ≡ None
  pub number : IsNumberWord value best
  pub some : 1 ≤ best
  pub few : best ≤ most_trees
  pub set : after ≡ record before { best = Some best }

-- the option is not set before, the value is a size of a word that is made, and then it is set
pub record AddsSize (before : OptionValues) (value : List ℕ) (size : ℕ) (after : OptionValues) : Type 0 where
  pub free : before.size ≡ None
  pub number : IsNumberWord value size
  pub some : 1 ≤ size
  pub small : size ≤ greatest_size
  pub set : after ≡ record before { size = Some size }

-- the option and its value are the setting, which is not set before and then is
abbrev pub Adds : OptionValues → List ℕ → List ℕ → Setting → OptionValues → Type 0
Adds before option value (Algebra name) after =
    (option ≡ option_word (Algebra name)) × (name ≡ value) × AddsAlgebra before value after
Adds before option value (Then name) after =
    (option ≡ option_word (Then name)) × (name ≡ value) × AddsSecond before value after
Adds before option value (Workers workers) after =
    (option ≡ option_word (Workers workers)) × AddsWorkers before value workers after
Adds before option value (Seed seed) after =
    (option ≡ option_word (Seed seed)) × AddsSeed before value seed after
Adds before option value (Schedule machines) after =
    (option ≡ option_word (Schedule machines)) × (machines ≡ machines_of value) × AddsSchedule before value after
Adds before option value (Trees best) after =
    (option ≡ option_word (Trees best)) × AddsTrees before value best after
Adds before option value (Size size) after =
    (option ≡ option_word (Size size)) × AddsSize before value size after

-- the options that are set are those that the mode allows, and those that it needs are among them
abbrev pub Suits : Mode → OptionValues → Type 0
Suits Replay set = IsNone set.second × IsSome set.schedule × IsNone set.best × IsNone set.size
Suits Lex set = IsSome set.second × IsNone set.schedule × IsNone set.best × IsNone set.size
Suits Verify set =
    IsNone set.second × IsNone set.workers × IsNone set.seed × IsNone set.schedule × IsNone set.best × IsNone set.size
Suits KBest set =
    IsNone set.second × IsNone set.workers × IsNone set.seed × IsNone set.schedule × IsSome set.best × IsNone set.size
Suits Big set = IsNone set.algebra × IsNone set.second × IsNone set.schedule × IsNone set.best × IsSome set.size
Suits mode set = IsNone set.second × IsNone set.schedule × IsNone set.best × IsNone set.size
