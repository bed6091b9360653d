-- Options of a command line: read one by one from the last, each at most once.
use Rattle.std.proofs.Common.{◌≡◌, ℕ, ◌+◌, ◌-◌, ◌/◌, ◌%◌, ◌<◌, ◌≤◌, ◌⊎◌, inl, inr, suc, zero, Bool, true, false, IsTrue, IsNone, IsSome, IfSome, not, nat_eq, ◌&&◌, List, [], ◌∷◌, length, drop, map, get_or, slice_index_or, Option, Some, None, unwrap_or, Result, Ok, Err, IfOk, OnErr, refl, sym, ap, ◌∙◌, subst, arith}
use Rattle.std.specs.List.{All, list_any}
use Rattle.std.proofs.lemmas.List.Elements.{All-nil, All-cons, All-head, All-tail}
use lib.Pointwise.{pointwise}
use Rattle.adp_model.specs.WellFormed.{is_name}
use Rattle.verdicts.specs.declared.command.Mode.{Mode}
use Rattle.verdicts.specs.declared.command.Mode.TheVariants.{Best, Serial, Wins, Replay, Lex, Cert, Verify, KBest, Big}
use Rattle.verdicts.specs.Command.{Setting, Algebra, Then, Workers, Seed, Schedule, Trees, Size, Allows, TakesNoWorkers, AreSettings, AreSetOnce, IsValue, IsCommand, HasCommand, algebra_set, second_set, workers_set, seed_set, schedule_set, best_set, size_set, mode_word, option_word}
use Rattle.verdicts.specs.ScheduleText.{machines_of, is_schedule}
use Rattle.command_words.specs.OptionValues.{OptionValues}
use Rattle.command_words.specs.Settings.{Adds, AddsSchedule, AddsWorkers, AddsSeed, AddsTrees, AddsSize, Suits}

-- ---- one option

-- the words of two options differ at their third letter or at their fourth
abbrev third_letter : List ℕ → ℕ
third_letter word = get_or word 2 0

abbrev fourth_letter : List ℕ → ℕ
fourth_letter word = get_or word 3 0

-- what is read of the option's value is what is added
pub added_if : {E A : Type 0} (result : Result A E) (P Q : A → Type 0) → ((after : A) → P after → Q after)
    → IfOk result P → IfOk result Q
added_if (Ok after) P Q then holds = then after holds
added_if (Err e) P Q then holds = tt

pub refused_if : {E A : Type 0} (result : Result A E) (P Q : Type 0) → (P → Q) → OnErr result P → OnErr result Q
refused_if (Ok after) P Q then holds = tt
refused_if (Err e) P Q then holds = then holds

-- no setting of this option and this value can be added
abbrev Refuses : OptionValues → List ℕ → List ℕ → Type 0
Refuses before option value = (setting : Setting) (after : OptionValues) → Adds before option value setting after → ⊥

module _ (before : OptionValues) (option value : List ℕ) where
  pub not_workers : option ≡ option_word (Workers 0)
      → ((workers : ℕ) (after : OptionValues) → AddsWorkers before value workers after → ⊥)
      → Refuses before option value
  not_workers is refuses (Workers workers) after adds = refuses workers after adds.1
  not_workers is refuses setting after adds = omega (arith, ap third_letter (sym is ∙ adds.0), ap fourth_letter (sym is ∙ adds.0))

  pub not_seed : option ≡ option_word (Seed 0)
      → ((seed : ℕ) (after : OptionValues) → AddsSeed before value seed after → ⊥)
      → Refuses before option value
  not_seed is refuses (Seed seed) after adds = refuses seed after adds.1
  not_seed is refuses setting after adds = omega (arith, ap third_letter (sym is ∙ adds.0), ap fourth_letter (sym is ∙ adds.0))

  pub not_schedule : option ≡ option_word (Schedule [])
      → ((after : OptionValues) → AddsSchedule before value after → ⊥) → Refuses before option value
  not_schedule is refuses (Schedule machines) after adds = refuses after adds.2
  not_schedule is refuses setting after adds = omega (arith, ap third_letter (sym is ∙ adds.0), ap fourth_letter (sym is ∙ adds.0))

  pub not_trees : option ≡ option_word (Trees 0)
      → ((best : ℕ) (after : OptionValues) → AddsTrees before value best after → ⊥)
      → Refuses before option value
  not_trees is refuses (Trees best) after adds = refuses best after adds.1
  not_trees is refuses setting after adds = omega (arith, ap third_letter (sym is ∙ adds.0), ap fourth_letter (sym is ∙ adds.0))

  pub not_size : option ≡ option_word (Size 0)
      → ((size : ℕ) (after : OptionValues) → AddsSize before value size after → ⊥)
      → Refuses before option value
  not_size is refuses (Size size) after adds = refuses size after adds.1
  not_size is refuses setting after adds = omega (arith, ap third_letter (sym is ∙ adds.0), ap fourth_letter (sym is ∙ adds.0))

-- ---- the options from a place on

abbrev workers_found : List Setting → Option ℕ
workers_found [] = None
workers_found (Workers workers ∷ settings) = Some workers
workers_found (setting ∷ settings) = workers_found settings

abbrev seed_found : List Setting → Option ℕ
seed_found [] = None
seed_found (Seed seed ∷ settings) = Some seed
seed_found (setting ∷ settings) = seed_found settings

abbrev best_found : List Setting → Option ℕ
best_found [] = None
best_found (Trees best ∷ settings) = Some best
best_found (setting ∷ settings) = best_found settings

abbrev size_found : List Setting → Option ℕ
size_found [] = None
size_found (Size size ∷ settings) = Some size
size_found (setting ∷ settings) = size_found settings

abbrev schedule_found : List Setting → Option (List ℕ)
schedule_found [] = None
schedule_found (Schedule machines ∷ settings) = Some machines
schedule_found (setting ∷ settings) = schedule_found settings

-- the words are settings, none of them twice, and this is what they set
pub record AreRead (words : List (List ℕ)) (state : OptionValues) : Type 0 where
  pub settings : List Setting
  pub set : AreSettings words settings
  pub once : AreSetOnce settings
  pub algebra : state.algebra ≡ algebra_set settings
  pub second : state.second ≡ second_set settings
  pub workers : state.workers ≡ workers_found settings
  pub seed : state.seed ≡ seed_found settings
  pub schedule : state.schedule ≡ schedule_found settings
  pub best : state.best ≡ best_found settings
  pub size : state.size ≡ size_found settings

workers_is : (settings : List Setting) → unwrap_or (workers_found settings) 1 ≡ workers_set settings
workers_is [] = refl
workers_is (Workers workers ∷ settings) = refl
workers_is (setting ∷ settings) = workers_is settings

seed_is : (settings : List Setting) → unwrap_or (seed_found settings) 0 ≡ seed_set settings
seed_is [] = refl
seed_is (Seed seed ∷ settings) = refl
seed_is (setting ∷ settings) = seed_is settings

best_is : (settings : List Setting) → unwrap_or (best_found settings) 0 ≡ best_set settings
best_is [] = refl
best_is (Trees best ∷ settings) = refl
best_is (setting ∷ settings) = best_is settings

size_is : (settings : List Setting) → unwrap_or (size_found settings) 0 ≡ size_set settings
size_is [] = refl
size_is (Size size ∷ settings) = refl
size_is (setting ∷ settings) = size_is settings

schedule_is : (settings : List Setting) → unwrap_or (schedule_found settings) [] ≡ schedule_set settings
schedule_is [] = refl
schedule_is (Schedule machines ∷ settings) = refl
schedule_is (setting ∷ settings) = schedule_is settings

-- an option without a value is not set
abbrev occurs : Setting → List Setting → Bool
occurs setting settings = list_any (pointwise nat_eq (option_word setting)) (map option_word settings)

module _ (number : ℕ) where
  no_workers : (settings : List Setting) → workers_found settings ≡ None → occurs (Workers number) settings ≡ false
  no_workers [] e = refl
  no_workers (Workers other ∷ settings) e = cc
  no_workers (setting ∷ settings) e = no_workers settings e

  no_seed : (settings : List Setting) → seed_found settings ≡ None → occurs (Seed number) settings ≡ false
  no_seed [] e = refl
  no_seed (Seed other ∷ settings) e = cc
  no_seed (setting ∷ settings) e = no_seed settings e

  no_trees : (settings : List Setting) → best_found settings ≡ None → occurs (Trees number) settings ≡ false
  no_trees [] e = refl
  no_trees (Trees other ∷ settings) e = cc
  no_trees (setting ∷ settings) e = no_trees settings e

  no_size : (settings : List Setting) → size_found settings ≡ None → occurs (Size number) settings ≡ false
  no_size [] e = refl
  no_size (Size other ∷ settings) e = cc
  no_size (setting ∷ settings) e = no_size settings e

  free_workers : (settings : List Setting) → occurs (Workers number) settings ≡ false → workers_found settings ≡ None
  free_workers [] e = refl
  free_workers (Workers other ∷ settings) e = cc
  free_workers (setting ∷ settings) e = free_workers settings e

  free_seed : (settings : List Setting) → occurs (Seed number) settings ≡ false → seed_found settings ≡ None
  free_seed [] e = refl
  free_seed (Seed other ∷ settings) e = cc
  free_seed (setting ∷ settings) e = free_seed settings e

  free_trees : (settings : List Setting) → occurs (Trees number) settings ≡ false → best_found settings ≡ None
  free_trees [] e = refl
  free_trees (Trees other ∷ settings) e = cc
  free_trees (setting ∷ settings) e = free_trees settings e

  free_size : (settings : List Setting) → occurs (Size number) settings ≡ false → size_found settings ≡ None
  free_size [] e = refl
  free_size (Size other ∷ settings) e = cc
  free_size (setting ∷ settings) e = free_size settings e

module _ (text : List ℕ) where
  no_algebra : (settings : List Setting) → algebra_set settings ≡ None → occurs (Algebra text) settings ≡ false
  no_algebra [] e = refl
  no_algebra (Algebra other ∷ settings) e = cc
  no_algebra (setting ∷ settings) e = no_algebra settings e

  no_second : (settings : List Setting) → second_set settings ≡ None → occurs (Then text) settings ≡ false
  no_second [] e = refl
  no_second (Then other ∷ settings) e = cc
  no_second (setting ∷ settings) e = no_second settings e

  no_schedule : (settings : List Setting) → schedule_found settings ≡ None → occurs (Schedule text) settings ≡ false
  no_schedule [] e = refl
  no_schedule (Schedule other ∷ settings) e = cc
  no_schedule (setting ∷ settings) e = no_schedule settings e

  free_algebra : (settings : List Setting) → occurs (Algebra text) settings ≡ false → algebra_set settings ≡ None
  free_algebra [] e = refl
  free_algebra (Algebra other ∷ settings) e = cc
  free_algebra (setting ∷ settings) e = free_algebra settings e

  free_second : (settings : List Setting) → occurs (Then text) settings ≡ false → second_set settings ≡ None
  free_second [] e = refl
  free_second (Then other ∷ settings) e = cc
  free_second (setting ∷ settings) e = free_second settings e

  free_schedule : (settings : List Setting) → occurs (Schedule text) settings ≡ false → schedule_found settings ≡ None
  free_schedule [] e = refl
  free_schedule (Schedule other ∷ settings) e = cc
  free_schedule (setting ∷ settings) e = free_schedule settings e

-- a setting before others is set once where it does not occur among them
once_more : (setting : Setting) (settings : List Setting) → occurs setting settings ≡ false → AreSetOnce settings
    → AreSetOnce (setting ∷ settings)
once_more setting settings absent once = rw absent once

both_parts : (a b : Bool) → IsTrue (a && b) → IsTrue a × IsTrue b
both_parts true true h = (refl, refl)
both_parts true false h = cc
both_parts false true h = cc
both_parts false false h = cc

absent_from : (a : Bool) → IsTrue (not a) → a ≡ false
absent_from true h = cc
absent_from false h = refl

once_less : (setting : Setting) (settings : List Setting) → AreSetOnce (setting ∷ settings)
    → (occurs setting settings ≡ false) × AreSetOnce settings
once_less setting settings once =
    let parts = both_parts _ _ once in
    (absent_from _ parts.0, parts.1)

-- one more option before the others
module _ (option value : List ℕ) (words : List (List ℕ)) (before after : OptionValues) where
  pub read_more : (setting : Setting) → Adds before option value setting after
      → AreRead words before → AreRead (option ∷ value ∷ words) after
  read_more (Algebra named) adds read = record {
    settings = Algebra named ∷ read.settings;
    set = (adds.0, (adds.2.name, adds.1), read.set);
    once = once_more (Algebra named) read.settings
        (no_algebra named read.settings (sym read.algebra ∙ adds.2.free)) read.once;
    algebra = ap (λ (s : OptionValues). s.algebra) adds.2.set ∙ ap Some (sym adds.1);
    second = ap (λ (s : OptionValues). s.second) adds.2.set ∙ read.second;
    workers = ap (λ (s : OptionValues). s.workers) adds.2.set ∙ read.workers;
    seed = ap (λ (s : OptionValues). s.seed) adds.2.set ∙ read.seed;
    schedule = ap (λ (s : OptionValues). s.schedule) adds.2.set ∙ read.schedule;
    best = ap (λ (s : OptionValues). s.best) adds.2.set ∙ read.best;
    size = ap (λ (s : OptionValues). s.size) adds.2.set ∙ read.size;
  }
  read_more (Then named) adds read = record {
    settings = Then named ∷ read.settings;
    set = (adds.0, (adds.2.name, adds.1), read.set);
    once = once_more (Then named) read.settings
        (no_second named read.settings (sym read.second ∙ adds.2.free)) read.once;
    algebra = ap (λ (s : OptionValues). s.algebra) adds.2.set ∙ read.algebra;
    second = ap (λ (s : OptionValues). s.second) adds.2.set ∙ ap Some (sym adds.1);
    workers = ap (λ (s : OptionValues). s.workers) adds.2.set ∙ read.workers;
    seed = ap (λ (s : OptionValues). s.seed) adds.2.set ∙ read.seed;
    schedule = ap (λ (s : OptionValues). s.schedule) adds.2.set ∙ read.schedule;
    best = ap (λ (s : OptionValues). s.best) adds.2.set ∙ read.best;
    size = ap (λ (s : OptionValues). s.size) adds.2.set ∙ read.size;
  }
  read_more (Workers workers) adds read = record {
    settings = Workers workers ∷ read.settings;
    set = (adds.0, (adds.1.number, adds.1.some, adds.1.few), read.set);
    once = once_more (Workers workers) read.settings
        (no_workers workers read.settings (sym read.workers ∙ adds.1.free)) read.once;
    algebra = ap (λ (s : OptionValues). s.algebra) adds.1.set ∙ read.algebra;
    second = ap (λ (s : OptionValues). s.second) adds.1.set ∙ read.second;
    workers = ap (λ (s : OptionValues). s.workers) adds.1.set;
    seed = ap (λ (s : OptionValues). s.seed) adds.1.set ∙ read.seed;
    schedule = ap (λ (s : OptionValues). s.schedule) adds.1.set ∙ read.schedule;
    best = ap (λ (s : OptionValues). s.best) adds.1.set ∙ read.best;
    size = ap (λ (s : OptionValues). s.size) adds.1.set ∙ read.size;
  }
  read_more (Seed seed) adds read = record {
    settings = Seed seed ∷ read.settings;
    set = (adds.0, (adds.1.number, adds.1.fits), read.set);
    once = once_more (Seed seed) read.settings (no_seed seed read.settings (sym read.seed ∙ adds.1.free)) read.once;
    algebra = ap (λ (s : OptionValues). s.algebra) adds.1.set ∙ read.algebra;
    second = ap (λ (s : OptionValues). s.second) adds.1.set ∙ read.second;
    workers = ap (λ (s : OptionValues). s.workers) adds.1.set ∙ read.workers;
    seed = ap (λ (s : OptionValues). s.seed) adds.1.set;
    schedule = ap (λ (s : OptionValues). s.schedule) adds.1.set ∙ read.schedule;
    best = ap (λ (s : OptionValues). s.best) adds.1.set ∙ read.best;
    size = ap (λ (s : OptionValues). s.size) adds.1.set ∙ read.size;
  }
  read_more (Schedule named) adds read = record {
    settings = Schedule named ∷ read.settings;
    set = (adds.0, (adds.2.schedule, adds.1), read.set);
    once = once_more (Schedule named) read.settings
        (no_schedule named read.settings (sym read.schedule ∙ adds.2.free)) read.once;
    algebra = ap (λ (s : OptionValues). s.algebra) adds.2.set ∙ read.algebra;
    second = ap (λ (s : OptionValues). s.second) adds.2.set ∙ read.second;
    workers = ap (λ (s : OptionValues). s.workers) adds.2.set ∙ read.workers;
    seed = ap (λ (s : OptionValues). s.seed) adds.2.set ∙ read.seed;
    schedule = ap (λ (s : OptionValues). s.schedule) adds.2.set ∙ ap Some (sym adds.1);
    best = ap (λ (s : OptionValues). s.best) adds.2.set ∙ read.best;
    size = ap (λ (s : OptionValues). s.size) adds.2.set ∙ read.size;
  }
  read_more (Trees best) adds read = record {
    settings = Trees best ∷ read.settings;
    set = (adds.0, (adds.1.number, adds.1.some, adds.1.few), read.set);
    once = once_more (Trees best) read.settings (no_trees best read.settings (sym read.best ∙ adds.1.free)) read.once;
    algebra = ap (λ (s : OptionValues). s.algebra) adds.1.set ∙ read.algebra;
    second = ap (λ (s : OptionValues). s.second) adds.1.set ∙ read.second;
    workers = ap (λ (s : OptionValues). s.workers) adds.1.set ∙ read.workers;
    seed = ap (λ (s : OptionValues). s.seed) adds.1.set ∙ read.seed;
    schedule = ap (λ (s : OptionValues). s.schedule) adds.1.set ∙ read.schedule;
    best = ap (λ (s : OptionValues). s.best) adds.1.set;
    size = ap (λ (s : OptionValues). s.size) adds.1.set ∙ read.size;
  }
  read_more (Size size) adds read = record {
    settings = Size size ∷ read.settings;
    set = (adds.0, (adds.1.number, adds.1.some, adds.1.small), read.set);
    once = once_more (Size size) read.settings (no_size size read.settings (sym read.size ∙ adds.1.free)) read.once;
    algebra = ap (λ (s : OptionValues). s.algebra) adds.1.set ∙ read.algebra;
    second = ap (λ (s : OptionValues). s.second) adds.1.set ∙ read.second;
    workers = ap (λ (s : OptionValues). s.workers) adds.1.set ∙ read.workers;
    seed = ap (λ (s : OptionValues). s.seed) adds.1.set ∙ read.seed;
    schedule = ap (λ (s : OptionValues). s.schedule) adds.1.set ∙ read.schedule;
    best = ap (λ (s : OptionValues). s.best) adds.1.set ∙ read.best;
    size = ap (λ (s : OptionValues). s.size) adds.1.set;
  }

-- ---- words are settings in one way

setting_unique : (option value : List ℕ) (s t : Setting) → option ≡ option_word s → IsValue value s
    → option ≡ option_word t → IsValue value t → s ≡ t
setting_unique option value (Algebra a) (Algebra b) e f g h = ap Algebra (f.1 ∙ sym h.1)
setting_unique option value (Then a) (Then b) e f g h = ap Then (f.1 ∙ sym h.1)
setting_unique option value (Workers a) (Workers b) e f g h = ap Workers (f.0.1 ∙ sym h.0.1)
setting_unique option value (Seed a) (Seed b) e f g h = ap Seed (f.0.1 ∙ sym h.0.1)
setting_unique option value (Schedule a) (Schedule b) e f g h = ap Schedule (f.1 ∙ sym h.1)
setting_unique option value (Trees a) (Trees b) e f g h = ap Trees (f.0.1 ∙ sym h.0.1)
setting_unique option value (Size a) (Size b) e f g h = ap Size (f.0.1 ∙ sym h.0.1)
setting_unique option value s t e f g h = absurd (omega (arith, ap third_letter (sym e ∙ g), ap fourth_letter (sym e ∙ g)))

settings_unique : (words : List (List ℕ)) (a b : List Setting) → AreSettings words a
    → AreSettings words b → a ≡ b
settings_unique [] [] [] e f = refl
settings_unique [] [] (t ∷ ts) e f = absurd f
settings_unique [] (s ∷ ss) b e f = absurd e
settings_unique (option ∷ []) [] b e f = absurd e
settings_unique (option ∷ []) (s ∷ ss) b e f = absurd e
settings_unique (option ∷ value ∷ words) [] b e f = absurd e
settings_unique (option ∷ value ∷ words) (s ∷ ss) [] e f = absurd f
settings_unique (option ∷ value ∷ words) (s ∷ ss) (t ∷ ts) e f =
    let first = setting_unique option value s t e.0 e.1 f.0 f.1 in
    let rest = settings_unique words ss ts e.2 f.2 in
    λ i. first i ∷ rest i

-- the settings of the words behind an even number of them
record AreLast (words : List (List ℕ)) : Type 0 where
  settings : List Setting
  set : AreSettings words settings
  once : AreSetOnce settings

last_from : (half count : ℕ) (words : List (List ℕ)) (settings : List Setting) → count ≡ half + half
    → AreSettings words settings → AreSetOnce settings → AreLast (drop count words)
last_from zero count words settings e set once =
    let L : ℕ → Type 0 = λ count. AreLast (drop count words) in
    let none : count ≡ 0 = omega arith in
    subst L (sym none) (record { settings = settings; set = set; once = once })
last_from (suc half) zero words settings e set once = absurd (omega arith)
last_from (suc half) (suc zero) words settings e set once = absurd (omega arith)
last_from (suc half) (suc (suc count)) [] [] e set once = record { settings = []; set = tt; once = refl }
last_from (suc half) (suc (suc count)) [] (s ∷ ss) e set once = absurd set
last_from (suc half) (suc (suc count)) (option ∷ []) [] e set once = absurd set
last_from (suc half) (suc (suc count)) (option ∷ []) (s ∷ ss) e set once = absurd set
last_from (suc half) (suc (suc count)) (option ∷ value ∷ words) [] e set once = absurd set
last_from (suc half) (suc (suc count)) (option ∷ value ∷ words) (s ∷ ss) e set once =
    last_from half count words ss (omega arith) set.2 (once_less s ss once).1

-- an option that cannot be added is part of no settings
module _ (option value : List ℕ) (words : List (List ℕ)) (before : OptionValues)
    (read : AreRead words before) (refuses : Refuses before option value) where
  refused_by : (s : Setting) (ss : List Setting) → option ≡ option_word s → IsValue value s
      → AreSettings words ss → occurs s ss ≡ false → ⊥
  refused_by (Algebra named) ss is value_is set absent =
      let same = settings_unique words read.settings ss read.set set in
      let free : before.algebra ≡ None = read.algebra ∙ ap algebra_set same ∙ free_algebra named ss absent in
      refuses (Algebra named) (record before { algebra = Some value })
      (is, value_is.1, record { free = free; name = value_is.0; set = refl })
  refused_by (Then named) ss is value_is set absent =
      let same = settings_unique words read.settings ss read.set set in
      let free : before.second ≡ None = read.second ∙ ap second_set same ∙ free_second named ss absent in
      refuses (Then named) (record before { second = Some value })
      (is, value_is.1, record { free = free; name = value_is.0; set = refl })
  refused_by (Workers workers) ss is value_is set absent =
      let same = settings_unique words read.settings ss read.set set in
      let free : before.workers ≡ None = read.workers ∙ ap workers_found same ∙ free_workers workers ss absent in
      refuses (Workers workers) (record before { workers = Some workers })
      (is, record { free = free; number = value_is.0; some = value_is.1; few = value_is.2; set = refl })
  refused_by (Seed seed) ss is value_is set absent =
      let same = settings_unique words read.settings ss read.set set in
      let free : before.seed ≡ None = read.seed ∙ ap seed_found same ∙ free_seed seed ss absent in
      refuses (Seed seed) (record before { seed = Some seed })
      (is, record { free = free; number = value_is.0; fits = value_is.1; set = refl })
  refused_by (Schedule named) ss is value_is set absent =
      let same = settings_unique words read.settings ss read.set set in
      let free : before.schedule ≡ None = read.schedule ∙ ap schedule_found same ∙ free_schedule named ss absent in
      refuses (Schedule named) (record before { schedule = Some (machines_of value) })
      (is, value_is.1, record { free = free; schedule = value_is.0; set = refl })
  refused_by (Trees best) ss is value_is set absent =
      let same = settings_unique words read.settings ss read.set set in
      let free : before.best ≡ None = read.best ∙ ap best_found same ∙ free_trees best ss absent in
      refuses (Trees best) (record before { best = Some best })
      (is, record { free = free; number = value_is.0; some = value_is.1; few = value_is.2; set = refl })
  refused_by (Size size) ss is value_is set absent =
      let same = settings_unique words read.settings ss read.set set in
      let free : before.size ≡ None = read.size ∙ ap size_found same ∙ free_size size ss absent in
      refuses (Size size) (record before { size = Some size })
      (is, record { free = free; number = value_is.0; some = value_is.1; small = value_is.2; set = refl })

  refused_last : (settings : List Setting) → AreSettings (option ∷ value ∷ words) settings
      → AreSetOnce settings → ⊥
  refused_last [] set once = absurd set
  refused_last (s ∷ ss) set once = refused_by s ss set.0 set.1 set.2 (once_less s ss once).0

-- ---- what a mode allows and needs

-- the words of two modes differ at their first letter or at their third
mode_same : (a b : Mode) → mode_word a ≡ mode_word b → a ≡ b
mode_same Best Best e = refl
mode_same Serial Serial e = refl
mode_same Wins Wins e = refl
mode_same Replay Replay e = refl
mode_same Lex Lex e = refl
mode_same Cert Cert e = refl
mode_same Verify Verify e = refl
mode_same KBest KBest e = refl
mode_same Big Big e = refl
mode_same a b e =
    absurd (omega (arith, ap (λ (w : List ℕ). get_or w 0 0) e, ap (λ (w : List ℕ). get_or w 2 0) e))

module _ (mode : Mode) where
  -- each option is one that is not set, or that the mode allows
  record CanBeSet (settings : List Setting) : Type 0 where
    algebra : IsNone (algebra_set settings) ⊎ (mode ≡ Big → ⊥)
    second : IsNone (second_set settings) ⊎ (mode ≡ Lex)
    workers : IsNone (workers_found settings) ⊎ (TakesNoWorkers mode → ⊥)
    seed : IsNone (seed_found settings) ⊎ (TakesNoWorkers mode → ⊥)
    schedule : IsNone (schedule_found settings) ⊎ (mode ≡ Replay)
    best : IsNone (best_found settings) ⊎ (mode ≡ KBest)
    size : IsNone (size_found settings) ⊎ (mode ≡ Big)

  all_allowed : (settings : List Setting) → CanBeSet settings → All (Allows mode) settings
  all_allowed [] can = All-nil (Allows mode)
  all_allowed (Algebra name ∷ settings) can =
      All-cons (Allows mode) (Algebra name) settings (allowed can.algebra) (all_allowed settings (record {
        algebra = inr (allowed can.algebra);
        second = can.second;
        workers = can.workers;
        seed = can.seed;
        schedule = can.schedule;
        best = can.best;
        size = can.size;
      }))
    where
      allowed : IsNone (Some name) ⊎ (mode ≡ Big → ⊥) → mode ≡ Big → ⊥
      allowed (inl none) = absurd cc
      allowed (inr other) = other
  all_allowed (Then name ∷ settings) can =
      All-cons (Allows mode) (Then name) settings (allowed can.second) (all_allowed settings (record {
        algebra = can.algebra;
        second = inr (allowed can.second);
        workers = can.workers;
        seed = can.seed;
        schedule = can.schedule;
        best = can.best;
        size = can.size;
      }))
    where
      allowed : IsNone (Some name) ⊎ (mode ≡ Lex) → mode ≡ Lex
      allowed (inl none) = absurd cc
      allowed (inr lex) = lex
  all_allowed (Workers workers ∷ settings) can =
      All-cons (Allows mode) (Workers workers) settings (allowed can.workers) (all_allowed settings (record {
        algebra = can.algebra;
        second = can.second;
        workers = inr (allowed can.workers);
        seed = can.seed;
        schedule = can.schedule;
        best = can.best;
        size = can.size;
      }))
    where
      allowed : IsNone (Some workers) ⊎ (TakesNoWorkers mode → ⊥) → TakesNoWorkers mode → ⊥
      allowed (inl none) = absurd cc
      allowed (inr other) = other
  all_allowed (Seed seed ∷ settings) can =
      All-cons (Allows mode) (Seed seed) settings (allowed can.seed) (all_allowed settings (record {
        algebra = can.algebra;
        second = can.second;
        workers = can.workers;
        seed = inr (allowed can.seed);
        schedule = can.schedule;
        best = can.best;
        size = can.size;
      }))
    where
      allowed : IsNone (Some seed) ⊎ (TakesNoWorkers mode → ⊥) → TakesNoWorkers mode → ⊥
      allowed (inl none) = absurd cc
      allowed (inr other) = other
  all_allowed (Schedule machines ∷ settings) can =
      All-cons (Allows mode) (Schedule machines) settings (allowed can.schedule) (all_allowed settings (record {
        algebra = can.algebra;
        second = can.second;
        workers = can.workers;
        seed = can.seed;
        schedule = inr (allowed can.schedule);
        best = can.best;
        size = can.size;
      }))
    where
      allowed : IsNone (Some machines) ⊎ (mode ≡ Replay) → mode ≡ Replay
      allowed (inl none) = absurd cc
      allowed (inr replay) = replay
  all_allowed (Trees best ∷ settings) can =
      All-cons (Allows mode) (Trees best) settings (allowed can.best) (all_allowed settings (record {
        algebra = can.algebra;
        second = can.second;
        workers = can.workers;
        seed = can.seed;
        schedule = can.schedule;
        best = inr (allowed can.best);
        size = can.size;
      }))
    where
      allowed : IsNone (Some best) ⊎ (mode ≡ KBest) → mode ≡ KBest
      allowed (inl none) = absurd cc
      allowed (inr kbest) = kbest
  all_allowed (Size size ∷ settings) can =
      All-cons (Allows mode) (Size size) settings (allowed can.size) (all_allowed settings (record {
        algebra = can.algebra;
        second = can.second;
        workers = can.workers;
        seed = can.seed;
        schedule = can.schedule;
        best = can.best;
        size = inr (allowed can.size);
      }))
    where
      allowed : IsNone (Some size) ⊎ (mode ≡ Big) → mode ≡ Big
      allowed (inl none) = absurd cc
      allowed (inr big) = big

  never_named : (settings : List Setting) → mode ≡ Big → All (Allows mode) settings
      → IsNone (algebra_set settings)
  never_named [] big all = refl
  never_named (Algebra name ∷ settings) big all =
      absurd (All-head (Allows mode) (Algebra name) settings all big)
  never_named (setting ∷ settings) big all = never_named settings big (All-tail (Allows mode) setting settings all)

  never_second : (settings : List Setting) → (mode ≡ Lex → ⊥) → All (Allows mode) settings
      → IsNone (second_set settings)
  never_second [] other all = refl
  never_second (Then name ∷ settings) other all =
      absurd (other (All-head (Allows mode) (Then name) settings all))
  never_second (setting ∷ settings) other all =
      never_second settings other (All-tail (Allows mode) setting settings all)

  never_staffed : (settings : List Setting) → TakesNoWorkers mode → All (Allows mode) settings
      → IsNone (workers_found settings)
  never_staffed [] takes all = refl
  never_staffed (Workers workers ∷ settings) takes all =
      absurd (All-head (Allows mode) (Workers workers) settings all takes)
  never_staffed (setting ∷ settings) takes all =
      never_staffed settings takes (All-tail (Allows mode) setting settings all)

  never_seeded : (settings : List Setting) → TakesNoWorkers mode → All (Allows mode) settings
      → IsNone (seed_found settings)
  never_seeded [] takes all = refl
  never_seeded (Seed seed ∷ settings) takes all =
      absurd (All-head (Allows mode) (Seed seed) settings all takes)
  never_seeded (setting ∷ settings) takes all =
      never_seeded settings takes (All-tail (Allows mode) setting settings all)

  never_scheduled : (settings : List Setting) → (mode ≡ Replay → ⊥) → All (Allows mode) settings
      → IsNone (schedule_found settings)
  never_scheduled [] other all = refl
  never_scheduled (Schedule machines ∷ settings) other all =
      absurd (other (All-head (Allows mode) (Schedule machines) settings all))
  never_scheduled (setting ∷ settings) other all =
      never_scheduled settings other (All-tail (Allows mode) setting settings all)

  never_listed : (settings : List Setting) → (mode ≡ KBest → ⊥) → All (Allows mode) settings
      → IsNone (best_found settings)
  never_listed [] other all = refl
  never_listed (Trees best ∷ settings) other all =
      absurd (other (All-head (Allows mode) (Trees best) settings all))
  never_listed (setting ∷ settings) other all =
      never_listed settings other (All-tail (Allows mode) setting settings all)

  never_sized : (settings : List Setting) → (mode ≡ Big → ⊥) → All (Allows mode) settings
      → IsNone (size_found settings)
  never_sized [] other all = refl
  never_sized (Size size ∷ settings) other all =
      absurd (other (All-head (Allows mode) (Size size) settings all))
  never_sized (setting ∷ settings) other all =
      never_sized settings other (All-tail (Allows mode) setting settings all)

-- a size is set where it is at least 1, as each size that is set is
some_trees : (settings : List Setting) → 1 ≤ best_set settings → IsSome (best_found settings)
some_trees [] some = absurd (omega arith)
some_trees (Trees best ∷ settings) some = refl
some_trees (setting ∷ settings) some = some_trees settings some

set_trees : (words : List (List ℕ)) (settings : List Setting) → AreSettings words settings
    → IsSome (best_found settings) → 1 ≤ best_set settings
set_trees words [] set found = absurd cc
set_trees [] (s ∷ ss) set found = absurd set
set_trees (option ∷ []) (s ∷ ss) set found = absurd set
set_trees (option ∷ value ∷ words) (Trees best ∷ ss) set found = set.1.1
set_trees (option ∷ value ∷ words) (s ∷ ss) set found = set_trees words ss set.2 found

some_size : (settings : List Setting) → 1 ≤ size_set settings → IsSome (size_found settings)
some_size [] some = absurd (omega arith)
some_size (Size size ∷ settings) some = refl
some_size (setting ∷ settings) some = some_size settings some

set_size : (words : List (List ℕ)) (settings : List Setting) → AreSettings words settings
    → IsSome (size_found settings) → 1 ≤ size_set settings
set_size words [] set found = absurd cc
set_size [] (s ∷ ss) set found = absurd set
set_size (option ∷ []) (s ∷ ss) set found = absurd set
set_size (option ∷ value ∷ words) (Size size ∷ ss) set found = set.1.1
set_size (option ∷ value ∷ words) (s ∷ ss) set found = set_size words ss set.2 found

-- a schedule is set where there are machines in it, as in each that is set
some_schedule : (settings : List Setting) → 1 ≤ length (schedule_set settings) → IsSome (schedule_found settings)
some_schedule [] some = absurd (omega arith)
some_schedule (Schedule machines ∷ settings) some = refl
some_schedule (setting ∷ settings) some = some_schedule settings some

has_machines : (text machines : List ℕ) → IsTrue (is_schedule text) → machines ≡ machines_of text → 1 ≤ length machines
has_machines [] machines is same = cc
has_machines (byte ∷ text) machines is same = omega (arith, ap length same)

set_schedule : (words : List (List ℕ)) (settings : List Setting) → AreSettings words settings
    → IsSome (schedule_found settings) → 1 ≤ length (schedule_set settings)
set_schedule words [] set found = absurd cc
set_schedule [] (s ∷ ss) set found = absurd set
set_schedule (option ∷ []) (s ∷ ss) set found = absurd set
set_schedule (option ∷ value ∷ words) (Schedule machines ∷ ss) set found =
    has_machines value machines set.1.0 set.1.1
set_schedule (option ∷ value ∷ words) (s ∷ ss) set found = set_schedule words ss set.2 found

-- names that are set are names
set_name : (words : List (List ℕ)) (settings : List Setting) → AreSettings words settings
    → IfSome (algebra_set settings) (λ name. IsTrue (is_name name))
set_name words [] set = tt
set_name [] (s ∷ ss) set = absurd set
set_name (option ∷ []) (s ∷ ss) set = absurd set
set_name (option ∷ value ∷ words) (Algebra name ∷ ss) set =
    subst (λ (it : List ℕ). IsTrue (is_name it)) (sym set.1.1) set.1.0
set_name (option ∷ value ∷ words) (s ∷ ss) set = set_name words ss set.2

set_second : (words : List (List ℕ)) (settings : List Setting) → AreSettings words settings
    → IfSome (second_set settings) (λ name. IsTrue (is_name name))
set_second words [] set = tt
set_second [] (s ∷ ss) set = absurd set
set_second (option ∷ []) (s ∷ ss) set = absurd set
set_second (option ∷ value ∷ words) (Then name ∷ ss) set =
    subst (λ (it : List ℕ). IsTrue (is_name it)) (sym set.1.1) set.1.0
set_second (option ∷ value ∷ words) (s ∷ ss) set = set_second words ss set.2

two_apart : {A B : Type 0} → (A → ⊥) → (B → ⊥) → A ⊎ B → ⊥
two_apart first second (inl a) = first a
two_apart first second (inr b) = second b

-- what was read suits the mode exactly where its options are allowed, and those that it needs are set
module _ (words : List (List ℕ)) (state : OptionValues) (read : AreRead words state) where
  allowed_by : (mode : Mode) → IsNone state.algebra ⊎ (mode ≡ Big → ⊥) → IsNone state.second ⊎ (mode ≡ Lex)
      → IsNone state.workers ⊎ (TakesNoWorkers mode → ⊥) → IsNone state.seed ⊎ (TakesNoWorkers mode → ⊥)
      → IsNone state.schedule ⊎ (mode ≡ Replay) → IsNone state.best ⊎ (mode ≡ KBest)
      → IsNone state.size ⊎ (mode ≡ Big) → All (Allows mode) read.settings
  allowed_by mode named seconded staffed seeded scheduled listed sized =
      all_allowed mode read.settings (record {
        algebra = subst (λ o. IsNone o ⊎ (mode ≡ Big → ⊥)) read.algebra named;
        second = subst (λ o. IsNone o ⊎ (mode ≡ Lex)) read.second seconded;
        workers = subst (λ o. IsNone o ⊎ (TakesNoWorkers mode → ⊥)) read.workers staffed;
        seed = subst (λ o. IsNone o ⊎ (TakesNoWorkers mode → ⊥)) read.seed seeded;
        schedule = subst (λ o. IsNone o ⊎ (mode ≡ Replay)) read.schedule scheduled;
        best = subst (λ o. IsNone o ⊎ (mode ≡ KBest)) read.best listed;
        size = subst (λ o. IsNone o ⊎ (mode ≡ Big)) read.size sized;
      })

  -- a mode of evaluators, whose options are these and a first algebra
  by_evaluators : (mode : Mode) → (mode ≡ Big → ⊥) → (mode ≡ Verify → ⊥) → (mode ≡ KBest → ⊥)
      → IsNone state.second ⊎ (mode ≡ Lex) → IsNone state.schedule ⊎ (mode ≡ Replay) → IsNone state.best
      → IsNone state.size → All (Allows mode) read.settings
  by_evaluators mode reads finds lists seconded scheduled listed sized =
      allowed_by mode (inr reads) seconded (inr (two_apart finds lists)) (inr (two_apart finds lists)) scheduled
      (inl listed) (inl sized)

  suited_allowed : (mode : Mode) → Suits mode state → All (Allows mode) read.settings
  suited_allowed Replay suits =
      by_evaluators Replay (λ e. cc) (λ e. cc) (λ e. cc) (inl suits.0) (inr refl) suits.2 suits.3
  suited_allowed Lex suits =
      by_evaluators Lex (λ e. cc) (λ e. cc) (λ e. cc) (inr refl) (inl suits.1) suits.2 suits.3
  suited_allowed Verify suits =
      allowed_by Verify (inr (λ e. cc)) (inl suits.0) (inl suits.1) (inl suits.2) (inl suits.3) (inl suits.4)
      (inl suits.5)
  suited_allowed KBest suits =
      allowed_by KBest (inr (λ e. cc)) (inl suits.0) (inl suits.1) (inl suits.2) (inl suits.3) (inr refl)
      (inl suits.5)
  suited_allowed Big suits =
      allowed_by Big (inl suits.0) (inl suits.1) (inr (two_apart (λ e. cc) (λ e. cc)))
      (inr (two_apart (λ e. cc) (λ e. cc))) (inl suits.2) (inl suits.3) (inr refl)
  suited_allowed mode suits =
      by_evaluators mode (λ e. cc) (λ e. cc) (λ e. cc) (inl suits.0) (inl suits.1) suits.2 suits.3

  suited_second : (mode : Mode) → Suits mode state → mode ≡ Lex → IsSome state.second
  suited_second Lex suits e = suits.0
  suited_second mode suits e = absurd cc

  suited_scheduled : (mode : Mode) → Suits mode state → mode ≡ Replay → 1 ≤ length (schedule_set read.settings)
  suited_scheduled Replay suits e =
      set_schedule words read.settings read.set (subst (λ o. IsSome o) read.schedule suits.1)
  suited_scheduled mode suits e = absurd cc

  suited_listed : (mode : Mode) → Suits mode state → mode ≡ KBest → 1 ≤ best_set read.settings
  suited_listed KBest suits e =
      set_trees words read.settings read.set (subst (λ o. IsSome o) read.best suits.4)
  suited_listed mode suits e = absurd cc

  suited_sized : (mode : Mode) → Suits mode state → mode ≡ Big → 1 ≤ size_set read.settings
  suited_sized Big suits e =
      set_size words read.settings read.set (subst (λ o. IsSome o) read.size suits.4)
  suited_sized mode suits e = absurd cc

  -- what is allowed and set by a command
  module _ (mode : Mode) (allowed : All (Allows mode) read.settings) where
    unnamed : mode ≡ Big → IsNone state.algebra
    unnamed big = subst (λ o. IsNone o) (sym read.algebra) (never_named mode read.settings big allowed)

    unseconded : (mode ≡ Lex → ⊥) → IsNone state.second
    unseconded other = subst (λ o. IsNone o) (sym read.second) (never_second mode read.settings other allowed)

    unstaffed : TakesNoWorkers mode → IsNone state.workers
    unstaffed takes =
        subst (λ o. IsNone o) (sym read.workers) (never_staffed mode read.settings takes allowed)

    unseeded : TakesNoWorkers mode → IsNone state.seed
    unseeded takes =
        subst (λ o. IsNone o) (sym read.seed) (never_seeded mode read.settings takes allowed)

    unscheduled : (mode ≡ Replay → ⊥) → IsNone state.schedule
    unscheduled other =
        subst (λ o. IsNone o) (sym read.schedule) (never_scheduled mode read.settings other allowed)

    unlisted : (mode ≡ KBest → ⊥) → IsNone state.best
    unlisted other = subst (λ o. IsNone o) (sym read.best) (never_listed mode read.settings other allowed)

    unsized : (mode ≡ Big → ⊥) → IsNone state.size
    unsized other = subst (λ o. IsNone o) (sym read.size) (never_sized mode read.settings other allowed)

  suited : (mode : Mode) → All (Allows mode) read.settings → (mode ≡ Lex → IsSome state.second)
      → (mode ≡ Replay → 1 ≤ length (schedule_set read.settings))
      → (mode ≡ KBest → 1 ≤ best_set read.settings)
      → (mode ≡ Big → 1 ≤ size_set read.settings) → Suits mode state
  suited Replay allowed there scheduled listed sized = (
    unseconded Replay allowed (λ e. cc),
    subst (λ o. IsSome o) (sym read.schedule) (some_schedule read.settings (scheduled refl)),
    unlisted Replay allowed (λ e. cc),
    unsized Replay allowed (λ e. cc),
  )
  suited Lex allowed there scheduled listed sized = (
    there refl,
    unscheduled Lex allowed (λ e. cc),
    unlisted Lex allowed (λ e. cc),
    unsized Lex allowed (λ e. cc),
  )
  suited Verify allowed there scheduled listed sized = (
    unseconded Verify allowed (λ e. cc),
    unstaffed Verify allowed (inl refl),
    unseeded Verify allowed (inl refl),
    unscheduled Verify allowed (λ e. cc),
    unlisted Verify allowed (λ e. cc),
    unsized Verify allowed (λ e. cc),
  )
  suited KBest allowed there scheduled listed sized = (
    unseconded KBest allowed (λ e. cc),
    unstaffed KBest allowed (inr refl),
    unseeded KBest allowed (inr refl),
    unscheduled KBest allowed (λ e. cc),
    subst (λ o. IsSome o) (sym read.best) (some_trees read.settings (listed refl)),
    unsized KBest allowed (λ e. cc),
  )
  suited Big allowed there scheduled listed sized = (
    unnamed Big allowed refl,
    unseconded Big allowed (λ e. cc),
    unscheduled Big allowed (λ e. cc),
    unlisted Big allowed (λ e. cc),
    subst (λ o. IsSome o) (sym read.size) (some_size read.settings (sized refl)),
  )
  suited mode allowed there scheduled listed sized = (
    unseconded mode allowed (λ e. cc),
    unscheduled mode allowed (λ e. cc),
    unlisted mode allowed (λ e. cc),
    unsized mode allowed (λ e. cc),
  )

-- ---- the words of the whole line

-- each option has a value
even_words : (words : List (List ℕ)) (settings : List Setting) → AreSettings words settings
    → length words ≡ length settings + length settings
even_words [] [] set = refl
even_words [] (s ∷ ss) set = absurd set
even_words (option ∷ []) [] set = absurd set
even_words (option ∷ []) (s ∷ ss) set = absurd set
even_words (option ∷ value ∷ words) [] set = absurd set
even_words (option ∷ value ∷ words) (s ∷ ss) set = omega (arith, even_words words ss set.2)

pub odd_words : (words : List (List ℕ)) → HasCommand words → length words % 2 ≡ 1
odd_words words has =
    let is = has.1 in
    omega (arith, ap length is.words_are, even_words is.options is.settings is.set)

-- an option cannot be added
no_option : (words : List (List ℕ)) (place : ℕ) (option value : List ℕ) (before : OptionValues) → place % 2 ≡ 1
    → drop place words ≡ option ∷ value ∷ drop (place + 2) words
    → AreRead (drop (place + 2) words) before → Refuses before option value → HasCommand words → ⊥
no_option words place option value before odd e read refuses has =
    let is = has.1 in
    let last = last_from (place / 2) (place - 1) is.options is.settings (omega arith) is.set is.once in
    let next : suc (place - 1) ≡ place = omega arith in
    let behind : drop (place - 1) is.options ≡ drop place words =
    sym (ap (λ (w : List (List ℕ)). drop (suc (place - 1)) w) is.words_are) ∙ ap (λ (n : ℕ). drop n words) next in
    let found : AreLast (option ∷ value ∷ drop (place + 2) words) = subst AreLast (behind ∙ e) last in
    refused_last option value (drop (place + 2) words) before read refuses found.settings found.set found.once

-- the words behind the mode are all read
module _ (words : List (List ℕ)) (first : List ℕ) (mode : Mode) (state : OptionValues)
    (e : words ≡ first ∷ drop 1 words) (is : first ≡ mode_word mode) (read : AreRead (drop 1 words) state) where
  all_read : Suits mode state → (workers seed best size : ℕ) → workers ≡ unwrap_or state.workers 1
      → seed ≡ unwrap_or state.seed 0 → best ≡ unwrap_or state.best 0 → size ≡ unwrap_or state.size 0
      → IsCommand words (record {
        mode = mode;
        algebra = state.algebra;
        second = state.second;
        workers = workers;
        seed = seed;
        schedule = unwrap_or state.schedule [];
        best = best;
        size = size;
      })
  all_read suits workers seed best size w s b z =
      let schedule_set_is : unwrap_or state.schedule [] ≡ schedule_set read.settings =
      ap (λ (o : Option (List ℕ)). unwrap_or o []) read.schedule ∙ schedule_is read.settings in
      let best_set_is : best ≡ best_set read.settings =
      b ∙ ap (λ (o : Option ℕ). unwrap_or o 0) read.best ∙ best_is read.settings in
      let size_set_is : size ≡ size_set read.settings =
      z ∙ ap (λ (o : Option ℕ). unwrap_or o 0) read.size ∙ size_is read.settings in
      record {
        options = drop 1 words;
        settings = read.settings;
        words_are = e ∙ ap (λ (first : List ℕ). first ∷ drop 1 words) is;
        set = read.set;
        once = read.once;
        allowed = suited_allowed (drop 1 words) state read mode suits;
        algebra_is = read.algebra;
        second_is = read.second;
        workers_are = w ∙ ap (λ (o : Option ℕ). unwrap_or o 1) read.workers ∙ workers_is read.settings;
        seed_is = s ∙ ap (λ (o : Option ℕ). unwrap_or o 0) read.seed ∙ seed_is read.settings;
        schedule_is = schedule_set_is;
        best_is = best_set_is;
        size_is = size_set_is;
        paired = λ lex. suited_second (drop 1 words) state read mode suits lex;
        scheduled = λ replay. subst (λ (machines : List ℕ). 1 ≤ length machines) (sym schedule_set_is)
            (suited_scheduled (drop 1 words) state read mode suits replay);
        listed = λ kbest. subst (λ (n : ℕ). 1 ≤ n) (sym best_set_is)
            (suited_listed (drop 1 words) state read mode suits kbest);
        sized = λ big. subst (λ (n : ℕ). 1 ≤ n) (sym size_set_is)
            (suited_sized (drop 1 words) state read mode suits big);
      }

  -- no command has options that do not suit its mode
  unsuited : (Suits mode state → ⊥) → HasCommand words → ⊥
  unsuited refuses (command, h) =
      let heads : mode_word command.mode ∷ h.options ≡ first ∷ drop 1 words = sym h.words_are ∙ e in
      let word = ap (λ (ws : List (List ℕ)). slice_index_or ws 0 []) heads ∙ is in
      let same_mode : command.mode ≡ mode = mode_same command.mode mode word in
      let options : h.options ≡ drop 1 words = ap (λ (ws : List (List ℕ)). drop 1 ws) heads in
      let set = subst (λ (ws : List (List ℕ)). AreSettings ws h.settings) options h.set in
      let same = settings_unique (drop 1 words) h.settings read.settings set read.set in
      let allowed = subst (λ m. All (Allows m) read.settings) same_mode
      (subst (λ (ss : List Setting). All (Allows command.mode) ss) same h.allowed) in
      let second_by = h.second_is ∙ ap second_set same ∙ sym read.second in
      let scheduled_by = h.schedule_is ∙ ap schedule_set same in
      let listed_by = h.best_is ∙ ap best_set same in
      let sized_by = h.size_is ∙ ap size_set same in
      refuses (suited (drop 1 words) state read mode allowed
      (λ lex. subst (λ o. IsSome o) second_by (h.paired (same_mode ∙ lex)))
      (λ replay. subst (λ (machines : List ℕ). 1 ≤ length machines) scheduled_by (h.scheduled (same_mode ∙ replay)))
      (λ kbest. subst (λ (n : ℕ). 1 ≤ n) listed_by (h.listed (same_mode ∙ kbest)))
      (λ big. subst (λ (n : ℕ). 1 ≤ n) sized_by (h.sized (same_mode ∙ big))))

module _ {A : Type 0} (f : A → List ℕ) where
  -- the word at an index, and the words behind it
  drop_one : (words : List A) (i : ℕ) (word : A) → i < length words → word ≡ get_or words i word
      → drop i (map f words) ≡ f word ∷ drop (i + 1) (map f words)
  drop_one [] i word within is = absurd (omega arith)
  drop_one (x ∷ xs) zero word within is = ap (λ (y : List ℕ). y ∷ map f xs) (ap f (sym is))
  drop_one (x ∷ xs) (suc i) word within is =
      let next : suc i + 1 ≡ suc (i + 1) = omega arith in
      drop_one xs i word (omega arith) is ∙ ap (λ (n : ℕ). f word ∷ drop n (f x ∷ map f xs)) (sym next)

  two_at : (words : List A) (i : ℕ) (a b : A) → i + 1 < length words → a ≡ get_or words i a
      → b ≡ get_or words (i + 1) b → drop i (map f words) ≡ f a ∷ f b ∷ drop (i + 2) (map f words)
  two_at words i a b within is_a is_b =
      let next : i + 1 + 1 ≡ i + 2 = omega arith in
      drop_one words i a (omega arith) is_a
      ∙ ap (λ (l : List (List ℕ)). f a ∷ l) (drop_one words (i + 1) b within is_b)
      ∙ ap (λ (n : ℕ). f a ∷ f b ∷ drop n (map f words)) next

  module _ (words : List A) (place : ℕ) (a b : A) (option value : List ℕ) (before : OptionValues) (more : 1 < place)
      (odd : place % 2 ≡ 1) (within : place ≤ length words) (is_a : a ≡ get_or words (place - 2) a)
      (is_b : b ≡ get_or words (place - 2 + 1) b) (is_option : option ≡ f a) (is_value : value ≡ f b)
      (read : AreRead (drop place (map f words)) before) where
    option_and_value : drop (place - 2) (map f words) ≡ option ∷ value ∷ drop (place - 2 + 2) (map f words)
    option_and_value =
        two_at words (place - 2) a b (omega arith) is_a is_b
        ∙ sym (λ i. is_option i ∷ is_value i ∷ drop (place - 2 + 2) (map f words))

    read_behind : AreRead (drop (place - 2 + 2) (map f words)) before
    read_behind =
        let B : ℕ → Type 0 = λ place. AreRead (drop place (map f words)) before in
        let back : place ≡ place - 2 + 2 = omega arith in
        subst B back read

    -- one more option is read
    pub turn : (after : OptionValues) → ((setting : Setting) × Adds before option value setting after)
        → AreRead (drop (place - 2) (map f words)) after
    turn after adds =
        let W : List (List ℕ) → Type 0 = λ words. AreRead words after in
        let rest = drop (place - 2 + 2) (map f words) in
        subst W (sym option_and_value)
        (read_more option value rest before after adds.0 adds.1 read_behind)

    -- an option is refused
    pub stop : Refuses before option value → HasCommand (map f words) → ⊥
    stop refuses has =
        no_option (map f words) (place - 2) option value before (omega arith) option_and_value read_behind refuses has

  -- all options are read
  module _ (words : List A) (first : A) (text : List ℕ) (mode : Mode) (place : ℕ) (state : OptionValues)
      (some : 0 < length words) (is : first ≡ get_or words 0 first) (is_text : text ≡ f first)
      (is_mode : text ≡ mode_word mode) (odd : place % 2 ≡ 1) (last : place ≤ 1)
      (read : AreRead (drop place (map f words)) state) where
    read_from_one : AreRead (drop 1 (map f words)) state
    read_from_one =
        let B : ℕ → Type 0 = λ place. AreRead (drop place (map f words)) state in
        let one : place ≡ 1 = omega arith in
        subst B one read

    pub finish : Suits mode state → (workers seed best size : ℕ) → workers ≡ unwrap_or state.workers 1
        → seed ≡ unwrap_or state.seed 0 → best ≡ unwrap_or state.best 0 → size ≡ unwrap_or state.size 0
        → IsCommand (map f words) (record {
          mode = mode;
          algebra = state.algebra;
          second = state.second;
          workers = workers;
          seed = seed;
          schedule = unwrap_or state.schedule [];
          best = best;
          size = size;
        })
    finish =
        all_read (map f words) (f first) mode state (drop_one words 0 first some is) (sym is_text ∙ is_mode)
        read_from_one

    -- names that are set are names
    pub is_named : IfSome state.algebra (λ name. IsTrue (is_name name))
    is_named =
        subst (λ o. IfSome o (λ name. IsTrue (is_name name))) (sym read_from_one.algebra)
        (set_name (drop 1 (map f words)) read_from_one.settings read_from_one.set)

    pub is_second_named : IfSome state.second (λ name. IsTrue (is_name name))
    is_second_named =
        subst (λ o. IfSome o (λ name. IsTrue (is_name name))) (sym read_from_one.second)
        (set_second (drop 1 (map f words)) read_from_one.settings read_from_one.set)

    -- what was read does not suit the mode
    pub refuse : (Suits mode state → ⊥) → HasCommand (map f words) → ⊥
    refuse =
        unsuited (map f words) (f first) mode state (drop_one words 0 first some is) (sym is_text ∙ is_mode)
        read_from_one
