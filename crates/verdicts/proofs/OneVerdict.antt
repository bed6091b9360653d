-- A command line and bytes have one verdict.
use Rattle.std.proofs.Common.{◌≡◌, ℕ, zero, suc, ◌+◌, ◌^◌, ◌<◌, ◌≤◌, ◌⊎◌, ◌↔◌, inl, inr, Bool, true, false, not, ◌&&◌, IsTrue, IsNone, nat_eq, Option, None, Some, List, [], ◌∷◌, ◌++◌, length, map, drop, get_or, slice_index_or, refl, sym, ap, ap₂, subst, ◌∙◌, arith}
use Rattle.std.specs.List.{All, list_any}
use Rattle.std.proofs.lemmas.List.Elements.{All-head, All-tail}
use Rattle.std.proofs.lemmas.List.{get_or-map, length-map}
use Rattle.std.proofs.lemmas.List.Folds.{list_any_at}
use Rattle.std.proofs.lemmas.Bool.{eq-eqb}
use lib.Pointwise.{pointwise}
use Rattle.adp_model.specs.declared.grammar.Algebra.{Algebra}
use Rattle.adp_model.specs.declared.grammar.Goal.TheVariants.{Least}
use Rattle.adp_model.specs.declared.grammar.Grammar.{Grammar}
use Rattle.adp_model.specs.declared.job.Job.{Job}
use Rattle.adp_model.specs.declared.fault.TextFault.{TextFault}
use Rattle.adp_model.specs.declared.fault.GrammarFault.{GrammarFault}
use Rattle.adp_model.specs.declared.fault.LimitFault.{LimitFault}
use Rattle.adp_model.specs.Parts.{sign_at}
use Rattle.adp_model.specs.WellFormed.{are_distinct, is_well_formed, counts_fit, names_differ, parts_fit}
use Rattle.verdicts.specs.declared.command.Mode.{Mode}
use Rattle.verdicts.specs.declared.command.Mode.TheVariants.{Best, Serial, Wins, Replay, Lex, Cert, Verify, KBest, Big}
use Rattle.verdicts.specs.Command.{mode_word, Setting, Algebra as ByAlgebra, Then, Workers, Seed, Schedule, Trees, Size, option_word, IsValue, AreSettings, Allows, algebra_set, second_set, workers_set, seed_set, schedule_set, best_set, size_set, greatest_size, most_trees, Command, IsCommand, HasCommand, ReadsJob, ShowsWins, AsksForJob}
use Rattle.nested_jobs.specs.NestedJob.{IsNestedFault, IsNestedText, hidden_in}
use Rattle.adp_model.specs.Lengths.{IsProductive}
use Rattle.adp_model.specs.Loops.{IsOnLoop}
use Rattle.adp_model.specs.GrammarSigns.{HasMonotoneTerm}
use Rattle.adp_model.specs.GrammarFaults.{rule_name, IsNamed, IsFirstFaulty, IsUnproductive, IsOffLoops, HasOtherTerm, HasPossibleAlternatives, HasImpossibleAlternative, IsFaultless, IsGrammarFault, NoAlgebra, Unproductive, Loop, NotMonotone, Impossible}
use Rattle.lex_product.specs.PairFaults.{BothAddScores, HasOtherFactor, IsPairFault, NoAlgebra as NoSecond, OtherFactor}
use Rattle.lex_product.specs.PairLimits.{IsCheckedPair, IsPairAdmissible, IsPairLimitFault, KeepsPairLimits}
use Rattle.lex_product.specs.PairReport.{IsPairReport}
use Rattle.verdicts.specs.SecondAlgebra.{IsAdmissibleWith, IsFaultWith, IsLimitWith, IsSecond, KeepsLimitsWith, MakesPairWith}
use Rattle.verdicts.specs.WordLimits.{IsFirstLimit, IsLimitIn, KeepLimits, KeepsLimitsIn}
use Rattle.first_trees.specs.ListLimits.{IsListLimitFault, KeepsListLimits}
use Rattle.first_trees.specs.ListReport.{IsListReport}
use Rattle.adp_model.specs.Checks.{IsChecked}
use Rattle.verdicts.specs.CheckableJobs.{AreCheckable}
use Rattle.adp_model.specs.PosedProblem.{PosedProblem}
use Rattle.verdicts.specs.Verdict.{AsksFor, AsksUnder, asked_name, greatest_length, AreReports, Verdict, Usage, TooLong, Text, Grammar as OfGrammar, Limit, Rejected, Reports, AskForReports, AskForBigReport, AreOfWins, AsksWithin, IsLimit, IsReports, IsJobVerdict}
use Rattle.std.specs.Cmp.{first_so, second_so}
use Rattle.adp_model.specs.LimitFaults.{IsLimitFault}
use Rattle.adp_model.specs.ProblemFields.{KeepsLimits}
use Rattle.adp_model.specs.Report.{IsReport}
use Rattle.adp_model.specs.BigReport.{IsBigReport}
use Rattle.verdicts.specs.Verdict.{IsReportWith}
use Rattle.table_certificate.specs.ScoreReports.{IsScoreReport}
use Rattle.table_certificate.specs.WrittenCertificate.{IsCertificate}
use Rattle.verdicts.specs.Certificates.{before_block, behind_reports}
use Rattle.verdicts.specs.WordReport.{HidesAlternatives}

-- ---- what is known of texts, reports and limits

pub record TextLaws : Type 0 where
  pub one_job : (bytes : List ℕ) (job other : Job) → IsNestedText bytes job → IsNestedText bytes other → job ≡ other
  pub one_fault : (bytes : List ℕ) (fault other : TextFault) → IsNestedFault bytes fault → IsNestedFault bytes other
      → fault ≡ other
  pub not_both : (bytes : List ℕ) (job : Job) (fault : TextFault) → IsNestedText bytes job → IsNestedFault bytes fault
      → ⊥

pub record ModelLaws : Type 0 where
  pub texts : TextLaws
  pub hides : (bytes : List ℕ) (job : Job) → IsNestedText bytes job
      → HidesAlternatives (hidden_in bytes) job.grammar
  pub plain : (p : PosedProblem) (least : List ℕ) (greatest : List (Option ℕ)) (ranks : List ℕ)
      → IsChecked p.grammar p.algebra least greatest ranks → (hidden : Option ℕ) → HidesAlternatives hidden p.grammar
      → (mode : Mode) (command : Command) (number : ℕ) (wins report : List ℕ)
      → IsReportWith mode command None number p wins report ↔ IsReportWith mode command hidden number p wins report
  pub one_report : (number : ℕ) (p : PosedProblem) (a b : List ℕ) → IsTrue (is_well_formed p.grammar)
      → IsReport number p a → IsReport number p b → a ≡ b
  pub one_made : (seed size : ℕ) (a b : List ℕ) → IsBigReport seed size a → IsBigReport seed size b → a ≡ b
  pub kept : (grammar : Grammar) (algebra : ℕ) (least : List ℕ) (greatest : List (Option ℕ)) (ranks : List ℕ)
      → IsChecked grammar algebra least greatest ranks → (len : ℕ) (fault : LimitFault)
      → KeepsLimits grammar algebra len → IsLimitFault grammar algebra len fault → ⊥
  pub one_limit : (grammar : Grammar) (algebra : ℕ) (least : List ℕ) (greatest : List (Option ℕ)) (ranks : List ℕ)
      → IsChecked grammar algebra least greatest ranks → (len : ℕ) (a b : LimitFault)
      → IsLimitFault grammar algebra len a → IsLimitFault grammar algebra len b → a ≡ b
  pub pair_kept : (grammar : Grammar) (first second : ℕ) (least : List ℕ) (greatest : List (Option ℕ)) (ranks : List ℕ)
      → IsCheckedPair grammar first second least greatest ranks → (len : ℕ) (fault : LimitFault)
      → KeepsPairLimits grammar first second len → IsPairLimitFault grammar first second len fault → ⊥
  pub one_pair_limit : (grammar : Grammar) (first second : ℕ) (least : List ℕ) (greatest : List (Option ℕ))
      (ranks : List ℕ) → IsCheckedPair grammar first second least greatest ranks → (len : ℕ) (a b : LimitFault)
      → IsPairLimitFault grammar first second len a → IsPairLimitFault grammar first second len b → a ≡ b
  pub one_pair_report : (number : ℕ) (p : PosedProblem) (second : ℕ) → IsPairAdmissible p second → (a b : List ℕ)
      → IsPairReport number p second a → IsPairReport number p second b → a ≡ b
  pub one_block : (number : ℕ) (p : PosedProblem) (a b : List ℕ) → IsCertificate number p a → IsCertificate number p b
      → a ≡ b
  pub one_score : (number : ℕ) (p : PosedProblem) (a b : List ℕ) → IsScoreReport number p a → IsScoreReport number p b
      → a ≡ b
  pub one_list : (number : ℕ) (p : PosedProblem) (k : ℕ) (a b : List ℕ) → IsListReport number p k a
      → IsListReport number p k b → a ≡ b
  pub lists_kept : (grammar : Grammar) (algebra : ℕ) (least : List ℕ) (greatest : List (Option ℕ)) (ranks : List ℕ)
      → IsChecked grammar algebra least greatest ranks → (len k : ℕ) (fault : LimitFault)
      → KeepsListLimits grammar len k → IsListLimitFault grammar len k fault → ⊥
  pub one_list_limit : (grammar : Grammar) (algebra : ℕ) (least : List ℕ) (greatest : List (Option ℕ))
      (ranks : List ℕ) → IsChecked grammar algebra least greatest ranks → (len k : ℕ) (a b : LimitFault)
      → IsListLimitFault grammar len k a → IsListLimitFault grammar len k b → a ≡ b
  pub some_listed : (grammar : Grammar) (len k : ℕ) (fault : LimitFault) → IsListLimitFault grammar len k fault → 1 ≤ k

-- ---- the command

-- the words of two options differ at their third letter or at their fourth
setting_unique : (value : List ℕ) (a b : Setting) → option_word a ≡ option_word b → IsValue value a → IsValue value b → a ≡ b
setting_unique value (ByAlgebra m) (ByAlgebra n) e v w = ap ByAlgebra (v.1 ∙ sym w.1)
setting_unique value (Then m) (Then n) e v w = ap Then (v.1 ∙ sym w.1)
setting_unique value (Workers m) (Workers n) e v w = ap Workers (v.0.1 ∙ sym w.0.1)
setting_unique value (Seed m) (Seed n) e v w = ap Seed (v.0.1 ∙ sym w.0.1)
setting_unique value (Schedule m) (Schedule n) e v w = ap Schedule (v.1 ∙ sym w.1)
setting_unique value (Trees m) (Trees n) e v w = ap Trees (v.0.1 ∙ sym w.0.1)
setting_unique value (Size m) (Size n) e v w = ap Size (v.0.1 ∙ sym w.0.1)
setting_unique value a b e v w =
    absurd (omega (arith, ap (λ (w : List ℕ). get_or w 2 0) e, ap (λ (w : List ℕ). get_or w 3 0) e))

settings_unique : (words : List (List ℕ)) (a b : List Setting) → AreSettings words a → AreSettings words b → a ≡ b
settings_unique [] [] [] h k = refl
settings_unique [] [] (t ∷ b) h k = absurd k
settings_unique [] (s ∷ a) b h k = absurd h
settings_unique (option ∷ []) [] b h k = absurd h
settings_unique (option ∷ []) (s ∷ a) b h k = absurd h
settings_unique (option ∷ value ∷ words) [] b h k = absurd h
settings_unique (option ∷ value ∷ words) (s ∷ a) [] h k = absurd k
settings_unique (option ∷ value ∷ words) (s ∷ a) (t ∷ b) h k =
    ap₂ (λ x xs. x ∷ xs) (setting_unique value s t (sym h.0 ∙ k.0) h.1 k.1) (settings_unique words a b h.2 k.2)

-- the words of two modes differ at their first letter or at their third
mode_unique : (a b : Mode) → mode_word a ≡ mode_word b → a ≡ b
mode_unique Best Best e = refl
mode_unique Serial Serial e = refl
mode_unique Wins Wins e = refl
mode_unique Replay Replay e = refl
mode_unique Lex Lex e = refl
mode_unique Cert Cert e = refl
mode_unique Verify Verify e = refl
mode_unique KBest KBest e = refl
mode_unique Big Big e = refl
mode_unique a b e =
    absurd (omega (arith, ap (λ (w : List ℕ). get_or w 0 0) e, ap (λ (w : List ℕ). get_or w 2 0) e))

pub command_unique : (words : List (List ℕ)) (a b : Command) → IsCommand words a → IsCommand words b → a ≡ b
command_unique words a b h k =
    let heads : mode_word a.mode ∷ h.options ≡ mode_word b.mode ∷ k.options = sym h.words_are ∙ k.words_are in
    let mode = mode_unique a.mode b.mode (ap (λ (ws : List (List ℕ)). slice_index_or ws 0 []) heads) in
    let options : h.options ≡ k.options = ap (λ (ws : List (List ℕ)). drop 1 ws) heads in
    let settings = settings_unique h.options h.settings k.settings h.set (subst (λ o. AreSettings o k.settings) (sym options) k.set) in
    let algebra = h.algebra_is ∙ ap algebra_set settings ∙ sym k.algebra_is in
    let second = h.second_is ∙ ap second_set settings ∙ sym k.second_is in
    let workers = h.workers_are ∙ ap workers_set settings ∙ sym k.workers_are in
    let seed = h.seed_is ∙ ap seed_set settings ∙ sym k.seed_is in
    let schedule = h.schedule_is ∙ ap schedule_set settings ∙ sym k.schedule_is in
    let best = h.best_is ∙ ap best_set settings ∙ sym k.best_is in
    let size = h.size_is ∙ ap size_set settings ∙ sym k.size_is in
    λ i. record {
      mode = mode i;
      algebra = algebra i;
      second = second i;
      workers = workers i;
      seed = seed i;
      schedule = schedule i;
      best = best i;
      size = size i;
    }

-- the numbers of settings are in range
record AreInRange (settings : List Setting) : Type 0 where
  some_workers : 1 ≤ workers_set settings
  few_workers : workers_set settings ≤ 32
  seed : seed_set settings < 2 ^ 64
  trees : best_set settings ≤ most_trees
  size : size_set settings ≤ greatest_size

numbers_in_range : (words : List (List ℕ)) (settings : List Setting) → AreSettings words settings → AreInRange settings
numbers_in_range words [] h =
    record { some_workers = omega arith; few_workers = omega arith; seed = omega arith; trees = omega arith; size = omega arith }
numbers_in_range [] (setting ∷ settings) h = absurd h
numbers_in_range (option ∷ []) (setting ∷ settings) h = absurd h
numbers_in_range (option ∷ value ∷ words) (ByAlgebra named ∷ settings) h =
    let rest = numbers_in_range words settings h.2 in
    record { some_workers = rest.some_workers; few_workers = rest.few_workers; seed = rest.seed; trees = rest.trees; size = rest.size }
numbers_in_range (option ∷ value ∷ words) (Then named ∷ settings) h =
    let rest = numbers_in_range words settings h.2 in
    record { some_workers = rest.some_workers; few_workers = rest.few_workers; seed = rest.seed; trees = rest.trees; size = rest.size }
numbers_in_range (option ∷ value ∷ words) (Workers workers ∷ settings) h =
    let rest = numbers_in_range words settings h.2 in
    record { some_workers = h.1.1; few_workers = h.1.2; seed = rest.seed; trees = rest.trees; size = rest.size }
numbers_in_range (option ∷ value ∷ words) (Seed seed ∷ settings) h =
    let rest = numbers_in_range words settings h.2 in
    record { some_workers = rest.some_workers; few_workers = rest.few_workers; seed = h.1.1; trees = rest.trees; size = rest.size }
numbers_in_range (option ∷ value ∷ words) (Schedule named ∷ settings) h =
    let rest = numbers_in_range words settings h.2 in
    record { some_workers = rest.some_workers; few_workers = rest.few_workers; seed = rest.seed; trees = rest.trees; size = rest.size }
numbers_in_range (option ∷ value ∷ words) (Trees best ∷ settings) h =
    let rest = numbers_in_range words settings h.2 in
    record { some_workers = rest.some_workers; few_workers = rest.few_workers; seed = rest.seed; trees = h.1.2; size = rest.size }
numbers_in_range (option ∷ value ∷ words) (Size size ∷ settings) h =
    let rest = numbers_in_range words settings h.2 in
    record { some_workers = rest.some_workers; few_workers = rest.few_workers; seed = rest.seed; trees = rest.trees; size = h.1.2 }

module _ (words : List (List ℕ)) (command : Command) (is : IsCommand words command) where
  range : AreInRange is.settings
  range = numbers_in_range is.options is.settings is.set

  pub some_workers : 1 ≤ command.workers
  some_workers = subst (λ n. 1 ≤ n) (sym is.workers_are) range.some_workers

  pub few_workers : command.workers ≤ 32
  few_workers = subst (λ n. n ≤ 32) (sym is.workers_are) range.few_workers

  pub seed_in_range : command.seed < 2 ^ 64
  seed_in_range = subst (λ n. n < 2 ^ 64) (sym is.seed_is) range.seed

  pub trees_in_range : command.best ≤ most_trees
  trees_in_range = subst (λ n. n ≤ most_trees) (sym is.best_is) range.trees

  pub size_in_range : command.size ≤ greatest_size
  size_in_range = subst (λ n. n ≤ greatest_size) (sym is.size_is) range.size

-- a second algebra is named in one mode alone
never_second : (mode : Mode) → (mode ≡ Lex → ⊥) → (settings : List Setting) → All (Allows mode) settings
    → IsNone (second_set settings)
never_second mode other [] all = refl
never_second mode other (Then name ∷ settings) all = absurd (other (All-head (Allows mode) (Then name) settings all))
never_second mode other (setting ∷ settings) all =
    never_second mode other settings (All-tail (Allows mode) setting settings all)

pub no_second : (words : List (List ℕ)) (command : Command) → IsCommand words command → (command.mode ≡ Lex → ⊥)
    → IsNone command.second
no_second words command is other =
    subst (λ (o : Option (List ℕ)). IsNone o) (sym is.second_is)
    (never_second command.mode other is.settings is.allowed)

-- and first trees are asked for in another one alone
never_trees : (mode : Mode) → (mode ≡ KBest → ⊥) → (settings : List Setting) → All (Allows mode) settings
    → best_set settings ≡ 0
never_trees mode other [] all = refl
never_trees mode other (Trees best ∷ settings) all =
    absurd (other (All-head (Allows mode) (Trees best) settings all))
never_trees mode other (setting ∷ settings) all =
    never_trees mode other settings (All-tail (Allows mode) setting settings all)

pub no_trees : (words : List (List ℕ)) (command : Command) → IsCommand words command → (command.mode ≡ KBest → ⊥)
    → command.best ≡ 0
no_trees words command is other = is.best_is ∙ never_trees command.mode other is.settings is.allowed

-- ---- the text

module _ (texts : TextLaws) where
  pub same_grammar : (bytes : List ℕ) (a b : Job) → IsNestedText bytes a → IsNestedText bytes b → a.grammar ≡ b.grammar
  same_grammar bytes a b h k = ap (λ (job : Job). job.grammar) (texts.one_job bytes a b h k)

  pub same_words : (bytes : List ℕ) (a b : Job) → IsNestedText bytes a → IsNestedText bytes b → a.words ≡ b.words
  same_words bytes a b h k = ap (λ (job : Job). job.words) (texts.one_job bytes a b h k)

-- ---- the algebra

pointwise-same : (name : List ℕ) → pointwise nat_eq name name ≡ true
pointwise-same [] = refl
pointwise-same (c ∷ name) = ap₂ (λ a b. a && b) (eq-eqb c c refl) (pointwise-same name)

not_first : (b c : Bool) → b ≡ true → (not b && c) ≡ true → ⊥
not_first true c e h = absurd cc
not_first false c e h = absurd cc

distinct_places : (names : List (List ℕ)) (i j : ℕ) → are_distinct names ≡ true → i < length names → j < length names → slice_index_or names i [] ≡ slice_index_or names j [] → i ≡ j
distinct_places [] i j distinct low high same = absurd (omega arith)
distinct_places (name ∷ names) zero zero distinct low high same = refl
distinct_places (name ∷ names) zero (suc j) distinct low high same =
    absurd (not_first (list_any (pointwise nat_eq name) names) (are_distinct names) (list_any_at (pointwise nat_eq name) names j [] (omega arith) (subst (λ n. pointwise nat_eq name n ≡ true) same (pointwise-same name))) distinct)
distinct_places (name ∷ names) (suc i) zero distinct low high same =
    absurd (not_first (list_any (pointwise nat_eq name) names) (are_distinct names) (list_any_at (pointwise nat_eq name) names i [] (omega arith) (subst (λ n. pointwise nat_eq name n ≡ true) (sym same) (pointwise-same name))) distinct)
distinct_places (name ∷ names) (suc i) (suc j) distinct low high same = ap suc (distinct_places names i j (second_so (not (list_any (pointwise nat_eq name) names)) (are_distinct names) distinct) (omega arith) (omega arith) same)

algebras_differ : (grammar : Grammar) → IsTrue (is_well_formed grammar) → are_distinct (map (λ (algebra : Algebra). algebra.name) grammar.algebras) ≡ true
algebras_differ grammar formed =
    let differ = second_so (counts_fit grammar) (names_differ grammar) (first_so (counts_fit grammar && names_differ grammar) (parts_fit grammar) formed) in
    second_so _ _ (first_so _ _ differ)

named_unique : (grammar : Grammar) → IsTrue (is_well_formed grammar) → (name : List ℕ) (a b : ℕ) → IsNamed grammar name a → IsNamed grammar name b → a ≡ b
named_unique grammar formed name a b h k =
    distinct_places (map (λ (algebra : Algebra). algebra.name) grammar.algebras) a b (algebras_differ grammar formed)
    (omega (arith, length-map grammar.algebras (λ (algebra : Algebra). algebra.name), h.in_range)) (omega (arith, length-map grammar.algebras (λ (algebra : Algebra). algebra.name), k.in_range))
    (get_or-map (λ (algebra : Algebra). algebra.name) grammar.algebras a (record { name = []; goal = Least; terms = [] }) [] h.in_range ∙ h.name_is ∙ sym k.name_is
    ∙ sym (get_or-map (λ (algebra : Algebra). algebra.name) grammar.algebras b (record { name = []; goal = Least; terms = [] }) [] k.in_range))

-- ---- the grammar

order : (a b : ℕ) → (a < b) ⊎ ((a ≡ b) ⊎ (b < a))
order a b = grind arith

first_unique : (IsFaulty IsSound : ℕ → Type 0) (count a b : ℕ) → ((n : ℕ) → IsFaulty n → IsSound n → ⊥) → IsFirstFaulty IsFaulty IsSound count a → IsFirstFaulty IsFaulty IsSound count b → a ≡ b
first_unique IsFaulty IsSound count a b apart h k = by (order a b)
  where
    by : (a < b) ⊎ ((a ≡ b) ⊎ (b < a)) → a ≡ b
    by (inl less) = absurd (apart a h.faulty (k.before a less))
    by (inr (inl same)) = same
    by (inr (inr more)) = absurd (apart b k.faulty (h.before b more))

module _ (grammar : Grammar) (formed : IsTrue (is_well_formed grammar)) (name : List ℕ) where
  abbrev of_rule : ℕ → ℕ → GrammarFault
  of_rule kind rule = record { kind = kind; name = rule_name grammar rule }

  abbrev of_sign : ℕ → GrammarFault
  of_sign sign = record { kind = 4; name = (sign_at grammar sign).name }

  grammar_fault_unique : (a b : GrammarFault) → IsGrammarFault grammar name a → IsGrammarFault grammar name b → a ≡ b
  grammar_fault_unique a b (NoAlgebra none) (NoAlgebra none') = refl
  grammar_fault_unique a b (NoAlgebra none) (Unproductive algebra rule named first) = absurd (none algebra named)
  grammar_fault_unique a b (NoAlgebra none) (Loop algebra rule named productive first) = absurd (none algebra named)
  grammar_fault_unique a b (NoAlgebra none) (NotMonotone algebra sign named productive off first) = absurd (none algebra named)
  grammar_fault_unique a b (NoAlgebra none) (Impossible algebra rule named productive off monotone first) = absurd (none algebra named)
  grammar_fault_unique a b (Unproductive algebra rule named first) (NoAlgebra none) = absurd (none algebra named)
  grammar_fault_unique a b (Unproductive algebra rule named first) (Unproductive algebra' rule' named' first') =
      ap (of_rule 2) (first_unique (IsUnproductive grammar) (IsProductive grammar) (length grammar.rules) rule rule' (λ n faulty sound. faulty sound) first first')
  grammar_fault_unique a b (Unproductive algebra rule named first) (Loop algebra' rule' named' productive first') = absurd (first.faulty (productive rule first.in_range))
  grammar_fault_unique a b (Unproductive algebra rule named first) (NotMonotone algebra' sign named' productive off first') = absurd (first.faulty (productive rule first.in_range))
  grammar_fault_unique a b (Unproductive algebra rule named first) (Impossible algebra' rule' named' productive off monotone first') = absurd (first.faulty (productive rule first.in_range))
  grammar_fault_unique a b (Loop algebra rule named productive first) (NoAlgebra none) = absurd (none algebra named)
  grammar_fault_unique a b (Loop algebra rule named productive first) (Unproductive algebra' rule' named' first') = absurd (first'.faulty (productive rule' first'.in_range))
  grammar_fault_unique a b (Loop algebra rule named productive first) (Loop algebra' rule' named' productive' first') =
      ap (of_rule 3) (first_unique (IsOnLoop grammar) (IsOffLoops grammar) (length grammar.rules) rule rule' (λ n faulty sound. sound faulty) first first')
  grammar_fault_unique a b (Loop algebra rule named productive first) (NotMonotone algebra' sign named' productive' off first') = absurd (off rule first.in_range first.faulty)
  grammar_fault_unique a b (Loop algebra rule named productive first) (Impossible algebra' rule' named' productive' off monotone first') = absurd (off rule first.in_range first.faulty)
  grammar_fault_unique a b (NotMonotone algebra sign named productive off first) (NoAlgebra none) = absurd (none algebra named)
  grammar_fault_unique a b (NotMonotone algebra sign named productive off first) (Unproductive algebra' rule' named' first') = absurd (first'.faulty (productive rule' first'.in_range))
  grammar_fault_unique a b (NotMonotone algebra sign named productive off first) (Loop algebra' rule' named' productive' first') = absurd (off rule' first'.in_range first'.faulty)
  grammar_fault_unique a b (NotMonotone algebra sign named productive off first) (NotMonotone algebra' sign' named' productive' off' first') =
      ap of_sign (first_unique (HasOtherTerm grammar algebra) (HasMonotoneTerm grammar algebra) (length grammar.signs) sign sign' (λ n faulty sound. faulty sound) first
      (subst (λ n. IsFirstFaulty (HasOtherTerm grammar n) (HasMonotoneTerm grammar n) (length grammar.signs) sign') (named_unique grammar formed name algebra' algebra named' named) first'))
  grammar_fault_unique a b (NotMonotone algebra sign named productive off first) (Impossible algebra' rule' named' productive' off' monotone first') =
      absurd (subst (λ n. HasOtherTerm grammar n sign) (named_unique grammar formed name algebra algebra' named named') first.faulty (monotone sign first.in_range))
  grammar_fault_unique a b (Impossible algebra rule named productive off monotone first) (NoAlgebra none) = absurd (none algebra named)
  grammar_fault_unique a b (Impossible algebra rule named productive off monotone first) (Unproductive algebra' rule' named' first') = absurd (first'.faulty (productive rule' first'.in_range))
  grammar_fault_unique a b (Impossible algebra rule named productive off monotone first) (Loop algebra' rule' named' productive' first') = absurd (off rule' first'.in_range first'.faulty)
  grammar_fault_unique a b (Impossible algebra rule named productive off monotone first) (NotMonotone algebra' sign named' productive' off' first') =
      absurd (subst (λ n. HasOtherTerm grammar n sign) (named_unique grammar formed name algebra' algebra named' named) first'.faulty (monotone sign first'.in_range))
  grammar_fault_unique a b (Impossible algebra rule named productive off monotone first) (Impossible algebra' rule' named' productive' off' monotone' first') =
      ap (of_rule 5) (first_unique (HasImpossibleAlternative grammar) (HasPossibleAlternatives grammar) (length grammar.rules) rule rule' (λ n faulty sound. faulty sound) first first')

  faultless_or_fault : (algebra : ℕ) (fault : GrammarFault) → IsFaultless grammar name algebra → IsGrammarFault grammar name fault → ⊥
  faultless_or_fault algebra fault sound (NoAlgebra none) = none algebra sound.named
  faultless_or_fault algebra fault sound (Unproductive other rule named first) = first.faulty (sound.productive rule first.in_range)
  faultless_or_fault algebra fault sound (Loop other rule named productive first) = sound.no_loop rule first.in_range first.faulty
  faultless_or_fault algebra fault sound (NotMonotone other sign named productive off first) =
      subst (λ n. HasOtherTerm grammar n sign) (named_unique grammar formed name other algebra named sound.named) first.faulty (sound.monotone sign first.in_range)
  faultless_or_fault algebra fault sound (Impossible other rule named productive off monotone first) = first.faulty (sound.possible rule first.in_range)

  -- ---- the second algebra

  pair_fault_unique : (first : ℕ) (a b : GrammarFault) → IsPairFault grammar first name a → IsPairFault grammar first name b → a ≡ b
  pair_fault_unique first a b (NoSecond none) (NoSecond none') = refl
  pair_fault_unique first a b (NoSecond none) (OtherFactor second sign named is) = absurd (none second named)
  pair_fault_unique first a b (OtherFactor second sign named is) (NoSecond none) = absurd (none second named)
  pair_fault_unique first a b (OtherFactor second sign named is) (OtherFactor second' sign' named' is') =
      ap (λ (n : ℕ). record { kind = 6; name = (sign_at grammar n).name })
      (first_unique (HasOtherFactor grammar first second) (BothAddScores grammar first second) (length grammar.signs) sign sign' (λ n faulty sound. faulty sound) is
      (subst (λ n. IsFirstFaulty (HasOtherFactor grammar first n) (BothAddScores grammar first n) (length grammar.signs) sign') (named_unique grammar formed name second' second named' named) is'))

module _ (grammar : Grammar) (formed : IsTrue (is_well_formed grammar)) (name : List ℕ) where
  fault_with_unique : (second : Option (List ℕ)) (a b : GrammarFault) → IsFaultWith second grammar name a
      → IsFaultWith second grammar name b → a ≡ b
  fault_with_unique None a b h k = grammar_fault_unique grammar formed name a b h k
  fault_with_unique (Some other) a b (inl h) (inl k) = grammar_fault_unique grammar formed name a b h k
  fault_with_unique (Some other) a b (inl h) (inr k) = absurd (faultless_or_fault grammar formed name k.0 a k.1 h)
  fault_with_unique (Some other) a b (inr h) (inl k) = absurd (faultless_or_fault grammar formed name h.0 b h.1 k)
  fault_with_unique (Some other) a b (inr h) (inr k) =
      pair_fault_unique grammar formed other h.0 a b h.2
      (subst (λ n. IsPairFault grammar n other b) (named_unique grammar formed name k.0 h.0 k.1.named h.1.named) k.2)

  pair_or_fault : (algebra second : ℕ) (other : List ℕ) (fault : GrammarFault) → IsNamed grammar other second
      → ((sign : ℕ) → sign < length grammar.signs → BothAddScores grammar algebra second sign)
      → IsPairFault grammar algebra other fault → ⊥
  pair_or_fault algebra second other fault named adding (NoSecond none) = none second named
  pair_or_fault algebra second other fault named adding (OtherFactor second' sign named' is) =
      subst (λ n. HasOtherFactor grammar algebra n sign) (named_unique grammar formed other second' second named' named)
      is.faulty (adding sign is.in_range)

  faultless_with_or_fault : (second : Option (List ℕ)) (algebra : ℕ) (fault : GrammarFault)
      → IsFaultless grammar name algebra → MakesPairWith second grammar algebra → IsFaultWith second grammar name fault → ⊥
  faultless_with_or_fault None algebra fault sound pair h = faultless_or_fault grammar formed name algebra fault sound h
  faultless_with_or_fault (Some other) algebra fault sound pair (inl h) =
      faultless_or_fault grammar formed name algebra fault sound h
  faultless_with_or_fault (Some other) algebra fault sound pair (inr h) =
      pair_or_fault algebra pair.0 other fault pair.1 pair.2
      (subst (λ n. IsPairFault grammar n other fault) (named_unique grammar formed name h.0 algebra h.1.named sound.named) h.2)

-- ---- the words

module _ (laws : ModelLaws) (grammar : Grammar) (algebra : ℕ) (least : List ℕ) (greatest : List (Option ℕ)) (ranks : List ℕ) (checked : IsChecked grammar algebra least greatest ranks) where
  -- the second algebra's number is that of its name, with which the algebra makes a pair
  checked_pair : (name : List ℕ) → MakesPairWith (Some name) grammar algebra → (second : ℕ) → IsNamed grammar name second
      → IsCheckedPair grammar algebra second least greatest ranks
  checked_pair name pair second named = record {
    checked = checked;
    known = named.in_range;
    adding = λ sign inside. subst (λ n. BothAddScores grammar algebra n sign)
        (named_unique grammar checked.well_formed name pair.0 second pair.1 named) (pair.2 sign inside);
  }

  kept_with : (second : Option (List ℕ)) → MakesPairWith second grammar algebra → (len : ℕ) (fault : LimitFault)
      → KeepsLimitsWith second grammar algebra len → IsLimitWith second grammar algebra len fault → ⊥
  kept_with None pair len fault kept is = laws.kept grammar algebra least greatest ranks checked len fault kept is
  kept_with (Some name) pair len fault (n, named, kept) (m, named', is) =
      laws.pair_kept grammar algebra n least greatest ranks (checked_pair name pair n named) len fault kept
      (subst (λ x. IsPairLimitFault grammar algebra x len fault)
      (named_unique grammar checked.well_formed name m n named' named) is)

  one_with : (second : Option (List ℕ)) → MakesPairWith second grammar algebra → (len : ℕ) (a b : LimitFault)
      → IsLimitWith second grammar algebra len a → IsLimitWith second grammar algebra len b → a ≡ b
  one_with None pair len a b h k = laws.one_limit grammar algebra least greatest ranks checked len a b h k
  one_with (Some name) pair len a b (n, named, h) (m, named', k) =
      laws.one_pair_limit grammar algebra n least greatest ranks (checked_pair name pair n named) len a b h
      (subst (λ x. IsPairLimitFault grammar algebra x len b)
      (named_unique grammar checked.well_formed name m n named' named) k)

  admissible_with : (second : Option (List ℕ)) → MakesPairWith second grammar algebra → (word : List ℕ)
      → KeepsLimitsWith second grammar algebra (length word)
      → IsAdmissibleWith second (record { grammar = grammar; algebra = algebra; word = word })
  admissible_with None pair word kept =
      record { least = least; greatest = greatest; ranks = ranks; checked = checked; limits = kept }
  admissible_with (Some name) pair word (n, named, kept) = (
    n,
    named,
    record {
      least = least;
      greatest = greatest;
      ranks = ranks;
      checked = checked_pair name pair n named;
      limits = kept;
    },
  )

  -- a length under a command
  module _ (command : Command) (pair : MakesPairWith command.second grammar algebra) where
    kept_in : (len : ℕ) (fault : LimitFault) → KeepsLimitsIn command grammar algebra len
        → IsLimitIn command grammar algebra len fault → ⊥
    kept_in len fault kept (inl is) = kept_with command.second pair len fault kept.0 is
    kept_in len fault kept (inr (own, is)) =
        laws.lists_kept grammar algebra least greatest ranks checked len command.best fault
        (kept.1 (laws.some_listed grammar len command.best fault is)) is

    one_in : (len : ℕ) (a b : LimitFault) → IsLimitIn command grammar algebra len a
        → IsLimitIn command grammar algebra len b → a ≡ b
    one_in len a b (inl h) (inl k) = one_with command.second pair len a b h k
    one_in len a b (inl h) (inr (own, k)) = absurd (kept_with command.second pair len a own h)
    one_in len a b (inr (own, h)) (inl k) = absurd (kept_with command.second pair len b own k)
    one_in len a b (inr (own, h)) (inr (own', k)) =
        laws.one_list_limit grammar algebra least greatest ranks checked len command.best a b h k

    limit_unique : (number : ℕ) (words : List (List ℕ)) (a b : ℕ) (fault fault' : LimitFault)
        → IsFirstLimit command grammar algebra number words a fault
        → IsFirstLimit command grammar algebra number words b fault' → Limit a fault ≡ Limit b fault'
    limit_unique number [] a b fault fault' h k = absurd h
    limit_unique number (word ∷ words) a b fault fault' (inl h) (inl k) =
        ap₂ Limit (h.0 ∙ sym k.0) (one_in (length word) fault fault' h.1 k.1)
    limit_unique number (word ∷ words) a b fault fault' (inl h) (inr k) =
        absurd (kept_in (length word) fault k.0 h.1)
    limit_unique number (word ∷ words) a b fault fault' (inr h) (inl k) =
        absurd (kept_in (length word) fault' h.0 k.1)
    limit_unique number (word ∷ words) a b fault fault' (inr h) (inr k) =
        limit_unique (number + 1) words a b fault fault' h.1 k.1

    kept_or_limit : (number : ℕ) (words : List (List ℕ)) (first : ℕ) (fault : LimitFault)
        → KeepLimits command grammar algebra words → IsFirstLimit command grammar algebra number words first fault → ⊥
    kept_or_limit number [] first fault kept h = h
    kept_or_limit number (word ∷ words) first fault kept (inl h) =
        kept_in (length word) fault kept.0 h.1
    kept_or_limit number (word ∷ words) first fault kept (inr h) =
        kept_or_limit (number + 1) words first fault kept.1 h.1

-- ---- the reports

-- the algebra of a checked grammar that the second one's name gives is one
pub one_second : (second : Option (List ℕ)) (grammar : Grammar) → IsTrue (is_well_formed grammar) → (a b : ℕ)
    → IsSecond second grammar a → IsSecond second grammar b → a ≡ b
one_second None grammar formed a b h k = absurd h
one_second (Some name) grammar formed a b h k = named_unique grammar formed name a b h k

formed_with : (second : Option (List ℕ)) (p : PosedProblem) → IsAdmissibleWith second p
    → IsTrue (is_well_formed p.grammar)
formed_with None p h = h.checked.well_formed
formed_with (Some name) p h = h.2.checked.checked.well_formed

pair_with : (second : Option (List ℕ)) (p : PosedProblem) (algebra : ℕ) → IsAdmissibleWith second p
    → IsSecond second p.grammar algebra → IsPairAdmissible p algebra
pair_with None p algebra h named = absurd named
pair_with (Some name) p algebra h named =
    subst (IsPairAdmissible p)
    (named_unique p.grammar h.2.checked.checked.well_formed name h.0 algebra h.1 named) h.2

-- a mode tells wins, or its reports of a word are one
abbrev OneOrWins : Mode → Type 0
OneOrWins mode = ShowsWins mode ⊎ ((command : Command) (number : ℕ) (p : PosedProblem) (wins wins' a b : List ℕ)
    → IsAdmissibleWith command.second p → IsReportWith mode command None number p wins a
    → IsReportWith mode command None number p wins' b → a ≡ b)

module _ (laws : ModelLaws) (command : Command) (grammar : Grammar) (algebra : ℕ) (least : List ℕ)
    (greatest : List (Option ℕ)) (ranks : List ℕ) (checked : IsChecked grammar algebra least greatest ranks)
    (hidden : Option ℕ) (hides : HidesAlternatives hidden grammar) where
  -- reports under the nested grammar are those under the plain one
  plain_reports : (number : ℕ) (words reports : List (List ℕ))
      → AreReports command hidden grammar algebra number words reports
      → AreReports command None grammar algebra number words reports
  plain_reports number [] [] h = tt
  plain_reports number [] (report ∷ reports) h = absurd h
  plain_reports number (word ∷ words) [] h = absurd h
  plain_reports number (word ∷ words) (report ∷ reports) ((wins, each, is), others) =
      let p : PosedProblem = record { grammar = grammar; algebra = algebra; word = word } in (
        (
          wins,
          each,
          (laws.plain p least greatest ranks checked hidden hides command.mode command number wins report).1 is,
        ),
        plain_reports (number + 1) words reports others,
      )

module _ (laws : ModelLaws) where
  one_or_wins : (mode : Mode) → OneOrWins mode
  one_or_wins Best = inr (λ command number p wins wins' a b is h k.
      laws.one_report number p a b (formed_with command.second p is) h k)
  one_or_wins Serial = inr (λ command number p wins wins' a b is h k.
      laws.one_report number p a b (formed_with command.second p is) h k)
  one_or_wins Wins = inl (inl refl)
  one_or_wins Replay = inl (inr refl)
  one_or_wins Lex = inr (λ command number p wins wins' a b is h k.
      laws.one_pair_report number p h.0 (pair_with command.second p h.0 is h.1) a b h.2
      (subst (λ n. IsPairReport number p n b)
      (one_second command.second p.grammar (formed_with command.second p is) k.0 h.0 k.1 h.1) k.2))
  one_or_wins Cert = inr (λ command number p wins wins' a b is h k.
      h.2 ∙ ap (λ block. before_block number ++ block) (laws.one_block number p h.0 k.0 h.1 k.1) ∙ sym k.2)
  one_or_wins Verify = inr (λ command number p wins wins' a b is h k. laws.one_score number p a b h k)
  one_or_wins KBest = inr (λ command number p wins wins' a b is h k. laws.one_list number p command.best a b h k)
  one_or_wins Big = inr (λ command number p wins wins' a b is h k. absurd h)

module _ (command : Command) (plain : (number : ℕ) (p : PosedProblem) (wins wins' a b : List ℕ)
    → IsAdmissibleWith command.second p → IsReportWith command.mode command None number p wins a
    → IsReportWith command.mode command None number p wins' b → a ≡ b)
    (grammar : Grammar) (algebra : ℕ)
    (admissible : (word : List ℕ) → KeepsLimitsWith command.second grammar algebra (length word)
    → IsAdmissibleWith command.second (record { grammar = grammar; algebra = algebra; word = word })) where
  reports_unique : (number : ℕ) (words a b : List (List ℕ)) → KeepLimits command grammar algebra words
      → AreReports command None grammar algebra number words a
      → AreReports command None grammar algebra number words b → a ≡ b
  reports_unique number [] [] [] kept h k = refl
  reports_unique number [] [] (y ∷ b) kept h k = absurd k
  reports_unique number [] (x ∷ a) b kept h k = absurd h
  reports_unique number (word ∷ words) [] b kept h k = absurd h
  reports_unique number (word ∷ words) (x ∷ a) [] kept h k = absurd k
  reports_unique number (word ∷ words) (x ∷ a) (y ∷ b) kept h k =
      let p : PosedProblem = record { grammar = grammar; algebra = algebra; word = word } in
      ap₂ (λ r rs. r ∷ rs)
      (plain number p h.0.0 k.0.0 x y (admissible word kept.0.0) h.0.2 k.0.2)
      (reports_unique (number + 1) words a b kept.1 h.1 k.1)

-- ---- the verdict

module _ (texts : TextLaws) (words : List (List ℕ)) (bytes : List ℕ) where
  names_same : (c d : Command) (a b : Job) → AsksFor words bytes c a → AsksFor words bytes d b → asked_name d b.grammar ≡ asked_name c a.grammar
  names_same c d a b h k = ap₂ (λ e g. asked_name e g) (command_unique words d c k.is_command h.is_command) (same_grammar texts bytes b a k.is_text h.is_text)

  -- what is asked of one job is asked of the other
  fault_of_first : (c d : Command) (a b : Job) (fault : GrammarFault) → AsksFor words bytes c a → AsksFor words bytes d b → IsFaultWith d.second b.grammar (asked_name d b.grammar) fault → IsFaultWith c.second a.grammar (asked_name c a.grammar) fault
  fault_of_first c d a b fault h k is =
      subst (λ (it : Command × Grammar). IsFaultWith it.0.second it.1 (asked_name it.0 it.1) fault)
      (λ i. (command_unique words d c k.is_command h.is_command i, same_grammar texts bytes b a k.is_text h.is_text i)) is

  pair_of_first : (c : Command) (a b : Job) (algebra : ℕ) → AsksFor words bytes c a → AsksUnder words bytes b algebra → MakesPairWith c.second a.grammar algebra
  pair_of_first c a b algebra h k =
      subst (λ (it : Command × Grammar). MakesPairWith it.0.second it.1 algebra)
      (λ i. (command_unique words k.command c k.asks.is_command h.is_command i, same_grammar texts bytes b a k.asks.is_text h.is_text i)) k.pair

  faultless_of_first : (c : Command) (a b : Job) (algebra : ℕ) → AsksFor words bytes c a → AsksUnder words bytes b algebra → IsFaultless a.grammar (asked_name c a.grammar) algebra
  faultless_of_first c a b algebra h k =
      subst (λ n. IsFaultless a.grammar n algebra) (names_same c k.command a b h k.asks) (subst (λ g. IsFaultless g (asked_name k.command b.grammar) algebra) (same_grammar texts bytes b a k.asks.is_text h.is_text) k.faultless)

  pub same_algebra : (a b : Job) (m n : ℕ) → AsksUnder words bytes a m → AsksUnder words bytes b n → n ≡ m
  same_algebra a b m n h k = named_unique a.grammar a.well_formed (asked_name h.command a.grammar) n m (faultless_of_first h.command a b n h.asks k).named h.faultless.named

  has_command : (c : Command) (a : Job) → AsksFor words bytes c a → HasCommand words
  has_command c a h = (c, h.is_command)

  -- a word is made by no command that reads a job
  not_made : AsksForJob words → (reports : List (List ℕ)) → AskForBigReport words reports → ⊥
  not_made h reports k = subst (λ (c : Command). ReadsJob c.mode) (command_unique words h.0 k.0 h.1 k.1) h.2 k.2

  for_job : (c : Command) (a : Job) → AsksFor words bytes c a → AsksForJob words
  for_job c a h = (c, h.is_command, h.reads)

  pub asked_grammar : (a b : Job) (m n : ℕ) → AsksUnder words bytes a m → AsksUnder words bytes b n → a.grammar ≡ b.grammar
  asked_grammar a b m n h k = same_grammar texts bytes a b h.asks.is_text k.asks.is_text

  pub asked_algebra : (a b : Job) (m n : ℕ) → AsksUnder words bytes a m → AsksUnder words bytes b n → m ≡ n
  asked_algebra a b m n h k = sym (same_algebra a b m n h k)

  limit_of_first : (a b : Job) (m n word : ℕ) (fault : LimitFault) (h : AsksUnder words bytes a m)
      (k : AsksUnder words bytes b n) → IsFirstLimit k.command b.grammar n 1 b.words word fault
      → IsFirstLimit h.command a.grammar m 1 a.words word fault
  limit_of_first a b m n word fault h k is =
      subst (λ (it : Command × Grammar × ℕ × List (List ℕ)). IsFirstLimit it.0 it.1 it.2 1 it.3 word fault)
      (λ i. (
        command_unique words k.command h.command k.asks.is_command h.asks.is_command i,
        same_grammar texts bytes b a k.asks.is_text h.asks.is_text i,
        same_algebra a b m n h k i,
        same_words texts bytes b a k.asks.is_text h.asks.is_text i,
      )) is

  reports_of_first : (command : Command) (a b : Job) (m n : ℕ) (reports : List (List ℕ)) → AsksUnder words bytes a m
      → AsksUnder words bytes b n → AreReports command (hidden_in bytes) b.grammar n 1 b.words reports
      → AreReports command (hidden_in bytes) a.grammar m 1 a.words reports
  reports_of_first command a b m n reports h k is =
      subst (λ algebra. AreReports command (hidden_in bytes) a.grammar algebra 1 a.words reports) (same_algebra a b m n h k)
      (subst (λ (ws : List (List ℕ)). AreReports command (hidden_in bytes) a.grammar n 1 ws reports)
      (same_words texts bytes b a k.asks.is_text h.asks.is_text)
      (subst (λ g. AreReports command (hidden_in bytes) g n 1 b.words reports) (same_grammar texts bytes b a k.asks.is_text h.asks.is_text) is))

module _ (laws : ModelLaws) (words : List (List ℕ)) (bytes : List ℕ) where
  both_reported : AreCheckable words bytes → (a b : List (List ℕ)) → AskForReports words bytes a
      → AskForReports words bytes b → (Reports a ≡ Reports b) ⊎ AreOfWins words (Reports a) (Reports b)
  both_reported checks a b h k = by (one_or_wins laws h.2.command.mode)
    where
      found : (least : List ℕ) × (greatest : List (Option ℕ)) × (ranks : List ℕ)
          × IsChecked h.0.grammar h.1 least greatest ranks
      found = checks h.0 h.1 h.2

      admissible : (word : List ℕ) → KeepsLimitsWith h.2.command.second h.0.grammar h.1 (length word)
          → IsAdmissibleWith h.2.command.second (record { grammar = h.0.grammar; algebra = h.1; word = word })
      admissible =
          admissible_with laws h.0.grammar h.1 found.0 found.1 found.2 found.3 h.2.command.second h.2.pair

      same : h.2.command ≡ k.2.command
      same = command_unique words h.2.command k.2.command h.2.asks.is_command k.2.asks.is_command

      others : AreReports h.2.command (hidden_in bytes) h.0.grammar h.1 1 h.0.words k.4
      others = reports_of_first laws.texts words bytes h.2.command h.0 k.0 h.1 k.1 k.4 h.2 k.2
          (subst (λ (c : Command). AreReports c (hidden_in bytes) k.0.grammar k.1 1 k.0.words k.4) (sym same) k.5)

      plainly : (reports : List (List ℕ)) → AreReports h.2.command (hidden_in bytes) h.0.grammar h.1 1 h.0.words reports
          → AreReports h.2.command None h.0.grammar h.1 1 h.0.words reports
      plainly = plain_reports laws h.2.command h.0.grammar h.1 found.0 found.1 found.2 found.3 (hidden_in bytes)
          (laws.hides bytes h.0 h.2.asks.is_text) 1 h.0.words

      by : OneOrWins h.2.command.mode → (Reports a ≡ Reports b) ⊎ AreOfWins words (Reports a) (Reports b)
      by (inl wins) = inr (h.2.command, h.2.asks.is_command, wins)
      by (inr plain) =
          let reports = reports_unique h.2.command (plain h.2.command) h.0.grammar h.1 admissible 1 h.0.words h.4 k.4 h.3 (plainly h.4 h.5)
          (plainly k.4 others) in
          let texts = same_words laws.texts bytes h.0 k.0 h.2.asks.is_text k.2.asks.is_text in
          let pieces : h.4 ++ behind_reports h.2.command.mode (length h.0.words) bytes
          ≡ k.4 ++ behind_reports k.2.command.mode (length k.0.words) bytes =
          λ i. reports i ++ behind_reports (same i).mode (length (texts i)) bytes in
          inl (ap Reports (h.6 ∙ pieces ∙ sym k.6))

  both_made : (a b : List (List ℕ)) → AskForBigReport words a → AskForBigReport words b → Reports a ≡ Reports b
  both_made a b h k =
      let same = command_unique words k.0 h.0 k.1 h.1 in
      let other = subst (λ (c : Command). IsBigReport c.seed c.size k.3) same k.4 in
      ap Reports (h.5 ∙ ap (λ r. r ∷ []) (laws.one_made h.0.seed h.0.size h.3 k.3 h.4 other) ∙ sym k.5)

  pub too_long : greatest_length < length bytes → length bytes ≤ greatest_length → ⊥
  too_long long short = omega arith

  made_or_not : (verdict : Verdict) (reports : List (List ℕ)) → AskForBigReport words reports → IsJobVerdict words bytes verdict
      → (HasCommand words → ⊥) ⊎ (AsksForJob words ⊎ ((others : List (List ℕ)) × (verdict ≡ Reports others) × AskForBigReport words others))
  made_or_not Usage reports big h = inl h
  made_or_not TooLong reports big h = inr (inl h.0)
  made_or_not (Text fault) reports big h = inr (inl h.0)
  made_or_not (OfGrammar fault) reports big h = inr (inl (for_job laws.texts words bytes h.0 h.1 h.2))
  made_or_not (Limit word fault) reports big h = inr (inl (for_job laws.texts words bytes h.2.command h.0 h.2.asks))
  made_or_not (Rejected line) reports big h = absurd h
  made_or_not (Reports others) reports big (inl h) = inr (inl (for_job laws.texts words bytes h.2.command h.0 h.2.asks))
  made_or_not (Reports others) reports big (inr h) = inr (inr (others, refl, h))

  -- a word is made in one way, and nothing else is asked then
  of_made : (verdict : Verdict) (reports : List (List ℕ)) → AskForBigReport words reports → IsJobVerdict words bytes verdict
      → Reports reports ≡ verdict
  of_made verdict reports big h = by (made_or_not verdict reports big h)
    where
      by : (HasCommand words → ⊥) ⊎ (AsksForJob words ⊎ ((others : List (List ℕ)) × (verdict ≡ Reports others) × AskForBigReport words others))
          → Reports reports ≡ verdict
      by (inl none) = absurd (none (big.0, big.1))
      by (inr (inl job)) = absurd (not_made laws.texts words bytes job reports big)
      by (inr (inr it)) = both_made reports it.0 big it.2 ∙ sym it.1

  pub one_verdict : AreCheckable words bytes → (a b : Verdict) → IsJobVerdict words bytes a → IsJobVerdict words bytes b
      → (a ≡ b) ⊎ AreOfWins words a b
  one_verdict checks (Rejected line) other h k = absurd h
  one_verdict checks other (Rejected line) h k = absurd k
  one_verdict checks Usage Usage h k =
      inl refl
  one_verdict checks Usage TooLong h k =
      absurd (h (k.0.0, k.0.1))
  one_verdict checks Usage (Text fault) h k =
      absurd (h (k.0.0, k.0.1))
  one_verdict checks Usage (OfGrammar fault) h k =
      absurd (h (has_command laws.texts words bytes k.0 k.1 k.2))
  one_verdict checks Usage (Limit word fault) h k =
      absurd (h (has_command laws.texts words bytes k.2.command k.0 k.2.asks))
  one_verdict checks Usage (Reports reports) h (inl k) =
      absurd (h (has_command laws.texts words bytes k.2.command k.0 k.2.asks))
  one_verdict checks Usage (Reports reports) h (inr k) = inl (sym (of_made Usage reports k h))
  one_verdict checks TooLong Usage h k =
      absurd (k (h.0.0, h.0.1))
  one_verdict checks TooLong TooLong h k =
      inl refl
  one_verdict checks TooLong (Text fault) h k =
      absurd (too_long h.1 k.1)
  one_verdict checks TooLong (OfGrammar fault) h k =
      absurd (too_long h.1 k.2.short_enough)
  one_verdict checks TooLong (Limit word fault) h k =
      absurd (too_long h.1 k.2.asks.short_enough)
  one_verdict checks TooLong (Reports reports) h (inl k) =
      absurd (too_long h.1 k.2.asks.short_enough)
  one_verdict checks TooLong (Reports reports) h (inr k) = inl (sym (of_made TooLong reports k h))
  one_verdict checks (Text fault) Usage h k =
      absurd (k (h.0.0, h.0.1))
  one_verdict checks (Text fault) TooLong h k =
      absurd (too_long k.1 h.1)
  one_verdict checks (Text fault) (Text fault') h k =
      inl (ap Text (laws.texts.one_fault bytes fault fault' h.2 k.2))
  one_verdict checks (Text fault) (OfGrammar fault') h k =
      absurd (laws.texts.not_both bytes k.1 fault k.2.is_text h.2)
  one_verdict checks (Text fault) (Limit word fault') h k =
      absurd (laws.texts.not_both bytes k.0 fault k.2.asks.is_text h.2)
  one_verdict checks (Text fault) (Reports reports) h (inl k) =
      absurd (laws.texts.not_both bytes k.0 fault k.2.asks.is_text h.2)
  one_verdict checks (Text fault) (Reports reports) h (inr k) = inl (sym (of_made (Text fault) reports k h))
  one_verdict checks (OfGrammar fault) Usage h k =
      absurd (k (has_command laws.texts words bytes h.0 h.1 h.2))
  one_verdict checks (OfGrammar fault) TooLong h k =
      absurd (too_long k.1 h.2.short_enough)
  one_verdict checks (OfGrammar fault) (Text fault') h k =
      absurd (laws.texts.not_both bytes h.1 fault' h.2.is_text k.2)
  one_verdict checks (OfGrammar fault) (OfGrammar fault') h k =
      inl (ap OfGrammar (fault_with_unique h.1.grammar h.1.well_formed (asked_name h.0 h.1.grammar) h.0.second fault fault' h.3 (fault_of_first laws.texts words bytes h.0 k.0 h.1 k.1 fault' h.2 k.2 k.3)))
  one_verdict checks (OfGrammar fault) (Limit word fault') h k =
      absurd (faultless_with_or_fault h.1.grammar h.1.well_formed (asked_name h.0 h.1.grammar) h.0.second k.1 fault (faultless_of_first laws.texts words bytes h.0 h.1 k.0 k.1 h.2 k.2) (pair_of_first laws.texts words bytes h.0 h.1 k.0 k.1 h.2 k.2) h.3)
  one_verdict checks (OfGrammar fault) (Reports reports) h (inl k) =
      absurd (faultless_with_or_fault h.1.grammar h.1.well_formed (asked_name h.0 h.1.grammar) h.0.second k.1 fault (faultless_of_first laws.texts words bytes h.0 h.1 k.0 k.1 h.2 k.2) (pair_of_first laws.texts words bytes h.0 h.1 k.0 k.1 h.2 k.2) h.3)
  one_verdict checks (OfGrammar fault) (Reports reports) h (inr k) = inl (sym (of_made (OfGrammar fault) reports k h))
  one_verdict checks (Limit word fault) Usage h k =
      absurd (k (has_command laws.texts words bytes h.2.command h.0 h.2.asks))
  one_verdict checks (Limit word fault) TooLong h k =
      absurd (too_long k.1 h.2.asks.short_enough)
  one_verdict checks (Limit word fault) (Text fault') h k =
      absurd (laws.texts.not_both bytes h.0 fault' h.2.asks.is_text k.2)
  one_verdict checks (Limit word fault) (OfGrammar fault') h k =
      absurd (faultless_with_or_fault k.1.grammar k.1.well_formed (asked_name k.0 k.1.grammar) k.0.second h.1 fault' (faultless_of_first laws.texts words bytes k.0 k.1 h.0 h.1 k.2 h.2) (pair_of_first laws.texts words bytes k.0 k.1 h.0 h.1 k.2 h.2) k.3)
  one_verdict checks (Limit word fault) (Limit word' fault') h k =
      let found = checks h.0 h.1 h.2 in
      inl (limit_unique laws h.0.grammar h.1 found.0 found.1 found.2 found.3 h.2.command h.2.pair 1 h.0.words word word' fault fault' h.3 (limit_of_first laws.texts words bytes h.0 k.0 h.1 k.1 word' fault' h.2 k.2 k.3))
  one_verdict checks (Limit word fault) (Reports reports) h (inl k) =
      let found = checks k.0 k.1 k.2 in
      absurd (kept_or_limit laws k.0.grammar k.1 found.0 found.1 found.2 found.3 k.2.command k.2.pair 1 k.0.words word fault k.3 (limit_of_first laws.texts words bytes k.0 h.0 k.1 h.1 word fault k.2 h.2 h.3))
  one_verdict checks (Limit word fault) (Reports reports) h (inr k) = inl (sym (of_made (Limit word fault) reports k h))
  one_verdict checks (Reports reports) Usage (inl h) k =
      absurd (k (has_command laws.texts words bytes h.2.command h.0 h.2.asks))
  one_verdict checks (Reports reports) TooLong (inl h) k =
      absurd (too_long k.1 h.2.asks.short_enough)
  one_verdict checks (Reports reports) (Text fault') (inl h) k =
      absurd (laws.texts.not_both bytes h.0 fault' h.2.asks.is_text k.2)
  one_verdict checks (Reports reports) (OfGrammar fault') (inl h) k =
      absurd (faultless_with_or_fault k.1.grammar k.1.well_formed (asked_name k.0 k.1.grammar) k.0.second h.1 fault' (faultless_of_first laws.texts words bytes k.0 k.1 h.0 h.1 k.2 h.2) (pair_of_first laws.texts words bytes k.0 k.1 h.0 h.1 k.2 h.2) k.3)
  one_verdict checks (Reports reports) (Limit word fault) (inl h) k =
      let found = checks h.0 h.1 h.2 in
      absurd (kept_or_limit laws h.0.grammar h.1 found.0 found.1 found.2 found.3 h.2.command h.2.pair 1 h.0.words word fault h.3 (limit_of_first laws.texts words bytes h.0 k.0 h.1 k.1 word fault h.2 k.2 k.3))
  one_verdict checks (Reports reports) (Reports reports') (inl h) (inl k) = both_reported checks reports reports' h k
  one_verdict checks (Reports reports) (Reports reports') (inl h) (inr k) =
      inl (sym (of_made (Reports reports) reports' k (inl h)))
  one_verdict checks (Reports reports) Usage (inr h) k = inl (of_made Usage reports h k)
  one_verdict checks (Reports reports) TooLong (inr h) k = inl (of_made TooLong reports h k)
  one_verdict checks (Reports reports) (Text fault) (inr h) k = inl (of_made (Text fault) reports h k)
  one_verdict checks (Reports reports) (OfGrammar fault) (inr h) k = inl (of_made (OfGrammar fault) reports h k)
  one_verdict checks (Reports reports) (Limit word fault) (inr h) k = inl (of_made (Limit word fault) reports h k)
  one_verdict checks (Reports reports) (Reports reports') (inr h) k = inl (of_made (Reports reports') reports h k)

  -- what is asked about within the limits has no fault
  pub only_within : (h : AsksWithin words bytes) (verdict : Verdict) → IsJobVerdict words bytes verdict
      → (IsLimit verdict → AreCheckable words bytes) → IsReports verdict
  only_within h (Reports others) k checks = tt
  only_within h (Rejected line) k checks = absurd k
  only_within h Usage k checks = absurd (k (has_command laws.texts words bytes h.asked.command h.job h.asked.asks))
  only_within h TooLong k checks = absurd (too_long k.1 h.asked.asks.short_enough)
  only_within h (Text fault) k checks = absurd (laws.texts.not_both bytes h.job fault h.asked.asks.is_text k.2)
  only_within h (OfGrammar fault) k checks =
      absurd (faultless_with_or_fault k.1.grammar k.1.well_formed (asked_name k.0 k.1.grammar) k.0.second h.algebra fault
      (faultless_of_first laws.texts words bytes k.0 k.1 h.job h.algebra k.2 h.asked)
      (pair_of_first laws.texts words bytes k.0 k.1 h.job h.algebra k.2 h.asked) k.3)
  only_within h (Limit word fault) k checks =
      let found = checks tt h.job h.algebra h.asked in
      absurd (kept_or_limit laws h.job.grammar h.algebra found.0 found.1 found.2 found.3 h.asked.command h.asked.pair
      1 h.job.words word fault h.limits (limit_of_first laws.texts words bytes h.job k.0 h.algebra k.1 word fault h.asked k.2 k.3))

  pub only_reports : (reports : List (List ℕ)) (verdict : Verdict) → IsJobVerdict words bytes (Reports reports)
      → IsJobVerdict words bytes verdict → (IsLimit verdict → AreCheckable words bytes) → IsReports verdict
  only_reports reports verdict (inl h) k checks =
      only_within (record { job = h.0; algebra = h.1; asked = h.2; limits = h.3 }) verdict k checks
  only_reports reports verdict (inr h) k checks = subst IsReports (of_made verdict reports h k) tt
