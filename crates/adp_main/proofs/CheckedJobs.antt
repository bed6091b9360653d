-- A job that was read, and its grammar, which was checked or refused.
use Rattle.std.proofs.Common.{◌≡◌, ℕ, ◌<◌, ◌≤◌, inl, inr, Option, None, Some, List, length, IsTrue, Result, Ok, Err, refl, sym, subst}
use Rattle.adp_model.specs.declared.fault.GrammarFault.{GrammarFault}
use Rattle.adp_model.specs.declared.grammar.Grammar.{Grammar}
use Rattle.adp_model.specs.declared.job.Job.{Job}
use Rattle.verdicts.specs.Command as asked
use Rattle.adp_model.specs.GrammarFaults.{IsFaultless, IsGrammarFault, NoAlgebra, Unproductive, Loop, NotMonotone, Impossible}
use Rattle.nested_jobs.specs.NestedJob.{IsNestedText}
use Rattle.adp_model.specs.Parts.{rule_at, sign_at}
use Rattle.verdicts.specs.Verdict.{AsksFor, AsksUnder, asked_name, greatest_length}
use Rattle.adp_model.specs.WellFormed.{is_name}
use Rattle.grammar_check.specs.CheckAnswers.{MatchCheck}
use Rattle.grammar_check.specs.CheckedGrammar.{CheckedGrammar}
use Rattle.grammar_check.specs.declared.error.CheckError.{CheckError}
use Rattle.grammar_check.specs.declared.error.CheckError.TheVariants as check_errors
use Rattle.nested_jobs.specs.Reading.{MatchNestedReading}
use Rattle.grammar_text.specs.declared.error.TextError.{TextError}
use Rattle.grammar_text.specs.declared.error.TextError.TheVariants as text_errors
use Rattle.verdicts.specs.SecondAlgebra.{IsFaultWith, MakesPairWith}
use Rattle.lex_product.specs.PairAnswers.{MatchPair}
use Rattle.lex_product.specs.declared.error.PairError.{PairError}
use Rattle.lex_product.specs.declared.error.PairError.TheVariants as pair_errors
use Rattle.lex_product.specs.PairFaults.{IsPairFault, NoAlgebra as NoSecond, OtherFactor}
use Rattle.report.specs.declared.fault.Fault.{Fault}
use Rattle.report.specs.declared.fault.Fault.TheVariants as faults
use Rattle.adp_main.specs.Seconds.{IsSecondOf}
use Rattle.adp_main.specs.Reporting.{IsJobFault, IsJobRefusal, IsPairRefusal, grammar_refusal, pair_refusal, text_refusal}

pub is_text : (bytes : List ℕ) (job : Job) (given : Result Job TextError) → MatchNestedReading bytes given → given ≡ Ok job → IsNestedText bytes job
is_text bytes job given read is = subst (MatchNestedReading bytes) is read

unread : (words : List (List ℕ)) (bytes : List ℕ) (error : TextError) → asked.AsksForJob words → length bytes ≤ greatest_length → MatchNestedReading bytes (Err error)
    → IsJobRefusal words bytes (text_refusal error)
unread words bytes (text_errors.Fault fault) asks fits found = (asks, fits, found)
unread words bytes text_errors.Memory asks fits found = tt

-- the text's fault is the verdict
pub text_refused : (words : List (List ℕ)) (bytes : List ℕ) (given : Result Job TextError) (fault : Fault)
    → asked.AsksForJob words → length bytes ≤ greatest_length → MatchNestedReading bytes given
    → (error : TextError) × (given ≡ Err error) × (fault ≡ text_refusal error) → IsJobRefusal words bytes fault
text_refused words bytes given fault asks fits read (error, is, turned) =
    subst (IsJobRefusal words bytes) (sym turned) (unread words bytes error asks fits (subst (MatchNestedReading bytes) is read))

-- the grammar's own fault, whether or not a second algebra is asked for
own_fault : (second : Option (List ℕ)) (grammar : Grammar) (name : List ℕ) (fault : GrammarFault)
    → IsGrammarFault grammar name fault → IsFaultWith second grammar name fault
own_fault None grammar name fault is = is
own_fault (Some other) grammar name fault is = inl is

-- the second checked grammar makes a pair with the first
makes_pair : (second : Option (List ℕ)) (first : CheckedGrammar) (other : Option CheckedGrammar)
    → IsSecondOf second first other → MakesPairWith second first.grammar first.algebra
makes_pair None first other is = tt
makes_pair (Some name) first None is = absurd is
makes_pair (Some name) first (Some other) (named, pair) = (other.algebra, named, pair.adding)

-- the job's grammar has no fault under the algebra of the name
pub is_checked : (words : List (List ℕ)) (bytes : List ℕ) (command : asked.Command) (job : Job) (name : List ℕ) (given : Result CheckedGrammar CheckError) (checked : CheckedGrammar)
    (other : Option CheckedGrammar) → AsksFor words bytes command job → name ≡ asked_name command job.grammar → MatchCheck job.grammar name given → given ≡ Ok checked
    → IsSecondOf command.second checked other
    → (asks : AsksUnder words bytes job checked.algebra) × (asks.command ≡ command) × (checked.grammar ≡ job.grammar)
is_checked words bytes command job name given checked other asks named found is second =
    let passed : MatchCheck job.grammar (asked_name command job.grammar) (Ok checked) = subst (λ n. MatchCheck job.grammar n (Ok checked)) named (subst (MatchCheck job.grammar name) is found) in
    let pair = subst (λ (g : Grammar). MakesPairWith command.second g checked.algebra) passed.0
    (makes_pair command.second checked other second) in
    (record { command = command; asks = asks; faultless = passed.1; pair = pair }, refl, passed.0)

-- the pair's fault is the verdict
refused_pair : (words : List (List ℕ)) (bytes : List ℕ) (command : asked.Command) (job : Job) (checked : CheckedGrammar)
    → AsksFor words bytes command job → checked.grammar ≡ job.grammar
    → IsFaultless job.grammar (asked_name command job.grammar) checked.algebra → (second : Option (List ℕ))
    → command.second ≡ second → (fault : Fault) → IsPairRefusal second checked fault → IsJobRefusal words bytes fault
refused_pair words bytes command job checked asks same sound None is fault found =
    subst (IsJobRefusal words bytes) (sym found) tt
refused_pair words bytes command job checked asks same sound (Some name) is (faults.Grammar fault) found = (
  command,
  job,
  asks,
  subst (λ second. IsFaultWith second job.grammar (asked_name command job.grammar) fault) (sym is)
      (inr (checked.algebra, sound, subst (λ (g : Grammar). IsPairFault g checked.algebra name fault) same found.0)),
)
refused_pair words bytes command job checked asks same sound (Some name) is faults.Memory found = tt
refused_pair words bytes command job checked asks same sound (Some name) is faults.Usage found = absurd found
refused_pair words bytes command job checked asks same sound (Some name) is faults.Read found = absurd found
refused_pair words bytes command job checked asks same sound (Some name) is faults.Write found = absurd found
refused_pair words bytes command job checked asks same sound (Some name) is faults.TooLong found = absurd found
refused_pair words bytes command job checked asks same sound (Some name) is (faults.Text fault) found = absurd found
refused_pair words bytes command job checked asks same sound (Some name) is (faults.Limit word fault) found = absurd found
refused_pair words bytes command job checked asks same sound (Some name) is (faults.Rejected line) found = absurd found

pub pair_refused : (words : List (List ℕ)) (bytes : List ℕ) (command : asked.Command) (job : Job) (name : List ℕ)
    (given : Result CheckedGrammar CheckError) (checked : CheckedGrammar) (fault : Fault) → AsksFor words bytes command job
    → name ≡ asked_name command job.grammar → MatchCheck job.grammar name given → given ≡ Ok checked
    → IsPairRefusal command.second checked fault → IsJobRefusal words bytes fault
pair_refused words bytes command job name given checked fault asks named found is refused =
    let passed : MatchCheck job.grammar (asked_name command job.grammar) (Ok checked) =
    subst (λ n. MatchCheck job.grammar n (Ok checked)) named (subst (MatchCheck job.grammar name) is found) in
    refused_pair words bytes command job checked asks passed.0 passed.1 command.second refl fault refused

-- it has a short name
pub pair_fault : (second : Option (List ℕ)) (checked : CheckedGrammar) (fault : Fault)
    → IsPairRefusal second checked fault → IsJobFault fault
pair_fault None checked fault found = subst IsJobFault (sym found) tt
pair_fault (Some name) checked (faults.Grammar fault) found = found.1
pair_fault (Some name) checked faults.Memory found = tt
pair_fault (Some name) checked faults.Usage found = absurd found
pair_fault (Some name) checked faults.Read found = absurd found
pair_fault (Some name) checked faults.Write found = absurd found
pair_fault (Some name) checked faults.TooLong found = absurd found
pair_fault (Some name) checked (faults.Text fault) found = absurd found
pair_fault (Some name) checked (faults.Limit word fault) found = absurd found
pair_fault (Some name) checked (faults.Rejected line) found = absurd found

-- each name is short, and rules and signs have names
pub record AreNamed (grammar : Grammar) : Type 0 where
  pub short : (name : List ℕ) → IsTrue (is_name name) → length name ≤ 32
  pub rules : (rule : ℕ) → rule < length grammar.rules → IsTrue (is_name (rule_at grammar rule).name)
  pub signs : (sign : ℕ) → sign < length grammar.signs → IsTrue (is_name (sign_at grammar sign).name)

short_name : (grammar : Grammar) (name : List ℕ) (fault : GrammarFault) → AreNamed grammar → IsTrue (is_name name) → IsGrammarFault grammar name fault → length fault.name ≤ 32
short_name grammar name fault names named (NoAlgebra none) = names.short _ named
short_name grammar name fault names named (Unproductive algebra rule under first) = names.short _ (names.rules rule first.in_range)
short_name grammar name fault names named (Loop algebra rule under productive first) = names.short _ (names.rules rule first.in_range)
short_name grammar name fault names named (NotMonotone algebra sign under productive no_loop first) = names.short _ (names.signs sign first.in_range)
short_name grammar name fault names named (Impossible algebra rule under productive no_loop monotone first) = names.short _ (names.rules rule first.in_range)

refused : (words : List (List ℕ)) (bytes : List ℕ) (command : asked.Command) (job : Job) (name : List ℕ) (error : CheckError)
    → AsksFor words bytes command job → name ≡ asked_name command job.grammar → MatchCheck job.grammar name (Err error)
    → IsJobRefusal words bytes (grammar_refusal error)
refused words bytes command job name (check_errors.Fault fault) asks named found =
    (command, job, asks, own_fault command.second job.grammar _ fault (subst (λ n. IsGrammarFault job.grammar n fault) named found))
refused words bytes command job name check_errors.Memory asks named found = tt

-- the grammar's fault is the verdict
pub grammar_refused : (words : List (List ℕ)) (bytes : List ℕ) (command : asked.Command) (job : Job) (name : List ℕ) (given : Result CheckedGrammar CheckError) (fault : Fault)
    → AsksFor words bytes command job → name ≡ asked_name command job.grammar → MatchCheck job.grammar name given
    → (error : CheckError) × (given ≡ Err error) × (fault ≡ grammar_refusal error) → IsJobRefusal words bytes fault
grammar_refused words bytes command job name given fault asks named found (error, is, turned) =
    subst (IsJobRefusal words bytes) (sym turned) (refused words bytes command job name error asks named (subst (MatchCheck job.grammar name) is found))

-- a fault of the grammar has a short name
fault_named : (job : Job) (name : List ℕ) (error : CheckError) → IsTrue (is_name name) → AreNamed job.grammar
    → MatchCheck job.grammar name (Err error) → IsJobFault (grammar_refusal error)
fault_named job name (check_errors.Fault fault) is_named names found =
    short_name job.grammar name fault names is_named found
fault_named job name check_errors.Memory is_named names found = tt

pub grammar_fault : (job : Job) (name : List ℕ) (given : Result CheckedGrammar CheckError) (fault : Fault)
    → IsTrue (is_name name) → AreNamed job.grammar → MatchCheck job.grammar name given
    → (error : CheckError) × (given ≡ Err error) × (fault ≡ grammar_refusal error) → IsJobFault fault
grammar_fault job name given fault is_named names found (error, is, turned) =
    subst IsJobFault (sym turned) (fault_named job name error is_named names (subst (MatchCheck job.grammar name) is found))

text_fault_of : (error : TextError) → IsJobFault (text_refusal error)
text_fault_of (text_errors.Fault fault) = tt
text_fault_of text_errors.Memory = tt

pub text_fault : (given : Result Job TextError) (fault : Fault)
    → (error : TextError) × (given ≡ Err error) × (fault ≡ text_refusal error) → IsJobFault fault
text_fault given fault (error, is, turned) = subst IsJobFault (sym turned) (text_fault_of error)

-- ---- the second algebra

short_second : (grammar : Grammar) (first : ℕ) (name : List ℕ) (fault : GrammarFault) → AreNamed grammar
    → IsTrue (is_name name) → IsPairFault grammar first name fault → length fault.name ≤ 32
short_second grammar first name fault names named (NoSecond none) = names.short _ named
short_second grammar first name fault names named (OtherFactor second sign under is) =
    names.short _ (names.signs sign is.in_range)

-- the fault of a pair that was not made
unpaired : (first : CheckedGrammar) (name : List ℕ) (error : PairError) → IsTrue (is_name name) → AreNamed first.grammar
    → MatchPair first name (Err error) → IsPairRefusal (Some name) first (pair_refusal error)
unpaired first name (pair_errors.Fault fault) named names found =
    (found, short_second first.grammar first.algebra name fault names named found)
unpaired first name pair_errors.Memory named names found = tt

pub pair_unmade : (second : Option (List ℕ)) (first : CheckedGrammar) (name text : List ℕ) (error : PairError)
    (fault : Fault) → second ≡ Some text → name ≡ text → IsTrue (is_name text) → AreNamed first.grammar
    → MatchPair first name (Err error) → fault ≡ pair_refusal error → IsPairRefusal second first fault
pair_unmade second first name text error fault is same named names found turned =
    subst (λ (it : Option (List ℕ) × Fault). IsPairRefusal it.0 first it.1) (λ i. (sym is i, sym turned i))
    (unpaired first text error named names (subst (λ n. MatchPair first n (Err error)) same found))

-- no second algebra is asked for
pub none_second : (second : Option (List ℕ)) (first : CheckedGrammar) → second ≡ None → IsSecondOf second first None
none_second second first is = subst (λ it. IsSecondOf it first None) (sym is) refl

-- the pair was made
pub some_second : (second : Option (List ℕ)) (first other : CheckedGrammar) (name text : List ℕ) → second ≡ Some text
    → name ≡ text → MatchPair first name (Ok other) → IsSecondOf second first (Some other)
some_second second first other name text is same made =
    subst (λ it. IsSecondOf it first (Some other)) (sym is) (subst (λ n. MatchPair first n (Ok other)) same made)

-- memory ran out
pub pair_short : (second : Option (List ℕ)) (first : CheckedGrammar) (fault : Fault) → fault ≡ faults.Memory
    → IsPairRefusal second first fault
pair_short None first fault is = is
pair_short (Some name) first fault is = subst (IsPairRefusal (Some name) first) (sym is) tt
