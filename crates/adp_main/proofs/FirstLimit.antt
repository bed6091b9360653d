-- The first word that passes a limit.
use Rattle.std.proofs.Common.{◌≡◌, ℕ, zero, suc, ◌+◌, ◌<◌, ◌≤◌, inl, inr, Option, None, Some, Result, Ok, Err, MatchResult, IfErr, OnOk, List, [], ◌∷◌, length, take, get_or, ap, sym, subst, ◌∙◌, arith}
use Rattle.std.proofs.lemmas.List.{get_or-map, get_or_read, length-map}
use Rattle.std.specs.List.{AllByRecursion}
use Rattle.adp_model.specs.declared.grammar.Grammar.{Grammar}
use Rattle.adp_model.specs.declared.fault.LimitFault.{LimitFault}
use Rattle.adp_model.specs.PosedProblem.{PosedProblem}
use Rattle.adp_model.specs.Bounds.{IsNodeBound}
use Rattle.adp_model.specs.LimitFaults.{HasFewNodes}
use Rattle.adp_model.specs.ProblemFields.{KeepsLimits, most_nodes}
use Rattle.first_trees.specs.ListLimits.{IsListLimitFault, KeepsListLimits}
use Rattle.grammar_check.specs.ToldBounds.{IsToldNodeBound}
use Rattle.verdicts.specs.Command.{Command}
use Rattle.verdicts.specs.SecondAlgebra.{IsAdmissibleWith, KeepsLimitsWith}
use Rattle.verdicts.specs.WordLimits.{IsFirstLimit, IsLimitIn, KeepsLimitsIn, KeepsLimitsOfLists}
use Rattle.verdicts.specs.Posed.{posed_words}
use Rattle.grammar_check.specs.declared.error.AdmitError.{AdmitError}
use Rattle.grammar_check.specs.declared.error.AdmitError.TheVariants as admit_errors
use Rattle.adp_main.specs.Reporting.{AreShort, IsAdmissibleIn, IsLengthRefusal, IsLimitOf, IsWordRefusal, limit_refusal}

-- a word that is admitted keeps the limits, and those under its own algebra among them
kept_of : (second : Option (List ℕ)) (p : PosedProblem) → IsAdmissibleWith second p
    → KeepsLimitsWith second p.grammar p.algebra (length p.word)
kept_of None p is = is.limits
kept_of (Some name) p is = (is.0, is.1, is.2.limits)

-- so it is in a command
pub kept_in : (command : Command) (p : PosedProblem) → IsAdmissibleIn command p
    → KeepsLimitsIn command p.grammar p.algebra (length p.word)
kept_in command p is = (kept_of command.second p is.0, is.1)

pub own_limits : (second : Option (List ℕ)) (p : PosedProblem) → IsAdmissibleWith second p
    → KeepsLimits p.grammar p.algebra (length p.word)
own_limits None p is = is.limits
own_limits (Some name) p is = is.2.limits.of_first

pub first_limit : (command : Command) (grammar : Grammar) (algebra number : ℕ) (words : List (List ℕ)) (k place : ℕ) (d : List ℕ) (fault : LimitFault) → k < length words → place ≡ number + k
    → AllByRecursion (IsAdmissibleIn command) (posed_words grammar algebra (take k words)) → IsLimitIn command grammar algebra (length (get_or words k d)) fault → IsFirstLimit command grammar algebra number words place fault
first_limit command grammar algebra number [] k place d fault below e admitted passes = absurd (omega arith)
first_limit command grammar algebra number (word ∷ words) zero place d fault below e admitted passes = inl (omega arith, passes)
first_limit command grammar algebra number (word ∷ words) (suc k) place d fault below e admitted passes =
    inr (kept_in command (record { grammar = grammar; algebra = algebra; word = word }) admitted.0, first_limit command grammar algebra (number + 1) words k place d fault (omega arith) (omega arith) admitted.1 passes)

-- a word is refused by its own limits, or by those of its lists
pub own_refusal : (command : Command) (grammar : Grammar) (algebra len : ℕ) (error : AdmitError)
    → IsLengthRefusal command.second grammar algebra len error → IsWordRefusal command grammar algebra len error
own_refusal command grammar algebra len (admit_errors.Fault fault) is = inl is
own_refusal command grammar algebra len admit_errors.Memory is = tt

pub list_refusal : (command : Command) (p : PosedProblem) → IsAdmissibleWith command.second p → (fault : LimitFault)
    → IsListLimitFault p.grammar (length p.word) command.best fault
    → IsLimitIn command p.grammar p.algebra (length p.word) fault
list_refusal command p admitted fault is = inr (kept_of command.second p admitted, is)

-- what was found of a problem's lists is so of the word that it is of
pub lists_kept : (result : Result (Unit {0}) LimitFault) (p q : PosedProblem) (best asked : ℕ) → p ≡ q → best ≡ asked
    → MatchResult result (λ done. KeepsListLimits p.grammar (length p.word) best)
    (IsListLimitFault p.grammar (length p.word) best)
    → OnOk result (KeepsLimitsOfLists asked q.grammar (length q.word))
lists_kept (Ok done) p q best asked same told is = λ some.
    subst (λ (it : PosedProblem × ℕ). KeepsListLimits it.0.grammar (length it.0.word) it.1) (λ i. (same i, told i)) is
lists_kept (Err fault) p q best asked same told is = tt

pub lists_passed : (result : Result (Unit {0}) LimitFault) (p q : PosedProblem) (best asked : ℕ) → p ≡ q → best ≡ asked
    → MatchResult result (λ done. KeepsListLimits p.grammar (length p.word) best)
    (IsListLimitFault p.grammar (length p.word) best)
    → IfErr result (IsListLimitFault q.grammar (length q.word) asked)
lists_passed (Ok done) p q best asked same told is = tt
lists_passed (Err fault) p q best asked same told is =
    subst (λ (it : PosedProblem × ℕ). IsListLimitFault it.0.grammar (length it.0.word) it.1 fault)
    (λ i. (same i, told i)) is

-- where no lists are asked for they keep all limits
pub none_asked : (asked best : ℕ) → best ≡ asked → best ≡ 0 → (grammar : Grammar) (len : ℕ)
    → KeepsLimitsOfLists asked grammar len
none_asked asked best same none grammar len some = absurd (omega (arith, same, none, some))

-- a node bound that keeps its limit is told as it is
pub nodes_told : (grammar : Grammar) (len number : ℕ)
    → ((a b : ℕ) → IsNodeBound grammar len a → IsNodeBound grammar len b → a ≡ b) → HasFewNodes grammar len
    → IsToldNodeBound grammar len number → IsNodeBound grammar len number × (number ≤ most_nodes)
nodes_told grammar len number one (few, bound, low) (own, is, told_is) =
    let same : own ≡ few = one own few is bound in
    let exact : number ≡ own = omega (arith, told_is, same, low) in
    (subst (IsNodeBound grammar len) (sym exact) is, omega (arith, exact, same, low))

-- a word was refused
pub first_refused : (command : Command) (grammar : Grammar) (algebra : ℕ) (words : List (List ℕ)) (k len : ℕ)
    (error : AdmitError) → ((fault : LimitFault) → IsLimitIn command grammar algebra len fault
    → IsFirstLimit command grammar algebra 1 words (k + 1) fault) → IsWordRefusal command grammar algebra len error
    → IsLimitOf command grammar algebra words (limit_refusal k error)
first_refused command grammar algebra words k len (admit_errors.Fault fault) first found = first fault found
first_refused command grammar algebra words k len admit_errors.Memory first found = tt

-- the first word that passes a limit among the first words is the first among all
pub first_limit-more : (command : Command) (grammar : Grammar) (algebra number count : ℕ) (words : List (List ℕ)) (place : ℕ) (fault : LimitFault)
    → IsFirstLimit command grammar algebra number (take count words) place fault → IsFirstLimit command grammar algebra number words place fault
first_limit-more command grammar algebra number zero words place fault h = absurd h
first_limit-more command grammar algebra number (suc count) [] place fault h = h
first_limit-more command grammar algebra number (suc count) (word ∷ words) place fault (inl here) = inl here
first_limit-more command grammar algebra number (suc count) (word ∷ words) place fault (inr (kept, behind)) = inr (kept, first_limit-more command grammar algebra (number + 1) count words place fault behind)

-- one word more keeps the limits
pub admissible-more : (command : Command) (grammar : Grammar) (algebra : ℕ) (words : List (List ℕ)) (k : ℕ) (word : List ℕ) → k < length words → word ≡ get_or words k word
    → AllByRecursion (IsAdmissibleIn command) (posed_words grammar algebra (take k words)) → IsAdmissibleIn command (record { grammar = grammar; algebra = algebra; word = word })
    → AllByRecursion (IsAdmissibleIn command) (posed_words grammar algebra (take (suc k) words))
admissible-more command grammar algebra [] k word inside word_is before here = absurd (omega arith)
admissible-more command grammar algebra (first ∷ words) zero word inside word_is before here =
    (subst (λ (w : List ℕ). IsAdmissibleIn command (record { grammar = grammar; algebra = algebra; word = w })) word_is here, tt)
admissible-more command grammar algebra (first ∷ words) (suc k) word inside word_is before here = (before.0, admissible-more command grammar algebra words k word (omega arith) word_is before.1 here)

-- words that are admitted in a command are so under its algebras
pub own_admitted : (command : Command) (ps : List PosedProblem) → AllByRecursion (IsAdmissibleIn command) ps
    → AllByRecursion (IsAdmissibleWith command.second) ps
own_admitted command [] all = tt
own_admitted command (p ∷ ps) all = (all.0.0, own_admitted command ps all.1)

-- a word among those that are no longer than so many letters
pub short_at : (longest : ℕ) (words : List (List ℕ)) (k : ℕ) (word : List ℕ) → k < length words
    → word ≡ get_or words k word → AreShort longest words → length word ≤ longest
short_at longest words k word inside word_is short =
    let same : word ≡ get_or words k [] = get_or_read words k word inside word_is [] in
    let below = short k inside in
    omega (arith, ap length same, below)

-- a word among those that keep the limits keeps them
pub admissible-at : (second : Option (List ℕ)) (grammar : Grammar) (algebra : ℕ) (words : List (List ℕ)) (k : ℕ) (word : List ℕ) → k < length words → word ≡ get_or words k word
    → AllByRecursion (IsAdmissibleWith second) (posed_words grammar algebra words) → IsAdmissibleWith second (record { grammar = grammar; algebra = algebra; word = word })
admissible-at second grammar algebra [] k word inside word_is all = absurd (omega arith)
admissible-at second grammar algebra (first ∷ words) zero word inside word_is all = subst (λ (w : List ℕ). IsAdmissibleWith second (record { grammar = grammar; algebra = algebra; word = w })) (sym word_is) all.0
admissible-at second grammar algebra (first ∷ words) (suc k) word inside word_is all = admissible-at second grammar algebra words k word (omega arith) word_is all.1

abbrev posed : Grammar → ℕ → List ℕ → PosedProblem
posed grammar algebra word = record { grammar = grammar; algebra = algebra; word = word }

-- the word's problem is that of its place
pub posed_at : (grammar : Grammar) (algebra : ℕ) (words : List (List ℕ)) (k : ℕ) (word : List ℕ) (problem : PosedProblem) → k < length words
    → word ≡ get_or words k word → problem ≡ record { grammar = grammar; algebra = algebra; word = word }
    → (k < length (posed_words grammar algebra words)) × (problem ≡ get_or (posed_words grammar algebra words) k problem)
posed_at grammar algebra words k word problem inside word_is problem_is = (
  omega (arith, length-map words (posed grammar algebra)),
  problem_is ∙ ap (posed grammar algebra) word_is ∙ sym (get_or-map (posed grammar algebra) words k word problem inside),
)
