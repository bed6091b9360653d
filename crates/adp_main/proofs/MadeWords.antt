-- The word that is made: its grammar has no fault, its length is its size, and what is reported of it.
use Rattle.std.proofs.Common.{◌≡◌, Option, Result, ℕ, zero, suc, List, length, refl, sym, ap, subst, ◌∙◌, arith}
use Rattle.adp_model.specs.declared.cell.Answer.{Answer}
use Rattle.adp_model.specs.declared.cell.Answer.TheVariants.{NoCandidate}
use Rattle.adp_model.specs.declared.fault.GrammarFault.{GrammarFault}
use Rattle.adp_model.specs.declared.grammar.Grammar.{Grammar}
use Rattle.adp_model.specs.Answers.{IsAnswer}
use Rattle.adp_model.specs.BigReport.{made_problem, made_word, next_state, pairs_grammar, IsBigReport}
use Rattle.verdicts.specs.Command.{Command}
use Rattle.adp_model.specs.Derivation.{Derives}
use Rattle.adp_model.specs.GrammarFaults.{HasOtherTerm, IsFaultless, IsGrammarFault, IsNamed, NoAlgebra, Unproductive, Loop, NotMonotone, Impossible}
use Rattle.adp_model.specs.PosedProblem.{PosedProblem, axiom_cell}
use Rattle.adp_model.specs.Tree.{Tree}
use Rattle.evaluators.specs.declared.finished.Finished.{Finished}
use Rattle.evaluators.specs.declared.finished.RunNote.{RunNote}
use Rattle.report.specs.declared.fault.Fault.{Fault}
use Rattle.adp_io.specs.Causes.{RisesWhere}
use Rattle.adp_main.specs.declared.status.Status.TheVariants.{Memory, WriteFault}
use Rattle.adp_main.specs.RunNotes.{IsBigRun, IsNoteFor}
use Rattle.adp_main.specs.Writing.{IsRunWith, IsWordEnding}
use Rattle.adp_main.proofs.Running.{ending_of}

pub made_length : (seed size : ℕ) → length (made_word seed size) ≡ size
made_length seed zero = refl
made_length seed (suc size) = ap suc (made_length (next_state seed) size)

-- there is one algebra
only_algebra : (name : List ℕ) (algebra : ℕ) → IsNamed pairs_grammar name algebra → algebra ≡ 0
only_algebra name algebra named = omega (arith, named.in_range)

pub first_algebra : (name : List ℕ) (algebra : ℕ) → IsFaultless pairs_grammar name algebra → algebra ≡ 0
first_algebra name algebra sound = only_algebra name algebra sound.named

pub no_fault : (name : List ℕ) (fault : GrammarFault) → IsFaultless pairs_grammar name 0
    → IsGrammarFault pairs_grammar name fault → ⊥
no_fault name fault sound (NoAlgebra none) = none 0 sound.named
no_fault name fault sound (Unproductive other rule named first) = first.faulty (sound.productive rule first.in_range)
no_fault name fault sound (Loop other rule named productive first) = sound.no_loop rule first.in_range first.faulty
no_fault name fault sound (NotMonotone other sign named productive off first) =
    subst (λ n. HasOtherTerm pairs_grammar n sign) (only_algebra name other named) first.faulty
    (sound.monotone sign first.in_range)
no_fault name fault sound (Impossible other rule named productive off monotone first) = first.faulty (sound.possible rule first.in_range)

-- the problem of the word under the checked grammar
pub problem_is : (problem : PosedProblem) (grammar : Grammar) (algebra seed size : ℕ) (word : List ℕ)
    → problem ≡ record { grammar = grammar; algebra = algebra; word = word } → grammar ≡ pairs_grammar → algebra ≡ 0
    → word ≡ made_word seed size → problem ≡ made_problem seed size
problem_is problem grammar algebra seed size word is g a w =
    is ∙ (λ i. record { grammar = g i; algebra = a i; word = w i })

-- a word that is made has a candidate
pub has_candidate : (p : PosedProblem) (seed size : ℕ) → p ≡ made_problem seed size
    → (tree : Tree) × Derives (made_problem seed size) (axiom_cell (made_problem seed size)) tree
    → (answer : Answer) → IsAnswer p (axiom_cell p) answer → answer ≡ NoCandidate → ⊥
has_candidate p seed size is tree answer answered none =
    let there = subst (λ it. IsAnswer (made_problem seed size) (axiom_cell (made_problem seed size)) it) none
    (subst (λ (q : PosedProblem). IsAnswer q (axiom_cell q) answer) is answered) in
    there tree.0 tree.1

-- no write failed where memory ran out
pub no_write_failed : (count : ℕ) → RisesWhere count count (Memory ≡ WriteFault)
no_write_failed count = record { later = omega arith; rises = λ e. cc; stands = λ _. refl }

-- the run for it
pub big_word : (command : Command) (p : PosedProblem) (finished : Finished) (report bytes : List ℕ)
    → p ≡ made_problem command.seed command.size → IsBigReport command.seed command.size report → bytes ≡ report
    → (result : Result (Unit {0}) Fault) (old new : Option (List RunNote)) (held held' : Option (List ℕ))
    → IsWordEnding (IsRunWith command p finished bytes) result old new held held'
    → IsWordEnding (IsBigRun command) result old new held held'
big_word command p finished report bytes made is same =
    ending_of (λ written noted (run : IsRunWith command p finished bytes written noted). (
      subst (IsBigReport command.seed command.size) (sym (run.0 ∙ same)) is,
      run.1,
      run.2,
      subst (λ (q : PosedProblem). IsNoteFor command q run.1) made run.3,
    ))
