-- The tests of a line, as the reader makes them.
use Rattle.std.specs.Prelude.{◌≡◌, ℕ, ◌+◌, Bool, true, false, ◌&&◌, not, Option, Some, None, List, take, drop, get_or}
use Rattle.std.specs.List.{list_all, list_any}
use Rattle.job_texts.specs.TermText.{is_among}
use Rattle.job_texts.specs.Declarations.{Declaration, Words}
use Rattle.job_texts.specs.DeclaredNames.{is_algebra_line, section_of, let_signs, sign_names}
use Rattle.job_texts.specs.TextFaults as faults
use Rattle.grammar_text.specs.Judged.{has_crossed_run}
use Rattle.grammar_text.specs.Names.{declares_its_variables, first_passing, leaf_counts}
use Rattle.grammar_text.specs.declared.reader.faults.OwnWords.{OwnWords}
use Rattle.grammar_text.specs.declared.reader.faults.OwnWords.TheVariants.{Misnamed, Misnumbered, Unknown, Many, Twice, Right}
use Rattle.grammar_text.specs.declared.reader.faults.FormTests.{FormTests}

-- its names and numbers are right, and the variables of a term are declared
abbrev pub IsRightBut : Declaration → Type 0
IsRightBut declaration =
    (faults.misnames declaration ≡ false) × (faults.misnumbers declaration ≡ false)
    × (declares_its_variables declaration ≡ true)

-- what the words of a declaration show: the first that is wrong with them
abbrev pub AreOwnWords : Declaration → OwnWords → Type 0
AreOwnWords declaration Misnamed = faults.misnames declaration ≡ true
AreOwnWords declaration Misnumbered = (faults.misnames declaration ≡ false) × (faults.misnumbers declaration ≡ true)
AreOwnWords declaration Unknown =
    (faults.misnames declaration ≡ false) × (faults.misnumbers declaration ≡ false)
    × (declares_its_variables declaration ≡ false)
AreOwnWords declaration (Many leaves) = IsRightBut declaration × (first_passing (leaf_counts declaration) ≡ Some leaves)
AreOwnWords declaration Twice =
    IsRightBut declaration × (first_passing (leaf_counts declaration) ≡ None) × (faults.is_twice declaration ≡ true)
AreOwnWords declaration Right =
    IsRightBut declaration × (first_passing (leaf_counts declaration) ≡ None) × (faults.is_twice declaration ≡ false)

-- the words of a declaration, whose names and numbers are right
abbrev pub AreRightWords : Declaration → OwnWords → Type 0
AreRightWords declaration Misnamed = ⊥
AreRightWords declaration Misnumbered = ⊥
AreRightWords declaration Unknown = declares_its_variables declaration ≡ false
AreRightWords declaration (Many leaves) =
    (declares_its_variables declaration ≡ true) × (first_passing (leaf_counts declaration) ≡ Some leaves)
AreRightWords declaration Twice =
    (declares_its_variables declaration ≡ true) × (first_passing (leaf_counts declaration) ≡ None)
    × (faults.is_twice declaration ≡ true)
AreRightWords declaration Right =
    (declares_its_variables declaration ≡ true) × (first_passing (leaf_counts declaration) ≡ None)
    × (faults.is_twice declaration ≡ false)

-- the variables of the term are declared
abbrev pub knows_variables : OwnWords → Bool
knows_variables Unknown = false
knows_variables own = true

-- how many leaves there are, where they are too many
abbrev pub passing_leaves : OwnWords → Option ℕ
passing_leaves (Many leaves) = Some leaves
passing_leaves own = None

-- a variable stands twice
abbrev pub has_twice : OwnWords → Bool
has_twice Twice = true
has_twice own = false

-- a second `grammar` line
abbrev pub is_second_axiom : List Declaration → Declaration → Bool
is_second_axiom above declaration = faults.is_axiom_line declaration && list_any faults.is_axiom_line above

-- an algebra line whose section lacks a `let` for a declared sign
abbrev pub section_lacks_let : List Declaration → List Declaration → Declaration → Bool
section_lacks_let all below declaration =
    is_algebra_line declaration && not (list_all (is_among (let_signs (section_of below))) (sign_names all))

-- the tests of one of these declarations, the one at this place
pub record AreFormTests (all : List Declaration) (place : ℕ) (tests : FormTests) : Type 0 where
  pub repeats : tests.repeats ≡ faults.repeats (take place all) (get_or all place Words)
  pub misletters : tests.misletters ≡ faults.misletters (get_or all place Words)
  pub is_misplaced : tests.is_misplaced ≡ faults.is_misplaced (take place all) (get_or all place Words)
  pub is_second_axiom : tests.is_second_axiom ≡ is_second_axiom (take place all) (get_or all place Words)
  pub uses_unknown : tests.uses_unknown ≡ faults.uses_unknown all (get_or all place Words)
  pub misfits : tests.misfits ≡ faults.misfits all (get_or all place Words)
  pub has_crossed_run : tests.has_crossed_run ≡ has_crossed_run (get_or all place Words)
  pub lacks_let : tests.lacks_let ≡ section_lacks_let all (drop (place + 1) all) (get_or all place Words)
  pub passing_count : declares_its_variables (get_or all place Words) ≡ true
      → tests.passing_count ≡ first_passing (faults.counts_of (take place all) (get_or all place Words))
  pub twice : declares_its_variables (get_or all place Words) ≡ true → tests.passing_count ≡ None
      → tests.twice ≡ faults.is_twice (get_or all place Words)
