-- The spelling of the grammar of pairs.
use Rattle.std.proofs.Common.{◌≡◌, ℕ, List, [], ◌++◌, ◌&&◌, ◌||◌, ◌==◌, Bool, true, false, IsTrue, codes, refl, ap₂, subst, sym}
use Rattle.std.proofs.lemmas.Bool.{eqb-true}
use Rattle.std.specs.List.{flat_map}
use Rattle.std.specs.Fmt.{decimal, digits}
use Rattle.adp_model.specs.declared.grammar.Grammar.{Grammar}
use Rattle.adp_model.specs.Report.{line}
use Rattle.job_texts.specs.Spelling.{grammar_lines}
use Rattle.adp_model.specs.BigReport.{pairs_grammar}
use Rattle.adp_model.specs.WellFormed.{is_of_version}
use Rattle.big_problems.specs.PairsText.{pairs_text}

first_of_both : (one two : Bool) → IsTrue (one && true && true || two && false) → one ≡ true
first_of_both true two told = refl
first_of_both false true told = told
first_of_both false false told = told

-- the grammar has linear terms, so it is one of the first format
of_first_format : (version : ℕ) → IsTrue (is_of_version version pairs_grammar) → version ≡ 1
of_first_format version told = eqb-true version 1 (first_of_both (version == 1) (version == 2) told)

-- a job's spelling, by its format, its grammar and its words
abbrev spelling_by : ℕ → Grammar → List (List ℕ) → List ℕ
spelling_by version grammar words =
    line (codes "adp " ++ decimal version) ++ grammar_lines grammar ++ line (codes "words") ++ flat_map line words

spelled_by : (version : ℕ) (grammar : Grammar) (words : List (List ℕ)) → version ≡ 1 → grammar ≡ pairs_grammar → words ≡ []
    → spelling_by version grammar words ≡ pairs_text
unfolding digits
spelled_by version grammar words first same none =
    subst (λ n. spelling_by n grammar words ≡ pairs_text) (sym first) (ap₂ (spelling_by 1) same none)

pub spelled : (version : ℕ) (grammar : Grammar) (words : List (List ℕ)) → IsTrue (is_of_version version grammar)
    → grammar ≡ pairs_grammar → words ≡ [] → spelling_by version grammar words ≡ pairs_text
spelled version grammar words formed same none =
    spelled_by version grammar words
    (of_first_format version (subst (λ (g : Grammar). IsTrue (is_of_version version g)) same formed)) same none
