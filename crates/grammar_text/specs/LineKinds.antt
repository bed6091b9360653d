-- What stands wrong at a line, as the reader holds it.
use Rattle.std.specs.Prelude.{◌≡◌, ℕ, Bool, true, false, ◌&&◌, not, None, List, [], ◌∷◌, if◌then◌else◌}
use Rattle.std.specs.List.{list_any}
use Rattle.job_texts.specs.Declarations.{Declaration}
use Rattle.job_texts.specs.DeclaredNames.{TextLines, is_algebra_line}
use Rattle.job_texts.specs.TextFaults as faults
use Rattle.grammar_text.specs.Names.{first_passing}
use Rattle.grammar_text.specs.declared.reader.collected.LineSort.{LineSort}
use Rattle.grammar_text.specs.declared.reader.collected.LineSort.TheVariants.{Unclosed, Shapeless}
use Rattle.grammar_text.specs.declared.reader.kinds.LineTests.{LineTests}

-- the tests of a line whose words at the places of names and numbers are right, but for those before these kinds
pub record AreLaterTests (text : TextLines) (line : ℕ) (tests : LineTests) : Type 0 where
  pub unclosed : tests.unclosed ≡ faults.has_unclosed_quote text line
  pub repeated : tests.repeated ≡ faults.has_repeated_name text line
  pub no_letters : tests.no_letters ≡ faults.has_no_letters text line
  pub misplaced : tests.misplaced ≡ faults.has_misplaced_let text line
  pub no_words_line : tests.no_words_line ≡ faults.has_no_words_line text line
  pub not_one_axiom : tests.not_one_axiom ≡ faults.has_not_one_axiom text line
  pub unknown : tests.unknown ≡ faults.has_unknown_name text line
  pub misfit : tests.misfit ≡ faults.has_misfit text line
  pub crossed : tests.crossed ≡ faults.has_crossed_run text line
  pub lacks_let : tests.lacks_let ≡ faults.lacks_let text line
  pub passing_count : tests.unknown ≡ false → tests.passing_count ≡ faults.passing_count text line
  pub twice : tests.unknown ≡ false → tests.passing_count ≡ None → tests.twice ≡ faults.has_variable_twice text line

-- the tests of a line; behind a wrong name or number no other needs be known
pub record AreLineTests (text : TextLines) (line : ℕ) (tests : LineTests) : Type 0 where
  pub other_first_line : tests.other_first_line ≡ faults.has_other_first_line text line
  pub unprintable : tests.unprintable ≡ faults.has_unprintable_byte text line
  pub no_shape : tests.no_shape ≡ faults.has_no_shape text line
  pub no_name : tests.no_name ≡ faults.has_no_name text line
  pub no_number : tests.no_name ≡ false → tests.no_number ≡ faults.has_no_number text line
  pub later : tests.no_name ≡ false → tests.no_number ≡ false → AreLaterTests text line tests

-- the count of the words at a line, where it is a word's
abbrev pub word_counts : TextLines → ℕ → List faults.Counted
word_counts text line =
    if faults.is_word_line text line then faults.limited (faults.words_up_to text line) 65536 ∷ [] else []

-- the tests of a line, of a text that declares these, that look at more than what the line declares
pub record AreTestsAlone (text : TextLines) (all : List Declaration) (line : ℕ) (tests : LineTests) : Type 0 where
  pub other_first_line : tests.other_first_line ≡ faults.has_other_first_line text line
  pub unprintable : tests.unprintable ≡ faults.has_unprintable_byte text line
  pub no_shape : tests.no_shape ≡ faults.has_no_shape text line
  pub unclosed : tests.unclosed ≡ faults.has_unclosed_quote text line
  pub no_words_line : tests.no_words_line ≡ faults.has_no_words_line text line
  pub not_one_axiom :
      tests.not_one_axiom ≡ (faults.is_words_line_number text line && not (list_any faults.is_axiom_line all))
  pub lacks_let : tests.lacks_let ≡ (faults.is_words_line_number text line && not (list_any is_algebra_line all))
  pub passing_count : tests.passing_count ≡ first_passing (word_counts text line)
  pub twice : tests.twice ≡ false
  pub no_name : tests.no_name ≡ false
  pub no_number : tests.no_number ≡ false
  pub repeated : tests.repeated ≡ false
  pub no_letters : tests.no_letters ≡ false
  pub misplaced : tests.misplaced ≡ false
  pub unknown : tests.unknown ≡ false
  pub misfit : tests.misfit ≡ false
  pub crossed : tests.crossed ≡ false

-- the tokens of a line of this sort match no shape, or a byte of it begins no token
abbrev pub is_shapeless_sort : LineSort → Bool
is_shapeless_sort Shapeless = true
is_shapeless_sort sort = false

-- a `"` of a line of this sort begins no quoted text
abbrev pub is_unclosed_sort : LineSort → Bool
is_unclosed_sort Unclosed = true
is_unclosed_sort sort = false
