-- What the words of a declaration show of its leaves and its variables, where its names and numbers are right.
use Rattle.std.proofs.Common.{◌≡◌, ℕ, true, false, Option, Some, None, List, refl, sym, ◌∙◌, ap}
use Rattle.std.specs.Option.{option_or}
use Rattle.job_texts.specs.Declarations.{Declaration, Class, Sign, Algebra, Let, Rule, Axiom, Words}
use Rattle.job_texts.specs.TextFaults as faults
use Rattle.grammar_text.specs.declared.reader.faults.OwnWords.{OwnWords}
use Rattle.grammar_text.specs.declared.reader.faults.OwnWords.TheVariants.{Misnamed, Misnumbered, Unknown, Many, Twice, Right}
use Rattle.grammar_text.specs.Names.{declares_its_variables, first_passing, leaf_counts, line_counts}
use Rattle.grammar_text.specs.LineTests.{AreOwnWords, AreRightWords, has_twice, knows_variables, passing_leaves}

pub knows : (declaration : Declaration) (own : OwnWords) → AreRightWords declaration own → knows_variables own ≡ declares_its_variables declaration
knows declaration Misnamed h = absurd h
knows declaration Misnumbered h = absurd h
knows declaration Unknown h = sym h
knows declaration (Many leaves) h = sym h.0
knows declaration Twice h = sym h.0
knows declaration Right h = sym h.0

leaves_are : (declaration : Declaration) (own : OwnWords) → AreRightWords declaration own → declares_its_variables declaration ≡ true → passing_leaves own ≡ first_passing (leaf_counts declaration)
leaves_are declaration Misnamed h known = absurd h
leaves_are declaration Misnumbered h known = absurd h
leaves_are declaration Unknown h known = absurd cc
leaves_are declaration (Many leaves) h known = sym h.1
leaves_are declaration Twice h known = sym h.1
leaves_are declaration Right h known = sym h.1

or_none : (found : Option ℕ) → option_or found None ≡ found
or_none None = refl
or_none (Some n) = refl

counts_are : (above : List Declaration) (declaration : Declaration) → option_or (first_passing (leaf_counts declaration)) (first_passing (line_counts above declaration)) ≡ first_passing (faults.counts_of above declaration)
counts_are above (Let sign variables term) = or_none (first_passing (leaf_counts (Let sign variables term)))
counts_are above (Class name items) = refl
counts_are above (Sign name kinds) = refl
counts_are above (Algebra name goal) = refl
counts_are above (Rule name alternatives) = refl
counts_are above (Axiom rule) = refl
counts_are above Words = refl

pub all_counts : (above : List Declaration) (declaration : Declaration) (own : OwnWords) → AreRightWords declaration own → declares_its_variables declaration ≡ true
    → option_or (passing_leaves own) (first_passing (line_counts above declaration)) ≡ first_passing (faults.counts_of above declaration)
all_counts above declaration own h known =
    ap (λ (found : Option ℕ). option_or found (first_passing (line_counts above declaration))) (leaves_are declaration own h known) ∙ counts_are above declaration

pub stands_twice : (declaration : Declaration) (own : OwnWords) (others : Option ℕ) → AreRightWords declaration own → declares_its_variables declaration ≡ true → option_or (passing_leaves own) others ≡ None
    → has_twice own ≡ faults.is_twice declaration
stands_twice declaration Misnamed others h known none = absurd h
stands_twice declaration Misnumbered others h known none = absurd h
stands_twice declaration Unknown others h known none = absurd cc
stands_twice declaration (Many leaves) others h known none = absurd cc
stands_twice declaration Twice others h known none = sym h.2
stands_twice declaration Right others h known none = sym h.2

-- words that are neither misnamed nor misnumbered are right
pub right_words : (declaration : Declaration) (own : OwnWords) → (own ≡ Misnamed → ⊥) → (own ≡ Misnumbered → ⊥) → AreOwnWords declaration own
    → (faults.misnames declaration ≡ false) × (faults.misnumbers declaration ≡ false) × AreRightWords declaration own
right_words declaration Misnamed other another h = absurd (other refl)
right_words declaration Misnumbered other another h = absurd (another refl)
right_words declaration Unknown other another h = (h.0, h.1, h.2)
right_words declaration (Many leaves) other another h = (h.0.0, h.0.1, (h.0.2, h.1))
right_words declaration Twice other another h = (h.0.0, h.0.1, (h.0.2, h.1, h.2))
right_words declaration Right other another h = (h.0.0, h.0.1, (h.0.2, h.1, h.2))
