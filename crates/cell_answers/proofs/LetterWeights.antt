-- What the letter between the two arguments of a line weighs at the positions of its boundary.
use Rattle.std.proofs.Common.{◌≡◌, ℕ, ◌+◌, ◌-◌, ◌^◌, ◌<◌, ◌≤◌, ℤ, pos, ◌-ℤ◌, nat_abs, List, [], ◌∷◌, length, drop}
use Rattle.std.proofs.Common.{get_or, refl, sym, ap, ap₂, subst, ◌∙◌, arith}
use Rattle.std.specs.List.{AllByRecursion, Contains}
use Rattle.std.proofs.lemmas.List.{get_or-drop, length-drop}
use Rattle.adp_model.specs.declared.grammar.Arg.TheVariants.{Letter}
use Rattle.adp_model.specs.PosedProblem.{PosedProblem}
use Rattle.adp_model.specs.Parts.{letters_of}
use Rattle.adp_model.specs.ProblemFields.{greatest_score}
use Rattle.adp_model.specs.Splits.{FitsSpan}
use Rattle.adp_model.specs.Tokens.{letters_between, total_weight}
use Rattle.adp_model.specs.WellFormed.{IsKnown}
use Rattle.viable_splits.specs.Placing.{on_span, Cover}
use Rattle.split_lines.specs.Classes.{AreSums}
use Rattle.cell_answers.specs.declared.opened.OpenedLine.{OpenedLine}
use Rattle.cell_answers.specs.Opened.{IsOpened}
use Rattle.cell_answers.specs.Rows.{HasEntryAt}
use Rattle.cell_answers.proofs.Bounding.{length_between}
use Rattle.cell_answers.proofs.FrontPositions.{middle_covers, middle_weighted}
use Rattle.cell_answers.proofs.ScaledTotals.{at_cell}
use Rattle.cell_answers.specs.ArgumentEntries.{entries_of, IsScaled}

module _ (p : PosedProblem) (line : OpenedLine) (opened : IsOpened p line) (class : ℕ) (token : line.arguments.middle.now ≡ Letter class ∷ []) where
  open line use {arguments.{first.{now as first}, first_factor}, boundary.{letters, positions.{now as positions}}, from}

  pub class_known : class < length p.grammar.classes
  class_known =
      let known : AllByRecursion (IsKnown p.grammar) (Letter class ∷ []) = subst (AllByRecursion (IsKnown p.grammar))
      token (middle_weighted p line opened).known in
      known.0

  module _ (scale : ℤ) (scaled : IsScaled first first_factor line.row.goal scale) (sums : List ℤ)
      (are : AreSums (letters_of p.grammar class) p.word sums) (short : length p.word ≤ 4000) (begin : ℕ)
      (begin_is : line.row.first ≤ length sums → begin ≡ line.row.first)
      (numbers : List ℤ) (numbers_are : numbers ≡ drop begin sums)
      (position : ℕ) (stands : Contains positions position) where
    abbrev k : ℕ
    k = position - line.row.first

    fits : FitsSpan p (on_span (Letter class) position (position + letters))
    fits =
        let covers : Cover p (Letter class ∷ []) position (position + letters) =
        subst (λ tokens. Cover p tokens position (position + letters)) token
        (middle_covers p line opened position stands) in
        subst (λ end. FitsSpan p (on_span (Letter class) position end)) covers.2 covers.1

    one : letters ≡ 1
    one = let long = length_between p.word position (position + letters) fits.0.in_order fits.0.in_word in omega (arith, long, fits.1.0)

    within : position + 1 ≤ length p.word
    within = omega (arith, one, fits.0.in_word)

    from_first : line.row.first ≤ position
    from_first =
        (at_cell (HasEntryAt p (entries_of line.row) line.row.first position) first scaled.rule from position
        scaled.is_rule (opened.row position stands)).from_first

    begin_there : begin ≡ line.row.first
    begin_there = begin_is (omega (arith, are.each, within, from_first))

    here : get_or numbers k (pos 0) ≡ get_or sums position (pos 0)
    here =
        ap (λ xs. get_or xs k (pos 0)) numbers_are ∙ get_or-drop begin sums k (pos 0) ∙ ap (λ n. get_or sums n (pos 0)) (omega (arith, begin_there, from_first))

    behind : get_or numbers (k + 1) (pos 0) ≡ get_or sums (position + 1) (pos 0)
    behind =
        ap (λ xs. get_or xs (k + 1) (pos 0)) numbers_are ∙ get_or-drop begin sums (k + 1) (pos 0)
        ∙ ap (λ n. get_or sums n (pos 0)) (omega (arith, begin_there, from_first))

    pub weight_is : (get_or numbers (k + 1) (pos 0) -ℤ get_or numbers k (pos 0))
        ≡ total_weight (letters_of p.grammar class) (letters_between p.word position (position + letters))
    weight_is =
        ap₂ (λ x y. x -ℤ y) behind here
        ∙ sym (are.told position (position + 1) (record { in_order = omega arith; in_word = within }))
        ∙ ap (λ n. total_weight (letters_of p.grammar class) (letters_between p.word position (position + n))) (sym one)

    pub weight_within : k + 1 < length numbers
    weight_within = omega (arith, ap length numbers_are, length-drop begin sums, are.each, within, begin_there, from_first)

    pub weight_small : nat_abs (get_or numbers k (pos 0)) ≤ 2 ^ 100
    weight_small = let low = are.low position (omega (arith, within)) in omega (arith, low, ap nat_abs here, short, within)

    pub weight_small_behind : nat_abs (get_or numbers (k + 1) (pos 0)) ≤ 2 ^ 100
    weight_small_behind = let low = are.low (position + 1) within in omega (arith, low, ap nat_abs behind, short, within)

    pub weight_low : nat_abs (get_or numbers (k + 1) (pos 0) -ℤ get_or numbers k (pos 0)) ≤ greatest_score
    weight_low =
        subst (λ w. nat_abs w ≤ greatest_score) (sym weight_is)
        ((middle_weighted p line opened).tokens_low (Letter class) position (position + letters)
        (subst (λ tokens. Contains tokens (Letter class)) (sym token) (0, omega arith, refl)) fits)
