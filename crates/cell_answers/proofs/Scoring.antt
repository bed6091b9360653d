-- The best score of a cell is the greatest of its splits' scores, turned.
use Rattle.std.proofs.Common.{◌≡◌, ℕ, zero, suc, negsuc, ◌-◌, ◌*◌, ◌<◌, ◌≤◌, ◌⊎◌, ℤ, pos, neg_ℤ, ◌+ℤ◌, ◌*ℤ◌, ◌≤ℤ◌, ◌<ℤ◌}
use Rattle.std.proofs.Common.{nat_abs, Option, Some, None, List, length, refl, sym, ap, subst, ◌∙◌, inl, inr, arith}
use Rattle.std.specs.Prelude.{MatchOption}
use Rattle.std.proofs.lemmas.Int.{ints}
use Rattle.std.proofs.Math.IntN.{neg_ℤ-neg_ℤ, zero-*ℤ}
use Rattle.adp_model.specs.declared.grammar.Goal.{Goal}
use Rattle.adp_model.specs.declared.grammar.Goal.TheVariants.{Least, Greatest}
use Rattle.adp_model.specs.declared.cell.Answer.{Answer}
use Rattle.adp_model.specs.declared.cell.Answer.TheVariants.{Best}
use Rattle.adp_model.specs.declared.cell.Cell.{Cell}
use Rattle.adp_model.specs.declared.cell.Choice.{Choice}
use Rattle.adp_model.specs.PosedProblem.{PosedProblem, IsSpan}
use Rattle.adp_model.specs.Lengths.{AllowsLength}
use Rattle.adp_model.specs.Parts.{algebra_of, alternative_at, alternatives_of, arguments_of, term_of}
use Rattle.adp_model.specs.Terms.{weighted_sum, term_value}
use Rattle.adp_model.specs.Scores.{IsBetter}
use Rattle.adp_model.specs.Answers.{IsAnswer}
use Rattle.adp_model.specs.Bellman.{HasBestScore, Bellman}
use Rattle.adp_model.specs.FirstSplit.{IsScoredSplit}
use Rattle.cell_answers.specs.Totals.{HasLaidScore, HasTotal, HasTurnedScore, HaveValues}
use Rattle.score_numbers.specs.Greatest.{IsGreatestOf}
use Rattle.score_numbers.specs.Turned.{turned}
use Rattle.cell_answers.proofs.Greatest.{greatest_same, greatest_moved, HasBefore}
use Rattle.split_lines.specs.Kept.{IsScoredBy}
use Rattle.cell_answers.proofs.Splitting.{split_of_values, values_of_split}
use Rattle.cell_answers.proofs.Totalling.{values_length}

-- ---- numbers, turned

pub turned_twice : (goal : Goal) (number : ℤ) → turned goal (turned goal number) ≡ number
turned_twice Least number = neg_ℤ-neg_ℤ number
turned_twice Greatest number = refl

pub turned_low : (goal : Goal) (number : ℤ) → nat_abs (turned goal number) ≡ nat_abs number
turned_low Least number = omega (arith, ints)
turned_low Greatest number = refl

product_negated : (a b : ℤ) → neg_ℤ (a *ℤ b) ≡ (neg_ℤ a *ℤ b)
product_negated (pos zero) b = ap neg_ℤ (zero-*ℤ b) ∙ sym (zero-*ℤ b)
product_negated (pos (suc m)) (pos n) = refl
product_negated (pos (suc m)) (negsuc n) = neg_ℤ-neg_ℤ (pos (suc m * suc n))
product_negated (negsuc m) (pos n) = neg_ℤ-neg_ℤ (pos (suc m * n))
product_negated (negsuc m) (negsuc n) = refl

pub turned_product : (goal : Goal) (a b : ℤ) → turned goal (a *ℤ b) ≡ (turned goal a *ℤ b)
turned_product Least a b = product_negated a b
turned_product Greatest a b = refl

-- the constant with the greatest total of the factors
pub turned_greatest : (p : PosedProblem) (cell : Cell) (alternative : ℕ) (constant : ℤ) (factors : List ℤ)
    → IsScoredBy p cell.rule alternative constant factors → (greatest : Option ℤ)
    → IsGreatestOf (HasTotal p (HasBestScore p) (arguments_of p.grammar cell.rule alternative) factors cell.from cell.to) greatest
    → (all : Option ℤ) → MatchOption greatest (all ≡ None) (λ total. all ≡ Some (constant +ℤ total)) → IsGreatestOf (HasLaidScore p cell alternative) all
turned_greatest p cell alternative constant factors scored None none all is =
    subst (IsGreatestOf (HasLaidScore p cell alternative)) (sym is) (λ number has. none (weighted_sum factors has.0) (has.0, has.1, refl))
turned_greatest p cell alternative constant factors scored (Some greatest) it all is =
    let Total : ℤ → Type 0 = HasTotal p (HasBestScore p) (arguments_of p.grammar cell.rule alternative) factors cell.from cell.to in
    let value : (values : List ℤ) → HaveValues p (HasBestScore p) (arguments_of p.grammar cell.rule alternative) cell.from cell.to values
    → turned (algebra_of p).goal (term_value (term_of p cell.rule alternative) values) ≡ (constant +ℤ weighted_sum factors values) =
    λ values have. scored.value values (values_length p (HasBestScore p) (arguments_of p.grammar cell.rule alternative) cell.from cell.to values have) in
    subst (IsGreatestOf (HasLaidScore p cell alternative)) (sym is)
    (greatest_same (λ number. (other : ℤ) × Total other × (number ≡ (constant +ℤ other))) (HasLaidScore p cell alternative) (Some (constant +ℤ greatest))
    (λ number h. (h.1.0, h.1.1, h.2 ∙ ap (λ it. constant +ℤ it) h.1.2 ∙ sym (value h.1.0 h.1.1)))
    (λ number has. (weighted_sum factors has.0, (has.0, has.1, refl), has.2 ∙ value has.0 has.1))
    (greatest_moved Total constant greatest it))

-- what gives the greatest score where the alternative allows the cell's length
pub greatest_allowed : (p : PosedProblem) (cell : Cell) (alternative : ℕ) (greatest : Option ℤ)
    → AllowsLength (alternative_at p.grammar cell.rule alternative) (cell.to - cell.from)
    → IsGreatestOf (HasLaidScore p cell alternative) greatest → IsGreatestOf (HasTurnedScore p cell alternative) greatest
greatest_allowed p cell alternative greatest allowed it =
    greatest_same (HasLaidScore p cell alternative) (HasTurnedScore p cell alternative) greatest (λ number has. (allowed, has)) (λ number has. has.1) it

-- ---- the greatest over alternatives

abbrev pub HasScoreBefore : PosedProblem → Cell → ℕ → ℤ → Type 0
HasScoreBefore p cell = HasBefore (HasTurnedScore p cell)

-- ---- the best score

pub better_or_same : (goal : Goal) (a b : ℤ) → (IsBetter goal a b → ⊥) → (IsBetter goal b a → ⊥) → a ≡ b
better_or_same Least a b h k = elim (order a b) [ inl l ↦ absurd (h l) | inr (inl e) ↦ e | inr (inr l) ↦ absurd (k l) ]
  where
    order : (x y : ℤ) → (x <ℤ y) ⊎ ((x ≡ y) ⊎ (y <ℤ x))
    order x y = grind (arith, ints)
better_or_same Greatest a b h k = elim (order a b) [ inl l ↦ absurd (k l) | inr (inl e) ↦ e | inr (inr l) ↦ absurd (h l) ]
  where
    order : (x y : ℤ) → (x <ℤ y) ⊎ ((x ≡ y) ⊎ (y <ℤ x))
    order x y = grind (arith, ints)

pub not_better : (goal : Goal) (a b : ℤ) → turned goal a ≤ℤ turned goal b → IsBetter goal a b → ⊥
not_better Least a b l better = omega (arith, ints)
not_better Greatest a b l better = omega (arith, ints)

module _ (p : PosedProblem) (bellman : Bellman p) (cell : Cell) (span : IsSpan p.word cell.from cell.to)
    (some : (alternative : ℕ) → alternative < length (alternatives_of p.grammar cell.rule) → 1 ≤ length (arguments_of p.grammar cell.rule alternative))
    (few : (alternative : ℕ) → length (arguments_of p.grammar cell.rule alternative) ≤ 4) where
  abbrev Scored : ℤ → Choice → Type 0
  Scored = IsScoredSplit p (HasBestScore p) cell

  pub scored_in : (score : ℤ) (choice : Choice) → Scored score choice → HasTurnedScore p cell choice.alt (turned (algebra_of p).goal score)
  scored_in score choice split =
      let have = values_of_split p (HasBestScore p) cell choice.alt choice.cuts split.values
      (some choice.alt split.viable.in_range) (few choice.alt) split.viable split.are_values in
      (split.viable.allowed, (split.values, have, ap (turned (algebra_of p).goal) split.scored))

  pub turned_in : (number : ℤ) (alternative : ℕ) → alternative < length (alternatives_of p.grammar cell.rule)
      → HasTurnedScore p cell alternative number → (cuts : List ℕ) × Scored (turned (algebra_of p).goal number)
      (record { alt = alternative; cuts = cuts })
  turned_in number alternative in_range (allowed, (values, have, is)) =
      let split = split_of_values p (HasBestScore p) cell alternative values in_range allowed (some alternative in_range) (few alternative) have in
      let score : turned (algebra_of p).goal number ≡ term_value (term_of p cell.rule alternative) values =
      ap (turned (algebra_of p).goal) is ∙ turned_twice (algebra_of p).goal
      (term_value (term_of p cell.rule alternative) values) in
      (split.0, record { viable = split.1; values = values; are_values = split.2; scored = score })

-- a cell has one score at most, where it has one answer at most
pub one_score : (p : PosedProblem) → ((cell : Cell) (a b : Answer) → IsAnswer p cell a → IsAnswer p cell b → a ≡ b)
    → (cell : Cell) (a b : ℤ) → HasBestScore p cell a → HasBestScore p cell b → a ≡ b
one_score p one cell a b (choice, is) (choice', is') = let e = one cell (Best a choice) (Best b choice') is is' in cc
