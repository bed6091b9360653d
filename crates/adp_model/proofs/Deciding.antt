-- Whether a split is viable, and whether it is scored, is decided.
use Rattle.std.proofs.Common.{◌≡◌, ℕ, ◌-◌, ◌<◌, ◌≤◌, ℤ, inl, inr, Option, Some, None, IsSome, List, [], ◌∷◌, length, drop, refl}
use Rattle.std.specs.List.{AllByRecursion}
use Rattle.adp_model.specs.declared.grammar.Arg.{Arg}
use Rattle.adp_model.specs.declared.grammar.Arg.TheVariants.{Rule, Literal, Letter, Run}
use Rattle.adp_model.specs.declared.grammar.Grammar.{Grammar}
use Rattle.adp_model.specs.declared.cell.Cell.{Cell}
use Rattle.adp_model.specs.declared.cell.Choice.{Choice}
use Rattle.adp_model.specs.PosedProblem.{PosedProblem, IsSpan}
use Rattle.adp_model.specs.Parts.{letters_of, alternatives_of, alternative_at, arguments_of, term_of}
use Rattle.adp_model.specs.Tokens.{letters_between, weight_of, IsIn, Matches, token_value}
use Rattle.adp_model.specs.Lengths.{low_of, high_of, AllowsLength}
use Rattle.adp_model.specs.declared.grammar.Alt.{Alt}
use Rattle.adp_model.specs.Terms.{term_value}
use Rattle.adp_model.specs.Scores.{score_of}
use Rattle.adp_model.specs.Answers.{choice_of}
use Rattle.adp_model.specs.Splits.{Placed, place, placed, ends_by, FitsSpan, IsViable, AtRule}
use Rattle.adp_model.specs.FirstSplit.{IsScoredSplit}
use Rattle.adp_model.specs.Bellman.{HasBestScore}
use Rattle.adp_model.proofs.Decisions.{Decided, both, all_three, for_all, same_number, at_most, within_high, same_list}
use Rattle.adp_model.proofs.Premises.{IsSolved, IsSolvable, AreBestValues}

-- ---- tokens and spans

some_or_none : (o : Option ℤ) → Decided (IsSome o)
some_or_none None = inr (λ e. cc)
some_or_none (Some x) = inl refl

in_class : (class : List (ℕ × ℤ)) (letter : ℕ) → Decided (IsIn class letter)
in_class class letter = some_or_none (weight_of class letter)

token_matches : (grammar : Grammar) (token : Arg) (letters : List ℕ) → Decided (Matches grammar token letters)
token_matches grammar (Rule rule) letters = inr (λ h. h)
token_matches grammar (Literal text) letters = same_list letters text
token_matches grammar (Letter class) letters = both (same_number (length letters) 1) (for_all (IsIn (letters_of grammar class)) (in_class (letters_of grammar class)) letters)
token_matches grammar (Run class low high) letters =
    all_three (at_most low (length letters)) (within_high high (length letters)) (for_all (IsIn (letters_of grammar class)) (in_class (letters_of grammar class)) letters)

is_span : (word : List ℕ) (from to : ℕ) → Decided (IsSpan word from to)
is_span word from to = go (both (at_most from to) (at_most to (length word)))
  where
    go : Decided ((from ≤ to) × (to ≤ length word)) → Decided (IsSpan word from to)
    go (inl h) = inl (record { in_order = h.0; in_word = h.1 })
    go (inr wrong) = inr (λ h. wrong (h.in_order, h.in_word))

fits_at : (p : PosedProblem) (measure : Cell → ℕ) → IsSolvable p measure → (argument : Arg) (from to : ℕ) → Decided (FitsSpan p (record { argument = argument; from = from; to = to }))
fits_at p measure solvable (Rule rule) from to = both (is_span p.word from to) (solvable.decided rule (to - from))
fits_at p measure solvable (Literal text) from to = both (is_span p.word from to) (token_matches p.grammar (Literal text) (letters_between p.word from to))
fits_at p measure solvable (Letter class) from to = both (is_span p.word from to) (token_matches p.grammar (Letter class) (letters_between p.word from to))
fits_at p measure solvable (Run class low high) from to = both (is_span p.word from to) (token_matches p.grammar (Run class low high) (letters_between p.word from to))

fits_span : (p : PosedProblem) (measure : Cell → ℕ) → IsSolvable p measure → (placed : Placed) → Decided (FitsSpan p placed)
fits_span p measure solvable placed = fits_at p measure solvable placed.argument placed.from placed.to

allows : (alternative : Alt) (len : ℕ) → Decided (AllowsLength alternative len)
allows alternative len = both (at_most (low_of alternative.size) len) (within_high (high_of alternative.size) len)

-- ---- splits

pub viable_or_not : (p : PosedProblem) (measure : Cell → ℕ) → IsSolvable p measure → (cell : Cell) (alternative : ℕ) (cuts : List ℕ) → alternative < length (alternatives_of p.grammar cell.rule) → length cuts ≡ 3 → Decided (IsViable p cell alternative cuts)
viable_or_not p measure solvable cell alternative cuts in_range three =
    go (all_three
    (allows (alternative_at p.grammar cell.rule alternative) (cell.to - cell.from))
    (for_all (λ boundary. boundary ≡ cell.to) (λ boundary. same_number boundary cell.to) (drop (length (arguments_of p.grammar cell.rule alternative) - 1) (ends_by cell cuts)))
    (for_all (FitsSpan p) (fits_span p measure solvable) (placed p cell alternative cuts)))
  where
    go : Decided (AllowsLength (alternative_at p.grammar cell.rule alternative) (cell.to - cell.from) × AllByRecursion (λ boundary. boundary ≡ cell.to) (drop (length (arguments_of p.grammar cell.rule alternative) - 1) (ends_by cell cuts)) × AllByRecursion (FitsSpan p) (placed p cell alternative cuts)) → Decided (IsViable p cell alternative cuts)
    go (inl h) = inl (record { in_range = in_range; allowed = h.0; three = three; last = h.1; fits = h.2 })
    go (inr wrong) = inr (λ viable. wrong (viable.allowed, viable.last, viable.fits))

-- a rule argument's cell, solved, gives its value
with_rule : (p : PosedProblem) (rule from to : ℕ) (others : List Placed) → IsSolved p (record { rule = rule; from = from; to = to }) → Decided ((values : List ℤ) × AreBestValues p others values) → Decided ((values : List ℤ) × AreBestValues p (record { argument = Rule rule; from = from; to = to } ∷ others) values)
with_rule p rule from to others (inl none) rest = inr wrong
  where
    wrong : (values : List ℤ) × AreBestValues p (record { argument = Rule rule; from = from; to = to } ∷ others) values → ⊥
    wrong ([], best) = best
    wrong (value ∷ values, best) = none best.0.1.0 best.0.1.1.derived
with_rule p rule from to others (inr found) (inl rest) = inl (score_of p found.0 ∷ rest.0, ((choice_of found.0, (found.0, found.1, refl, refl)), rest.1))
with_rule p rule from to others (inr found) (inr none) = inr wrong
  where
    wrong : (values : List ℤ) × AreBestValues p (record { argument = Rule rule; from = from; to = to } ∷ others) values → ⊥
    wrong ([], best) = best
    wrong (value ∷ values, best) = none (values, best.1)

best_or_not : (p : PosedProblem) (arguments : List Arg) (from : ℕ) (ends : List ℕ) → AllByRecursion (AtRule (IsSolved p)) (place arguments from ends) → Decided ((values : List ℤ) × AreBestValues p (place arguments from ends) values)
best_or_not p [] from ends solved = inl ([], tt)
best_or_not p (argument ∷ arguments) from [] solved = inl ([], tt)
best_or_not p (Rule rule ∷ arguments) from (to ∷ ends) solved = with_rule p rule from to (place arguments to ends) solved.0 (best_or_not p arguments to ends solved.1)
best_or_not p (token ∷ arguments) from (to ∷ ends) solved = go (best_or_not p arguments to ends solved.1)
  where
    refuse : ((values : List ℤ) × AreBestValues p (place arguments to ends) values → ⊥) → (values : List ℤ) × AreBestValues p (record { argument = token; from = from; to = to } ∷ place arguments to ends) values → ⊥
    refuse none ([], best) = best
    refuse none (value ∷ values, best) = none (values, best.1)

    go : Decided ((values : List ℤ) × AreBestValues p (place arguments to ends) values) → Decided ((values : List ℤ) × AreBestValues p (record { argument = token; from = from; to = to } ∷ place arguments to ends) values)
    go (inl rest) = inl (token_value p.grammar token (letters_between p.word from to) ∷ rest.0, (refl, rest.1))
    go (inr none) = inr (refuse none)

-- a scored split with this choice, or none
pub scored_or_not : (p : PosedProblem) (cell : Cell) (choice : Choice) → IsViable p cell choice.alt choice.cuts → AllByRecursion (AtRule (IsSolved p)) (placed p cell choice.alt choice.cuts) → Decided ((score : ℤ) × IsScoredSplit p (HasBestScore p) cell score choice)
scored_or_not p cell choice viable solved = go (best_or_not p (arguments_of p.grammar cell.rule choice.alt) cell.from (ends_by cell choice.cuts) solved)
  where
    go : Decided ((values : List ℤ) × AreBestValues p (placed p cell choice.alt choice.cuts) values) → Decided ((score : ℤ) × IsScoredSplit p (HasBestScore p) cell score choice)
    go (inl found) = inl (term_value (term_of p cell.rule choice.alt) found.0, record { viable = viable; values = found.0; are_values = found.1; scored = refl })
    go (inr none) = inr (λ h. none (h.1.values, h.1.are_values))
