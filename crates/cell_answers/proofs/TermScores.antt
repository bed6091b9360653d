-- What a term comes to at the values of laid arguments, one end of the first argument after another.
use Rattle.std.proofs.Common.{◌≡◌, ℕ, ◌+◌, ◌≤◌, ◌⊎◌, ℤ, nat_abs, Option, Some, None, List, [], ◌∷◌, ◌++◌, get_or}
use Rattle.std.proofs.Common.{length, map, refl, sym, ap, subst, ◌∙◌, inl, inr, arith, length-append}
use Rattle.std.specs.List.{Contains}
use Rattle.std.specs.declared.ops.Range.{Range}
use Rattle.std.proofs.lemmas.Int.{ints}
use Rattle.adp_model.specs.declared.grammar.Arg.{Arg}
use Rattle.adp_model.specs.declared.grammar.Term.{Term}
use Rattle.adp_model.specs.declared.cell.Cell.{Cell}
use Rattle.adp_model.specs.PosedProblem.{PosedProblem, IsSpan}
use Rattle.adp_model.specs.Parts.{algebra_of}
use Rattle.adp_model.specs.Tokens.{letters_between, token_value}
use Rattle.adp_model.specs.Terms.{magnitude, term_value}
use Rattle.adp_model.specs.ProblemFields.{greatest_score}
use Rattle.adp_model.specs.Splits.{AtRule, FitsSpan}
use Rattle.adp_model.specs.FirstSplit.{IsValue}
use Rattle.adp_model.specs.Bellman.{HasBestScore}
use Rattle.viable_splits.specs.Placing.{on_span, Cover, ArePositions}
use Rattle.split_lines.specs.Laid.{Demands}
use Rattle.score_numbers.specs.Greatest.{IsGreatestOf}
use Rattle.score_numbers.specs.Turned.{turned}
use Rattle.term_values.specs.Values.{HasValues}
use Rattle.cell_tables.specs.Tables.{Table}
use Rattle.cell_answers.specs.Entries.{HasEntry}
use Rattle.cell_answers.specs.TermScores.{AreTermArguments, HasTermScore}
use Rattle.cell_answers.specs.Totals.{IsWithinBound}
use Rattle.cell_answers.proofs.FirstEnds.{AreSound, at_rule}
use Rattle.cell_answers.proofs.Greatest.{HasBefore, before_more, before_none, greatest_same}
use Rattle.cell_answers.proofs.Totalling.{value_kept, value_unique, values_cover}

-- ---- values before

pub more_before : (before : List ℤ) (value : ℤ) (values : List ℤ) → (before ++ value ∷ []) ++ values ≡ before ++ value ∷ values
more_before [] value values = refl
more_before (first ∷ before) value values = ap (λ them. first ∷ them) (more_before before value values)

pub none_more : (before : List ℤ) → before ++ [] ≡ before
none_more [] = refl
none_more (first ∷ before) = ap (λ them. first ∷ them) (none_more before)

-- arguments that are laid, with what is known of their cells and of the term
pub record AreTermLaid (p : PosedProblem) (table : Table ℤ) (term : Term) (before : List ℤ) (arguments : List Arg) (from to : ℕ) : Type 0 where
  pub are : AreTermArguments p term before arguments from to
  pub span : IsSpan p.word from to
  pub scored : (cell : Cell) → Demands p arguments from to cell → HasEntry table cell

-- ---- no arguments

module _ (p : PosedProblem) (term : Term) (before : List ℤ) (from to : ℕ) where
  none_apart : (from ≡ to → ⊥) → IsGreatestOf (HasTermScore p term before [] from to) None
  none_apart apart number ([], have, is) = apart have
  none_apart apart number (value ∷ values, have, is) = have

  score_is : (number : ℤ) → HasTermScore p term before [] from to number → number ≡ turned (algebra_of p).goal (term_value term before)
  score_is number ([], have, is) = is ∙ ap (λ values. turned (algebra_of p).goal (term_value term values)) (none_more before)
  score_is number (value ∷ values, have, is) = absurd have

  all_laid : (number : ℤ) → from ≡ to → number ≡ turned (algebra_of p).goal (term_value term before)
      → IsGreatestOf (HasTermScore p term before [] from to) (Some number)
  all_laid number same is = (
    ([], same, is ∙ sym (ap (λ values. turned (algebra_of p).goal (term_value term values)) (none_more before))),
    λ other has. let e : other ≡ number = score_is other has ∙ sym is in omega (arith, ints),
  )

  low_alone : from ≡ to → AreTermArguments p term before [] from to → magnitude term (map nat_abs before) ≤ greatest_score
  low_alone same are = subst (λ values. magnitude term (map nat_abs values) ≤ greatest_score) (none_more before) (are.low [] same)

-- the same of arguments of which there are none
module _ (p : PosedProblem) (term : Term) (before : List ℤ) where
  pub none_here : (arguments : List Arg) (from to : ℕ) → length arguments ≡ 0 → (from ≡ to → ⊥)
      → IsGreatestOf (HasTermScore p term before arguments from to) None
  none_here [] from to none apart = none_apart p term before from to apart
  none_here (argument ∷ arguments) from to none apart = absurd (omega (arith, none))

  pub score_here : (arguments : List Arg) (from to : ℕ) → length arguments ≡ 0 → (number : ℤ) → from ≡ to
      → number ≡ turned (algebra_of p).goal (term_value term before)
      → IsGreatestOf (HasTermScore p term before arguments from to) (Some number)
  score_here [] from to none number same is = all_laid p term before from to number same is
  score_here (argument ∷ arguments) from to none number same is = absurd (omega (arith, none))

  pub low_here : (arguments : List Arg) (from to : ℕ) → length arguments ≡ 0 → from ≡ to
      → AreTermArguments p term before arguments from to → magnitude term (map nat_abs before) ≤ greatest_score
  low_here [] from to none same are = low_alone p term before from to same are
  low_here (argument ∷ arguments) from to none same are = absurd (omega (arith, none))

-- ---- the first argument, one end after another

module _ (p : PosedProblem) (term : Term) (before : List ℤ) (argument : Arg) (others : List Arg) (from to : ℕ) where
  -- the first argument ends here
  pub record HasTermScoreAt (end : ℕ) (number : ℤ) : Type 0 where
    pub fits : FitsSpan p (on_span argument from end)
    pub value : ℤ
    pub is_value : IsValue p (HasBestScore p) (on_span argument from end) value
    pub behind : HasTermScore p term (before ++ value ∷ []) others end to number

  pub cover_behind : (end : ℕ) (number : ℤ) → HasTermScoreAt end number → Cover p others end to
  cover_behind end number at = values_cover p (HasBestScore p) others end to at.behind.0 at.behind.1

  pub score_at : (number : ℤ) → HasTermScore p term before (argument ∷ others) from to number → (end : ℕ) × HasTermScoreAt end number
  score_at number ([], have, is) = absurd have
  score_at number (value ∷ values, have, is) = (
    have.0,
    record {
      fits = have.1;
      value = value;
      is_value = have.2;
      behind = (values, have.3, is ∙ ap (λ them. turned (algebra_of p).goal (term_value term them)) (sym (more_before before value values)));
    },
  )

  pub at_score : (end : ℕ) (number : ℤ) → HasTermScoreAt end number → HasTermScore p term before (argument ∷ others) from to number
  at_score end number at = (
    at.value ∷ at.behind.0,
    (end, at.fits, at.is_value, at.behind.1),
    at.behind.2
        ∙ ap (λ them. turned (algebra_of p).goal (term_value term them)) (more_before before at.value at.behind.0),
  )

  abbrev pub HasTermScoreBefore : ℕ → ℤ → Type 0
  HasTermScoreBefore = HasBefore (λ end number. HasTermScoreAt end number)

  module _ (table : Table ℤ) (laid : AreTermLaid p table term before (argument ∷ others) from to) (end : ℕ)
      (fits : FitsSpan p (on_span argument from end)) where
    pub first_low : nat_abs (token_value p.grammar argument (letters_between p.word from end)) ≤ greatest_score
    first_low = laid.are.tokens_low argument from end (0, omega arith, refl) fits

    pub first_known_entry : Cover p others end to → AtRule (HasEntry table) (on_span argument from end)
    first_known_entry cover = at_rule (HasEntry table) argument from end (λ rule e.
        laid.scored (record { rule = rule; from = from; to = end }) (end, fits, inl (record { rule = e; begins = refl; ends = refl }, cover)))

    pub unvalued_more : (AtRule (HasEntry table) (on_span argument from end) → (value : ℤ) → IsValue p (HasBestScore p) (on_span argument from end) value → ⊥)
        → (found : Option ℤ) → IsGreatestOf (HasTermScoreBefore end) found → IsGreatestOf (HasTermScoreBefore (end + 1)) found
    unvalued_more none found is =
        before_none (λ end number. HasTermScoreAt end number) end found is
        (λ number at. none (first_known_entry (cover_behind end number at)) at.value at.is_value)

    module _ (sound : AreSound p) (value : ℤ) (told : AtRule (HasEntry table) (on_span argument from end)
        → IsValue p (HasBestScore p) (on_span argument from end) value) where
      next : (at : ℕ) (token : Arg) → get_or others at token ≡ token → get_or (argument ∷ others) (at + 1) token ≡ token
      next at token is = grind (arith, is)

      tokens_low : (token : Arg) (from' to' : ℕ) → Contains others token → FitsSpan p (on_span token from' to')
          → nat_abs (token_value p.grammar token (letters_between p.word from' to')) ≤ greatest_score
      tokens_low token from' to' (at, within, is) fits' = laid.are.tokens_low token from' to' (at + 1, omega arith, next at token is) fits'

      counted : length before + length (argument ∷ others) ≡ length (before ++ value ∷ []) + length others
      counted = omega (arith, length-append before (value ∷ []))

      pub rest_laid : end ≤ to → AreTermLaid p table term (before ++ value ∷ []) others end to
      rest_laid l = record {
        are = record {
          known = laid.are.known.1;
          few = omega (arith, laid.are.few, counted);
          there = subst (λ n. HasValues n term) counted laid.are.there;
          tokens_low = tokens_low;
          low = λ values have. subst (λ them. magnitude term (map nat_abs them) ≤ greatest_score) (sym (more_before before value values))
              (laid.are.low (value ∷ values) (
                end,
                fits,
                value_kept p (HasBestScore p) (IsWithinBound p) sound.within argument from end value
                    (told (first_known_entry (values_cover p (IsWithinBound p) others end to values have))),
                have,
              ));
          bounded = λ number values scores have. subst (λ them. magnitude term (map nat_abs them) ≤ number) (sym (more_before before value values))
              (laid.are.bounded number (value ∷ values) scores (
                end,
                fits,
                value_kept p (HasBestScore p) (IsWithinBound p) sound.within argument from end value
                    (told (first_known_entry (values_cover p (IsWithinBound p) others end to values have))),
                have,
              ));
        };
        span = record { in_order = l; in_word = laid.span.in_word };
        scored = λ cell demands. laid.scored cell (end, fits, inr demands);
      }

      same_value : (number : ℤ) (at : HasTermScoreAt end number) → at.value ≡ value
      same_value number at =
          value_unique p (HasBestScore p) sound.one argument from end at.value value at.is_value (told (first_known_entry (cover_behind end number at)))

      pub to_at : (number : ℤ) → HasTermScore p term (before ++ value ∷ []) others end to number → HasTermScoreAt end number
      to_at number has = record {
        fits = fits;
        value = value;
        is_value = told (first_known_entry (values_cover p (HasBestScore p) others end to has.0 has.1));
        behind = has;
      }

      -- what the others come to behind the value is what all come to at this end
      pub greatest_here : (best : Option ℤ) → IsGreatestOf (HasTermScore p term (before ++ value ∷ []) others end to)
          best → IsGreatestOf (λ number. HasTermScoreAt end number) best
      greatest_here best it =
          greatest_same (HasTermScore p term (before ++ value ∷ []) others end to) (λ number. HasTermScoreAt end number) best to_at
          (λ number at. subst (λ v. HasTermScore p term (before ++ v ∷ []) others end to number) (same_value number at) at.behind) it

      pub found_more : (best : Option ℤ) → IsGreatestOf (HasTermScore p term (before ++ value ∷ []) others end to) best
          → (found both : Option ℤ) → IsGreatestOf (HasTermScoreBefore end) found
          → IsGreatestOf (λ number. (found ≡ Some number) ⊎ (best ≡ Some number)) both → IsGreatestOf (HasTermScoreBefore (end + 1)) both
      found_more best it found both is either = before_more (λ end number. HasTermScoreAt end number) end found is best both (greatest_here best it) either

  module _ (positions : Range ℕ) (are : ArePositions p argument others from to positions) where
    -- before the first position there is none
    pub none_first : (number : ℤ) → HasTermScoreBefore positions.start number → ⊥
    none_first number it =
        let missed = are.none_missed it.0 it.2.fits (cover_behind it.0 number it.2) in
        omega (arith, missed.0, it.1)

    -- and behind the last one neither
    pub all_found : (bound : ℕ) (greatest : Option ℤ) → positions.end ≤ bound
        → IsGreatestOf (HasTermScoreBefore bound) greatest
        → IsGreatestOf (HasTermScore p term before (argument ∷ others) from to) greatest
    all_found bound greatest l =
        greatest_same (HasTermScoreBefore bound) (HasTermScore p term before (argument ∷ others) from to) greatest
        (λ number h. at_score h.0 number h.2)
        (λ number h.
        let it = score_at number h in
        let missed = are.none_missed it.0 it.1.fits (cover_behind it.0 number it.1) in
        (it.0, omega (arith, missed.1), it.1))
