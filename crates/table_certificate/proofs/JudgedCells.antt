-- Whether the line of a cell is right, by what its splits come to.
use Rattle.std.proofs.Common.{◌≡◌, ℕ, ◌<◌, ◌≤◌, ◌⊎◌, inl, inr, ◌^◌, ℤ, nat_abs, nat_le, true, false, Option, Some, None, IsSome, IfSome, List, [], ◌∷◌, length, map, Contains, refl, sym, ap, subst, ◌∙◌, arith}
use Rattle.std.specs.List.{AllByRecursion}
use Rattle.std.proofs.lemmas.Bool.Decides.{nat_tests}
use Rattle.adp_model.specs.declared.grammar.Arg.{Arg}
use Rattle.adp_model.specs.declared.grammar.Arg.TheVariants.{Rule, Literal, Letter, Run}
use Rattle.adp_model.specs.declared.grammar.Term.{Term}
use Rattle.adp_model.specs.declared.cell.Cell.{Cell}
use Rattle.adp_model.specs.declared.cell.Choice.{Choice}
use Rattle.adp_model.specs.PosedProblem.{PosedProblem}
use Rattle.adp_model.specs.Parts.{algebra_of, alternatives_of, arguments_of, term_of}
use Rattle.adp_model.specs.ProblemFields.{greatest_score}
use Rattle.adp_model.specs.Terms.{magnitude, term_value}
use Rattle.adp_model.specs.Splits.{place, placed, FitsSpan, IsViable}
use Rattle.adp_model.specs.Demand.{IsDemandedChild}
use Rattle.adp_model.specs.FirstSplit.{AreArgumentValues, IsScoredSplit}
use Rattle.adp_model.specs.Cells.{CellPrecedes}
use Rattle.table_certificate.specs.CertificateLines.{LineForm}
use Rattle.table_certificate.specs.LocalCertificate.{said_of, IsBestSaid, IsRightCellLine}
use Rattle.table_certificate.specs.Claims.{Tell, claimed}
use Rattle.table_certificate.specs.declared.claims.Claims.{Claims}
use Rattle.table_certificate.specs.BlockLines.{IsInWord}
use Rattle.table_certificate.specs.SplitVerdicts.{Verdict, Wrong, Unscored, Scored, Worths, Untold, Scoreless, Values, AreLaid, HasSplitVerdict, IsJudged, all_joined, verdict_of, worth_of}
use Rattle.table_certificate.proofs.Judging.{judged_same, neither_better, none_wrong}
use Rattle.table_certificate.proofs.SplitEnds.{laid_split, cut_split}
use Rattle.table_certificate.proofs.SplitWorths.{all_told, joined_values, one_untold, same_worths, values_joined}

-- the alternatives of the cell's rule have one to four arguments
pub record AreFitting (p : PosedProblem) (cell : Cell) : Type 0 where
  pub some : (alternative : ℕ) → alternative < length (alternatives_of p.grammar cell.rule)
      → 1 ≤ length (arguments_of p.grammar cell.rule alternative)
  pub few : (alternative : ℕ) → length (arguments_of p.grammar cell.rule alternative) ≤ 4

-- ---- verdicts

pub low_scored : (term : Term) (values : List ℤ) → magnitude term (map nat_abs values) ≤ greatest_score
    → verdict_of term (Values values) ≡ Scored (term_value term values)
low_scored term values low =
    let e : nat_le (magnitude term (map nat_abs values)) greatest_score ≡ true = grind (arith, nat_tests) in rw e refl

pub high_wrong : (term : Term) (values : List ℤ) → greatest_score < magnitude term (map nat_abs values)
    → verdict_of term (Values values) ≡ Wrong
high_wrong term values high =
    let e : nat_le (magnitude term (map nat_abs values)) greatest_score ≡ false = grind (arith, nat_tests) in rw e refl

le_or_lt : (m k : ℕ) → (m ≤ k) ⊎ (k < m)
le_or_lt m k = grind arith

wrong_scored : (score : ℤ) → Wrong ≡ Scored score → ⊥
wrong_scored score e = cc

scored_unscored : (score : ℤ) → Scored score ≡ Unscored → ⊥
scored_unscored score e = cc

same_score : (a b : ℤ) → Scored a ≡ Scored b → a ≡ b
same_score a b e = cc

values_not_untold : (values : List ℤ) → Values values ≡ Untold → ⊥
values_not_untold values e = cc

-- ---- the splits of a cell

module _ (p : PosedProblem) (said : Cell → Option (Option ℤ)) (cell : Cell) (fitting : AreFitting p cell) where
  abbrev split_worths : ℕ → List ℕ → Worths
  split_worths alternative cuts = all_joined p said (Values []) (placed p cell alternative cuts)

  abbrev split_verdict : ℕ → List ℕ → Verdict
  split_verdict alternative cuts = verdict_of (term_of p cell.rule alternative) (split_worths alternative cuts)

  has_verdict : (alternative : ℕ) (cuts : List ℕ) → IsViable p cell alternative cuts
      → HasSplitVerdict p said cell (split_verdict alternative cuts)
  has_verdict alternative cuts viable =
      let split = laid_split p cell alternative cuts (fitting.some alternative viable.in_range) (fitting.few alternative) viable in (
        alternative,
        viable.in_range,
        (
          viable.allowed,
          (
            split.ends,
            split.laid,
            ap (λ items. verdict_of (term_of p cell.rule alternative) (all_joined p said (Values []) items)) (sym split.same),
          ),
        ),
      )

  -- a split that comes to this
  record HasSplit (verdict : Verdict) : Type 0 where
    alternative : ℕ
    cuts : List ℕ
    viable : IsViable p cell alternative cuts
    is : verdict ≡ split_verdict alternative cuts

  split_of : (verdict : Verdict) → HasSplitVerdict p said cell verdict → HasSplit verdict
  split_of verdict (alternative, in_range, (allowed, (ends, laid, is))) =
      let split = cut_split p cell alternative ends in_range allowed (fitting.some alternative in_range) (fitting.few alternative) laid in
      record {
        alternative = alternative;
        cuts = split.cuts;
        viable = split.viable;
        is = is ∙ ap (λ items. verdict_of (term_of p cell.rule alternative) (all_joined p said (Values []) items)) (sym split.same);
      }

  module _ (best : Option ℤ) (judged : IsJudged (algebra_of p).goal (HasSplitVerdict p said cell) (Some best)) where
    not_wrong : (alternative : ℕ) (cuts : List ℕ) → IsViable p cell alternative cuts
        → split_verdict alternative cuts ≡ Wrong → ⊥
    not_wrong alternative cuts viable is =
        none_wrong (algebra_of p).goal (HasSplitVerdict p said cell) best judged
        (subst (HasSplitVerdict p said cell) is (has_verdict alternative cuts viable))

    pub told_children : (child : Cell) → IsDemandedChild p cell child → IsSome (said child)
    told_children child (alternative, cuts, viable, found) =
        all_told p said (Values []) (placed p cell alternative cuts)
        (λ untold. not_wrong alternative cuts viable (ap (verdict_of (term_of p cell.rule alternative)) untold))
        (record { argument = Rule child.rule; from = child.from; to = child.to }) found

    pub low_splits : (choice : Choice) (values : List ℤ) → IsViable p cell choice.alt choice.cuts
        → AreArgumentValues p (λ c score. said c ≡ Some (Some score)) (placed p cell choice.alt choice.cuts) values
        → magnitude (term_of p cell.rule choice.alt) (map nat_abs values) ≤ greatest_score
    low_splits choice values viable are = by (le_or_lt (magnitude (term_of p cell.rule choice.alt) (map nat_abs values)) greatest_score)
      where
        by : (magnitude (term_of p cell.rule choice.alt) (map nat_abs values) ≤ greatest_score)
            ⊎ (greatest_score < magnitude (term_of p cell.rule choice.alt) (map nat_abs values))
            → magnitude (term_of p cell.rule choice.alt) (map nat_abs values) ≤ greatest_score
        by (inl low) = low
        by (inr high) = absurd (not_wrong choice.alt choice.cuts viable
            (ap (verdict_of (term_of p cell.rule choice.alt)) (joined_values p said [] (placed p cell choice.alt choice.cuts) values are)
            ∙ high_wrong (term_of p cell.rule choice.alt) values high))

    has_score : (score : ℤ) (choice : Choice) → IsScoredSplit p (λ c s. said c ≡ Some (Some s)) cell score choice
        → HasSplitVerdict p said cell (Scored score)
    has_score score choice split =
        let low = low_splits choice split.values split.viable split.are_values in
        let is : split_verdict choice.alt choice.cuts ≡ Scored score =
        ap (verdict_of (term_of p cell.rule choice.alt)) (joined_values p said [] (placed p cell choice.alt choice.cuts) split.values split.are_values)
        ∙ low_scored (term_of p cell.rule choice.alt) split.values low ∙ ap Scored (sym split.scored) in
        subst (HasSplitVerdict p said cell) is (has_verdict choice.alt choice.cuts split.viable)

  -- a split that comes to a score has it
  scored_split : (score : ℤ) → HasSplitVerdict p said cell (Scored score)
      → (choice : Choice) × IsScoredSplit p (λ c s. said c ≡ Some (Some s)) cell score choice
  scored_split score has = by (split_of (Scored score) has)
    where
      by : HasSplit (Scored score) → (choice : Choice) × IsScoredSplit p (λ c s. said c ≡ Some (Some s)) cell score choice
      by split = worths (split_worths split.alternative split.cuts) refl
        where
          term : Term
          term = term_of p cell.rule split.alternative

          worths : (all : Worths) → split_worths split.alternative split.cuts ≡ all
              → (choice : Choice) × IsScoredSplit p (λ c s. said c ≡ Some (Some s)) cell score choice
          worths Untold e = absurd (wrong_scored score (sym (split.is ∙ ap (verdict_of (term_of p cell.rule split.alternative)) e)))
          worths Scoreless e = absurd (scored_unscored score (split.is ∙ ap (verdict_of (term_of p cell.rule split.alternative)) e))
          worths (Values all) e = sized (le_or_lt (magnitude (term_of p cell.rule split.alternative) (map nat_abs all)) greatest_score)
            where
              is : Scored score ≡ verdict_of (term_of p cell.rule split.alternative) (Values all)
              is = split.is ∙ ap (verdict_of (term_of p cell.rule split.alternative)) e

              sized : (magnitude (term_of p cell.rule split.alternative) (map nat_abs all) ≤ greatest_score)
                  ⊎ (greatest_score < magnitude (term_of p cell.rule split.alternative) (map nat_abs all))
                  → (choice : Choice) × IsScoredSplit p (λ c s. said c ≡ Some (Some s)) cell score choice
              sized (inl low) =
                  let found = values_joined p said [] (placed p cell split.alternative split.cuts) all e in (
                    record { alt = split.alternative; cuts = split.cuts },
                    record {
                      viable = split.viable;
                      values = found.values;
                      are_values = found.are;
                      scored = same_score score (term_value (term_of p cell.rule split.alternative) all) (is ∙ low_scored (term_of p cell.rule split.alternative) all low)
                          ∙ ap (term_value (term_of p cell.rule split.alternative)) found.same;
                    },
                  )
              sized (inr high) = absurd (wrong_scored score (sym (is ∙ high_wrong (term_of p cell.rule split.alternative) all high)))

  -- a wrong split has an argument whose cell is not told of, or is out of range
  pub none_is_wrong : ((child : Cell) → IsDemandedChild p cell child → IsSome (said child))
      → ((choice : Choice) (values : List ℤ) → IsViable p cell choice.alt choice.cuts
      → AreArgumentValues p (λ c s. said c ≡ Some (Some s)) (placed p cell choice.alt choice.cuts) values
      → magnitude (term_of p cell.rule choice.alt) (map nat_abs values) ≤ greatest_score)
      → HasSplitVerdict p said cell Wrong → ⊥
  none_is_wrong children low has = by (split_of Wrong has)
    where
      none_some : (x : Option (Option ℤ)) → x ≡ None → IsSome x → ⊥
      none_some None e some = let h : false ≡ true = some in cc
      none_some (Some x) e some = cc

      told : (alternative : ℕ) (cuts : List ℕ) → IsViable p cell alternative cuts → (argument : Arg) (from to : ℕ)
          → Contains (placed p cell alternative cuts) (record { argument = argument; from = from; to = to })
          → worth_of p said (record { argument = argument; from = from; to = to }) ≡ None → ⊥
      told alternative cuts viable (Rule rule) from to found none =
          none_some (said (record { rule = rule; from = from; to = to })) none (children (record { rule = rule; from = from; to = to }) (alternative, cuts, viable, found))
      told alternative cuts viable (Literal text) from to found none = cc
      told alternative cuts viable (Letter class) from to found none = cc
      told alternative cuts viable (Run class least most) from to found none = cc

      by : HasSplit Wrong → ⊥
      by split = worths (split_worths split.alternative split.cuts) refl
        where
          worths : (all : Worths) → split_worths split.alternative split.cuts ≡ all → ⊥
          worths Untold e =
              let one = one_untold p said (Values []) (placed p cell split.alternative split.cuts) (values_not_untold []) e in
              told split.alternative split.cuts split.viable one.item.argument one.item.from one.item.to one.found one.untold
          worths Scoreless e = let h : Wrong ≡ Unscored = split.is ∙ ap (verdict_of (term_of p cell.rule split.alternative)) e in cc
          worths (Values all) e =
              let found = values_joined p said [] (placed p cell split.alternative split.cuts) all e in
              let small = low (record { alt = split.alternative; cuts = split.cuts }) found.values split.viable found.are in
              let here : magnitude (term_of p cell.rule split.alternative) (map nat_abs all) ≤ greatest_score =
              subst (λ them. magnitude (term_of p cell.rule split.alternative) (map nat_abs them) ≤ greatest_score) (sym found.same) small in
              wrong_scored (term_value (term_of p cell.rule split.alternative) all)
              (split.is ∙ ap (verdict_of (term_of p cell.rule split.alternative)) e ∙ low_scored (term_of p cell.rule split.alternative) all here)

-- ---- the line of a cell

module _ (p : PosedProblem) (lines : List LineForm) (cell : Cell) (fitting : AreFitting p cell) where
  best_said : (best : Option ℤ) → IsJudged (algebra_of p).goal (HasSplitVerdict p (said_of lines) cell) (Some best)
      → IsBestSaid p lines cell best
  best_said None judged = λ score choice split.
      scored_unscored score (judged (Scored score) (has_score p (said_of lines) cell fitting None judged score choice split))
  best_said (Some best) judged = (
    scored_split p (said_of lines) cell fitting best judged.0,
    λ other choice split. judged.1 (Scored other) (has_score p (said_of lines) cell fitting (Some best) judged other choice split),
  )

  pub best_unique : (a b : Option ℤ) → IsBestSaid p lines cell a → IsBestSaid p lines cell b → a ≡ b
  best_unique None None a b = refl
  best_unique None (Some score) a b = absurd (a score b.0.0 b.0.1)
  best_unique (Some score) None a b = absurd (b score a.0.0 a.0.1)
  best_unique (Some one) (Some other) a b =
      ap Some (neither_better (algebra_of p).goal one other (b.1 one a.0.0 a.0.1) (a.1 other b.0.0 b.0.1))

  module _ (claims : Claims) (told : Tell claims lines) (short : length p.word < 2 ^ 16) where
    alike : (other : Cell) → other.from ≤ length p.word → other.to ≤ length p.word → claimed claims other ≡ said_of lines other
    alike other begins ends = told other (record { begins = omega (arith, begins, short); ends = omega (arith, ends, short) })

    laid_fits : (arguments : List Arg) (from to : ℕ) (ends : List ℕ) → AreLaid p arguments from to ends
        → AllByRecursion (FitsSpan p) (place arguments from ends)
    laid_fits [] from to [] laid = tt
    laid_fits [] from to (end ∷ ends) laid = absurd laid
    laid_fits (argument ∷ arguments) from to [] laid = absurd laid
    laid_fits (argument ∷ arguments) from to (end ∷ ends) laid = (laid.0, laid_fits arguments end to ends laid.1)

    said_by : (result : Option (Option ℤ)) → IsJudged (algebra_of p).goal (HasSplitVerdict p (claimed claims) cell) result
        → IsJudged (algebra_of p).goal (HasSplitVerdict p (said_of lines) cell) result
    said_by result judged =
        judged_same (algebra_of p).goal (HasSplitVerdict p (claimed claims) cell) (HasSplitVerdict p (said_of lines) cell) result judged on back
      where
        same : (alternative : ℕ) (ends : List ℕ) → AreLaid p (arguments_of p.grammar cell.rule alternative) cell.from cell.to ends
            → all_joined p (claimed claims) (Values []) (place (arguments_of p.grammar cell.rule alternative) cell.from ends)
            ≡ all_joined p (said_of lines) (Values []) (place (arguments_of p.grammar cell.rule alternative) cell.from ends)
        same alternative ends laid =
            same_worths p (claimed claims) (said_of lines) alike (Values []) (place (arguments_of p.grammar cell.rule alternative) cell.from ends)
            (laid_fits (arguments_of p.grammar cell.rule alternative) cell.from cell.to ends laid)

        on : (verdict : Verdict) → HasSplitVerdict p (claimed claims) cell verdict → HasSplitVerdict p (said_of lines) cell verdict
        on verdict (alternative, in_range, (allowed, (ends, laid, is))) =
            (alternative, in_range, (allowed, (ends, laid, is ∙ ap (verdict_of (term_of p cell.rule alternative)) (same alternative ends laid))))

        back : (verdict : Verdict) → HasSplitVerdict p (said_of lines) cell verdict → HasSplitVerdict p (claimed claims) cell verdict
        back verdict (alternative, in_range, (allowed, (ends, laid, is))) =
            (alternative, in_range, (allowed, (ends, laid, is ∙ ap (verdict_of (term_of p cell.rule alternative)) (sym (same alternative ends laid)))))

    -- where no split is wrong and this is the best of their scores, the line is right
    pub right_line : (earlier : Option Cell) (score : Option ℤ) → IsInWord p cell
        → IfSome earlier (λ before. CellPrecedes before cell)
        → IsJudged (algebra_of p).goal (HasSplitVerdict p (claimed claims) cell) (Some score)
        → IsRightCellLine p lines earlier cell score
    right_line earlier score inside order judged =
        let here = said_by (Some score) judged in
        record {
          in_word = inside.span;
          in_sizes = inside.sizes;
          in_order = order;
          children = told_children p (said_of lines) cell fitting score here;
          best = best_said score here;
          low = low_splits p (said_of lines) cell fitting score here;
        }

    -- and a right line has this score
    pub line_score : (earlier : Option Cell) (score : Option ℤ) (result : Option (Option ℤ))
        → IsRightCellLine p lines earlier cell score
        → IsJudged (algebra_of p).goal (HasSplitVerdict p (claimed claims) cell) result → result ≡ Some score
    line_score earlier score None right judged =
        absurd (none_is_wrong p (said_of lines) cell fitting right.children right.low (said_by None judged))
    line_score earlier score (Some best) right judged =
        ap Some (best_unique best score (best_said best (said_by (Some best) judged)) right.best)
