-- Where an alternative is a token and one more argument, it has one viable split at most.
use Rattle.std.proofs.Common.{◌≡◌, ℕ, ◌-◌, ◌<◌, ◌≤◌, List, [], ◌∷◌, ◌++◌, length, drop, get_or, refl, sym, subst, ◌∙◌, arith}
use Rattle.std.specs.Prelude.{Some, slice_get}
use Rattle.std.specs.List.{AllByRecursion}
use Rattle.adp_model.specs.declared.grammar.Arg.{Arg}
use Rattle.adp_model.specs.declared.cell.Cell.{Cell}
use Rattle.adp_model.specs.PosedProblem.{PosedProblem}
use Rattle.adp_model.specs.Parts.{alternatives_of, arguments_of}
use Rattle.adp_model.specs.Splits.{place, ends_by, FitsSpan, IsViable}
use Rattle.adp_model.specs.SplitArguments.{AsksFor}
use Rattle.adp_model.specs.Walk.{ranks_of, IsVisitedBefore}
use Rattle.viable_splits.specs.Placing.{on_span, Cover}
use Rattle.split_lines.specs.declared.kept.KeptAlternative.{KeptAlternative}
use Rattle.split_lines.specs.Kept.{IsAlternative}
use Rattle.split_lines.specs.Laid.{IsFixed}
use Rattle.split_lines.specs.Ways.{IsOpening}
use Rattle.argument_search.specs.Seeking.{AreNotedBehind, IsEntry}
use Rattle.argument_search.proofs.Demanded.{no_cell}
use Rattle.argument_search.proofs.LineSplits.{AreAt, IsCell, cell_of}
use Rattle.argument_search.proofs.SameCuts.{one_end}
use Rattle.argument_search.proofs.VisitOrder.{lex_irreflexive}

-- a list of one
pub only_one : (xs : List Arg) (x : Arg) → 1 ≤ length xs → length xs < 2 → x ≡ get_or xs 0 x → xs ≡ x ∷ []
only_one [] x some few is = absurd (omega arith)
only_one (y ∷ []) x some few is = λ i. sym is i ∷ []
only_one (y ∷ z ∷ xs) x some few is = absurd (omega arith)

module _ (p : PosedProblem) (cell : Cell) (alternative : ℕ) (kept : KeptAlternative)
    (is : IsAlternative p cell.rule alternative kept) (token argument : Arg)
    (front : kept.front.now ≡ token ∷ []) (others : kept.others.now ≡ argument ∷ []) where
  arguments : arguments_of p.grammar cell.rule alternative ≡ token ∷ argument ∷ []
  arguments = is.arguments ∙ (λ i. front i ++ others i)

  fixed : IsFixed token
  fixed = (subst (λ (xs : List Arg). AllByRecursion IsFixed xs) front is.in_front.fixed).0

  -- the token ends at the first cut, and the other ones are closed
  abbrev HasCuts : List ℕ → Type 0
  HasCuts cuts =
      (cut : ℕ) × (cuts ≡ cut ∷ cell.to ∷ cell.to ∷ []) × FitsSpan p (on_span token cell.from cut)

  has_cuts : (cuts : List ℕ) → IsViable p cell alternative cuts → HasCuts cuts
  has_cuts cuts viable = go cuts viable.three
      (subst (λ (xs : List Arg). AreAt cell.to (drop (length xs - 1) (ends_by cell cuts))) arguments viable.last)
      (subst (λ (xs : List Arg). AllByRecursion (FitsSpan p) (place xs cell.from (ends_by cell cuts))) arguments
      viable.fits)
    where
      go : (cuts : List ℕ) → length cuts ≡ 3
          → AreAt cell.to (drop (length (token ∷ argument ∷ []) - 1) (ends_by cell cuts))
          → AllByRecursion (FitsSpan p) (place (token ∷ argument ∷ []) cell.from (ends_by cell cuts)) → HasCuts cuts
      go [] three last fits = absurd (omega arith)
      go (a ∷ []) three last fits = absurd (omega arith)
      go (a ∷ b ∷ []) three last fits = absurd (omega arith)
      go (a ∷ b ∷ c ∷ []) three last fits =
          let second : b ≡ cell.to = last.0 in
          let third : c ≡ cell.to = last.1.0 in
          (a, (λ i. a ∷ second i ∷ third i ∷ []), fits.0)
      go (a ∷ b ∷ c ∷ d ∷ cuts) three last fits = absurd (omega arith)

  same_cuts : (cuts others : List ℕ) → IsViable p cell alternative cuts → IsViable p cell alternative others
      → cuts ≡ others
  same_cuts cuts others viable viable' =
      let these = has_cuts cuts viable in
      let those = has_cuts others viable' in
      let same : these.0 ≡ those.0 = one_end p token cell.from these.0 those.0 fixed these.2 those.2 in
      these.1 ∙ (λ i. same i ∷ cell.to ∷ cell.to ∷ []) ∙ sym those.1

  none_visited : (turns cuts others : List ℕ) → IsViable p cell alternative cuts → IsViable p cell alternative others
      → IsVisitedBefore cell turns cuts others → ⊥
  none_visited turns cuts others viable viable' before =
      lex_irreflexive (ranks_of cell turns cuts)
      (subst (λ x. IsVisitedBefore cell turns cuts x) (same_cuts others cuts viable' viable) before)

  -- no other split comes behind it
  pub none_behind : (Noted : Cell → Type 0) (turns cuts : List ℕ) → IsViable p cell alternative cuts
      → AreNotedBehind p Noted cell alternative turns cuts
  none_behind Noted turns cuts viable others number child before asks =
      absurd (none_visited turns cuts others viable asks.viable before)

  module _ (in_range : alternative < length (alternatives_of p.grammar cell.rule)) (end : ℕ)
      (opening : IsOpening p kept cell end) (fits : FitsSpan p (on_span argument end cell.to)) where
    abbrev cuts : List ℕ
    cuts = end ∷ cell.to ∷ cell.to ∷ []

    token_fits : FitsSpan p (on_span token cell.from end)
    token_fits = go (subst (λ (xs : List Arg). Cover p xs cell.from end) front opening.covers)
      where
        go : Cover p (token ∷ []) cell.from end → FitsSpan p (on_span token cell.from end)
        go (cut, fits, e) = subst (λ x. FitsSpan p (on_span token cell.from x)) e fits

    viable : IsViable p cell alternative cuts
    viable = record {
      in_range = in_range;
      allowed = opening.allowed alternative is;
      three = refl;
      last = subst (λ (xs : List Arg). AreAt cell.to (drop (length xs - 1) (ends_by cell cuts))) (sym arguments)
          (refl, (refl, (refl, tt)));
      fits = subst (λ (xs : List Arg). AllByRecursion (FitsSpan p) (place xs cell.from (ends_by cell cuts)))
          (sym arguments) (token_fits, (fits, tt));
    }

    no_token : (number : ℕ) (child : Cell) → number < 1
        → AsksFor p (record { cell = cell; alternative = alternative; cuts = cuts; number = number }) child → ⊥
    no_token number child l asks =
        let zero_is : number ≡ 0 = omega arith in
        let there = subst (λ n. slice_get (place (token ∷ argument ∷ []) cell.from (ends_by cell cuts)) n
        ≡ Some (IsCell child)) zero_is
        (subst (λ (xs : List Arg). slice_get (place xs cell.from (ends_by cell cuts)) number ≡ Some (IsCell child))
        arguments asks.there) in
        no_cell p token cell.from end child fixed (cell_of token cell.from end child there)

    pub only_entry : (turns : List ℕ)
        → IsEntry p cell alternative turns (record { alternative = alternative; cuts = cuts; number = 1 })
    only_entry turns = record {
      here = refl;
      first = record {
        viable = viable;
        first = λ others viable' before. none_visited turns others cuts viable' viable before;
      };
      within = subst (λ (xs : List Arg). 1 < length xs) (sym arguments) (omega arith);
      tokens = no_token;
    }
