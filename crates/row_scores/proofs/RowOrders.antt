-- Which rules an alternative may begin with, and the order that puts them before its own.
use Rattle.std.proofs.Common.{◌≡◌, ℕ, zero, suc, ◌-◌, ◌<◌, ◌≤◌, ◌↔◌, Bool, true, false, IsTrue, nat_eq, Option, Some, None, List, [], ◌∷◌, ◌++◌, length, slice_get, slice_set, sym, ap, subst, inl, inr, ◌∙◌, arith}
use Rattle.std.specs.Prelude.{IfSome}
use Rattle.std.specs.List.{AllByRecursion, Contains}
use Rattle.std.proofs.lemmas.Bool.{cases_eq}
use Rattle.std.proofs.lemmas.Bool.Decides.{nat_tests}
use Rattle.std.proofs.lemmas.List.{get_or-set_other, length-set}
use Rattle.std.proofs.lemmas.List.Elements.{Contains-append_left, Contains-push, Contains-push_cases}
use Rattle.std.proofs.lemmas.Option.{slice_get-get_or}
use Rattle.adp_model.specs.declared.grammar.Arg.{Arg}
use Rattle.adp_model.specs.declared.grammar.Arg.TheVariants.{Rule}
use Rattle.adp_model.specs.declared.cell.Cell.{Cell}
use Rattle.adp_model.specs.PosedProblem.{PosedProblem}
use Rattle.adp_model.specs.Parts.{arguments_of}
use Rattle.adp_model.specs.Demand.{IsDemandedChild}
use Rattle.adp_model.specs.Sizes.{IsWithinSizes}
use Rattle.adp_model.specs.Splits.{FitsSpan, Placed, ends_by, place, placed}
use Rattle.viable_splits.specs.Placing.{on_span}
use Rattle.row_scores.proofs.Pushed.{get_push, get_pushed}
use Rattle.row_scores.specs.Order.{AreInRowOrder, ArePlaced, BeginsWith, IsPlaced, MayBeEmpty, MayBegin}

pub none_below : (size : Option ℕ) → IfSome size (λ most. 0 ≤ most)
none_below None = tt
none_below (Some most) = omega arith

-- a rule may be empty where its least size is 0
pub empty_rule : (p : PosedProblem) (rule least : ℕ) (greatest : Option ℕ)
    → ((len : ℕ) → IsWithinSizes p.grammar rule len ↔ ((least ≤ len) × IfSome greatest (λ most. len ≤ most)))
    → (argument : Arg) → argument ≡ Rule rule → IsTrue (nat_eq least 0) ↔ MayBeEmpty p argument
empty_rule p rule least greatest told argument is = (
  λ none.
      let e : least ≡ 0 = grind (arith, nat_tests) in (
        0,
        subst (λ a. FitsSpan p (on_span a 0 0)) (sym is)
            (record { in_order = omega arith; in_word = omega arith }, (told 0).1 (omega arith, none_below greatest)),
      ),
  λ (position, fits).
      let here : FitsSpan p (on_span (Rule rule) position position) = subst (λ a. FitsSpan p (on_span a position position)) is fits in
      let low = ((told (position - position)).0 here.1).0 in
      let e : least ≡ 0 = omega arith in
      grind (arith, nat_tests),
)

-- arguments that fit begin one behind the other
begins_behind : (p : PosedProblem) (arguments : List Arg) (from : ℕ) (ends : List ℕ) → AllByRecursion (FitsSpan p) (place arguments from ends)
    → (it : Placed) → Contains (place arguments from ends) it → from ≤ it.from
begins_behind p [] from ends fits it (k, inside, e) = absurd (omega arith)
begins_behind p (first ∷ arguments) from [] fits it (k, inside, e) = absurd (omega arith)
begins_behind p (first ∷ arguments) from (to ∷ ends) fits it (zero, inside, e) =
    let here : from ≡ it.from = ap (λ (placed : Placed). placed.from) e in
    omega arith
begins_behind p (first ∷ arguments) from (to ∷ ends) fits it (suc k, inside, e) =
    let behind = begins_behind p arguments to ends fits.1 it (k, omega arith, e) in
    let order : from ≤ to = fits.0.0.in_order in
    omega arith

-- a rule that is laid where the arguments begin is one that they may begin with
may_begin : (p : PosedProblem) (arguments : List Arg) (from : ℕ) (ends : List ℕ) → AllByRecursion (FitsSpan p) (place arguments from ends)
    → (rule a b : ℕ) → a ≡ from → Contains (place arguments from ends) (on_span (Rule rule) a b) → MayBegin p arguments rule
may_begin p [] from ends fits rule a b begins (k, inside, e) = absurd (omega arith)
may_begin p (first ∷ arguments) from [] fits rule a b begins (k, inside, e) = absurd (omega arith)
may_begin p (first ∷ arguments) from (to ∷ ends) fits rule a b begins (zero, inside, e) = inl (ap (λ (placed : Placed). placed.argument) e)
may_begin p (first ∷ arguments) from (to ∷ ends) fits rule a b begins (suc k, inside, e) =
    let there : Contains (place arguments to ends) (on_span (Rule rule) a b) = (k, omega arith, e) in
    let behind : to ≤ a = begins_behind p arguments to ends fits.1 (on_span (Rule rule) a b) there in
    let order : from ≤ to = fits.0.0.in_order in
    let here : to ≡ from = omega arith in
    inr ((from, subst (λ end. FitsSpan p (on_span first from end)) here fits.0), may_begin p arguments to ends fits.1 rule a b (omega arith) there)

begins_with : (p : PosedProblem) (cell child : Cell) → child.from ≡ cell.from → IsDemandedChild p cell child → BeginsWith p cell.rule child.rule
begins_with p cell child begins (alternative, cuts, viable, laid) =
    let arguments = arguments_of p.grammar cell.rule alternative in
    (alternative, viable.in_range, may_begin p arguments cell.from (ends_by cell cuts) viable.fits child.rule child.from child.to begins laid)

-- an item that is contained stands somewhere
pub stands_somewhere : (items : List ℕ) (item : ℕ) → Contains items item → (k : ℕ) × (k < length items) × (slice_get items k ≡ Some item)
stands_somewhere items item (k, inside, e) = (k, inside, slice_get-get_or items k item inside ∙ ap Some e)

module _ (p : PosedProblem) (placed : List Bool) (order : List ℕ) (are : ArePlaced p placed order) where
  -- a rule that only needs rules that are placed
  pub placed_more : (rule : ℕ) → rule < length p.grammar.rules → ((other : ℕ) → BeginsWith p rule other → IsPlaced placed other)
      → ArePlaced p (slice_set placed rule true) (order ++ rule ∷ [])
  placed_more rule known needs = record {
    each = length-set placed rule true ∙ are.each;
    there = λ other is. elim (cases_eq other rule) [
      | inl same ↦ subst (λ r. Contains (order ++ rule ∷ []) r) (sym same) (Contains-push order rule)
      | inr apart ↦ Contains-append_left order (rule ∷ []) other (are.there other (sym (get_or-set_other placed rule other true false apart) ∙ is))
    ];
    known = λ other is. elim (Contains-push_cases order rule other is) [
      | inl before ↦ are.known other before
      | inr same ↦ subst (λ r. r < length p.grammar.rules) same known
    ];
    behind = λ number other first stands begins. elim (get_push order rule number other stands) [
      | inl before ↦ let it = are.behind number other first before begins in (it.0, it.1, get_pushed order rule it.0 first it.2)
      | inr (at, same) ↦
          let begins' : BeginsWith p rule first = subst (λ r. BeginsWith p r first) (sym same) begins in
          let it = stands_somewhere order first (are.there first (needs first begins')) in
          (it.0, omega (arith, it.1, at), get_pushed order rule it.0 first it.2)
    ];
  }

  pub in_row_order : ((rule : ℕ) → rule < length p.grammar.rules → IsPlaced placed rule) → AreInRowOrder p order
  in_row_order all = record {
    known = are.known;
    all = λ rule known. are.there rule (all rule known);
    children_first = λ number cell child stands begins is. are.behind number cell.rule child.rule stands (begins_with p cell child begins is);
  }

pub placed_same : (p : PosedProblem) (placed placed' : List Bool) (order order' : List ℕ) → placed' ≡ placed → order' ≡ order
    → ArePlaced p placed order → ArePlaced p placed' order'
placed_same p placed placed' order order' e e' are =
    subst (λ flags. ArePlaced p flags order') (sym e) (subst (λ rules. ArePlaced p placed rules) (sym e') are)
