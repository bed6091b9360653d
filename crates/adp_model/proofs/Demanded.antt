-- Demanded cells are counted by the cell bound.
use Rattle.std.proofs.Common.{◌≡◌, ℕ, zero, suc, ◌-◌, ◌<◌, ◌≤◌, ◌⊎◌, inl, inr, Option, Some, IfSome, IsTrue, List, [], ◌∷◌, length, refl, sym, subst, ap, ◌∙◌, arith}
use Rattle.std.proofs.lemmas.Bool.{cases_lt}
use Rattle.std.specs.List.{AllByRecursion, Contains}
use Rattle.adp_model.specs.declared.grammar.Arg.{Arg}
use Rattle.adp_model.specs.declared.grammar.Arg.TheVariants.{Rule, Literal, Letter, Run}
use Rattle.adp_model.specs.declared.cell.Cell.{Cell}
use Rattle.adp_model.specs.PosedProblem.{PosedProblem, axiom_cell}
use Rattle.adp_model.specs.Parts.{arguments_of, alternatives_of}
use Rattle.adp_model.specs.Tokens.{letters_between}
use Rattle.adp_model.specs.Sizes.{IsWithinSizes, Names}
use Rattle.adp_model.specs.Anchors.{IsReachedRule, TheAxiom, Named, CanBeNonempty, IsNamedBehind, SomeCanBeNonempty, IsNamedBefore, Behind, LeftOf, Before, RightOf, IsLeftAnchored, IsRightAnchored}
use Rattle.adp_model.specs.Cells.{IsCounted}
use Rattle.adp_model.specs.Splits.{Placed, place, FitsSpan}
use Rattle.adp_model.specs.Demand.{IsDemandedChild, IsDemanded, Axiom, Child}
use Rattle.adp_model.specs.WellFormed.{is_well_formed}
use Rattle.adp_model.proofs.Ends.{last_end}
use Rattle.adp_model.proofs.SizeNumbers.{IsGreatestSize_unique}
use Rattle.adp_model.proofs.KnownRules.{rule_known-within}
use Rattle.adp_model.proofs.Sized.{length-letters_between}
use Rattle.adp_model.proofs.Falling.{rising, contained, AreViableEnds, viable_ends, IsFew-formed}

-- ---- arguments on spans that are not empty

above_none : (high : Option ℕ) (n : ℕ) → 0 < n → IfSome high (λ most. n ≤ most) → high ≡ Some 0 → ⊥
above_none high n some h e = let k : n ≤ 0 = subst (λ o. IfSome o (λ most. n ≤ most)) e h in omega arith

can_be_nonempty : (p : PosedProblem) (argument : Arg) (from to : ℕ) → FitsSpan p (record { argument = argument; from = from; to = to }) → from < to → CanBeNonempty p.grammar argument
can_be_nonempty p (Rule rule) from to fits some = λ none.
    let within : IsWithinSizes p.grammar rule (to - from) = fits.1 in
    above_none within.1 (to - from) (omega arith) within.5 (IsGreatestSize_unique p.grammar rule within.1 (Some 0) within.3 none)
can_be_nonempty p (Literal text) from to fits some =
    let e : length (letters_between p.word from to) ≡ length text = ap length fits.1 in
    omega (arith, length-letters_between p.word from to fits.0)
can_be_nonempty p (Letter class) from to fits some = tt
can_be_nonempty p (Run class low high) from to fits some =
    above_none high (length (letters_between p.word from to)) (omega (arith, length-letters_between p.word from to fits.0)) fits.1.1

-- ---- where an argument's span begins and ends

contains_more : {X : Type 0} (x y : X) (xs : List X) → Contains xs x → Contains (y ∷ xs) x
contains_more x y xs (k, inside, e) = (suc k, omega arith, e)

-- an argument that is laid is one of the arguments
laid_among : (arguments : List Arg) (from : ℕ) (ends : List ℕ) (argument : Arg) (a b : ℕ) → Contains (place arguments from ends) (record { argument = argument; from = a; to = b }) → Contains arguments argument
laid_among [] from ends argument a b (k, inside, e) = absurd (omega arith)
laid_among (first ∷ arguments) from [] argument a b (k, inside, e) = absurd (omega arith)
laid_among (first ∷ arguments) from (to ∷ ends) argument a b (zero, inside, e) = (zero, omega arith, ap (λ (placed : Placed). placed.argument) e)
laid_among (first ∷ arguments) from (to ∷ ends) argument a b (suc k, inside, e) =
    contains_more argument first arguments (laid_among arguments to ends argument a b (k, omega arith, e))

-- it begins where the span begins, or stands behind an argument that can be nonempty
begins_or_behind : (p : PosedProblem) (arguments : List Arg) (from : ℕ) (ends : List ℕ) (rule a b : ℕ) → AllByRecursion (FitsSpan p) (place arguments from ends) → Contains (place arguments from ends) (record { argument = Rule rule; from = a; to = b }) → (a ≡ from) ⊎ IsNamedBehind p.grammar rule arguments
begins_or_behind p [] from ends rule a b fits (k, inside, e) = absurd (omega arith)
begins_or_behind p (first ∷ arguments) from [] rule a b fits (k, inside, e) = absurd (omega arith)
begins_or_behind p (first ∷ arguments) from (to ∷ ends) rule a b fits (zero, inside, e) = inl (sym (ap (λ (placed : Placed). placed.from) e))
begins_or_behind p (first ∷ arguments) from (to ∷ ends) rule a b fits (suc k, inside, e) =
    go (cases_lt from to) (begins_or_behind p arguments to ends rule a b fits.1 (k, omega arith, e))
  where
    go : (from < to) ⊎ (to ≤ from) → (a ≡ to) ⊎ IsNamedBehind p.grammar rule arguments → (a ≡ from) ⊎ IsNamedBehind p.grammar rule (first ∷ arguments)
    go (inl some) h = inr (inl (can_be_nonempty p first from to fits.0 some, laid_among arguments to ends (Rule rule) a b (k, omega arith, e)))
    go (inr none) (inl here) = let order : from ≤ to = fits.0.0.in_order in inl (omega arith)
    go (inr none) (inr behind) = inr (inr behind)

some_nonempty : (p : PosedProblem) (arguments : List Arg) (from : ℕ) (ends : List ℕ) → length ends ≡ length arguments → AllByRecursion (FitsSpan p) (place arguments from ends) → from < last_end from ends → SomeCanBeNonempty p.grammar arguments
some_nonempty p [] from [] count fits some = absurd (omega arith)
some_nonempty p [] from (to ∷ ends) count fits some = absurd (omega arith)
some_nonempty p (first ∷ arguments) from [] count fits some = absurd (omega arith)
some_nonempty p (first ∷ arguments) from (to ∷ ends) count fits some = go (cases_lt from to) (cases_lt to (last_end to ends)) (some_nonempty p arguments to ends (omega arith) fits.1)
  where
    go : (from < to) ⊎ (to ≤ from) → (to < last_end to ends) ⊎ (last_end to ends ≤ to) → (to < last_end to ends → SomeCanBeNonempty p.grammar arguments) → SomeCanBeNonempty p.grammar (first ∷ arguments)
    go (inl here) behind others = inl (can_be_nonempty p first from to fits.0 here)
    go (inr none) (inl behind) others = inr (others behind)
    go (inr none) (inr behind) others = let k : from < last_end to ends = some in absurd (omega arith)

-- it ends where the last argument ends, or stands before an argument that can be nonempty
ends_or_before : (p : PosedProblem) (arguments : List Arg) (from : ℕ) (ends : List ℕ) (rule a b : ℕ) → length ends ≡ length arguments → AllByRecursion (FitsSpan p) (place arguments from ends) → Contains (place arguments from ends) (record { argument = Rule rule; from = a; to = b }) → (b ≡ last_end from ends) ⊎ IsNamedBefore p.grammar rule arguments
ends_or_before p [] from ends rule a b count fits (k, inside, e) = absurd (omega arith)
ends_or_before p (first ∷ arguments) from [] rule a b count fits (k, inside, e) = absurd (omega arith)
ends_or_before p (first ∷ arguments) from (to ∷ ends) rule a b count fits (zero, inside, e) = go (cases_lt to (last_end to ends))
  where
    go : (to < last_end to ends) ⊎ (last_end to ends ≤ to) → (b ≡ last_end to ends) ⊎ IsNamedBefore p.grammar rule (first ∷ arguments)
    go (inl some) = inr (inl (ap (λ (placed : Placed). placed.argument) e, some_nonempty p arguments to ends (omega arith) fits.1 some))
    go (inr none) =
        let order : to ≤ last_end to ends = rising p arguments to ends (omega arith) fits.1 in
        let here : to ≡ b = ap (λ (placed : Placed). placed.to) e in
        inl (omega arith)
ends_or_before p (first ∷ arguments) from (to ∷ ends) rule a b count fits (suc k, inside, e) =
    go (ends_or_before p arguments to ends rule a b (omega arith) fits.1 (k, omega arith, e))
  where
    go : (b ≡ last_end to ends) ⊎ IsNamedBefore p.grammar rule arguments → (b ≡ last_end to ends) ⊎ IsNamedBefore p.grammar rule (first ∷ arguments)
    go (inl here) = inl here
    go (inr before) = inr (inr before)

-- ---- demanded children

-- a demanded child's split, laid by the ends of its arguments
pub record IsLaidChild (p : PosedProblem) (cell child : Cell) (alternative : ℕ) (ends : List ℕ) : Type 0 where
  pub in_range : alternative < length (alternatives_of p.grammar cell.rule)
  pub count : length ends ≡ length (arguments_of p.grammar cell.rule alternative)
  pub last : last_end cell.from ends ≡ cell.to
  pub fits : AllByRecursion (FitsSpan p) (place (arguments_of p.grammar cell.rule alternative) cell.from ends)
  pub laid : Contains (place (arguments_of p.grammar cell.rule alternative) cell.from ends) (record { argument = Rule child.rule; from = child.from; to = child.to })

laid_child : (p : PosedProblem) → IsTrue (is_well_formed p.grammar) → (cell child : Cell) → (h : IsDemandedChild p cell child) → (ends : List ℕ) × IsLaidChild p cell child h.0 ends
laid_child p formed cell child h =
    let found = viable_ends p cell h.0 h.1 (IsFew-formed p.grammar formed cell.rule h.0 h.2.in_range) h.2 in
    let are : AreViableEnds p cell h.0 h.1 found.0 = found.1 in
    let it : Placed = record { argument = Rule child.rule; from = child.from; to = child.to } in
    (found.0, record { in_range = h.2.in_range; count = are.count; last = are.last; fits = are.fits; laid = subst (λ laid. Contains laid it) are.placed_is h.3 })

-- ---- all demanded cells

-- a counted cell of a reached rule
record IsReachedCell (p : PosedProblem) (cell : Cell) : Type 0 where
  reached : IsReachedRule p.grammar cell.rule
  counted : IsCounted p.grammar (length p.word) cell

axiom_counted : (p : PosedProblem) → IsWithinSizes p.grammar p.grammar.axiom (length p.word) → IsReachedCell p (axiom_cell p)
axiom_counted p within = record {
  reached = TheAxiom;
  counted = record { rule = rule_known-within p.grammar p.grammar.axiom (length p.word) within; in_order = omega arith; in_word = omega arith; size = subst (IsWithinSizes p.grammar p.grammar.axiom) (let e : length p.word ≡ length p.word - 0 = omega arith in e) within; left = λ anchored. refl; right = λ anchored. refl };
}

child_counted : (p : PosedProblem) (cell child : Cell) (alternative : ℕ) (ends : List ℕ) → IsReachedCell p cell → IsLaidChild p cell child alternative ends → IsReachedCell p child
child_counted p cell child alternative ends h laid = record {
  reached = Named cell.rule child.rule h.reached names;
  counted = record {
    rule = rule_known-within p.grammar child.rule (child.to - child.from) fits.1;
    in_order = fits.0.in_order;
    in_word = fits.0.in_word;
    size = fits.1;
    left = λ anchored. left anchored (begins_or_behind p arguments cell.from ends child.rule child.from child.to laid.fits laid.laid);
    right = λ anchored. right anchored (ends_or_before p arguments cell.from ends child.rule child.from child.to laid.count laid.fits laid.laid);
  };
}
  where
    arguments : List Arg
    arguments = arguments_of p.grammar cell.rule alternative

    names : Names p.grammar cell.rule child.rule
    names = (alternative, laid.in_range, laid_among (arguments_of p.grammar cell.rule alternative) cell.from ends (Rule child.rule) child.from child.to laid.laid)

    fits : FitsSpan p (record { argument = Rule child.rule; from = child.from; to = child.to })
    fits = contained (FitsSpan p) (place (arguments_of p.grammar cell.rule alternative) cell.from ends) (record { argument = Rule child.rule; from = child.from; to = child.to }) laid.fits laid.laid

    left : IsLeftAnchored p.grammar child.rule → (child.from ≡ cell.from) ⊎ IsNamedBehind p.grammar child.rule (arguments_of p.grammar cell.rule alternative) → child.from ≡ 0
    left anchored (inl same) = same ∙ h.counted.left (λ free. anchored (LeftOf cell.rule child.rule h.reached free names))
    left anchored (inr behind) = absurd (anchored (Behind child.rule (cell.rule, alternative, h.reached, laid.in_range, behind)))

    right : IsRightAnchored p.grammar child.rule → (child.to ≡ last_end cell.from ends) ⊎ IsNamedBefore p.grammar child.rule (arguments_of p.grammar cell.rule alternative) → child.to ≡ length p.word
    right anchored (inl same) = same ∙ laid.last ∙ h.counted.right (λ free. anchored (RightOf cell.rule child.rule h.reached free names))
    right anchored (inr before) = absurd (anchored (Before child.rule (cell.rule, alternative, h.reached, laid.in_range, before)))

reached_cell : (p : PosedProblem) → IsTrue (is_well_formed p.grammar) → (cell : Cell) → IsDemanded p cell → IsReachedCell p cell
reached_cell p formed _ (Axiom within) = axiom_counted p within
reached_cell p formed _ (Child cell child demanded h) =
    let laid = laid_child p formed cell child h in
    child_counted p cell child h.0 laid.0 (reached_cell p formed cell demanded) laid.1

pub demanded_counted : (p : PosedProblem) → IsTrue (is_well_formed p.grammar) → (cell : Cell) → IsDemanded p cell → IsCounted p.grammar (length p.word) cell
demanded_counted p formed cell demanded = (reached_cell p formed cell demanded).counted
