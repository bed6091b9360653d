-- Along a viable split the cells of rule arguments are shorter than the cell, or have its span and a lesser rank.
use Rattle.std.proofs.Common.{◌≡◌, ℕ, zero, suc, ◌-◌, ◌<◌, ◌≤◌, ◌⊎◌, inl, inr, min, Option, IsTrue, List, [], ◌∷◌, length, slice_index, refl, sym, subst, ap, ◌∙◌, arith}
use Rattle.std.proofs.lemmas.Bool.{cases_lt}
use Rattle.std.specs.List.{AllByRecursion, Contains}
use Rattle.adp_model.specs.declared.grammar.Arg.{Arg}
use Rattle.adp_model.specs.declared.grammar.Arg.TheVariants.{Rule, Literal, Letter, Run}
use Rattle.adp_model.specs.declared.grammar.Grammar.{Grammar}
use Rattle.adp_model.specs.declared.cell.Cell.{Cell}
use Rattle.adp_model.specs.PosedProblem.{PosedProblem, IsSpan}
use Rattle.adp_model.specs.Parts.{arguments_of, alternatives_of}
use Rattle.adp_model.specs.Tokens.{letters_between, Matches}
use Rattle.adp_model.specs.Lengths.{AdmitsLength, HasLength}
use Rattle.adp_model.specs.Sizes.{IsWithinSizes, greatest_kept}
use Rattle.adp_model.specs.Loops.{CanBeEmpty, AreEmptyBut}
use Rattle.adp_model.specs.Splits.{Placed, AtRule, place, placed, FitsSpan, IsViable}
use Rattle.adp_model.specs.Demand.{IsDemandedChild, IsBelow}
use Rattle.adp_model.specs.Checks.{IsChecked}
use Rattle.adp_model.specs.WellFormed.{is_well_formed}
use Rattle.adp_model.proofs.Ends.{last_end, IsFew, AreEnds, AreEnds-viable, place-append}
use Rattle.adp_model.proofs.Sized.{length-letters_between, AdmitsLength-matched}
use Rattle.adp_model.proofs.WellFormedParts.{HasFewArguments-formed, some_arguments-formed}

-- ---- arguments on empty spans

no_letters : (p : PosedProblem) (token : Arg) (from to : ℕ) → IsSpan p.word from to → Matches p.grammar token (letters_between p.word from to) → from ≡ to → AdmitsLength token 0
no_letters p token from to span matches e =
    let none : length (letters_between p.word from to) ≡ 0 = omega (arith, length-letters_between p.word from to span) in
    subst (AdmitsLength token) none (AdmitsLength-matched p.grammar token (letters_between p.word from to) matches)

can_be_empty : (p : PosedProblem) (argument : Arg) (from to : ℕ) → FitsSpan p (record { argument = argument; from = from; to = to }) → from ≡ to → CanBeEmpty p.grammar argument
can_be_empty p (Rule rule) from to fits e =
    let within : IsWithinSizes p.grammar rule (to - from) = fits.1 in
    let low : within.0 ≤ to - from = within.4 in
    let cut : within.0 ≡ min within.2.0 greatest_kept = within.2.3 in
    let none : within.2.0 ≡ 0 = omega arith in
    subst (HasLength p.grammar rule) none within.2.1
can_be_empty p (Literal text) from to fits e = no_letters p (Literal text) from to fits.0 fits.1 e
can_be_empty p (Letter class) from to fits e = no_letters p (Letter class) from to fits.0 fits.1 e
can_be_empty p (Run class low high) from to fits e = no_letters p (Run class low high) from to fits.0 fits.1 e

-- ---- arguments laid along a span

-- the arguments go from left to right
pub rising : (p : PosedProblem) (arguments : List Arg) (from : ℕ) (ends : List ℕ) → length ends ≡ length arguments → AllByRecursion (FitsSpan p) (place arguments from ends) → from ≤ last_end from ends
rising p [] from [] e fits = omega arith
rising p [] from (to ∷ ends) e fits = absurd (omega arith)
rising p (argument ∷ arguments) from [] e fits = absurd (omega arith)
rising p (argument ∷ arguments) from (to ∷ ends) e fits =
    let k : from ≤ to = fits.0.0.in_order in
    let m : to ≤ last_end to ends = rising p arguments to ends (omega arith) fits.1 in
    omega arith

all_empty : (p : PosedProblem) (arguments : List Arg) (from : ℕ) (ends : List ℕ) → length ends ≡ length arguments → AllByRecursion (FitsSpan p) (place arguments from ends) → last_end from ends ≡ from → AllByRecursion (CanBeEmpty p.grammar) arguments
all_empty p [] from ends e fits none = tt
all_empty p (argument ∷ arguments) from [] e fits none = absurd (omega arith)
all_empty p (argument ∷ arguments) from (to ∷ ends) e fits none =
    let k : from ≤ to = fits.0.0.in_order in
    let m : to ≤ last_end to ends = rising p arguments to ends (omega arith) fits.1 in
    let n : last_end to ends ≡ from = none in
    (can_be_empty p argument from to fits.0 (omega arith), all_empty p arguments to ends (omega arith) fits.1 (omega arith))

-- a cell of a rule argument lies within the span, and is shorter or leaves nothing to the other arguments
pub record IsFalling (grammar : Grammar) (arguments : List Arg) (low high : ℕ) (child : Cell) : Type 0 where
  pub begins : low ≤ child.from
  pub in_order : child.from ≤ child.to
  pub ends : child.to ≤ high
  pub lesser : (child.to - child.from < high - low) ⊎ ((child.from ≡ low) × (child.to ≡ high) × AreEmptyBut grammar child.rule arguments)

all_mapped : {X : Type 0} (P Q : X → Type 0) → ((x : X) → P x → Q x) → (xs : List X) → AllByRecursion P xs → AllByRecursion Q xs
all_mapped P Q each [] h = tt
all_mapped P Q each (x ∷ xs) h = (each x h.0, all_mapped P Q each xs h.1)

at_rule_mapped : (P Q : Cell → Type 0) → ((child : Cell) → P child → Q child) → (placed : Placed) → AtRule P placed → AtRule Q placed
at_rule_mapped P Q each placed = go placed.argument placed.from placed.to
  where
    go : (argument : Arg) (from to : ℕ) → AtRule P (record { argument = argument; from = from; to = to }) → AtRule Q (record { argument = argument; from = from; to = to })
    go (Rule rule) from to h = each _ h
    go (Literal text) from to h = tt
    go (Letter class) from to h = tt
    go (Run class low high) from to h = tt

-- one argument before
IsFalling-behind : (p : PosedProblem) (argument : Arg) (arguments : List Arg) (from to high : ℕ) → FitsSpan p (record { argument = argument; from = from; to = to }) → to ≤ high → (child : Cell) → IsFalling p.grammar arguments to high child → IsFalling p.grammar (argument ∷ arguments) from high child
IsFalling-behind p argument arguments from to high fits before child h =
    let k : from ≤ to = fits.0.in_order in
    let begins = h.begins in
    let in_order = h.in_order in
    let ends = h.ends in
    record { begins = omega arith; in_order = in_order; ends = ends; lesser = go (cases_lt from to) h.lesser }
  where
    go : (from < to) ⊎ (to ≤ from) → (child.to - child.from < high - to) ⊎ ((child.from ≡ to) × (child.to ≡ high) × AreEmptyBut p.grammar child.rule arguments) → (child.to - child.from < high - from) ⊎ ((child.from ≡ from) × (child.to ≡ high) × AreEmptyBut p.grammar child.rule (argument ∷ arguments))
    go (inl k) (inl less) = inl (omega arith)
    go (inl k) (inr same) = let a : child.from ≡ to = same.0 in let b : child.to ≡ high = same.1 in inl (omega arith)
    go (inr k) (inl less) = let a : from ≤ to = fits.0.in_order in inl (omega arith)
    go (inr k) (inr same) =
        let a : from ≤ to = fits.0.in_order in
        let b : child.from ≡ to = same.0 in
        inr (omega arith, same.1, inr (can_be_empty p argument from to fits (omega arith), same.2))

IsFalling-here : (p : PosedProblem) (rule : ℕ) (arguments : List Arg) (from to : ℕ) (ends : List ℕ) → from ≤ to → length ends ≡ length arguments → AllByRecursion (FitsSpan p) (place arguments to ends) → IsFalling p.grammar (Rule rule ∷ arguments) from (last_end to ends) (record { rule = rule; from = from; to = to })
IsFalling-here p rule arguments from to ends span e fits =
    let m : to ≤ last_end to ends = rising p arguments to ends e fits in
    record { begins = omega arith; in_order = span; ends = m; lesser = go (cases_lt to (last_end to ends)) }
  where
    go : (to < last_end to ends) ⊎ (last_end to ends ≤ to) → (to - from < last_end to ends - from) ⊎ ((from ≡ from) × (to ≡ last_end to ends) × AreEmptyBut p.grammar rule (Rule rule ∷ arguments))
    go (inl k) = inl (omega arith)
    go (inr k) =
        let m : to ≤ last_end to ends = rising p arguments to ends e fits in
        let same : last_end to ends ≡ to = omega arith in
        inr (refl, sym same, inl (refl, all_empty p arguments to ends e fits same))

falling_head : (p : PosedProblem) (argument : Arg) (arguments : List Arg) (from to : ℕ) (ends : List ℕ) → length ends ≡ length arguments → FitsSpan p (record { argument = argument; from = from; to = to }) → AllByRecursion (FitsSpan p) (place arguments to ends) → AtRule (IsFalling p.grammar (argument ∷ arguments) from (last_end to ends)) (record { argument = argument; from = from; to = to })
falling_head p (Rule rule) arguments from to ends e fit fits = IsFalling-here p rule arguments from to ends fit.0.in_order e fits
falling_head p (Literal text) arguments from to ends e fit fits = tt
falling_head p (Letter class) arguments from to ends e fit fits = tt
falling_head p (Run class low high) arguments from to ends e fit fits = tt

falling_behind : (p : PosedProblem) (argument : Arg) (arguments : List Arg) (from to high : ℕ) (laid : List Placed) → FitsSpan p (record { argument = argument; from = from; to = to }) → to ≤ high → AllByRecursion (AtRule (IsFalling p.grammar arguments to high)) laid → AllByRecursion (AtRule (IsFalling p.grammar (argument ∷ arguments) from high)) laid
falling_behind p argument arguments from to high laid fit before =
    all_mapped (AtRule (IsFalling p.grammar arguments to high)) (AtRule (IsFalling p.grammar (argument ∷ arguments) from high))
    (at_rule_mapped (IsFalling p.grammar arguments to high) (IsFalling p.grammar (argument ∷ arguments) from high)
    (IsFalling-behind p argument arguments from to high fit before))
    laid

pub falling : (p : PosedProblem) (arguments : List Arg) (from : ℕ) (ends : List ℕ) → length ends ≡ length arguments → AllByRecursion (FitsSpan p) (place arguments from ends) → AllByRecursion (AtRule (IsFalling p.grammar arguments from (last_end from ends))) (place arguments from ends)
falling p [] from ends e fits = tt
falling p (argument ∷ arguments) from [] e fits = tt
falling p (argument ∷ arguments) from (to ∷ ends) e fits = (
  falling_head p argument arguments from to ends (omega arith) fits.0 fits.1,
  falling_behind p argument arguments from to (last_end to ends) (place arguments to ends) fits.0 (rising p arguments to ends (omega arith) fits.1) (falling p arguments to ends (omega arith) fits.1),
)

-- ---- viable splits

-- the ends of a viable split's arguments
pub record AreViableEnds (p : PosedProblem) (cell : Cell) (alternative : ℕ) (cuts ends : List ℕ) : Type 0 where
  pub count : length ends ≡ length (arguments_of p.grammar cell.rule alternative)
  pub last : last_end cell.from ends ≡ cell.to
  pub placed_is : placed p cell alternative cuts ≡ place (arguments_of p.grammar cell.rule alternative) cell.from ends
  pub fits : AllByRecursion (FitsSpan p) (place (arguments_of p.grammar cell.rule alternative) cell.from ends)

pub viable_ends : (p : PosedProblem) (cell : Cell) (alternative : ℕ) (cuts : List ℕ) → IsFew (length (arguments_of p.grammar cell.rule alternative)) → IsViable p cell alternative cuts → (ends : List ℕ) × AreViableEnds p cell alternative cuts ends
viable_ends p cell alternative cuts few viable =
    let arguments : List Arg = arguments_of p.grammar cell.rule alternative in
    let found = AreEnds-viable cell.from cell.to (length arguments) cuts few viable.three viable.last in
    let ends : List ℕ = found.0 in
    let are : AreEnds cell.from cell.to (length arguments) cuts ends = found.1 in
    let e : placed p cell alternative cuts ≡ place arguments cell.from ends = ap (place arguments cell.from) are.begins ∙ place-append arguments cell.from ends are.rest are.count_is in
    (ends, record { count = are.count_is; last = are.last; placed_is = e; fits = subst (AllByRecursion (FitsSpan p)) e viable.fits })

pub IsFew-formed : (grammar : Grammar) → IsTrue (is_well_formed grammar) → (rule alternative : ℕ) → alternative < length (alternatives_of grammar rule) → IsFew (length (arguments_of grammar rule alternative))
IsFew-formed grammar formed rule alternative in_range = record { one = some_arguments-formed grammar formed rule alternative in_range; four = HasFewArguments-formed grammar formed rule alternative }

pub falling_split : (p : PosedProblem) → IsTrue (is_well_formed p.grammar) → (cell : Cell) (alternative : ℕ) (cuts : List ℕ) → IsViable p cell alternative cuts → AllByRecursion (AtRule (IsFalling p.grammar (arguments_of p.grammar cell.rule alternative) cell.from cell.to)) (placed p cell alternative cuts)
falling_split p formed cell alternative cuts viable =
    let arguments : List Arg = arguments_of p.grammar cell.rule alternative in
    let found = viable_ends p cell alternative cuts (IsFew-formed p.grammar formed cell.rule alternative viable.in_range) viable in
    let are : AreViableEnds p cell alternative cuts found.0 = found.1 in
    subst (AllByRecursion (AtRule (IsFalling p.grammar arguments cell.from cell.to))) (sym are.placed_is)
    (subst (λ to. AllByRecursion (AtRule (IsFalling p.grammar arguments cell.from to)) (place arguments cell.from found.0)) are.last (falling p arguments cell.from found.0 are.count are.fits))

-- the cells of rule arguments are below the cell
pub below_split : (p : PosedProblem) (least : List ℕ) (greatest : List (Option ℕ)) (ranks : List ℕ) → IsChecked p.grammar p.algebra least greatest ranks → (cell : Cell) (alternative : ℕ) (cuts : List ℕ) → IsViable p cell alternative cuts → AllByRecursion (AtRule (λ child. IsBelow ranks child cell)) (placed p cell alternative cuts)
below_split p least greatest ranks checked cell alternative cuts viable =
    all_mapped (AtRule (IsFalling p.grammar (arguments_of p.grammar cell.rule alternative) cell.from cell.to)) (AtRule (λ child. IsBelow ranks child cell))
    (at_rule_mapped (IsFalling p.grammar (arguments_of p.grammar cell.rule alternative) cell.from cell.to) (λ child. IsBelow ranks child cell) each)
    (placed p cell alternative cuts)
    (falling_split p checked.well_formed cell alternative cuts viable)
  where
    lower : (child : Cell) → (child.to - child.from < cell.to - cell.from) ⊎ ((child.from ≡ cell.from) × (child.to ≡ cell.to) × AreEmptyBut p.grammar child.rule (arguments_of p.grammar cell.rule alternative)) → (child.to - child.from < cell.to - cell.from) ⊎ ((child.from ≡ cell.from) × (child.to ≡ cell.to) × (slice_index ranks child.rule < slice_index ranks cell.rule))
    lower child (inl less) = inl less
    lower child (inr same) = inr (same.0, same.1, checked.ranks_fall cell.rule child.rule (alternative, viable.in_range, same.2))

    each : (child : Cell) → IsFalling p.grammar (arguments_of p.grammar cell.rule alternative) cell.from cell.to child → IsBelow ranks child cell
    each child h = record { begins = h.begins; in_order = h.in_order; ends = h.ends; lesser = lower child h.lesser }

-- ---- demanded children

pub contained : {X : Type 0} (P : X → Type 0) (xs : List X) (x : X) → AllByRecursion P xs → Contains xs x → P x
contained P [] x all (k, inside, e) = absurd (omega arith)
contained P (y ∷ xs) x all (zero, inside, e) = subst P e all.0
contained P (y ∷ xs) x all (suc k, inside, e) = contained P xs x all.1 (k, omega arith, e)

pub at_child : (p : PosedProblem) (P : Cell → Type 0) (cell child : Cell) (alternative : ℕ) (cuts : List ℕ) → AllByRecursion (AtRule P) (placed p cell alternative cuts) → Contains (placed p cell alternative cuts) (record { argument = Rule child.rule; from = child.from; to = child.to }) → P child
at_child p P cell child alternative cuts all inside = contained (AtRule P) (placed p cell alternative cuts) (record { argument = Rule child.rule; from = child.from; to = child.to }) all inside

pub below_demanded : (p : PosedProblem) (least : List ℕ) (greatest : List (Option ℕ)) (ranks : List ℕ) → IsChecked p.grammar p.algebra least greatest ranks → (cell child : Cell) → IsDemandedChild p cell child → IsBelow ranks child cell
below_demanded p least greatest ranks checked cell child h =
    at_child p (λ child. IsBelow ranks child cell) cell child h.0 h.1 (below_split p least greatest ranks checked cell h.0 h.1 h.2) h.3
