-- Between splits and trees: a scored split is a composed tree, and a composed tree's root is a scored split.
use Rattle.std.proofs.Common.{◌≡◌, ℕ, ◌-◌, ◌<◌, ℤ, List, [], ◌∷◌, length, drop, refl, sym, ap, ap₂, subst, ◌∙◌, arith}
use Rattle.std.specs.List.{AllByRecursion}
use Rattle.adp_model.specs.declared.grammar.Arg.{Arg}
use Rattle.adp_model.specs.declared.grammar.Arg.TheVariants.{Rule}
use Rattle.adp_model.specs.declared.cell.Cell.{Cell}
use Rattle.adp_model.specs.declared.cell.Choice.{Choice}
use Rattle.adp_model.specs.PosedProblem.{PosedProblem, IsSpan}
use Rattle.adp_model.specs.Parts.{alternatives_of, alternative_at, arguments_of, term_of}
use Rattle.adp_model.specs.Tokens.{letters_between, token_value}
use Rattle.adp_model.specs.Terms.{term_value}
use Rattle.adp_model.specs.Lengths.{AllowsLength}
use Rattle.adp_model.specs.Tree.{Tree, Leaf, Node, Trees, Nil, Cons, end_of, ends_of}
use Rattle.adp_model.specs.Derivation.{Derives, DeriveArguments}
use Rattle.adp_model.specs.Scores.{score_of, values_of}
use Rattle.adp_model.specs.Preference.{cuts_of, IsPreferred}
use Rattle.adp_model.specs.Answers.{choice_of}
use Rattle.adp_model.specs.Splits.{place, placed, ends_by, FitsSpan, IsViable}
use Rattle.adp_model.specs.FirstSplit.{IsScoredSplit}
use Rattle.adp_model.specs.Bellman.{HasBestScore, ArePreferred}
use Rattle.adp_model.proofs.Ends.{last_end, cuts_at, IsFew, AreCuts, AreCuts-cuts_at, AreEnds, AreEnds-viable, place-append}
use Rattle.adp_model.proofs.Derived.{end-derived, IsSpan-derived, length-derived}
use Rattle.adp_model.proofs.Premises.{IsFew-arguments, IsComposed, IsSolvable, AreBestValues}

-- children of the arguments, with these ends and values, the rule children preferred
pub record HasChildren (p : PosedProblem) (arguments : List Arg) (from to : ℕ) (ends : List ℕ) (values : List ℤ) : Type 0 where
  pub children : Trees
  pub derived : DeriveArguments p arguments from to children
  pub preferred : ArePreferred p arguments from children
  pub ends_are : ends_of children ≡ ends
  pub values_are : values_of p arguments children ≡ values

with_rule : (p : PosedProblem) (rule : ℕ) (arguments : List Arg) (from middle to : ℕ) (ends : List ℕ) (value : ℤ) (values : List ℤ) (tree : Tree) → IsPreferred p (record { rule = rule; from = from; to = middle }) tree → value ≡ score_of p tree → HasChildren p arguments middle to ends values → HasChildren p (Rule rule ∷ arguments) from to (middle ∷ ends) (value ∷ values)
with_rule p rule arguments from middle to ends value values tree first is others =
    let e : end_of tree ≡ middle = end-derived p _ tree first.derived in
    record {
      children = Cons tree others.children;
      derived = (subst (λ x. Derives p (record { rule = rule; from = from; to = x }) tree) (sym e) first.derived, subst (λ x. DeriveArguments p arguments x to others.children) (sym e) others.derived);
      preferred = (subst (λ x. IsPreferred p (record { rule = rule; from = from; to = x }) tree) (sym e) first, subst (λ x. ArePreferred p arguments x others.children) (sym e) others.preferred);
      ends_are = ap₂ (λ x xs. x ∷ xs) e others.ends_are;
      values_are = ap₂ (λ x xs. x ∷ xs) (sym is) others.values_are;
    }

-- a scored split's arguments have children
pub HasChildren-best : (p : PosedProblem) (arguments : List Arg) (from : ℕ) (ends : List ℕ) (values : List ℤ) → length ends ≡ length arguments → AllByRecursion (FitsSpan p) (place arguments from ends) → AreBestValues p (place arguments from ends) values → HasChildren p arguments from (last_end from ends) ends values
HasChildren-best p [] from [] [] e fits best = record { children = Nil; derived = refl; preferred = tt; ends_are = refl; values_are = refl }
HasChildren-best p [] from [] (value ∷ values) e fits best = absurd best
HasChildren-best p [] from (to ∷ ends) values e fits best = absurd (omega arith)
HasChildren-best p (argument ∷ arguments) from [] values e fits best = absurd (omega arith)
HasChildren-best p (argument ∷ arguments) from (to ∷ ends) [] e fits best = absurd best
HasChildren-best p (Rule rule ∷ arguments) from (to ∷ ends) (value ∷ values) e fits best =
    with_rule p rule arguments from to (last_end to ends) ends value values best.0.1.0 best.0.1.1 best.0.1.2 (HasChildren-best p arguments to ends values (omega arith) fits.1 best.1)
HasChildren-best p (token ∷ arguments) from (to ∷ ends) (value ∷ values) e fits best =
    let others = HasChildren-best p arguments to ends values (omega arith) fits.1 best.1 in
    record {
      children = Cons (Leaf from to) others.children;
      derived = ((refl, fits.0.0, fits.0.1), others.derived);
      preferred = others.preferred;
      ends_are = ap (λ xs. to ∷ xs) others.ends_are;
      values_are = ap₂ (λ x xs. x ∷ xs) (sym best.0) others.values_are;
    }

-- ---- and back: what the children of a composed tree say of its split

pub last-ends : (p : PosedProblem) (arguments : List Arg) (from to : ℕ) (children : Trees) → DeriveArguments p arguments from to children → last_end from (ends_of children) ≡ to
last-ends p [] from to Nil h = h
last-ends p [] from to (Cons first others) h = absurd h
last-ends p (argument ∷ arguments) from to Nil h = absurd h
last-ends p (Rule rule ∷ arguments) from to (Cons first others) h = last-ends p arguments (end_of first) to others h.1
last-ends p (token ∷ arguments) from to (Cons first others) h = last-ends p arguments (end_of first) to others h.1

pub fits-derived : (p : PosedProblem) (measure : Cell → ℕ) → IsSolvable p measure → (arguments : List Arg) (from to : ℕ) (children : Trees) → DeriveArguments p arguments from to children → AllByRecursion (FitsSpan p) (place arguments from (ends_of children))
fits-derived p measure solvable [] from to children h = tt
fits-derived p measure solvable (argument ∷ arguments) from to Nil h = absurd h
fits-derived p measure solvable (Rule rule ∷ arguments) from to (Cons first others) h =
    let cell : Cell = record { rule = rule; from = from; to = end_of first } in
    ((IsSpan-derived p cell first h.0, solvable.sound cell first h.0), fits-derived p measure solvable arguments (end_of first) to others h.1)
fits-derived p measure solvable (token ∷ arguments) from to (Cons (Leaf from' to') others) h =
    (subst (λ x. FitsSpan p (record { argument = token; from = x; to = to' })) h.0.0 (h.0.1, h.0.2), fits-derived p measure solvable arguments to' to others h.1)
fits-derived p measure solvable (token ∷ arguments) from to (Cons (Node rule alternative from' to' children) others) h = absurd h.0

best-derived : (p : PosedProblem) (arguments : List Arg) (from to : ℕ) (children : Trees) → DeriveArguments p arguments from to children → ArePreferred p arguments from children → AreBestValues p (place arguments from (ends_of children)) (values_of p arguments children)
best-derived p [] from to children h preferred = tt
best-derived p (argument ∷ arguments) from to Nil h preferred = absurd h
best-derived p (Rule rule ∷ arguments) from to (Cons first others) h preferred =
    ((choice_of first, (first, preferred.0, refl, refl)), best-derived p arguments (end_of first) to others h.1 preferred.1)
best-derived p (token ∷ arguments) from to (Cons (Leaf from' to') others) h preferred =
    (ap (λ x. token_value p.grammar token (letters_between p.word x to')) h.0.0, best-derived p arguments to' to others h.1 preferred)
best-derived p (token ∷ arguments) from to (Cons (Node rule alternative from' to' children) others) h preferred = absurd h.0

-- the root of a derived tree is a viable split
root_cuts : (p : PosedProblem) (arguments : List Arg) (from to : ℕ) (children : Trees) → IsFew (length arguments) → DeriveArguments p arguments from to children → AreCuts to (ends_of children) (cuts_of to children)
root_cuts p arguments from to children few h =
    AreCuts-cuts_at from to (ends_of children) (subst IsFew (sym (length-derived p arguments from to children h)) few) (last-ends p arguments from to children h)

-- the spans of the children are those of the arguments of the root's split
pub root_placed : (p : PosedProblem) (cell : Cell) (alternative : ℕ) (children : Trees) → IsFew (length (arguments_of p.grammar cell.rule alternative)) → DeriveArguments p (arguments_of p.grammar cell.rule alternative) cell.from cell.to children → placed p cell alternative (cuts_of cell.to children) ≡ place (arguments_of p.grammar cell.rule alternative) cell.from (ends_of children)
root_placed p cell alternative children few h =
    let arguments : List Arg = arguments_of p.grammar cell.rule alternative in
    let cuts = root_cuts p arguments cell.from cell.to children few h in
    ap (place arguments cell.from) cuts.begins ∙ place-append arguments cell.from (ends_of children) cuts.rest (length-derived p arguments cell.from cell.to children h)

pub IsViable-derived : (p : PosedProblem) (measure : Cell → ℕ) → IsSolvable p measure → (cell : Cell) (alternative : ℕ) (children : Trees) → alternative < length (alternatives_of p.grammar cell.rule) → AllowsLength (alternative_at p.grammar cell.rule alternative) (cell.to - cell.from) → DeriveArguments p (arguments_of p.grammar cell.rule alternative) cell.from cell.to children → IsViable p cell alternative (cuts_of cell.to children)
IsViable-derived p measure solvable cell alternative children in_range allowed h =
    let arguments : List Arg = arguments_of p.grammar cell.rule alternative in
    let few = IsFew-arguments p measure solvable cell.rule alternative in_range in
    let cuts = root_cuts p arguments cell.from cell.to children few h in
    record {
      in_range = in_range;
      allowed = allowed;
      three = cuts.three;
      last = subst (λ n. AllByRecursion (λ boundary. boundary ≡ cell.to) (drop (n - 1) (ends_by cell (cuts_of cell.to children)))) (length-derived p arguments cell.from cell.to children h) cuts.last;
      fits = subst (AllByRecursion (FitsSpan p)) (sym (root_placed p cell alternative children few h)) (fits-derived p measure solvable arguments cell.from cell.to children h);
    }

-- ---- a composed tree's root is a scored split

node_scored : (p : PosedProblem) (measure : Cell → ℕ) → IsSolvable p measure → (cell : Cell) (alternative : ℕ) (children : Trees) → alternative < length (alternatives_of p.grammar cell.rule) → AllowsLength (alternative_at p.grammar cell.rule alternative) (cell.to - cell.from) → DeriveArguments p (arguments_of p.grammar cell.rule alternative) cell.from cell.to children → ArePreferred p (arguments_of p.grammar cell.rule alternative) cell.from children → IsScoredSplit p (HasBestScore p) cell (score_of p (Node cell.rule alternative cell.from cell.to children)) (record { alt = alternative; cuts = cuts_of cell.to children })
node_scored p measure solvable cell alternative children in_range allowed h preferred =
    let arguments : List Arg = arguments_of p.grammar cell.rule alternative in
    let few = IsFew-arguments p measure solvable cell.rule alternative in_range in
    record {
      viable = IsViable-derived p measure solvable cell alternative children in_range allowed h;
      values = values_of p arguments children;
      are_values = subst (λ x. AreBestValues p x (values_of p arguments children)) (sym (root_placed p cell alternative children few h)) (best-derived p arguments cell.from cell.to children h preferred);
      scored = refl;
    }

pub IsScoredSplit-composed : (p : PosedProblem) (measure : Cell → ℕ) → IsSolvable p measure → (cell : Cell) (tree : Tree) → IsComposed p cell tree → IsScoredSplit p (HasBestScore p) cell (score_of p tree) (choice_of tree)
IsScoredSplit-composed p measure solvable cell (Leaf from to) composed = absurd composed.derived
IsScoredSplit-composed p measure solvable cell (Node rule alternative from to children) composed =
    let d = composed.derived in
    let e : Node cell.rule alternative cell.from cell.to children ≡ Node rule alternative from to children = cc (d.0, d.1, d.2) in
    subst (λ (tree : Tree). IsScoredSplit p (HasBestScore p) cell (score_of p tree) (choice_of tree)) e (node_scored p measure solvable cell alternative children d.4 d.6 d.5 composed.preferred)

-- ---- a scored split is a composed tree

pub record IsTreeOf (p : PosedProblem) (cell : Cell) (score : ℤ) (choice : Choice) (tree : Tree) : Type 0 where
  pub composed : IsComposed p cell tree
  pub score_is : score ≡ score_of p tree
  pub choice_is : choice ≡ choice_of tree

tree_of_children : (p : PosedProblem) (cell : Cell) (score : ℤ) (alternative : ℕ) (cuts ends : List ℕ) (values : List ℤ) → IsSpan p.word cell.from cell.to → alternative < length (alternatives_of p.grammar cell.rule) → AllowsLength (alternative_at p.grammar cell.rule alternative) (cell.to - cell.from) → AreEnds cell.from cell.to (length (arguments_of p.grammar cell.rule alternative)) cuts ends → HasChildren p (arguments_of p.grammar cell.rule alternative) cell.from cell.to ends values → score ≡ term_value (term_of p cell.rule alternative) values → (tree : Tree) × IsTreeOf p cell score (record { alt = alternative; cuts = cuts }) tree
tree_of_children p cell score alternative cuts ends values span in_range allowed are has scored = (
  Node cell.rule alternative cell.from cell.to has.children,
  record {
    composed = record { derived = (refl, refl, refl, span, in_range, has.derived, allowed); preferred = has.preferred };
    score_is = scored ∙ ap (term_value (term_of p cell.rule alternative)) (sym has.values_are);
    choice_is = ap (λ x. record { alt = alternative; cuts = x }) (sym are.cuts_are ∙ ap (λ xs. cuts_at cell.to xs) (sym has.ends_are));
  },
)

pub tree_of_split : (p : PosedProblem) (measure : Cell → ℕ) → IsSolvable p measure → (cell : Cell) (score : ℤ) (choice : Choice) → IsSpan p.word cell.from cell.to → IsScoredSplit p (HasBestScore p) cell score choice → (tree : Tree) × IsTreeOf p cell score choice tree
tree_of_split p measure solvable cell score choice span split =
    let arguments : List Arg = arguments_of p.grammar cell.rule choice.alt in
    let viable = split.viable in
    let found = AreEnds-viable cell.from cell.to (length arguments) choice.cuts (IsFew-arguments p measure solvable cell.rule choice.alt viable.in_range) viable.three viable.last in
    let ends : List ℕ = found.0 in
    let are : AreEnds cell.from cell.to (length arguments) choice.cuts ends = found.1 in
    let e : placed p cell choice.alt choice.cuts ≡ place arguments cell.from ends = ap (place arguments cell.from) are.begins ∙ place-append arguments cell.from ends are.rest are.count_is in
    let has = HasChildren-best p arguments cell.from ends split.values are.count_is (subst (AllByRecursion (FitsSpan p)) e viable.fits) (subst (λ x. AreBestValues p x split.values) e split.are_values) in
    tree_of_children p cell score choice.alt choice.cuts ends split.values span viable.in_range viable.allowed are (subst (λ x. HasChildren p arguments cell.from x ends split.values) are.last has) split.scored
