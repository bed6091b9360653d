-- Lengths of derived trees lie between the sizes of their rules, and it can be told which lengths do.
use Rattle.std.proofs.Common.{◌≡◌, ℕ, zero, suc, ◌+◌, ◌-◌, ◌<◌, ◌≤◌, ◌⊎◌, inl, inr, Option, Some, None, IfSome, List, [], ◌∷◌, length, slice_index, slice_index_or, drop, min, nat_le, true, false, if◌then◌else◌, sym, ap, subst, arith, length-take, length-drop}
use Rattle.std.proofs.lemmas.Bool.{cases_lt}
use Rattle.adp_model.specs.declared.grammar.Arg.{Arg}
use Rattle.adp_model.specs.declared.grammar.Arg.TheVariants.{Rule, Literal, Letter, Run}
use Rattle.adp_model.specs.declared.grammar.Alt.{Alt}
use Rattle.adp_model.specs.declared.grammar.Grammar.{Grammar}
use Rattle.adp_model.specs.declared.cell.Cell.{Cell}
use Rattle.adp_model.specs.PosedProblem.{PosedProblem, IsSpan}
use Rattle.adp_model.specs.Parts.{alternatives_of, alternative_at, arguments_of}
use Rattle.adp_model.specs.Tokens.{letters_between, Matches}
use Rattle.adp_model.specs.Lengths.{low_of, high_of, raised, AdmitsLength, HasLength, ByAlternative, HaveLength, NoArguments, FirstRule, FirstToken}
use Rattle.adp_model.specs.Sizes.{greatest_kept, greatest_bounded, IsLeastSize, IsGreatestSize, AreStableSizes, sum_of, greater_of, cut_to, greatest_of, greatest_sum, greatest_among, bounded, IsWithinSizes, IsBetween}
use Rattle.adp_model.specs.Checks.{IsChecked}
use Rattle.adp_model.specs.Tree.{Tree, Leaf, Node, Trees, Nil, Cons, end_of}
use Rattle.adp_model.specs.Derivation.{Derives, DeriveArguments, IsMatchingLeaf}
use Rattle.adp_model.proofs.Derived.{IsSpan-derived}
use Rattle.adp_model.proofs.Decisions.{at_most, within_high}
use Rattle.adp_model.proofs.KnownRules.{rule_known, rule_known-length, rule_known-within}
use Rattle.adp_model.proofs.SizeNumbers.{sizes_as_numbers}

-- ---- which lengths are within sizes

module _ (grammar : Grammar) (algebra : ℕ) (least : List ℕ) (greatest : List (Option ℕ)) (ranks : List ℕ) (checked : IsChecked grammar algebra least greatest ranks) where
  between_from_within : (rule len : ℕ) → IsWithinSizes grammar rule len → IsBetween least greatest rule len
  between_from_within rule len h = (sizes_as_numbers grammar algebra least greatest ranks checked rule len (rule_known-within grammar rule len h)).0 h

  -- it can be told which lengths are within a rule's sizes
  pub within_or_not : (rule len : ℕ) → IsWithinSizes grammar rule len ⊎ (IsWithinSizes grammar rule len → ⊥)
  within_or_not rule len = go (cases_lt rule (length grammar.rules)) (at_most (slice_index least rule) len) (within_high (slice_index_or greatest rule None) len)
    where
      go : (rule < length grammar.rules) ⊎ (length grammar.rules ≤ rule) → (slice_index least rule ≤ len) ⊎ (slice_index least rule ≤ len → ⊥) → IfSome (slice_index_or greatest rule None) (λ most. len ≤ most) ⊎ (IfSome (slice_index_or greatest rule None) (λ most. len ≤ most) → ⊥) → IsWithinSizes grammar rule len ⊎ (IsWithinSizes grammar rule len → ⊥)
      go (inr past) low high = inr (λ within. let known = rule_known-within grammar rule len within in absurd (omega arith))
      go (inl known) (inl low) (inl high) = inl ((sizes_as_numbers grammar algebra least greatest ranks checked rule len known).1 (low, high))
      go (inl known) (inl low) (inr wrong) = inr (λ within. wrong (between_from_within rule len within).1)
      go (inl known) (inr wrong) high = inr (λ within. wrong (between_from_within rule len within).0)

-- ---- lengths of derived trees

-- letters of a span are as many as the span is long
pub length-letters_between : (word : List ℕ) (from to : ℕ) → IsSpan word from to → length (letters_between word from to) ≡ to - from
length-letters_between word from to span = omega (arith, length-take (to - from) (drop from word), length-drop from word)

-- a token admits the number of letters that it matches
pub AdmitsLength-matched : (grammar : Grammar) (token : Arg) (letters : List ℕ) → Matches grammar token letters → AdmitsLength token (length letters)
AdmitsLength-matched grammar (Rule rule) letters h = h
AdmitsLength-matched grammar (Literal text) letters h = ap length h
AdmitsLength-matched grammar (Letter class) letters h = h.0
AdmitsLength-matched grammar (Run class low high) letters h = (h.0, h.1)

HaveLength-token : (p : PosedProblem) (token : Arg) (arguments : List Arg) (from to : ℕ) (first : Tree) → IsMatchingLeaf p token from first → end_of first ≤ to → HaveLength p.grammar arguments (to - end_of first) → (from ≤ to) × HaveLength p.grammar (token ∷ arguments) (to - from)
HaveLength-token p token arguments from to (Leaf start end) leaf before others =
    let e : length (letters_between p.word start end) ≡ end - start = length-letters_between p.word start end leaf.1 in
    let begins : start ≡ from = leaf.0 in
    let span : start ≤ end = leaf.1.in_order in
    let sum : (end - start) + (to - end) ≡ to - from = omega arith in
    let inside : from ≤ to = omega arith in
    (inside, subst (HaveLength p.grammar (token ∷ arguments)) sum (FirstToken token (end - start) arguments (to - end) (subst (AdmitsLength token) e (AdmitsLength-matched p.grammar token (letters_between p.word start end) leaf.2)) others))
HaveLength-token p token arguments from to (Node rule alternative from' to' children) leaf before others = absurd leaf

HaveLength-rule : (p : PosedProblem) (rule : ℕ) (arguments : List Arg) (from to end : ℕ) → from ≤ end → end ≤ to → HasLength p.grammar rule (end - from) → HaveLength p.grammar arguments (to - end) → (from ≤ to) × HaveLength p.grammar (Rule rule ∷ arguments) (to - from)
HaveLength-rule p rule arguments from to end span before first others =
    let sum : (end - from) + (to - end) ≡ to - from = omega arith in
    let inside : from ≤ to = omega arith in
    (inside, subst (HaveLength p.grammar (Rule rule ∷ arguments)) sum (FirstRule rule (end - from) arguments (to - end) first others))

mutual
  -- the length of a derived tree is one of its rule's
  pub HasLength-derived : (p : PosedProblem) (cell : Cell) (tree : Tree) → Derives p cell tree → HasLength p.grammar cell.rule (cell.to - cell.from)
  HasLength-derived p cell (Leaf from to) d = absurd d
  HasLength-derived p cell (Node rule alternative from to children) d =
      let len : ℕ = cell.to - cell.from in
      let low : low_of (alternative_at p.grammar cell.rule alternative).size ≤ len = d.6.0 in
      let as_long : len ≡ raised (alternative_at p.grammar cell.rule alternative) len = omega arith in
      ByAlternative cell.rule alternative len len d.4 (HaveLength-derived p (arguments_of p.grammar cell.rule alternative) cell.from cell.to children d.5).1 d.6.1 as_long

  HaveLength-derived : (p : PosedProblem) (arguments : List Arg) (from to : ℕ) (children : Trees) → DeriveArguments p arguments from to children → (from ≤ to) × HaveLength p.grammar arguments (to - from)
  HaveLength-derived p [] from to Nil h = let e : 0 ≡ to - from = omega arith in (omega arith, subst (HaveLength p.grammar []) e NoArguments)
  HaveLength-derived p [] from to (Cons first others) h = absurd h
  HaveLength-derived p (argument ∷ arguments) from to Nil h = absurd h
  HaveLength-derived p (Rule rule ∷ arguments) from to (Cons first others) h =
      let rest = HaveLength-derived p arguments (end_of first) to others h.1 in
      HaveLength-rule p rule arguments from to (end_of first) (IsSpan-derived p _ first h.0).in_order rest.0 (HasLength-derived p (record { rule = rule; from = from; to = end_of first }) first h.0) rest.1
  HaveLength-derived p (token ∷ arguments) from to (Cons first others) h =
      let rest = HaveLength-derived p arguments (end_of first) to others h.1 in
      HaveLength-token p token arguments from to first h.0 rest.0 rest.1

-- ---- greatest sizes

-- at most as long as this, where it is a bound
abbrev pub IsAtMost : ℕ → Option ℕ → Type 0
IsAtMost len bound = IfSome bound (λ most. len ≤ most)

sum_at_most : (len rest : ℕ) (a b : Option ℕ) → IsAtMost len a → IsAtMost rest b → IsAtMost (len + rest) (sum_of a b)
sum_at_most len rest None b h k = tt
sum_at_most len rest (Some a) None h k = tt
sum_at_most len rest (Some a) (Some b) h k = omega arith

cut_at_most : (len : ℕ) (high sum : Option ℕ) → IsAtMost len high → IsAtMost len sum → IsAtMost len (cut_to high sum)
cut_at_most len None sum h k = k
cut_at_most len (Some most) None h k = h
cut_at_most len (Some most) (Some sum) h k = omega arith

first_at_most : (len : ℕ) (a b : Option ℕ) → IsAtMost len a → IsAtMost len (greater_of a b)
first_at_most len None b h = tt
first_at_most len (Some a) None h = tt
first_at_most len (Some a) (Some b) h = omega arith

others_at_most : (len : ℕ) (a b : Option ℕ) → IsAtMost len b → IsAtMost len (greater_of a b)
others_at_most len None b h = tt
others_at_most len (Some a) None h = tt
others_at_most len (Some a) (Some b) h = omega arith

-- what one of the alternatives bounds is bounded by the greatest of them
among_at_most : (sizes : List (Option ℕ)) (alternatives : List Alt) (k len : ℕ) (default : Alt) → k < length alternatives → IsAtMost len (cut_to (high_of (slice_index_or alternatives k default).size) (greatest_sum sizes (slice_index_or alternatives k default).args)) → IsAtMost len (greatest_among sizes alternatives)
among_at_most sizes [] k len default inside h = absurd (omega arith)
among_at_most sizes (alternative ∷ alternatives) zero len default inside h = first_at_most len _ _ h
among_at_most sizes (alternative ∷ alternatives) (suc k) len default inside h = others_at_most len _ _ (among_at_most sizes alternatives k len default (omega arith) h)

bounded_at_most : (len : ℕ) (a : Option ℕ) → IsAtMost len a → IsAtMost len (bounded a)
bounded_at_most len None h = tt
bounded_at_most len (Some a) h =
    elim (nat_le a greatest_bounded) as (λ kept. IsAtMost len (if kept then Some a else None)) [ true ↦ h | false ↦ tt ]

admitted_at_most : (sizes : List (Option ℕ)) (token : Arg) (len : ℕ) → AdmitsLength token len → IsAtMost len (greatest_of sizes token)
admitted_at_most sizes (Rule rule) len h = absurd h
admitted_at_most sizes (Literal text) len h = omega arith
admitted_at_most sizes (Letter class) len h = omega arith
admitted_at_most sizes (Run class low high) len h = h.1

module _ (p : PosedProblem) (sizes : List (Option ℕ)) (stable : AreStableSizes p.grammar sizes) where
  most-token : (token : Arg) (from : ℕ) (first : Tree) → IsMatchingLeaf p token from first → (from ≤ end_of first) × IsAtMost (end_of first - from) (greatest_of sizes token)
  most-token token from (Leaf start end) leaf =
      let e : length (letters_between p.word start end) ≡ end - start = length-letters_between p.word start end leaf.1 in
      let begins : start ≡ from = leaf.0 in
      let span : start ≤ end = leaf.1.in_order in
      let same : length (letters_between p.word start end) ≡ end - from = omega arith in
      (omega arith, admitted_at_most sizes token (end - from) (subst (AdmitsLength token) same (AdmitsLength-matched p.grammar token (letters_between p.word start end) leaf.2)))
  most-token token from (Node rule alternative from' to' children) leaf = absurd leaf

  most-sum : (first : Option ℕ) (rest : Option ℕ) (from end to : ℕ) → (from ≤ end) × IsAtMost (end - from) first → (end ≤ to) × IsAtMost (to - end) rest → (from ≤ to) × IsAtMost (to - from) (sum_of first rest)
  most-sum first rest from end to h k =
      let here : from ≤ end = h.0 in
      let behind : end ≤ to = k.0 in
      let sum : (end - from) + (to - end) ≡ to - from = omega arith in
      (omega arith, subst (λ len. IsAtMost len (sum_of first rest)) sum (sum_at_most (end - from) (to - end) first rest h.1 k.1))

  mutual
    -- a derived tree is at most as long as stable sizes tell
    most-derived : (cell : Cell) (tree : Tree) → Derives p cell tree → IsAtMost (cell.to - cell.from) (slice_index_or sizes cell.rule None)
    most-derived cell (Leaf from to) d = absurd d
    most-derived cell (Node rule alternative from to children) d =
        let known : cell.rule < length p.grammar.rules = rule_known p.grammar cell.rule alternative d.4 in
        let sum = most-children (arguments_of p.grammar cell.rule alternative) cell.from cell.to children d.5 in
        let cut = cut_at_most (cell.to - cell.from) (high_of (alternative_at p.grammar cell.rule alternative).size) (greatest_sum sizes (arguments_of p.grammar cell.rule alternative)) d.6.1 sum.1 in
        let among = among_at_most sizes (alternatives_of p.grammar cell.rule) alternative (cell.to - cell.from) _ d.4 cut in
        subst (IsAtMost (cell.to - cell.from)) (sym (stable.stable cell.rule known)) (bounded_at_most (cell.to - cell.from) (greatest_among sizes (alternatives_of p.grammar cell.rule)) among)

    most-children : (arguments : List Arg) (from to : ℕ) (children : Trees) → DeriveArguments p arguments from to children → (from ≤ to) × IsAtMost (to - from) (greatest_sum sizes arguments)
    most-children [] from to Nil h = (omega arith, omega arith)
    most-children [] from to (Cons first others) h = absurd h
    most-children (argument ∷ arguments) from to Nil h = absurd h
    most-children (Rule rule ∷ arguments) from to (Cons first others) h =
        most-sum (slice_index_or sizes rule None) (greatest_sum sizes arguments) from (end_of first) to
        ((IsSpan-derived p _ first h.0).in_order, most-derived (record { rule = rule; from = from; to = end_of first }) first h.0)
        (most-children arguments (end_of first) to others h.1)
    most-children (token ∷ arguments) from to (Cons first others) h =
        most-sum (greatest_of sizes token) (greatest_sum sizes arguments) from (end_of first) to (most-token token from first h.0) (most-children arguments (end_of first) to others h.1)

-- a derived tree is at most as long as its rule's greatest size
at_most_greatest : (p : PosedProblem) (greatest : Option ℕ) (cell : Cell) (tree : Tree) → IsGreatestSize p.grammar cell.rule greatest → Derives p cell tree → IsAtMost (cell.to - cell.from) greatest
at_most_greatest p greatest cell tree high d =
    subst (IsAtMost (cell.to - cell.from)) (sym high.3) (most-derived p high.0 high.1.are cell tree d)

-- ---- derived lengths are within sizes

-- the length of a derived tree lies between its rule's sizes
pub between_from_derived : (p : PosedProblem) (least : ℕ) (greatest : Option ℕ) (cell : Cell) (tree : Tree) → IsLeastSize p.grammar cell.rule least → IsGreatestSize p.grammar cell.rule greatest → Derives p cell tree → (least ≤ cell.to - cell.from) × IfSome greatest (λ most. cell.to - cell.from ≤ most)
between_from_derived p least greatest cell tree low high d =
    let shortest : low.0 ≤ cell.to - cell.from = low.2 (cell.to - cell.from) (HasLength-derived p cell tree d) in
    let e : least ≡ min low.0 greatest_kept = low.3 in
    (omega arith, at_most_greatest p greatest cell tree high d)

-- the same for a grammar that passes the checks
pub within_from_derived : (p : PosedProblem) (least : List ℕ) (greatest : List (Option ℕ)) (ranks : List ℕ) → IsChecked p.grammar p.algebra least greatest ranks → (cell : Cell) (tree : Tree) → Derives p cell tree → IsWithinSizes p.grammar cell.rule (cell.to - cell.from)
within_from_derived p least greatest ranks checked cell tree d =
    let known = rule_known-length p.grammar cell.rule (cell.to - cell.from) (HasLength-derived p cell tree d) in
    let low = checked.least_are cell.rule known in
    let high = checked.greatest_are cell.rule known in
    let between = between_from_derived p (slice_index least cell.rule) (slice_index_or greatest cell.rule None) cell tree low high d in
    (slice_index least cell.rule, slice_index_or greatest cell.rule None, low, high, between.0, between.1)
