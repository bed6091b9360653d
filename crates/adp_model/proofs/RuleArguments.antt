-- All rule arguments of the viable splits of demanded cells can be listed.
use Rattle.std.proofs.Common.{◌≡◌, ℕ, suc, ◌+◌, ◌-◌, ◌<◌, ◌≤◌, ◌⊎◌, inl, inr, Option, Some, None, List, [], ◌∷◌, length, get_or, slice_get, refl, sym, ap, ◌∙◌, arith}
use Rattle.std.specs.List.{AllByRecursion, Contains, AllAdjacentBelow}
use Rattle.std.proofs.lemmas.Option.{slice_get_within}
use Rattle.std.proofs.lemmas.List.Elements.{Contains-get_or}
use Rattle.adp_model.specs.declared.grammar.Arg.{Arg}
use Rattle.adp_model.specs.declared.grammar.Arg.TheVariants.{Rule, Literal, Letter, Run}
use Rattle.adp_model.specs.declared.cell.Cell.{Cell}
use Rattle.adp_model.specs.PosedProblem.{PosedProblem}
use Rattle.adp_model.specs.Parts.{alternatives_of, arguments_of}
use Rattle.adp_model.specs.Preference.{LexicographicallyLess}
use Rattle.adp_model.specs.Cells.{CellPrecedes}
use Rattle.adp_model.specs.Splits.{Placed, placed, ends_by, IsViable}
use Rattle.adp_model.specs.Demand.{AreDemanded}
use Rattle.adp_model.specs.SplitArguments.{SplitArgument, IsRuleArgument, ArgumentPrecedes, AreRuleArguments}
use Rattle.adp_model.specs.ProblemFields.{IsAdmissible}
use Rattle.adp_model.proofs.Decisions.{Decided, both, same_number, at_most}
use Rattle.adp_model.proofs.CellLists.{three_ways, precedes_total}
use Rattle.adp_model.proofs.Premises.{IsSolvable}
use Rattle.adp_model.proofs.Deciding.{viable_or_not}
use Rattle.adp_model.proofs.Demanded.{demanded_counted}
use Rattle.adp_model.proofs.DemandDecided.{same_decided, same_cell_decided, ends_within}
use Rattle.adp_model.proofs.Checked.{measure, IsSolvable-checked}
use Rattle.adp_model.proofs.RisingLists.{Among, Contains-among, Among-contained, over, among_over, below, among_below, adjacent, gathered, gathered_rise, gathered_hold, all_gathered}

-- ---- a total order

-- as in a dictionary
abbrev IsLesser : List ℕ → List ℕ → Type 0
IsLesser xs [] = ⊥
IsLesser [] (y ∷ ys) = Unit {0}
IsLesser (x ∷ xs) (y ∷ ys) = (x < y) ⊎ ((x ≡ y) × IsLesser xs ys)

lesser_total : (xs ys : List ℕ) → IsLesser xs ys ⊎ ((xs ≡ ys) ⊎ IsLesser ys xs)
lesser_total [] [] = inr (inl refl)
lesser_total [] (y ∷ ys) = inl tt
lesser_total (x ∷ xs) [] = inr (inr tt)
lesser_total (x ∷ xs) (y ∷ ys) = go (three_ways x y) (lesser_total xs ys)
  where
    go : (x < y) ⊎ ((x ≡ y) ⊎ (y < x)) → IsLesser xs ys ⊎ ((xs ≡ ys) ⊎ IsLesser ys xs)
        → IsLesser (x ∷ xs) (y ∷ ys) ⊎ ((x ∷ xs ≡ y ∷ ys) ⊎ IsLesser (y ∷ ys) (x ∷ xs))
    go (inl less) rest = inl (inl less)
    go (inr (inr more)) rest = inr (inr (inl more))
    go (inr (inl same)) (inl less) = inl (inr (same, less))
    go (inr (inl same)) (inr (inl same')) = inr (inl (λ i. same i ∷ same' i))
    go (inr (inl same)) (inr (inr more)) = inr (inr (inr (sym same, more)))

lesser_lexicographic : (xs ys : List ℕ) → length xs ≡ length ys → IsLesser xs ys → LexicographicallyLess xs ys
lesser_lexicographic xs [] e none = absurd none
lesser_lexicographic [] (y ∷ ys) e h = absurd (omega arith)
lesser_lexicographic (x ∷ xs) (y ∷ ys) e (inl less) = inl less
lesser_lexicographic (x ∷ xs) (y ∷ ys) e (inr (same, h)) = inr (same, lesser_lexicographic xs ys (omega arith) h)

abbrev IsBefore : SplitArgument → SplitArgument → Type 0
IsBefore a b =
    CellPrecedes a.cell b.cell
    ⊎ ((a.cell ≡ b.cell)
    × ((a.alternative < b.alternative)
    ⊎ ((a.alternative ≡ b.alternative) × (IsLesser a.cuts b.cuts ⊎ ((a.cuts ≡ b.cuts) × (a.number < b.number))))))

compare : (a b : SplitArgument) → IsBefore a b ⊎ ((a ≡ b) ⊎ IsBefore b a)
compare a b = by_cell (precedes_total a.cell b.cell)
  where
    by_number : a.cell ≡ b.cell → a.alternative ≡ b.alternative → a.cuts ≡ b.cuts
        → (a.number < b.number) ⊎ ((a.number ≡ b.number) ⊎ (b.number < a.number))
        → IsBefore a b ⊎ ((a ≡ b) ⊎ IsBefore b a)
    by_number c t s (inl less) = inl (inr (c, inr (t, inr (s, less))))
    by_number c t s (inr (inl n)) =
        inr (inl (λ i. record { cell = c i; alternative = t i; cuts = s i; number = n i }))
    by_number c t s (inr (inr more)) = inr (inr (inr (sym c, inr (sym t, inr (sym s, more)))))

    by_cuts : a.cell ≡ b.cell → a.alternative ≡ b.alternative
        → IsLesser a.cuts b.cuts ⊎ ((a.cuts ≡ b.cuts) ⊎ IsLesser b.cuts a.cuts)
        → IsBefore a b ⊎ ((a ≡ b) ⊎ IsBefore b a)
    by_cuts c t (inl less) = inl (inr (c, inr (t, inl less)))
    by_cuts c t (inr (inl s)) = by_number c t s (three_ways a.number b.number)
    by_cuts c t (inr (inr more)) = inr (inr (inr (sym c, inr (sym t, inl more))))

    by_alternative : a.cell ≡ b.cell
        → (a.alternative < b.alternative) ⊎ ((a.alternative ≡ b.alternative) ⊎ (b.alternative < a.alternative))
        → IsBefore a b ⊎ ((a ≡ b) ⊎ IsBefore b a)
    by_alternative c (inl less) = inl (inr (c, inl less))
    by_alternative c (inr (inl t)) = by_cuts c t (lesser_total a.cuts b.cuts)
    by_alternative c (inr (inr more)) = inr (inr (inr (sym c, inl more)))

    by_cell : CellPrecedes a.cell b.cell ⊎ ((a.cell ≡ b.cell) ⊎ CellPrecedes b.cell a.cell)
        → IsBefore a b ⊎ ((a ≡ b) ⊎ IsBefore b a)
    by_cell (inl less) = inl (inl less)
    by_cell (inr (inl c)) = by_alternative c (three_ways a.alternative b.alternative)
    by_cell (inr (inr more)) = inr (inr (inl more))

before_precedes : (a b : SplitArgument) → length a.cuts ≡ 3 → length b.cuts ≡ 3 → IsBefore a b → ArgumentPrecedes a b
before_precedes a b three three' (inl less) = inl less
before_precedes a b three three' (inr (c, inl less)) = inr (c, inl less)
before_precedes a b three three' (inr (c, inr (t, inl less))) =
    inr (c, inr (t, inl (lesser_lexicographic a.cuts b.cuts (three ∙ sym three') less)))
before_precedes a b three three' (inr (c, inr (t, inr rest))) = inr (c, inr (t, inr rest))

-- ---- whether it is a rule argument

-- what stands there is the argument of a rule
abbrev IsRuleOn : Option Placed → Type 0
IsRuleOn there =
    (child : Cell) × (there ≡ Some (record { argument = Rule child.rule; from = child.from; to = child.to }))

no_rule : (argument : Arg) (from to : ℕ) → ((rule : ℕ) → argument ≡ Rule rule → ⊥)
    → IsRuleOn (Some (record { argument = argument; from = from; to = to })) → ⊥
no_rule argument from to none (child, e) =
    let it : Placed = record { argument = argument; from = from; to = to } in
    let other : Placed = record { argument = Rule child.rule; from = child.from; to = child.to } in
    let same : it ≡ other = cc in
    none child.rule (ap (λ (x : Placed). x.argument) same)

rule_on : (argument : Arg) (from to : ℕ)
    → Decided (IsRuleOn (Some (record { argument = argument; from = from; to = to })))
rule_on (Rule rule) from to = inl (record { rule = rule; from = from; to = to }, refl)
rule_on (Literal text) from to = inr (no_rule (Literal text) from to (λ rule e. cc))
rule_on (Letter class) from to = inr (no_rule (Letter class) from to (λ rule e. cc))
rule_on (Run class low high) from to = inr (no_rule (Run class low high) from to (λ rule e. cc))

rule_on_or_not : (there : Option Placed) → Decided (IsRuleOn there)
rule_on_or_not None = inr (λ h. let e = h.1 in cc)
rule_on_or_not (Some placed) = rule_on placed.argument placed.from placed.to

module _ (p : PosedProblem) (measure : Cell → ℕ) (solvable : IsSolvable p measure) (argument : SplitArgument) where
  abbrev it : Option Placed
  it = slice_get (placed p argument.cell argument.alternative argument.cuts) argument.number

  abbrev IsFramed : Type 0
  IsFramed =
      (argument.alternative < length (alternatives_of p.grammar argument.cell.rule)) × (length argument.cuts ≡ 3)

  framed : IsFramed → Decided (IsRuleArgument p argument)
  framed h =
      same_decided (λ (k : IsViable p argument.cell argument.alternative argument.cuts × IsRuleOn it). joined k) parted
      (both (viable_or_not p measure solvable argument.cell argument.alternative argument.cuts h.0 h.1)
      (rule_on_or_not it))
    where
      joined : IsViable p argument.cell argument.alternative argument.cuts × IsRuleOn it → IsRuleArgument p argument
      joined k = (k.1.0, record { viable = k.0; there = k.1.1 })

      parted : IsRuleArgument p argument → IsViable p argument.cell argument.alternative argument.cuts × IsRuleOn it
      parted k = (k.1.viable, (k.0, k.1.there))

  rule_argument_or_not : Decided (IsRuleArgument p argument)
  rule_argument_or_not =
      go (both (at_most (suc argument.alternative) (length (alternatives_of p.grammar argument.cell.rule)))
      (same_number (length argument.cuts) 3))
    where
      go : Decided ((suc argument.alternative ≤ length (alternatives_of p.grammar argument.cell.rule))
          × (length argument.cuts ≡ 3)) → Decided (IsRuleArgument p argument)
      go (inl h) = framed (omega (arith, h.0), h.1)
      go (inr wrong) = inr (λ k. let l = k.1.viable.in_range in wrong (omega arith, k.1.viable.three))

-- ---- all arguments with three cuts in the word

among_or_not : (cell : Cell) (cells : List Cell) → Decided (Among cell cells)
among_or_not cell [] = inr (λ none. none)
among_or_not cell (other ∷ cells) = go (same_cell_decided cell other) (among_or_not cell cells)
  where
    neither : (cell ≡ other → ⊥) → (Among cell cells → ⊥) → (cell ≡ other) ⊎ Among cell cells → ⊥
    neither wrong wrong' (inl e) = wrong e
    neither wrong wrong' (inr k) = wrong' k

    go : Decided (cell ≡ other) → Decided (Among cell cells) → Decided ((cell ≡ other) ⊎ Among cell cells)
    go (inl e) rest = inl (inl e)
    go (inr wrong) (inl k) = inl (inr k)
    go (inr wrong) (inr wrong') = inr (neither wrong wrong')

module _ (p : PosedProblem) where
  abbrev positions : List ℕ
  positions = below (suc (length p.word))

  abbrev with_number : Cell → ℕ → List ℕ → ℕ → List SplitArgument
  with_number cell alternative cuts number =
      record { cell = cell; alternative = alternative; cuts = cuts; number = number } ∷ []

  abbrev with_cuts : Cell → ℕ → List ℕ → List SplitArgument
  with_cuts cell alternative cuts =
      over (below (length (placed p cell alternative cuts))) (with_number cell alternative cuts)

  abbrev with_third : Cell → ℕ → ℕ → ℕ → List SplitArgument
  with_third cell alternative a b = over positions (λ c. with_cuts cell alternative (a ∷ b ∷ c ∷ []))

  abbrev with_second : Cell → ℕ → ℕ → List SplitArgument
  with_second cell alternative a = over positions (with_third cell alternative a)

  abbrev with_alternative : Cell → ℕ → List SplitArgument
  with_alternative cell alternative = over positions (with_second cell alternative)

  abbrev with_cell : Cell → List SplitArgument
  with_cell cell = over (below (length (alternatives_of p.grammar cell.rule))) (with_alternative cell)

  abbrev candidates : List Cell → List SplitArgument
  candidates cells = over cells with_cell

  three_cuts : (cell : Cell) (alternative : ℕ) (cuts : List ℕ) (number : ℕ) → length cuts ≡ 3
      → AllByRecursion (λ end. end ≤ length p.word) (ends_by cell cuts)
      → number < length (placed p cell alternative cuts)
      → Among (record { cell = cell; alternative = alternative; cuts = cuts; number = number })
      (with_alternative cell alternative)
  three_cuts cell alternative [] number three within inside = absurd (omega arith)
  three_cuts cell alternative (a ∷ []) number three within inside = absurd (omega arith)
  three_cuts cell alternative (a ∷ b ∷ []) number three within inside = absurd (omega arith)
  three_cuts cell alternative (a ∷ b ∷ c ∷ d ∷ cuts) number three within inside = absurd (omega arith)
  three_cuts cell alternative (a ∷ b ∷ c ∷ []) number three within inside =
      let it : SplitArgument =
      record { cell = cell; alternative = alternative; cuts = a ∷ b ∷ c ∷ []; number = number } in
      let a_in : a < suc (length p.word) = omega (arith, within.0) in
      let b_in : b < suc (length p.word) = omega (arith, within.1.0) in
      let c_in : c < suc (length p.word) = omega (arith, within.1.1.0) in
      let here : Among it (with_number cell alternative (a ∷ b ∷ c ∷ []) number) = inl refl in
      let by_number = among_over it number (below (length (placed p cell alternative (a ∷ b ∷ c ∷ []))))
      (with_number cell alternative (a ∷ b ∷ c ∷ [])) (among_below number _ inside) here in
      let by_third = among_over it c positions (λ c. with_cuts cell alternative (a ∷ b ∷ c ∷ []))
      (among_below c (suc (length p.word)) c_in) by_number in
      let by_second = among_over it b positions (with_third cell alternative a)
      (among_below b (suc (length p.word)) b_in) by_third in
      among_over it a positions (with_second cell alternative) (among_below a (suc (length p.word)) a_in) by_second

  is_candidate : (cells : List Cell) (argument : SplitArgument) → Among argument.cell cells
      → argument.cell.to ≤ length p.word → IsRuleArgument p argument → Among argument (candidates cells)
  is_candidate cells argument among inside h =
      let viable = h.1.viable in
      let cell = argument.cell in
      let arguments = arguments_of p.grammar cell.rule argument.alternative in
      let within = ends_within p cell.to inside arguments (length arguments - 1) cell.from
      (ends_by cell argument.cuts) refl viable.last viable.fits in
      let number = slice_get_within (placed p cell argument.alternative argument.cuts) argument.number _ h.1.there in
      let count = length (alternatives_of p.grammar cell.rule) in
      among_over argument cell cells with_cell among
      (among_over argument argument.alternative (below count) (with_alternative cell)
      (among_below argument.alternative count viable.in_range)
      (three_cuts cell argument.alternative argument.cuts argument.number viable.three within number))

  module _ (admissible : IsAdmissible p) (cells : List Cell) (all : AreDemanded p cells) where
    abbrev Holds : SplitArgument → Type 0
    Holds argument = Among argument.cell cells × IsRuleArgument p argument

    solvable : IsSolvable p (measure (length p.grammar.rules) admissible.ranks)
    solvable =
        IsSolvable-checked p admissible.least admissible.greatest admissible.ranks admissible.checked
        admissible.limits.letters

    holds_or_not : (argument : SplitArgument) → Decided (Holds argument)
    holds_or_not argument =
        both (among_or_not argument.cell cells)
        (rule_argument_or_not p (measure (length p.grammar.rules) admissible.ranks) solvable argument)

    abbrev listed : List SplitArgument
    listed = gathered IsBefore compare Holds holds_or_not (candidates cells)

    listed_hold : (argument : SplitArgument) → Contains listed argument → Holds argument
    listed_hold argument contains =
        gathered_hold IsBefore compare Holds holds_or_not argument (candidates cells)
        (Among-contained argument listed contains)

    three_at : (k : ℕ) (d : SplitArgument) → k < length listed → length (get_or listed k d).cuts ≡ 3
    three_at k d inside = (listed_hold (get_or listed k d) (Contains-get_or listed k d inside)).1.1.viable.three

    in_order : AllAdjacentBelow ArgumentPrecedes listed (length listed)
    in_order k d inside =
        let rise = gathered_rise IsBefore compare Holds holds_or_not (candidates cells) in
        before_precedes (get_or listed k d) (get_or listed (k + 1) d) (three_at k d (omega arith))
        (three_at (k + 1) d inside) (adjacent IsBefore compare listed rise k d inside)

    are_listed : AreRuleArguments p listed
    are_listed = record {
      in_order = in_order;
      each = λ argument contains.
          let h = listed_hold argument contains in
          (all.each argument.cell (Contains-among argument.cell cells h.0), h.1);
      all = λ argument demanded h.
          let among = Among-contained argument.cell cells (all.all argument.cell demanded) in
          let inside = (demanded_counted p admissible.checked.well_formed argument.cell demanded).in_word in
          Contains-among argument listed
          (all_gathered IsBefore compare Holds holds_or_not argument (candidates cells) (among, h)
          (is_candidate cells argument among inside h));
    }

    pub rule_arguments_exist : (arguments : List SplitArgument) × AreRuleArguments p arguments
    rule_arguments_exist = (listed, are_listed)
