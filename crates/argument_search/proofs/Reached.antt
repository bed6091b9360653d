-- Along a line of splits a visit may go on to a place before which all cells are noted.
use Rattle.std.proofs.Common.{◌≡◌, ℕ, zero, suc, ◌+◌, ◌-◌, ◌<◌, ◌≤◌, ◌⊎◌, inl, inr, Bool, true, false, not, Some, List, [], ◌∷◌, ◌++◌, length, take, drop, slice_get, slice_index, refl, sym, ap, subst, ◌∙◌, arith}
use Rattle.std.specs.Bool.{OnTrue, OnFalse}
use Rattle.std.specs.List.{AllByRecursion, Contains}
use Rattle.std.proofs.lemmas.Bool.{cases_lt, false≢true}
use Rattle.adp_model.specs.declared.grammar.Arg.{Arg}
use Rattle.adp_model.specs.declared.cell.Cell.{Cell}
use Rattle.memo_model.specs.declared.visit.Position.{Position}
use Rattle.memo_model.specs.declared.visit.Visit.{Visit}
use Rattle.adp_model.specs.PosedProblem.{PosedProblem}
use Rattle.adp_model.specs.Parts.{alternatives_of, arguments_of}
use Rattle.adp_model.specs.Preference.{LexicographicallyLess}
use Rattle.adp_model.specs.Splits.{place, placed, ends_by, FitsSpan, IsViable}
use Rattle.adp_model.specs.SplitArguments.{SplitArgument, AsksFor, IsSplitArgument}
use Rattle.memo_model.specs.Visits.{argument_at, turned_number, visited_at, is_before, IsWalk}
use Rattle.adp_model.specs.Walk.{rank_of, ranks_of}
use Rattle.split_lines.specs.Laid.{IsCellOf, LineParts, HasParts, AreBoundaries}
use Rattle.argument_search.specs.declared.skipping.OpenPair.{OpenPair}
use Rattle.argument_search.specs.Skipping.{IsReached, IsSkipped, AreNotedBefore, IsNotedAt, IsNotedUpTo}
use Rattle.argument_search.proofs.VisitOrder.{lex_from, less_from, lex_transitive, lex_irreflexive}
use Rattle.argument_search.proofs.Walks.{turned_same, lex_end}
use Rattle.argument_search.proofs.WalkEnds.{positions_length}
use Rattle.argument_search.proofs.PlacedArguments.{length_ends}
use Rattle.argument_search.proofs.LineOrder.{at_index, squeeze, AreWithin, RanksApart, same_front, front_ranks, rank_at, front_at, take_front, less_at}
use Rattle.argument_search.proofs.LineHere.{cut_within, length_drop}
use Rattle.argument_search.proofs.SameCuts.{same_behind, same_by_parts, same_before}
use Rattle.argument_search.proofs.LineSplits.{AreAt, IsCell, drop_placed, drop_fits, front_placed, same_start, on_line}

-- ---- lists

drop_at : (n : ℕ) (xs : List ℕ) → n < length xs → drop n xs ≡ slice_index xs n ∷ drop (suc n) xs
drop_at n [] l = absurd (omega arith)
drop_at zero (x ∷ xs) l = refl
drop_at (suc n) (x ∷ xs) l = drop_at n xs (omega arith)

drop_nil : (n : ℕ) → drop {A = ℕ} n [] ≡ []
drop_nil zero = refl
drop_nil (suc n) = refl

drop_drop : (m n : ℕ) (xs : List ℕ) → drop m (drop n xs) ≡ drop (n + m) xs
drop_drop m zero xs = let same : 0 + m ≡ m = omega arith in ap (λ k. drop k xs) (sym same)
drop_drop m (suc n) [] = drop_nil m ∙ sym (drop_nil (suc n + m))
drop_drop m (suc n) (x ∷ xs) =
    let same : suc n + m ≡ suc (n + m) = omega arith in
    drop_drop m n xs ∙ ap (λ k. drop k (x ∷ xs)) (sym same)

take_more : (n : ℕ) (xs ys : List ℕ) → n < length xs → n < length ys → take n xs ≡ take n ys
    → slice_index xs n ≡ slice_index ys n → take (suc n) xs ≡ take (suc n) ys
take_more n [] ys l m front here = absurd (omega arith)
take_more n (x ∷ xs) [] l m front here = absurd (omega arith)
take_more zero (x ∷ xs) (y ∷ ys) l m front here = ap (λ a. a ∷ []) here
take_more (suc n) (x ∷ xs) (y ∷ ys) l m front here =
    let first : x ≡ y = cc in
    let later : take n xs ≡ take n ys = cc in
    let rest = take_more n xs ys (omega arith) (omega arith) later here in
    λ i. first i ∷ rest i

turn_low : {most : ℕ} (n : ℕ) (turns : List ℕ) → AllByRecursion (λ turn. turn ≤ most) turns → n < length turns
    → slice_index turns n ≤ most
turn_low n [] low l = absurd (omega arith)
turn_low zero (turn ∷ turns) low l = low.0
turn_low (suc n) (turn ∷ turns) low l = turn_low n turns low.1 (omega arith)

module _ (p : PosedProblem) (Noted : Cell → Type 0) (visit : Visit) (walk : IsWalk p visit) (at : Position)
    (cuts : List ℕ) (n position' number : ℕ) (apart : RanksApart)
    (within : (alternative : ℕ) (cuts : List ℕ) → IsViable p visit.cell alternative cuts → AreWithin visit.cell cuts)
    (few : (alternative : ℕ) → length (arguments_of p.grammar visit.cell.rule alternative) ≤ 4)
    (is : IsSplitArgument p (argument_at visit.cell at)) (viable : IsViable p visit.cell at.alternative cuts)
    (low : n < 3) (front : take n cuts ≡ take n at.cuts) (there : slice_index cuts n ≡ position')
    (upper : AreNotedBefore p Noted visit.cell at n) (pair : OpenPair)
    (noted : IsNotedUpTo Noted visit.cell (slice_index visit.turns n) pair (slice_index at.cuts n) position')
    (later : slice_index at.cuts n ≡ position' → at.number < number)
    (parts : LineParts) (has : HasParts (drop n (arguments_of p.grammar visit.cell.rule at.alternative)) parts)
    (boundaries : AreBoundaries p parts pair.from visit.cell.to pair.letters pair.last pair.positions.now)
    (begins : pair.from ≡ slice_index (visit.cell.from ∷ ends_by visit.cell at.cuts) n)
    (first_is : pair.first.now ≡ parts.first) (second_is : pair.second.now ≡ parts.second)
    (inside : n < length (arguments_of p.grammar visit.cell.rule at.alternative))
    (numbered : number < length (arguments_of p.grammar visit.cell.rule at.alternative)) where
  abbrev cell : Cell
  cell = visit.cell

  abbrev turn : ℕ
  turn = slice_index visit.turns n

  abbrev arguments : List Arg
  arguments = arguments_of p.grammar cell.rule at.alternative

  abbrev it : ℕ → List ℕ → ℕ → SplitArgument
  it alternative others k = record { cell = cell; alternative = alternative; cuts = others; number = k }

  abbrev visited : ℕ → List ℕ → ℕ → List ℕ
  visited alternative others k = visited_at p visit (it alternative others k)

  abbrev to : Position
  to = record { alternative = at.alternative; cuts = cuts; number = number }

  length_ranks : (others : List ℕ) (k : ℕ) → length others ≡ 3
      → length (ranks_of cell visit.turns others ++ k ∷ []) ≡ 4
  length_ranks others k three = omega (arith, positions_length cell visit.turns others k (walk.three ∙ sym three), three)

  ranks_three : (others : List ℕ) → length others ≡ 3 → length (ranks_of cell visit.turns others) ≡ 3
  ranks_three others three =
      omega (arith, length_ranks others 0 three, length_ends (ranks_of cell visit.turns others) 0)

  -- the ranks in front, and the one at the line
  front_of : (others : List ℕ) (k : ℕ) → length others ≡ 3
      → take n (ranks_of cell visit.turns others ++ k ∷ []) ≡ take n (ranks_of cell visit.turns others)
  front_of others k three = take_front (ranks_of cell visit.turns others) k n (omega (arith, ranks_three others three))

  rank_is : (others : List ℕ) (k : ℕ) → length others ≡ 3
      → slice_index (ranks_of cell visit.turns others ++ k ∷ []) n ≡ rank_of cell turn (slice_index others n)
  rank_is others k three =
      front_at (ranks_of cell visit.turns others) k n (omega (arith, ranks_three others three))
      ∙ rank_at cell n visit.turns others (omega (arith, walk.three)) (omega (arith, three))

  same_visited : take (suc n) (visited at.alternative at.cuts at.number) ≡ take (suc n)
      (visited at.alternative cuts number)
  same_visited =
      ap (λ rest. turned_number (length (alternatives_of p.grammar cell.rule)) visit.first at.alternative ∷ rest)
      (front_of at.cuts at.number is.viable.three
      ∙ front_ranks cell n visit.turns at.cuts cuts (sym front) (is.viable.three ∙ sym viable.three)
      ∙ sym (front_of cuts number viable.three))

  -- ---- a split between

  -- the split begins as the others of the line do, and its boundary is visited between
  record IsBetween (alternative : ℕ) (others : List ℕ) : Type 0 where
    same : alternative ≡ at.alternative
    alike : take n others ≡ take n at.cuts
    after : rank_of cell turn (slice_index at.cuts n) ≤ rank_of cell turn (slice_index others n)
    before : rank_of cell turn (slice_index others n) ≤ rank_of cell turn position'

  between : (alternative : ℕ) (others : List ℕ) (k : ℕ) → IsViable p cell alternative others
      → is_before p visit (argument_at cell at) (it alternative others k) ≡ true
      → is_before p visit (argument_at cell to) (it alternative others k) ≡ false → IsBetween alternative others
  between alternative others k viable' b c =
      let A = visited at.alternative at.cuts at.number in
      let X = visited alternative others k in
      let B = visited at.alternative cuts number in
      let ax : LexicographicallyLess A X = lex_from A X b in
      let found = squeeze (suc n) A X B (omega (arith, length_ranks at.cuts at.number is.viable.three))
      (omega (arith, length_ranks others k viable'.three)) (omega (arith, length_ranks cuts number viable.three))
      same_visited (λ xa. lex_irreflexive A (lex_transitive A X A ax xa))
      (λ bx. false≢true (sym c ∙ less_from B X bx)) in
      split found.0 found.1.0 found.1.1
    where
      split : take (suc n) (visited alternative others k) ≡ take (suc n) (visited at.alternative at.cuts at.number)
          → at_index (visited at.alternative at.cuts at.number) (suc n) ≤ at_index (visited alternative others k)
          (suc n)
          → at_index (visited alternative others k) (suc n) ≤ at_index (visited at.alternative cuts number) (suc n)
          → IsBetween alternative others
      split alike low high =
          let count = length (alternatives_of p.grammar cell.rule) in
          let turned : turned_number count visit.first alternative ≡ turned_number count visit.first at.alternative =
          cc in
          let ranks : take n (ranks_of cell visit.turns others ++ k ∷ []) ≡ take n
          (ranks_of cell visit.turns at.cuts ++ at.number ∷ []) = cc in
          let ranks' = sym (front_of others k viable'.three) ∙ ranks ∙ front_of at.cuts at.number is.viable.three in
          let x = rank_is others k viable'.three in
          let a = rank_is at.cuts at.number is.viable.three in
          let c = rank_is cuts number viable.three in
          let d = ap (rank_of cell turn) there in
          record {
            same =
                turned_same count visit.first alternative at.alternative walk.first viable'.in_range is.viable.in_range
                turned;
            alike = same_front apart cell n visit.turns others at.cuts (walk.three ∙ sym viable'.three)
                (walk.three ∙ sym is.viable.three) walk.turns (within alternative others viable')
                (within at.alternative at.cuts is.viable) ranks';
            after = omega (arith, x, a, low);
            before = omega (arith, x, c, d, high);
          }

  -- ---- what it asks for

  four : (others : List ℕ) → length others ≡ 3 → length (ends_by cell others) ≡ 4
  four others three = omega (arith, length_ends others cell.to, three)

  ends_alike : (others : List ℕ) → length others ≡ 3 → take n others ≡ take n at.cuts
      → take n (ends_by cell others) ≡ take n (ends_by cell at.cuts)
  ends_alike others three alike =
      take_front others cell.to n (omega (arith, three)) ∙ alike
      ∙ sym (take_front at.cuts cell.to n (omega (arith, is.viable.three)))

  in_front : (others : List ℕ) (k : ℕ) (child : Cell) → IsViable p cell at.alternative others
      → slice_get (placed p cell at.alternative others) k ≡ Some (IsCell child) → take n others ≡ take n at.cuts
      → k < n → Noted child
  in_front others k child viable' e alike less =
      upper k child less (record {
        viable = is.viable;
        there = sym (front_placed n (arguments_of p.grammar visit.cell.rule at.alternative) visit.cell.from
            (ends_by visit.cell others) (ends_by visit.cell at.cuts) k less
            (omega (arith, four others viable'.three)) (omega (arith, four at.cuts is.viable.three))
            (ends_alike others viable'.three alike)) ∙ e;
      })

  asked : (others : List ℕ) (k : ℕ) (child : Cell) → IsViable p cell at.alternative others
      → slice_get (placed p cell at.alternative others) k ≡ Some (IsCell child) → take n others ≡ take n at.cuts
      → (Contains pair.positions.now (slice_index others n) → IsNotedAt Noted pair (slice_index others n)) → Noted child
  asked others k child viable' e alike there_noted = go (cases_lt k n)
    where
      along : n ≤ k → Noted child
      along later =
          let arguments = arguments_of p.grammar visit.cell.rule at.alternative in
          let ends = ends_by visit.cell others in
          let long = four others viable'.three in
          let boundary = slice_index others n in
          let start : slice_index (visit.cell.from ∷ ends) n ≡ pair.from =
          same_start n visit.cell.from ends (ends_by visit.cell at.cuts) (omega arith)
          (omega (arith, four at.cuts is.viable.three)) (ends_alike others viable'.three alike) ∙ sym begins in
          let ends_are : drop n ends ≡ boundary ∷ drop (suc n) ends =
          drop_at n ends (omega arith)
          ∙ ap (λ b. b ∷ drop (suc n) ends) (front_at others visit.cell.to n (omega (arith, viable'.three))) in
          let line = parts.first ∷ parts.middle ++ parts.second ∷ parts.tail in
          let moved : place (drop n arguments) (slice_index (visit.cell.from ∷ ends) n) (drop n ends)
          ≡ place line pair.from (boundary ∷ drop (suc n) ends) =
          λ i. place (has.are i) (start i) (ends_are i) in
          let fits : AllByRecursion (FitsSpan p) (place line pair.from (boundary ∷ drop (suc n) ends)) =
          subst (AllByRecursion (FitsSpan p)) moved
          (drop_fits p n arguments visit.cell.from ends (omega arith) viable'.fits) in
          let count = length_drop n arguments in
          let counted : length (drop n arguments) ≡ length line = ap length has.are in
          let closed : AreAt visit.cell.to (drop (length line - 1) (boundary ∷ drop (suc n) ends)) =
          subst (λ xs. AreAt visit.cell.to (drop (length line - 1) xs)) ends_are
          (subst (AreAt visit.cell.to) (sym (drop_drop (length line - 1) n ends))
          (let m : length arguments - 1 ≡ n + (length line - 1) = omega (arith, count, counted, inside) in
          subst (λ j. AreAt visit.cell.to (drop j ends)) m viable'.last)) in
          let enough : length line ≤ length (boundary ∷ drop (suc n) ends) =
          omega (arith, count, counted, few at.alternative, length_drop n ends, ap length ends_are) in
          let on = on_line p parts pair.from visit.cell.to pair.letters pair.last pair.positions.now has.middle_fixed
          has.tail_fixed boundaries boundary (drop (suc n) ends) fits closed enough in
          let here : slice_get (place line pair.from (boundary ∷ drop (suc n) ends)) (k - n) ≡ Some (IsCell child) =
          subst (λ xs. slice_get xs (k - n) ≡ Some (IsCell child)) moved
          (drop_placed n arguments visit.cell.from ends k (IsCell child) later e) in
          let both = there_noted on.there in
          told both (on.asks (k - n) child here)
        where
          told : {boundary : ℕ} → IsNotedAt Noted pair boundary
              → IsCellOf parts.first pair.from boundary child ⊎ IsCellOf parts.second
              (boundary + pair.letters) pair.last child
              → Noted child
          told {boundary} both (inl first) =
              both.first child (subst (λ a. IsCellOf a pair.from boundary child) (sym first_is) first)
          told {boundary} both (inr second) =
              both.second child (subst (λ a. IsCellOf a (boundary + pair.letters) pair.last child)
              (sym second_is) second)

      go : (k < n) ⊎ (n ≤ k) → Noted child
      go (inl less) = in_front others k child viable' e alike less
      go (inr later) = along later

  -- ---- the split that is reached

  -- what is laid from the line's boundary on
  record IsLaid (others : List ℕ) : Type 0 where
    fits : AllByRecursion (FitsSpan p) (place (parts.middle ++ parts.second ∷ parts.tail) (slice_index others n)
        (drop (suc n) (ends_by cell others)))
    closed : AreAt cell.to (drop (length (parts.middle ++ parts.second ∷ parts.tail) - 1)
        (drop (suc n) (ends_by cell others)))
    enough : length (parts.middle ++ parts.second ∷ parts.tail) ≤ length (drop (suc n) (ends_by cell others))

  laid : (others : List ℕ) → IsViable p cell at.alternative others → IsLaid others
  laid others viable' =
      let arguments = arguments_of p.grammar visit.cell.rule at.alternative in
      let ends = ends_by visit.cell others in
      let long = four others viable'.three in
      let boundary = slice_index others n in
      let ends_are : drop n ends ≡ boundary ∷ drop (suc n) ends =
      drop_at n ends (omega arith)
      ∙ ap (λ b. b ∷ drop (suc n) ends) (front_at others visit.cell.to n (omega (arith, viable'.three))) in
      let line = parts.first ∷ parts.middle ++ parts.second ∷ parts.tail in
      let back = parts.middle ++ parts.second ∷ parts.tail in
      let begin = slice_index (visit.cell.from ∷ ends) n in
      let moved : place (drop n arguments) begin (drop n ends) ≡ place line begin (boundary ∷ drop (suc n) ends) =
      λ i. place (has.are i) begin (ends_are i) in
      let fits : AllByRecursion (FitsSpan p) (place line begin (boundary ∷ drop (suc n) ends)) =
      subst (AllByRecursion (FitsSpan p)) moved
      (drop_fits p n arguments visit.cell.from ends (omega arith) viable'.fits) in
      let count = length_drop n arguments in
      let counted : length (drop n arguments) ≡ length line = ap length has.are in
      let some = some_behind parts.middle in
      record {
        fits = fits.1;
        closed = subst (AreAt cell.to) (sym (drop_drop (length back - 1) (suc n) ends))
            (let m : length arguments - 1 ≡ suc n + (length back - 1) = omega (arith, count, counted, inside, some) in
            subst (λ j. AreAt visit.cell.to (drop j ends)) m viable'.last);
        enough = omega (arith, count, counted, few at.alternative, length_drop (suc n) ends);
      }
    where
      some_behind : (tokens : List Arg) → 0 < length (tokens ++ parts.second ∷ parts.tail)
      some_behind [] = omega arith
      some_behind (token ∷ tokens) = omega arith

  same_boundary : (others : List ℕ) → IsViable p cell at.alternative others
      → rank_of cell turn (slice_index others n) ≡ rank_of cell turn position' → slice_index others n ≡ slice_index cuts n
  same_boundary others viable' same_rank =
      let a = cut_within cell others (within at.alternative others viable') n (omega (arith, viable'.three)) in
      let b = cut_within cell cuts (within at.alternative cuts viable) n (omega (arith, viable.three)) in
      let low_turn = turn_low n visit.turns walk.turns (omega (arith, walk.three)) in
      apart cell turn (slice_index others n) (slice_index cuts n) low_turn a.0 a.1 b.0 b.1
      (same_rank ∙ ap (rank_of cell turn) (sym there))

  -- a split with the same boundary is the same
  same_cuts : (others : List ℕ) → IsViable p cell at.alternative others → take n others ≡ take n at.cuts
      → rank_of cell turn (slice_index others n) ≡ rank_of cell turn position' → others ≡ cuts
  same_cuts others viable' alike same_rank =
      let boundary : slice_index others n ≡ slice_index cuts n = same_boundary others viable' same_rank in
      let x = laid others viable' in
      let y = laid cuts viable in
      let back = parts.middle ++ parts.second ∷ parts.tail in
      let begins_alike = λ (xs : List ℕ). AllByRecursion (FitsSpan p) (place back (slice_index others n) xs) in
      let fits' : begins_alike (drop (suc n) (ends_by cell cuts)) =
      subst (λ b. AllByRecursion (FitsSpan p) (place back b (drop (suc n) (ends_by cell cuts)))) (sym boundary)
      y.fits in
      let long = four others viable'.three in
      let long' = four cuts viable.three in
      let behind_same : drop (suc n) (ends_by cell others) ≡ drop (suc n) (ends_by cell cuts) =
      same_behind p parts pair.from cell.to pair.letters pair.last pair.positions.now has.tail_fixed boundaries
      parts.middle (slice_index others n) (drop (suc n) (ends_by cell others)) (drop (suc n) (ends_by cell cuts))
      has.middle_fixed
      (length_drop (suc n) (ends_by cell others) ∙ omega (arith, long, long')
      ∙ sym (length_drop (suc n) (ends_by cell cuts)))
      x.enough x.fits fits' x.closed y.closed in
      let front_same : take (suc n) (ends_by cell others) ≡ take (suc n) (ends_by cell cuts) =
      take_more n (ends_by cell others) (ends_by cell cuts) (omega (arith, long)) (omega (arith, long'))
      (take_front others cell.to n (omega (arith, viable'.three)) ∙ alike ∙ sym front
      ∙ sym (take_front cuts cell.to n (omega (arith, viable.three))))
      (front_at others cell.to n (omega (arith, viable'.three)) ∙ boundary
      ∙ sym (front_at cuts cell.to n (omega (arith, viable.three)))) in
      same_before cell.to others cuts (same_by_parts (suc n) (ends_by cell others) (ends_by cell cuts) front_same
      behind_same)

  behind : is_before p visit (argument_at cell at) (argument_at cell to) ≡ true
  behind =
      less_from (visited at.alternative at.cuts at.number) (visited at.alternative cuts number)
      (go (cases_lt (rank_of cell turn (slice_index at.cuts n)) (rank_of cell turn position')))
    where
      Less : List ℕ → Type 0
      Less others = LexicographicallyLess (visited at.alternative others at.number) (visited at.alternative cuts number)

      go : (rank_of cell turn (slice_index at.cuts n) < rank_of cell turn position')
          ⊎ (rank_of cell turn position' ≤ rank_of cell turn (slice_index at.cuts n)) → Less at.cuts
      go (inl less) =
          less_at (suc n) (visited at.alternative at.cuts at.number) (visited at.alternative cuts number)
          (omega (arith, length_ranks at.cuts at.number is.viable.three))
          (omega (arith, length_ranks cuts number viable.three))
          same_visited
          (let a = rank_is at.cuts at.number is.viable.three in
          let b = rank_is cuts number viable.three in
          let c = ap (rank_of cell turn) there in
          omega (arith, a, b, c, less))
      go (inr not) =
          let same_rank : rank_of cell turn (slice_index at.cuts n) ≡ rank_of cell turn position' =
          omega (arith, not, noted.behind) in
          let same : at.cuts ≡ cuts = same_cuts at.cuts is.viable refl same_rank in
          let more = later (same_boundary at.cuts is.viable same_rank ∙ there) in
          subst Less (sym same)
          (inr (refl, lex_end (ranks_of cell visit.turns cuts) (at.number ∷ []) (number ∷ []) (inl more)))

  -- ---- what comes behind

  abbrev Behind : SplitArgument → Type 0
  Behind argument =
      (argument ≡ argument_at cell to) ⊎ (is_before p visit (argument_at cell to) argument ≡ true)

  by_number : (others : List ℕ) (k : ℕ) → others ≡ cuts → number ≤ k → Behind (it at.alternative others k)
  by_number others k same l = elim (cases_lt number k) [
    | inl less ↦
        inr
        (subst (λ xs. is_before p visit (it at.alternative cuts number) (it at.alternative xs k) ≡ true) (sym same)
        (less_from (visited at.alternative cuts number) (visited at.alternative cuts k)
        (inr (refl, lex_end (ranks_of cell visit.turns cuts) (number ∷ []) (k ∷ []) (inl less)))))
    | inr not ↦ let here : k ≡ number = omega arith in inl (λ i. it at.alternative (same i) (here i))
  ]

  -- ---- an argument between

  -- what is known of an argument between, with the alternative of the line
  record IsAsked (argument : SplitArgument) (child : Cell) : Type 0 where
    same : argument ≡ it at.alternative argument.cuts argument.number
    split : IsBetween at.alternative argument.cuts
    asks : AsksFor p (it at.alternative argument.cuts argument.number) child

  asked_between : (argument : SplitArgument) (child : Cell) → argument.cell ≡ cell → AsksFor p argument child
      → is_before p visit (argument_at cell at) argument ≡ true
      → is_before p visit (argument_at cell to) argument ≡ false → IsAsked argument child
  asked_between argument child here asks b c =
      let e : argument ≡ it argument.alternative argument.cuts argument.number =
      λ i. record {
        cell = here i;
        alternative = argument.alternative;
        cuts = argument.cuts;
        number = argument.number;
      } in
      let asks' = subst (λ x. AsksFor p x child) e asks in
      let found = between argument.alternative argument.cuts argument.number asks'.viable
      (subst (λ x. is_before p visit (argument_at cell at) x ≡ true) e b)
      (subst (λ x. is_before p visit (argument_at cell to) x ≡ false) e c) in
      record {
        same = e ∙ ap (λ a. it a argument.cuts argument.number) found.same;
        split = record { same = refl; alike = found.alike; after = found.after; before = found.before };
        asks = subst (λ a. AsksFor p (it a argument.cuts argument.number) child) found.same asks';
      }

  along_line : number ≡ n → (argument : SplitArgument) (child : Cell) → IsAsked argument child
      → Noted child ⊎ Behind argument
  along_line at_first argument child found =
      subst (λ x. Noted child ⊎ Behind x) (sym found.same)
      (elim (cases_lt (rank_of cell turn (slice_index argument.cuts n)) (rank_of cell turn position')) [
        | inl less ↦
            inl
            (asked argument.cuts argument.number child found.asks.viable found.asks.there found.split.alike
            (λ contains. noted.noted (slice_index argument.cuts n) contains found.split.after less))
        | inr not ↦ elim (cases_lt argument.number n) [
          | inl less ↦
              inl
              (in_front argument.cuts argument.number child found.asks.viable found.asks.there found.split.alike less)
          | inr there' ↦
              inr
              (by_number argument.cuts argument.number
              (same_cuts argument.cuts found.asks.viable found.split.alike (omega (arith, not, found.split.before)))
              (omega (arith, there', at_first)))
        ]
      ])

  next : number ≡ n → (argument : SplitArgument) (child : Cell) → argument.cell ≡ cell → AsksFor p argument child
      → is_before p visit (argument_at cell at) argument ≡ true → Noted child ⊎ Behind argument
  next at_first argument child here asks b = go (is_before p visit (argument_at cell to) argument) refl
    where
      go : (c : Bool) → is_before p visit (argument_at cell to) argument ≡ c → Noted child ⊎ Behind argument
      go true c = inr (inr c)
      go false c = along_line at_first argument child (asked_between argument child here asks b c)

  passed : IsNotedAt Noted pair position' → (argument : SplitArgument) (child : Cell) → argument.cell ≡ cell
      → AsksFor p argument child → is_before p visit (argument_at cell at) argument ≡ true
      → is_before p visit (argument_at cell to) argument ≡ false → Noted child
  passed whole argument child here asks b c =
      let found = asked_between argument child here asks b c in
      asked argument.cuts argument.number child found.asks.viable found.asks.there found.split.alike
      (λ contains. elim (cases_lt (rank_of cell turn (slice_index argument.cuts n)) (rank_of cell turn position')) [
        | inl less ↦ noted.noted (slice_index argument.cuts n) contains found.split.after less
        | inr not ↦
            subst (IsNotedAt Noted pair)
            (sym (same_boundary argument.cuts found.asks.viable (omega (arith, not, found.split.before)) ∙ there)) whole
      ])

  is_reached : number ≡ n → IsReached p Noted visit at to
  is_reached at_first = record {
    is_argument = record { viable = viable; within = numbered };
    on = behind;
    next = next at_first;
  }

  is_skipped : IsNotedAt Noted pair position' → IsSkipped p Noted visit at to
  is_skipped whole = record {
    is_argument = record { viable = viable; within = numbered };
    on = inr behind;
    passed = passed whole;
  }

  -- the next argument is told where the position's cells aren't noted, and else what the visit passes
  pub is_told : (here : Bool) → (here ≡ false → number ≡ n) → OnTrue here (IsNotedAt Noted pair position')
      → OnTrue (not here) (IsReached p Noted visit at to) × OnFalse (not here) (IsSkipped p Noted visit at to)
  is_told true at_first whole = (tt, is_skipped whole)
  is_told false at_first whole = (is_reached (at_first refl), tt)
