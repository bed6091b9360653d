-- The closure of a relation: rule by rule, the steps through that rule are joined.
use Rattle.std.proofs.Common.{◌≡◌, ℕ, ◌+◌, ◌<◌, ◌≤◌, ◌⊎◌, inl, inr, Bool, false, ◌&&◌, ◌||◌, List, [], ◌∷◌, ◌++◌, length, get_or, map, take, sym, ap, subst, ◌∙◌, arith}
use Rattle.std.specs.List.{zip}
use Rattle.std.proofs.lemmas.Bool.{cases_eq, cases_lt, false≢true, and_parts, and_from, or_cases, or_left, or_right}
use Rattle.std.proofs.lemmas.List.{get_or_default, get_or_past, get_or-map, length-map, map_more, take_all}
use Rattle.std.proofs.lemmas.Slice.Zip.{get_or-zip, length-zip}
use Rattle.yield_sizes.specs.Relations.{IsRelated, IsSquare, IsTableOf, Leads, AtOnce, Onward, row_through, rows_through}

pub leads_join : (rows : List (List Bool)) (from between to : ℕ) → Leads rows from between → Leads rows between to → Leads rows from to
leads_join rows _ _ to (AtOnce from between related) leads = Onward from between to related leads
leads_join rows _ _ to (Onward from first between related onward) leads = Onward from first to related (leads_join rows first between to onward leads)

-- related rules are in the table
pub related_within : (size : ℕ) (rows : List (List Bool)) → IsSquare size rows → (from to : ℕ) → IsRelated rows from to → (from < size) × (to < size)
related_within size rows square from to related =
    elim (cases_lt from size) [
      | inr past ↦
          let none : get_or rows from [] ≡ [] = get_or_past rows from [] (omega (arith, square.rows_are)) in
          absurd (false≢true (sym (ap (λ (row : List Bool). get_or row to false) none) ∙ related))
      | inl inside ↦ elim (cases_lt to size) [
        | inl within ↦ (inside, within)
        | inr past ↦ absurd (false≢true (sym (get_or_past (get_or rows from []) to false (omega (arith, square.each from inside))) ∙ related))
      ]
    ]

-- the marks of a row with the steps through a rule
mark_is : (row beyond : List Bool) (between to : ℕ) → to < length row → length beyond ≡ length row → get_or (row_through row beyond between) to false ≡ (get_or row to false || (get_or row between false && get_or beyond to false))
mark_is row beyond between to l long =
    get_or-map (λ (marks : Bool × Bool). marks.0 || (get_or row between false && marks.1)) (zip row beyond) to (false, false) false (omega (arith, length-zip row beyond))
    ∙ ap (λ (marks : Bool × Bool). marks.0 || (get_or row between false && marks.1)) (get_or-zip row beyond to (false, false) l (omega arith))

-- the same in a table
step_is : (size : ℕ) (rows : List (List Bool)) (between from to : ℕ) → IsSquare size rows → between < size → from < size → to < size → get_or (get_or (rows_through rows between) from []) to false ≡ (get_or (get_or rows from []) to false || (get_or (get_or rows from []) between false && get_or (get_or rows between []) to false))
step_is size rows between from to square inside l k =
    ap (λ (row : List Bool). get_or row to false) (get_or-map (λ row. row_through row (get_or rows between []) between) rows from [] [] (omega (arith, square.rows_are)))
    ∙ mark_is (get_or rows from []) (get_or rows between []) between to (omega (arith, square.each from l)) (square.each between inside ∙ sym (square.each from l))

through_square : (size : ℕ) (rows : List (List Bool)) (between : ℕ) → IsSquare size rows → between < size → IsSquare size (rows_through rows between)
through_square size rows between square inside = record {
  rows_are = length-map rows (λ row. row_through row (get_or rows between []) between) ∙ square.rows_are;
  each = λ from l.
      let row = get_or rows from [] in
      let beyond = get_or rows between [] in
      ap length (get_or-map (λ row. row_through row (get_or rows between []) between) rows from [] [] (omega (arith, square.rows_are)))
      ∙ length-map (zip row beyond) (λ marks. marks.0 || (get_or row between false && marks.1))
      ∙ (omega (arith, length-zip row beyond, square.each from l, square.each between inside));
}

-- related after the step through a rule: related before, or by that rule
through_cases : (size : ℕ) (rows : List (List Bool)) (between from to : ℕ) → IsSquare size rows → between < size → IsRelated (rows_through rows between) from to → IsRelated rows from to ⊎ (IsRelated rows from between × IsRelated rows between to)
through_cases size rows between from to square inside related =
    let within = related_within size (rows_through rows between) (through_square size rows between square inside) from to related in
    let either = sym (step_is size rows between from to square inside within.0 within.1) ∙ related in
    elim (or_cases (get_or (get_or rows from []) to false) (get_or (get_or rows from []) between false && get_or (get_or rows between []) to false) either) [
      | inl before ↦ inl before
      | inr both ↦ let parts = and_parts (get_or (get_or rows from []) between false) (get_or (get_or rows between []) to false) both in inr (parts.0, parts.1)
    ]

through_kept : (size : ℕ) (rows : List (List Bool)) (between from to : ℕ) → IsSquare size rows → between < size → IsRelated rows from to → IsRelated (rows_through rows between) from to
through_kept size rows between from to square inside related =
    let within = related_within size rows square from to related in
    step_is size rows between from to square inside within.0 within.1
    ∙ or_left (get_or (get_or rows from []) to false) (get_or (get_or rows from []) between false && get_or (get_or rows between []) to false) related

through_joined : (size : ℕ) (rows : List (List Bool)) (between from to : ℕ) → IsSquare size rows → between < size → IsRelated rows from between → IsRelated rows between to → IsRelated (rows_through rows between) from to
through_joined size rows between from to square inside first second =
    let within = related_within size rows square from between first in
    let within' = related_within size rows square between to second in
    step_is size rows between from to square inside within.0 within'.1
    ∙ or_right (get_or (get_or rows from []) to false) (get_or (get_or rows from []) between false && get_or (get_or rows between []) to false)
    (and_from (get_or (get_or rows from []) between false) (get_or (get_or rows between []) to false) first second)

-- the steps through the first rules are joined
pub record IsClosing (size : ℕ) (old rows : List (List Bool)) (count : ℕ) : Type 0 where
  pub square : IsSquare size rows
  pub leads : (from to : ℕ) → IsRelated rows from to → Leads old from to
  pub kept : (from to : ℕ) → IsRelated old from to → IsRelated rows from to
  pub joined : (from between to : ℕ) → between < count → IsRelated rows from between → IsRelated rows between to → IsRelated rows from to

pub closing_begins : (size : ℕ) (old : List (List Bool)) → IsSquare size old → IsClosing size old old 0
closing_begins size old square = record {
  square = square;
  leads = λ from to related. AtOnce from to related;
  kept = λ from to related. related;
  joined = λ from between to l. absurd (omega arith);
}

pub closing_more : (size : ℕ) (old rows : List (List Bool)) (count : ℕ) → IsClosing size old rows count → count < size → IsClosing size old (rows_through rows count) (count + 1)
closing_more size old rows count closing inside =
    let new = rows_through rows count in
    let square = closing.square in
    record {
      square = through_square size rows count square inside;
      leads = λ from to related. elim (through_cases size rows count from to square inside related) [
        | inl before ↦ closing.leads from to before
        | inr both ↦ leads_join old from count to (closing.leads from count both.0) (closing.leads count to both.1)
      ];
      kept = λ from to related. through_kept size rows count from to square inside (closing.kept from to related);
      joined = λ from between to l first second. elim (cases_eq between count) [
        | inl same ↦
            let P : ℕ → Type 0 = IsRelated new from in
            let Q : ℕ → Type 0 = λ it. IsRelated new it to in
            at_count from to (subst P same first) (subst Q same second)
        | inr other ↦ before from between to (omega arith) (through_cases size rows count from between square inside first) (through_cases size rows count between to square inside second)
      ];
    }
  where
    -- through the rule itself nothing is new
    to_count : (from : ℕ) → IsRelated (rows_through rows count) from count → IsRelated rows from count
    to_count from related = elim (through_cases size rows count from count closing.square inside related) [ inl before ↦ before | inr both ↦ both.0 ]

    from_count : (to : ℕ) → IsRelated (rows_through rows count) count to → IsRelated rows count to
    from_count to related = elim (through_cases size rows count count to closing.square inside related) [ inl before ↦ before | inr both ↦ both.1 ]

    at_count : (from to : ℕ) → IsRelated (rows_through rows count) from count → IsRelated (rows_through rows count) count to → IsRelated (rows_through rows count) from to
    at_count from to first second = through_joined size rows count from to closing.square inside (to_count from first) (from_count to second)

    before : (from between to : ℕ) → between < count → IsRelated rows from between ⊎ (IsRelated rows from count × IsRelated rows count between) → IsRelated rows between to ⊎ (IsRelated rows between count × IsRelated rows count to) → IsRelated (rows_through rows count) from to
    before from between to l (inl first) (inl second) = through_kept size rows count from to closing.square inside (closing.joined from between to l first second)
    before from between to l (inl first) (inr second) = through_joined size rows count from to closing.square inside (closing.joined from between count l first second.0) second.1
    before from between to l (inr first) (inl second) = through_joined size rows count from to closing.square inside first.0 (closing.joined count between to l first.1 second)
    before from between to l (inr first) (inr second) = through_joined size rows count from to closing.square inside first.0 second.1

pub closing_ends : (size : ℕ) (old rows : List (List Bool)) (count : ℕ) → IsClosing size old rows count → size ≤ count → IsTableOf size (Leads old) rows
closing_ends size old rows count closing whole = record {
  square = closing.square;
  marked = closing.leads;
  all = all;
}
  where
    all : (from to : ℕ) → Leads old from to → IsRelated rows from to
    all _ _ (AtOnce from to related) = closing.kept from to related
    all _ _ (Onward from between to related onward) =
        let later = all between to onward in
        let within = related_within size rows closing.square between to later in
        closing.joined from between to (omega (arith, within.0)) (closing.kept from between related) later

-- ---- the rows of a step, one by one

pub rows_more : (f : List Bool → List Bool) (rows : List (List Bool)) (i : ℕ) (new : List (List Bool)) (item row longer : List Bool) → new ≡ map f (take i rows) → i < length rows → item ≡ get_or rows i item → row ≡ item → longer ≡ f row → new ++ longer ∷ [] ≡ map f (take (i + 1) rows)
rows_more f rows i new item row longer so_far l is read made =
    ap (λ (it : List (List Bool)). it ++ longer ∷ []) so_far
    ∙ ap (λ (it : List Bool). map f (take i rows) ++ it ∷ []) (made ∙ ap f (read ∙ is))
    ∙ sym (map_more f rows i item l)

pub rows_whole : (rows : List (List Bool)) (between i : ℕ) (new : List (List Bool)) (beyond item : List Bool) → between < length rows → beyond ≡ item → item ≡ get_or rows between item → new ≡ map (λ row. row_through row beyond between) (take i rows) → length rows ≤ i → new ≡ rows_through rows between
rows_whole rows between i new beyond item inside read is so_far whole =
    so_far
    ∙ ap (map (λ row. row_through row beyond between)) (take_all i rows whole)
    ∙ ap (λ (it : List Bool). map (λ row. row_through row it between) rows) (read ∙ is ∙ get_or_default rows between item [] inside)
