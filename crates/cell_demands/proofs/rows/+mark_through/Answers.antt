use Rattle.std.proofs.Common.{◌≡◌, ◌↔◌, ◌+◌, ◌≤◌, ℕ, List, [], ◌∷◌, length, refl, sym, ap, subst, inr, ◌∙◌, arith}
use Rattle.std.specs.List.{AllByRecursion}
use Rattle.std.specs.Prelude.{false, ◌==◌}
use Rattle.std.proofs.lemmas.Bool.{eqb-true, false≢true}
use Rattle.adp_model.specs.declared.grammar.Arg.{Arg}
use Rattle.adp_model.specs.PosedProblem.{PosedProblem}
use Rattle.adp_model.specs.WellFormed.{IsKnown}
use Rattle.cell_demands.specs.declared.rows.Positions.{Positions}
use Rattle.cell_demands.specs.PlaceBits.{HasBit, HaveBitsToo}
use Rattle.cell_demands.specs.Rows.{AreMarkedInRows, DemandsOfRow, HaveBoundaryBits, IsAmong, IsReachedBy, LeadsOn}
use Rattle.cell_demands.proofs.RowMarks.{behind_leads, demands_behind_it, end_reached, last_demands, last_there, leads_behind, none_demanded, none_lead, none_reached, reached_end, through_demands, through_leads, through_there}
use Rattle.cell_demands.proofs.rows.+mark_through.Goals as goal
use Rattle.cell_demands.proofs.rows.+mark_through.Goals.{After-deref-next, After-mark_through, After-first_set, After-is_empty, After-letters}

-- ---- the last argument

only : (t : ℕ) (c : After-is_empty t) → length c.in-Some.others.now ≡ 0 → c.args.arguments.now ≡ c.in-Some.argument.now ∷ []
only t c none = c.in-Some.ensures.cases.0 ∙ ap (λ others. c.in-Some.argument.now ∷ others) (empty c.in-Some.others.now none)
  where
    empty : (others : List Arg) → length others ≡ 0 → others ≡ []
    empty [] none = refl
    empty (other ∷ others) none = absurd (omega (arith, none))

pub mark_between-requires-clause-counted : goal.mark_between-requires-clause-counted
mark_between-requires-clause-counted t c = λ cell between.
    let at = (goal.at.mark_between-requires-clause-counted t c).After-is_empty in
    let p = c.args.lines.now in
    let same = only t at (eqb-true _ _ (sym c.if-is_empty.ensures)) in
    c.requires.counted cell (subst (λ xs. DemandsOfRow p xs (IsAmong c.args.reached) (IsAmong c.args.wanted) cell) (sym same)
    (last_there p c.in-Some.argument.now (IsAmong c.args.reached) (IsAmong c.args.wanted) cell between))

pub returns-then-is_empty-clause-marked : goal.returns-then-is_empty-clause-marked
returns-then-is_empty-clause-marked t c =
    let at = (goal.at.returns-then-is_empty-clause-marked t c).After-is_empty in
    let p = c.args.lines.now in
    let same = only t at (eqb-true _ _ (sym c.if-is_empty.ensures)) in
    subst (λ xs. AreMarkedInRows c.args.marks.now c.mark_between.new.marks (DemandsOfRow p xs (IsAmong c.args.reached) (IsAmong c.args.wanted))) (sym same)
    (last_demands p c.in-Some.argument.now (IsAmong c.args.reached) (IsAmong c.args.wanted) c.args.marks.now c.mark_between.new.marks c.mark_between.ensures.marked)

-- ---- the boundary behind an argument

whole : (p : PosedProblem) (letters : List ℕ) → length letters ≡ length p.word → length letters + 1 ≡ length p.word + 1
whole p letters same = omega (arith, same)

told : (p : PosedProblem) (argument : Arg) (IsReached : ℕ → Type 0) (bits now : List ℕ) → now ≡ bits
    → ((end : ℕ) → HasBit bits end ↔ IsReachedBy p argument IsReached end) → (end : ℕ) → HasBit now end ↔ IsReachedBy p argument IsReached end
told p argument IsReached bits now same exact = subst (λ (it : List ℕ). (end : ℕ) → HasBit it end ↔ IsReachedBy p argument IsReached end) (sym same) exact

letters_whole : (t : ℕ) (c : After-letters t) → length c.letters.result.now + 1 ≡ length c.args.lines.now.word + 1
letters_whole t c =
    whole c.args.lines.now c.letters.result.now (ap length c.letters.ensures.word ∙ ap (λ (p : PosedProblem). length p.word) c.problem.ensures)

-- nothing is reached
none : (t : ℕ) (c : After-first_set t) → c.first_set.result ≡ length c.letters.result.now + 1 → length c.letters.result.now + 1 ≡ length c.args.lines.now.word + 1
    → (end : ℕ) → IsReachedBy c.args.lines.now c.in-Some.argument.now (IsAmong c.args.reached) end → ⊥
none t c past letters =
    let p = c.args.lines.now in
    let next : Positions = record { bits = c.deref-next.result; first = c.args.reached.first; past = length c.letters.result.now + 1 } in
    let exact = told p c.in-Some.argument.now (IsAmong c.args.reached) c.reach_next.new.boundary.reached.items c.deref-next.result.now
    c.deref-next.ensures.value c.reach_next.ensures.reached in
    none_reached p c.in-Some.argument.now c.args.reached next refl letters exact
    (λ place low high has. c.first_set.ensures.none_before place low (omega (arith, past, high)) has)

pub returns-then-first_set-past-clause-leads : goal.returns-then-first_set-past-clause-leads
returns-then-first_set-past-clause-leads t c =
    let at = goal.at.returns-then-first_set-past-clause-leads t c in
    let p = c.args.lines.now in
    let stops = none t at.After-first_set c.if-first_set-past.true (letters_whole t at.After-letters) in
    subst (λ xs. HaveBitsToo c.args.leads.now c.args.leads.now (λ from. IsAmong c.args.reached from × LeadsOn p xs (IsAmong c.args.wanted) from))
    (sym c.in-Some.ensures.cases.0)
    (none_lead p c.in-Some.argument.now (IsAmong c.args.reached) (IsAmong c.args.wanted) c.in-Some.others.now stops c.args.leads.now)

pub returns-then-first_set-past-clause-marked : goal.returns-then-first_set-past-clause-marked
returns-then-first_set-past-clause-marked t c =
    let at = goal.at.returns-then-first_set-past-clause-marked t c in
    let p = c.args.lines.now in
    let stops = none t at.After-first_set c.if-first_set-past.true (letters_whole t at.After-letters) in
    subst (λ xs. AreMarkedInRows c.args.marks.now c.args.marks.now (DemandsOfRow p xs (IsAmong c.args.reached) (IsAmong c.args.wanted)))
    (sym c.in-Some.ensures.cases.0)
    (none_demanded p c.in-Some.argument.now (IsAmong c.args.reached) (IsAmong c.args.wanted) c.in-Some.others.now stops c.args.marks.now)

-- ---- what lies behind the boundary

exact : (t : ℕ) (c : After-deref-next t) (end : ℕ) → HasBit c.deref-next.result.now end
    ↔ IsReachedBy c.args.lines.now c.in-Some.argument.now (IsAmong c.args.reached) end
exact t c =
    told c.args.lines.now c.in-Some.argument.now (IsAmong c.args.reached) c.reach_next.new.boundary.reached.items c.deref-next.result.now
    c.deref-next.ensures.value c.reach_next.ensures.reached

abbrev next : (t : ℕ) (c : After-first_set t) → Positions
next t c = record { bits = c.deref-next.result; first = c.args.reached.first; past = length c.letters.result.now + 1 }

-- the boundary's positions from which the arguments behind it lead on
abbrev behind : (t : ℕ) (c : After-mark_through t) → Positions
behind t c = record { bits = record { ref_ptr = c.deref-next.result.ref_ptr; now = c.mark_through.new.leads }; first = c.args.reached.first; past = length c.letters.result.now + 1 }

some_others : (others : List Arg) → false ≡ (length others == 0) → 1 ≤ length others
some_others [] same = absurd (false≢true same)
some_others (other ∷ others) same = omega arith

fewer : (t : ℕ) (c : After-is_empty t) → length c.args.arguments.now ≡ length c.in-Some.others.now + 1
fewer t c = ap length c.in-Some.ensures.cases.0 ∙ omega arith

pub mark_through-requires : goal.mark_through-requires
mark_through-requires t c =
    let at = goal.at.mark_through-requires t c in
    let p = c.args.lines.now in
    let argument = c.in-Some.argument.now in
    let others = c.in-Some.others.now in
    let letters = letters_whole t at.After-letters in
    let end = end_reached p argument c.args.reached (next t at.After-first_set) refl letters (exact t at.After-deref-next) in
    let less = fewer t at.After-is_empty in
    let inner = c.in-Some-split_first_mut.ensures.cases.0 in
    let inner_have : AllByRecursion (HaveBoundaryBits p) (c.in-Some-split_first_mut.here.now ∷ c.in-Some-split_first_mut.later.now) =
    subst (AllByRecursion (HaveBoundaryBits p)) inner c.requires.room.inner_have in
    let known : AllByRecursion (IsKnown p.grammar) (argument ∷ others) = subst (AllByRecursion (IsKnown p.grammar)) c.in-Some.ensures.cases.0 c.requires.known in
    let longer : length c.args.inner.now ≡ length c.in-Some-split_first_mut.later.now + 1 = ap length inner ∙ omega arith in (
      omega (arith, less, c.decreases),
      (
        known.1,
        (
          (
            record {
              in_order = omega (arith, letters, c.requires.positions.0.in_order, c.requires.positions.0.within);
              within = omega (arith, letters);
              short = omega (arith, c.letters.ensures.few);
              bits = omega (arith, letters, ap length c.deref-next.ensures.value, c.reach_next.ensures.bits.reached);
            },
            c.requires.positions.1,
          ),
          (
            record {
              some = some_others others c.if-is_empty.ensures;
              enough = omega (arith, less, longer, c.requires.room.enough);
              inner_have = inner_have.1;
              leads_have = omega (arith, ap length c.deref_mut-behind.ensures.value, c.reach_next.ensures.bits.leads);
            },
            (
              c.requires.same_problem,
              λ cell demands. c.requires.counted cell
                  (subst (λ xs. DemandsOfRow p xs (IsAmong c.args.reached) (IsAmong c.args.wanted) cell) (sym c.in-Some.ensures.cases.0)
                  (demands_behind_it p argument (IsAmong c.args.reached) (IsAmong c.args.wanted) others (IsAmong (next t at.After-first_set)) end cell demands)),
            ),
          ),
        ),
      ),
    )

nothing_set : (bits now : List ℕ) → now ≡ bits → ((place : ℕ) → HasBit bits place → ⊥) → (place : ℕ) → HasBit now place → ⊥
nothing_set bits now same none = subst (λ (it : List ℕ). (place : ℕ) → HasBit it place → ⊥) (sym same) none

pub returns-clause-leads : goal.returns-clause-leads
returns-clause-leads t c =
    let at = goal.at.returns-clause-leads t c in
    let p = c.args.lines.now in
    let argument = c.in-Some.argument.now in
    let others = c.in-Some.others.now in
    let wanted = IsAmong c.args.wanted in
    let ends = next t at.After-first_set in
    let starts = behind t at.After-mark_through in
    let letters = letters_whole t at.After-letters in
    let reached = exact t at.After-deref-next in
    let clear = nothing_set c.reach_next.new.boundary.leads.items c.deref_mut-behind.result.now c.deref_mut-behind.ensures.value c.reach_next.ensures.clear in
    let leads = c.mark_through.ensures.leads in
    subst (λ xs. HaveBitsToo c.args.leads.now c.mark_between-2.new.leads (λ at. IsAmong c.args.reached at × LeadsOn p xs wanted at)) (sym c.in-Some.ensures.cases.0)
    (through_leads p argument (IsAmong c.args.reached) wanted others (IsAmong ends) (IsAmong starts)
    (end_reached p argument c.args.reached ends refl letters reached) (reached_end p argument c.args.reached ends refl letters reached)
    (behind_leads p argument c.args.reached ends refl letters reached others wanted starts refl refl c.deref_mut-behind.result.now clear leads)
    (leads_behind p argument c.args.reached ends refl letters reached others wanted starts refl refl c.deref_mut-behind.result.now clear leads)
    c.args.leads.now c.mark_between-2.new.leads c.mark_between-2.ensures.leads)

pub returns-clause-marked : goal.returns-clause-marked
returns-clause-marked t c =
    let at = goal.at.returns-clause-marked t c in
    let p = c.args.lines.now in
    let argument = c.in-Some.argument.now in
    let others = c.in-Some.others.now in
    let wanted = IsAmong c.args.wanted in
    let ends = next t at.After-first_set in
    let starts = behind t at.After-mark_through in
    let letters = letters_whole t at.After-letters in
    let reached = exact t at.After-deref-next in
    let clear = nothing_set c.reach_next.new.boundary.leads.items c.deref_mut-behind.result.now c.deref_mut-behind.ensures.value c.reach_next.ensures.clear in
    let leads = c.mark_through.ensures.leads in
    subst (λ xs. AreMarkedInRows c.args.marks.now c.mark_between-2.new.marks (DemandsOfRow p xs (IsAmong c.args.reached) wanted)) (sym c.in-Some.ensures.cases.0)
    (through_demands p argument (IsAmong c.args.reached) wanted others (IsAmong ends) (IsAmong starts)
    (end_reached p argument c.args.reached ends refl letters reached) (reached_end p argument c.args.reached ends refl letters reached)
    (behind_leads p argument c.args.reached ends refl letters reached others wanted starts refl refl c.deref_mut-behind.result.now clear leads)
    (leads_behind p argument c.args.reached ends refl letters reached others wanted starts refl refl c.deref_mut-behind.result.now clear leads)
    c.args.marks.now c.mark_through.new.marks c.mark_between-2.new.marks c.mark_through.ensures.marked c.mark_between-2.ensures.marked)

pub mark_between-requires-2-clause-counted : goal.mark_between-requires-2-clause-counted
mark_between-requires-2-clause-counted t c = λ cell between.
    let at = goal.at.mark_between-requires-2-clause-counted t c in
    let p = c.args.lines.now in
    let argument = c.in-Some.argument.now in
    let others = c.in-Some.others.now in
    let wanted = IsAmong c.args.wanted in
    let ends = next t at.After-first_set in
    let starts = behind t at.After-mark_through in
    let letters = letters_whole t at.After-letters in
    let reached = exact t at.After-deref-next in
    let clear = nothing_set c.reach_next.new.boundary.leads.items c.deref_mut-behind.result.now c.deref_mut-behind.ensures.value c.reach_next.ensures.clear in
    let leads = c.mark_through.ensures.leads in
    c.requires.counted cell (subst (λ xs. DemandsOfRow p xs (IsAmong c.args.reached) wanted cell) (sym c.in-Some.ensures.cases.0)
    (through_there p argument (IsAmong c.args.reached) wanted others (IsAmong ends) (IsAmong starts)
    (end_reached p argument c.args.reached ends refl letters reached) (reached_end p argument c.args.reached ends refl letters reached)
    (behind_leads p argument c.args.reached ends refl letters reached others wanted starts refl refl c.deref_mut-behind.result.now clear leads)
    (leads_behind p argument c.args.reached ends refl letters reached others wanted starts refl refl c.deref_mut-behind.result.now clear leads)
    cell (inr between)))
