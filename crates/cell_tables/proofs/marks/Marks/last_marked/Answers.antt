use Rattle.std.proofs.Common.{ℕ, ◌+◌, ◌-◌, ◌*◌, ◌/◌, ◌<◌, ◌≤◌, Option, Some, None, inl, inr, refl, sym, ◌∙◌, arith}
use Rattle.std.specs.Prelude.{IfSome}
use Rattle.std.proofs.lemmas.Bool.{cases_lt, false≢true}
use Rattle.cell_tables.specs.Marks.{IsSpanMarked, IsLastMarked}
use Rattle.cell_tables.proofs.SpanWalks.{last_found, none_from_here, last_earlier}
use Rattle.cell_tables.proofs.marks.Marks.last_marked.Goals as goal
use Rattle.cell_tables.proofs.marks.Marks.last_marked.Goals.{In-None}

pub returns-then-not-has_start-clause-none : goal.returns-then-not-has_start-clause-none
returns-then-not-has_start-clause-none c = λ none to low (rule, known, row).
    false≢true (sym c.if-not-has_start.true ∙ c.has_start.ensures.1 (record { rule = rule; from = c.args.from; to = to }, refl, row))

pub returns-in-Some-clause-last : goal.returns-in-Some-clause-last
returns-in-Some-clause-last c =
    let number = (c.args.below - 1) / 64 in
    last_found c.args.self.now c.args.rules.now c.args.from number c.any_marked.result c.bits_before.result c.any_marked.ensures c.args.below c.bits_before.ensures (number + 1) refl (λ to high low marked. absurd (omega arith)) c.in-Some.to c.in-Some.ensures.set c.in-Some.ensures.last

-- none from the number of the last end on
none_here : (c : In-None) → (to : ℕ) → 64 * ((c.args.below - 1) / 64) ≤ to → to < c.args.below → IsSpanMarked c.args.self.now c.args.rules.now c.args.from to → ⊥
none_here c =
    let number = (c.args.below - 1) / 64 in
    none_from_here c.args.self.now c.args.rules.now c.args.from number c.any_marked.result c.bits_before.result c.any_marked.ensures c.args.below c.bits_before.ensures (number + 1) refl (λ to high low marked. absurd (omega arith)) (c.in-None.ensures.none refl)

pub returns-in-None-clause-none : goal.returns-in-None-clause-none
returns-in-None-clause-none c = λ none to low marked.
    let at = (goal.at.returns-in-None-clause-none c).In-None in
    elim (cases_lt to (64 * ((c.args.below - 1) / 64))) [
      | inl early ↦ c.last_before.ensures.none none to early marked
      | inr here ↦ none_here at to here low marked
    ]

earlier : (c : In-None) → (found : Option ℕ) → IfSome found (IsLastMarked c.args.self.now c.args.rules.now c.args.from (64 * ((c.args.below - 1) / 64))) → IfSome found (IsLastMarked c.args.self.now c.args.rules.now c.args.from c.args.below)
earlier c None none = tt
earlier c (Some last) is = last_earlier c.args.self.now c.args.rules.now c.args.from ((c.args.below - 1) / 64) c.args.below (omega arith) (none_here c) last is

pub returns-in-None-clause-last : goal.returns-in-None-clause-last
returns-in-None-clause-last c =
    let at = (goal.at.returns-in-None-clause-last c).In-None in
    earlier at c.last_before.result c.last_before.ensures.last
