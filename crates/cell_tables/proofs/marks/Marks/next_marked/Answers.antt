use Rattle.std.proofs.Common.{ℕ, ◌+◌, ◌*◌, ◌/◌, ◌<◌, ◌≤◌, Option, Some, None, inl, inr, refl, arith}
use Rattle.std.specs.Prelude.{IfSome}
use Rattle.std.proofs.lemmas.Bool.{cases_lt}
use Rattle.cell_tables.specs.Marks.{IsEndMarked, IsNextMarked}
use Rattle.cell_tables.proofs.SpanWalks.{next_found, none_up_to_here, next_later}
use Rattle.cell_tables.proofs.marks.Marks.next_marked.Goals as goal
use Rattle.cell_tables.proofs.marks.Marks.next_marked.Goals.{In-None}

pub returns-in-Some-clause-next : goal.returns-in-Some-clause-next
returns-in-Some-clause-next c =
    next_found c.args.self.now c.args.rules.now c.args.first c.args.past (c.args.least / 64) c.ends_marked.result c.bits_from.result c.ends_marked.ensures c.args.least c.bits_from.ensures (λ to high low marked. absurd (omega arith)) c.in-Some.to c.in-Some.ensures.set c.in-Some.ensures.first

-- none up to the number of the first end
none_here : (c : In-None) → (to : ℕ) → c.args.least ≤ to → to < 64 * (c.args.least / 64 + 1) → IsEndMarked c.args.self.now c.args.rules.now c.args.first c.args.past to → ⊥
none_here c =
    none_up_to_here c.args.self.now c.args.rules.now c.args.first c.args.past (c.args.least / 64) c.ends_marked.result c.bits_from.result c.ends_marked.ensures c.args.least c.bits_from.ensures (λ to high low marked. absurd (omega arith)) (c.in-None.ensures.none refl)

pub returns-in-None-clause-none : goal.returns-in-None-clause-none
returns-in-None-clause-none c = λ none to high marked.
    let at = (goal.at.returns-in-None-clause-none c).In-None in
    elim (cases_lt to (64 * (c.args.least / 64 + 1))) [
      | inl here ↦ none_here at to high here marked
      | inr later ↦ c.next_behind.ensures.none none to later marked
    ]

later : (c : In-None) → (found : Option ℕ) → IfSome found (IsNextMarked c.args.self.now c.args.rules.now c.args.first c.args.past (64 * (c.args.least / 64 + 1))) → IfSome found (IsNextMarked c.args.self.now c.args.rules.now c.args.first c.args.past c.args.least)
later c None none = tt
later c (Some next) is = next_later c.args.self.now c.args.rules.now c.args.first c.args.past c.args.least (c.args.least / 64 + 1) (omega arith) (none_here c) next is

pub returns-in-None-clause-next : goal.returns-in-None-clause-next
returns-in-None-clause-next c =
    let at = (goal.at.returns-in-None-clause-next c).In-None in
    later at c.next_behind.result c.next_behind.ensures.next
