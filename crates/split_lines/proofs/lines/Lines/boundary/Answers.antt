use Rattle.std.proofs.Common.{◌↔◌, ℕ, ◌<◌, ◌≤◌, List, sym, subst, arith}
use Rattle.split_lines.specs.Flags.{AreBitsAmong}
use Rattle.split_lines.specs.Lines.{parts_by, LeavesPosition}
use Rattle.split_lines.proofs.BitPositions.{bits_among}
use Rattle.split_lines.proofs.LinePositions.{boundaries}
use Rattle.split_lines.proofs.lines.Lines.boundary.Goals as goal

pub limits_among-requires-clause-some : goal.limits_among-requires-clause-some
limits_among-requires-clause-some c = λ position there. ((c.between-positions.ensures.exact position).0 there).0

pub limits_among-requires-clause-whole : goal.limits_among-requires-clause-whole
limits_among-requires-clause-whole c = λ first position last begins ends low high there.
    let from_first = ((c.between-positions.ensures.exact first).0 begins).1 in
    let to_last = ((c.between-positions.ensures.exact last).0 ends).2 in
    (c.between-positions.ensures.exact position).1 (there, omega (arith, from_first), omega (arith, to_last))

pub returns-clause-boundaries : goal.returns-clause-boundaries
returns-clause-boundaries c =
    let p = c.args.self.now in
    let line = c.args.line in
    let is_line = c.requires.line in
    let matches = is_line.middle in
    let parts = parts_by c.args.arguments.now line.between in
    let range = c.range-range.result in
    let L : ℕ → Type 0 = λ last. (position : ℕ) → ((range.start ≤ position) × (position < range.end)) ↔ LeavesPosition p parts c.args.from c.args.to line.middle.now.letters last position in
    boundaries p parts c.args.from c.args.to line.middle.now.letters line.tail c.saturating_sub.result range.start range.end line.middle.now.positions.items c.between-positions.result.now matches.letters is_line.tail matches.positions c.saturating_sub.ensures (subst L (sym c.saturating_sub.ensures) c.range-range.ensures.exact) c.between-positions.ensures.exact c.between-positions.ensures.rising

pub returns-clause-here : goal.returns-clause-here
returns-clause-here c =
    let B : List ℕ → Type 0 = AreBitsAmong c.between-positions.result.now 0 in
    subst B (sym c.deref.ensures.value)
    (bits_among c.args.line.middle.now.positions.items c.between-positions.result.now 0 c.args.line.middle.now.here.items c.requires.line.middle.here
    (λ position there. ((c.between-positions.ensures.exact position).0 there).0)
    (λ first position last begins ends low high there.
    let from_first = ((c.between-positions.ensures.exact first).0 begins).1 in
    let to_last = ((c.between-positions.ensures.exact last).0 ends).2 in
    (c.between-positions.ensures.exact position).1 (there, omega (arith, from_first), omega (arith, to_last)))
    c.between-positions.ensures.rising)

pub returns-clause-behind : goal.returns-clause-behind
returns-clause-behind c =
    let B : List ℕ → Type 0 = AreBitsAmong c.between-positions.result.now c.args.line.middle.now.letters in
    subst B (sym c.deref-2.ensures.value)
    (bits_among c.args.line.middle.now.positions.items c.between-positions.result.now c.args.line.middle.now.letters c.args.line.middle.now.behind.items c.requires.line.middle.behind
    (λ position there. ((c.between-positions.ensures.exact position).0 there).0)
    (λ first position last begins ends low high there.
    let from_first = ((c.between-positions.ensures.exact first).0 begins).1 in
    let to_last = ((c.between-positions.ensures.exact last).0 ends).2 in
    (c.between-positions.ensures.exact position).1 (there, omega (arith, from_first), omega (arith, to_last)))
    c.between-positions.ensures.rising)
