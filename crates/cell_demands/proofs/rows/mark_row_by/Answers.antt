use Rattle.std.proofs.Common.{◌≡◌, ◌+◌, ◌-◌, ◌≤◌, ℕ, length, refl, ap, inr, ◌∙◌, arith}
use Rattle.adp_model.specs.PosedProblem.{PosedProblem}
use Rattle.split_lines.specs.Kept.{IsAmong as HasLength}
use Rattle.cell_demands.specs.PlaceBits.{HasBit}
use Rattle.cell_demands.specs.declared.rows.Positions.{Positions}
use Rattle.cell_demands.specs.Rows.{DemandsOfLengths, IsAmong}
use Rattle.cell_demands.proofs.RowLengths.{demands_within, lengths_marked, lengths_of_row}
use Rattle.cell_demands.proofs.RowMarks.{rows_none}
use Rattle.cell_demands.proofs.rows.mark_row_by.Goals as goal
use Rattle.cell_demands.proofs.rows.mark_row_by.Goals.{After-min, After-set_bit}

letters : (c : After-min) → length c.letters.result.now ≡ length c.args.lines.now.word
letters c = ap length c.letters.ensures.word ∙ ap (λ (p : PosedProblem). length p.word) c.problem.ensures

abbrev wanted : After-min → Positions
wanted c = record { bits = c.args.ends; first = c.saturating_add.result; past = c.min.result + 1 }

abbrev here : After-set_bit → Positions
here c = record {
  bits = record { ref_ptr = c.deref_mut-reached.result.ref_ptr; now = c.set_bit.new.bits };
  first = c.args.from;
  past = c.args.from + 1;
}

is_wanted : (c : After-min) (to : ℕ) → c.args.from ≤ to → to ≤ length c.args.lines.now.word → HasBit c.args.ends.now to
    → HasLength c.args.lengths (to - c.args.from) → IsAmong (wanted c) to
is_wanted c to behind within bit length = record {
  from_first = omega (arith, behind, length.0, c.saturating_add.ensures);
  before = omega (arith, behind, within, length.1, letters c, c.letters.ensures.few, c.saturating_add-2.ensures, c.min.ensures);
  bit = bit;
}

is_length : (c : After-min) (to : ℕ) → IsAmong (wanted c) to → HasBit c.args.ends.now to × HasLength c.args.lengths (to - c.args.from)
is_length c to among = (
  among.bit,
  (
    omega (arith, among.from_first, among.before, letters c, c.letters.ensures.few, c.saturating_add.ensures, c.min.ensures),
    omega (arith, among.before, c.saturating_add-2.ensures, c.min.ensures),
  ),
)

only : (c : After-set_bit) (at : ℕ) → IsAmong (here c) at → at ≡ c.args.from
only c at among = omega (arith, among.from_first, among.before)

stands : (c : After-set_bit) → IsAmong (here c) c.args.from
stands c = record { from_first = omega arith; before = omega arith; bit = (c.set_bit.ensures.exact c.args.from).1 (inr refl) }

pub returns-then-wanted-clause-marked : goal.returns-then-wanted-clause-marked
returns-then-wanted-clause-marked c =
    let at = (goal.at.returns-then-wanted-clause-marked c).After-min in
    rows_none c.args.marks.now (DemandsOfLengths c.args.lines.now c.args.arguments.now c.args.lengths c.args.from c.args.ends.now)
    (λ cell (to, bit, length, demands).
    let within = demands_within c.args.lines.now c.args.arguments.now c.args.from to cell demands in
    let among = is_wanted at to within.0 within.1 bit length in
    omega (arith, among.from_first, among.before, c.if-wanted.true))

pub mark_through-requires-clause-counted : goal.mark_through-requires-clause-counted
mark_through-requires-clause-counted c = λ cell demands.
    let at = goal.at.mark_through-requires-clause-counted c in
    c.requires.counted cell
    (lengths_of_row c.args.lines.now c.args.arguments.now c.args.lengths c.args.from c.args.ends.now
    (IsAmong (here at.After-set_bit)) (IsAmong (wanted at.After-min)) (only at.After-set_bit) (stands at.After-set_bit)
    (is_length at.After-min) (is_wanted at.After-min) cell demands)

pub returns-clause-marked : goal.returns-clause-marked
returns-clause-marked c =
    let at = goal.at.returns-clause-marked c in
    lengths_marked c.args.lines.now c.args.arguments.now c.args.lengths c.args.from c.args.ends.now
    (IsAmong (here at.After-set_bit)) (IsAmong (wanted at.After-min)) (only at.After-set_bit) (stands at.After-set_bit)
    (is_length at.After-min) (is_wanted at.After-min) c.args.marks.now c.mark_through.new.marks c.mark_through.ensures.marked
