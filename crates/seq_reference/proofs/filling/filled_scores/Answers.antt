use Rattle.std.proofs.Common.{◌≡◌, ◌+◌, ◌-◌, ◌*◌, ◌/◌, ◌<◌, ◌≤◌, ℕ, ℤ, List, length, sym, ap, subst, ◌∙◌, arith}
use Rattle.adp_model.specs.declared.cell.Cell.{Cell}
use Rattle.adp_model.specs.PosedProblem.{PosedProblem}
use Rattle.adp_model.specs.Demand.{IsDemanded}
use Rattle.cell_answers.specs.Entries.{HasEntry}
use Rattle.cell_tables.specs.Tables.{Table}
use Rattle.seq_reference.specs.Filling.{AreFilled, IsFromStart}
use Rattle.suffix_cells.specs.Ranks.{AreRanked}
use Rattle.seq_reference.proofs.Fills.{all_from, block_end_fits, none_from}
use Rattle.seq_reference.proofs.Sweeps.{Counted}
use Rattle.seq_reference.proofs.filling.filled_scores.Goals as goal
use Rattle.seq_reference.proofs.filling.filled_scores.Goals.{After-bytes}

letters : (c : After-bytes) → length c.bytes.result.now ≡ length c.args.lines.now.word
letters c = ap length c.bytes.ensures.bytes ∙ ap (λ (q : PosedProblem). length q.word) (c.problem.view_is ∙ c.problem-problem.ensures)

few_letters : (c : After-bytes) → length c.bytes.result.now ≤ 32767
few_letters c = let few = c.problem.invariant.letters in omega (arith, ap length c.bytes.ensures.bytes, few)

pub overflow_cast-letters : goal.overflow_cast-letters
overflow_cast-letters c = omega (arith, few_letters c)

-- no demanded cell begins behind the word
none_behind : (c : After-bytes) (past : ℕ) → length c.args.lines.now.word < past → AreFilled c.args.lines.now c.in_ok-scores.scores (IsFromStart past)
none_behind c past behind =
    let p = c.args.lines.now in
    let D : PosedProblem → Type 0 = λ p. (cell : Cell) → IsDemanded p cell → Counted p cell in
    let counted = subst D c.problem-problem.ensures (c.demanded_cells_are_counted.ensures c.problem-problem.result.now c.admissible.ensures.checked.well_formed) in
    none_from p counted c.in_ok-scores.scores past (c.in_ok-scores.ensures ∙ c.requires.same_layout) behind

pub loop-block-init : goal.loop-block-init
loop-block-init c =
    let at = (goal.at.loop-block-init c).After-bytes in
    none_behind at ((length c.bytes.result.now / 16 + 1) * 16) (omega (arith, letters at))

pub overflow_mul-first : goal.overflow_mul-first
overflow_mul-first c =
    let end = block_end_fits (length c.bytes.result.now) c.loop-block.block (few_letters (goal.at.overflow_mul-first c).After-bytes) c.loop-block.auto.block in
    omega (arith, end)

pub overflow_add-first : goal.overflow_add-first
overflow_add-first c =
    let end = block_end_fits (length c.bytes.result.now) c.loop-block.block (few_letters (goal.at.overflow_add-first c).After-bytes) c.loop-block.auto.block in
    omega (arith, end)

pub fill_block-requires-clause-ranked : goal.fill_block-requires-clause-ranked
fill_block-requires-clause-ranked c =
    let R : List ℕ → Type 0 = AreRanked c.args.lines.now in
    let P : PosedProblem → Type 0 = λ p. AreRanked p c.in_ok-rules.rules.items in
    subst R (sym c.deref.ensures.value) (subst P c.problem-problem.ensures c.in_ok-rules.ensures)

pub fill_block-requires-clause-marked : goal.fill_block-requires-clause-marked
fill_block-requires-clause-marked c = c.requires.marked

pub fill_block-requires-clause-filled : goal.fill_block-requires-clause-filled
fill_block-requires-clause-filled c =
    let at = (goal.at.fill_block-requires-clause-filled c).After-bytes in
    none_behind at (length c.bytes.result.now + 1) (omega (arith, letters at))

pub fill_block-requires-in-loop-block-clause-ranked : goal.fill_block-requires-in-loop-block-clause-ranked
fill_block-requires-in-loop-block-clause-ranked c =
    let R : List ℕ → Type 0 = AreRanked c.args.lines.now in
    let P : PosedProblem → Type 0 = λ p. AreRanked p c.in_ok-rules.rules.items in
    subst R (sym c.deref-in-loop-block.ensures.value) (subst P c.problem-problem.ensures c.in_ok-rules.ensures)

pub fill_block-requires-in-loop-block-clause-marked : goal.fill_block-requires-in-loop-block-clause-marked
fill_block-requires-in-loop-block-clause-marked c = c.requires.marked

pub fill_block-requires-in-loop-block-clause-filled : goal.fill_block-requires-in-loop-block-clause-filled
fill_block-requires-in-loop-block-clause-filled c =
    let same : c.loop-block.block * 16 ≡ (c.loop-block.block - 1) * 16 + 16 = omega (arith, c.loop-block-test.true) in
    subst (λ past. AreFilled c.args.lines.now c.loop-block.scores (IsFromStart past)) same c.loop-block.invariant

pub loop-block-preserved : goal.loop-block-preserved
loop-block-preserved c = c.fill_block-in-loop-block.ensures

pub returns-then-may_note-clause-problem : goal.returns-then-may_note-clause-problem
returns-then-may_note-clause-problem c = ap (λ (table : Table ℤ). table.problem) c.into_scores.ensures ∙ c.fill_block.ensures.problem

pub returns-then-may_note-clause-scored : goal.returns-then-may_note-clause-scored
returns-then-may_note-clause-scored c =
    let S : Table ℤ → Type 0 = λ table. (cell : Cell) → IsDemanded c.args.lines.now cell → HasEntry table cell in
    subst S (sym c.into_scores.ensures) (λ cell demanded. c.fill_block.ensures.entries cell demanded (omega arith))

pub returns-clause-problem : goal.returns-clause-problem
returns-clause-problem c = ap (λ (table : Table ℤ). table.problem) c.into_scores-2.ensures ∙ c.loop-block.invariant.problem

pub returns-clause-scored : goal.returns-clause-scored
returns-clause-scored c =
    let S : Table ℤ → Type 0 = λ table. (cell : Cell) → IsDemanded c.args.lines.now cell → HasEntry table cell in
    subst S (sym c.into_scores-2.ensures) (all_from c.args.lines.now c.loop-block.scores c.loop-block.block c.loop-block-test.false c.loop-block.invariant)
