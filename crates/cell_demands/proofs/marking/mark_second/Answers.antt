use Rattle.std.proofs.Common.{◌≡◌, ◌⊎◌, ℕ, ◌+◌, ◌-◌, length, get_or, refl, sym, ap, inl, ⊎_elim, subst, ◌∙◌, arith, rules}
use Rattle.std.specs.List.{Contains}
use Rattle.adp_model.specs.declared.grammar.Arg.TheVariants.{Rule}
use Rattle.adp_model.specs.declared.cell.Cell.{Cell}
use Rattle.adp_model.specs.PosedProblem.{PosedProblem}
use Rattle.adp_model.specs.Cells.{IsCounted}
use Rattle.cell_tables.specs.Bits.{IsBitOf}
use Rattle.split_lines.specs.Laid.{IsCellOf}
use Rattle.cell_demands.proofs.BitPositions.{first_set, last_set, room_behind, position_of_bit, bit_of_position}
use Rattle.cell_demands.proofs.MarkSteps.{too_like, too_more, same_rule}
use Rattle.cell_demands.proofs.RisingPositions.{between_ends, first_stands, last_stands}
use Rattle.cell_demands.proofs.marking.mark_second.Goals as goal

pub overflow_add-first : goal.overflow_add-first
overflow_add-first c =
    let low = c.requires.short (get_or c.args.boundary.positions.now 0 0) (first_stands c.args.boundary.positions.now c.requires.some) in
    search rules

pub overflow_add-past : goal.overflow_add-past
overflow_add-past c =
    let low = c.requires.short (get_or c.args.boundary.positions.now (length c.args.boundary.positions.now - 1) 0)
    (last_stands c.args.boundary.positions.now c.requires.some) in
    search rules

pub overflow_add-past-in-Rule : goal.overflow_add-past-in-Rule
overflow_add-past-in-Rule c =
    let low = c.requires.short (get_or c.args.boundary.positions.now (length c.args.boundary.positions.now - 1) 0)
    (last_stands c.args.boundary.positions.now c.requires.some) in
    search rules

pub mark_starts_of-requires-clause-first : goal.mark_starts_of-requires-clause-first
mark_starts_of-requires-clause-first c =
    λ _. first_set c.args.boundary.positions.now c.args.boundary.letters c.args.boundary.behind.now c.requires.bits c.requires.some

pub mark_starts_of-requires-clause-last : goal.mark_starts_of-requires-clause-last
mark_starts_of-requires-clause-last c = λ _.
    let b = c.args.boundary in
    let positions = b.positions.now in
    let last = get_or positions (length positions - 1) 0 + b.letters in
    let same : last ≡ last + 1 - 1 = omega arith in
    subst (IsBitOf b.behind.now (get_or positions 0 0 + b.letters) (last + 1)) same (last_set positions b.letters b.behind.now c.requires.bits c.requires.some)

pub mark_starts_of-requires-clause-counted : goal.mark_starts_of-requires-clause-counted
mark_starts_of-requires-clause-counted c = λ from is.
    let b = c.args.boundary in
    let found = position_of_bit b.positions.now b.letters b.behind.now c.requires.bits c.requires.some from is in
    c.requires.counted _ found.0 found.1 (record { rule = c.in-Rule.is; begins = sym found.2; ends = refl })

pub mark_starts_of-requires-clause-bits : goal.mark_starts_of-requires-clause-bits
mark_starts_of-requires-clause-bits c =
    room_behind c.args.boundary.positions.now c.args.boundary.letters c.args.boundary.behind.now c.requires.bits c.requires.some

pub mark-requires : goal.mark-requires
mark-requires c =
    let b = c.args.boundary in
    let first = get_or b.positions.now 0 0 in
    let cell : Cell = record { rule = c.in-Rule.rule; from = first + b.letters; to = b.last } in
    let C : PosedProblem → Type 0 = λ q. IsCounted q.grammar (length q.word) cell in
    subst C (sym c.mark_starts_of.ensures.problem)
    (c.requires.counted cell first (first_stands b.positions.now c.requires.some)
    (record { rule = c.in-Rule.is; begins = refl; ends = refl }))

pub returns-then-first-begin : goal.returns-then-first-begin
returns-then-first-begin c =
    let b = c.args.boundary in
    let positions = b.positions.now in
    let first = get_or positions 0 0 in
    let argument = c.args.argument.now in
    let rule = c.in-Rule.rule in
    let one : Cell = record { rule = rule; from = first + b.letters; to = b.last } in
    let Bit : ℕ → Type 0 = IsBitOf b.behind.now (first + b.letters) (get_or positions (length positions - 1) 0 + b.letters + 1) in
    let Early : Cell → Type 0 = λ cell. (cell.rule ≡ rule) × (cell.to ≡ b.last) × Bit cell.from in
    let Wanted : Cell → Type 0 = λ cell. (start : ℕ) × Contains positions start × IsCellOf argument (start + b.letters) b.last cell in
    let begins : first + b.letters ≡ c.args.begin = omega arith in
    record {
      marked = too_like c.args.marks.now c.mark.new.self (λ cell. Early cell ⊎ (cell ≡ one)) Wanted
          (λ cell either. ⊎_elim
          (λ (e, e', is).
          let found = position_of_bit positions b.letters b.behind.now c.requires.bits c.requires.some cell.from is in
          (found.0, found.1, record { rule = c.in-Rule.is ∙ ap Rule (sym e); begins = sym found.2; ends = sym e' }))
          (λ e. subst Wanted (sym e) (first, first_stands positions c.requires.some, record { rule = c.in-Rule.is; begins = refl; ends = refl })) either)
          (λ cell (start, there, is). inl (
            same_rule argument rule cell.rule c.in-Rule.is is.rule,
            sym is.ends,
            subst Bit is.begins (bit_of_position positions b.letters b.behind.now c.requires.bits c.requires.some
                start there),
          ))
          (too_more c.args.marks.now c.mark_starts_of.new.self c.mark.new.self Early (λ cell. cell ≡ one) c.mark_starts_of.ensures c.mark.ensures.marked);
      begun = λ cell here (start, there, is).
          let at : cell.from ≡ first + b.letters = here ∙ sym begins in
          let e = same_rule argument rule cell.rule c.in-Rule.is is.rule in
          let e' = sym is.ends in
          c.mark.ensures.in_row cell (λ k. record { rule = e k; from = at k; to = e' k });
    }

pub returns-else-first-begin : goal.returns-else-first-begin
returns-else-first-begin c =
    let b = c.args.boundary in
    let positions = b.positions.now in
    let first = get_or positions 0 0 in
    let argument = c.args.argument.now in
    let rule = c.in-Rule.rule in
    let Bit : ℕ → Type 0 = IsBitOf b.behind.now (first + b.letters) (get_or positions (length positions - 1) 0 + b.letters + 1) in
    let Early : Cell → Type 0 = λ cell. (cell.rule ≡ rule) × (cell.to ≡ b.last) × Bit cell.from in
    let Wanted : Cell → Type 0 = λ cell. (start : ℕ) × Contains positions start × IsCellOf argument (start + b.letters) b.last cell in
    record {
      marked = too_like c.args.marks.now c.mark_starts_of.new.self Early Wanted
          (λ cell (e, e', is).
          let found = position_of_bit positions b.letters b.behind.now c.requires.bits c.requires.some cell.from is in
          (found.0, found.1, record { rule = c.in-Rule.is ∙ ap Rule (sym e); begins = sym found.2; ends = sym e' }))
          (λ cell (start, there, is). (
            same_rule argument rule cell.rule c.in-Rule.is is.rule,
            sym is.ends,
            subst Bit is.begins (bit_of_position positions b.letters b.behind.now c.requires.bits c.requires.some
                start there),
          ))
          c.mark_starts_of.ensures;
      begun = λ cell here (start, there, is).
          let low = between_ends positions start c.requires.rising there in
          let from_begin = c.requires.begin first (first_stands positions c.requires.some) in
          absurd (omega (arith, low.0, from_begin, is.begins, here));
    }
