use Rattle.std.proofs.Common.{◌≡◌, ◌+◌, slice_get, sym, ap, ◌∙◌, arith}
use Rattle.split_lines.proofs.OpeningBits.{told_there, set_in_three}
use Rattle.split_lines.proofs.beginnings.Beginnings.bits_at.Goals as goal

pub returns : goal.returns
returns c = λ alternative letters told stands.
    let it = c.args.self.now in
    let word = c.args.word.now in
    let from = c.args.from in
    let here : from + 0 ≡ from = omega arith in
    let first = told_there it.first alternative c.bits_at-first.result (slice_get letters 0) c.letter_at.result
    (c.bits_at-first.ensures.any alternative) (c.bits_at-first.ensures.letter alternative) told.first
    (λ letter is. c.letter_at.ensures ∙ ap (slice_get word) (sym here) ∙ stands 0 letter is) in
    let second = told_there it.second alternative c.bits_at-second.result (slice_get letters 1) c.letter_at-2.result
    (c.bits_at-second.ensures.any alternative) (c.bits_at-second.ensures.letter alternative) told.second
    (λ letter is. c.letter_at-2.ensures ∙ stands 1 letter is) in
    let third = told_there it.third alternative c.bits_at-third.result (slice_get letters 2) c.letter_at-3.result
    (c.bits_at-third.ensures.any alternative) (c.bits_at-third.ensures.letter alternative) told.third
    (λ letter is. c.letter_at-3.ensures ∙ stands 2 letter is) in
    set_in_three c.bits_at-first.result c.bits_at-second.result c.bits_at-third.result alternative first second third
