use Rattle.std.proofs.Common.{◌≡◌, length, drop, map, All, sym, ap, subst, ◌∙◌, arith}
use Rattle.std.proofs.lemmas.List.{length-map, take_at}
use Rattle.word_groups.proofs.filling.filled.Goals as goal

pub returns-clause-filled : goal.returns-clause-filled
returns-clause-filled g c =
    let slots = c.args.slots in
    let done = c.fill_all.new.slots in
    let same = c.fill_all.ensures.asked ∙ ap (map g.S.Fill.asked) c.as_mut_slice.ensures.value in
    let long : length done ≡ slots.len =
    omega (
      arith,
      ap length same,
      length-map done g.S.Fill.asked,
      length-map slots.items g.S.Fill.asked,
      slots.ok.0,
    ) in
    subst (All g.S.Fill.is_filled) (sym (take_at done (drop (length done) slots.items) slots.len long)) c.fill_all.ensures.filled

pub returns-clause-asked : goal.returns-clause-asked
returns-clause-asked g c =
    let slots = c.args.slots in
    let done = c.fill_all.new.slots in
    let same = c.fill_all.ensures.asked ∙ ap (map g.S.Fill.asked) c.as_mut_slice.ensures.value in
    let long : length done ≡ slots.len =
    omega (
      arith,
      ap length same,
      length-map done g.S.Fill.asked,
      length-map slots.items g.S.Fill.asked,
      slots.ok.0,
    ) in
    ap (map g.S.Fill.asked) (take_at done (drop (length done) slots.items) slots.len long) ∙ same
