use Rattle.std.proofs.Common.{◌≡◌, ◌+◌, ◌-◌, ◌*◌, ◌<◌, ◌≤◌, length, drop, slice_index, refl, ◌∙◌, sym, subst, arith}
use Rattle.std.proofs.lemmas.List.{get_or_read}
use Rattle.adp_model.specs.LimitFaults.{told}
use Rattle.grammar_check.specs.declared.part.Worth.TheVariants.{OfLetters}
use Rattle.grammar_check.specs.Plans.{worth_of, spread, part_at}
use Rattle.grammar_check.proofs.Spreads.{added_by, best_step, best_done}
use Rattle.grammar_check.proofs.linear_alternative.LinearAlternative.best_of_letters.Goals as goal

pub loop-more-preserved : goal.loop-more-preserved
loop-more-preserved c = record {
  upper = omega arith;
  best = λ bound adds rest_right.
      let part = c.index-part.result.now in
      let more = c.loop-more.more in
      let within : more ≤ c.args.spare = omega arith in
      let here = c.cut_product-here.ensures ∙ adds (part.low + more) in
      let rest = c.row-others.ensures.entries (c.args.spare - more) (omega (arith, c.requires.column)) ∙ rest_right (c.args.spare - more) (omega arith) in
      best_step (added_by bound part (drop (c.args.place + 1) c.args.self.now.parts.items) c.args.spare) c.saturating_sub-first.result more c.loop-more.best
      c.cut_product-here.result (slice_index c.row-others.result.now (c.args.spare - more)) c.cut_sum.result c.max-best.result (worth_of bound part.worth (part.low + more)) (spread bound (drop (c.args.place + 1) c.args.self.now.parts.items) (c.args.spare - more))
      c.loop-more.auto.more (c.loop-more.invariant.best bound adds rest_right) refl here rest c.cut_sum.ensures c.max-best.ensures;
}

pub returns : goal.returns
returns c = λ bound adds rest_right.
    let parts = c.args.self.now.parts.items in
    let place = c.args.place in
    let inside : place < length parts = omega (arith, c.args.self.now.parts.ok.0, c.requires.place) in
    let part = c.index-part.result.now in
    let part_is : part ≡ part_at parts place = get_or_read parts place part inside c.index-part.ensures (record { worth = OfLetters 0 0; low = 0; room = 0 }) in
    best_done bound parts part place c.args.spare c.args.rest_room c.loop-more.best c.loop-more.more c.saturating_sub-first.result c.min-last.result inside part_is (omega arith) c.requires.rest_room c.saturating_sub-first.ensures c.min-last.ensures c.loop-more-test.false c.loop-more.auto.more c.loop-more.invariant.upper
    (c.loop-more.invariant.best bound (λ len. subst (λ p. told (len * c.args.worth) ≡ told (worth_of bound p.worth len)) (sym part_is) (adds len)) rest_right)
