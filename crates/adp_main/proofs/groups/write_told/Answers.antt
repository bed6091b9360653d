use Rattle.std.proofs.Common.{◌≡◌, ◌+◌, ◌<◌, ◌∷◌, ◌++◌, ◌∙◌, [], ℕ, Option, Some, Ok, Err, List, length, get_or, sym, ap, subst, arith}
use Rattle.std.specs.Vec.Iter.{into_iter_items}
use Rattle.std.proofs.lemmas.List.{append_assoc, get_or_at, length-append}
use Rattle.std.proofs.lemmas.Result.{err_from_is_err_and}
use Rattle.adp_model.specs.PosedProblem.{PosedProblem}
use Rattle.verdicts.specs.Command.{Command}
use Rattle.adp_main.specs.declared.slot.Told.{Told}
use Rattle.adp_main.specs.Groups.{AreTold}
use Rattle.adp_main.proofs.FirstWords.{one_reported}
use Rattle.adp_main.proofs.Posts.{behind_inside, told_length, told_word}
use Rattle.adp_main.proofs.groups.write_told.Goals as goal

pub loop-word-preserved : goal.loop-word-preserved
loop-word-preserved g c =
    let word = c.in-Some.word in
    let yielded = c.loop-word.yielded in
    let written = c.loop-word.written in
    let e = c.in_ok-write_one.ensures in
    let next = ap (λ items. yielded ++ items) c.in-Some.ensures.steps.0 in
    let whole = sym c.loop-word.invariant.left ∙ next in
    let it : Told = c.in-Some-word.told in
    let inside : written < length c.args.all.items =
    omega (arith, behind_inside yielded (into_iter_items c.next.new.self) word, ap length whole, c.loop-word.invariant.count) in
    let here : Some it ≡ get_or c.args.all.items written (Some it) =
    sym c.in-Some-word.is ∙ sym (get_or_at yielded word (into_iter_items c.next.new.self) (Some it) written (sym c.loop-word.invariant.count))
    ∙ ap (λ (items : List (Option Told)). get_or items written (Some it)) (sym whole) in
    record {
      left = append_assoc yielded (word ∷ []) (into_iter_items c.next.new.self) ∙ sym next ∙ c.loop-word.invariant.left;
      count = omega (arith, c.loop-word.invariant.count, length-append yielded (word ∷ []));
      told = e.told ∙ c.loop-word.invariant.told;
      faults = e.faults.stands (λ failed. cc) ∙ c.loop-word.invariant.faults;
      ran = λ (command : Command) (number : ℕ) (asked : List PosedProblem) (are : AreTold command number asked c.args.all.items).
          let at = told_word c.demanded_cells_are_unique.ensures.count command number asked c.args.all.items are written it
          inside here (Ok tt) _ _ _ _ e.ending in
          one_reported command number asked written at.0 at.1 at.2 tt _ _ _ _ _ _
          (c.loop-word.invariant.ran command number asked are) at.3;
    }

pub returns-in_err-write_one-clause-ending : goal.returns-in_err-write_one-clause-ending
returns-in_err-write_one-clause-ending g c =
    let p = err_from_is_err_and c.from_residual.result c.from_residual.ensures.1 in
    let word = c.in-Some.word in
    let yielded = c.loop-word.yielded in
    let written = c.loop-word.written in
    let whole = sym c.loop-word.invariant.left ∙ ap (λ items. yielded ++ items) c.in-Some.ensures.steps.0 in
    let it : Told = c.in-Some-word.told in
    let inside : written < length c.args.all.items =
    omega (arith, behind_inside yielded (into_iter_items c.next.new.self) word, ap length whole, c.loop-word.invariant.count) in
    let here : Some it ≡ get_or c.args.all.items written (Some it) =
    sym c.in-Some-word.is ∙ sym (get_or_at yielded word (into_iter_items c.next.new.self) (Some it) written (sym c.loop-word.invariant.count))
    ∙ ap (λ (items : List (Option Told)). get_or items written (Some it)) (sym whole) in
    let fault = c.in_err-write_one.field-0.0 in
    let ending = c.in_err-write_one.ensures.ending in
    λ (command : Command) (number : ℕ) (asked : List PosedProblem) (are : AreTold command number asked c.args.all.items).
    let at = told_word c.demanded_cells_are_unique.ensures.count command number asked c.args.all.items are written it inside
    here (Err fault) _ _ _ _ ending in
    rw (p.1, p.2) (
      written,
      record {
        inside = at.1;
        notes = g.G.Gate.runs c.loop-word.gate;
        bytes = g.K.Sink.held c.loop-word.out;
        before = c.loop-word.invariant.ran command number asked are;
        problem = at.0;
        is_problem = at.2;
        ending = at.3;
      },
    )

pub returns-clause-ending : goal.returns-clause-ending
returns-clause-ending g c =
    λ (command : Command) (number : ℕ) (asked : List PosedProblem) (are : AreTold command number asked c.args.all.items). (
      omega (
        arith,
        c.loop-word.invariant.count,
        ap length c.loop-word.invariant.left,
        length-append c.loop-word.yielded (into_iter_items c.loop-word.word-iterator),
        told_length c.demanded_cells_are_unique.ensures.count command number asked c.args.all.items are,
      ),
      c.loop-word.invariant.ran command number asked are,
    )
