use Rattle.std.proofs.Common.{[], ◌∷◌, ◌++◌, IfSome, All, map, ap, sym, subst, ◌∙◌}
use Rattle.std.specs.List.{AllZip}
use Rattle.std.specs.Vec.Iter.{into_iter_items}
use Rattle.std.proofs.lemmas.List.{append_assoc}
use Rattle.adp_main.specs.declared.slot.Slot.{Slot}
use Rattle.adp_main.specs.Groups.{IsTold, post_of}
use Rattle.adp_main.proofs.Posts.{all_between, zip_push}
use Rattle.adp_main.proofs.groups.told_of.Goals as goal

pub loop-slot-preserved : goal.loop-slot-preserved
loop-slot-preserved g c =
    let slot = c.in-Some.slot in
    let yielded = c.loop-slot.yielded in
    let is_told : Slot _ → Type 0 = λ it. IfSome it.told (IsTold (post_of it)) in
    let whole = sym c.loop-slot.invariant.left ∙ ap (λ items. yielded ++ items) c.in-Some.ensures.steps.0 in
    let here = all_between is_told yielded _ slot (subst (All is_told) whole c.requires) in
    record {
      left = append_assoc yielded (slot ∷ []) (into_iter_items c.next.new.self)
          ∙ sym (ap (λ items. yielded ++ items) c.in-Some.ensures.steps.0) ∙ c.loop-slot.invariant.left;
      told = subst (AllZip (λ post told. IfSome told (IsTold post)) (map post_of (yielded ++ slot ∷ [])))
          (sym (c.in_ok-push.ensures {u = tt}).items)
          (zip_push post_of (λ post told. IfSome told (IsTold post)) yielded c.loop-slot.all.items slot slot.told
          c.loop-slot.invariant.told here);
    }
