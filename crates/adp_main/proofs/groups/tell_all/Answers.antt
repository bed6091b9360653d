use denote.Param.Send.{sendable}
use Rattle.std.proofs.Common.{List, subst, ◌∙◌}
use Rattle.std.specs.List.{AllZip}
use Rattle.std.specs.Option.{option_copied}
use Rattle.std.specs.Prelude.{IfSome}
use Rattle.std.proofs.Crossing.{crosses}
use Rattle.std.proofs.lemmas.Result.{IfOk-weaker}
use Rattle.adp_main.specs.Groups.{IsPosted, IsTold, Post, post_of, posts_from}
use Rattle.adp_main.proofs.Posts.{all_mapped, posted}
use Rattle.adp_main.proofs.SentSlots.{slot_send}
use Rattle.adp_main.proofs.groups.tell_all.Goals as goal

pub filled-done-requires : goal.filled-done-requires
filled-done-requires g c =
    let command = c.args.command.now in
    let made = option_copied c.args.made in
    let problems = c.args.problems.now in
    λ lifetimes. (
      search (sendable, crosses, slot_send) depth 60 fits 100000,
      (
        search (sendable, crosses) depth 40 fits 20000,
        all_mapped post_of IsPosted c.in_ok-slots.slots.items (posts_from command made c.args.number problems)
            c.in_ok-slots.ensures
            (posted command made c.requires.mode c.args.number c.requires.asked.0 problems c.requires.asked.1),
      ),
    )

pub told_of-requires : goal.told_of-requires
told_of-requires g c = c.filled-done.ensures.filled

pub returns : goal.returns
returns g c =
    let same = c.filled-done.ensures.asked ∙ c.in_ok-slots.ensures in
    IfOk-weaker c.told_of.result _ _ (λ all zip.
    subst (λ (posts : List Post). AllZip (λ post told. IfSome told (IsTold post)) posts all.items) same zip)
    c.told_of.ensures
