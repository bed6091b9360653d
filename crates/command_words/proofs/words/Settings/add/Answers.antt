use Rattle.std.proofs.Common.{refl}
use Rattle.verdicts.specs.Command.{Algebra, Then, Workers, Seed, Schedule, Trees, Size}
use Rattle.verdicts.specs.ScheduleText.{machines_of}
use Rattle.command_words.proofs.Options.{added_if, refused_if, not_workers, not_seed, not_schedule, not_trees, not_size}
use Rattle.command_words.proofs.words.Settings.add.Goals as goal

pub returns-in-text-clause-added : goal.returns-in-text-clause-added
returns-in-text-clause-added c =
    added_if c.add_algebra.result _ _ (λ after adds. (Algebra c.args.value.now, (c.in-text.is, refl, adds)))
    c.add_algebra.ensures.added

pub returns-in-text-2-clause-added : goal.returns-in-text-2-clause-added
returns-in-text-2-clause-added c =
    added_if c.add_second.result _ _ (λ after adds. (Then c.args.value.now, (c.in-text-2.is, refl, adds)))
    c.add_second.ensures.added

pub returns-in-text-3-clause-added : goal.returns-in-text-3-clause-added
returns-in-text-3-clause-added c =
    added_if c.add_workers.result _ _ (λ after adds. (Workers adds.0, (c.in-text-3.is, adds.1)))
    c.add_workers.ensures.added

pub returns-in-text-3-clause-refused : goal.returns-in-text-3-clause-refused
returns-in-text-3-clause-refused c =
    refused_if c.add_workers.result _ _ (not_workers _ _ _ c.in-text-3.is) c.add_workers.ensures.refused

pub returns-in-text-4-clause-added : goal.returns-in-text-4-clause-added
returns-in-text-4-clause-added c =
    added_if c.add_seed.result _ _ (λ after adds. (Seed adds.0, (c.in-text-4.is, adds.1))) c.add_seed.ensures.added

pub returns-in-text-4-clause-refused : goal.returns-in-text-4-clause-refused
returns-in-text-4-clause-refused c =
    refused_if c.add_seed.result _ _ (not_seed _ _ _ c.in-text-4.is) c.add_seed.ensures.refused

pub returns-in-text-5-clause-added : goal.returns-in-text-5-clause-added
returns-in-text-5-clause-added c =
    added_if c.add_schedule.result _ _ (λ after adds. (Schedule (machines_of c.args.value.now), (c.in-text-5.is, refl, adds)))
    c.add_schedule.ensures.added

pub returns-in-text-5-clause-refused : goal.returns-in-text-5-clause-refused
returns-in-text-5-clause-refused c =
    refused_if c.add_schedule.result _ _ (not_schedule _ _ _ c.in-text-5.is) c.add_schedule.ensures.refused

pub returns-in-text-6-clause-added : goal.returns-in-text-6-clause-added
returns-in-text-6-clause-added c =
    added_if c.add_best.result _ _ (λ after adds. (Trees adds.0, (c.in-text-6.is, adds.1))) c.add_best.ensures.added

pub returns-in-text-6-clause-refused : goal.returns-in-text-6-clause-refused
returns-in-text-6-clause-refused c =
    refused_if c.add_best.result _ _ (not_trees _ _ _ c.in-text-6.is) c.add_best.ensures.refused

pub returns-in-text-7-clause-added : goal.returns-in-text-7-clause-added
returns-in-text-7-clause-added c =
    added_if c.add_size.result _ _ (λ after adds. (Size adds.0, (c.in-text-7.is, adds.1))) c.add_size.ensures.added

pub returns-in-text-7-clause-refused : goal.returns-in-text-7-clause-refused
returns-in-text-7-clause-refused c =
    refused_if c.add_size.result _ _ (not_size _ _ _ c.in-text-7.is) c.add_size.ensures.refused
