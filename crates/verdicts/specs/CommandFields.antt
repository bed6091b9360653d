-- Commands that were read, and what their fields stand for.
use Rattle.std.specs.Prelude.{◌≡◌, ◌≤◌, [], IfSome, IsSome, IsTrue}
use Rattle.std.specs.Option.{option_map, unwrap_or}
use Rattle.adp_model.specs.WellFormed.{is_name}
use Rattle.verdicts.specs.declared.command.Command.TheInside.{Inside}
use Rattle.verdicts.specs.declared.command.Mode.TheVariants.{Lex, KBest}
use Rattle.verdicts.specs.Command.{Command, greatest_size, most_trees}
use Rattle.verdicts.specs.ScheduleText.{machines_of}

-- the names and the schedule as texts that are borrowed
abbrev pub command_of : Inside → Command
command_of fields = record {
  mode = fields.mode;
  algebra = option_map (λ name. name.now) fields.algebra;
  second = option_map (λ name. name.now) fields.second;
  workers = fields.workers;
  seed = fields.seed;
  schedule = unwrap_or (option_map (λ text. machines_of text.now) fields.schedule) [];
  best = fields.best;
  size = fields.size;
}

-- the values are those that options may have
pub record AreInRange (fields : Inside) : Type 0 where
  pub some_workers : 1 ≤ fields.workers
  pub few_workers : fields.workers ≤ 32
  pub name : IfSome (option_map (λ name. name.now) fields.algebra) (λ name. IsTrue (is_name name))
  pub second_name : IfSome (option_map (λ name. name.now) fields.second) (λ name. IsTrue (is_name name))
  pub paired : fields.mode ≡ Lex → IsSome (option_map (λ name. name.now) fields.second)
  pub few_trees : fields.best ≤ most_trees
  pub listed : fields.mode ≡ KBest → 1 ≤ fields.best
  pub size : fields.size ≤ greatest_size
