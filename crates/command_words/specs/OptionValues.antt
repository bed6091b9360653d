-- The values of the options that were read, as contracts see them.
use Rattle.std.specs.Prelude.{ℕ, List, Option}
use Rattle.std.specs.Option.{option_map}
use Rattle.verdicts.specs.ScheduleText.{machines_of}
use Rattle.command_words.specs.declared.words.Settings.TheInside.{Inside}

-- the values of the options that are set: of a schedule the machines that it names
pub record OptionValues : Type 0 where
  pub algebra : Option (List ℕ)
  pub second : Option (List ℕ)
  pub workers : Option ℕ
  pub seed : Option ℕ
  pub schedule : Option (List ℕ)
  pub best : Option ℕ
  pub size : Option ℕ

abbrev pub values_of : Inside → OptionValues
values_of fields = record {
  algebra = option_map (λ name. name.now) fields.algebra;
  second = option_map (λ name. name.now) fields.second;
  workers = fields.workers;
  seed = fields.seed;
  schedule = option_map (λ text. machines_of text.now) fields.schedule;
  best = fields.best;
  size = fields.size;
}
