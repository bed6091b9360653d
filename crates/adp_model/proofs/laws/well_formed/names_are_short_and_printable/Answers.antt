use Rattle.adp_model.proofs.FormedNames.{name_is_short, name_is_printable}
use Rattle.adp_model.proofs.laws.well_formed.names_are_short_and_printable.Goals as goal

pub returns : goal.returns
returns c = record {
  short = name_is_short;
  printable = name_is_printable;
}
