use Rattle.faultless_grammars.proofs.Checked.{sizes_and_ranks}
use Rattle.faultless_grammars.proofs.laws.faultless_grammars_have_sizes_and_ranks.Goals as goal

pub returns : goal.returns
returns c grammar name algebra formed sound = sizes_and_ranks (record {
  orderly = c.monotone_terms_keep_order.ensures;
  rule_there = c.alternatives_fit.ensures.rule;
  named_known = c.numbers_fit_together.ensures.named_known;
}) grammar formed name algebra sound
