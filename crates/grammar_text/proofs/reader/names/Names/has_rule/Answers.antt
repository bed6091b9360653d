use Rattle.job_texts.specs.DeclaredNames.{rule_names}
use Rattle.grammar_text.proofs.Firsts.{known}
use Rattle.grammar_text.proofs.reader.names.Names.has_rule.Goals as goal

pub returns : goal.returns
returns c = λ all are. known c.is_some.result c.get.result _ (rule_names all) c.args.name.now c.is_some.ensures c.get.ensures.value (are.rules c.args.name.now)
