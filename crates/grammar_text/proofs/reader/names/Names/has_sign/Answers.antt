use Rattle.job_texts.specs.DeclaredNames.{sign_names}
use Rattle.grammar_text.proofs.Firsts.{known}
use Rattle.grammar_text.proofs.reader.names.Names.has_sign.Goals as goal

pub returns : goal.returns
returns c = λ all are. known c.is_some.result c.get.result _ (sign_names all) c.args.name.now c.is_some.ensures c.get.ensures.value (are.signs c.args.name.now)
