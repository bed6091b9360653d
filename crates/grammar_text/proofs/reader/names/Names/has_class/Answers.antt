use Rattle.job_texts.specs.DeclaredNames.{class_names}
use Rattle.grammar_text.proofs.Firsts.{known}
use Rattle.grammar_text.proofs.reader.names.Names.has_class.Goals as goal

pub returns : goal.returns
returns c = λ all are. known c.is_some.result c.get.result _ (class_names all) c.args.name.now c.is_some.ensures c.get.ensures.value (are.classes c.args.name.now)
