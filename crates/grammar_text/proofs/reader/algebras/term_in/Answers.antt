use Rattle.grammar_text.specs.Building.{is_buildable}
use Rattle.grammar_text.specs.Seen.{declaration_seen}
use Rattle.grammar_text.proofs.Built.{all_at}
use Rattle.grammar_text.proofs.reader.algebras.term_in.Goals as goal

pub term_given-requires : goal.term_given-requires
term_given-requires c = all_at is_buildable declaration_seen c.args.section.now c.loop-declaration.declaration-index c.declaration-item.result c.requires c.loop-declaration-test.true c.declaration-item.is
