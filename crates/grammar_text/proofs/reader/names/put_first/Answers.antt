use Rattle.std.proofs.Common.{sym, ◌∙◌}
use Rattle.std.proofs.lemmas.Map.Text.{btree_map_updates_str}
use Rattle.grammar_text.specs.Names.{number_in}
use Rattle.grammar_text.proofs.Firsts.{put_new, put_back}
use Rattle.grammar_text.proofs.reader.names.put_first.Goals as goal

pub returns-in-None : goal.returns-in-None
returns-in-None c =
    put_new c.args.name.now c.args.number (number_in c.args.numbers.now) (number_in c.insert.new.self)
    (sym c.in_ok-before.ensures.old ∙ c.in-None.is)
    (btree_map_updates_str c.args.name.now c.args.numbers.now c.insert.new.self _ c.in_ok-before.ensures.updates)

pub returns-in_ok-insert-in-Some : goal.returns-in_ok-insert-in-Some
returns-in_ok-insert-in-Some c =
    put_back c.args.name.now c.args.number c.in-Some.before (number_in c.args.numbers.now) (number_in c.insert.new.self) (number_in c.insert-in-Some.new.self)
    (sym c.in_ok-before.ensures.old ∙ c.in-Some.is)
    (btree_map_updates_str c.args.name.now c.args.numbers.now c.insert.new.self _ c.in_ok-before.ensures.updates)
    (btree_map_updates_str c.args.name.now c.insert.new.self c.insert-in-Some.new.self _ c.in_ok-insert-in-Some.ensures.updates)
