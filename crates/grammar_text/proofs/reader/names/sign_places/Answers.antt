use Rattle.std.proofs.Common.{map, take}
use Rattle.grammar_text.specs.Names.{gives_kinds}
use Rattle.grammar_text.specs.Seen.{declaration_seen}
use Rattle.grammar_text.proofs.Firsts.{seen_more, seen_so_far, first_more, gives_by_name}
use Rattle.grammar_text.proofs.reader.names.sign_places.Goals as goal

pub loop-i-preserved : goal.loop-i-preserved
loop-i-preserved c =
    let i = c.loop-i.i in
    let item = c.index-declared-i.result in
    let name = c.in-Some.name.now in
    let front = map declaration_seen (take i c.args.declared.now) in
    rw (seen_more declaration_seen c.args.declared.now i item c.loop-i-test.true c.index-declared-i.is)
    (first_more gives_kinds c.loop-i.places c.put_first.new.numbers front (declaration_seen item) name i c.loop-i.invariant (gives_by_name (declaration_seen item) name c.in-Some.ensures)
    (seen_so_far declaration_seen c.args.declared.now i c.loop-i-test.true) c.in_ok-put_first.ensures)
