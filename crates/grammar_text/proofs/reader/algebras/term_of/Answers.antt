use Rattle.std.proofs.Common.{[], ◌&&◌, not, nat_le}
use Rattle.std.specs.List.{list_all}
use Rattle.std.proofs.lemmas.Bool.{and_parts}
use Rattle.adp_model.specs.WellFormed.{is_name, most_leaves}
use Rattle.job_texts.specs.LetTerms.{counted_leaves, has_names, has_numbers, has_variables, names_twice}
use Rattle.grammar_text.specs.Seen.{term_seen, words_seen}
use Rattle.grammar_text.proofs.reader.algebras.term_of.Goals as goal

pub read_let-requires : goal.read_let-requires
read_let-requires c =
    let variables = words_seen c.args.variables.now in
    let term = term_seen c.args.term.now.version c.args.term.now.bytes.now in
    let named = list_all is_name variables in
    let few = nat_le (counted_leaves term) most_leaves in
    let four = and_parts (named && has_names term && has_numbers term && has_variables variables term && few) (not (names_twice term)) (c.requires []) in
    let three = and_parts (named && has_names term && has_numbers term && has_variables variables term) few four.0 in
    let two = and_parts (named && has_names term && has_numbers term) (has_variables variables term) three.0 in
    let one = and_parts (named && has_names term) (has_numbers term) two.0 in
    (and_parts named (has_names term) one.0).0
