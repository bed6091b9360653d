use Rattle.std.proofs.Common.{List, map, get_or, refl, ap, sym, ◌∙◌}
use Rattle.std.proofs.lemmas.List.{length-map}
use Rattle.grammar_text.specs.Gathering.{text_seen}
use Rattle.grammar_text.specs.LineKinds.{is_shapeless_sort}
use Rattle.grammar_text.specs.declared.reader.collected.LineSort.{LineSort}
use Rattle.grammar_text.specs.declared.reader.collected.LineSort.TheVariants.{Skipped}
use Rattle.grammar_text.specs.Seen.{declaration_seen}
use Rattle.grammar_text.proofs.Placing.{shapeless_is}
use Rattle.grammar_text.proofs.reader.line_tests.is_shapeless.Goals as goal

pub returns : goal.returns
returns c =
    let is = shapeless_is (text_seen c.args.text.now) c.args.index c.args.text.now.header.sorts.items (map declaration_seen c.args.text.now.header.declared.items) (c.requires ∙ sym (length-map c.args.text.now.header.declared.items declaration_seen)) refl in
    c.is_shapeless_sort.ensures ∙ ap is_shapeless_sort (c.sort_at.ensures ∙ ap (λ (these : List LineSort). get_or these c.args.index Skipped) c.deref.ensures.value) ∙ sym is
