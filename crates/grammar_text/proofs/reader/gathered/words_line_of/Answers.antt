use Rattle.std.proofs.Common.{rules, ◌≡◌, ℕ, true, false, Some, List, length, map, sym, ◌∙◌, ap, refl}
use Rattle.std.specs.List.{list_any}
use Rattle.std.proofs.lemmas.List.{length-map}
use Rattle.grammar_text.specs.Gathering.{is_words_declaration}
use Rattle.grammar_text.specs.Collecting.{header_seen, is_last}
use Rattle.grammar_text.specs.Seen.{declaration_seen}
use Rattle.grammar_text.specs.declared.reader.declaration.Declaration.{Declaration}
use Rattle.grammar_text.proofs.Weaving.{length-woven}
use Rattle.grammar_text.proofs.Gathering.{words_among}
use Rattle.grammar_text.proofs.reader.gathered.words_line_of.Goals as goal

pub returns-then-has_words : goal.returns-then-has_words
returns-then-has_words c =
    let declared = map declaration_seen c.args.header.now.declared.items in
    let any : list_any is_last (header_seen c.args.header.now) ≡ true =
    words_among c.args.header.now.sorts.items declared (c.requires ∙ sym (length-map c.args.header.now.declared.items declaration_seen)) ∙ ap (λ (these : List Declaration). list_any is_words_declaration (map declaration_seen these)) (sym c.deref.ensures.value) ∙ sym c.has_words.ensures ∙ c.if-has_words.true in
    let count : c.len.result ≡ length c.args.header.now.sorts.items = search rules in
    let long : c.len.result ≡ length (header_seen c.args.header.now) = count ∙ sym (length-woven c.args.header.now.sorts.items declared) in
    rw any (ap (λ (n : ℕ). Some n) long)

pub returns-else-has_words : goal.returns-else-has_words
returns-else-has_words c =
    let declared = map declaration_seen c.args.header.now.declared.items in
    let any : list_any is_last (header_seen c.args.header.now) ≡ false =
    words_among c.args.header.now.sorts.items declared (c.requires ∙ sym (length-map c.args.header.now.declared.items declaration_seen)) ∙ ap (λ (these : List Declaration). list_any is_words_declaration (map declaration_seen these)) (sym c.deref.ensures.value) ∙ sym c.has_words.ensures ∙ c.if-has_words.false in
    rw any refl
