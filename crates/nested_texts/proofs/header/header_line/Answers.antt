use Rattle.std.proofs.Common.{sym, ◌∙◌}
use Rattle.nested_texts.proofs.HeaderLines.{words_by_tokens, none_by_tokens, none_found, all_found}
use Rattle.nested_texts.proofs.header.header_line.Goals as goal

pub returns-then-says_words : goal.returns-then-says_words
returns-then-says_words c =
    let line = c.args.line.now in
    let tokens = c.in-Some.tokens.items in
    let found = rw c.in-Some.is at c.in_ok-tokens.ensures.tokens in
    let seen = rw c.deref.ensures.value at c.in_ok-said.ensures in
    let says = sym (rw (c.deref-2.ensures.value, seen) at c.says_words.ensures) ∙ c.if-says_words.true in
    words_by_tokens line tokens found ∙ says

pub returns-then-not-is_nested_rule : goal.returns-then-not-is_nested_rule
returns-then-not-is_nested_rule c =
    let line = c.args.line.now in
    let tokens = c.in-Some.tokens.items in
    let found = rw c.in-Some.is at c.in_ok-tokens.ensures.tokens in
    let seen = rw c.deref.ensures.value at c.in_ok-said.ensures in
    let says = sym (rw (c.deref-2.ensures.value, seen) at c.says_words.ensures) ∙ c.if-says_words.false in
    let rule = sym (rw (c.deref-3.ensures.value, seen) at c.is_nested_rule.ensures) ∙ c.if-not-is_nested_rule.true in
    rw c.new-then-not-is_nested_rule.ensures.items
    (none_found line (words_by_tokens line tokens found ∙ says) (none_by_tokens line tokens found rule))

pub returns : goal.returns
returns c =
    let line = c.args.line.now in
    let tokens = c.in-Some.tokens.items in
    let found = rw c.in-Some.is at c.in_ok-tokens.ensures.tokens in
    let seen = rw c.deref.ensures.value at c.in_ok-said.ensures in
    let says = sym (rw (c.deref-2.ensures.value, seen) at c.says_words.ensures) ∙ c.if-says_words.false in
    let rule = sym (rw (c.deref-3.ensures.value, seen) at c.is_nested_rule.ensures) ∙ c.if-not-is_nested_rule.false in
    all_found line tokens c.in_ok-nested_of.field-0.items found (words_by_tokens line tokens found ∙ says) rule
    (rw c.deref-4.ensures.value at c.in_ok-nested_of.ensures.found) c.in_ok-nested_of.ensures.inside c.in_ok-nested_of.ensures.within
