use Rattle.std.proofs.Common.{◌≡◌, List, length, drop, sym, ◌∙◌, ap, subst, arith}
use Rattle.std.specs.Borrow.{Bor}
use Rattle.std.proofs.lemmas.List.{length-map}
use Rattle.grammar_text.specs.Seen.{words_seen}
use Rattle.grammar_text.proofs.HeaderParts.{AreWordsBehind, words_behind, drop_seen}
use Rattle.grammar_text.proofs.reading.words_of.Goals as goal

pub behind-requires : goal.behind-requires
behind-requires c =
    let lines = c.args.text.now.lines.items in
    let b = subst (AreWordsBehind (words_seen lines)) (sym c.requires ∙ c.in-Some.is) (words_behind (words_seen lines)) in
    let same : length (words_seen lines) ≡ length lines = length-map lines (λ word. word.now) in
    let these : length c.deref.result.now ≡ length lines = ap length c.deref.ensures.value in
    let within = b.0 in
    omega arith

pub returns-in-Some : goal.returns-in-Some
returns-in-Some c =
    let lines = c.args.text.now.lines.items in
    let b = subst (AreWordsBehind (words_seen lines)) (sym c.requires ∙ c.in-Some.is) (words_behind (words_seen lines)) in
    ap words_seen (c.behind.ensures ∙ ap (λ (these : List (Bor (List _))). drop c.in-Some.number these) c.deref.ensures.value) ∙ drop_seen c.in-Some.number lines ∙ sym b.1

pub returns-in-None : goal.returns-in-None
returns-in-None c =
    let lines = c.args.text.now.lines.items in
    sym (subst (AreWordsBehind (words_seen lines)) (sym c.requires ∙ c.in-None.is) (words_behind (words_seen lines)))
