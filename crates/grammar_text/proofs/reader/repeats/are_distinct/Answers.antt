use Rattle.std.proofs.Common.{◌≡◌, ℕ, ◌+◌, true, false, List, [], ◌∷◌, ◌++◌, take, drop, get_or, sym, ◌∙◌, ap, subst}
use Rattle.std.specs.Borrow.{Bor}
use Rattle.std.proofs.lemmas.List.{map-append, take-append-drop, drop_more}
use Rattle.job_texts.specs.TermText.{is_among}
use Rattle.adp_model.specs.WellFormed.{are_distinct}
use Rattle.grammar_text.specs.Seen.{words_seen}
use Rattle.grammar_text.specs.Names.{AreMembers}
use Rattle.grammar_text.proofs.Firsts.{seen_more_at}
use Rattle.grammar_text.proofs.SectionPlaces.{stands_twice}
use Rattle.grammar_text.proofs.Members.{members_more}
use Rattle.grammar_text.proofs.Sorts.{distinct_more}
use Rattle.grammar_text.proofs.reader.repeats.are_distinct.Goals as goal

pub returns-then-contains : goal.returns-then-contains
returns-then-contains c =
    let i = c.loop-text.text-index in
    let texts = c.args.texts.now in
    let item = get_or texts i (record { ref_ptr = (0, 0); now = [] }) in
    let front = words_seen (take i texts) in
    let among : is_among front item.now ≡ true = sym (c.loop-text.invariant.members item.now) ∙ sym c.contains.ensures ∙ c.if-contains.true in
    let whole : words_seen texts ≡ front ++ item.now ∷ words_seen (drop (i + 1) texts) =
    ap words_seen (sym (take-append-drop i texts)) ∙ map-append (λ (word : Bor (List ℕ)). word.now) (take i texts) (drop i texts)
    ∙ ap (λ others. front ++ words_seen others) (drop_more texts i (record { ref_ptr = (0, 0); now = [] }) c.loop-text-test.true) in
    sym (ap are_distinct whole ∙ stands_twice front item.now (words_seen (drop (i + 1) texts)) among)

pub loop-text-preserved : goal.loop-text-preserved
loop-text-preserved c =
    let i = c.loop-text.text-index in
    let texts = c.args.texts.now in
    let item = get_or texts i (record { ref_ptr = (0, 0); now = [] }) in
    let front = words_seen (take i texts) in
    let alone : is_among front item.now ≡ false = sym (c.loop-text.invariant.members item.now) ∙ sym c.contains.ensures ∙ c.if-contains.false in
    let more : words_seen (take (i + 1) texts) ≡ front ++ item.now ∷ [] = seen_more_at (λ word. word.now) texts i (record { ref_ptr = (0, 0); now = [] }) c.loop-text-test.true in
    record {
      distinct = rw more (distinct_more front item.now c.loop-text.invariant.distinct alone);
      members = subst (λ all. AreMembers c.insert.new.self all) (sym more) (members_more item.now c.loop-text.seen c.insert.new.self front c.in_ok-insert.ensures.updates c.loop-text.invariant.members);
    }
