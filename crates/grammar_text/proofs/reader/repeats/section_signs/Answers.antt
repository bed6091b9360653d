use Rattle.std.proofs.Common.{◌≡◌, ℕ, ◌+◌, ◌||◌, Bool, false, nat_eq, Some, List, map, drop, sym, ◌∙◌, ap}
use Rattle.std.specs.Ordering.{nat_cmp}
use Rattle.std.specs.Cmp.Lexicographic.{slice_cmp}
use Rattle.std.specs.BTreeSet.{contains_by}
use lib.Pointwise.{pointwise}
use Rattle.job_texts.specs.TermText.{is_among}
use Rattle.job_texts.specs.DeclaredNames.{is_algebra_line, let_sign_of, let_signs, section_of}
use Rattle.grammar_text.specs.Seen.{declaration_seen}
use Rattle.grammar_text.proofs.Scans.{at_hand}
use Rattle.grammar_text.proofs.SectionPlaces.{let_first, other_first, or_moves}
use Rattle.grammar_text.proofs.SeenSigns.{is_no_algebra, is_no_let}
use Rattle.grammar_text.proofs.Members.{put_in}
use Rattle.grammar_text.proofs.reader.repeats.section_signs.Goals as goal
use Rattle.grammar_text.proofs.reader.repeats.section_signs.Goals.{in-Let+in_ok-insert-in-Let, in_default}

pub loop-declaration-preserved : goal.loop-declaration-preserved
loop-declaration-preserved c =
    let i = c.loop-declaration.declaration-index in
    let below = c.args.below.now in
    let item = c.declaration-item.result in
    let rest = map declaration_seen (drop (i + 1) below) in
    let hand = at_hand below i item c.loop-declaration-test.true c.declaration-item.is in
    let had : List ℕ → Bool = λ text. contains_by (λ member. slice_cmp nat_cmp text member.now) c.loop-declaration.signs in
    elim c.match-declaration.branch [
      | in-Let+in_ok-insert-in-Let w ↦ λ text.
          let sign = w.in-Let.sign.now in
          let others = is_among (let_signs (section_of rest)) text in
          let plain : is_algebra_line (declaration_seen item) ≡ false = ap (λ d. is_algebra_line (declaration_seen d)) w.in-Let.is in
          let own : let_sign_of (declaration_seen item) ≡ Some sign = ap (λ d. let_sign_of (declaration_seen d)) w.in-Let.is in
          rw w.signs-is
          (c.loop-declaration.invariant text
          ∙ ap (λ left. had text || is_among (let_signs (section_of (map declaration_seen left))) text) hand
          ∙ ap (λ among. had text || among) (let_first (declaration_seen item) rest sign text plain own)
          ∙ or_moves (had text) (pointwise nat_eq sign text) others
          ∙ ap (λ has. has || others) (sym (put_in sign c.loop-declaration.signs w.insert.new.self w.in_ok-insert-in-Let.ensures.updates text)))
      | in_default w ↦ λ text.
          rw w.signs-is
          (c.loop-declaration.invariant text
          ∙ ap (λ left. had text || is_among (let_signs (section_of (map declaration_seen left))) text) hand
          ∙ ap (λ among. had text || among) (other_first (declaration_seen item) rest text (is_no_algebra item w.in_default.not-Algebra) (is_no_let item w.in_default.not-Let)))
    ]
