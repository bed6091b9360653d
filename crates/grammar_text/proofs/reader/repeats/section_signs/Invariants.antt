use Rattle.std.proofs.Common.{◌≡◌, ℕ, ◌||◌, List, map, drop}
use Rattle.std.specs.Ordering.{nat_cmp}
use Rattle.std.specs.Cmp.Lexicographic.{slice_cmp}
use Rattle.std.specs.BTreeSet.{contains_by}
use Rattle.job_texts.specs.TermText.{is_among}
use Rattle.job_texts.specs.DeclaredNames.{let_signs, section_of}
use Rattle.grammar_text.specs.Seen.{declaration_seen}
use Rattle.grammar_text.proofs.reader.repeats.section_signs.Given as goal

abbrev pub invariant-loop-declaration : goal.invariant-loop-declaration
invariant-loop-declaration l =
    (text : List ℕ) →
    is_among (let_signs (section_of (map declaration_seen l.below))) text
    ≡ (contains_by (λ member. slice_cmp nat_cmp text member.now) l.signs
    || is_among (let_signs (section_of (map declaration_seen (drop l.declaration-index l.below)))) text)
