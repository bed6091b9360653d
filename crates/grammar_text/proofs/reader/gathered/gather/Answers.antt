use Rattle.std.proofs.Common.{ℕ, List, length, drop, ◌∙◌, ap}
use Rattle.std.specs.Borrow.{Bor}
use Rattle.grammar_text.specs.Collecting.{header_seen}
use Rattle.job_texts.specs.JobLines.{version_of}
use Rattle.grammar_text.specs.Seen.{words_seen}
use Rattle.grammar_text.proofs.HeaderParts.{declared_within, parts_within}
use Rattle.grammar_text.proofs.Gathering.{words_behind_first, text_is}
use Rattle.grammar_text.proofs.reader.gathered.gather.Goals as goal

pub returns-clause-seen : goal.returns-clause-seen
returns-clause-seen c =
    text_is c.args.text.now c.version_of-version.result (words_seen c.in_ok-lines.lines.items) (words_seen c.behind_first.result.now) (header_seen c.in_ok-header.header) c.words_line_of-words_line.result
    c.in_ok-lines.ensures.lines (c.version_of-version.ensures ∙ ap (λ (these : List (Bor (List ℕ))). version_of (words_seen these)) c.deref.ensures.value) (ap words_seen (c.behind_first.ensures ∙ ap (λ (these : List (Bor (List ℕ))). drop 1 these) c.deref-2.ensures.value) ∙ words_behind_first c.in_ok-lines.lines.items) c.in_ok-header.ensures.seen c.words_line_of-words_line.ensures

pub returns-clause-declared : goal.returns-clause-declared
returns-clause-declared c =
    declared_within c.version_of-version.result c.in_ok-header.header.sorts.items c.in_ok-header.header.declared.items c.in_ok-lines.lines.items c.behind_first.result.now
    c.in_ok-header.ensures.says c.in_ok-header.ensures.seen (c.behind_first.ensures ∙ ap (λ (these : List (Bor (List ℕ))). drop 1 these) c.deref-2.ensures.value) (length c.args.text.now) c.in_ok-lines.ensures.few

pub returns-clause-parts : goal.returns-clause-parts
returns-clause-parts c =
    parts_within c.version_of-version.result c.in_ok-header.header.sorts.items c.in_ok-header.header.declared.items c.in_ok-lines.lines.items c.behind_first.result.now
    c.in_ok-header.ensures.says c.in_ok-header.ensures.seen (c.behind_first.ensures ∙ ap (λ (these : List (Bor (List ℕ))). drop 1 these) c.deref-2.ensures.value) c.in_ok-lines.ensures.short

pub returns-clause-says : goal.returns-clause-says
returns-clause-says c = c.in_ok-header.ensures.says

pub returns-clause-few : goal.returns-clause-few
returns-clause-few c = c.in_ok-lines.ensures.few
