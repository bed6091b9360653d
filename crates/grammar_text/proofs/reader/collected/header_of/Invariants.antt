use Rattle.std.proofs.Common.{◌≡◌, ◌∷◌, ◌++◌, length}
use Rattle.job_texts.specs.Declarations as forms
use Rattle.grammar_text.specs.Collecting.{header_seen, says_in}
use Rattle.grammar_text.proofs.Headings.{heading_from}
use Rattle.grammar_text.proofs.reader.collected.header_of.Given as goal

-- what is seen, and what the lines that are left are
abbrev pub invariant-loop-line : goal.invariant-loop-line
invariant-loop-line l = record {
  says : says_in l.header.sorts.items ≡ length l.header.declared.items;
  seen : header_seen l.header ++ heading_from l.version l.lines l.line-index ≡ forms.Skipped ∷ heading_from l.version l.lines 0;
}
