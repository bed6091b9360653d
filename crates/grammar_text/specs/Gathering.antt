-- A text as the reader gathers it, seen as its lines.
use Rattle.std.specs.Prelude.{ℕ, Bool, true, false, Option, Some, None, List, length, if◌then◌else◌}
use Rattle.std.specs.List.{list_any}
use Rattle.job_texts.specs.JobLines.{words_of}
use Rattle.job_texts.specs.Declarations.{Declaration, Words, HeaderLine}
use Rattle.job_texts.specs.DeclaredNames.{TextLines}
use Rattle.grammar_text.specs.declared.reader.gathered.Gathered.{Gathered}
use Rattle.grammar_text.specs.Seen.{words_seen}
use Rattle.grammar_text.specs.Collecting.{header_seen, is_last}

-- the declaration is the `words` line's
abbrev pub is_words_declaration : Declaration → Bool
is_words_declaration Words = true
is_words_declaration declaration = false

-- the number of the last of these lines, where the `words` line is among them
abbrev pub words_line_in : List HeaderLine → Option ℕ
words_line_in header = if list_any is_last header then Some (length header) else None

abbrev pub text_seen : Gathered → TextLines
text_seen text = record {
  version = text.version;
  lines = words_seen text.lines.items;
  header = header_seen text.header;
  words_line = text.words_line;
  words = words_of (words_seen text.lines.items);
}
