use Rattle.std.proofs.Common.{◌≡◌, false, take, drop, length, []}
use Rattle.job_texts.specs.LineTokens.{quoted_rest}
use Rattle.grammar_text.proofs.Letters.{letters_first}
use Rattle.grammar_text.proofs.reader.letters.push_closed.Given as goal

abbrev pub invariant-loop-byte : goal.invariant-loop-byte
invariant-loop-byte l = record {
  kept : take (length l.initial.letters.items) l.letters.items ≡ l.initial.letters.items;
  found : letters_first [] (quoted_rest false l.spelled)
      ≡ letters_first (drop (length l.initial.letters.items) l.letters.items) (quoted_rest l.escaped (drop l.byte-index l.spelled));
}
