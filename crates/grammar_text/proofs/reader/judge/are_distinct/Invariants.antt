use Rattle.std.proofs.Common.{◌≡◌, ℕ, ◌<◌, ◌==◌, ℤ, true, false, length, take, slice_index_or}
use Rattle.std.specs.List.{list_any}
use Rattle.adp_model.specs.WellFormed.{letters_are_distinct}
use Rattle.grammar_text.proofs.reader.judge.are_distinct.Given as goal

abbrev pub invariant-loop-letter : goal.invariant-loop-letter
invariant-loop-letter l = record {
  size : length l.seen ≡ 256;
  seen : (letter : ℕ) → letter < 256 → slice_index_or l.seen letter false ≡ list_any (λ (other : ℕ × ℤ). letter == other.0) (take l.letter-index l.letters);
  distinct : letters_are_distinct (take l.letter-index l.letters) ≡ true;
}
