use Rattle.std.proofs.Common.{◌≡◌, ℕ, ℤ, ◌+◌, ◌<◌, List, [], ◌∷◌, ◌++◌, length, map, take, get_or, append_assoc, arith}
use Rattle.std.proofs.lemmas.List.{take_more, map_push}
use Rattle.grammar_text.proofs.reader.letters.push_weighed.Goals as goal

weighed_more : (front class new : List (ℕ × ℤ)) (letters : List ℕ) (i : ℕ) (weight : ℤ) → i < length letters
    → class ≡ front ++ map (λ letter. (letter, weight)) (take i letters)
    → new ≡ class ++ (get_or letters i 0, weight) ∷ []
    → new ≡ front ++ map (λ letter. (letter, weight)) (take (i + 1) letters)
weighed_more front class new letters i weight inside class_is new_is =
    rw (new_is, class_is, take_more letters i 0 inside, map_push, append_assoc)

pub loop-letter-preserved : goal.loop-letter-preserved
loop-letter-preserved c =
    weighed_more _ c.loop-letter.class.items _ c.args.letters.now c.loop-letter.letter-index _ (omega arith) c.loop-letter.invariant c.in_ok-push.ensures.items
