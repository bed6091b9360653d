-- Lines that were added to others.
use Rattle.std.proofs.Common.{◌≡◌, ℕ, List, [], ◌∷◌, ◌++◌, refl, sym, ap, ◌∙◌, append_assoc}
use Rattle.nested_texts.specs.declared.output.Lines.{Lines}
use Rattle.nested_texts.specs.PlainTexts.{PlainLine}
use Rattle.nested_texts.specs.Seen.{ended, origins_of, text_of, AddsLines}

pub text_append : (first second : List PlainLine) → text_of (first ++ second) ≡ text_of first ++ text_of second
text_append [] second = refl
text_append (line ∷ first) second =
    ap (λ (others : List ℕ). ended line.bytes ++ others) (text_append first second)
    ∙ sym (append_assoc (ended line.bytes) (text_of first) (text_of second))

pub origins_append : (first second : List PlainLine) → origins_of (first ++ second) ≡ origins_of first ++ origins_of second
origins_append [] second = refl
origins_append (line ∷ first) second = ap (λ (others : List ℕ). line.origin ∷ others) (origins_append first second)

pub text_more : (before after : Lines) (lines others : List PlainLine) (all : List ℕ) → AddsLines before after lines
    → before.text.items ++ text_of (lines ++ others) ≡ all → after.text.items ++ text_of others ≡ all
text_more before after lines others all adds seen =
    rw adds.text
    (append_assoc before.text.items (text_of lines) (text_of others)
    ∙ ap (λ (rest : List ℕ). before.text.items ++ rest) (sym (text_append lines others)) ∙ seen)

pub origins_more : (before after : Lines) (lines others : List PlainLine) (all : List ℕ) → AddsLines before after lines
    → before.origins.items ++ origins_of (lines ++ others) ≡ all → after.origins.items ++ origins_of others ≡ all
origins_more before after lines others all adds seen =
    rw adds.origins
    (append_assoc before.origins.items (origins_of lines) (origins_of others)
    ∙ ap (λ (rest : List ℕ). before.origins.items ++ rest) (sym (origins_append lines others)) ∙ seen)
