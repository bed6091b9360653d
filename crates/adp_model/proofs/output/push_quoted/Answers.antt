use Rattle.std.proofs.Common.{◌≡◌, ℕ, ◌+◌, ◌<◌, List, [], ◌∷◌, ◌++◌, take, length, get_or, ap, sym, ◌∙◌, append_assoc}
use Rattle.std.proofs.lemmas.List.{take_more, take_all, flat_map_more}
use Rattle.std.specs.List.{flat_map}
use Rattle.adp_model.specs.Ascii.{quote}
use Rattle.adp_model.specs.TreeText.{escaped}
use Rattle.adp_model.proofs.output.push_quoted.Goals as goal

-- one letter more is escaped
more : (before letters : List ℕ) (i : ℕ) (grown after : List ℕ) → i < length letters
    → grown ≡ before ++ flat_map escaped (take i letters) → after ≡ grown ++ escaped (get_or letters i 0)
    → after ≡ before ++ flat_map escaped (take (i + 1) letters)
more before letters i grown after within is more_is =
    more_is ∙ ap (λ xs. xs ++ escaped (get_or letters i 0)) is
    ∙ flat_map_more escaped before (take i letters) (get_or letters i 0)
    ∙ ap (λ xs. before ++ flat_map escaped xs) (sym (take_more letters i 0 within))

-- the quotes around what was escaped
between : (before middle opened grown after : List ℕ)
    → opened ≡ before ++ quote ∷ [] → grown ≡ opened ++ middle → after ≡ grown ++ quote ∷ []
    → after ≡ before ++ (quote ∷ (middle ++ quote ∷ []))
between before middle opened grown after o g a =
    a ∙ ap (λ xs. xs ++ quote ∷ []) (g ∙ ap (λ xs. xs ++ middle) o)
    ∙ append_assoc (before ++ quote ∷ []) middle (quote ∷ []) ∙ append_assoc before (quote ∷ []) (middle ++ quote ∷ [])

pub loop-letter-preserved : goal.loop-letter-preserved
loop-letter-preserved c =
    more c.push.new.self.items c.args.letters.now c.loop-letter.letter-index c.loop-letter.out.items _
    c.loop-letter-test.true c.loop-letter.invariant c.in_ok-push_escaped.ensures.appended

pub returns-clause-appended : goal.returns-clause-appended
returns-clause-appended c =
    let all : take c.loop-letter.letter-index c.args.letters.now ≡ c.args.letters.now =
    take_all c.loop-letter.letter-index c.args.letters.now c.loop-letter-test.false in
    between c.args.out.now.items _ c.push.new.self.items c.loop-letter.out.items _ c.in_ok-push.ensures.items
    (c.loop-letter.invariant ∙ ap (λ xs. c.push.new.self.items ++ flat_map escaped xs) all) c.in_ok-push-2.ensures.items
