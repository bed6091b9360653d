-- Lists of matches under their numbers, as they grow.
use Rattle.std.proofs.Common.{◌≡◌, ℕ, ◌+◌, ◌<◌, List, [], ◌∷◌, ◌++◌, length, get_or, sym, ap, subst, ◌∙◌, arith}
use Rattle.std.proofs.lemmas.List.{get_or_default, get_or_push, length_push}
use Rattle.adp_model.specs.declared.grammar.Arg.{Arg}
use Rattle.adp_model.specs.PosedProblem.{PosedProblem}
use Rattle.split_lines.specs.declared.found.Found.{Found}
use Rattle.split_lines.specs.declared.kept_rules.Middle.{Middle}
use Rattle.split_lines.specs.declared.matches.Matches.{Matches}
use Rattle.split_lines.specs.Found.{AreFound, AreFoundIn, IsListOf}
use Rattle.split_lines.specs.KeptRules.{HasAllOf, IsNumberOf}
use Rattle.split_lines.specs.Matching.{AreMatches}
use Rattle.split_lines.proofs.Growing.{each_more}

-- the last list
pub list_of_last : (p : PosedProblem) (lists : List Matches) (tokens : List Arg) (number : ℕ) (matches : Matches) → number ≡ length lists → AreMatches p tokens matches → IsListOf p (lists ++ matches ∷ []) tokens number
list_of_last p lists tokens number matches last are = record {
  within = omega (arith, last, length_push lists matches);
  are = λ d. subst (AreMatches p tokens) (sym (get_or_push lists matches d number (sym last))) are;
}

-- a list that there was
pub list_still : (p : PosedProblem) (old new : List Matches) (tokens : List Arg) (number : ℕ) → HasAllOf old new → IsListOf p old tokens number → IsListOf p new tokens number
list_still p old new tokens number longer is = record {
  within = longer.longer number is.within;
  are = λ d. subst (AreMatches p tokens) (sym (longer.same number d is.within)) (is.are d);
}

-- one more middle has its list
pub found_more : (p : PosedProblem) (middles : List Middle) (count : ℕ) (old new : List Matches) (numbers : List ℕ) (number : ℕ) (middle : Middle) → HasAllOf old new → AreFoundIn p middles count old numbers → ((d : Middle) → get_or middles count d ≡ middle) → IsListOf p new middle.tokens.now number → AreFoundIn p middles (count + 1) new (numbers ++ number ∷ [])
found_more p middles count old new numbers number middle longer found here now = record {
  each = length_push numbers number ∙ ap (λ n. n + 1) found.each;
  are = λ k d l. each_more (λ k number. (d : Middle) → IsListOf p new (get_or middles k d).tokens.now number) numbers count number found.each
      (λ k e l d. list_still p old new (get_or middles k d).tokens.now (get_or numbers k e) longer (at k e l d))
      (λ d. subst (λ (it : Middle). IsListOf p new it.tokens.now number) (sym (here d)) now) k 0 l d;
}
  where
    at : (k e : ℕ) → k < count → (d : Middle) → IsListOf p old (get_or middles k d).tokens.now (get_or numbers k e)
    at k e l d = subst (IsListOf p old (get_or middles k d).tokens.now) (get_or_default numbers k 0 e (omega (arith, l, found.each))) (found.are k d l)

one_of : (middles : List Middle) (number : ℕ) → number < length middles → Middle
one_of [] number l = absurd (omega (arith, l))
one_of (middle ∷ middles) number l = middle

-- the list of a middle by its number
pub list_at : (p : PosedProblem) (middles : List Middle) (found : Found) (tokens : List Arg) (number : ℕ) → AreFound p middles (length middles) found → IsNumberOf middles tokens number → IsListOf p found.lists.items tokens (get_or found.numbers.items number 0)
list_at p middles found tokens number are is =
    let d = one_of middles number is.within in
    subst (λ tokens. IsListOf p found.lists.items tokens (get_or found.numbers.items number 0)) (is.tokens_are d) (are.are number d is.within)
