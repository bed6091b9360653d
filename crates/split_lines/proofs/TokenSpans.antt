-- Tokens of fixed length, and what they cover.
use Rattle.std.proofs.Common.{◌≡◌, ℕ, min, ◌+◌, ◌-◌, ◌≤◌, List, [], ◌∷◌, length, ap, arith, length-take, length-drop}
use Rattle.adp_model.specs.declared.grammar.Arg.{Arg}
use Rattle.adp_model.specs.declared.grammar.Arg.TheVariants.{Rule, Literal, Letter, Run}
use Rattle.adp_model.specs.PosedProblem.{PosedProblem, IsSpan}
use Rattle.adp_model.specs.Splits.{FitsSpan}
use Rattle.adp_model.specs.Tokens.{letters_between}
use Rattle.viable_splits.specs.Placing.{on_span, Cover}
use Rattle.split_lines.specs.Laid.{IsFixed}
use Rattle.split_lines.specs.Matching.{fixed_length, HaveLetters}

-- the letters of a span are as many as it is long
pub length-letters_between : (word : List ℕ) (from to : ℕ) → IsSpan word from to → length (letters_between word from to) ≡ to - from
length-letters_between word from to span =
    simp (length-take, length-drop) (omega (arith, span.in_order, span.in_word))

-- a token of fixed length has its letters wherever it matches
pub fixed_span : (p : PosedProblem) (token : Arg) (from cut : ℕ) → IsFixed token → FitsSpan p (on_span token from cut) → cut ≡ from + fixed_length token
fixed_span p (Rule rule) from cut fixed fits = absurd fixed
fixed_span p (Literal text) from cut fixed fits =
    let long = length-letters_between p.word from cut fits.0 in
    omega (arith, long, ap length fits.1, fits.0.in_order)
fixed_span p (Letter class) from cut fixed fits =
    let long = length-letters_between p.word from cut fits.0 in
    omega (arith, long, fits.1.0, fits.0.in_order)
fixed_span p (Run class low high) from cut fixed fits = absurd fixed

-- what arguments cover ends within the word
pub cover_within : (p : PosedProblem) (arguments : List Arg) (from to : ℕ) → from ≤ length p.word → Cover p arguments from to → to ≤ length p.word
cover_within p [] from to l h = omega arith
cover_within p (argument ∷ arguments) from to l h = cover_within p arguments h.0 to h.1.0.in_word h.2

-- one more token before others
pub more_letters : (p : PosedProblem) (token : Arg) (later : List Arg) (first rest all : ℕ) → length p.word ≤ 4000 → IsFixed token → HaveLetters p later rest → first ≡ min (fixed_length token) 4001 → all ≡ min 4001 (first + rest) → HaveLetters p (token ∷ later) all
more_letters p token later first rest all short fixed others first_is all_is from to h =
    let one = fixed_span p token from h.0 fixed h.1 in
    let two = others h.0 to h.2 in
    let within = cover_within p later h.0 to h.1.0.in_word h.2 in
    omega (arith, one, two, within, short)
