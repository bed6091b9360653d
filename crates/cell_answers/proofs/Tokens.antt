-- Tokens of fixed length, and what they cover.
use Rattle.std.proofs.Common.{◌≡◌, ℕ, ◌+◌, ◌-◌, List, length, ap, arith, length-take, length-drop}
use Rattle.adp_model.specs.declared.grammar.Arg.{Arg}
use Rattle.adp_model.specs.declared.grammar.Arg.TheVariants.{Rule, Literal, Letter, Run}
use Rattle.adp_model.specs.PosedProblem.{PosedProblem, IsSpan}
use Rattle.adp_model.specs.Splits.{FitsSpan}
use Rattle.adp_model.specs.Tokens.{letters_between}
use Rattle.viable_splits.specs.Placing.{on_span}
use Rattle.split_lines.specs.Laid.{IsFixed}
use Rattle.split_lines.specs.Matching.{fixed_length}

-- the letters of a span are as many as it is long
pub length-letters_between : (word : List ℕ) (from to : ℕ) → IsSpan word from to → length (letters_between word from to) ≡ to - from
length-letters_between word from to span =
    simp (length-take, length-drop) (omega (arith, span.in_order, span.in_word))

-- a token of fixed length has its letters wherever it matches
pub fixed_span : (p : PosedProblem) (token : Arg) (from cut : ℕ) → IsFixed token → FitsSpan p (on_span token from cut) → cut ≡ from + fixed_length token
fixed_span p (Rule rule) from cut fixed fits = absurd fixed
fixed_span p (Literal text) from cut fixed fits =
    let long = length-letters_between p.word from cut fits.0 in
    omega (arith, long, ap length fits.1, fits.0.in_order)
fixed_span p (Letter class) from cut fixed fits =
    let long = length-letters_between p.word from cut fits.0 in
    omega (arith, long, fits.1.0, fits.0.in_order)
fixed_span p (Run class low high) from cut fixed fits = absurd fixed
