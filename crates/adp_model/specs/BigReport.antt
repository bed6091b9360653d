-- The word that is made from a seed and a size, the grammar that it is asked under, and what is reported of it.
use Rattle.std.specs.Prelude.{None, ◌≡◌, ℕ, zero, suc, ◌+◌, ◌*◌, ◌/◌, ◌%◌, ◌^◌, ℤ, pos, List, [], ◌∷◌, ◌++◌, codes, get_or}
use Rattle.std.specs.Fmt.{decimal, signed_decimal}
use Rattle.adp_model.specs.declared.grammar.Alt.{Alt}
use Rattle.adp_model.specs.declared.grammar.Arg.TheVariants.{Rule, Literal, Letter}
use Rattle.adp_model.specs.declared.grammar.Goal.TheVariants.{Greatest}
use Rattle.adp_model.specs.declared.grammar.Grammar.{Grammar}
use Rattle.adp_model.specs.declared.grammar.Kind.TheVariants.{Score, Token}
use Rattle.adp_model.specs.declared.grammar.Term.TheVariants.{Linear}
use Rattle.adp_model.specs.PosedProblem.{PosedProblem, axiom_cell}
use Rattle.adp_model.specs.Tree.{Tree}
use Rattle.adp_model.specs.Scores.{score_of}
use Rattle.adp_model.specs.Preference.{IsPreferred}
use Rattle.adp_model.specs.Demand.{IsDemandedCount}
use Rattle.adp_model.specs.Report.{line}

-- the states of a generator, each from the one before
abbrev pub next_state : ℕ → ℕ
next_state state = (state * 6364136223846793005 + 1442695040888963407) % 2 ^ 64

-- the letter of a state: p, q, r or s by its two highest bits
abbrev pub letter_of : ℕ → ℕ
letter_of state = get_or (codes "pqrs") (state / 2 ^ 62) 0

-- the word of a seed and a size: so many letters, those of the states behind the seed
abbrev pub made_word : ℕ → ℕ → List ℕ
made_word state zero = []
made_word state (suc size) = letter_of (next_state state) ∷ made_word (next_state state) size

-- an alternative with a pair: a letter, the rule, another letter, the rule
abbrev pub paired : List ℕ → List ℕ → Alt
paired first last = record { sign = 2; args = Literal first ∷ Rule 0 ∷ Literal last ∷ Rule 0 ∷ []; size = None }

-- the grammar of pairs along a line, p with q and r with s, as many as there can be:
--     class any = "pqrs" 0
--     sign nil(token)
--     sign skip(token, score)
--     sign pair(token, score, token, score)
--     algebra pairs max
--     let nil(x1) = 0
--     let skip(x1, x2) = 0 + 1*x2
--     let pair(x1, x2, x3, x4) = 1 + 1*x2 + 1*x4
--     rule s = nil("") | skip([any], s) | pair("p", s, "q", s) | pair("r", s, "s", s)
--     grammar s
abbrev pub pairs_grammar : Grammar
pairs_grammar = record {
  classes = record {
    name = codes "any";
    letters = (112, pos 0) ∷ (113, pos 0) ∷ (114, pos 0) ∷ (115, pos 0) ∷ [];
  } ∷ [];
  signs = record { name = codes "nil"; kinds = Token ∷ [] }
      ∷ record { name = codes "skip"; kinds = Token ∷ Score ∷ [] }
      ∷ record { name = codes "pair"; kinds = Token ∷ Score ∷ Token ∷ Score ∷ [] } ∷ [];
  algebras = record {
    name = codes "pairs";
    goal = Greatest;
    terms = Linear (record { constant = pos 0; factors = pos 0 ∷ [] })
        ∷ Linear (record { constant = pos 0; factors = pos 0 ∷ pos 1 ∷ [] })
        ∷ Linear (record { constant = pos 1; factors = pos 0 ∷ pos 1 ∷ pos 0 ∷ pos 1 ∷ [] }) ∷ [];
  } ∷ [];
  rules = record {
    name = codes "s";
    alts = record { sign = 0; args = Literal [] ∷ []; size = None }
        ∷ record { sign = 1; args = Letter 0 ∷ Rule 0 ∷ []; size = None }
        ∷ paired (codes "p") (codes "q")
        ∷ paired (codes "r") (codes "s") ∷ [];
  } ∷ [];
  «axiom» = 0;
}

-- what is asked of the word
abbrev pub made_problem : ℕ → ℕ → PosedProblem
made_problem seed size = record { grammar = pairs_grammar; algebra = 0; word = made_word seed size }

-- the lines of a report: the size of the word, its best score, and the number of demanded cells
abbrev pub big_lines : ℕ → ℤ → ℕ → List ℕ
big_lines size score cells =
    line (codes "size " ++ decimal size) ++ line (codes "score " ++ signed_decimal score)
    ++ line (codes "cells " ++ decimal cells)

-- the report of the word of this seed and this size
abbrev pub IsBigReport : ℕ → ℕ → List ℕ → Type 0
IsBigReport seed size report =
    (tree : Tree) × (cells : ℕ) × IsPreferred (made_problem seed size) (axiom_cell (made_problem seed size)) tree
    × IsDemandedCount (made_problem seed size) cells
    × (report ≡ big_lines size (score_of (made_problem seed size) tree) cells)
