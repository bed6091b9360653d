-- The plan of an admitted problem.
use Rattle.std.proofs.Common.{◌≡◌, ℕ, ◌≤◌, List, sym, subst}
use Rattle.adp_model.specs.declared.grammar.Grammar.{Grammar}
use Rattle.adp_model.specs.declared.problem.Problem.TheInside.{Inside}
use Rattle.adp_model.specs.ProblemFields.{IsAdmitted}
use Rattle.memo_words.specs.Layout.{Plan, IsBits, IsPlanned}

abbrev pub plan_with : Inside → Grammar → List ℕ → ℕ → ℕ → Plan
plan_with fields grammar word bits seats =
    record {
      problem = record { grammar = grammar; algebra = fields.algebra; word = word };
      cells = fields.cells;
      bits
          = bits;
      seats = seats;
    }

pub is_planned : (fields : Inside) (grammar : Grammar) (word : List ℕ) (bits seats : ℕ) → IsAdmitted fields
    → grammar ≡ fields.grammar.now → word ≡ fields.word.now
    → IsBits fields.cells bits → 1 ≤ seats → seats ≤ 32 → IsPlanned (plan_with fields grammar word bits seats)
is_planned fields grammar word bits seats admitted same_grammar same_word is_bits some few =
    subst (λ (z : Grammar × List ℕ). IsPlanned (plan_with fields z.0 z.1 bits seats)) (λ i. (
      sym same_grammar i,
      sym same_word i,
    )) record {
      well_formed = admitted.checked.well_formed;
      letters = admitted.letters;
      cells = admitted.cells;
      few_cells = admitted.few_cells;
      bits = is_bits;
      some_seats = some;
      few_seats = few;
    }
