-- The arguments of an alternative on a cell, as its term takes their values.
use Rattle.std.proofs.Common.{◌≡◌, ℕ, ◌+◌, ◌-◌, ◌<◌, ◌≤◌, ℤ, List, [], length, sym, subst, arith}
use Rattle.std.specs.List.{AllByRecursion}
use Rattle.adp_model.specs.declared.grammar.Arg.{Arg}
use Rattle.adp_model.specs.declared.grammar.Term.{Term}
use Rattle.adp_model.specs.declared.cell.Cell.{Cell}
use Rattle.adp_model.specs.PosedProblem.{PosedProblem, IsSpan}
use Rattle.adp_model.specs.Lengths.{AllowsLength}
use Rattle.adp_model.specs.Parts.{alternative_at, alternatives_of, arguments_of, term_of}
use Rattle.adp_model.specs.WellFormed.{IsKnown}
use Rattle.adp_model.specs.ProblemFields.{IsAdmissible}
use Rattle.adp_model.specs.Demand.{IsDemandedChild}
use Rattle.term_values.specs.Values.{HasValues}
use Rattle.cell_tables.specs.Tables.{Table}
use Rattle.cell_answers.specs.Entries.{HasEntry}
use Rattle.cell_answers.proofs.Alternatives.{TokensKeepBound, tokens_low}
use Rattle.cell_answers.proofs.Bounding.{AreTermLaws, magnitude_low, magnitude_within}
use Rattle.cell_answers.proofs.Splitting.{child_of_demands}
use Rattle.cell_answers.proofs.TermScores.{AreTermLaid}

module _ (laws : AreTermLaws) (p : PosedProblem) (admissible : IsAdmissible p) (bounded : TokensKeepBound p) (cell : Cell) (alternative : ℕ)
    (span : IsSpan p.word cell.from cell.to) (in_rules : cell.rule < length p.grammar.rules)
    (in_range : alternative < length (alternatives_of p.grammar cell.rule))
    (allowed : AllowsLength (alternative_at p.grammar cell.rule alternative) (cell.to - cell.from)) where
  abbrev arguments : List Arg
  arguments = arguments_of p.grammar cell.rule alternative

  pub term_laid : (table : Table ℤ) → AllByRecursion (IsKnown p.grammar) arguments → length arguments ≤ 4
      → HasValues (length arguments) (term_of p cell.rule alternative)
      → ((child : Cell) → IsDemandedChild p cell child → HasEntry table child)
      → (given : List Arg) → given ≡ arguments → (term : Term) → term ≡ term_of p cell.rule alternative → AreTermLaid p table term [] given cell.from cell.to
  term_laid table known few there scored given given_is term term_is =
      let counted : length arguments ≡ 0 + length arguments = omega arith in
      let all : AreTermLaid p table (term_of p cell.rule alternative) [] arguments cell.from cell.to = record {
        are = record {
          known = known;
          few = omega (arith, few);
          there = subst (λ n. HasValues n (term_of p cell.rule alternative)) counted there;
          tokens_low = tokens_low p admissible bounded cell.rule alternative;
          low = λ values have. magnitude_low laws p admissible cell alternative values span in_rules in_range have;
          bounded = λ number values scores have. magnitude_within laws p cell alternative values number scores span in_rules in_range have;
        };
        span = span;
        scored = λ child demands. scored child (child_of_demands p cell alternative child in_range allowed few demands);
      } in
      subst (λ given. AreTermLaid p table term [] given cell.from cell.to) (sym given_is)
      (subst (λ term. AreTermLaid p table term [] arguments cell.from cell.to) (sym term_is) all)
