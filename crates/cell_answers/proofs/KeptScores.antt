-- Entries of scores: what they tell, and that they stay when another one is kept.
use Rattle.std.proofs.Common.{◌≡◌, ◌⊎◌, ◌<◌, ◌^◌, Bool, MatchOption, ℤ, nat_abs, Option, Some, None, refl, sym, ap, subst, inl, inr, ◌∙◌, arith, if◌then◌else◌}
use Rattle.std.specs.Prelude.{unwrap_or}
use Rattle.std.specs.Ordering.{int_eq}
use Rattle.std.proofs.lemmas.Bool.{cases_Bool, cases_eq}
use Rattle.std.proofs.lemmas.Bool.Decides.{Decides-int_eq}
use Rattle.adp_model.specs.declared.cell.Cell.{Cell}
use Rattle.adp_model.specs.declared.cell.Answer.TheVariants.{NoCandidate}
use Rattle.adp_model.specs.PosedProblem.{PosedProblem}
use Rattle.adp_model.specs.Answers.{IsAnswer}
use Rattle.adp_model.specs.Bellman.{HasBestScore}
use Rattle.cell_tables.specs.Spans.{Spans, IsWritten}
use Rattle.cell_tables.specs.Tables.{Table}
use Rattle.cell_answers.specs.Entries.{HasEntry, IsEntry}
use Rattle.score_numbers.specs.Entries.{no_candidate}

-- an entry other than that of no candidate is the cell's best score
pub entry_scored : (p : PosedProblem) (cell : Cell) (entry : ℤ) → IsEntry p cell entry → (entry ≡ no_candidate → ⊥) → HasBestScore p cell entry
entry_scored p cell entry is apart =
    elim (cases_Bool (int_eq entry no_candidate)) [
      | inl there ↦ absurd (apart ((Decides-int_eq entry no_candidate).0 there))
      | inr missing ↦
          let E : Bool → Type 0 = λ b. MatchOption (if b then None else Some entry) (IsAnswer p cell NoCandidate) (HasBestScore p cell) in
          subst E missing is
    ]

pub entry_missing : (p : PosedProblem) (cell : Cell) (entry : ℤ) → IsEntry p cell entry → entry ≡ no_candidate → IsAnswer p cell NoCandidate
entry_missing p cell entry is e =
    let E : Bool → Type 0 = λ b. MatchOption (if b then None else Some entry) (IsAnswer p cell NoCandidate) (HasBestScore p cell) in
    subst E ((Decides-int_eq entry no_candidate).1 e) is

-- what is known of the best score is told by its entry
pub entry_right : (p : PosedProblem) (cell : Cell) (score : Option ℤ)
    → MatchOption score (IsAnswer p cell NoCandidate) (HasBestScore p cell)
    → ((best : ℤ) → HasBestScore p cell best → nat_abs best < 2 ^ 63)
    → IsEntry p cell (unwrap_or score no_candidate)
entry_right p cell None right low =
    let E : Bool → Type 0 = λ b. MatchOption (if b then None else Some no_candidate) (IsAnswer p cell NoCandidate) (HasBestScore p cell) in
    subst E (sym ((Decides-int_eq no_candidate no_candidate).1 refl)) right
entry_right p cell (Some best) right low =
    let E : Bool → Type 0 = λ b. MatchOption (if b then None else Some best) (IsAnswer p cell NoCandidate) (HasBestScore p cell) in
    elim (cases_Bool (int_eq best no_candidate)) [
      | inl there ↦
          let same : best ≡ no_candidate = (Decides-int_eq best no_candidate).0 there in
          absurd (omega (arith, ap nat_abs same, low best right))
      | inr missing ↦ subst E (sym missing) right
    ]

module _ (old : Table ℤ) (rows columns : Spans ℤ) (cell : Cell) (entry : ℤ)
    (row : IsWritten old.rows rows cell.rule cell.from cell.to entry)
    (column : IsWritten old.columns columns cell.rule cell.to cell.from entry)
    (is_entry : IsEntry old.problem cell entry) where
  pub entry_now : HasEntry (record { problem = old.problem; rows = rows; columns = columns }) cell
  entry_now = record { entry = entry; in_row = row.there; in_column = column.there; is_entry = is_entry }

  pub entry_still : (other : Cell) → HasEntry old other → HasEntry (record { problem = old.problem; rows = rows; columns = columns }) other
  entry_still other has = go (cases_eq other.rule cell.rule) (cases_eq other.from cell.from) (cases_eq other.to cell.to)
    where
      kept : ((other.rule ≡ cell.rule) × (other.from ≡ cell.from) × (other.to ≡ cell.to) → ⊥)
          → HasEntry (record { problem = old.problem; rows = rows; columns = columns }) other
      kept apart = record {
        entry = has.entry;
        in_row = row.others other.rule other.from other.to (λ (e, e', e''). apart (e, e', e'')) ∙ has.in_row;
        in_column = column.others other.rule other.to other.from (λ (e, e', e''). apart (e, e'', e')) ∙ has.in_column;
        is_entry = has.is_entry;
      }

      go : ((other.rule ≡ cell.rule) ⊎ (other.rule ≡ cell.rule → ⊥))
          → ((other.from ≡ cell.from) ⊎ (other.from ≡ cell.from → ⊥))
          → ((other.to ≡ cell.to) ⊎ (other.to ≡ cell.to → ⊥))
          → HasEntry (record { problem = old.problem; rows = rows; columns = columns }) other
      go (inl e) (inl e') (inl e'') =
          let same : cell ≡ other = λ k. record { rule = sym e k; from = sym e' k; to = sym e'' k } in
          subst (HasEntry (record { problem = old.problem; rows = rows; columns = columns })) same entry_now
      go (inr apart) from to = kept (λ all. apart all.0)
      go (inl e) (inr apart) to = kept (λ all. apart all.1)
      go (inl e) (inl e') (inr apart) = kept (λ all. apart all.2)
