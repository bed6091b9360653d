-- A plain memo: what contracts see of its pass and its probes. The places of the counted cells number its records.
use Rattle.std.proofs.Common.{refl, ap, sym, subst, ◌∙◌, arith}
use Rattle.std.specs.Prelude.{◌≡◌, ℕ, ◌+◌, ◌*◌, ℤ, pos, negsuc, zero, suc, ◌⊎◌, Bool, true, false, Option, Some, None, List, [], ◌∷◌, length, slice_get}
use mathlib.Core.Logic.{inl, inr}
use Rattle.adp_model.specs.declared.cell.Answer.{Answer}
use Rattle.adp_model.specs.declared.cell.Answer.TheVariants.{NoCandidate, Best}
use Rattle.adp_model.specs.declared.cell.Cell.{Cell}
use Rattle.memo_model.specs.declared.probe.Stage.{Stage}
use Rattle.memo_model.specs.declared.probe.Stage.TheVariants.{Open, Unpublished, Publishing, Done}
use Rattle.adp_model.specs.PosedProblem.{PosedProblem}
use Rattle.adp_model.specs.Answers.{IsAnswer}
use Rattle.adp_model.specs.Cells.{IsCounted, IsCellBound, IsPlaceOf}
use Rattle.adp_model.specs.Demand.{IsDemanded}
use Rattle.history_table.specs.declared.history.Deed.{Deed}
use Rattle.history_table.specs.declared.history.Deed.TheVariants as deeds
use Rattle.history_table.specs.declared.history.Event.{Event}
use Rattle.history_table.specs.History.{event}
use Rattle.memo_model.specs.Memos.{Meaning}
use Rattle.cell_core.specs.declared.plain_memo.Access.{Access}
use Rattle.cell_core.specs.declared.plain_memo.Record.{Record}
use Rattle.cell_core.specs.declared.plain_memo.PlainProbe.{PlainProbe}

-- the records by their places, and the last step on one
pub record PlainState : Type 0 where
  pub problem : PosedProblem
  pub records : List (Option Record)
  pub last : Option Access

-- each place has a record or none, and a record has the answer of the cell whose place it stands at
pub record AreRecords (p : PosedProblem) (records : List (Option Record)) : Type 0 where
  pub each_place : IsCellBound p.grammar (length p.word) (length records)
  pub counted : (place : ℕ) (it : Record) → slice_get records place ≡ Some (Some it)
      → IsCounted p.grammar (length p.word) it.cell
  pub in_place : (place : ℕ) (it : Record) → slice_get records place ≡ Some (Some it)
      → IsPlaceOf p.grammar (length p.word) it.cell place
  pub right : (place : ℕ) (it : Record) → slice_get records place ≡ Some (Some it) → IsAnswer p it.cell it.answer

-- ---- known cells

-- there is a record of the cell
abbrev pub HasRecord : List (Option Record) → Cell → Type 0
HasRecord records cell = (place : ℕ) × (it : Record) × (slice_get records place ≡ Some (Some it)) × (it.cell ≡ cell)

same_or_not : (m n : ℕ) → (m ≡ n) ⊎ (m ≡ n → ⊥)
same_or_not m n = grind arith

same_cell_or_not : (a b : Cell) → (a ≡ b) ⊎ (a ≡ b → ⊥)
same_cell_or_not a b = go (same_or_not a.rule b.rule) (same_or_not a.from b.from) (same_or_not a.to b.to)
  where
    go : (a.rule ≡ b.rule) ⊎ (a.rule ≡ b.rule → ⊥) → (a.from ≡ b.from) ⊎ (a.from ≡ b.from → ⊥)
        → (a.to ≡ b.to) ⊎ (a.to ≡ b.to → ⊥) → (a ≡ b) ⊎ (a ≡ b → ⊥)
    go (inl r) (inl f) (inl t) = inl (λ i. record { rule = r i; from = f i; to = t i })
    go (inr wrong) f t = inr (λ e. wrong (λ i. (e i).rule))
    go (inl r) (inr wrong) t = inr (λ e. wrong (λ i. (e i).from))
    go (inl r) (inl f) (inr wrong) = inr (λ e. wrong (λ i. (e i).to))

pub has_record_or_not : (records : List (Option Record)) (cell : Cell)
    → HasRecord records cell ⊎ (HasRecord records cell → ⊥)
has_record_or_not [] cell = inr (λ h. let e = h.2 in cc)
has_record_or_not (None ∷ records) cell = go (has_record_or_not records cell)
  where
    later : HasRecord (None ∷ records) cell → HasRecord records cell
    later (zero, it, e, f) = absurd (let g = e in cc)
    later (suc place, it, e, f) = (place, it, e, f)

    go : HasRecord records cell ⊎ (HasRecord records cell → ⊥)
        → HasRecord (None ∷ records) cell ⊎ (HasRecord (None ∷ records) cell → ⊥)
    go (inl h) = inl (suc h.0, h.1, h.2, h.3)
    go (inr wrong) = inr (λ h. wrong (later h))
has_record_or_not (Some first ∷ records) cell = go (same_cell_or_not first.cell cell) (has_record_or_not records cell)
  where
    later : (first.cell ≡ cell → ⊥) → HasRecord (Some first ∷ records) cell → HasRecord records cell
    later other (zero, it, e, f) =
        let same : first ≡ it = cc in
        absurd (other (ap (λ (x : Record). x.cell) same ∙ f))
    later other (suc place, it, e, f) = (place, it, e, f)

    go : (first.cell ≡ cell) ⊎ (first.cell ≡ cell → ⊥) → HasRecord records cell ⊎ (HasRecord records cell → ⊥)
        → HasRecord (Some first ∷ records) cell ⊎ (HasRecord (Some first ∷ records) cell → ⊥)
    go (inl e) rest = inl (zero, first, refl, e)
    go (inr other) (inl h) = inl (suc h.0, h.1, h.2, h.3)
    go (inr other) (inr wrong) = inr (λ h. wrong (later other h))

-- how many records there are
abbrev pub record_count : List (Option Record) → ℕ
record_count [] = 0
record_count (None ∷ records) = record_count records
record_count (Some it ∷ records) = record_count records + 1

-- ---- steps

-- what a step at the place finds: the answer of its record, or none
abbrev pub FoundAt : List (Option Record) → ℕ → Option Answer → Type 0
FoundAt records place None = slice_get records place ≡ Some None
FoundAt records place (Some answer) =
    (it : Record) × (slice_get records place ≡ Some (Some it)) × (it.answer ≡ answer)

-- a number for each score: 2 more than twice it, or than twice its distance below -1 and 1 more
abbrev pub score_number : ℤ → ℕ
score_number (pos n) = 2 + 2 * n
score_number (negsuc n) = 3 + 2 * n

-- the value that a step found: 0 where there is no record, 1 where there is no candidate
abbrev pub value_of : Option Answer → ℕ
value_of None = 0
value_of (Some NoCandidate) = 1
value_of (Some (Best score choice)) = score_number score

abbrev pub deed_of : Bool → Deed
deed_of false = deeds.Load
deed_of true = deeds.Exchange 0 1

abbrev pub step_of : Option Access → Option Event
step_of None = None
step_of (Some access) = Some (event access.place (deed_of access.exchanges) (value_of access.found))

-- ---- passes and probes

-- how many steps a probe has left at most
abbrev pub steps_at : ℕ → Stage → ℕ
steps_at m Open = 2 * m + 5
steps_at m Unpublished = 4
steps_at m Publishing = 3
steps_at m Done = 0

-- the probe is of a demanded cell of the pass's problem
abbrev pub Follows : PlainProbe → PlainState → Type 0
Follows probe pass = (pass.problem ≡ probe.problem.now) × IsDemanded probe.problem.now probe.cell

abbrev pub plain_meaning : Meaning PlainState PlainProbe
plain_meaning = record {
  known = λ pass. HasRecord pass.records;
  known_or_not = λ pass. has_record_or_not pass.records;
  wins = λ pass. record_count pass.records;
  share = λ pass. [];
  last = λ pass. step_of pass.last;
  record_word = λ pass. IsPlaceOf pass.problem.grammar (length pass.problem.word);
  cell = λ probe. probe.cell;
  stage = λ probe. probe.stage;
  follows = Follows;
  loads = λ probe. true;
  remaining = λ m probe. steps_at m probe.stage;
}

-- a probe that follows a pass of a memo is of a cell that is demanded there
pub plain_probe_is_demanded : (p : PosedProblem) (pass : PlainState) (probe : PlainProbe) → pass.problem ≡ p
    → Follows probe pass → IsDemanded p probe.cell
plain_probe_is_demanded p pass probe own follows =
    subst (λ q. IsDemanded q probe.cell) (sym follows.0 ∙ own) follows.1

-- a probe follows all passes of one problem
pub plain_probe_follows_on : (probe : PlainProbe) (before after : PlainState) → after.problem ≡ before.problem
    → (probe.stage ≡ Publishing → ⊥) → Follows probe before → Follows probe after
plain_probe_follows_on probe before after same unpublished follows = (same ∙ follows.0, follows.1)
