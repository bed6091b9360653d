-- Pieces that were written one behind the other.
use Rattle.std.proofs.Common.{◌≡◌, ℕ, zero, suc, ◌+◌, ◌<◌, ◌≤◌, List, [], ◌∷◌, ◌++◌, length, take, Option, None, Result, Ok, Err, refl, sym, ap, subst, ◌∙◌, arith}
use Rattle.std.specs.List.{concat}
use Rattle.std.specs.Io.KnownBytes.{Appends}
use Rattle.std.proofs.KnownBytes.{Appends-nil, Appends-trans}
use Rattle.std.proofs.lemmas.List.{append-nil, take_at, take-append-le, length-append}
use Rattle.std.proofs.lemmas.List.Folds.{concat-append}
use Rattle.adp_io.specs.Streams.{AppendsProperPrefix}
use Rattle.adp_model.specs.PosedProblem.{PosedProblem}
use Rattle.verdicts.specs.declared.command.Mode.{Mode}
use Rattle.verdicts.specs.declared.command.Mode.TheVariants.{Cert}
use Rattle.verdicts.specs.Certificates.{behind_blocks, behind_reports}
use Rattle.verdicts.specs.Command.{Command}
use Rattle.evaluators.specs.declared.finished.RunNote.{RunNote}
use Rattle.report.specs.declared.fault.Fault.{Fault}
use Rattle.report.specs.declared.fault.Fault.TheVariants as faults
use Rattle.adp_main.specs.declared.status.Status.{Status}
use Rattle.adp_main.specs.declared.status.Status.TheVariants.{Done}
use Rattle.adp_main.specs.Faults.{status_after}
use Rattle.adp_main.specs.Reporting.{HasWritten}
use Rattle.adp_main.specs.RunNotes.{AreNoted}
use Rattle.adp_main.specs.Writing.{IsReportWritten}
use Rattle.adp_main.proofs.Told.{undone}
use Rattle.adp_main.proofs.Written.{take_past}

-- ---- parts of one list behind another

prefix_before : (xs ys : List ℕ) (old new : Option (List ℕ)) → AppendsProperPrefix old new xs
    → AppendsProperPrefix old new (xs ++ ys)
prefix_before xs ys old new (count, few, part) = (
  count,
  (let below : count < length xs = few in omega (arith, below, length-append xs ys)),
  subst (Appends old new)
      (let below : count < length xs = few in sym (take-append-le count xs ys (omega (arith, below)))) part,
)

prefix_behind : (xs ys : List ℕ) (old mid new : Option (List ℕ)) → Appends old mid xs → AppendsProperPrefix mid new ys
    → AppendsProperPrefix old new (xs ++ ys)
prefix_behind xs ys old mid new before (count, few, part) = (
  length xs + count,
  (let below : count < length ys = few in omega (arith, below, length-append xs ys)),
  subst (Appends old new) (sym (take_past xs ys count (length xs + count) refl))
      (Appends-trans old mid new xs (take count ys) before part),
)

-- the first of some pieces are the first of more
first_pieces : (a b : List (List ℕ)) (count : ℕ)
    → (number : ℕ) × (take number (a ++ b) ≡ take count a)
first_pieces a b zero = (0, take_at [] (a ++ b) 0 refl ∙ sym (take_at [] a 0 refl))
first_pieces [] b (suc count) = (0, take_at [] b 0 refl)
first_pieces (piece ∷ a) b (suc count) =
    let more = first_pieces a b count in
    (suc more.0, ap (λ (pieces : List (List ℕ)). piece ∷ pieces) more.1)

pieces_past : (a b : List (List ℕ)) (count : ℕ) → take (length a + count) (a ++ b) ≡ a ++ take count b
pieces_past [] b count = let same : 0 + count ≡ count = omega arith in ap (λ n. take n b) same
pieces_past (piece ∷ a) b count =
    let same : length (piece ∷ a) + count ≡ suc (length a + count) = omega arith in
    ap (λ n. take n (piece ∷ (a ++ b))) same ∙ ap (λ (pieces : List (List ℕ)). piece ∷ pieces) (pieces_past a b count)

-- ---- what was written

-- one piece
pub one_piece : (result : Result (Unit {0}) Fault) (old new : Option (List ℕ)) (piece : List ℕ)
    → IsReportWritten result old new piece → HasWritten result old new (piece ∷ [])
one_piece (Ok done) old new piece written = subst (Appends old new) (sym (append-nil piece)) written
one_piece (Err faults.Write) old new piece written = subst (AppendsProperPrefix old new) (sym (append-nil piece)) written
one_piece (Err faults.Usage) old new piece written = absurd written
one_piece (Err faults.Read) old new piece written = absurd written
one_piece (Err faults.TooLong) old new piece written = absurd written
one_piece (Err (faults.Text fault)) old new piece written = absurd written
one_piece (Err (faults.Grammar fault)) old new piece written = absurd written
one_piece (Err (faults.Limit word fault)) old new piece written = absurd written
one_piece (Err (faults.Rejected line)) old new piece written = absurd written
one_piece (Err faults.Memory) old new piece written = absurd written

-- nothing, where memory ran out
pub no_piece : (held : Option (List ℕ)) (pieces : List (List ℕ)) → HasWritten (Err faults.Memory) held held pieces
no_piece held pieces =
    (0, subst (λ (some : List (List ℕ)). Appends held held (concat some)) (sym (take_at [] pieces 0 refl)) (Appends-nil held))

-- some pieces whole, and then of those behind them
pub has_joined : (result : Result (Unit {0}) Fault) (old mid new : Option (List ℕ)) (a b : List (List ℕ))
    → Appends old mid (concat a) → HasWritten result mid new b → HasWritten result old new (a ++ b)
has_joined (Ok done) old mid new a b before written =
    subst (Appends old new) (sym (concat-append a b)) (Appends-trans old mid new (concat a) (concat b) before written)
has_joined (Err faults.Write) old mid new a b before written =
    subst (AppendsProperPrefix old new) (sym (concat-append a b))
    (prefix_behind (concat a) (concat b) old mid new before written)
has_joined (Err faults.Memory) old mid new a b before (count, written) = (
  length a + count,
  subst (Appends old new) (sym (ap concat (pieces_past a b count) ∙ concat-append a (take count b)))
      (Appends-trans old mid new (concat a) (concat (take count b)) before written),
)
has_joined (Err faults.Usage) old mid new a b before written = absurd written
has_joined (Err faults.Read) old mid new a b before written = absurd written
has_joined (Err faults.TooLong) old mid new a b before written = absurd written
has_joined (Err (faults.Text fault)) old mid new a b before written = absurd written
has_joined (Err (faults.Grammar fault)) old mid new a b before written = absurd written
has_joined (Err (faults.Limit word fault)) old mid new a b before written = absurd written
has_joined (Err (faults.Rejected line)) old mid new a b before written = absurd written

-- what failed among some pieces failed among more
pub has_first : (fault : Fault) (old new : Option (List ℕ)) (a b : List (List ℕ)) → HasWritten (Err fault) old new a
    → HasWritten (Err fault) old new (a ++ b)
has_first faults.Write old new a b written =
    subst (AppendsProperPrefix old new) (sym (concat-append a b)) (prefix_before (concat a) (concat b) old new written)
has_first faults.Memory old new a b (count, written) =
    let more = first_pieces a b count in
    (more.0, subst (λ (some : List (List ℕ)). Appends old new (concat some)) (sym more.1) written)
has_first faults.Usage old new a b written = absurd written
has_first faults.Read old new a b written = absurd written
has_first faults.TooLong old new a b written = absurd written
has_first (faults.Text fault) old new a b written = absurd written
has_first (faults.Grammar fault) old new a b written = absurd written
has_first (faults.Limit word fault) old new a b written = absurd written
has_first (faults.Rejected line) old new a b written = absurd written

-- some bytes were written
pub has_grown : (result : Result (Unit {0}) Fault) (old new : Option (List ℕ)) (pieces : List (List ℕ))
    → HasWritten result old new pieces → (bytes : List ℕ) × Appends old new bytes
has_grown (Ok done) old new pieces written = (concat pieces, written)
has_grown (Err faults.Write) old new pieces (count, few, part) = (take count (concat pieces), part)
has_grown (Err faults.Memory) old new pieces (count, written) = (concat (take count pieces), written)
has_grown (Err faults.Usage) old new pieces written = absurd written
has_grown (Err faults.Read) old new pieces written = absurd written
has_grown (Err faults.TooLong) old new pieces written = absurd written
has_grown (Err (faults.Text fault)) old new pieces written = absurd written
has_grown (Err (faults.Grammar fault)) old new pieces written = absurd written
has_grown (Err (faults.Limit word fault)) old new pieces written = absurd written
has_grown (Err (faults.Rejected line)) old new pieces written = absurd written

-- ---- what a mode writes behind its reports

pub none_behind : (mode : Mode) → (mode ≡ Cert → ⊥) → (words : ℕ) (input : List ℕ) → behind_reports mode words input ≡ []
none_behind Cert other words input = absurd (other refl)
none_behind mode other words input = refl

pub behind_none : (words : ℕ) (input : List ℕ) → words ≡ 0 → behind_blocks 0 input ≡ behind_blocks words input
behind_none words input none = ap (λ n. behind_blocks n input) (sym none)

pub behind_some : (words : ℕ) (input : List ℕ) → (words ≡ 0 → ⊥) → behind_blocks 1 input ≡ behind_blocks words input
behind_some zero input some = absurd (some refl)
behind_some (suc words) input some = refl

-- ---- notes of reports, and what was written behind them

module _ (command : Command) (problems : List PosedProblem) (behind : List (List ℕ)) (old new : Option (List RunNote)) where
  -- a run that is not done
  pub noted_undone : (status : Status) (held held' : Option (List ℕ)) → (status ≡ Done → ⊥)
      → AreNoted command None problems [] status old new held held' → AreNoted command None problems behind status old new held held'
  noted_undone status held held' none noted = record {
    count = noted.count;
    reports = noted.reports;
    notes = noted.notes;
    runs = noted.runs;
    noted = noted.noted;
    written = noted.written;
    done = λ done. absurd (none done);
  }

  pub noted_behind : (result : Result (Unit {0}) Fault) (held held' held'' : Option (List ℕ))
      → AreNoted command None problems [] Done old new held held' → HasWritten result held' held'' behind
      → AreNoted command None problems behind (status_after result) old new held held''
  noted_behind result held held' held'' noted written = record {
    count = noted.count;
    reports = noted.reports;
    notes = noted.notes;
    runs = noted.runs;
    noted = noted.noted;
    written = (grown.0, Appends-trans held held' held'' (concat noted.reports) grown.0 whole grown.1);
    done = done result written;
  }
    where
      whole : Appends held held' (concat noted.reports)
      whole = subst (λ (pieces : List (List ℕ)). Appends held held' (concat pieces)) (append-nil noted.reports)
          (noted.done refl).1

      grown : (bytes : List ℕ) × Appends held' held'' bytes
      grown = has_grown result held' held'' behind written

      done : (result : Result (Unit {0}) Fault) → HasWritten result held' held'' behind → status_after result ≡ Done
          → (length problems ≤ noted.count) × Appends held held'' (concat (noted.reports ++ behind))
      done (Ok finished) written is =
          ((noted.done refl).0, has_joined (Ok finished) held held' held'' noted.reports behind whole written)
      done (Err fault) written is = absurd (undone fault is)
