use Rattle.std.proofs.Common.{rules, ◌≡◌, ℕ, ◌+◌, ◌-◌, ◌<◌, ◌≤◌, [], Err, arith, refl, sym, ap, ◌∙◌}
use Rattle.std.proofs.KnownBytes.{Consumes-all, Consumes-nil}
use Rattle.std.proofs.lemmas.Result.{err_from_is_err_and}
use Rattle.adp_io.specs.declared.job.JobFault.TheVariants.{Memory}
use Rattle.adp_io.proofs.Asked.{asks_for_more, asks_none, calls_none, calls_once_more, calls_within, told_calls}
use Rattle.adp_io.proofs.Faults.{rose, same_error, stood}
use Rattle.adp_io.proofs.Told.{consumes_moved, loses_all, loses_none, loses_read, told_over}
use Rattle.adp_io.proofs.job.read_job.Given as given
use Rattle.adp_io.proofs.job.read_job.Goals as goal

-- a length that was tested
tested : (seen len limit : ℕ) → seen ≡ len → seen ≤ limit → len ≤ limit
tested seen len limit is within = omega arith

-- one call more than the bytes that were there before
once_more : (seen len limit : ℕ) → seen ≡ len → seen ≤ limit → len + 1 ≤ limit + 1
once_more seen len limit is within = omega arith

-- no bytes came
same_len : (new old count : ℕ) → new ≡ old + count → count ≡ 0 → new ≡ old
same_len new old count grown none = omega arith

-- some bytes came
grown_len : (new old count : ℕ) → new ≡ old + count → ¬ (count ≡ 0) → old + 1 ≤ new
grown_len new old count grown some = omega arith

left_falls : (new old limit : ℕ) → old + 1 ≤ new → old ≤ limit → limit + 1 - new < limit + 1 - old
left_falls new old limit grown within = omega arith

-- no buffer was made
memory : (g : given.Over) (c : goal.After-from_residual g) → c.from_residual.result ≡ Err Memory
memory g c = search rules

pub returns-in_err-piece-clause-told : goal.returns-in_err-piece-clause-told
returns-in_err-piece-clause-told g c = refl

pub returns-in_err-piece-clause-faults : goal.returns-in_err-piece-clause-faults
returns-in_err-piece-clause-faults g c = stood _ _ _ refl (λ h. let e = memory g c in cc)

pub returns-in_err-piece-clause-asked : goal.returns-in_err-piece-clause-asked
returns-in_err-piece-clause-asked g c = asks_none _ _

pub returns-in_err-piece-clause-whole : goal.returns-in_err-piece-clause-whole
returns-in_err-piece-clause-whole g c = rw (memory g c) tt

pub returns-in_err-piece-clause-end : goal.returns-in_err-piece-clause-end
returns-in_err-piece-clause-end g c = rw (memory g c) tt

pub returns-in_err-piece-clause-fits : goal.returns-in_err-piece-clause-fits
returns-in_err-piece-clause-fits g c = rw (memory g c) tt

pub returns-in_err-piece-clause-calls : goal.returns-in_err-piece-clause-calls
returns-in_err-piece-clause-calls g c = rw (memory g c) tt

pub returns-in_err-piece-clause-most_calls : goal.returns-in_err-piece-clause-most_calls
returns-in_err-piece-clause-most_calls g c = calls_none _ _

pub returns-in_err-piece-clause-told_calls : goal.returns-in_err-piece-clause-told_calls
returns-in_err-piece-clause-told_calls g c = told_calls _ _ _ _ [] 0 refl (Consumes-nil _) (calls_none _ _)

pub returns-in_err-piece-clause-read_fault : goal.returns-in_err-piece-clause-read_fault
returns-in_err-piece-clause-read_fault g c = λ _. loses_none _ _

pub returns-in_err-piece-clause-too_long : goal.returns-in_err-piece-clause-too_long
returns-in_err-piece-clause-too_long g c = λ h. let e = memory g c in cc

pub returns-in_err-piece-clause-long : goal.returns-in_err-piece-clause-long
returns-in_err-piece-clause-long g c = λ h. let e = memory g c in cc

pub returns-in_err-piece-clause-refused : goal.returns-in_err-piece-clause-refused
returns-in_err-piece-clause-refused g c = rw (memory g c) (loses_none _ _)

pub loop-source-init : goal.loop-source-init
loop-source-init g c = record {
  told = refl;
  faults = refl;
  read = rw c.new-bytes.ensures.items (Consumes-nil _);
  asked = asks_none _ _;
  calls = calls_none _ _;
  fits = rw c.new-bytes.ensures.len (omega arith);
  piece = search rules;
  short = search rules;
}

pub read_piece-requires-clause-piece : goal.read_piece-requires-clause-piece
read_piece-requires-clause-piece g c = rw c.deref_mut.ensures.len c.loop-source.invariant.piece

pub read_piece-requires-clause-short : goal.read_piece-requires-clause-short
read_piece-requires-clause-short g c = rw c.deref_mut.ensures.len c.loop-source.invariant.short

pub read_piece-requires-clause-room : goal.read_piece-requires-clause-room
read_piece-requires-clause-room g c = tested _ _ _ c.len.ensures c.loop-source-test.true

-- the error of the last piece is the answer
same_fault : (g : given.Over) (c : goal.After-drop-piece g) → c.from_residual-in_err-read_piece.result ≡ Err c.in_err-read_piece.field-0.0
same_fault g c =
    let failed = err_from_is_err_and c.from_residual-in_err-read_piece.result c.from_residual-in_err-read_piece.ensures.1 in
    failed.1 ∙ ap (λ e. Err e) failed.2

pub returns-in_err-read_piece-clause-told : goal.returns-in_err-read_piece-clause-told
returns-in_err-read_piece-clause-told g c = c.read_piece.ensures.told ∙ c.loop-source.invariant.told

pub returns-in_err-read_piece-clause-faults : goal.returns-in_err-read_piece-clause-faults
returns-in_err-read_piece-clause-faults g c = rose _ _ _ _ _ _ (same_fault g c) c.loop-source.invariant.faults c.in_err-read_piece.ensures.faults

pub returns-in_err-read_piece-clause-asked : goal.returns-in_err-read_piece-clause-asked
returns-in_err-read_piece-clause-asked g c = asks_for_more _ _ _ _ c.loop-source.invariant.asked c.read_piece.ensures.asked

pub returns-in_err-read_piece-clause-whole : goal.returns-in_err-read_piece-clause-whole
returns-in_err-read_piece-clause-whole g c = rw (same_fault g c) tt

pub returns-in_err-read_piece-clause-end : goal.returns-in_err-read_piece-clause-end
returns-in_err-read_piece-clause-end g c = rw (same_fault g c) tt

pub returns-in_err-read_piece-clause-fits : goal.returns-in_err-read_piece-clause-fits
returns-in_err-read_piece-clause-fits g c = rw (same_fault g c) tt

pub returns-in_err-read_piece-clause-calls : goal.returns-in_err-read_piece-clause-calls
returns-in_err-read_piece-clause-calls g c = rw (same_fault g c) tt

pub returns-in_err-read_piece-clause-most_calls : goal.returns-in_err-read_piece-clause-most_calls
returns-in_err-read_piece-clause-most_calls g c =
    calls_once_more _ _ _ _ _ c.loop-source.invariant.calls c.read_piece.ensures.calls (once_more _ _ _ c.len.ensures c.loop-source-test.true)

pub returns-in_err-read_piece-clause-told_calls : goal.returns-in_err-read_piece-clause-told_calls
returns-in_err-read_piece-clause-told_calls g c =
    told_calls _ _ _ _ _ _ c.loop-source.bytes.ok.0 c.loop-source.invariant.read (calls_once_more _ _ _ _ _ c.loop-source.invariant.calls c.read_piece.ensures.calls (omega arith))

pub returns-in_err-read_piece-clause-read_fault : goal.returns-in_err-read_piece-clause-read_fault
returns-in_err-read_piece-clause-read_fault g c = λ h. loses_read _ _ _ _ _ _ c.loop-source.bytes.ok.0 (tested _ _ _ c.len.ensures c.loop-source-test.true)
    c.loop-source.invariant.read (c.in_err-read_piece.ensures.read_fault (same_error _ _ _ (same_fault g c) h))

pub returns-in_err-read_piece-clause-too_long : goal.returns-in_err-read_piece-clause-too_long
returns-in_err-read_piece-clause-too_long g c = λ h. absurd (c.in_err-read_piece.ensures.too_long (same_error _ _ _ (same_fault g c) h))

pub returns-in_err-read_piece-clause-long : goal.returns-in_err-read_piece-clause-long
returns-in_err-read_piece-clause-long g c = λ h. absurd (c.in_err-read_piece.ensures.too_long (same_error _ _ _ (same_fault g c) h))

-- what is lost is what was read before, and what the last piece lost
pub returns-in_err-read_piece-clause-refused : goal.returns-in_err-read_piece-clause-refused
returns-in_err-read_piece-clause-refused g c =
    rw (same_fault g c) (loses_all _ _ _ c.loop-source.bytes.items c.loop-source.bytes.len _ c.loop-source.bytes.ok.0 c.loop-source.invariant.fits c.loop-source.invariant.read c.in_err-read_piece.ensures.refused)

pub returns-then-branch-eq0-clause-told : goal.returns-then-branch-eq0-clause-told
returns-then-branch-eq0-clause-told g c = c.read_piece.ensures.told ∙ c.loop-source.invariant.told

pub returns-then-branch-eq0-clause-faults : goal.returns-then-branch-eq0-clause-faults
returns-then-branch-eq0-clause-faults g c = stood _ _ _ (c.in_ok-read_piece.ensures.faults.stands (λ h. cc) ∙ c.loop-source.invariant.faults) (λ h. cc)

pub returns-then-branch-eq0-clause-asked : goal.returns-then-branch-eq0-clause-asked
returns-then-branch-eq0-clause-asked g c = asks_for_more _ _ _ _ c.loop-source.invariant.asked c.read_piece.ensures.asked

pub returns-then-branch-eq0-clause-whole : goal.returns-then-branch-eq0-clause-whole
returns-then-branch-eq0-clause-whole g c =
    Consumes-all _ _ _ [] _ (consumes_moved _ _ _ _ _ _ c.loop-source.invariant.read c.in_ok-read_piece.ensures.moved) (c.in_ok-read_piece.ensures.end c.if-branch-eq0.true) refl

pub returns-then-branch-eq0-clause-end : goal.returns-then-branch-eq0-clause-end
returns-then-branch-eq0-clause-end g c = c.in_ok-read_piece.ensures.end c.if-branch-eq0.true

pub returns-then-branch-eq0-clause-fits : goal.returns-then-branch-eq0-clause-fits
returns-then-branch-eq0-clause-fits g c =
    rw (same_len _ _ _ c.in_ok-read_piece.ensures.len c.if-branch-eq0.true) (tested _ _ _ c.len.ensures c.loop-source-test.true)

pub returns-then-branch-eq0-clause-calls : goal.returns-then-branch-eq0-clause-calls
returns-then-branch-eq0-clause-calls g c =
    rw (same_len _ _ _ c.in_ok-read_piece.ensures.len c.if-branch-eq0.true) (calls_once_more _ _ _ _ _ c.loop-source.invariant.calls c.read_piece.ensures.calls (omega arith))

pub returns-then-branch-eq0-clause-most_calls : goal.returns-then-branch-eq0-clause-most_calls
returns-then-branch-eq0-clause-most_calls g c =
    calls_once_more _ _ _ _ _ c.loop-source.invariant.calls c.read_piece.ensures.calls (once_more _ _ _ c.len.ensures c.loop-source-test.true)

pub returns-then-branch-eq0-clause-told_calls : goal.returns-then-branch-eq0-clause-told_calls
returns-then-branch-eq0-clause-told_calls g c =
    told_calls _ _ _ _ _ _ c.loop-source.bytes.ok.0 c.loop-source.invariant.read (calls_once_more _ _ _ _ _ c.loop-source.invariant.calls c.read_piece.ensures.calls (omega arith))

pub returns-then-branch-eq0-clause-read_fault : goal.returns-then-branch-eq0-clause-read_fault
returns-then-branch-eq0-clause-read_fault g c = λ h. cc

pub returns-then-branch-eq0-clause-too_long : goal.returns-then-branch-eq0-clause-too_long
returns-then-branch-eq0-clause-too_long g c = λ h. cc

pub returns-then-branch-eq0-clause-long : goal.returns-then-branch-eq0-clause-long
returns-then-branch-eq0-clause-long g c = λ h. cc

pub loop-source-smaller : goal.loop-source-smaller
loop-source-smaller g c =
    left_falls _ _ _ (grown_len _ _ _ c.in_ok-read_piece.ensures.len c.if-branch-eq0.false) (tested _ _ _ c.len.ensures c.loop-source-test.true)

pub loop-source-preserved : goal.loop-source-preserved
loop-source-preserved g c = record {
  told = c.read_piece.ensures.told ∙ c.loop-source.invariant.told;
  faults = c.in_ok-read_piece.ensures.faults.stands (λ h. cc) ∙ c.loop-source.invariant.faults;
  read = consumes_moved _ _ _ _ _ _ c.loop-source.invariant.read c.in_ok-read_piece.ensures.moved;
  asked = asks_for_more _ _ _ _ c.loop-source.invariant.asked c.read_piece.ensures.asked;
  calls = calls_once_more _ _ _ _ _ c.loop-source.invariant.calls c.read_piece.ensures.calls (grown_len _ _ _ c.in_ok-read_piece.ensures.len c.if-branch-eq0.false);
  fits = c.in_ok-read_piece.ensures.fits;
  piece = c.loop-source.invariant.piece;
  short = c.loop-source.invariant.short;
}

-- one byte more than a job may have was read
over : (seen len limit : ℕ) → seen ≡ len → limit < seen → len ≤ limit + 1 → len ≡ limit + 1
over seen len limit is past within = omega arith

pub returns-clause-told : goal.returns-clause-told
returns-clause-told g c = c.loop-source.invariant.told

pub returns-clause-faults : goal.returns-clause-faults
returns-clause-faults g c = stood _ _ _ c.loop-source.invariant.faults (λ h. cc)

pub returns-clause-asked : goal.returns-clause-asked
returns-clause-asked g c = c.loop-source.invariant.asked

pub returns-clause-most_calls : goal.returns-clause-most_calls
returns-clause-most_calls g c = calls_within _ _ _ _ c.loop-source.invariant.calls c.loop-source.invariant.fits

pub returns-clause-told_calls : goal.returns-clause-told_calls
returns-clause-told_calls g c =
    told_calls _ _ _ _ _ _ c.loop-source.bytes.ok.0 c.loop-source.invariant.read (calls_within _ _ _ _ c.loop-source.invariant.calls (omega arith))

pub returns-clause-read_fault : goal.returns-clause-read_fault
returns-clause-read_fault g c = λ h. cc

pub returns-clause-too_long : goal.returns-clause-too_long
returns-clause-too_long g c = λ _. (
  c.loop-source.bytes.items,
  c.loop-source.invariant.read,
  sym c.loop-source.bytes.ok.0 ∙ over _ _ _ c.len.ensures c.loop-source-test.false c.loop-source.invariant.fits,
)

pub returns-clause-long : goal.returns-clause-long
returns-clause-long g c = λ _. told_over _ _ _ _ (rw (sym c.loop-source.bytes.ok.0) (rw (sym c.len.ensures) c.loop-source-test.false)) c.loop-source.invariant.read

pub returns-clause-refused : goal.returns-clause-refused
returns-clause-refused g c = (c.loop-source.bytes.items, c.loop-source.invariant.read, rw (sym c.loop-source.bytes.ok.0) c.loop-source.invariant.fits)
