-- What a pass knows, as a test.
use Rattle.std.proofs.Common.{◌≡◌, ◌⊎◌, inl, inr, true, false, refl}
use Rattle.std.proofs.lemmas.Bool.{false≢true, false_from_ne_true}
use Rattle.adp_model.specs.declared.cell.Cell.{Cell}
use Rattle.memo_model.specs.Memos.{Meaning, StayKnown}
use Rattle.memo_model.specs.Machines.{holds, is_known}

holds_from : {A B : Type 0} (either : A ⊎ B) → holds either ≡ true → A
holds_from (inl a) e = a
holds_from (inr b) e = absurd (false≢true e)

holds_so : {A : Type 0} (either : A ⊎ (A → ⊥)) → A → holds either ≡ true
holds_so (inl a) h = refl
holds_so (inr absent) h = absurd (absent h)

module _ {Pass Probe : Type 0} (memo : Meaning Pass Probe) where
  pub from_known : (pass : Pass) (cell : Cell) → is_known memo pass cell ≡ true → memo.known pass cell
  from_known pass cell e = holds_from (memo.known_or_not pass cell) e

  pub known_so : (pass : Pass) (cell : Cell) → memo.known pass cell → is_known memo pass cell ≡ true
  known_so pass cell h = holds_so (memo.known_or_not pass cell) h

  pub not_known_so : (pass : Pass) (cell : Cell) → (memo.known pass cell → ⊥) → is_known memo pass cell ≡ false
  not_known_so pass cell unknown = false_from_ne_true (is_known memo pass cell) (λ e. unknown (from_known pass cell e))

  -- what stays known passes the test
  pub stay_so : (pass pass' : Pass) → StayKnown (memo.known pass) (memo.known pass')
      → (cell : Cell) → is_known memo pass cell ≡ true → is_known memo pass' cell ≡ true
  stay_so pass pass' stay cell e = known_so pass' cell (stay cell (from_known pass cell e))
