-- An input with a line `job` is parted at the first one.
use Rattle.std.proofs.Common.{◌≡◌, ℕ, zero, suc, ◌+◌, ◌<◌, ◌≤◌, ◌⊎◌, inl, inr, List, [], ◌∷◌, codes, length, drop, Contains, refl, sym, ap, ap₂, subst, ◌∙◌, arith, length-append}
use Rattle.std.proofs.lemmas.Bool.{cases_eq}
use Rattle.std.specs.Str.Lines.{lines, strip_carriage_return}
use Rattle.table_certificate.specs.JobSplit.{IsFirstLine, IsSplitAtJob}
use Rattle.table_certificate.proofs.SplitLines.{HasEnd, IsPassed, IsWhole, all_passed, ended_line, has_end, none_passed, one_more_passed, parted, whole_first}

-- the first line of bytes, of which there are some
record HasFirst (text : List ℕ) : Type 0 where
  line : List ℕ
  behind : List ℕ
  is : IsFirstLine text line behind

first_there : (text : List ℕ) → 0 < length text → HasFirst text
first_there text some = by (has_end text)
  where
    by : IsWhole text ⊎ HasEnd text → HasFirst text
    by (inl whole) = record {
      line = text;
      behind = drop (length text) text;
      is = whole_first text (length text) some (sym whole.at) refl;
    }
    by (inr end) = record {
      line = strip_carriage_return end.line;
      behind = end.behind;
      is = subst (λ it. IsFirstLine it (strip_carriage_return end.line) end.behind) (sym end.is)
          (ended_line end.line end.behind end.alone);
    }

same_or_other : (a b : List ℕ) → (a ≡ b) ⊎ (a ≡ b → ⊥)
same_or_other [] [] = inl refl
same_or_other [] (byte ∷ b) = inr (λ e. let long = ap length e in omega (arith, long))
same_or_other (byte ∷ a) [] = inr (λ e. let long = ap length e in omega (arith, long))
same_or_other (byte ∷ a) (other ∷ b) = both (cases_eq byte other) (same_or_other a b)
  where
    both : (byte ≡ other) ⊎ (byte ≡ other → ⊥) → (a ≡ b) ⊎ (a ≡ b → ⊥)
        → (byte ∷ a ≡ other ∷ b) ⊎ (byte ∷ a ≡ other ∷ b → ⊥)
    both (inl first) (inl rest) = inl (ap₂ (λ x xs. x ∷ xs) first rest)
    both (inl first) (inr differ) = inr (λ e. differ (cc))
    both (inr differ) rest = inr (λ e. differ (cc))

abbrev IsParted : List ℕ → Type 0
IsParted bytes = (before : List ℕ) × (behind : List ℕ) × IsSplitAtJob bytes before behind

shorter_behind : (text line behind : List ℕ) → IsFirstLine text line behind → length behind < length text
shorter_behind text line behind first =
    let long : length text ≡ length first.ended + length behind =
    ap length first.parts ∙ length-append first.ended behind in
    let some = first.some in
    omega (arith, long, some)

-- from line to line
parted_from : (fuel : ℕ) (bytes rest : List ℕ) (count : ℕ) → length rest ≤ fuel → IsPassed bytes rest count
    → Contains (lines bytes) (codes "job") → IsParted bytes
parted_from zero bytes [] count few passed there = absurd ((all_passed bytes [] count passed refl).0 there)
parted_from zero bytes (byte ∷ rest) count few passed there = absurd (omega (arith, few))
parted_from (suc fuel) bytes [] count few passed there = absurd ((all_passed bytes [] count passed refl).0 there)
parted_from (suc fuel) bytes (byte ∷ rest) count few passed there =
    let text : List ℕ = byte ∷ rest in
    let first = first_there text (omega arith) in
    elim (same_or_other first.line (codes "job")) [
      | inl is ↦ (_, first.behind, parted bytes text first.line first.behind count passed first.is is)
      | inr other ↦
          let shorter = shorter_behind text first.line first.behind first.is in
          parted_from fuel bytes first.behind (count + 1) (omega (arith, shorter, few))
          (one_more_passed bytes text first.line first.behind count passed first.is other) there
    ]

pub parted_there : (bytes : List ℕ) → Contains (lines bytes) (codes "job") → IsParted bytes
parted_there bytes there = parted_from (length bytes) bytes bytes 0 (omega arith) (none_passed bytes) there
