-- Splits that are judged one after another.
use Rattle.std.proofs.Common.{◌≡◌, ℕ, ◌+◌, ◌<◌, ◌≤◌, ◌⊎◌, inl, inr, ℤ, ◌<ℤ◌, Option, Some, None, sym, subst, arith}
use Rattle.std.proofs.lemmas.Int.{ints}
use Rattle.adp_model.specs.declared.grammar.Goal.{Goal}
use Rattle.adp_model.specs.declared.grammar.Goal.TheVariants.{Least, Greatest}
use Rattle.adp_model.specs.Scores.{IsBetter}
use Rattle.table_certificate.specs.SplitVerdicts.{Verdict, Wrong, Unscored, Scored, IsBetterOf, IsJudged, IsNoBetter, told_verdict}

less_less : (a b c : ℤ) → a <ℤ b → b <ℤ c → a <ℤ c
less_less a b c h k = omega (arith, ints)

not_less : (a : ℤ) → a <ℤ a → ⊥
not_less a h = omega (arith, ints)

apart : (a b : ℤ) → (a <ℤ b → ⊥) → (b <ℤ a → ⊥) → a ≡ b
apart a b h k = by (cases a b)
  where
    cases : (a b : ℤ) → (a <ℤ b) ⊎ ((a ≡ b) ⊎ (b <ℤ a))
    cases a b = grind (arith, ints)

    by : (a <ℤ b) ⊎ ((a ≡ b) ⊎ (b <ℤ a)) → a ≡ b
    by (inl less) = absurd (h less)
    by (inr (inl same)) = same
    by (inr (inr less)) = absurd (k less)

pub better_better : (goal : Goal) (a b c : ℤ) → IsBetter goal a b → IsBetter goal b c → IsBetter goal a c
better_better Least a b c h k = less_less a b c h k
better_better Greatest a b c h k = less_less c b a k h

pub not_better : (goal : Goal) (a : ℤ) → IsBetter goal a a → ⊥
not_better Least a h = not_less a h
not_better Greatest a h = not_less a h

pub neither_better : (goal : Goal) (a b : ℤ) → (IsBetter goal a b → ⊥) → (IsBetter goal b a → ⊥) → a ≡ b
neither_better Least a b h k = apart a b h k
neither_better Greatest a b h k = apart a b k h

pub unscored_apart : (score : ℤ) → Scored score ≡ Unscored → ⊥
unscored_apart score e = cc

pub wrong_apart : Wrong ≡ Unscored → ⊥
wrong_apart e = cc

-- what has no better score than one has none better than a better one
none_better : (goal : Goal) (one other : ℤ) → IsBetter goal other one → (verdict : Verdict) → IsNoBetter goal one verdict
    → IsNoBetter goal other verdict
none_better goal one other better Wrong none = none
none_better goal one other better Unscored none = tt
none_better goal one other better (Scored score) none = λ h. none (better_better goal score other one h better)

-- nor than one that this is not better than
none_behind : (goal : Goal) (one other : ℤ) → (IsBetter goal other one → ⊥) → (verdict : Verdict)
    → IsNoBetter goal other verdict → IsNoBetter goal one verdict
none_behind goal one other not Wrong none = none
none_behind goal one other not Unscored none = tt
none_behind goal one other not (Scored score) none = λ h. by h
  where
    cases : (a b : ℤ) → (a <ℤ b) ⊎ ((a ≡ b) ⊎ (b <ℤ a))
    cases a b = grind (arith, ints)

    step : (goal : Goal) → (IsBetter goal score other → ⊥) → (IsBetter goal other one → ⊥) → IsBetter goal score one → ⊥
    step Least a b c = by (cases other score)
      where
        by : (other <ℤ score) ⊎ ((other ≡ score) ⊎ (score <ℤ other)) → ⊥
        by (inl less) = b (less_less other score one less c)
        by (inr (inl same)) = b (subst (λ x. x <ℤ one) (sym same) c)
        by (inr (inr less)) = a less
    step Greatest a b c = by (cases score other)
      where
        by : (score <ℤ other) ⊎ ((score ≡ other) ⊎ (other <ℤ score)) → ⊥
        by (inl less) = b (less_less one score other c less)
        by (inr (inl same)) = b (subst (λ x. one <ℤ x) same c)
        by (inr (inr less)) = a less

    by : IsBetter goal score one → ⊥
    by = step goal none not

unscored_none : (goal : Goal) (score : ℤ) (verdict : Verdict) → verdict ≡ Unscored → IsNoBetter goal score verdict
unscored_none goal score verdict is = subst (λ v. IsNoBetter goal score v) (sym is) tt

pub judged_same : (goal : Goal) (A B : Verdict → Type 0) (result : Option (Option ℤ)) → IsJudged goal A result
    → ((verdict : Verdict) → A verdict → B verdict) → ((verdict : Verdict) → B verdict → A verdict) → IsJudged goal B result
judged_same goal A B None judged to from = to Wrong judged
judged_same goal A B (Some None) judged to from = λ verdict has. judged verdict (from verdict has)
judged_same goal A B (Some (Some score)) judged to from =
    (to (Scored score) judged.0, λ verdict has. judged.1 verdict (from verdict has))

-- of all that one or the other comes to, the better one is the best
pub judged_both : (goal : Goal) (A B C : Verdict → Type 0) (one other best : Option ℤ) → IsJudged goal A (Some one)
    → IsJudged goal B (Some other) → IsBetterOf goal one other best
    → ((verdict : Verdict) → C verdict → A verdict ⊎ B verdict) → ((verdict : Verdict) → A verdict → C verdict)
    → ((verdict : Verdict) → B verdict → C verdict) → IsJudged goal C (Some best)
judged_both goal A B C None None best a b is parts left right =
    subst (λ x. IsJudged goal C (Some x)) (sym is) (λ verdict has. by verdict (parts verdict has))
  where
    by : (verdict : Verdict) → A verdict ⊎ B verdict → verdict ≡ Unscored
    by verdict (inl has) = a verdict has
    by verdict (inr has) = b verdict has
judged_both goal A B C None (Some score) best a b is parts left right =
    subst (λ x. IsJudged goal C (Some x)) (sym is) (right (Scored score) b.0, λ verdict has. by verdict (parts verdict has))
  where
    by : (verdict : Verdict) → A verdict ⊎ B verdict → IsNoBetter goal score verdict
    by verdict (inl has) = unscored_none goal score verdict (a verdict has)
    by verdict (inr has) = b.1 verdict has
judged_both goal A B C (Some one) None best a b is parts left right =
    subst (λ x. IsJudged goal C (Some x)) (sym is) (left (Scored one) a.0, λ verdict has. by verdict (parts verdict has))
  where
    by : (verdict : Verdict) → A verdict ⊎ B verdict → IsNoBetter goal one verdict
    by verdict (inl has) = a.1 verdict has
    by verdict (inr has) = unscored_none goal one verdict (b verdict has)
judged_both goal A B C (Some one) (Some other) best a b (inl (is, better)) parts left right =
    subst (λ x. IsJudged goal C (Some x)) (sym is) (right (Scored other) b.0, λ verdict has. by verdict (parts verdict has))
  where
    by : (verdict : Verdict) → A verdict ⊎ B verdict → IsNoBetter goal other verdict
    by verdict (inl has) = none_better goal one other better verdict (a.1 verdict has)
    by verdict (inr has) = b.1 verdict has
judged_both goal A B C (Some one) (Some other) best a b (inr (is, not)) parts left right =
    subst (λ x. IsJudged goal C (Some x)) (sym is) (left (Scored one) a.0, λ verdict has. by verdict (parts verdict has))
  where
    by : (verdict : Verdict) → A verdict ⊎ B verdict → IsNoBetter goal one verdict
    by verdict (inl has) = a.1 verdict has
    by verdict (inr has) = none_behind goal one other not verdict (b.1 verdict has)

-- where all come to one
pub judged_one : (goal : Goal) (Has : Verdict → Type 0) (verdict : Verdict) → Has verdict
    → ((other : Verdict) → Has other → other ≡ verdict) → IsJudged goal Has (told_verdict verdict)
judged_one goal Has Wrong has only = has
judged_one goal Has Unscored has only = only
judged_one goal Has (Scored score) has only = (has, λ other it. subst (λ v. IsNoBetter goal score v) (sym (only other it)) (not_better goal score))

-- nothing comes to anything
pub judged_none : (goal : Goal) (Has : Verdict → Type 0) → ((verdict : Verdict) → Has verdict → ⊥)
    → IsJudged goal Has (Some None)
judged_none goal Has none = λ verdict has. absurd (none verdict has)

-- none of those that are judged is wrong
pub none_wrong : (goal : Goal) (Has : Verdict → Type 0) (best : Option ℤ) → IsJudged goal Has (Some best) → Has Wrong → ⊥
none_wrong goal Has None judged has = wrong_apart (judged Wrong has)
none_wrong goal Has (Some score) judged has = judged.1 Wrong has

-- ---- one place after another

-- what comes to this stands at one of the places from `start` on and before `end`
abbrev pub HasAmong : (ℕ → Verdict → Type 0) → ℕ → ℕ → Verdict → Type 0
HasAmong At start end verdict = (place : ℕ) × (start ≤ place) × (place < end) × At place verdict

pub among_none : (goal : Goal) (At : ℕ → Verdict → Type 0) (start : ℕ) → IsJudged goal (HasAmong At start start) (Some None)
among_none goal At start = judged_none goal (HasAmong At start start) (λ verdict has. omega (arith, has.1, has.2))

pub among_more : (goal : Goal) (At : ℕ → Verdict → Type 0) (start end : ℕ) (one other best : Option ℤ) → start ≤ end
    → IsJudged goal (HasAmong At start end) (Some one) → IsJudged goal (At end) (Some other) → IsBetterOf goal one other best
    → IsJudged goal (HasAmong At start (end + 1)) (Some best)
among_more goal At start end one other best low a b is =
    judged_both goal (HasAmong At start end) (At end) (HasAmong At start (end + 1)) one other best a b is
    (λ verdict has. parts verdict has (le_or_lt end has.0))
    (λ verdict has. (has.0, has.1, omega (arith, has.2), has.3))
    (λ verdict has. (end, low, omega arith, has))
  where
    le_or_lt : (m k : ℕ) → (m ≤ k) ⊎ (k < m)
    le_or_lt m k = grind arith

    parts : (verdict : Verdict) (has : HasAmong At start (end + 1) verdict) → (end ≤ has.0) ⊎ (has.0 < end)
        → HasAmong At start end verdict ⊎ At end verdict
    parts verdict has (inl high) =
        let same : has.0 ≡ end = omega (arith, has.2, high) in
        inr (subst (λ n. At n verdict) same has.3)
    parts verdict has (inr below) = inl (has.0, has.1, below, has.3)
