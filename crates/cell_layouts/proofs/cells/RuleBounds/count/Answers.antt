use Rattle.std.proofs.Common.{◌≡◌, ◌↔◌, ℕ, ◌+◌, ◌-◌, ◌*◌, ◌/◌, ◌≤◌, max, IfSome, sym, subst, arith}
use Rattle.adp_model.specs.Cells.{IsPlaceOf}
use Rattle.cell_layouts.proofs.CountedRules.{free_counted, left_counted, places_on, right_counted, spans_are, spans_within, whole_counted}
use Rattle.cell_layouts.proofs.cells.RuleBounds.count.Goals as goal

pub returns-in-true-true-clause-all : goal.returns-in-true-true-clause-all
returns-in-true-true-clause-all c grammar rule before are at =
    let len = c.args.len in
    let longest = c.longest-longest.result in
    let wide : c.from-len.result ≡ len = c.from-len.ensures in
    let told : (letters : ℕ) → letters ≤ len → IfSome c.args.self.greatest (λ most. letters ≤ most) ↔ (letters ≤ longest) =
    subst (λ n. (letters : ℕ) → letters ≤ n → IfSome c.args.self.greatest (λ most. letters ≤ most) ↔ (letters ≤ longest)) wide c.longest-longest.ensures.told in
    let counted = whole_counted c.args.self len (λ from k. IsPlaceOf grammar len (record { rule = rule; from = from; to = 0 }) k)
    (places_on grammar len rule c.args.self are (c.places_go_on.ensures.starts grammar len rule)) longest
    told (omega (arith, wide, c.longest-longest.ensures.in_word)) c.in-true-true.is-0 c.in-true-true.is-1 before at in
    let n : longest + 1 - max c.args.self.least len ≡ c.saturating_sub.result = omega (arith, wide, c.saturating_sub.ensures, c.max.ensures) in
    c.places_go_on.ensures.rules grammar len rule (before + c.saturating_sub.result)
    (subst (λ n. IsPlaceOf grammar len (record { rule = rule; from = len + 1; to = 0 }) (before + n)) n counted)

pub returns-in-false-false-clause-all : goal.returns-in-false-false-clause-all
returns-in-false-false-clause-all c grammar rule before are at =
    let len = c.args.len in
    let longest = c.longest-longest.result in
    let wide : c.from-len.result ≡ len = c.from-len.ensures in
    let told : (letters : ℕ) → letters ≤ len → IfSome c.args.self.greatest (λ most. letters ≤ most) ↔ (letters ≤ longest) =
    subst (λ n. (letters : ℕ) → letters ≤ n → IfSome c.args.self.greatest (λ most. letters ≤ most) ↔ (letters ≤ longest)) wide c.longest-longest.ensures.told in
    let in_word : longest ≤ len = omega (arith, wide, c.longest-longest.ensures.in_word) in
    let counted = free_counted c.args.self len (λ from k. IsPlaceOf grammar len (record { rule = rule; from = from; to = 0 }) k)
    (places_on grammar len rule c.args.self are (c.places_go_on.ensures.starts grammar len rule)) longest
    told in_word c.in-false-false.is-0 c.in-false-false.is-1 before at in
    let lengths : c.saturating_sub-lengths.result ≡ longest + 1 - c.args.self.least = omega (arith, c.saturating_sub-lengths.ensures) in
    let less : c.saturating_sub-in-false-false.result ≡ longest + 1 - c.args.self.least - 1 = omega (arith, lengths, c.saturating_sub-in-false-false.ensures) in
    let all : ℕ → ℕ → ℕ → ℕ = λ l w v. w * (l + 1 - longest) + w * v / 2 in
    let n : spans_within c.args.self.least longest len ≡ all c.from-len.result c.saturating_sub-lengths.result c.saturating_sub-in-false-false.result =
    subst (λ l. spans_within c.args.self.least longest len ≡ all l c.saturating_sub-lengths.result c.saturating_sub-in-false-false.result) (sym wide)
    (subst (λ w. spans_within c.args.self.least longest len ≡ all len w c.saturating_sub-in-false-false.result) (sym lengths)
    (subst (λ v. spans_within c.args.self.least longest len ≡ all len (longest + 1 - c.args.self.least) v) (sym less) (spans_are c.args.self.least longest len in_word))) in
    c.places_go_on.ensures.rules grammar len rule (before + all c.from-len.result c.saturating_sub-lengths.result c.saturating_sub-in-false-false.result)
    (subst (λ n. IsPlaceOf grammar len (record { rule = rule; from = len + 1; to = 0 }) (before + n)) n counted)

pub returns-in-true-false-clause-all : goal.returns-in-true-false-clause-all
returns-in-true-false-clause-all c grammar rule before are at =
    let len = c.args.len in
    let longest = c.longest-longest.result in
    let wide : c.from-len.result ≡ len = c.from-len.ensures in
    let told : (letters : ℕ) → letters ≤ len → IfSome c.args.self.greatest (λ most. letters ≤ most) ↔ (letters ≤ longest) =
    subst (λ n. (letters : ℕ) → letters ≤ n → IfSome c.args.self.greatest (λ most. letters ≤ most) ↔ (letters ≤ longest)) wide c.longest-longest.ensures.told in
    let counted = left_counted c.args.self len (λ from k. IsPlaceOf grammar len (record { rule = rule; from = from; to = 0 }) k)
    (places_on grammar len rule c.args.self are (c.places_go_on.ensures.starts grammar len rule)) longest
    told (omega (arith, wide, c.longest-longest.ensures.in_word)) c.in-true-false.is-0 c.in-true-false.is-1 before at in
    let n : longest + 1 - c.args.self.least ≡ c.saturating_sub-lengths.result = omega (arith, c.saturating_sub-lengths.ensures) in
    c.places_go_on.ensures.rules grammar len rule (before + c.saturating_sub-lengths.result)
    (subst (λ n. IsPlaceOf grammar len (record { rule = rule; from = len + 1; to = 0 }) (before + n)) n counted)

pub returns-in-true-false-2-clause-all : goal.returns-in-true-false-2-clause-all
returns-in-true-false-2-clause-all c grammar rule before are at =
    let len = c.args.len in
    let longest = c.longest-longest.result in
    let wide : c.from-len.result ≡ len = c.from-len.ensures in
    let told : (letters : ℕ) → letters ≤ len → IfSome c.args.self.greatest (λ most. letters ≤ most) ↔ (letters ≤ longest) =
    subst (λ n. (letters : ℕ) → letters ≤ n → IfSome c.args.self.greatest (λ most. letters ≤ most) ↔ (letters ≤ longest)) wide c.longest-longest.ensures.told in
    let counted = right_counted c.args.self len (λ from k. IsPlaceOf grammar len (record { rule = rule; from = from; to = 0 }) k)
    (places_on grammar len rule c.args.self are (c.places_go_on.ensures.starts grammar len rule)) longest
    told (omega (arith, wide, c.longest-longest.ensures.in_word)) c.in-true-false.is-0 c.in-true-false.is-1 before at in
    let n : longest + 1 - c.args.self.least ≡ c.saturating_sub-lengths.result = omega (arith, c.saturating_sub-lengths.ensures) in
    c.places_go_on.ensures.rules grammar len rule (before + c.saturating_sub-lengths.result)
    (subst (λ n. IsPlaceOf grammar len (record { rule = rule; from = len + 1; to = 0 }) (before + n)) n counted)
