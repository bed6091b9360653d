use Rattle.std.proofs.Common.{◌≡◌, ℕ, ◌<◌, Bool, true, false, refl, sym, rules}
use Rattle.std.specs.Prelude.{◌==◌}
use Rattle.adp_model.specs.Parts.{arguments_of}
use Rattle.split_lines.proofs.NextMatches.{none_next, first_next}
use Rattle.split_lines.proofs.lines.LinesMatcher.next_position.Goals as goal

none_left : (count : ℕ) (empty : Bool) → empty ≡ (count == 0) → empty ≡ true → count ≡ 0
none_left count empty told is = search rules

some_left : (count : ℕ) (empty : Bool) → empty ≡ (count == 0) → empty ≡ false → 0 < count
some_left count empty told is = search rules

pub returns-then-is_empty : goal.returns-then-is_empty
returns-then-is_empty c =
    let p = c.args.self.now in
    let all = arguments_of p.grammar c.args.rule c.args.alt in
    let line = c.in-Some.line in
    none_next p all line.first c.args.number line.between line.middle.now (sym c.if-line-number.false) c.in-Some.ensures.has_line c.in-Some.ensures.middle c.args.start c.args.end c.requires.within c.between-positions.result.now c.between-positions.ensures.exact c.between-positions.ensures.rising (none_left _ _ c.is_empty.ensures c.if-is_empty.true)

pub returns-else-is_empty : goal.returns-else-is_empty
returns-else-is_empty c =
    let p = c.args.self.now in
    let all = arguments_of p.grammar c.args.rule c.args.alt in
    let line = c.in-Some.line in
    first_next p all line.first c.args.number line.between line.middle.now (sym c.if-line-number.false) c.in-Some.ensures.has_line c.in-Some.ensures.middle c.args.start c.args.end c.requires.within c.between-positions.result.now c.between-positions.ensures.exact c.between-positions.ensures.rising _ (some_left _ _ c.is_empty.ensures c.if-is_empty.false) refl
