use Rattle.std.proofs.Common.{◌≡◌, ℕ, ◌+◌, ◌<◌, ◌≤◌, Vec, Global, List, [], ◌∷◌, ◌++◌, length, get_or, ap, sym, subst, ◌∙◌, arith}
use Rattle.std.specs.List.{Contains}
use Rattle.std.proofs.lemmas.Bool.{false≢true}
use Rattle.std.proofs.lemmas.List.{length_push}
use Rattle.adp_model.specs.declared.grammar.Arg.{Arg}
use Rattle.adp_model.specs.PosedProblem.{PosedProblem}
use Rattle.viable_splits.specs.Placing.{Cover}
use Rattle.split_lines.specs.Flags.{AreBits}
use Rattle.split_lines.specs.Matching.{AreMatchPositions, AreCounts, AreLimitsOf}
use Rattle.split_lines.proofs.Matched.{no_counts, one_count_more, one_position_more, no_positions, positions_below, one_match_more, no_match_there}
use Rattle.split_lines.proofs.TokenSpans.{cover_within}
use Rattle.split_lines.proofs.matches.Matches.new.Goals as goal
use Rattle.split_lines.proofs.matches.Matches.new.Goals.{then-end-len+then-cover_there+in_ok-push-2, else-end-len, else-end-len-via-then-end-len+else-cover_there, else-end-len-via-else-end-len}

pub loop-position-init : goal.loop-position-init
loop-position-init c =
    let p = c.args.tables.now in
    let positions_are = c.new-positions.ensures.items in
    let before_are = c.in_ok-before.ensures.items in
    let M : List ℕ → Type 0 = AreMatchPositions p c.args.tokens.now c.fixed_letters-width.result 0 in
    let C : List ℕ → List ℕ → Type 0 = AreCounts in
    record {
      positions = subst M (sym {A = List ℕ} positions_are) (no_positions p c.args.tokens.now c.fixed_letters-width.result);
      each = ap length before_are;
      before = subst (λ positions. C positions c.in_ok-before.before.items) (sym {A = List ℕ} positions_are) (subst (C []) (sym {A = List ℕ} before_are) no_counts);
      few = omega (arith, ap length positions_are);
    }

-- the counts with one more
counted : (positions before new : List ℕ) (count : ℕ) (past : ℕ) → AreCounts positions before → length before ≡ past → ((number : ℕ) → number < length positions → get_or positions number 0 < past) → count ≡ length positions → new ≡ before ++ count ∷ [] → AreCounts positions new
counted positions before new count past counts each below count_is new_is =
    let P : List ℕ → Type 0 = AreCounts positions in
    let longer = one_count_more positions before counts (λ number l. omega (arith, each, below number l)) in
    subst P (sym (new_is ∙ ap (λ n. before ++ n ∷ []) count_is)) longer

-- the invariant, where these are the positions and the counts now
step : (p : PosedProblem) (tokens : List Arg) (width position : ℕ) (made items numbers : List ℕ) → items ≡ made → AreMatchPositions p tokens width (position + 1) made → length numbers ≡ position + 1 → AreCounts made numbers → length made ≤ position + 1
    → record { positions : AreMatchPositions p tokens width (position + 1) items; each : length numbers ≡ position + 1; before : AreCounts items numbers; few : length items ≤ position + 1 }
step p tokens width position made items numbers are matched as_many counts short =
    let M : List ℕ → Type 0 = AreMatchPositions p tokens width (position + 1) in
    let C : List ℕ → Type 0 = λ it. AreCounts it numbers in
    record { positions = subst M (sym are) matched; each = as_many; before = subst C (sym are) counts; few = omega (arith, short, ap length are) }

pub loop-position-preserved : goal.loop-position-preserved
loop-position-preserved c =
    let p = c.args.tables.now in
    let tokens = c.args.tokens.now in
    let width = c.fixed_letters-width.result in
    let position = c.loop-position.position in
    let positions = c.loop-position.positions.items in
    let kept = c.loop-position.invariant in
    let len_is : length c.letters-len.result.now ≡ length p.word = ap length c.letters-len.ensures.word ∙ ap (λ (p : PosedProblem). length p.word) c.problem-problem.ensures in
    let before = counted positions c.loop-position.before.items c.push.new.self.items c.len.result position kept.before kept.each (λ number. positions_below p tokens width position positions kept.positions number 0) (omega (arith, c.len.ensures)) c.in_ok-push.ensures.items in
    let each : length c.push.new.self.items ≡ position + 1 = omega (arith, c.in_ok-push.ensures.len, kept.each) in
    elim c.if-end-len.branch [
      | then-end-len+then-cover_there+in_ok-push-2 w ↦
          let items_are : c.if-end-len.positions.items ≡ positions ++ position ∷ [] = ap (λ (v : Vec ℕ Global). v.items) w.positions-is ∙ w.in_ok-push-2.ensures.items in
          let cover : Cover p tokens position (position + width) = w.cover_there.ensures.0 w.if-cover_there.true in
          step p tokens width position (positions ++ position ∷ []) c.if-end-len.positions.items c.push.new.self.items items_are (one_match_more p tokens width position positions kept.positions cover) each (one_position_more positions c.push.new.self.items position before (omega (arith, each))) (omega (arith, length_push positions position, kept.few))
      | else-end-len w ↦
          let items_are : c.if-end-len.positions.items ≡ positions = ap (λ (v : Vec ℕ Global). v.items) w.positions-is in
          let none : Cover p tokens position (position + width) → ⊥ =
          elim w.else-end-len.branch [
            | else-end-len-via-then-end-len+else-cover_there w' ↦ λ cover. false≢true (sym w'.if-cover_there.false ∙ w'.cover_there.ensures.1 cover)
            | else-end-len-via-else-end-len w' ↦ λ cover. let within = cover_within p tokens position (position + width) (omega (arith, len_is)) cover in absurd (omega (arith, within, w'.if-end-len.false, len_is))
          ] in
          step p tokens width position positions c.if-end-len.positions.items c.push.new.self.items items_are (no_match_there p tokens width position positions kept.positions none) each before (omega (arith, kept.few))
    ]

pub returns : goal.returns
returns c =
    let p = c.args.tables.now in
    let tokens = c.args.tokens.now in
    let width = c.fixed_letters-width.result in
    let position = c.loop-position.position in
    let positions = c.loop-position.positions.items in
    let kept = c.loop-position.invariant in
    let len_is : length c.letters-len.result.now ≡ length p.word = ap length c.letters-len.ensures.word ∙ ap (λ (p : PosedProblem). length p.word) c.problem-problem.ensures in
    let past : position ≡ length p.word + 1 = omega (arith, len_is) in
    let M : ℕ → Type 0 = λ past. AreMatchPositions p tokens width past positions in
    let P : List ℕ → Type 0 = λ told. AreLimitsOf (length c.letters-len.result.now + 1) told c.in_ok-limits.limits.items in
    let F : ℕ → Type 0 = λ count. AreLimitsOf count positions c.in_ok-limits.limits.items in
    let limits : F (length c.letters-len.result.now + 1) = subst P c.deref.ensures.value c.in_ok-limits.ensures in
    record {
      letters = c.fixed_letters-width.ensures.letters p (omega (arith, len_is, c.letters-len.ensures.few));
      positions = subst M past kept.positions;
      each = omega (arith, c.in_ok-push-3.ensures.len, kept.each, past);
      before = counted positions c.loop-position.before.items c.push-2.new.self.items c.len-2.result position kept.before kept.each (λ number. positions_below p tokens width position positions kept.positions number 0) (omega (arith, c.len-2.ensures)) c.in_ok-push-3.ensures.items;
      limits = subst F (omega (arith, len_is)) limits;
      here = subst (λ told. AreBits told 0 c.in_ok-here.here.items) c.deref-2.ensures.value c.in_ok-here.ensures;
      behind = subst (λ told. AreBits told width c.in_ok-behind.behind.items) c.deref-3.ensures.value c.in_ok-behind.ensures;
    }

pub limits_of-requires : goal.limits_of-requires
limits_of-requires c = λ position there.
    let C : List ℕ → Type 0 = λ positions. Contains positions position in
    let below = ((c.loop-position.invariant.positions.exact position).0 (subst C c.deref.ensures.value there)).0 in
    omega (arith, below)

pub bits_of-requires-clause-within : goal.bits_of-requires-clause-within
bits_of-requires-clause-within c = λ position there.
    let C : List ℕ → Type 0 = λ positions. Contains positions position in
    let below = ((c.loop-position.invariant.positions.exact position).0 (subst C c.deref-2.ensures.value there)).0 in
    omega (arith, below)

pub bits_of-requires-2-clause-within : goal.bits_of-requires-2-clause-within
bits_of-requires-2-clause-within c = λ position there.
    let p = c.args.tables.now in
    let C : List ℕ → Type 0 = λ positions. Contains positions position in
    let len_is : length c.letters-len.result.now ≡ length p.word = ap length c.letters-len.ensures.word ∙ ap (λ (p : PosedProblem). length p.word) c.problem-problem.ensures in
    let found = (c.loop-position.invariant.positions.exact position).0 (subst C c.deref-3.ensures.value there) in
    let within = cover_within p c.args.tokens.now position (position + c.fixed_letters-width.result) (omega (arith, found.0, len_is)) found.1 in
    omega (arith, within, len_is)
