use Rattle.std.proofs.Common.{inl, ◌≡◌, ℕ, suc, ◌+◌, ◌<◌, [], List, length, take, Option, MatchOption, slice_index_or, ◌∙◌, sym, subst, arith}
use Rattle.std.proofs.lemmas.List.{take_all}
use Rattle.std.specs.List.{AllByRecursion}
use Rattle.adp_model.specs.declared.fault.LimitFault.{LimitFault}
use Rattle.adp_model.specs.LimitFaults.{IsLimitFault}
use Rattle.verdicts.specs.WordLimits.{IsFirstLimit, IsLimitIn}
use Rattle.adp_main.specs.KeptLengths.{HaveKept}
use Rattle.verdicts.specs.Posed.{posed_words}
use Rattle.adp_main.specs.Reporting.{AreShort, IsAdmissibleIn}
use Rattle.adp_main.proofs.FirstLimit.{admissible-more, first_limit, first_limit-more, first_refused}
use Rattle.adp_main.proofs.KeptLengths.{have_all, one_more_word}
use Rattle.adp_main.proofs.SecondAlgebras.{first_fault}
use Rattle.adp_main.proofs.limits.judge_words.Goals as goal

pub loop-place-preserved : goal.loop-place-preserved
loop-place-preserved c =
    let command = c.args.command.now in
    let second = command.second in
    let grammar = c.args.job.now.checked.grammar in
    let algebra = c.args.job.now.checked.algebra in
    let place = c.loop-place.place in
    let judged = take c.within_cells-count.result.0 c.as_slice-words.result.now in
    let inside : place < length judged = omega (arith, c.loop-place-test.true) in
    let next : suc place ≡ place + 1 = omega arith in
    record {
      judged = subst (λ n. AllByRecursion (IsAdmissibleIn command) (posed_words grammar algebra (take n judged))) next
          (admissible-more command grammar algebra judged place c.index-judged-place.result inside c.index-judged-place.is
          c.loop-place.invariant.judged c.in-Ok.ensures.kept);
      each = c.in-Ok.ensures.each ∙ c.loop-place.invariant.each;
      lengths = c.in-Ok.ensures.lengths;
      bounds = one_more_word grammar algebra second c.loop-place.compiled.items c.judge_fully.new.compiled.items judged
          place c.index-judged-place.result inside c.index-judged-place.is c.in-Ok.ensures.stays c.in-Ok.ensures.bound
          c.loop-place.invariant.bounds;
    }

pub returns-in-Err-clause-fault : goal.returns-in-Err-clause-fault
returns-in-Err-clause-fault c =
    let command = c.args.command.now in
    let second = command.second in
    let grammar = c.args.job.now.checked.grammar in
    let algebra = c.args.job.now.checked.algebra in
    let words = c.as_slice-words.result.now in
    let count = c.within_cells-count.result.0 in
    rw c.limit_refusal.ensures
    (first_refused command grammar algebra c.args.job.now.words c.loop-place.place (length c.index-judged-place.result)
    c.in-Err.error
    (λ fault found. subst (λ (ws : List (List ℕ)). IsFirstLimit command grammar algebra 1 ws (c.loop-place.place + 1) fault)
    c.as_slice-words.ensures
    (first_limit-more command grammar algebra 1 count words (c.loop-place.place + 1) fault
    (first_limit command grammar algebra 1 (take count words) c.loop-place.place (c.loop-place.place + 1)
    c.index-judged-place.result fault (omega (arith, c.loop-place-test.true)) (omega arith) c.loop-place.invariant.judged
    (subst (λ (word : List ℕ). IsLimitIn command grammar algebra (length word) fault) c.index-judged-place.is found))))
    c.in-Err.ensures.fault)

pub returns-in-Some-clause-fault : goal.returns-in-Some-clause-fault
returns-in-Some-clause-fault c =
    let command = c.args.command.now in
    let second = command.second in
    let grammar = c.args.job.now.checked.grammar in
    let algebra = c.args.job.now.checked.algebra in
    let words = c.as_slice-words.result.now in
    let count = c.within_cells-count.result.0 in
    let found : (count < length words) × IsLimitFault grammar algebra (length (slice_index_or words count [])) c.in-Some.fault =
    subst (λ (r : Option LimitFault). MatchOption r (count ≡ length words)
    (λ fault. (count < length words) × IsLimitFault grammar algebra (length (slice_index_or words count [])) fault))
    c.in-Some.is c.within_cells-count.ensures.fault in
    rw c.limit.ensures
    (subst (λ (ws : List (List ℕ)). IsFirstLimit command grammar algebra 1 ws (count + 1) c.in-Some.fault)
    c.as_slice-words.ensures
    (first_limit command grammar algebra 1 words count (count + 1) [] c.in-Some.fault found.0 (omega arith)
    (subst (λ (ws : List (List ℕ)). AllByRecursion (IsAdmissibleIn command) (posed_words grammar algebra ws))
    (take_all c.loop-place.place (take count words) (omega (arith, c.loop-place-test.false))) c.loop-place.invariant.judged)
    (inl (first_fault c.args.job.now.checked (slice_index_or words count []) second c.args.job.now.second
    c.requires.second c.in-Some.fault found.1))))

pub returns-in-None-clause-bounds : goal.returns-in-None-clause-bounds
returns-in-None-clause-bounds c =
    let command = c.args.command.now in
    let second = command.second in
    let grammar = c.args.job.now.checked.grammar in
    let algebra = c.args.job.now.checked.algebra in
    let words = c.as_slice-words.result.now in
    let count = c.within_cells-count.result.0 in
    let all : count ≡ length words =
    subst (λ (r : Option LimitFault). MatchOption r (count ≡ length words)
    (λ fault. (count < length words) × IsLimitFault grammar algebra (length (slice_index_or words count [])) fault))
    c.in-None.is c.within_cells-count.ensures.fault in
    subst (HaveKept second grammar algebra c.loop-place.compiled.items) c.as_slice-words.ensures
    (have_all grammar algebra second c.loop-place.compiled.items words count c.loop-place.place all
    (omega (arith, c.loop-place-test.false)) c.loop-place.invariant.bounds)

pub returns-in-None-clause-known : goal.returns-in-None-clause-known
returns-in-None-clause-known c =
    let grammar = c.args.job.now.checked.grammar in
    let algebra = c.args.job.now.checked.algebra in
    let words = c.as_slice-words.result.now in
    let count = c.within_cells-count.result.0 in
    let all : count ≡ length words =
    subst (λ (r : Option LimitFault). MatchOption r (count ≡ length words)
    (λ fault. (count < length words) × IsLimitFault grammar algebra (length (slice_index_or words count [])) fault))
    c.in-None.is c.within_cells-count.ensures.fault in
    subst (AreShort c.in_ok-rows.rows.first.longest) c.as_slice-words.ensures
    (subst (λ n. AreShort n words) (sym c.in_ok-rows.ensures.longest)
    (subst (AreShort c.longest.result) (take_all count words (omega (arith, all))) c.longest.ensures.each))
