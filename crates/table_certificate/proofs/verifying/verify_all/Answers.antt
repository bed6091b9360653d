use Rattle.std.proofs.Common.{ℕ, ◌+◌, ◌<◌, ◌≤◌, ℤ, Option, Some, List, [], ◌∷◌, ◌++◌, length, take, sym, ap, subst, ◌∙◌, arith}
use Rattle.adp_model.specs.declared.grammar.Grammar.{Grammar}
use Rattle.adp_model.specs.PosedProblem.{PosedProblem}
use Rattle.adp_model.specs.ProblemFields.{KeepsLimits}
use Rattle.grammar_check.specs.CheckedGrammar.{CheckedGrammar}
use Rattle.table_certificate.specs.CertificateLines.{forms_of}
use Rattle.table_certificate.specs.BlockLines.{IsOutcome, IsWithin}
use Rattle.table_certificate.specs.Verified.{IsBehindCert, problems_of}
use Rattle.table_certificate.proofs.Accepting.{IsReached, all_admissible, all_right, all_told, bytes_left, false_ahead, first_reached, get_problem, length-problems, more_reached, no_bytes, problem_for, rejection, take_problem}
use Rattle.table_certificate.proofs.SplitLines.{some_bytes}
use Rattle.table_certificate.proofs.verifying.verify_all.Goals as goal
use Rattle.table_certificate.proofs.verifying.verify_all.Goals.{In-FirstFalse}

pub loop-index-init : goal.loop-index-init
loop-index-init c =
    let checked = c.args.checked.now in
    let words = c.args.words.now in
    let bytes = c.args.bytes.now in
    let G = ap (λ (q : CheckedGrammar). q.grammar) c.checked.view_is in
    let behind = c.in-Ok.behind.now in
    subst (λ (xs : List (Option ℤ)). IsReached checked words bytes behind 1 0 xs) (sym c.new-values.ensures.items)
    (first_reached checked words bytes behind (subst (λ (g : Grammar). IsBehindCert g bytes behind) G c.in-Ok.ensures))

pub problem_of-requires : goal.problem_of-requires
problem_of-requires c =
    subst (λ (word : List ℕ). KeepsLimits c.args.checked.now.grammar c.args.checked.now.algebra (length word)) (sym c.index-words-index.is)
    (c.requires.limits c.loop-index.index c.index-words-index.result c.loop-index-test.true)

-- the place of the first false line is told by a short number
short : (c : In-FirstFalse) → c.loop-index.place + c.in-FirstFalse.count ≤ 2147483648
short c =
    let within = subst (IsWithin c.loop-index.rest.now) c.in-FirstFalse.is c.in_ok-count.ensures.within in
    omega (arith, within, c.loop-index.invariant.fewer, c.requires.few)

pub overflow_add-place : goal.overflow_add-place
overflow_add-place c = let low = short c in omega (arith, low)

pub false_line-requires-in-FirstFalse : goal.false_line-requires-in-FirstFalse
false_line-requires-in-FirstFalse c = let low = short c in omega (arith, low)

pub returns-in-FirstFalse-clause-rejected : goal.returns-in-FirstFalse-clause-rejected
returns-in-FirstFalse-clause-rejected c =
    let checked = c.args.checked.now in
    let words = c.args.words.now in
    let bytes = c.args.bytes.now in
    let p = c.in_ok-problem.problem in
    let index = c.loop-index.index in
    let word = c.index-words-index.result in
    let grammar = ap (λ (q : PosedProblem). q.grammar) c.in_ok-problem.ensures in
    let same = ap (problem_for checked) (sym c.index-words-index.is) ∙ sym c.in_ok-problem.ensures in
    let owner = get_problem checked words index word c.loop-index-test.true ∙ ap Some same in
    let more : index < length (problems_of checked words) = omega (arith, c.loop-index-test.true, length-problems checked words) in
    let ahead = subst (IsOutcome p (index + 1) c.loop-index.rest.now) c.in-FirstFalse.is c.in_ok-count.ensures.outcome in
    rejection (problems_of checked words) (forms_of checked.grammar bytes) (c.loop-index.place + c.in-FirstFalse.count) c.false_line-in-FirstFalse.result c.false_line-in-FirstFalse.ensures
    (false_ahead checked words bytes c.loop-index.rest.now c.loop-index.place index c.loop-index.values.items c.loop-index.invariant p grammar owner more c.in-FirstFalse.count ahead)

pub loop-index-preserved : goal.loop-index-preserved
loop-index-preserved c =
    let checked = c.args.checked.now in
    let words = c.args.words.now in
    let bytes = c.args.bytes.now in
    let p = c.in_ok-problem.problem in
    let index = c.loop-index.index in
    let word = c.index-words-index.result in
    let grammar = ap (λ (q : PosedProblem). q.grammar) c.in_ok-problem.ensures in
    let same = ap (problem_for checked) (sym c.index-words-index.is) ∙ sym c.in_ok-problem.ensures in
    let owner = get_problem checked words index word c.loop-index-test.true ∙ ap Some same in
    let more : index < length (problems_of checked words) = omega (arith, c.loop-index-test.true, length-problems checked words) in
    let behind = c.in-Right.behind.now in
    let front = take_problem checked words index word c.loop-index-test.true ∙ ap (λ (q : PosedProblem). take index (problems_of checked words) ++ q ∷ []) same in
    let block = subst (IsOutcome p (index + 1) c.loop-index.rest.now) c.in-Right.is c.in_ok-count.ensures.outcome in
    subst (λ (xs : List (Option ℤ)). IsReached checked words bytes behind (c.loop-index.place + c.in-Right.lines) (index + 1) xs) (sym c.in_ok-push-in-Right.ensures.items)
    (more_reached checked words bytes c.loop-index.rest.now c.loop-index.place index c.loop-index.values.items c.loop-index.invariant p grammar owner front more c.in-Right.value c.in-Right.lines behind block)

pub returns-then-is_empty-clause-right : goal.returns-then-is_empty-clause-right
returns-then-is_empty-clause-right c =
    let checked = c.args.checked.now in
    let words = c.args.words.now in
    let bytes = c.args.bytes.now in
    let last : length (problems_of checked words) ≤ c.loop-index.index = omega (arith, c.loop-index-test.false, length-problems checked words) in
    all_right checked words bytes c.loop-index.rest.now c.loop-index.place c.loop-index.index c.loop-index.values.items c.loop-index.invariant last
    (no_bytes c.loop-index.rest.now c.if-is_empty.ensures)

pub returns-then-is_empty-clause-told : goal.returns-then-is_empty-clause-told
returns-then-is_empty-clause-told c =
    let checked = c.args.checked.now in
    let words = c.args.words.now in
    let bytes = c.args.bytes.now in
    let last : length (problems_of checked words) ≤ c.loop-index.index = omega (arith, c.loop-index-test.false, length-problems checked words) in
    all_told checked words bytes c.loop-index.rest.now c.loop-index.place c.loop-index.index c.loop-index.values.items c.loop-index.invariant last
    (no_bytes c.loop-index.rest.now c.if-is_empty.ensures)

pub returns-then-is_empty-clause-best : goal.returns-then-is_empty-clause-best
returns-then-is_empty-clause-best c =
    let checked = c.args.checked.now in
    let words = c.args.words.now in
    let bytes = c.args.bytes.now in
    let last : length (problems_of checked words) ≤ c.loop-index.index = omega (arith, c.loop-index-test.false, length-problems checked words) in
    let none = no_bytes c.loop-index.rest.now c.if-is_empty.ensures in
    c.right_certificates_tell_best_scores.ensures (problems_of checked words) (forms_of checked.grammar bytes) c.loop-index.values.items
    (all_admissible checked words c.passes.ensures c.requires.limits)
    (all_right checked words bytes c.loop-index.rest.now c.loop-index.place c.loop-index.index c.loop-index.values.items c.loop-index.invariant last none)
    (all_told checked words bytes c.loop-index.rest.now c.loop-index.place c.loop-index.index c.loop-index.values.items c.loop-index.invariant last none)

pub returns-else-is_empty-clause-rejected : goal.returns-else-is_empty-clause-rejected
returns-else-is_empty-clause-rejected c =
    let checked = c.args.checked.now in
    let words = c.args.words.now in
    let bytes = c.args.bytes.now in
    let last : length (problems_of checked words) ≤ c.loop-index.index = omega (arith, c.loop-index-test.false, length-problems checked words) in
    rejection (problems_of checked words) (forms_of checked.grammar bytes) c.loop-index.place c.false_line-else-is_empty.result c.false_line-else-is_empty.ensures
    (bytes_left checked words bytes c.loop-index.rest.now c.loop-index.place c.loop-index.index c.loop-index.values.items c.loop-index.invariant last
    (some_bytes c.loop-index.rest.now c.if-is_empty.ensures))
