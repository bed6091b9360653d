-- Reports that were written, and those that are still to come.
use Rattle.std.proofs.Common.{◌≡◌, ℕ, zero, suc, ◌+◌, ◌<◌, List, [], ◌∷◌, ◌++◌, length, take, drop, get_or, Option, None, refl, sym, ap, subst, ◌∙◌, arith}
use Rattle.std.specs.List.{concat, AllByRecursion}
use Rattle.std.specs.Io.KnownBytes.{Appends}
use Rattle.std.proofs.KnownBytes.{Appends-trans}
use Rattle.std.proofs.lemmas.List.{append-nil, append_assoc, take-append-drop, take_more, take_at, length-take-le, length-append, take-append-le}
use Rattle.std.proofs.lemmas.List.Folds.{concat-append}
use Rattle.adp_io.specs.Streams.{AppendsProperPrefix}
use Rattle.adp_model.specs.PosedProblem.{PosedProblem}
use Rattle.verdicts.specs.Command.{Command}
use Rattle.verdicts.specs.SecondAlgebra.{IsAdmissibleWith}
use Rattle.verdicts.specs.Verdict.{IsReportIn}
use Rattle.adp_main.specs.Reporting.{AreReportsOf}

all_behind : (P : PosedProblem → Type 0) (k : ℕ) (ps : List PosedProblem) → AllByRecursion P ps → AllByRecursion P (drop k ps)
all_behind P zero ps h = h
all_behind P (suc k) [] h = tt
all_behind P (suc k) (p ∷ ps) h = all_behind P k ps h.1

concat_more : (rs : List (List ℕ)) (report : List ℕ) → concat (rs ++ report ∷ []) ≡ concat rs ++ report
concat_more rs report = concat-append rs (report ∷ []) ∙ ap (λ l. concat rs ++ l) (append-nil report)

pub grew_more : (rs : List (List ℕ)) (report bytes : List ℕ) → bytes ≡ report → (old mid new : Option (List ℕ)) → Appends old mid (concat rs)
    → Appends mid new bytes → Appends old new (concat (rs ++ report ∷ []))
grew_more rs report bytes e old mid new before here =
    subst (Appends old new) (ap (λ l. concat rs ++ l) e ∙ sym (concat_more rs report)) (Appends-trans old mid new (concat rs) bytes before here)

pub take_past : (a b : List ℕ) (c n : ℕ) → n ≡ length a + c → take n (a ++ b) ≡ a ++ take c b
take_past [] b c n e = let f : n ≡ c = omega arith in ap (λ m. take m b) f
take_past (x ∷ a) b c zero e = absurd (omega arith)
take_past (x ∷ a) b c (suc n) e = ap (λ l. x ∷ l) (take_past a b c n (omega arith))

-- each admissible word has a report that the command asks for
abbrev pub AllReported : Command → Type 0
AllReported command = (number : ℕ) (p : PosedProblem) → IsAdmissibleWith command.second p
    → (report : List ℕ) × IsReportIn command None number p report

module _ (command : Command) where
  -- reports of some problems, and of those behind them
  joined : (number : ℕ) (ps qs : List PosedProblem) (rs ss : List (List ℕ)) → AreReportsOf command number ps rs
      → AreReportsOf command (number + length ps) qs ss → AreReportsOf command number (ps ++ qs) (rs ++ ss)
  joined number [] qs [] ss h k = let e : number + 0 ≡ number = omega arith in subst (λ n. AreReportsOf command n qs ss) e k
  joined number [] qs (r ∷ rs) ss h k = absurd h
  joined number (p ∷ ps) qs [] ss h k = absurd h
  joined number (p ∷ ps) qs (r ∷ rs) ss h k =
      let e : number + length (p ∷ ps) ≡ number + 1 + length ps = omega arith in
      (h.0, joined (number + 1) ps qs rs ss h.1 (subst (λ n. AreReportsOf command n qs ss) e k))

  some_reports : AllReported command → (number : ℕ) (ps : List PosedProblem) → AllByRecursion (IsAdmissibleWith command.second) ps → (rs : List (List ℕ)) × AreReportsOf command number ps rs
  some_reports each number [] h = ([], tt)
  some_reports each number (p ∷ ps) h =
      let first = each number p h.0 in
      let others = some_reports each (number + 1) ps h.1 in
      (first.0 ∷ others.0, (first.1, others.1))

  -- the reports of the first problems go on to reports of all
  completed : AllReported command → (ps : List PosedProblem) (k : ℕ) → AllByRecursion (IsAdmissibleWith command.second) ps → (rs : List (List ℕ))
      → AreReportsOf command 1 (take k ps) rs → (rest : List (List ℕ)) × AreReportsOf command 1 ps (rs ++ rest)
  completed each ps k admissible rs written =
      let rest = some_reports each (1 + length (take k ps)) (drop k ps) (all_behind (IsAdmissibleWith command.second) k ps admissible) in
      (rest.0, subst (λ qs. AreReportsOf command 1 qs (rs ++ rest.0)) (take-append-drop k ps) (joined 1 (take k ps) (drop k ps) rs rest.0 written rest.1))

  -- want of memory after the first reports
  pub stopped : AllReported command → (ps : List PosedProblem) (k : ℕ) → AllByRecursion (IsAdmissibleWith command.second) ps → (rs : List (List ℕ))
      → AreReportsOf command 1 (take k ps) rs → (old new : Option (List ℕ)) → Appends old new (concat rs)
      → (reports : List (List ℕ)) × AreReportsOf command 1 ps reports × ((count : ℕ) × Appends old new (concat (take count reports)))
  stopped each ps k admissible rs written old new grew =
      let rest = completed each ps k admissible rs written in
      (rs ++ rest.0, rest.1, (length rs, subst (λ l. Appends old new (concat l)) (sym (take_at rs rest.0 (length rs) refl)) grew))

  -- one more report
  pub one_more : (ps : List PosedProblem) (k : ℕ) (p : PosedProblem) → k < length ps → p ≡ get_or ps k p → (rs : List (List ℕ))
      → AreReportsOf command 1 (take k ps) rs → (report : List ℕ) → IsReportIn command None (k + 1) p report
      → AreReportsOf command 1 (take (k + 1) ps) (rs ++ report ∷ [])
  one_more ps k p below is rs written report reported =
      let e : k + 1 ≡ 1 + length (take k ps) = omega (arith, length-take-le k ps (omega arith)) in
      let more : take (k + 1) ps ≡ take k ps ++ p ∷ [] = take_more ps k p below ∙ ap (λ q. take k ps ++ q ∷ []) (sym is) in
      subst (λ qs. AreReportsOf command 1 qs (rs ++ report ∷ [])) (sym more)
      (joined 1 (take k ps) (p ∷ []) rs (report ∷ []) written (subst (λ n. IsReportIn command None n p report) e reported, tt))

  -- a write failed within the next report
  pub broken : AllReported command → (ps : List PosedProblem) (k : ℕ) (p : PosedProblem) → k < length ps → p ≡ get_or ps k p → AllByRecursion (IsAdmissibleWith command.second) ps
      → (rs : List (List ℕ)) → AreReportsOf command 1 (take k ps) rs
      → (report bytes : List ℕ) → IsReportIn command None (k + 1) p report → bytes ≡ report → (old mid new : Option (List ℕ)) → Appends old mid (concat rs) → AppendsProperPrefix mid new bytes
      → (reports : List (List ℕ)) × AreReportsOf command 1 ps reports × AppendsProperPrefix old new (concat reports)
  broken each ps k p below is admissible rs written report bytes reported e old mid new before part =
      let rest = completed each ps (k + 1) admissible (rs ++ report ∷ []) (one_more ps k p below is rs written report reported) in
      let whole : concat ((rs ++ report ∷ []) ++ rest.0) ≡ concat rs ++ (bytes ++ concat rest.0) =
      concat-append (rs ++ report ∷ []) rest.0 ∙ ap (λ l. l ++ concat rest.0) (concat_more rs report ∙ ap (λ l. concat rs ++ l) (sym e)) ∙ append_assoc (concat rs) bytes (concat rest.0) in
      let few : part.0 < length bytes = part.1 in
      let count : ℕ = length (concat rs) + part.0 in
      let shown : take count (concat rs ++ (bytes ++ concat rest.0)) ≡ concat rs ++ take part.0 bytes =
      take_past (concat rs) (bytes ++ concat rest.0) part.0 count refl ∙ ap (λ l. concat rs ++ l) (take-append-le part.0 bytes (concat rest.0) (omega arith)) in
      let proper : AppendsProperPrefix old new (concat rs ++ (bytes ++ concat rest.0)) = (
        count,
        omega (arith, length-append (concat rs) (bytes ++ concat rest.0), length-append bytes (concat rest.0)),
        subst (Appends old new) (sym shown) (Appends-trans old mid new (concat rs) (take part.0 bytes) before part.2),
      ) in
      ((rs ++ report ∷ []) ++ rest.0, rest.1, subst (AppendsProperPrefix old new) (sym whole) proper)
