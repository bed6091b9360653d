-- Words that are reported a group at a time, or one by one.
use Rattle.std.proofs.Common.{◌≡◌, ℕ, zero, suc, ◌+◌, ◌<◌, ◌≤◌, List, [], ◌∷◌, ◌++◌, length, take, drop, get_or, Option, None, Some, Result, Ok, Err, refl, sym, ap, subst, ◌∙◌, arith, length-append, length-drop}
use Rattle.std.specs.List.{concat, All, AllByRecursion, AllZip}
use Rattle.std.specs.Io.KnownBytes.{Appends}
use Rattle.std.proofs.KnownBytes.{Appends-nil, Appends-trans}
use Rattle.std.proofs.Math.Seq.{take-nil}
use Rattle.std.proofs.lemmas.List.{append-nil, take_more, length-take-le, take-append-le, get_or_append_left, get_or-drop, get_or-map, get_or_default, length-map, drop-map}
use Rattle.std.proofs.lemmas.List.Folds.{concat-append}
use Rattle.std.proofs.lemmas.List.Sums.{sum_by_push}
use Rattle.adp_model.specs.Bounds.{IsNodeBound}
use Rattle.adp_model.specs.Cells.{IsCellBound}
use Rattle.adp_model.specs.PosedProblem.{PosedProblem}
use Rattle.adp_model.specs.declared.grammar.Grammar.{Grammar}
use Rattle.grammar_check.specs.CheckedGrammar.{CheckedGrammar}
use Rattle.split_lines.specs.Shared.{without_word}
use Rattle.verdicts.specs.Posed.{posed_word, posed_words}
use Rattle.verdicts.specs.declared.command.Mode.{Mode}
use Rattle.verdicts.specs.declared.command.Mode.TheVariants.{Best, Cert, KBest, Lex, Serial}
use Rattle.verdicts.specs.Command.{Command}
use Rattle.verdicts.specs.SecondAlgebra.{IsAdmissibleWith}
use Rattle.verdicts.specs.Verdict.{IsReportWith}
use Rattle.evaluators.specs.declared.finished.Finished.{Finished}
use Rattle.evaluators.specs.declared.finished.RunNote.{RunNote}
use Rattle.report.specs.declared.fault.Fault.{Fault}
use Rattle.adp_main.specs.declared.status.Status.TheVariants.{Done}
use Rattle.adp_main.specs.declared.lex.Compiled.{Compiled}
use Rattle.adp_main.specs.Faults.{status_of}
use Rattle.adp_main.specs.FirstWords.{AreFirstEnding, AreReported, IsReportedUpTo}
use Rattle.adp_main.specs.Groups.{HaveCells, HaveNodes, IsEvaluated, IsGrouped, IsSolvedFor, common_of}
use Rattle.adp_main.specs.Reporting.{AreReportsOf, HasWritten}
use Rattle.adp_main.specs.RunNotes.{AreNoted, IsRunOf}
use Rattle.adp_main.specs.Writing.{IsRunWith, IsWordEnding}
use Rattle.adp_main.proofs.CompiledWords.{is_compiled}
use Rattle.adp_main.proofs.FirstLimit.{posed_at}
use Rattle.adp_main.proofs.Running.{adds_more, adds_none, all_noted, compiled_run, evaluated_word, failed_noted, failed_written, run_reports, runs_joined}
use Rattle.adp_main.proofs.Written.{AllReported}

-- ---- lists

-- some items, and some more behind them
pub take_further : {A : Type 0} (k count : ℕ) (xs : List A) → take k xs ++ take count (drop k xs) ≡ take (k + count) xs
take_further zero count xs = let e : count ≡ 0 + count = omega arith in ap (λ n. take n xs) e
take_further (suc k) count [] = take-nil count ∙ sym (take-nil (suc k + count))
take_further (suc k) count (x ∷ xs) =
    let e : suc k + count ≡ suc (k + count) = omega arith in
    ap (λ ys. x ∷ ys) (take_further k count xs) ∙ ap (λ n. take n (x ∷ xs)) (sym e)

-- two lists at one place
read_both : {A B : Type 0} (R : A → B → Type 0) (xs : List A) (ys : List B) (k : ℕ) (x : A) (y : B) → AllZip R xs ys
    → k < length xs → R (get_or xs k x) (get_or ys k y)
read_both R [] ys k x y all inside = absurd (omega (arith, inside))
read_both R (a ∷ xs) [] k x y all inside = absurd all
read_both R (a ∷ xs) (b ∷ ys) zero x y all inside = all.0
read_both R (a ∷ xs) (b ∷ ys) (suc k) x y all inside = read_both R xs ys k x y all.1 (omega (arith, inside))

pub zip_at : {A B : Type 0} (R : A → B → Type 0) (xs : List A) (ys : List B) (k : ℕ) (x : A) (y : B) → AllZip R xs ys
    → k < length xs → x ≡ get_or xs k x → y ≡ get_or ys k y → R x y
zip_at R xs ys k x y all inside first second =
    subst (λ it. R it y) (sym first)
    (subst (λ it. R (get_or xs k x) it) (sym second) (read_both R xs ys k x y all inside))

pub zip_length : {A B : Type 0} (R : A → B → Type 0) (xs : List A) (ys : List B) → AllZip R xs ys → length xs ≡ length ys
zip_length R [] [] all = refl
zip_length R [] (b ∷ ys) all = absurd all
zip_length R (a ∷ xs) [] all = absurd all
zip_length R (a ∷ xs) (b ∷ ys) all = ap suc (zip_length R xs ys all.1)

-- what stands beside the second one at a place
pub asked_at : {A B : Type 0} (R : A → B → Type 0) (xs : List A) (ys : List B) (k : ℕ) (y : B) → AllZip R xs ys
    → k < length ys → y ≡ get_or ys k y → (x : A) × (k < length xs) × (x ≡ get_or xs k x) × R x y
asked_at R [] [] k y all inside second = absurd (omega (arith, inside))
asked_at R [] (b ∷ ys) k y all inside second = absurd all
asked_at R (a ∷ xs) [] k y all inside second = absurd all
asked_at R (a ∷ xs) (b ∷ ys) zero y all inside second = (a, omega arith, refl, subst (R a) (sym second) all.0)
asked_at R (a ∷ xs) (b ∷ ys) (suc k) y all inside second =
    let at = asked_at R xs ys k y all.1 (omega (arith, inside)) second in
    (at.0, omega (arith, at.1), at.2, at.3)

pub zip_more : {A B : Type 0} (R : A → B → Type 0) (xs : List A) (ys : List B) (x : A) (y : B) → AllZip R xs ys → R x y
    → AllZip R (xs ++ x ∷ []) (ys ++ y ∷ [])
zip_more R [] [] x y all one = (one, tt)
zip_more R [] (b ∷ ys) x y all one = absurd all
zip_more R (a ∷ xs) [] x y all one = absurd all
zip_more R (a ∷ xs) (b ∷ ys) x y all one = (all.0, zip_more R xs ys x y all.1 one)

pub zip_weaker : {A B : Type 0} (R S : A → B → Type 0) → ((x : A) (y : B) → R x y → S x y) → (xs : List A) (ys : List B)
    → AllZip R xs ys → AllZip S xs ys
zip_weaker R S more [] [] all = tt
zip_weaker R S more [] (b ∷ ys) all = absurd all
zip_weaker R S more (a ∷ xs) [] all = absurd all
zip_weaker R S more (a ∷ xs) (b ∷ ys) all = (more a b all.0, zip_weaker R S more xs ys all.1)

-- the word at a place is the first of those from it on
pub first_at : (grammar : Grammar) (algebra : ℕ) (words all : List (List ℕ)) (k : ℕ) (word : List ℕ) → words ≡ all
    → k < length all → word ≡ get_or words k word
    → (0 < length (drop k (posed_words grammar algebra all)))
    × (posed_word grammar algebra word ≡ get_or (drop k (posed_words grammar algebra all)) 0 (posed_word grammar algebra word))
first_at grammar algebra words all k word same inside is =
    let p = posed_word grammar algebra word in
    let at = posed_at grammar algebra all k word p inside (subst (λ (ws : List (List ℕ)). word ≡ get_or ws k word) same is) refl in
    let here : k ≡ k + 0 = omega arith in (
      omega (arith, at.0, length-drop k (posed_words grammar algebra all)),
      at.1 ∙ ap (λ n. get_or (posed_words grammar algebra all) n p) here
          ∙ sym (get_or-drop k (posed_words grammar algebra all) 0 p),
    )

-- ---- cells

-- one more problem, and its counted cells with those of the others
pub cells_more : (ps : List PosedProblem) (p : PosedProblem) (cells count : ℕ) → HaveCells ps cells
    → IsCellBound p.grammar (length p.word) count → HaveCells (ps ++ p ∷ []) (cells + count)
cells_more ps p cells count (counts, each, is) bound = (
  counts ++ count ∷ [],
  zip_more (λ (it : PosedProblem) (number : ℕ). IsCellBound it.grammar (length it.word) number) ps counts p count each bound,
  ap (λ n. n + count) is ∙ sym (sum_by_push (λ n. n) counts count),
)

pub nodes_more : (grammar : Grammar) (words : List (List ℕ)) (word : List ℕ) (nodes count : ℕ)
    → HaveNodes grammar words nodes → IsNodeBound grammar (length word) count
    → HaveNodes grammar (words ++ word ∷ []) (nodes + count)
nodes_more grammar words word nodes count (counts, each, is) bound = (
  counts ++ count ∷ [],
  zip_more (λ (it : List ℕ) (number : ℕ). IsNodeBound grammar (length it) number) words counts word count each bound,
  ap (λ n. n + count) is ∙ sym (sum_by_push (λ n. n) counts count),
)

-- one more of the words from a place on
pub one_more_word : (words : List (List ℕ)) (place count : ℕ) (word : List ℕ) → place + count < length words
    → word ≡ get_or words (place + count) word
    → take (count + 1) (drop place words) ≡ take count (drop place words) ++ word ∷ []
one_more_word words place count word inside is =
    take_more (drop place words) count word (omega (arith, inside, length-drop place words))
    ∙ ap (λ (last : List ℕ). take count (drop place words) ++ last ∷ [])
    (get_or-drop place words count word ∙ sym is)

-- ---- what the problems of a group have in common

-- a word of the job that stands before others
without_its_word : (grammar : Grammar) (algebra : ℕ) (words : List (List ℕ)) (asked rest : List PosedProblem) (k : ℕ)
    (p : PosedProblem) → asked ++ rest ≡ posed_words grammar algebra words → k < length asked → p ≡ get_or asked k p
    → without_word p ≡ posed_word grammar algebra []
without_its_word grammar algebra words asked rest k p are inside is =
    let further : k < length words =
    omega (
      arith,
      inside,
      length-append asked rest,
      ap length {y = posed_words grammar algebra words} are,
      length-map words (posed_word grammar algebra),
    ) in
    ap without_word
    (is ∙ sym (get_or_append_left asked rest p k inside) ∙ ap (λ (ps : List PosedProblem). get_or ps k p) are
    ∙ get_or-map (posed_word grammar algebra) words k [] p further)

-- the same of a problem that is solved for it
has_common : (command : Command) (first : CheckedGrammar) (made : Option Compiled) (asked problem : PosedProblem)
    → without_word asked ≡ posed_word first.grammar first.algebra [] → IsSolvedFor command made asked problem
    → without_word problem ≡ common_of first made
has_common command first None asked problem is (single, its) = ap without_word its ∙ is
has_common command first (Some made) asked problem is (lex, for, its) = ap without_word its

pub have_common : (command : Command) (first : CheckedGrammar) (made : Option Compiled) (words : List (List ℕ))
    (place : ℕ) (asked rest problems : List PosedProblem) → AllZip (IsSolvedFor command made) asked problems
    → asked ++ rest ≡ drop place (posed_words first.grammar first.algebra words)
    → All (λ p. without_word p ≡ common_of first made) problems
have_common command first made words place asked rest problems solved are =
    λ k d inside.
    let problem = get_or problems k d in
    let at = asked_at (IsSolvedFor command made) asked problems k problem solved inside
    (get_or_default problems k d problem inside) in
    has_common command first made at.0 problem
    (without_its_word first.grammar first.algebra (drop place words) asked rest k at.0
    (are ∙ drop-map (posed_word first.grammar first.algebra) place words) at.1 at.2) at.3

-- what is of this grammar and algebra is of each of them
pub of_each : (common shared : PosedProblem) (problems : List PosedProblem)
    → All (λ p. without_word p ≡ common) problems → shared ≡ common → All (λ p. shared ≡ without_word p) problems
of_each common shared problems each is = λ k d inside. is ∙ sym (each k d inside)

-- ---- modes

-- a mode whose words evaluators solve in groups follows no schedule and makes no sweep
pub grouped : (mode other : Mode) → IsEvaluated mode → (IsEvaluated other → ⊥) → mode ≡ other → ⊥
grouped mode other is none same = none (subst IsEvaluated same is)

-- there are two of them that have one algebra
pub best_or_cert : (mode : Mode) → IsEvaluated mode → (mode ≡ Lex → ⊥) → (mode ≡ Cert → ⊥) → mode ≡ Best
best_or_cert Best is single other = refl
best_or_cert Cert is single other = absurd (other refl)
best_or_cert Lex is single other = absurd (single refl)
best_or_cert mode is single other = absurd is

-- a mode that takes groups makes one sweep, or runs evaluators
pub evaluated : (mode : Mode) → IsGrouped mode → (mode ≡ Serial → ⊥) → IsEvaluated mode
evaluated Serial is other = absurd (other refl)
evaluated mode is other = is

-- ---- what is solved for a word

-- with one algebra that is the word's own problem
pub solved_itself : (command : Command) (made : Option Compiled) (asked problem : PosedProblem)
    → (command.mode ≡ Lex → ⊥) → IsSolvedFor command made asked problem → problem ≡ asked
solved_itself command None asked problem single (other, is) = is
solved_itself command (Some made) asked problem single (lex, for, is) = absurd (single lex)

module _ (command : Command) (number : ℕ) (asked problem : PosedProblem) (finished : Finished) (report bytes : List ℕ)
    (mode : IsEvaluated command.mode)
    (is : IsReportWith command.mode command None number asked finished.wins.items report) (same : bytes ≡ report)
    (result : Result (Unit {0}) Fault) (old new : Option (List RunNote)) (held held' : Option (List ℕ)) where
  -- the word ended as the run for it did
  pub solved_word : (made : Option Compiled) → IsSolvedFor command made asked problem
      → IsWordEnding (IsRunWith command problem finished bytes) result old new held held'
      → IsWordEnding (IsRunOf command None number asked) result old new held held'
  solved_word None (single, its) ending =
      evaluated_word command command.mode number asked finished report bytes refl
      (grouped command.mode Serial mode (λ none. none)) (grouped command.mode KBest mode (λ none. none)) single is same
      result old new held held'
      (subst (λ (p : PosedProblem). IsWordEnding (IsRunWith command p finished bytes) result old new held held') its ending)
  solved_word (Some made) (lex, for, its) ending =
      compiled_run command number asked problem for.second for.bound finished report bytes lex for.named
      for.compilable.bounded (its ∙ is_compiled command.second asked made for)
      (subst (λ (it : Mode). IsReportWith it command None number asked finished.wins.items report) lex is) same result old
      new held held' ending

-- ---- word by word

module _ (command : Command) where
  -- none was reported yet
  pub none_reported : (number : ℕ) (old : Option (List RunNote)) (held : Option (List ℕ))
      → AreReported command number [] old old held held
  none_reported number old held = record {
    reports = [];
    notes = [];
    runs = refl;
    noted = adds_none old;
    written = Appends-nil held;
  }

  -- those behind were reported, too
  pub more_reported : (number : ℕ) (ps qs : List PosedProblem) (old mid new : Option (List RunNote))
      (held held' held'' : Option (List ℕ)) → AreReported command number ps old mid held held'
      → AreReported command (number + length ps) qs mid new held' held''
      → AreReported command number (ps ++ qs) old new held held''
  more_reported number ps qs old mid new held held' held'' front back = record {
    reports = front.reports ++ back.reports;
    notes = front.notes ++ back.notes;
    runs = runs_joined command number ps qs front.reports back.reports front.notes back.notes front.runs back.runs;
    noted = adds_more old mid new front.notes back.notes front.noted back.noted;
    written = subst (Appends held held'') (sym (concat-append front.reports back.reports))
        (Appends-trans held held' held'' (concat front.reports) (concat back.reports) front.written back.written);
  }

  -- one word was reported
  pub word_reported : (number : ℕ) (p : PosedProblem) (done : Unit {0}) (old new : Option (List RunNote))
      (held held' : Option (List ℕ)) → IsWordEnding (IsRunOf command None number p) (Ok done) old new held held'
      → AreReported command number (p ∷ []) old new held held'
  word_reported number p done old new held held' (report, noted, run, told, whole) = record {
    reports = report ∷ [];
    notes = noted;
    runs = (noted, [], sym (append-nil noted), run, refl);
    noted = told;
    written = subst (Appends held held') (sym (append-nil report)) whole;
  }

  -- the word at a place was reported behind those before it
  pub one_reported : (number : ℕ) (ps : List PosedProblem) (k : ℕ) (p : PosedProblem) → k < length ps → p ≡ get_or ps k p
      → (done : Unit {0}) (old mid new : Option (List RunNote)) (held held' held'' : Option (List ℕ))
      → AreReported command number (take k ps) old mid held held'
      → IsWordEnding (IsRunOf command None (number + k) p) (Ok done) mid new held' held''
      → AreReported command number (take (k + 1) ps) old new held held''
  one_reported number ps k p below is done old mid new held held' held'' before here =
      let e : number + k ≡ number + length (take k ps) = omega (arith, length-take-le k ps (omega arith)) in
      let more : take (k + 1) ps ≡ take k ps ++ p ∷ [] =
      take_more ps k p below ∙ ap (λ q. take k ps ++ q ∷ []) (sym is) in
      subst (λ (qs : List PosedProblem). AreReported command number qs old new held held'') (sym more)
      (more_reported number (take k ps) (p ∷ []) old mid new held held' held'' before
      (subst (λ (n : ℕ). AreReported command n (p ∷ []) mid new held' held'') e
      (word_reported (number + k) p done mid new held' held'' here)))

  -- the first word was reported, before which nothing was
  pub first_done : (number : ℕ) (ps : List PosedProblem) (p : PosedProblem) → 0 < length ps → p ≡ get_or ps 0 p
      → (done : Unit {0}) (old mid new : Option (List RunNote)) (held held' held'' : Option (List ℕ))
      → AreReported command number [] old mid held held'
      → IsWordEnding (IsRunOf command None number p) (Ok done) mid new held' held''
      → AreFirstEnding command number ps (Ok 1) old new held held''
  first_done number ps p some is done old mid new held held' held'' before ending =
      let e : number ≡ number + 0 = omega arith in (
        omega (arith, some),
        one_reported number ps 0 p some is done old mid new held held' held'' before
            (subst (λ (n : ℕ). IsWordEnding (IsRunOf command None n p) (Ok done) mid new held' held'') e ending),
      )

  pub first_failed : (number : ℕ) (ps : List PosedProblem) (p : PosedProblem) → 0 < length ps → p ≡ get_or ps 0 p
      → (fault : Fault) (old mid new : Option (List RunNote)) (held held' held'' : Option (List ℕ))
      → AreReported command number [] old mid held held'
      → IsWordEnding (IsRunOf command None number p) (Err fault) mid new held' held''
      → AreFirstEnding command number ps (Err fault) old new held held''
  first_failed number ps p some is fault old mid new held held' held'' before ending =
      let e : number ≡ number + 0 = omega arith in (
        0,
        record {
          inside = some;
          notes = mid;
          bytes = held';
          before = before;
          problem = p;
          is_problem = is;
          ending = subst (λ (n : ℕ). IsWordEnding (IsRunOf command None n p) (Err fault) mid new held' held'') e ending;
        },
      )

  -- the first words of some are the first of more
  pub of_more : (number : ℕ) (ps qs : List PosedProblem) (result : Result ℕ Fault) (old new : Option (List RunNote))
      (held held' : Option (List ℕ)) → AreFirstEnding command number ps result old new held held'
      → AreFirstEnding command number (ps ++ qs) result old new held held'
  of_more number ps qs (Ok count) old new held held' (few, before) = (
    omega (arith, few, length-append ps qs),
    subst (λ (it : List PosedProblem). AreReported command number it old new held held') (sym (take-append-le count ps qs few)) before,
  )
  of_more number ps qs (Err fault) old new held held' (place, up) =
      let inside : place < length ps = up.inside in
      let at = get_or_append_left ps qs up.problem place inside in (
        place,
        record {
          inside = omega (arith, inside, length-append ps qs);
          notes = up.notes;
          bytes = up.bytes;
          before = subst (λ (it : List PosedProblem). AreReported command number it old up.notes held up.bytes)
              (sym (take-append-le place ps qs (omega (arith, inside)))) up.before;
          problem = up.problem;
          is_problem = up.is_problem ∙ sym at;
          ending = up.ending;
        },
      )

  -- words behind others were reported
  pub next_reported : (all : List PosedProblem) (k count : ℕ) (old mid new : Option (List RunNote))
      (held held' held'' : Option (List ℕ)) → k ≤ length all → AreReported command 1 (take k all) old mid held held'
      → AreReported command (k + 1) (take count (drop k all)) mid new held' held''
      → AreReported command 1 (take (k + count) all) old new held held''
  next_reported all k count old mid new held held' held'' inside front back =
      let e : k + 1 ≡ 1 + length (take k all) = omega (arith, length-take-le k all inside) in
      subst (λ (it : List PosedProblem). AreReported command 1 it old new held held'') (take_further k count all)
      (more_reported 1 (take k all) (take count (drop k all)) old mid new held held' held'' front
      (subst (λ (n : ℕ). AreReported command n (take count (drop k all)) mid new held' held'') e back))

  pub next_failed : (all : List PosedProblem) (k place : ℕ) (fault : Fault) (old mid new : Option (List RunNote))
      (held held' held'' : Option (List ℕ)) → k ≤ length all → AreReported command 1 (take k all) old mid held held'
      → IsReportedUpTo command (k + 1) (drop k all) place fault mid new held' held''
      → IsReportedUpTo command 1 all (k + place) fault old new held held''
  next_failed all k place fault old mid new held held' held'' inside front up =
      let number : k + 1 + place ≡ 1 + (k + place) = omega arith in
      record {
        inside = omega (arith, up.inside, length-drop k all);
        notes = up.notes;
        bytes = up.bytes;
        before = next_reported all k place old mid up.notes held held' up.bytes inside front up.before;
        problem = up.problem;
        is_problem = up.is_problem ∙ get_or-drop k all place up.problem;
        ending = subst (λ (n : ℕ). IsWordEnding (IsRunOf command None n up.problem) (Err fault) up.notes new up.bytes held'')
            number up.ending;
      }

  -- ---- how the words of a job ended

  module _ (each : AllReported command) (all : List PosedProblem)
      (admissible : AllByRecursion (IsAdmissibleWith command.second) all) (old new : Option (List RunNote))
      (held held' : Option (List ℕ)) where
    ending_at : (place : ℕ) (fault : Fault) (up : IsReportedUpTo command 1 all place fault old new held held')
        → IsWordEnding (IsRunOf command None (place + 1) up.problem) (Err fault) up.notes new up.bytes held'
    ending_at place fault up =
        let e : 1 + place ≡ place + 1 = omega arith in
        subst (λ (n : ℕ). IsWordEnding (IsRunOf command None n up.problem) (Err fault) up.notes new up.bytes held') e up.ending

    pub up_to_written : (place : ℕ) (fault : Fault) → IsReportedUpTo command 1 all place fault old new held held'
        → (reports : List (List ℕ)) × AreReportsOf command 1 all reports × HasWritten (Err fault) held held' reports
    up_to_written place fault up =
        failed_written command each all admissible place up.before.reports up.before.notes up.before.runs old up.notes new
        held up.bytes held' up.before.noted up.before.written up.problem up.inside up.is_problem fault
        (ending_at place fault up)

    pub up_to_noted : (place : ℕ) (fault : Fault) → IsReportedUpTo command 1 all place fault old new held held'
        → AreNoted command None all [] (status_of fault) old new held held'
    up_to_noted place fault up =
        failed_noted command each all admissible place up.before.reports up.before.notes up.before.runs old up.notes new
        held up.bytes held' up.before.noted up.before.written up.problem fault (ending_at place fault up)

    -- all were reported
    pub whole_written : (count : ℕ) → length all ≤ count → take count all ≡ all
        → AreReported command 1 (take count all) old new held held'
        → (reports : List (List ℕ)) × AreReportsOf command 1 all reports × Appends held held' (concat reports)
    whole_written count past same done = (
      done.reports,
      subst (λ (it : List PosedProblem). AreReportsOf command 1 it done.reports) same
          (run_reports command 1 (take count all) done.reports done.notes done.runs),
      done.written,
    )

    pub whole_noted : (count : ℕ) → length all ≤ count → AreReported command 1 (take count all) old new held held'
        → AreNoted command None all [] Done old new held held'
    whole_noted count past done =
        all_noted command each all admissible count done.reports done.notes done.runs old new new held held' held'
        done.noted done.written past
