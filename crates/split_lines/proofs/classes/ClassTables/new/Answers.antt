use Rattle.std.proofs.Common.{◌≡◌, ℕ, ◌+◌, ℤ, List, [], get_or, ap, sym, subst, ◌∙◌, arith}
use Rattle.std.proofs.lemmas.List.{get_or_read, length_push}
use Rattle.adp_model.specs.declared.grammar.Class.{Class}
use Rattle.adp_model.specs.PosedProblem.{PosedProblem}
use Rattle.adp_model.specs.Parts.{letters_of}
use Rattle.split_lines.specs.declared.classes.ClassTable.{ClassTable}
use Rattle.split_lines.specs.Classes.{IsTable}
use Rattle.split_lines.specs.ClassFields.{AreTables}
use Rattle.split_lines.proofs.Growing.{each_more}
use Rattle.split_lines.proofs.classes.ClassTables.new.Goals as goal

pub loop-number-preserved : goal.loop-number-preserved
loop-number-preserved c =
    let p = c.args.problem.now in
    let class = c.loop-number.number in
    let tables = c.loop-number.tables.items in
    let item = c.index-classes-number.result in
    let items = c.as_slice-classes.result.now in
    let none : Class = record { name = []; letters = [] } in
    let classes_are : items ≡ p.grammar.classes = c.as_slice-classes.ensures ∙ ap (λ (p : PosedProblem). p.grammar.classes) c.problem.view_is in
    let read : item ≡ get_or items class none = get_or_read items class item (omega arith) c.index-classes-number.is none in
    let letters_are : c.as_slice.result.now ≡ letters_of p.grammar class =
    c.as_slice.ensures ∙ ap (λ (it : Class). it.letters) (read ∙ ap (λ (them : List Class). get_or them class none) classes_are) in
    let table : ClassTable = record { ahead = c.in_ok-ahead.field-0; behind = c.in_ok-behind.field-0; sums = c.in_ok-sums.field-0 } in
    let T : List (ℕ × ℤ) → List ℕ → Type 0 = λ letters word. IsTable letters word table in
    let made : T c.as_slice.result.now c.letters-word.result.now = record { ahead = c.in_ok-ahead.ensures; behind = c.in_ok-behind.ensures; sums = c.in_ok-sums.ensures } in
    let is : IsTable (letters_of p.grammar class) p.word table = subst (λ letters. T letters p.word) letters_are (subst (T c.as_slice.result.now) c.letters-word.ensures.word made) in
    let A : List ClassTable → Type 0 = AreTables p (class + 1) in
    subst A (sym {A = List ClassTable} c.in_ok-push.ensures.items) (record {
      each = length_push tables table ∙ omega (arith, c.loop-number.invariant.each);
      are = each_more (λ k it. IsTable (letters_of p.grammar k) p.word it) tables class table c.loop-number.invariant.each c.loop-number.invariant.are is;
    })
