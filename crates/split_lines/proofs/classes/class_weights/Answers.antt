use Rattle.std.proofs.Common.{◌≡◌, ℕ, ◌+◌, ◌<◌, ℤ, Option, List, [], length, get_or, ap, sym, subst, ◌∙◌, arith}
use Rattle.std.proofs.lemmas.List.{get_or_read, length_push}
use Rattle.adp_model.specs.declared.grammar.Class.{Class}
use Rattle.adp_model.specs.Parts.{letters_of}
use Rattle.split_lines.specs.Classes.{AreClassWeights, AreLetterWeights}
use Rattle.split_lines.proofs.Growing.{each_more}
use Rattle.split_lines.proofs.classes.class_weights.Goals as goal

pub loop-class-preserved : goal.loop-class-preserved
loop-class-preserved c =
    let grammar = c.args.grammar.now in
    let class = c.loop-class.class-index in
    let weights = c.loop-class.weights.items in
    let item = c.class-item.result in
    let none : Class = record { name = []; letters = [] } in
    let read : item ≡ get_or c.as_slice-classes.result.now class none =
    get_or_read c.as_slice-classes.result.now class item (omega arith) c.class-item.is none in
    let letters_are : c.as_slice.result.now ≡ letters_of grammar class =
    c.as_slice.ensures ∙ ap (λ (it : Class). it.letters)
    (read ∙ ap (λ (them : List Class). get_or them class none) c.as_slice-classes.ensures) in
    let made : AreLetterWeights (letters_of grammar class) c.letter_weights.result =
    subst (λ letters. AreLetterWeights letters c.letter_weights.result) letters_are c.letter_weights.ensures in
    record {
      each = ap length c.in_ok-push.ensures.items ∙ length_push weights c.letter_weights.result
          ∙ omega (arith, c.loop-class.invariant.each);
      are = λ k d l. subst (λ (them : List (List (Option ℤ))). AreLetterWeights (letters_of grammar k) (get_or them k d))
          (sym c.in_ok-push.ensures.items)
          (each_more (λ k it. AreLetterWeights (letters_of grammar k) it) weights class c.letter_weights.result
          c.loop-class.invariant.each c.loop-class.invariant.are made k d l);
    }
