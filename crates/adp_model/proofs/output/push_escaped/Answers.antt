use Rattle.std.proofs.Common.{◌≡◌, ◌≢◌, ℕ, true, List, [], ◌∷◌, ◌++◌, ◌==◌, ◌||◌, ap, ◌∙◌, refl, append_assoc, arith, Vec, Global}
use Rattle.std.proofs.lemmas.Grind.{common_steps}
use Rattle.adp_model.specs.Ascii.{backslash, quote}
use Rattle.adp_model.specs.TreeText.{escaped}
use Rattle.adp_model.proofs.output.push_escaped.Goals as goal
use Rattle.adp_model.proofs.output.push_escaped.Goals.{then-letter-eq34+in_ok-push, then-letter-eq34-via-then-letter-eq34, then-letter-eq34-via-else-letter-eq34+then-letter-eq92, else-letter-eq34+else-letter-eq92}

marked : (old opened new : List ℕ) (letter : ℕ) → (letter == quote || letter == backslash) ≡ true
    → opened ≡ old ++ backslash ∷ [] → new ≡ opened ++ letter ∷ [] → new ≡ old ++ escaped letter
marked old opened new letter is o n =
    rw is (n ∙ ap (λ xs. xs ++ letter ∷ []) o ∙ append_assoc old (backslash ∷ []) (letter ∷ []))

plain : (old new : List ℕ) (letter : ℕ) → letter ≢ quote → letter ≢ backslash → new ≡ old ++ letter ∷ []
    → new ≡ old ++ escaped letter
plain old new letter other another is = grind (arith, common_steps)

pub returns-clause-appended : goal.returns-clause-appended
returns-clause-appended c =
    let after = c.in_ok-push-2.ensures.items in
    elim c.if-letter-eq34.branch [
      | then-letter-eq34+in_ok-push w ↦
          let opened = ap (λ (v : Vec ℕ Global). v.items) w.out-is ∙ w.in_ok-push.ensures.items in
          marked c.args.out.now.items c.if-letter-eq34.out.items c.push-2.new.self.items c.args.letter
          (elim w.then-letter-eq34.branch [
            | then-letter-eq34-via-then-letter-eq34 v ↦ rw v.if-letter-eq34.true refl
            | then-letter-eq34-via-else-letter-eq34+then-letter-eq92 v ↦ rw v.if-letter-eq92.true refl
          ])
          opened after
      | else-letter-eq34+else-letter-eq92 w ↦
          plain c.args.out.now.items c.push-2.new.self.items c.args.letter w.if-letter-eq34.false w.if-letter-eq92.false
          (after ∙ ap (λ (v : Vec ℕ Global). v.items ++ c.args.letter ∷ []) w.out-is)
    ]
