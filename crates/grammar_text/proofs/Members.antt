-- Sets of texts, by the bytes of each text.
use Rattle.std.proofs.Common.{◌≡◌, ℕ, true, cond, nat_eq, List, [], ◌∷◌, ◌++◌, sym, ◌∙◌, ap}
use Rattle.std.specs.Borrow.{Bor}
use Rattle.std.specs.Ordering.{nat_cmp}
use Rattle.std.specs.Cmp.Lexicographic.{slice_cmp}
use Rattle.std.specs.BTreeSet.{BTreeSet, contains_by, UpdatesBy}
use Rattle.std.proofs.lemmas.Map.Text.{is_eq-slice_cmp}
use lib.Pointwise.{pointwise}
use Rattle.grammar_text.specs.Names.{AreMembers}
use Rattle.grammar_text.proofs.SectionPlaces.{among_more}

-- a text that is put in is there, and the others are where they were
pub put_in : (text : List ℕ) (old new : BTreeSet (Bor (List ℕ))) → UpdatesBy (λ one other. slice_cmp nat_cmp one.now other.now) (λ member. slice_cmp nat_cmp text member.now) old new true
    → (name : List ℕ) → contains_by (λ member. slice_cmp nat_cmp name member.now) new ≡ cond (pointwise nat_eq text name) true (contains_by (λ member. slice_cmp nat_cmp name member.now) old)
put_in text old new changed name =
    changed.0 (record { ref_ptr = (0, 0); now = name })
    ∙ ap (λ same. cond same true (contains_by (λ member. slice_cmp nat_cmp name member.now) old)) (is_eq-slice_cmp text name)

pub members_more : (text : List ℕ) (old new : BTreeSet (Bor (List ℕ))) (front : List (List ℕ)) → UpdatesBy (λ one other. slice_cmp nat_cmp one.now other.now) (λ member. slice_cmp nat_cmp text member.now) old new true
    → AreMembers old front → AreMembers new (front ++ text ∷ [])
members_more text old new front changed are name =
    put_in text old new changed name ∙ ap (λ had. cond (pointwise nat_eq text name) true had) (are name) ∙ sym (among_more front text name)
