use Rattle.std.proofs.Common.{◌≡◌, ℕ, List, [], ◌∷◌, ◌++◌, codes, FitsSigned, w64, rules, ap, ◌∙◌, append_assoc}
use Rattle.std.proofs.lemmas.Int.{to_z-of_z}
use Rattle.std.specs.Fmt.{decimal, signed_decimal}
use Rattle.adp_model.specs.Report.{line}
use Rattle.report.proofs.big_lines.big_report.Goals as goal

appended : (none size word score cells one two three four new : List ℕ)
    → none ≡ [] → one ≡ none ++ size → two ≡ one ++ word → three ≡ two ++ score → four ≡ three ++ 10 ∷ [] → new ≡ four ++ cells
    → new ≡ size ++ line (word ++ score) ++ cells
appended none size word score cells one two three four new z a b c d e =
    e ∙ ap (λ x. x ++ cells) (d ∙ ap (λ x. x ++ 10 ∷ []) (c ∙ ap (λ x. x ++ score) (b ∙ ap (λ x. x ++ word) (a ∙ ap (λ x. x ++ size) z)))) ∙ simp append_assoc

pub returns : goal.returns
returns c =
    let fits : FitsSigned w64 c.args.score = search rules in
    let word = c.extend_from_slice.new.self.items in
    let score_is : c.push_signed.new.out.items ≡ word ++ signed_decimal c.args.score =
    c.in_ok-push_signed.ensures.appended ∙ ap (λ score. word ++ signed_decimal score) (to_z-of_z w64 c.args.score fits) in
    let size_is : c.push_number_line.new.out.items ≡ c.new-out.result.items ++ line (codes "size " ++ decimal c.args.size) =
    c.in_ok-push_number_line.ensures ∙ ap (λ size. c.new-out.result.items ++ line (codes "size " ++ decimal size)) c.from.ensures in
    appended c.new-out.result.items (line (codes "size " ++ decimal c.args.size)) (codes "score ") (signed_decimal c.args.score) (line (codes "cells " ++ decimal c.args.cells)) _ _ _ _ _
    c.new-out.ensures.items size_is c.in_ok-extend_from_slice.ensures.items score_is c.in_ok-push.ensures.items c.in_ok-push_number_line-2.ensures
