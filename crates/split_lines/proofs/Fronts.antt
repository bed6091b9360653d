-- The line of arguments behind tokens of fixed length in front of them.
use Rattle.std.proofs.Common.{◌≡◌, ℕ, suc, ◌-◌, ◌≤◌, List, [], ◌∷◌, ◌++◌, length, drop, sym, ap, subst, ◌∙◌, inl, inr, arith}
use Rattle.std.specs.List.{AllByRecursion}
use Rattle.std.proofs.lemmas.Bool.{cases_lt}
use Rattle.std.proofs.lemmas.List.{get_or_append_left}
use Rattle.adp_model.specs.declared.grammar.Arg.{Arg}
use Rattle.adp_model.specs.declared.grammar.Arg.TheVariants.{Rule}
use Rattle.adp_model.specs.PosedProblem.{PosedProblem}
use Rattle.split_lines.specs.declared.lines.Line.{Line}
use Rattle.split_lines.specs.Laid.{IsFixed}
use Rattle.split_lines.specs.Lines.{IsLine}
use Rattle.split_lines.proofs.LineFacts.{fixed_at, first_there}

pub drop_behind : {X : Type 0} (front others : List X) (n : ℕ) → length front ≤ n → drop n (front ++ others) ≡ drop (n - length front) others
drop_behind [] others n l = ap (λ k. drop k others) (omega arith)
drop_behind (x ∷ front) others n l =
    let fewer : n ≡ suc (n - 1) = omega arith in
    let less : n - 1 - length front ≡ n - length (x ∷ front) = omega arith in
    ap (λ k. drop k (x ∷ (front ++ others))) fewer ∙ drop_behind front others (n - 1) (omega arith) ∙ ap (λ k. drop k others) less

module _ (p : PosedProblem) (front others : List Arg) (fixed : AllByRecursion IsFixed front) (line : Line) (is : IsLine p (drop line.first (front ++ others)) line) where
  pub line_past_front : length front ≤ line.first
  line_past_front =
      elim (cases_lt line.first (length front)) [
        | inl before ↦
            let at = get_or_append_left front others (Rule 0) line.first before in
            absurd (first_there (front ++ others) line.first line.between is.has_line (subst IsFixed (sym at) (fixed_at front line.first (Rule 0) fixed before)))
        | inr behind ↦ behind
      ]

  pub line_behind_front : IsLine p (drop (line.first - length front) others) line
  line_behind_front = subst (λ them. IsLine p them line) (drop_behind front others line.first line_past_front) is
