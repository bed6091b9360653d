-- What a block tells of its word.
use Rattle.std.proofs.Common.{◌≡◌, ℤ, true, false, Option, Some, None, IsSome, MatchOption, List, length, refl, sym, subst}
use Rattle.adp_model.specs.PosedProblem.{PosedProblem, axiom_cell}
use Rattle.adp_model.specs.Sizes.{IsWithinSizes}
use Rattle.table_certificate.specs.CertificateLines.{LineForm}
use Rattle.table_certificate.specs.LocalCertificate.{HasLine, IsTold, said_of}

-- the axiom's cell has a line, if it needs one
abbrev pub HasAxiomLine : PosedProblem → List LineForm → Type 0
HasAxiomLine p lines =
    IsWithinSizes p.grammar p.grammar.«axiom» (length p.word) → HasLine lines (axiom_cell p)

pub told_inside : (p : PosedProblem) (lines : List LineForm) → IsWithinSizes p.grammar p.grammar.«axiom» (length p.word)
    → (said : Option (Option ℤ)) → said ≡ said_of lines (axiom_cell p)
    → MatchOption said (HasAxiomLine p lines → ⊥) (λ value. HasAxiomLine p lines × IsTold p lines value)
told_inside p lines within None is = λ needs.
    let some : IsSome (said_of lines (axiom_cell p)) = needs within in
    let none : IsSome {T = Option ℤ} None = subst (λ (x : Option (Option ℤ)). IsSome x) (sym is) some in
    let h : false ≡ true = none in
    cc
told_inside p lines within (Some value) is = (
  λ needed. subst (λ (x : Option (Option ℤ)). IsSome x) is refl,
  record { said = λ needed. sym is; outside = λ out. absurd (out within) },
)

pub told_outside : (p : PosedProblem) (lines : List LineForm)
    → (IsWithinSizes p.grammar p.grammar.«axiom» (length p.word) → ⊥) → HasAxiomLine p lines × IsTold p lines None
told_outside p lines out = (λ within. absurd (out within), record { said = λ within. absurd (out within); outside = λ needed. refl })
