-- What lines of other sorts don't give.
use Rattle.std.proofs.Common.{◌≡◌, ℕ, false, None, List, Vec, Global, refl}
use Rattle.std.specs.Borrow.{Bor}
use Rattle.adp_model.specs.declared.grammar.Kind.{Kind}
use Rattle.adp_model.specs.declared.grammar.Goal.{Goal}
use Rattle.job_texts.specs.DeclaredNames.{is_algebra_line, let_sign_of}
use Rattle.grammar_text.specs.declared.reader.declaration.Declaration.{Declaration}
use Rattle.grammar_text.specs.declared.reader.declaration.Declaration.TheVariants as declarations
use Rattle.grammar_text.specs.declared.reader.declaration.Term.{Term}
use Rattle.grammar_text.specs.Names.{gives_kinds}
use Rattle.grammar_text.specs.Seen.{declaration_seen}

pub gives_no_kinds : (sign : List ℕ) (declaration : Declaration) → ((name : Bor (List ℕ)) (kinds : Vec Kind Global) → declaration ≡ declarations.Sign name kinds → ⊥) → gives_kinds sign (declaration_seen declaration) ≡ false
gives_no_kinds sign (declarations.Class name items) h = refl
gives_no_kinds sign (declarations.Sign name kinds) h = absurd (h name kinds refl)
gives_no_kinds sign (declarations.Algebra name goal) h = refl
gives_no_kinds sign (declarations.Let name variables term) h = refl
gives_no_kinds sign (declarations.Rule name alternatives) h = refl
gives_no_kinds sign (declarations.Axiom rule) h = refl
gives_no_kinds sign declarations.Words h = refl

pub is_no_algebra : (declaration : Declaration) → ((name : Bor (List ℕ)) (goal : Goal) → declaration ≡ declarations.Algebra name goal → ⊥) → is_algebra_line (declaration_seen declaration) ≡ false
is_no_algebra (declarations.Class name items) h = refl
is_no_algebra (declarations.Sign name kinds) h = refl
is_no_algebra (declarations.Algebra name goal) h = absurd (h name goal refl)
is_no_algebra (declarations.Let name variables term) h = refl
is_no_algebra (declarations.Rule name alternatives) h = refl
is_no_algebra (declarations.Axiom rule) h = refl
is_no_algebra declarations.Words h = refl

pub is_no_let : (declaration : Declaration) → ((sign : Bor (List ℕ)) (variables : Vec (Bor (List ℕ)) Global) (term : Term) → declaration ≡ declarations.Let sign variables term → ⊥) → let_sign_of (declaration_seen declaration) ≡ None
is_no_let (declarations.Class name items) h = refl
is_no_let (declarations.Sign name kinds) h = refl
is_no_let (declarations.Algebra name goal) h = refl
is_no_let (declarations.Let name variables term) h = absurd (h name variables term refl)
is_no_let (declarations.Rule name alternatives) h = refl
is_no_let (declarations.Axiom rule) h = refl
is_no_let declarations.Words h = refl
