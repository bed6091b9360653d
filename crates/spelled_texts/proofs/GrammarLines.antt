-- The lines of a canonical spelling, and what they declare.
use Rattle.std.proofs.Common.{◌≡◌, ℕ, true, codes, List, [], ◌∷◌, ◌++◌, map, refl, sym, append_assoc}
use Rattle.std.specs.List.{list_all, flat_map, zip}
use Rattle.std.proofs.lemmas.Bool.{and_parts}
use Rattle.std.proofs.lemmas.List.Concat.{flat_map-append}
use Rattle.std.proofs.lemmas.List.Folds.{flat_map-map}
use Rattle.adp_model.specs.declared.grammar.Class.{Class}
use Rattle.adp_model.specs.declared.grammar.Sign.{Sign}
use Rattle.adp_model.specs.declared.grammar.Term.{Term}
use Rattle.adp_model.specs.declared.grammar.Algebra.{Algebra}
use Rattle.adp_model.specs.declared.grammar.Rule as rules
use Rattle.adp_model.specs.declared.grammar.Grammar.{Grammar}
use Rattle.adp_model.specs.declared.job.Job.{Job}
use Rattle.adp_model.specs.Report.{line}
use Rattle.adp_model.specs.WellFormed.{is_class, is_sign, is_term, is_algebra, is_rule}
use Rattle.job_texts.specs.Spelling.{class_line, sign_line, let_line, algebra_lines, rule_line, spelling}
use Rattle.spelled_texts.proofs.ReadTokens.{TokenLaws}
use Rattle.spelled_texts.proofs.Contents.{class_content, sign_content, let_content, algebra_contents, rule_content, axiom_content, grammar_contents, class_declaration, sign_declaration, let_declaration, algebra_declarations, rule_declaration, axiom_declaration, grammar_declarations}
use Rattle.spelled_texts.proofs.HeaderOf.{Declare, declare-append, first_line, framed}
use Rattle.spelled_texts.proofs.ClassLines.{class_line_declares}
use Rattle.spelled_texts.proofs.SignLines.{sign_parts, sign_line_declares}
use Rattle.spelled_texts.proofs.AlgebraLines.{algebra_line_declares, axiom_line_declares}
use Rattle.spelled_texts.proofs.Terms.{TermLaws, is_of_form, term_known}
use Rattle.spelled_texts.proofs.LetLines.{let_line_declares}
use Rattle.spelled_texts.proofs.RuleLines.{sizes_stand, rule_line_declares}
use Rattle.spelled_texts.proofs.Formats.{IsOfFormat}
use Rattle.spelled_texts.proofs.GrammarParts.{IsFormed, has_form, algebra_parts, rule_fits, rule_named, spellable_rule}

-- ---- the spelling, line by line

algebra_by_lines : (signs : List Sign) (algebras : List Algebra) → flat_map (algebra_lines signs) algebras ≡ flat_map line (flat_map (algebra_contents signs) algebras)
algebra_by_lines signs [] = refl
algebra_by_lines signs (algebra ∷ algebras) =
    let own : flat_map let_line (zip signs algebra.terms) ≡ flat_map line (map let_content (zip signs algebra.terms)) = sym (flat_map-map line let_content (zip signs algebra.terms)) in
    let others = algebra_by_lines signs algebras in
    let joined = flat_map-append line (algebra_contents signs algebra) (flat_map (algebra_contents signs) algebras) in
    rw (joined, others, own) refl

joined_lines : (first : List ℕ) (classes signs algebras rules : List (List ℕ)) (last : List ℕ) (words : List (List ℕ))
    → line first ++ (flat_map line classes ++ flat_map line signs ++ flat_map line algebras ++ flat_map line rules ++ line last) ++ line (codes "words") ++ flat_map line words
    ≡ flat_map line (first ∷ (classes ++ signs ++ algebras ++ rules ++ last ∷ []) ++ codes "words" ∷ words)
joined_lines first classes signs algebras rules last words = simp (flat_map-append, append_assoc)

pub spelled_by_lines : (job : Job) → spelling job ≡ flat_map line (framed job.version (grammar_contents job.grammar) job.words)
spelled_by_lines job =
    let grammar = job.grammar in
    let classes : flat_map class_line grammar.classes ≡ flat_map line (map class_content grammar.classes) = sym (flat_map-map line class_content grammar.classes) in
    let signs : flat_map sign_line grammar.signs ≡ flat_map line (map sign_content grammar.signs) = sym (flat_map-map line sign_content grammar.signs) in
    let algebras = algebra_by_lines grammar.signs grammar.algebras in
    let rules : flat_map (rule_line grammar) grammar.rules ≡ flat_map line (map (rule_content grammar) grammar.rules) = sym (flat_map-map line (rule_content grammar) grammar.rules) in
    rw (classes, signs, algebras, rules)
    (joined_lines (first_line job.version) (map class_content grammar.classes) (map sign_content grammar.signs) (flat_map (algebra_contents grammar.signs) grammar.algebras)
    (map (rule_content grammar) grammar.rules) (axiom_content grammar) job.words)

-- ---- what the lines declare

module _ (laws : TokenLaws) (term_laws : TermLaws) (version : ℕ) where
  class_lines_declare : (classes : List Class) → list_all is_class classes ≡ true → Declare version (map class_content classes) (map class_declaration classes)
  class_lines_declare [] h = tt
  class_lines_declare (class ∷ classes) h =
      let parts = and_parts (is_class class) (list_all is_class classes) h in
      (class_line_declares laws version class parts.0, class_lines_declare classes parts.1)

  sign_lines_declare : (signs : List Sign) → list_all is_sign signs ≡ true → Declare version (map sign_content signs) (map sign_declaration signs)
  sign_lines_declare [] h = tt
  sign_lines_declare (sign ∷ signs) h =
      let parts = and_parts (is_sign sign) (list_all is_sign signs) h in
      (sign_line_declares laws version sign parts.0, sign_lines_declare signs parts.1)

  let_lines_declare : (signs : List Sign) (terms : List Term) → list_all is_sign signs ≡ true → list_all is_term (zip signs terms) ≡ true → list_all (is_of_form version) terms ≡ true
      → Declare version (map let_content (zip signs terms)) (map let_declaration (zip signs terms))
  let_lines_declare [] terms h fit formed = tt
  let_lines_declare (sign ∷ signs) [] h fit formed = tt
  let_lines_declare (sign ∷ signs) (term ∷ terms) h fit formed =
      let parts = and_parts (is_sign sign) (list_all is_sign signs) h in
      let fits = and_parts (is_term (sign, term)) (list_all is_term (zip signs terms)) fit in
      let forms = and_parts (is_of_form version term) (list_all (is_of_form version) terms) formed in (
        let_line_declares laws version (sign, term) (sign_parts sign parts.0) (term_known term_laws version (sign, term) parts.0 fits.0 forms.0),
        let_lines_declare signs terms parts.1 fits.1 forms.1,
      )

  algebra_lines_declare : (signs : List Sign) (algebras : List Algebra) → list_all is_sign signs ≡ true → list_all (is_algebra signs) algebras ≡ true → list_all (has_form version) algebras ≡ true
      → Declare version (flat_map (algebra_contents signs) algebras) (flat_map (algebra_declarations signs) algebras)
  algebra_lines_declare signs [] h fit formed = tt
  algebra_lines_declare signs (algebra ∷ algebras) h fit formed =
      let fits = and_parts (is_algebra signs algebra) (list_all (is_algebra signs) algebras) fit in
      let forms = and_parts (has_form version algebra) (list_all (has_form version) algebras) formed in
      let is = algebra_parts signs algebra fits.0 in (
        algebra_line_declares laws version algebra is.named,
        declare-append version (map let_content (zip signs algebra.terms)) (map let_declaration (zip signs algebra.terms)) (flat_map (algebra_contents signs) algebras)
            (flat_map (algebra_declarations signs) algebras)
            (let_lines_declare signs algebra.terms h is.terms forms.0) (algebra_lines_declare signs algebras h fits.1 forms.1),
      )

  rule_lines_declare : (grammar : Grammar) → IsFormed grammar → (rules : List rules.Rule) → list_all (is_rule grammar) rules ≡ true → list_all (sizes_stand version) rules ≡ true
      → Declare version (map (rule_content grammar) rules) (map (rule_declaration grammar) rules)
  rule_lines_declare grammar formed [] h sized = tt
  rule_lines_declare grammar formed (rule ∷ rules) h sized =
      let parts = and_parts (is_rule grammar rule) (list_all (is_rule grammar) rules) h in
      let sizes = and_parts (sizes_stand version rule) (list_all (sizes_stand version) rules) sized in (
        rule_line_declares grammar laws version rule (spellable_rule grammar formed rule (rule_fits grammar rule parts.0)) sizes.0,
        rule_lines_declare grammar formed rules parts.1 sizes.1,
      )

  pub grammar_lines_declare : (grammar : Grammar) → IsFormed grammar → IsOfFormat version grammar → Declare version (grammar_contents grammar) (grammar_declarations grammar)
  grammar_lines_declare grammar formed format =
      let classes = class_lines_declare grammar.classes formed.classes in
      let signs = sign_lines_declare grammar.signs formed.signs in
      let algebras = algebra_lines_declare grammar.signs grammar.algebras formed.signs formed.algebras format.terms in
      let rules = rule_lines_declare grammar formed grammar.rules formed.rules format.sizes in
      let last : Declare version (axiom_content grammar ∷ []) (axiom_declaration grammar ∷ []) =
      (axiom_line_declares laws version grammar (rule_named grammar formed grammar.axiom formed.axiom_known), tt) in
      declare-append version _ _ _ _ (declare-append version _ _ _ _ (declare-append version _ _ _ _ (declare-append version _ _ _ _ classes signs) algebras) rules) last
