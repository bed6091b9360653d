use Rattle.std.proofs.Common.{None, ◌≡◌, ◌<◌, length, get_or, pos, [], List, arith, ap, sym, subst, ◌∙◌}
use Rattle.std.proofs.lemmas.List.{get_or_read, get_or_default}
use Rattle.adp_model.specs.declared.grammar.Alt.{Alt}
use Rattle.adp_model.specs.declared.grammar.Term.{Term}
use Rattle.adp_model.specs.declared.grammar.Term.TheVariants.{Linear}
use Rattle.adp_model.specs.declared.grammar.Algebra.{Algebra}
use Rattle.adp_model.specs.Parts.{alternative_at, arguments_of, algebra_of, term_of}
use Rattle.adp_model.specs.TermForms.{IsTermFor}
use Rattle.adp_model.proofs.problem.Problem.term.Goals as goal
use Rattle.adp_model.proofs.problem.Problem.term.Goals.{After-as_slice}

alternative_read : (c : After-as_slice)
    → get_or c.alternatives.result.now c.args.alt c.index-alternatives-alt.result
    ≡ alternative_at c.args.self.now.grammar c.args.rule c.args.alt
alternative_read c =
    let xs = c.alternatives.result.now in
    let is = c.alternatives.ensures.alternatives in
    let within : c.args.alt < length xs = omega (arith, c.requires, ap length is) in
    get_or_default xs c.args.alt c.index-alternatives-alt.result (record { sign = 0; args = []; size = None }) within
    ∙ ap (λ (alts : List Alt). get_or alts c.args.alt (record { sign = 0; args = []; size = None })) is

terms_are : (c : After-as_slice) → c.as_slice.result.now ≡ (algebra_of c.args.self.now).terms
terms_are c = c.as_slice.ensures ∙ ap (λ (algebra : Algebra). algebra.terms) c.algebra.ensures

in_range : (c : After-as_slice)
    → (get_or c.alternatives.result.now c.args.alt c.index-alternatives-alt.result).sign < length c.as_slice.result.now
in_range c =
    let p = c.args.self.now in
    let checked = c.admissible.ensures.checked in
    let there = c.terms_fit_their_alternatives.ensures.there p.grammar checked.well_formed p.algebra c.args.rule
    c.args.alt checked.algebra_known c.requires in
    omega (arith, there, ap (λ (alt : Alt). alt.sign) (alternative_read c), ap length (terms_are c))

term_is : (c : After-as_slice) (term : Term)
    → term ≡ get_or c.as_slice.result.now
    (get_or c.alternatives.result.now c.args.alt c.index-alternatives-alt.result).sign term
    → term ≡ term_of c.args.self.now c.args.rule c.args.alt
term_is c term is =
    let none : Term = Linear (record { constant = pos 0; factors = [] }) in
    get_or_read c.as_slice.result.now _ term (in_range c) is none
    ∙ ap (λ (terms : List Term).
    get_or terms (get_or c.alternatives.result.now c.args.alt c.index-alternatives-alt.result).sign none) (terms_are c)
    ∙ ap (λ (alt : Alt). get_or (algebra_of c.args.self.now).terms alt.sign none) (alternative_read c)

pub bounds-as_slice-sign : goal.bounds-as_slice-sign
bounds-as_slice-sign c = in_range (goal.at.bounds-as_slice-sign c).After-as_slice

pub returns-clause-term : goal.returns-clause-term
returns-clause-term c =
    term_is (goal.at.returns-clause-term c).After-as_slice c.index-as_slice-sign.result c.index-as_slice-sign.is

pub returns-clause-fits : goal.returns-clause-fits
returns-clause-fits c =
    let p = c.args.self.now in
    let checked = c.admissible.ensures.checked in
    subst (IsTermFor (length (arguments_of p.grammar c.args.rule c.args.alt)))
    (sym (term_is (goal.at.returns-clause-fits c).After-as_slice c.index-as_slice-sign.result c.index-as_slice-sign.is))
    (c.terms_fit_their_alternatives.ensures.fit p.grammar checked.well_formed p.algebra c.args.rule c.args.alt
    checked.algebra_known c.requires)
