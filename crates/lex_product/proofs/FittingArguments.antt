-- Arguments of a well-formed grammar fit the kinds of their sign.
use Rattle.std.proofs.Common.{None, ◌≡◌, ◌<◌, ◌&&◌, ◌==◌, ℕ, true, nat_lt, nat_le, IsTrue, List, [], ◌∷◌, length, arith, eqb-true}
use Rattle.std.specs.List.{list_all, zip}
use Rattle.adp_model.specs.declared.grammar.Kind.{Kind}
use Rattle.adp_model.specs.declared.grammar.Arg.{Arg}
use Rattle.adp_model.specs.declared.grammar.Grammar.{Grammar}
use Rattle.adp_model.specs.Parts.{sign_at, rule_at, alternatives_of, alternative_at, arguments_of}
use Rattle.adp_model.specs.WellFormed.{is_name, is_class, is_sign, is_algebra, is_argument, is_size, is_alternative, is_rule, counts_fit, names_differ, parts_fit, is_well_formed}
use Rattle.lex_product.proofs.Compiled.{and_first, and_second, all_at}

-- kinds that arguments fit
pub record AreFit (grammar : Grammar) (kinds : List Kind) (arguments : List Arg) : Type 0 where
  pub count : length arguments ≡ length kinds
  pub fit : list_all (is_argument grammar) (zip kinds arguments) ≡ true

pub others_fit : (grammar : Grammar) (kind : Kind) (kinds : List Kind) (argument : Arg) (arguments : List Arg) → AreFit grammar (kind ∷ kinds) (argument ∷ arguments) → AreFit grammar kinds arguments
others_fit grammar kind kinds argument arguments h =
    let count = h.count in
    record { count = omega arith; fit = and_second (is_argument grammar (kind, argument)) (list_all (is_argument grammar) (zip kinds arguments)) h.fit }

pub first_fits : (grammar : Grammar) (kind : Kind) (kinds : List Kind) (argument : Arg) (arguments : List Arg) → AreFit grammar (kind ∷ kinds) (argument ∷ arguments)
    → is_argument grammar (kind, argument) ≡ true
first_fits grammar kind kinds argument arguments h = and_first (is_argument grammar (kind, argument)) (list_all (is_argument grammar) (zip kinds arguments)) h.fit

-- the arguments of each alternative
pub AreFit-formed : (grammar : Grammar) → IsTrue (is_well_formed grammar) → (rule alternative : ℕ) → rule < length grammar.rules → alternative < length (alternatives_of grammar rule)
    → AreFit grammar (sign_at grammar (alternative_at grammar rule alternative).sign).kinds (arguments_of grammar rule alternative)
AreFit-formed grammar formed rule alternative known inside =
    let all_but = list_all is_class grammar.classes && list_all is_sign grammar.signs && list_all (is_algebra grammar.signs) grammar.algebras in
    let each = and_second all_but (list_all (is_rule grammar) grammar.rules) (and_second (counts_fit grammar && names_differ grammar) (parts_fit grammar) formed) in
    let own = rule_at grammar rule in
    let formed_rule = all_at (is_rule grammar) grammar.rules rule (record { name = []; alts = [] }) each known in
    let alternatives = and_second (is_name own.name && nat_le 1 (length own.alts) && nat_le (length own.alts) 64) (list_all (is_alternative grammar) own.alts) formed_rule in
    let one = alternative_at grammar rule alternative in
    let formed_one = all_at (is_alternative grammar) own.alts alternative (record { sign = 0; args = []; size = None }) alternatives inside in
    let kinds = (sign_at grammar one.sign).kinds in
    let in_signs = is_size one.size && nat_lt one.sign (length grammar.signs) in
    let counted = length one.args == length kinds in
    record {
      count = eqb-true _ _ (and_second in_signs counted (and_first (in_signs && counted) (list_all (is_argument grammar) (zip kinds one.args)) formed_one));
      fit = and_second (in_signs && counted) (list_all (is_argument grammar) (zip kinds one.args)) formed_one;
    }
