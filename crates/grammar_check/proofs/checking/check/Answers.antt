use Rattle.std.proofs.Common.{refl}
use Rattle.adp_model.specs.GrammarSigns.{known_signs}
use Rattle.adp_model.specs.Parts.{sign_at, term_for}
use Rattle.grammar_check.proofs.checking.check.Goals as goal

pub invariant_of-result : goal.invariant_of-result
invariant_of-result c =
    let grammar = c.args.grammar in
    let faultless = c.in_ok-found.ensures.0 in
    let sizes = c.in_ok-found.ensures.1 in
    let ranks = c.in_ok-found.ensures.3 in
    record {
      found = record {
        well_formed = c.requires;
        algebra_known = faultless.named.in_range;
        least_each = sizes.least_each;
        greatest_each = sizes.greatest_are.are.each;
        ranks_each = ranks.each;
        least_are = sizes.least_are;
        greatest_are = λ rule inside. (c.in_ok-found.found.sizes.greatest, sizes.greatest_are, inside, refl);
        ranks_fall = ranks.fall;
        ranks_fit = ranks.fit;
        possible = λ rule alternative inside. faultless.possible rule (c.alternatives_fit.ensures.rule grammar rule alternative inside) c.in_ok-found.found.sizes.least c.in_ok-found.found.sizes.greatest sizes alternative inside;
        orderly = λ sign inside. c.monotone_terms_keep_order.ensures (known_signs grammar c.in_ok-found.found.algebra) (term_for grammar c.in_ok-found.found.algebra sign) (sign_at grammar sign).kinds (faultless.monotone sign inside);
      };
      anchored = c.in_ok-found.ensures.2;
    }

pub returns : goal.returns
returns c = (refl, c.in_ok-found.ensures.0)
