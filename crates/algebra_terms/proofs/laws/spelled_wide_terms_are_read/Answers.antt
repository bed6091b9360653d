use Rattle.std.proofs.Common.{◌≤◌, ◌&&◌, nat_le, length, arith}
use Rattle.adp_model.specs.WellFormed.{is_name}
use Rattle.algebra_terms.proofs.Ranges.{both}
use Rattle.algebra_terms.proofs.SpelledWide.{wide_is_read}
use Rattle.algebra_terms.proofs.laws.spelled_wide_terms_are_read.Goals as goal

pub returns : goal.returns
returns c = λ sign term sign_fits term_fits.
    let parts = both (is_name sign.name && nat_le 1 (length sign.kinds)) (nat_le (length sign.kinds) 4) sign_fits in
    let few : length sign.kinds ≤ 4 = grind (arith, parts.1) in
    wide_is_read c.words_are_tokens.ensures c.marks_are_tokens.ensures c.spaces_are_no_tokens.ensures sign.kinds term few term_fits
