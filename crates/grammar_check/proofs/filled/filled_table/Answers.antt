use Rattle.std.proofs.Common.{◌≡◌, ℕ, ◌<◌, ◌≤◌, length, ap, sym, subst, ◌∙◌, arith}
use Rattle.std.specs.List.{All}
use Rattle.std.specs.Vec.{vec_len}
use Rattle.adp_model.specs.LimitFaults.{told}
use Rattle.grammar_check.specs.CheckedGrammar.{CheckedGrammar}
use Rattle.grammar_check.specs.Tables.{entry}
use Rattle.grammar_check.specs.MeasuredBounds.{AreBoundsOf}
use Rattle.grammar_check.specs.GrammarPlans.{grammar_plan, lengths_of}
use Rattle.grammar_check.specs.Fills.{plan_tokens, IsRuleReadable, IsRuleWide, rules_plan, IsKeptRanked}
use Rattle.grammar_check.specs.TokenNumbers.{greatest_of, token_number, tokens_number}
use Rattle.grammar_check.specs.KeptPlans.{rule_tokens}
use Rattle.grammar_check.proofs.KeptPlanSteps.{kept, kept_ranked, kept_readable, kept_tokens, greatest_of-map}
use Rattle.grammar_check.proofs.OwnWays.{fits_in}
use Rattle.grammar_check.proofs.MeasuredPlans.{sound_arguments, planned, ranked, readable, none_filled}
use Rattle.grammar_check.proofs.filled.filled_table.Goals as goal

pub fill-requires-clause-fillable : goal.fill-requires-clause-fillable
fill-requires-clause-fillable c =
    let fields = c.checked.inside in
    let found = c.checked.invariant.found in
    let grammar = fields.grammar in
    let between = c.sizes_are_the_checked_numbers.ensures grammar fields.algebra fields.sizes.least fields.sizes.greatest fields.ranks found in
    let fitting = c.numbers_fit_together.ensures.sizes_fit grammar found.well_formed in
    let sound = sound_arguments grammar (c.numbers_fit_together.ensures.named_known grammar found.well_formed) (c.numbers_fit_together.ensures.runs_in_order grammar found.well_formed) in
    let plans = c.in_ok-plans.plans.items in
    let plan = c.in_ok-plans.ensures.plan in
    let count : length grammar.rules ≡ vec_len c.in_ok-plans.plans = omega (arith, plan.each, c.in_ok-plans.plans.ok.0) in
    record {
      rows = c.in_ok-table.ensures.rows ∙ c.len.ensures;
      ranks = ap length c.as_slice.ensures ∙ found.ranks_each ∙ count;
      readable = subst (λ n. All (IsRuleReadable n) plans) count
          (kept_readable grammar c.args.measure (lengths_of fields.sizes c.args.most) plans plan (length grammar.rules)
          (readable grammar fields.algebra fields.sizes.least fields.sizes.greatest fields.ranks found fitting between sound c.args.measure c.args.most));
      columns = subst (λ n. All (IsRuleWide n) plans) (sym c.in_ok-table.ensures.width) c.in_ok-plans.ensures.columns;
    }

pub returns-clause-tokens : goal.returns-clause-tokens
returns-clause-tokens c =
    let fields = c.checked.inside in
    let grammar = fields.grammar in
    let plans = c.in_ok-plans.plans.items in
    let after = c.fill.new.plans.items in
    subst (λ (g : CheckedGrammar). (len : ℕ) → greatest_of (rule_tokens len) after ≡ tokens_number len (grammar_plan g.grammar c.args.measure (lengths_of g.sizes c.args.most))) c.checked.view_is
    (λ len. greatest_of-map (greatest_of (token_number len)) plan_tokens after ∙ ap (greatest_of (greatest_of (token_number len))) c.fill.ensures.stay.tokens
    ∙ sym (greatest_of-map (greatest_of (token_number len)) plan_tokens plans)
    ∙ kept_tokens grammar c.args.measure (lengths_of fields.sizes c.args.most) plans c.in_ok-plans.ensures.plan len)

pub returns-clause-entries : goal.returns-clause-entries
returns-clause-entries c =
    let fields = c.checked.inside in
    let found = c.checked.invariant.found in
    let grammar = fields.grammar in
    let between = c.sizes_are_the_checked_numbers.ensures grammar fields.algebra fields.sizes.least fields.sizes.greatest fields.ranks found in
    let fitting = c.numbers_fit_together.ensures.sizes_fit grammar found.well_formed in
    let sound = sound_arguments grammar (c.numbers_fit_together.ensures.named_known grammar found.well_formed) (c.numbers_fit_together.ensures.runs_in_order grammar found.well_formed) in
    let plans = c.in_ok-plans.plans.items in
    let plan = c.in_ok-plans.ensures.plan in
    let lengths = lengths_of fields.sizes c.args.most in
    subst (λ (g : CheckedGrammar). (bound : ℕ → ℕ → ℕ) → AreBoundsOf g.grammar c.args.measure bound → (rule len : ℕ) → rule < length g.grammar.rules → len ≤ c.args.most → entry c.fill.new.table rule len ≡ told (bound rule len)) c.checked.view_is
    (λ bound bounds rule len inside short.
    let filled = c.fill.ensures.filled bound
    (λ l low. kept grammar c.args.measure lengths plans plan bound l (omega (arith, c.requires)) (planned grammar fields.algebra fields.sizes.least fields.sizes.greatest fields.ranks found fitting between sound c.args.measure (fits_in grammar (c.terms_fit_their_alternatives.ensures.fit grammar found.well_formed) c.args.measure) c.args.most bound bounds l low))
    (subst (λ rs. IsKeptRanked rs (rules_plan plans)) (sym c.as_slice.ensures) (kept_ranked grammar c.args.measure lengths plans plan fields.ranks (ranked grammar fields.algebra fields.sizes.least fields.sizes.greatest fields.ranks found fitting between sound c.args.measure c.args.most)))
    (none_filled bound c.in_ok-table.table plans) in
    filled.entries rule len (omega (arith, plan.each, c.fill.ensures.stay.each, c.fill.new.plans.ok.0, c.in_ok-plans.plans.ok.0)) (omega arith))
