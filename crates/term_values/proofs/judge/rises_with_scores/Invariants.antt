use Rattle.std.proofs.Common.{◌≡◌, ℕ, ◌<◌}
use Rattle.adp_model.specs.declared.grammar.Kind.TheVariants.{Score}
use Rattle.adp_model.specs.TermSigns.{RisesWith, kind_at}
use Rattle.adp_model.specs.WideTerms.{form_of}
use Rattle.term_values.proofs.judge.rises_with_scores.Given as goal

-- it rises with the scores so far
abbrev pub invariant-loop-place : goal.invariant-loop-place
invariant-loop-place l = (k : ℕ) → k < l.place → kind_at l.kinds k ≡ Score → RisesWith k (form_of l.term)
