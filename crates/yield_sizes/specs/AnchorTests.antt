-- Tests for anchored rules, by a table of where references lead.
use Rattle.std.specs.Prelude.{ℕ, Bool, false, ◌&&◌, ◌||◌, ◌==◌, Option, List, [], slice_index_or}
use Rattle.std.specs.List.{enumerate_from, list_any, zip}
use Rattle.adp_model.specs.declared.grammar.Arg.{Arg}
use Rattle.adp_model.specs.declared.grammar.Alt.{Alt}
use Rattle.adp_model.specs.declared.grammar.Rule.{Rule}
use Rattle.adp_model.specs.declared.grammar.Grammar.{Grammar}
use Rattle.adp_model.specs.ProblemFields.{AreLeftAnchors, AreRightAnchors}
use Rattle.yield_sizes.specs.declared.anchoring.Side.{Side}
use Rattle.yield_sizes.specs.declared.anchoring.Side.TheVariants.{Left, Right}
use Rattle.yield_sizes.specs.ArgumentTests.{is_named_before, is_named_behind}

-- one of the arguments is this rule, and one on this side of it can be nonempty
abbrev pub is_named_beyond : Side → List (Option ℕ) → ℕ → List Arg → Bool
is_named_beyond Left greatest rule arguments = is_named_behind greatest rule arguments
is_named_beyond Right greatest rule arguments = is_named_before greatest rule arguments

-- so are the arguments of an alternative
abbrev pub is_start_in : Side → List (Option ℕ) → ℕ → List Alt → Bool
is_start_in side greatest rule alternatives =
    list_any (λ alternative. is_named_beyond side greatest rule alternative.args) alternatives

-- so are those of an alternative of a reached rule
abbrev pub is_start : Side → List (Option ℕ) → List Rule → List Bool → ℕ → Bool
is_start side greatest rules reached rule =
    list_any (λ entry. entry.1 && is_start_in side greatest rule entry.0.alts) (zip rules reached)

-- references lead from the root to the rule, or it is the root
abbrev pub is_reached : ℕ → List (List Bool) → ℕ → Bool
is_reached root paths rule = root == rule || slice_index_or (slice_index_or paths root []) rule false

-- references lead from a start to the rule, or it is one
abbrev pub is_free : List (List Bool) → List Bool → ℕ → Bool
is_free paths starts rule =
    list_any (λ entry. entry.1 && (entry.0 == rule || slice_index_or (slice_index_or paths entry.0 []) rule false))
    (enumerate_from 0 starts)

-- the flags tell which rules are anchored on this side
abbrev pub AreSideAnchors : Side → Grammar → List Bool → Type 0
AreSideAnchors Left grammar flags = AreLeftAnchors grammar flags
AreSideAnchors Right grammar flags = AreRightAnchors grammar flags
