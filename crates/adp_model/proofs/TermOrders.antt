-- Terms that keep the order of scores, by their form.
use Rattle.std.proofs.Common.{Bool, true, ◌≡◌, ℤ, pos, ◌≤ℤ◌, List}
use Rattle.adp_model.specs.declared.grammar.Kind.{Kind}
use Rattle.adp_model.specs.declared.grammar.Term.{Term}
use Rattle.adp_model.specs.declared.grammar.Term.TheVariants.{Linear, Wide}
use Rattle.adp_model.specs.Terms.{term_value, AreValues, KeepsOrder}
use Rattle.adp_model.specs.TermSigns.{HasKnownSign, IsMonotone, is_not_negative}
use Rattle.adp_model.proofs.Monotone.{linear_rises}
use Rattle.adp_model.proofs.WideTerms.{not_negative, rises}

pub KeepsOrder-monotone : (known : Kind → Bool) (term : Term) (kinds : List Kind) → IsMonotone known term kinds → KeepsOrder (HasKnownSign known) term kinds
KeepsOrder-monotone known (Linear term) kinds m values values' can can' h = linear_rises term kinds values values' m h
KeepsOrder-monotone known (Wide term) kinds m values values' can can' h = rises kinds values values' h known can term m

pub term_not_negative : (known : Kind → Bool) (term : Term) (kinds : List Kind) → is_not_negative known kinds term ≡ true → (values : List ℤ) → AreValues (HasKnownSign known) kinds values → pos 0 ≤ℤ term_value term values
term_not_negative known (Linear term) kinds h values are = absurd cc
term_not_negative known (Wide term) kinds h values are = not_negative known kinds values are term h
