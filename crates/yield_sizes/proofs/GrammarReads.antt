-- What the code's reads of a grammar and its comparisons of lengths are.
use Rattle.std.proofs.Common.{◌≡◌, ℕ, ◌<◌, true, false, Option, Some, None, List, [], Vec, Global, length, get_or, refl, sym, ap, ◌∙◌}
use Rattle.std.specs.Prelude.{◌==◌, is_some}
use Rattle.std.specs.Option.{option_eq}
use Rattle.std.specs.Vec.{with_items}
use Rattle.std.proofs.lemmas.Bool.{eqb-true, eq-eqb, false≢true}
use Rattle.std.proofs.lemmas.List.{get_or_default, with_items_is}
use Rattle.adp_model.specs.declared.grammar.Rule as rules
use Rattle.adp_model.specs.declared.grammar.Grammar.{Grammar}
use Rattle.adp_model.specs.Parts.{alternatives_of}

-- the alternatives of a rule that was read
pub alternatives_read : (grammar : Grammar) (items : List rules.Rule) (number : ℕ) (rule : rules.Rule) → items ≡ grammar.rules → number < length items → rule ≡ get_or items number rule → rule.alts ≡ alternatives_of grammar number
alternatives_read grammar items number rule e l is =
    ap (λ (r : rules.Rule). r.alts) (is ∙ get_or_default items number rule (record { name = []; alts = [] }) l)
    ∙ ap (λ (xs : List rules.Rule). (get_or xs number (record { name = []; alts = [] })).alts) e

pub same_length : (a b : Option ℕ) → option_eq (λ m n. m == n) a b ≡ true → a ≡ b
same_length (Some m) (Some n) e = ap Some (eqb-true m n e)
same_length (Some m) None e = absurd (false≢true e)
same_length None (Some n) e = absurd (false≢true e)
same_length None None e = refl

pub length_same : (a b : Option ℕ) → a ≡ b → option_eq (λ m n. m == n) a b ≡ true
length_same (Some m) (Some n) e = let equal : m ≡ n = cc in eq-eqb m n equal
length_same (Some m) None e = absurd (cc)
length_same None (Some n) e = absurd (cc)
length_same None None e = refl

pub none_is : (a : Option ℕ) → is_some a ≡ false → a ≡ None
none_is None e = refl
none_is (Some n) e = absurd (false≢true (sym e))

pub some_is : (a : Option ℕ) → is_some a ≡ true → (n : ℕ) × (a ≡ Some n)
some_is None e = absurd (false≢true e)
some_is (Some n) e = (n, refl)

pub not_none : (a : Option ℕ) → is_some a ≡ true → a ≡ None → ⊥
not_none None e same = false≢true e
not_none (Some n) e same = cc

-- a vector whose items were written as a slice
pub written_items : (known : Vec (Option ℕ) Global) (old new : List (Option ℕ)) → length new ≡ length old → old ≡ known.items → (with_items known new).items ≡ new
written_items known old new long value = with_items_is known new (long ∙ ap length value ∙ sym known.ok.0)
