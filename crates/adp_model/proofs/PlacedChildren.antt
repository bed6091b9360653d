-- The spans that a node's cuts and its end give to its arguments are those of its children.
use Rattle.std.proofs.Common.{◌≡◌, ℕ, ◌≤◌, IsTrue, List, [], ◌∷◌, ◌++◌, length, refl, sym, ap, arith}
use Rattle.adp_model.specs.declared.grammar.Arg.{Arg}
use Rattle.adp_model.specs.declared.grammar.Arg.TheVariants.{Rule, Literal, Letter, Run}
use Rattle.adp_model.specs.PosedProblem.{PosedProblem}
use Rattle.adp_model.specs.Parts.{arguments_of}
use Rattle.adp_model.specs.Tree.{Tree, Trees, Nil, Cons, end_of, ends_of}
use Rattle.adp_model.specs.Derivation.{DeriveArguments}
use Rattle.adp_model.specs.Preference.{cuts_of}
use Rattle.adp_model.specs.Splits.{place}
use Rattle.adp_model.specs.WellFormed.{is_well_formed}
use Rattle.adp_model.proofs.WellFormedParts.{HasFewArguments-formed}

behind : (p : PosedProblem) (argument : Arg) (arguments : List Arg) (from to : ℕ) (first : Tree) (others : Trees) → DeriveArguments p (argument ∷ arguments) from to (Cons first others) → DeriveArguments p arguments (end_of first) to others
behind p (Rule rule) arguments from to first others h = h.1
behind p (Literal text) arguments from to first others h = h.1
behind p (Letter class) arguments from to first others h = h.1
behind p (Run class low high) arguments from to first others h = h.1

none_behind : (p : PosedProblem) (argument : Arg) (arguments : List Arg) (from to : ℕ) → DeriveArguments p (argument ∷ arguments) from to Nil → ⊥
none_behind p argument arguments from to h = h

-- the boundaries that a node's cuts and its end give are the ends of its children
place-children : (p : PosedProblem) (arguments : List Arg) (from to : ℕ) (children : Trees) → length arguments ≤ 4 → DeriveArguments p arguments from to children → place arguments from (cuts_of to children ++ to ∷ []) ≡ place arguments from (ends_of children)
place-children p [] from to children few h = refl
place-children p (a ∷ []) from to Nil few h = absurd (none_behind p a [] from to h)
place-children p (a ∷ []) from to (Cons s Nil) few h = refl
place-children p (a ∷ []) from to (Cons s (Cons t ts)) few h = absurd (behind p a [] from to s (Cons t ts) h)
place-children p (a ∷ b ∷ []) from to Nil few h = absurd (none_behind p a (b ∷ []) from to h)
place-children p (a ∷ b ∷ []) from to (Cons s Nil) few h = absurd (none_behind p b [] (end_of s) to (behind p a (b ∷ []) from to s Nil h))
place-children p (a ∷ b ∷ []) from to (Cons s (Cons t ts)) few h = refl
place-children p (a ∷ b ∷ c ∷ []) from to Nil few h = absurd (none_behind p a (b ∷ c ∷ []) from to h)
place-children p (a ∷ b ∷ c ∷ []) from to (Cons s Nil) few h = absurd (none_behind p b (c ∷ []) (end_of s) to (behind p a (b ∷ c ∷ []) from to s Nil h))
place-children p (a ∷ b ∷ c ∷ []) from to (Cons s (Cons t Nil)) few h =
    absurd (none_behind p c [] (end_of t) to (behind p b (c ∷ []) (end_of s) to t Nil (behind p a (b ∷ c ∷ []) from to s (Cons t Nil) h)))
place-children p (a ∷ b ∷ c ∷ []) from to (Cons s (Cons t (Cons u us))) few h = refl
place-children p (a ∷ b ∷ c ∷ d ∷ []) from to Nil few h = absurd (none_behind p a (b ∷ c ∷ d ∷ []) from to h)
place-children p (a ∷ b ∷ c ∷ d ∷ []) from to (Cons s Nil) few h = absurd (none_behind p b (c ∷ d ∷ []) (end_of s) to (behind p a (b ∷ c ∷ d ∷ []) from to s Nil h))
place-children p (a ∷ b ∷ c ∷ d ∷ []) from to (Cons s (Cons t Nil)) few h =
    absurd (none_behind p c (d ∷ []) (end_of t) to (behind p b (c ∷ d ∷ []) (end_of s) to t Nil (behind p a (b ∷ c ∷ d ∷ []) from to s (Cons t Nil) h)))
place-children p (a ∷ b ∷ c ∷ d ∷ []) from to (Cons s (Cons t (Cons u Nil))) few h =
    let one = behind p a (b ∷ c ∷ d ∷ []) from to s (Cons t (Cons u Nil)) h in
    let two = behind p b (c ∷ d ∷ []) (end_of s) to t (Cons u Nil) one in
    absurd (none_behind p d [] (end_of u) to (behind p c (d ∷ []) (end_of t) to u Nil two))
place-children p (a ∷ b ∷ c ∷ d ∷ []) from to (Cons s (Cons t (Cons u (Cons v vs)))) few h =
    let one = behind p a (b ∷ c ∷ d ∷ []) from to s (Cons t (Cons u (Cons v vs))) h in
    let two = behind p b (c ∷ d ∷ []) (end_of s) to t (Cons u (Cons v vs)) one in
    let three = behind p c (d ∷ []) (end_of t) to u (Cons v vs) two in
    last v vs (behind p d [] (end_of u) to v vs three)
  where
    last : (v : Tree) (vs : Trees) → DeriveArguments p [] (end_of v) to vs → place (a ∷ b ∷ c ∷ d ∷ []) from (end_of s ∷ end_of t ∷ end_of u ∷ to ∷ []) ≡ place (a ∷ b ∷ c ∷ d ∷ []) from (end_of s ∷ end_of t ∷ end_of u ∷ end_of v ∷ ends_of vs)
    last v Nil e = ap (λ x. place (a ∷ b ∷ c ∷ d ∷ []) from (end_of s ∷ end_of t ∷ end_of u ∷ x ∷ [])) (sym e)
    last v (Cons w ws) e = absurd e
place-children p (a ∷ b ∷ c ∷ d ∷ e ∷ arguments) from to children few h = absurd (omega arith)

pub children_placed : (p : PosedProblem) → IsTrue (is_well_formed p.grammar) → (rule alternative from to : ℕ) (children : Trees)
    → DeriveArguments p (arguments_of p.grammar rule alternative) from to children
    → place (arguments_of p.grammar rule alternative) from (cuts_of to children ++ to ∷ []) ≡ place (arguments_of p.grammar rule alternative) from (ends_of children)
children_placed p formed rule alternative from to children =
    place-children p (arguments_of p.grammar rule alternative) from to children (HasFewArguments-formed p.grammar formed rule alternative)
