-- The rule of a name, looked for from the first one on.
use Rattle.std.proofs.Common.{◌≡◌, ℕ, ◌+◌, ◌<◌, ◌≤◌, ◌⊎◌, inl, inr, true, false, Some, None, List, [], length, subst, arith}
use Rattle.std.specs.List.{position_or_len}
use Rattle.std.proofs.lemmas.Bool.Decides.{nat_tests}
use Rattle.std.proofs.lemmas.List.Sums.{position_or_len_is}
use Rattle.adp_model.specs.declared.grammar.Grammar.{Grammar}
use Rattle.adp_model.specs.declared.grammar.Rule as rules
use Rattle.adp_model.specs.Parts.{rule_at}
use Rattle.table_certificate.specs.CertificateLines.{is_text, rule_named}

le_or_lt : (m k : ℕ) → (m ≤ k) ⊎ (k < m)
le_or_lt m k = grind arith

module _ (grammar : Grammar) (name : List ℕ) where
  pub named_more : (number : ℕ) → ((other : ℕ) → other < number → is_text (rule_at grammar other).name name ≡ false)
      → is_text (rule_at grammar number).name name ≡ false → (other : ℕ) → other < number + 1
      → is_text (rule_at grammar other).name name ≡ false
  named_more number before here other low = by (le_or_lt number other)
    where
      by : (number ≤ other) ⊎ (other < number) → is_text (rule_at grammar other).name name ≡ false
      by (inr below) = before other below
      by (inl high) =
          let same : number ≡ other = omega (arith, low, high) in
          subst (λ n. is_text (rule_at grammar n).name name ≡ false) same here

  pub named_here : (number : ℕ) → number < length grammar.rules
      → ((other : ℕ) → other < number → is_text (rule_at grammar other).name name ≡ false)
      → is_text (rule_at grammar number).name name ≡ true → Some number ≡ rule_named grammar name
  named_here number low before here =
      let at : position_or_len (λ (rule : rules.Rule). is_text rule.name name) grammar.rules ≡ number =
      position_or_len_is (λ (rule : rules.Rule). is_text rule.name name) grammar.rules number (record { name = []; alts = [] }) (omega (arith, low)) before (λ inside. here) in
      rw at (grind (arith, nat_tests))

  pub named_none : (number : ℕ) → number ≡ length grammar.rules
      → ((other : ℕ) → other < number → is_text (rule_at grammar other).name name ≡ false) → None ≡ rule_named grammar name
  named_none number all before =
      let at : position_or_len (λ (rule : rules.Rule). is_text rule.name name) grammar.rules ≡ number =
      position_or_len_is (λ (rule : rules.Rule). is_text rule.name name) grammar.rules number (record { name = []; alts = [] }) (omega (arith, all)) before (λ inside. absurd (omega (arith, inside, all))) in
      rw at (grind (arith, nat_tests))
