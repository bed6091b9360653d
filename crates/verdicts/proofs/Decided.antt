-- What a verdict is, can't be refuted only where it is so: so a law on verdicts that rests on what is irrefutable holds.
use Rattle.std.proofs.Common.{◌≡◌, ℕ, ◌⊎◌, inl, inr, List, [], ◌∷◌, drop, get_or, length, refl, ap, ap₂, subst, arith}
use Rattle.std.proofs.lemmas.Bool.{cases_eq}
use Rattle.adp_model.specs.declared.fault.TextFault.{TextFault}
use Rattle.adp_model.specs.declared.fault.GrammarFault.{GrammarFault}
use Rattle.adp_model.specs.declared.fault.LimitFault.{LimitFault}
use Rattle.faultless_grammars.specs.Irrefutable.{IsIrrefutable}
use Rattle.verdicts.specs.declared.command.Mode.{Mode}
use Rattle.verdicts.specs.declared.command.Mode.TheVariants.{Wins, Replay}
use Rattle.verdicts.specs.Command.{Command, HasCommand, ShowsWins}
use Rattle.verdicts.specs.Verdict.{AreOfWins, IsReports, IsVerdict, Verdict, Usage, TooLong, Text, Grammar, Limit, Rejected, Reports}
use Rattle.verdicts.proofs.OneVerdict.{command_unique}

-- ---- numbers and lists

-- a function of what can't be refuted
of_part : (P Q : Type 0) → (P → Q) → IsIrrefutable P → IsIrrefutable Q
of_part P Q goes there refuted = there (λ p. refuted (goes p))

same_number : (m n : ℕ) → IsIrrefutable (m ≡ n) → m ≡ n
same_number m n there = elim (cases_eq m n) [
  | inl same ↦ same
  | inr differs ↦ absurd (there differs)
]

same_list : (X : Type 0) → ((x y : X) → IsIrrefutable (x ≡ y) → x ≡ y) → (xs ys : List X) → IsIrrefutable (xs ≡ ys)
    → xs ≡ ys
same_list X each [] [] there = refl
same_list X each [] (y ∷ ys) there = absurd (there (λ e. let long = ap (λ (l : List X). length l) e in omega (arith, long)))
same_list X each (x ∷ xs) [] there = absurd (there (λ e. let long = ap (λ (l : List X). length l) e in omega (arith, long)))
same_list X each (x ∷ xs) (y ∷ ys) there =
    ap₂ (λ head tail. head ∷ tail)
    (each x y (of_part _ _ (λ e. ap (λ (l : List X). get_or l 0 x) e) there))
    (same_list X each xs ys (of_part _ _ (λ e. ap (λ (l : List X). drop 1 l) e) there))

same_bytes : (a b : List ℕ) → IsIrrefutable (a ≡ b) → a ≡ b
same_bytes a b there = same_list ℕ same_number a b there

-- ---- verdicts

abbrev text_of : TextFault → Verdict → TextFault
text_of other (Text fault) = fault
text_of other verdict = other

abbrev grammar_of : GrammarFault → Verdict → GrammarFault
grammar_of other (Grammar fault) = fault
grammar_of other verdict = other

abbrev limit_of : LimitFault → Verdict → LimitFault
limit_of other (Limit word fault) = fault
limit_of other verdict = other

abbrev number_of : Verdict → ℕ
number_of (Limit word fault) = word
number_of (Rejected line) = line
number_of verdict = 0

abbrev reports_of : Verdict → List (List ℕ)
reports_of (Reports reports) = reports
reports_of verdict = []

abbrev kind_of : Verdict → ℕ
kind_of Usage = 0
kind_of TooLong = 1
kind_of (Text fault) = 2
kind_of (Grammar fault) = 3
kind_of (Limit word fault) = 4
kind_of (Rejected line) = 5
kind_of (Reports reports) = 6

same_text : (f g : TextFault) → IsIrrefutable (f ≡ g) → f ≡ g
same_text f g there =
    let line = same_number f.line g.line (of_part _ _ (λ e. ap (λ (fault : TextFault). fault.line) e) there) in
    let kind = same_number f.kind g.kind (of_part _ _ (λ e. ap (λ (fault : TextFault). fault.kind) e) there) in
    let count = same_number f.count g.count (of_part _ _ (λ e. ap (λ (fault : TextFault). fault.count) e) there) in
    λ i. record { line = line i; kind = kind i; count = count i }

same_grammar_fault : (f g : GrammarFault) → IsIrrefutable (f ≡ g) → f ≡ g
same_grammar_fault f g there =
    let kind = same_number f.kind g.kind (of_part _ _ (λ e. ap (λ (fault : GrammarFault). fault.kind) e) there) in
    let name = same_bytes f.name g.name (of_part _ _ (λ e. ap (λ (fault : GrammarFault). fault.name) e) there) in
    λ i. record { kind = kind i; name = name i }

same_limit : (f g : LimitFault) → IsIrrefutable (f ≡ g) → f ≡ g
same_limit f g there =
    let kind = same_number f.kind g.kind (of_part _ _ (λ e. ap (λ (fault : LimitFault). fault.kind) e) there) in
    let number = same_number f.number g.number (of_part _ _ (λ e. ap (λ (fault : LimitFault). fault.number) e) there) in
    λ i. record { kind = kind i; number = number i }

same_verdict : (a b : Verdict) → IsIrrefutable (a ≡ b) → a ≡ b
same_verdict Usage Usage there = refl
same_verdict TooLong TooLong there = refl
same_verdict (Text f) (Text g) there = ap Text (same_text f g (of_part _ _ (λ e. ap (text_of f) e) there))
same_verdict (Grammar f) (Grammar g) there =
    ap Grammar (same_grammar_fault f g (of_part _ _ (λ e. ap (grammar_of f) e) there))
same_verdict (Limit m f) (Limit n g) there =
    ap₂ Limit (same_number m n (of_part _ _ (λ e. ap number_of e) there))
    (same_limit f g (of_part _ _ (λ e. ap (limit_of f) e) there))
same_verdict (Rejected m) (Rejected n) there = ap Rejected (same_number m n (of_part _ _ (λ e. ap number_of e) there))
same_verdict (Reports a) (Reports b) there =
    ap Reports (same_list (List ℕ) same_bytes a b (of_part _ _ (λ e. ap reports_of e) there))
same_verdict a b there = absurd (there (λ e. let kinds = ap kind_of e in omega (arith, kinds)))

pub reports_or_not : (verdict : Verdict) → IsIrrefutable (IsReports verdict) → IsReports verdict
reports_or_not (Reports reports) there = tt
reports_or_not verdict there = there (λ is. is)

-- ---- reports with wins

wins_or_not : (mode : Mode) → ShowsWins mode ⊎ (ShowsWins mode → ⊥)
wins_or_not Wins = inl (inl refl)
wins_or_not Replay = inl (inr refl)
wins_or_not mode = inr (λ shows. elim shows [ inl e ↦ absurd (cc) | inr e ↦ absurd (cc) ])

module _ (words : List (List ℕ)) (bytes : List ℕ) where
  command_of : (reports : List (List ℕ)) → IsVerdict words bytes (Reports reports) → HasCommand words
  command_of reports (inl (other, inl asked)) = (asked.2.command, asked.2.asks.is_command)
  command_of reports (inl (other, inr made)) = (made.0, made.1)
  command_of reports (inr (verifies, is)) = (verifies.0, verifies.1)

  of_wins_or_not : (a b : Verdict) → IsVerdict words bytes a → AreOfWins words a b ⊎ (AreOfWins words a b → ⊥)
  of_wins_or_not (Reports reports) (Reports others) h =
      let found = command_of reports h in
      elim (wins_or_not found.0.mode) [
        | inl shows ↦ inl (found.0, found.1, shows)
        | inr none ↦ inr (λ of. none (subst (λ (c : Command). ShowsWins c.mode) (command_unique words of.0 found.0 of.1 found.1) of.2))
      ]
  of_wins_or_not a b h = inr (λ of. of)

  pub same_or_of_wins : (a b : Verdict) → IsVerdict words bytes a → IsIrrefutable ((a ≡ b) ⊎ AreOfWins words a b)
      → (a ≡ b) ⊎ AreOfWins words a b
  same_or_of_wins a b h there = elim (of_wins_or_not a b h) [
    | inl of ↦ inr of
    | inr none ↦ inl (same_verdict a b (λ differ. there (λ case. elim case [ inl e ↦ differ e | inr of ↦ none of ])))
  ]
