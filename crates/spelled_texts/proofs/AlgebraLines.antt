-- The spelled line of an algebra declares it, and so does that of the axiom.
use Rattle.std.proofs.Common.{◌≡◌, ℕ, true, codes, Some, List, [], ◌∷◌, refl, sym, append_assoc, arith, append-nil}
use Rattle.adp_model.specs.declared.grammar.Goal.{Goal}
use Rattle.adp_model.specs.declared.grammar.Goal.TheVariants.{Least, Greatest}
use Rattle.adp_model.specs.declared.grammar.Algebra.{Algebra}
use Rattle.adp_model.specs.declared.grammar.Grammar.{Grammar}
use Rattle.adp_model.specs.WellFormed.{is_name}
use Rattle.job_texts.specs.Spelling.{goal_text, rule_name}
use Rattle.job_texts.specs.LineTokens.{Word}
use Rattle.job_texts.specs.Declarations.{declaration_of}
use Rattle.spelled_texts.proofs.ReadTokens.{TokenLaws, Reads, IsWord, nothing_reads, name_is_word, word_then, space_then, same_text_reads}
use Rattle.spelled_texts.proofs.Printing.{Prints, literal_prints, prints-append, word_prints}
use Rattle.spelled_texts.proofs.Contents.{algebra_content, algebra_declaration, axiom_content, axiom_declaration}
use Rattle.spelled_texts.proofs.HeaderOf.{Declares, says_declaration}

goal_is_word : (goal : Goal) → IsWord (goal_text goal)
goal_is_word Least = record { nonempty = omega arith; in_word = refl }
goal_is_word Greatest = record { nonempty = omega arith; in_word = refl }

goal_declares : (version : ℕ) (name : List ℕ) (goal : Goal) → declaration_of version (Word (codes "algebra") ∷ Word name ∷ Word (goal_text goal) ∷ [])
    ≡ Some (algebra_declaration (record { name = name; goal = goal; terms = [] }))
goal_declares version name Least = refl
goal_declares version name Greatest = refl

module _ (laws : TokenLaws) where
  last_word : (word : List ℕ) → IsWord word → Reads word (Word word ∷ [])
  last_word word is = same_text_reads (sym (append-nil word)) (word_then laws word is refl nothing_reads)

  algebra_reads : (algebra : Algebra) → is_name algebra.name ≡ true → Reads (algebra_content algebra) (Word (codes "algebra") ∷ Word algebra.name ∷ Word (goal_text algebra.goal) ∷ [])
  algebra_reads algebra named =
      same_text_reads (simp append_assoc)
      (word_then laws (codes "algebra") (record { nonempty = omega arith; in_word = refl }) refl
      (space_then laws (word_then laws algebra.name (name_is_word algebra.name named) refl
      (space_then laws (last_word (goal_text algebra.goal) (goal_is_word algebra.goal))))))

  pub algebra_line_declares : (version : ℕ) (algebra : Algebra) → is_name algebra.name ≡ true → Declares version (algebra_content algebra) (algebra_declaration algebra)
  algebra_line_declares version algebra named =
      let prints : Prints (algebra_content algebra) =
      prints-append (prints-append (prints-append (literal_prints (codes "algebra ") refl) (word_prints algebra.name (name_is_word algebra.name named))) (literal_prints (codes " ") refl))
      (word_prints (goal_text algebra.goal) (goal_is_word algebra.goal)) in
      let reads = algebra_reads algebra named in
      record {
        printable = prints.all;
        says = says_declaration version (algebra_content algebra) _ (algebra_declaration algebra) refl prints.all reads (goal_declares version algebra.name algebra.goal);
        other = rw reads.are refl;
      }

  axiom_reads : (grammar : Grammar) → is_name (rule_name grammar grammar.axiom) ≡ true → Reads (axiom_content grammar) (Word (codes "grammar") ∷ Word (rule_name grammar grammar.axiom) ∷ [])
  axiom_reads grammar named =
      word_then laws (codes "grammar") (record { nonempty = omega arith; in_word = refl }) refl
      (space_then laws (last_word (rule_name grammar grammar.axiom) (name_is_word (rule_name grammar grammar.axiom) named)))

  pub axiom_line_declares : (version : ℕ) (grammar : Grammar) → is_name (rule_name grammar grammar.axiom) ≡ true → Declares version (axiom_content grammar) (axiom_declaration grammar)
  axiom_line_declares version grammar named =
      let prints : Prints (axiom_content grammar) = prints-append (literal_prints (codes "grammar ") refl)
      (word_prints (rule_name grammar grammar.axiom) (name_is_word (rule_name grammar grammar.axiom) named)) in
      let reads = axiom_reads grammar named in
      record {
        printable = prints.all;
        says = says_declaration version (axiom_content grammar) _ (axiom_declaration grammar) refl prints.all reads refl;
        other = rw reads.are refl;
      }
