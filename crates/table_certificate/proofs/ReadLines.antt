-- Written lines, read: each has the form that it was written by.
use Rattle.std.proofs.Common.{◌≡◌, ℕ, ◌^◌, ◌<◌, ◌&&◌, ℤ, Bool, true, false, IsTrue, Option, Some, List, [], ◌∷◌, ◌++◌, codes, length, append_assoc, refl, ap, ◌∙◌, arith}
use Rattle.std.specs.Fmt.{decimal}
use Rattle.std.proofs.lemmas.List.Elements.{All-from_recursion}
use Rattle.adp_model.specs.declared.cell.Cell.{Cell}
use Rattle.adp_model.specs.declared.grammar.Grammar.{Grammar}
use Rattle.adp_model.specs.Parts.{rule_at}
use Rattle.adp_model.specs.Report.{line}
use Rattle.adp_model.specs.WellFormed.{is_name, is_well_formed}
use Rattle.table_certificate.specs.CertificateLines.{CertLine, WordLine, CellLine, cell_line, form_by_words, forms_of, natural_of, rule_named, said_score, word_line}
use Rattle.table_certificate.specs.WrittenCertificate.{cell_text, score_text, word_text}
use Rattle.table_certificate.proofs.NamedApart.{name_is_word, named_itself}
use Rattle.table_certificate.proofs.PlainLines.{IsWord, IsLine, form_then, four_in_line, four_words, spaced}
use Rattle.table_certificate.proofs.WrittenNumbers.{IsLowScore, decimal_word, natural_written, not_cells, said_written, score_word}

-- ---- the words that stand in all certificates

cert_line : IsLine (codes "cert")
cert_line = All-from_recursion (λ byte. 31 < byte) (codes "cert") (omega arith, (omega arith, (omega arith, (omega arith, tt))))

word_is_word : IsWord (codes "word")
word_is_word = All-from_recursion (λ byte. 32 < byte) (codes "word") (omega arith, (omega arith, (omega arith, (omega arith, tt))))

cells_is_word : IsWord (codes "cells")
cells_is_word = All-from_recursion (λ byte. 32 < byte) (codes "cells") (omega arith, (omega arith, (omega arith, (omega arith, (omega arith, tt)))))

-- ---- the lines

pub cert_form : (grammar : Grammar) (behind : List ℕ)
    → forms_of grammar (line (codes "cert") ++ behind) ≡ CertLine ∷ forms_of grammar behind
cert_form grammar behind = form_then grammar (codes "cert") behind cert_line

pub word_form : (grammar : Grammar) (number cells : ℕ) (behind : List ℕ) → number < 2 ^ 64 → cells < 2 ^ 64
    → forms_of grammar (line (word_text number cells) ++ behind) ≡ WordLine number cells ∷ forms_of grammar behind
word_form grammar number cells behind small few =
    let first : IsWord (decimal number) = decimal_word number small in
    let last : IsWord (decimal cells) = decimal_word cells few in
    let text : List ℕ = spaced (codes "word") (decimal number) (codes "cells") (decimal cells) in
    let regrouped : word_text number cells ≡ text = simp append_assoc in
    ap (λ content. forms_of grammar (line content ++ behind)) regrouped
    ∙ form_then grammar text behind (four_in_line (codes "word") (decimal number) (codes "cells") (decimal cells) word_is_word first cells_is_word last)
    ∙ ap (λ form. form ∷ forms_of grammar behind)
    (ap (form_by_words grammar) (four_words (codes "word") (decimal number) (codes "cells") (decimal cells) word_is_word first cells_is_word last)
    ∙ ap (λ n. word_line n (natural_of (decimal cells))) (natural_written number small)
    ∙ ap (word_line (Some number)) (natural_written cells few))

-- a cell of the grammar, with numbers that are written as they are
pub record IsSmallCell (grammar : Grammar) (cell : Cell) : Type 0 where
  pub rule : cell.rule < length grammar.rules
  pub from : cell.from < 2 ^ 64
  pub to : cell.to < 2 ^ 64

neither_way : (b : Bool) → (b && false) ≡ false
neither_way true = refl
neither_way false = refl

pub cell_form : (grammar : Grammar) → IsTrue (is_well_formed grammar)
    → ((rule : ℕ) → rule < length grammar.rules → IsTrue (is_name (rule_at grammar rule).name)) → (cell : Cell)
    → IsSmallCell grammar cell → (score : Option ℤ) → IsLowScore score → (behind : List ℕ)
    → forms_of grammar (line (cell_text grammar cell score) ++ behind) ≡ CellLine cell score ∷ forms_of grammar behind
cell_form grammar formed names cell small score low behind =
    ap (λ content. forms_of grammar (line content ++ behind)) regrouped
    ∙ form_then grammar (spaced name from to said) behind (four_in_line name from to said name_word from_word to_word said_word)
    ∙ ap (λ form. form ∷ forms_of grammar behind)
    (ap (form_by_words grammar) (four_words name from to said name_word from_word to_word said_word) ∙ other ∙ parts)
  where
    name : List ℕ
    name = (rule_at grammar cell.rule).name

    from : List ℕ
    from = decimal cell.from

    to : List ℕ
    to = decimal cell.to

    said : List ℕ
    said = score_text score

    regrouped : cell_text grammar cell score ≡ spaced name from to said
    regrouped = simp append_assoc

    name_word : IsWord name
    name_word = name_is_word name (names cell.rule small.rule)

    from_word : IsWord from
    from_word = decimal_word cell.from small.from

    to_word : IsWord to
    to_word = decimal_word cell.to small.to

    said_word : IsWord said
    said_word = score_word score low

    other : form_by_words grammar (name ∷ from ∷ to ∷ said ∷ []) ≡ cell_line (rule_named grammar name) (natural_of from) (natural_of to) (said_score said)
    other = rw (not_cells cell.to small.to, neither_way) refl

    parts : cell_line (rule_named grammar name) (natural_of from) (natural_of to) (said_score said) ≡ CellLine cell score
    parts =
        rw (named_itself grammar formed cell.rule small.rule, natural_written cell.from small.from, natural_written cell.to small.to, said_written score low) refl
