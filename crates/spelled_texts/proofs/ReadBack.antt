-- The canonical spelling of a job is a text of this job.
use Rattle.std.proofs.Common.{◌≡◌, ℕ, ◌≤◌, true, None, Result, Ok, codes, List, ◌∷◌, ◌++◌, length, refl, ◌∙◌, ap, leb-true}
use Rattle.std.specs.List.{list_all}
use Rattle.std.proofs.lemmas.List.Folds.{list_all-append}
use Rattle.adp_model.specs.declared.grammar.Grammar.{Grammar}
use Rattle.adp_model.specs.declared.job.Job.{Job}
use Rattle.adp_model.specs.declared.fault.TextFault.{TextFault}
use Rattle.adp_model.specs.Printable.{is_printable_byte}
use Rattle.job_texts.specs.Spelling.{spelling}
use Rattle.job_texts.specs.JobLines.{job_lines}
use Rattle.job_texts.specs.DeclaredNames.{TextLines, text_lines, declarations}
use Rattle.job_texts.specs.JobText.{Accepted, declared_grammar, first_fault, lines_verdict, IsText}
use Rattle.spelled_texts.proofs.ReadTokens.{TokenLaws}
use Rattle.spelled_texts.proofs.SplitLines.{lines_of_contents}
use Rattle.spelled_texts.proofs.HeaderOf.{IsFormat, framed, framed_text, declare_printable, as_many, text_of_framed}
use Rattle.spelled_texts.proofs.Contents.{grammar_contents, grammar_declarations}
use Rattle.spelled_texts.proofs.Terms.{TermLaws}
use Rattle.spelled_texts.proofs.GrammarParts.{formed}
use Rattle.spelled_texts.proofs.Formats.{of_format}
use Rattle.spelled_texts.proofs.GrammarLines.{spelled_by_lines, grammar_lines_declare}
use Rattle.spelled_texts.proofs.Sorted.{all_declarations}
use Rattle.spelled_texts.proofs.DeclaredGrammar.{grammar_back}
use Rattle.spelled_texts.proofs.AllFaultless.{all_faultless, some_axiom, some_algebra}
use Rattle.spelled_texts.proofs.NoFaults.{forms_said, no_fault}

framed_printable : (version : ℕ) (contents words : List (List ℕ)) → IsFormat version → list_all (list_all is_printable_byte) contents ≡ true → list_all (list_all is_printable_byte) words ≡ true
    → list_all (list_all is_printable_byte) (framed version contents words) ≡ true
framed_printable version contents words format h h' =
    let behind : list_all (list_all is_printable_byte) (contents ++ codes "words" ∷ words) ≡ true = list_all-append (list_all is_printable_byte) contents (codes "words" ∷ words) ∙ rw (h, h') refl in
    rw (format.printable, behind) refl

-- the verdict on lines without a fault
accepted : (text : TextLines) (grammar : Grammar) → first_fault text ≡ None → declared_grammar (declarations text) ≡ grammar
    → lines_verdict text ≡ Ok (record { version = text.version; grammar = grammar; words = text.words })
accepted text grammar none is =
    let taken : lines_verdict text ≡ Ok (record { version = text.version; grammar = declared_grammar (declarations text); words = text.words }) = rw none refl in
    taken ∙ ap (λ (of : Grammar). let it : Accepted = record { version = text.version; grammar = of; words = text.words } in let accepted : Result Accepted TextFault = Ok it in accepted) is

pub spelling_read_back : TokenLaws → TermLaws → (job : Job) → IsText (spelling job) job
spelling_read_back laws term_laws job =
    let grammar = job.grammar in
    let version = job.version in
    let known = formed grammar job.well_formed in
    let format = of_format version grammar job.of_version in
    let contents = grammar_contents grammar in
    let declared = grammar_declarations grammar in
    let declare = grammar_lines_declare laws term_laws version grammar known format in
    let printable = framed_printable version contents job.words format.line (declare_printable version contents declared declare) job.printable_words in
    let few : length job.words ≤ 65536 = leb-true _ _ job.few_words in
    let lines_are : job_lines (spelling job) ≡ framed version contents job.words = ap job_lines (spelled_by_lines job) ∙ lines_of_contents (framed version contents job.words) printable in
    let text_is : text_lines (spelling job) ≡ framed_text version contents declared job.words = text_of_framed version (spelling job) contents declared job.words format.line lines_are declare in
    let none = no_fault version format.line contents declared job.words (as_many version contents declared declare) few printable
    (all_faultless term_laws version grammar known format.terms) (some_axiom term_laws version grammar known format.terms) (some_algebra term_laws version grammar known format.terms) in
    let grammar_is : declared_grammar (declarations (framed_text version contents declared job.words)) ≡ grammar = ap declared_grammar (forms_said (all_declarations grammar))
    ∙ grammar_back grammar known term_laws version format.terms in
    ap lines_verdict text_is ∙ accepted (framed_text version contents declared job.words) grammar none grammar_is
