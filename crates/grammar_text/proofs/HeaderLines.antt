-- What a header line is, by its tokens.
use Rattle.std.proofs.Common.{◌≡◌, ℕ, true, false, Some, None, Ok, List, map, refl}
use Rattle.std.specs.List.{list_all}
use Rattle.adp_model.specs.Printable.{is_printable_byte}
use Rattle.job_texts.specs.LineTokens.{line_tokens}
use Rattle.job_texts.specs.JobLines.{is_skipped}
use Rattle.job_texts.specs.Declarations as forms
use Rattle.algebra_terms.specs.declared.lexer.Token as spans
use Rattle.algebra_terms.specs.declared.symbols.Symbol.{Symbol}
use Rattle.algebra_terms.specs.Tokens as code
use Rattle.grammar_text.specs.Seen.{tokens_seen}
use Rattle.grammar_text.proofs.BehindTokens.{said_of_placed}

module _ (version : ℕ) where
  pub says_form : (line : List ℕ) (tokens : List spans.Token) (said : List Symbol) (form : forms.Declaration)
      → is_skipped line ≡ false → list_all is_printable_byte line ≡ true → line_tokens line ≡ Ok (map (code.placed line) tokens)
      → tokens_seen said ≡ map (code.said line) tokens → Some form ≡ (forms.declaration_of version) (tokens_seen said)
      → forms.Says form ≡ (forms.header_line version) line
  says_form line tokens said form skipped printable h same found =
      rw (skipped, printable, h, said_of_placed line tokens, ← same, ← found) refl

  pub has_no_form : (line : List ℕ) (tokens : List spans.Token) (said : List Symbol)
      → is_skipped line ≡ false → list_all is_printable_byte line ≡ true → line_tokens line ≡ Ok (map (code.placed line) tokens)
      → tokens_seen said ≡ map (code.said line) tokens → None ≡ (forms.declaration_of version) (tokens_seen said)
      → forms.Shapeless ≡ (forms.header_line version) line
  has_no_form line tokens said skipped printable h same found =
      rw (skipped, printable, h, said_of_placed line tokens, ← same, ← found) refl
