use Rattle.std.proofs.Common.{◌≡◌, Bool, true, false, Option, None, List, ◌∷◌, sym, ◌∙◌, ap, map}
use Rattle.std.proofs.lemmas.Result.{IfOk-weaker}
use Rattle.std.specs.Option.{option_and_then}
use Rattle.job_texts.specs.LineTokens.{Token}
use Rattle.algebra_terms.specs.Tokens.{said, symbol_of}
use Rattle.algebra_terms.specs.WideSteps.{Reading, Takes, begins_bracket, ended, read_on, reading_seen, taken}
use Rattle.algebra_terms.proofs.WideGrammar.{reading_is_grammar}
use Rattle.algebra_terms.proofs.wide_steps.wide_steps.Goals as goal

refused : (found : Option Reading) (takes : Bool) (after : Reading) → takes ≡ false → Takes found takes after → found ≡ None
refused found true after is h = absurd cc
refused found false after is h = h

no_more : (found : Reading) (token : Token) (tokens all : List Token) (opens : Bool) → all ≡ token ∷ tokens → opens ≡ begins_bracket tokens → taken found token opens ≡ None → read_on found all ≡ None
no_more found token tokens all opens is next none =
    ap (read_on found) is ∙ ap (option_and_then (λ (behind : Reading). read_on behind tokens)) (ap (taken found token) (sym next) ∙ none)

pub returns : goal.returns
returns c =
    let line = c.args.line.now in
    let reader = reading_seen c.tokens.reader in
    let done : read_on reader (map (said line) c.tokens.rest.now) ≡ ended reader = ap (λ tokens. read_on reader (map (said line) tokens)) c.in_default.ensures.says in
    let all = sym done ∙ c.tokens.invariant.read ∙ reading_is_grammar (map (said line) c.args.tokens.now) in
    IfOk-weaker c.end.result _ _ (λ found same. same ∙ all) c.end.ensures

pub returns-then-not-branch : goal.returns-then-not-branch
returns-then-not-branch c =
    let line = c.args.line.now in
    let reader = reading_seen c.tokens.reader in
    let none = refused _ c.in_ok-take.field-0 _ c.if-not-branch.true c.in_ok-take.ensures in
    let nothing : read_on reader (map (said line) c.tokens.rest.now) ≡ None =
    no_more reader (symbol_of c.in-Some.symbol) (map (said line) c.in-Some.behind.now)
    (map (said line) c.tokens.rest.now) c.begins_bracket.result c.in-Some.ensures.says c.begins_bracket.ensures none in
    sym nothing ∙ c.tokens.invariant.read ∙ reading_is_grammar (map (said line) c.args.tokens.now)
