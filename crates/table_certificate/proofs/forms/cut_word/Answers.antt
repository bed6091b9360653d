use Rattle.std.proofs.Common.{◌≡◌, ◌+◌, ◌∷◌, take, sym, subst}
use Rattle.table_certificate.specs.CertificateLines.{words_of}
use Rattle.table_certificate.proofs.CutWords.{cut_none, cut_some}
use Rattle.table_certificate.proofs.SplitLines.{tail_of}
use Rattle.table_certificate.proofs.forms.cut_word.Goals as goal

pub returns-in-Some : goal.returns-in-Some
returns-in-Some c =
    let line = c.args.line.now in
    let end = c.in-Some.end in
    subst (λ x. words_of line ≡ take end line ∷ words_of x) (sym (tail_of (end + 1) line)) (cut_some line c.memchr.result end c.memchr.ensures c.in-Some.is)

pub returns-in-None : goal.returns-in-None
returns-in-None c = cut_none c.args.line.now c.memchr.result c.memchr.ensures c.in-None.is
