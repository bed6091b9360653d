-- The grammar of pairs as a job without words spells it.
use Rattle.std.specs.Prelude.{ℕ, List, ◌++◌, codes}
use Rattle.adp_model.specs.Report.{line}

-- the lines of the job
abbrev pub pairs_text : List ℕ
pairs_text =
    line (codes "adp 1") ++ line (codes "class any = \"pqrs\" 0") ++ line (codes "sign nil(token)")
    ++ line (codes "sign skip(token, score)") ++ line (codes "sign pair(token, score, token, score)")
    ++ line (codes "algebra pairs max") ++ line (codes "let nil(x1) = 0") ++ line (codes "let skip(x1, x2) = 0 + 1*x2")
    ++ line (codes "let pair(x1, x2, x3, x4) = 1 + 1*x2 + 1*x4")
    ++ line (codes "rule s = nil(\"\") | skip([any], s) | pair(\"p\", s, \"q\", s) | pair(\"r\", s, \"s\", s)")
    ++ line (codes "grammar s") ++ line (codes "words")
