-- How long written certificates are: each line has a byte at least.
use Rattle.std.proofs.Common.{◌≡◌, ℕ, ◌+◌, ◌<◌, ◌≤◌, List, [], ◌∷◌, ◌++◌, codes, length, length-append, ap, ◌∙◌, arith}
use Rattle.adp_model.specs.Ascii.{line_feed}
use Rattle.adp_model.specs.declared.cell.Cell.{Cell}
use Rattle.adp_model.specs.PosedProblem.{PosedProblem}
use Rattle.adp_model.specs.Report.{line}
use Rattle.table_certificate.specs.WrittenCertificate.{AreCellLines, AreCertificates, IsWritten, cell_text, word_text}

long_line : (content rest : List ℕ) → length rest < length (line content ++ rest)
long_line content rest =
    let all : length (line content ++ rest) ≡ length (line content) + length rest = length-append (line content) rest in
    let first : length (line content) ≡ length content + 1 = length-append content (line_feed ∷ []) in
    omega arith

long_lines : (p : PosedProblem) (cells : List Cell) (text : List ℕ) → AreCellLines p cells text → length cells ≤ length text
long_lines p [] text none = omega arith
long_lines p (cell ∷ cells) text (score, others, best, lines, is) =
    let fewer : length cells ≤ length others = long_lines p cells others lines in
    let more : length others < length (line (cell_text p.grammar cell score) ++ others) = long_line (cell_text p.grammar cell score) others in
    let all : length text ≡ length (line (cell_text p.grammar cell score) ++ others) = ap length is in
    omega arith

-- a block has more bytes than cells
pub long_block : (p : PosedProblem) (cells : List Cell) (lines block : List ℕ) (head : List ℕ) → AreCellLines p cells lines
    → block ≡ line head ++ lines → length cells < length block
long_block p cells lines block head are is =
    let fewer : length cells ≤ length lines = long_lines p cells lines are in
    let more : length lines < length (line head ++ lines) = long_line head lines in
    let all : length block ≡ length (line head ++ lines) = ap length is in
    omega arith

long_blocks : (number : ℕ) (problems : List PosedProblem) (text : List ℕ) → AreCertificates number problems text
    → length problems ≤ length text
long_blocks number [] text none = omega arith
long_blocks number (p ∷ problems) text (block, others, (cells, lines, demanded, are, block_is), behind, is) =
    let fewer : length problems ≤ length others = long_blocks (number + 1) problems others behind in
    let some : length cells < length block = long_block p cells lines block (word_text number (length cells)) are block_is in
    let all : length text ≡ length block + length others = ap length is ∙ length-append block others in
    omega arith

-- a certificate has more bytes than words
pub long_written : (problems : List PosedProblem) (text : List ℕ) → IsWritten problems text
    → length problems < length text
long_written problems text (blocks, are, is) =
    let fewer : length problems ≤ length blocks = long_blocks 1 problems blocks are in
    let more : length blocks < length (line (codes "cert") ++ blocks) = long_line (codes "cert") blocks in
    let all : length text ≡ length (line (codes "cert") ++ blocks) = ap length is in
    omega arith
