-- Which words are taken as a group, and the problems by which these are answered.
use Rattle.std.specs.Prelude.{◌≡◌, ℕ, suc, ◌<◌, ◌≤◌, ◌⊎◌, Option, None, Some, IfSome, List, [], ◌∷◌, All, length, sum}
use Rattle.std.specs.Option.{option_copied}
use Rattle.std.specs.List.{AllZip}
use Rattle.adp_model.specs.PosedProblem.{PosedProblem}
use Rattle.adp_model.specs.declared.grammar.Grammar.{Grammar}
use Rattle.adp_model.specs.Bounds.{IsNodeBound}
use Rattle.adp_model.specs.Cells.{IsCellBound}
use Rattle.adp_model.specs.ProblemFields.{most_cells, most_nodes}
use Rattle.evaluators.specs.declared.finished.Finished.{Finished}
use Rattle.evaluators.specs.declared.finished.RunNote.{RunNote}
use Rattle.evaluators.specs.Runs.{IsNoteOf}
use Rattle.grammar_check.specs.CheckedGrammar.{CheckedGrammar}
use Rattle.split_lines.specs.Shared.{without_word}
use Rattle.verdicts.specs.declared.command.Mode.{Mode}
use Rattle.verdicts.specs.declared.command.Mode.TheVariants.{Best, Cert, Lex, Serial}
use Rattle.verdicts.specs.Command.{Command}
use Rattle.verdicts.specs.Posed.{posed_word}
use Rattle.verdicts.specs.Verdict.{IsReportWith}
use Rattle.adp_main.specs.declared.lex.Compiled.{Compiled}
use Rattle.adp_main.specs.CompiledWords.{IsCompiledFor, ServesItsLength, compiled_word}
use Rattle.adp_main.specs.SharedWords.{IsSharedOf}
use Rattle.adp_main.specs.RunNotes.{IsRunFor}
use Rattle.adp_main.specs.declared.slot.Slot.{Slot}
use Rattle.adp_main.specs.declared.slot.Told.{Told}

-- the mode's words are solved in groups by evaluators, of which its reports tell nothing
abbrev pub IsEvaluated : Mode → Type 0
IsEvaluated Best = Unit {0}
IsEvaluated Cert = Unit {0}
IsEvaluated Lex = Unit {0}
IsEvaluated mode = ⊥

-- or they are so by one sweep each
abbrev pub IsGrouped : Mode → Type 0
IsGrouped Serial = Unit {0}
IsGrouped mode = IsEvaluated mode

-- there are workers enough for groups
abbrev pub TakesGroups : Command → Type 0
TakesGroups command = IsGrouped command.mode × (1 < command.workers)

-- a group of so many words takes one more, with which it has so many counted cells, and its trees so many nodes at most:
-- it stays with 1,024 words, with the cells and the nodes that one word may have, and with fewer cells once there is a word
-- for each worker
abbrev pub HasRoom : ℕ → ℕ → ℕ → ℕ → Type 0
HasRoom words cells nodes workers =
    (words < 1024) × (cells ≤ most_cells) × (nodes ≤ most_nodes) × ((words < workers) ⊎ (cells ≤ 524288))

-- these problems have so many counted cells together
abbrev pub HaveCells : List PosedProblem → ℕ → Type 0
HaveCells problems cells =
    (counts : List ℕ) × AllZip (λ p count. IsCellBound p.grammar (length p.word) count) problems counts
    × (cells ≡ sum counts)

-- the trees of these words have so many nodes at most together
abbrev pub HaveNodes : Grammar → List (List ℕ) → ℕ → Type 0
HaveNodes grammar words nodes =
    (counts : List ℕ) × AllZip (λ word count. IsNodeBound grammar (length word) count) words counts
    × (nodes ≡ sum counts)

-- what is compiled for words of a group: by two algebras in order, what serves words of one length; else nothing
abbrev pub IsMadeFor : Command → CheckedGrammar → Option Compiled → Type 0
IsMadeFor command first None = command.mode ≡ Lex → ⊥
IsMadeFor command first (Some made) = (command.mode ≡ Lex) × ServesItsLength command.second first made

-- the word has the length for which something is compiled, if it is
abbrev pub HasItsLength : Option Compiled → List ℕ → Type 0
HasItsLength None word = Unit {0}
HasItsLength (Some made) word = length word ≡ made.length

-- this problem is solved for the one that is asked: itself, or the word under what is compiled for it
abbrev pub IsSolvedFor : Command → Option Compiled → PosedProblem → PosedProblem → Type 0
IsSolvedFor command None asked problem = (command.mode ≡ Lex → ⊥) × (problem ≡ asked)
IsSolvedFor command (Some made) asked problem =
    (command.mode ≡ Lex) × IsCompiledFor command.second asked made × (problem ≡ compiled_word made asked.word)

-- what the problems of a group have in common: grammar and algebra of the job, or what is compiled of these; no word
abbrev pub common_of : CheckedGrammar → Option Compiled → PosedProblem
common_of first None = posed_word first.grammar first.algebra []
common_of first (Some made) = compiled_word made []

-- the problems have one grammar and one algebra, of which is what is shared, if it is
abbrev pub AreAlike : List PosedProblem → Option PosedProblem → Type 0
AreAlike problems shared =
    (common : PosedProblem) × All (λ p. without_word p ≡ common) problems × IsSharedOf common shared

-- a word of a group: the command by which it is solved, what is compiled for it, its number, and the problem that is solved
pub record Post : Type 0 where
  pub command : Command
  pub made : Option Compiled
  pub number : ℕ
  pub problem : PosedProblem

abbrev pub post_of : {G : Type 0} → Slot G → Post
post_of slot = record {
  command = slot.command.now;
  made = option_copied slot.made;
  number = slot.number;
  problem = slot.sharing;
}

-- those of these problems in order, the first of which has this number
abbrev pub posts_from : Command → Option Compiled → ℕ → List PosedProblem → List Post
posts_from command made number [] = []
posts_from command made number (p ∷ ps) =
    record { command = command; made = made; number = number; problem = p } ∷ posts_from command made (suc number) ps

-- its problem is solved for a word that is asked for, in a mode whose words are solved in groups
abbrev pub IsPosted : Post → Type 0
IsPosted post =
    IsGrouped post.command.mode × (asked : PosedProblem) × IsSolvedFor post.command post.made asked post.problem

-- what is noted of it, and the wins that its report may tell: of one sweep nothing; else the note of a run for its problem
abbrev pub IsNotedOf : Post → List ℕ → Option RunNote → Type 0
IsNotedOf post wins None = (post.command.mode ≡ Serial) × (wins ≡ [])
IsNotedOf post wins (Some note) =
    IsEvaluated post.command.mode × (finished : Finished) × IsRunFor post.command post.problem finished
    × IsNoteOf post.problem post.command.seed finished note × (wins ≡ finished.wins.items)

-- what is told of it: what is noted, and the report of the word that it is solved for
pub record IsTold (post : Post) (told : Told) : Type 0 where
  pub wins : List ℕ
  pub noted : IsNotedOf post wins told.note
  pub report : (asked : PosedProblem) → IsSolvedFor post.command post.made asked post.problem
      → IsReportWith post.command.mode post.command None post.number asked wins told.report.items

abbrev pub notes_of : Option RunNote → List RunNote
notes_of None = []
notes_of (Some note) = note ∷ []

-- the bytes are the report that is told, and what is noted is its note, where it has one
abbrev pub IsWrittenAs : Told → List ℕ → List RunNote → Type 0
IsWrittenAs told bytes noted = (bytes ≡ told.report.items) × (noted ≡ notes_of told.note)

-- what is told of words that are asked for, in order, the first of which has this number
pub record AreTold (command : Command) (number : ℕ) (asked : List PosedProblem) (all : List (Option Told)) : Type 0 where
  pub mode : IsGrouped command.mode
  pub made : Option Compiled
  pub problems : List PosedProblem
  pub solved : AllZip (IsSolvedFor command made) asked problems
  pub told : AllZip (λ post told. IfSome told (IsTold post)) (posts_from command made number problems) all
