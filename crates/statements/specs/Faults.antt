-- All lines of a text that can't be read. What reading answers is the first of them.
use Rattle.std.specs.Prelude.{List, [], ◌∷◌, ℕ, ◌+◌, Result, Ok, Err}
use Rattle.statements.specs.Words.{Line, lines_of, up_to_end}
use Rattle.statements.specs.Statement.{statement_of}
use Rattle.statements.specs.declared.faults.LineFault.{LineFault}
use Rattle.statements.specs.declared.statement.Fault.{Fault}
use Rattle.statements.specs.declared.statement.Statement.{Statement}

-- a line that can't be read goes before those after it
abbrev pub fault_before : ℕ → Result Statement Fault → List LineFault → List LineFault
fault_before number (Ok statement) after = after
fault_before number (Err fault) after = record { line = number; fault = fault } ∷ after

-- those of some lines, which are numbered from here on
unfoldable pub faults_from : List ℕ → ℕ → List Line → List LineFault
faults_from text number [] = []
faults_from text number (line ∷ rest) =
    fault_before number (statement_of (up_to_end text line) line.start number) (faults_from text (number + 1) rest)

-- those of a text; lines are numbered from 1
abbrev pub faults_of : List ℕ → List LineFault
faults_of text = faults_from text 1 (lines_of text)
