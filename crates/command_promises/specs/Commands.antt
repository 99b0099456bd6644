-- What a command is.
use Rattle.std.specs.Prelude.{◌≡◌, ◌≢◌, ◌⊎◌, ℕ, Bool, true, List, [], ◌∷◌, Contains}
use Rattle.text_edits.specs.Files.{PlainFile}
use Rattle.command_promises.specs.Courses.{Saying, says, Course, IsDecided}
use Rattle.command_promises.specs.Sayings.{usage}

-- Its first word, what can be asked of it, which further words ask for that, and its course then; the statuses with which it says
-- something, and whether it writes files.
pub record Command : Type 1 where
  pub word : List ℕ
  pub Query : Type 0
  pub Asks : List (List ℕ) → Query → Type 0
  pub Does : Query → Course
  pub statuses : List ℕ
  pub writes : Bool

-- the words of a call ask this of the command
abbrev pub Asked : (command : Command) → List (List ℕ) → command.Query → Type 0
Asked command words query = (further : List (List ℕ)) × (words ≡ command.word ∷ further) × command.Asks further query

-- The course for the further words: that of what they ask, or, where they ask for nothing, to say so.
abbrev pub CourseFor : (command : Command) → List (List ℕ) → Course
CourseFor command further files deed =
    ((query : command.Query) × command.Asks further query × command.Does query files deed)
    ⊎ (((query : command.Query) → command.Asks further query → ⊥) × (deed ≡ says usage))

-- a status that a fault or want of memory never gives
pub record IsOwn (status : ℕ) : Type 0 where
  pub no_read_fault : status ≢ 3
  pub no_write_fault : status ≢ 4
  pub no_sink_fault : status ≢ 6
  pub no_want : status ≢ 7

-- something that is said has one of the command's statuses, and files are written only with status 0, by a command that writes
pub record IsFit (command : Command) (what : Saying) : Type 0 where
  pub listed : Contains command.statuses what.status
  pub own : IsOwn what.status
  pub writes : (what.written ≡ []) ⊎ ((what.status ≡ 0) × (command.writes ≡ true))

-- Words ask for one thing at most; the command then does one thing at most, and says only what fits it.
pub record IsDecidedCommand (command : Command) : Type 0 where
  pub one_query : (further : List (List ℕ)) (a b : command.Query) → command.Asks further a → command.Asks further b → a ≡ b
  pub one_deed : (query : command.Query) → IsDecided (command.Does query)
  pub fits : (query : command.Query) (files : List PlainFile) (what : Saying) → command.Does query files (says what) → IsFit command what

-- ---- several commands

-- The course for words: that of the command with the first word, or to say that they ask for nothing.
abbrev pub CourseOf : {Which : Type 0} → (Which → Command) → List (List ℕ) → Course
CourseOf {Which} commands words files deed =
    ((which : Which) × (query : (commands which).Query) × Asked (commands which) words query × (commands which).Does query files deed)
    ⊎ (((which : Which) (query : (commands which).Query) → Asked (commands which) words query → ⊥) × (deed ≡ says usage))

-- The commands as one, of which all the words of a call are asked.
abbrev pub program : {Which : Type 0} → (Which → Command) → List ℕ → Command
program commands statuses = record {
  word = [];
  Query = List (List ℕ);
  Asks = λ further words. further ≡ words;
  Does = CourseOf commands;
  statuses = statuses;
  writes = true;
}
