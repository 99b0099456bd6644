-- Models of the words as the code holds them: no part of what they mean.
use Rattle.std.specs.Prelude.{ℕ, List, [], ◌∷◌, string_bytes}
use Rattle.project_file.specs.declared.projects.Unit.{Unit as SourceUnit}
use Rattle.rename_words.specs.declared.words.RenameTexts.{RenameTexts}
use Rattle.rename_words.specs.declared.words.RenameWords.{RenameWords}
use Rattle.rename_words.specs.Words.{RenameQuery}

-- the further words
abbrev pub texts_of : RenameTexts → List (List ℕ)
texts_of t = t.project.now ∷ t.place.now ∷ t.new.now ∷ t.out.now ∷ []

-- the renaming that the words ask for
abbrev pub query_of : RenameWords → RenameQuery
query_of q = record {
  project = q.project.now;
  file = q.file.now;
  offset = q.offset;
  new = q.new.now;
  out = q.out.now;
}

abbrev pub file_of : SourceUnit → List ℕ
file_of unit = string_bytes unit.file
