-- What a unit gives is spelt as its kinds say.
use Rattle.std.proofs.Common.{ℕ, zero, suc, ◌≤◌, List, length, Some, None, refl, All}
use Rattle.std.proofs.lemmas.List.Elements.{All-from_recursion}
use Rattle.c_text.specs.Token.{PlainToken}
use Rattle.c_text.specs.Trees.{lines_in}
use Rattle.c_text.specs.Preprocessing.{Reading, Source, project_file, stdio, stdlib, Sources, Syntax, IsSyntaxOf, setting, read_source, most_nested, at_start, file_at, built_in_file, built_in_text, gives, IsPreprocessed, preprocessed}
use Rattle.active_tokens.proofs.Sources.{start-good, flow-gives}
use Rattle.unit_outcomes.specs.Laws.{HasFiles, IsSpelt}
use Rattle.unit_outcomes.proofs.LinesSpelt.{Spelt, SpeltLines, lines-spelt, first-spelt, others-spelt}
use Rattle.unit_outcomes.proofs.InRange.{IsFound}
use Rattle.unit_outcomes.proofs.PartsSpelt.{GivesSpelt, HasSpelt, part-spelt, read-spelt}

module _ (s : Sources) (x : Syntax) (is : IsSyntaxOf s x) (few : length s.headers ≤ length s.files) where
  source-lines : (source : Source) → IsFound (length s.files) source → SpeltLines (lines_in (x.part_of source))
  source-lines (project_file number) found =
      read-spelt (is.lines number) (x.part_of (project_file number)) (is.are_files number found).is_read
      (lines-spelt number (file_at s number).bytes (is.lines number) (is.are_lines number found))
  source-lines stdio found =
      read-spelt _ (x.part_of stdio) is.stdio_is.is_read (first-spelt 5 is.built_in_lines (lines-spelt built_in_file built_in_text is.built_in_lines is.are_built_in))
  source-lines stdlib found =
      read-spelt _ (x.part_of stdlib) is.stdlib_is.is_read (others-spelt 5 is.built_in_lines (lines-spelt built_in_file built_in_text is.built_in_lines is.are_built_in))

  source-spelt : (n : ℕ) (source : Source) → IsFound (length s.files) source → (r : Reading) → HasSpelt r → GivesSpelt (read_source s x n source r)
  source-spelt zero source found r g =
      part-spelt (setting s x source None) (length s.files) few tt (x.part_of source) (source-lines source found) r g
  source-spelt (suc n) source found r g =
      part-spelt (setting s x source (Some (read_source s x n))) (length s.files) few (source-spelt n) (x.part_of source) (source-lines source found) r g

pub tokens-spelt : (s : Sources) (x : Syntax) → IsSyntaxOf s x → (number : ℕ) → HasFiles s number → (tokens : List PlainToken) → IsPreprocessed s number (gives tokens) → All IsSpelt tokens
tokens-spelt s x is number has tokens gives' =
    All-from_recursion IsSpelt tokens
    (flow-gives Spelt (preprocessed s x number) tokens
    (source-spelt s x is has.headers most_nested (project_file number) has.unit (at_start s) (start-good Spelt s x (λ source. Rattle.std.specs.Prelude.[]) refl))
    (gives' x is))
