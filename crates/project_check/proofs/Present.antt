-- The trees of the units that are present: there are no others, and each spells tokens that are spelt as their kinds say.
use Rattle.std.proofs.Common.{◌≡◌, ℕ, ◌+◌, ◌<◌, ◌≤◌, Bool, true, false, List, [], ◌∷◌, length, map, refl, sym, ap, subst, ◌∙◌, arith}
use Rattle.std.specs.Prelude.{if◌then◌else◌}
use Rattle.std.specs.List.{AllByRecursion, AllZip, All}
use Rattle.std.proofs.lemmas.List.{length-map, length-append}
use Rattle.std.proofs.lemmas.List.Elements.{recursion_from_All}
use Rattle.text_edits.specs.Files.{PlainFile}
use Rattle.cond_formula.specs.Conditions.{value}
use Rattle.c_text.specs.Token.{PlainToken}
use Rattle.c_tree.specs.Trees.{PlainTree}
use Rattle.c_text.specs.Preprocessing.{gives}
use Rattle.c_tree.specs.Units.{IsTreeOf}
use Rattle.c_tree.specs.ReadingLaws.{TreesAreOne}
use Rattle.plain_pp.specs.Laws.{OutcomesAreOne}
use Rattle.bindings.specs.Laws.{ArePieces, AreWritten}
use Rattle.project_file.specs.Projects.{PlainUnit, PlainProject}
use Rattle.project_store.specs.Reads.{names_of}
use Rattle.plain_pp.specs.Units.{sources_of, file_of}
use Rattle.project_program.specs.Programs.{present_from, present_units, UnitGives, AreTrees}
use Rattle.unit_outcomes.specs.Laws.{HasFiles, IsSpelt, TokensAreSpelt}

abbrev Below : ℕ → List ℕ → Type 0
Below limit places = AllByRecursion (λ place. place < limit) places

chosen : {X : Type 0} (P : X → Type 0) (b : Bool) (x y : X) → P x → P y → P (if b then x else y)
chosen P true x y a c = a
chosen P false x y a c = c

present_below : (on : ℕ → Bool) (place : ℕ) (units : List PlainUnit) (limit : ℕ) → place + length units ≤ limit → Below limit (present_from on place units)
present_below on place [] limit h = tt
present_below on place (unit ∷ units) limit h =
    chosen (Below limit) (value on unit.when) (place ∷ present_from on (place + 1) units) (present_from on (place + 1) units)
    (omega (arith, h), present_below on (place + 1) units limit (omega (arith, h))) (present_below on (place + 1) units limit (omega (arith, h)))

are_pieces : (tokens : List PlainToken) → AllByRecursion IsSpelt tokens → ArePieces tokens
are_pieces [] h = tt
are_pieces (token ∷ tokens) h = (h.0, are_pieces tokens h.1)

module _ (spelt : TokensAreSpelt) (project : PlainProject) (files : List PlainFile) (on : ℕ → Bool) (filed : length files ≡ length (names_of project)) where
  count : length files ≡ length project.headers + length project.units
  count = filed ∙ length-append project.headers (map (λ u. u.file) project.units) ∙ ap (λ n. length project.headers + n) (length-map project.units (λ u. u.file))

  has_files : (place : ℕ) → place < length project.units → HasFiles (sources_of project files on) (file_of project place)
  has_files place h = record { unit = omega (arith, h, count); headers = omega (arith, count) }

  are_written : (places : List ℕ) (tokens : List (List PlainToken)) (trees : List PlainTree) → Below (length project.units) places → AllZip (UnitGives project files on) places tokens → AllZip IsTreeOf tokens trees → AreWritten trees
  are_written places [] [] h given are = tt
  are_written places [] (tree ∷ trees) h given are = absurd are
  are_written places (ts ∷ tokens) [] h given are = absurd are
  are_written [] (ts ∷ tokens) (tree ∷ trees) h given are = absurd given
  are_written (place ∷ places) (ts ∷ tokens) (tree ∷ trees) h given are =
      let all : All IsSpelt ts = spelt (sources_of project files on) (file_of project place) (has_files place h.0) ts given.0 in (
        record { unit = are.0.spells.unit; pieces = subst ArePieces (sym are.0.spells.text) (are_pieces ts (recursion_from_All IsSpelt ts all)) },
        are_written places tokens trees h.1 given.1 are.1,
      )

  pub trees_are_written : (trees : List PlainTree) → AreTrees project files on trees → AreWritten trees
  trees_are_written trees are =
      are_written (present_units project on) are.tokens trees (present_below on 0 project.units (length project.units) (omega arith)) are.preprocessed are.parsed

module _ (one : OutcomesAreOne) (only : TreesAreOne) (project : PlainProject) (files : List PlainFile) (on : ℕ → Bool) where
  same_tokens : (places : List ℕ) (a b : List (List PlainToken)) → AllZip (UnitGives project files on) places a → AllZip (UnitGives project files on) places b → a ≡ b
  same_tokens [] [] [] p q = refl
  same_tokens [] (x ∷ a) b p q = absurd p
  same_tokens [] [] (y ∷ b) p q = absurd q
  same_tokens (place ∷ places) [] b p q = absurd p
  same_tokens (place ∷ places) (x ∷ a) [] p q = absurd q
  same_tokens (place ∷ places) (x ∷ a) (y ∷ b) p q =
      let first : gives x ≡ gives y = one (sources_of project files on) (file_of project place) (gives x) (gives y) p.0 q.0 in
      let same : x ≡ y = cc in
      ap (λ z. z ∷ a) same ∙ ap (λ l. y ∷ l) (same_tokens places a b p.1 q.1)

  same_trees : (tokens : List (List PlainToken)) (a b : List PlainTree) → AllZip IsTreeOf tokens a → AllZip IsTreeOf tokens b → a ≡ b
  same_trees [] [] [] p q = refl
  same_trees [] (x ∷ a) b p q = absurd p
  same_trees [] [] (y ∷ b) p q = absurd q
  same_trees (t ∷ tokens) [] b p q = absurd p
  same_trees (t ∷ tokens) (x ∷ a) [] p q = absurd q
  same_trees (t ∷ tokens) (x ∷ a) (y ∷ b) p q = ap (λ z. z ∷ a) (only t x y p.0.spells q.0.spells) ∙ ap (λ l. y ∷ l) (same_trees tokens a b p.1 q.1)

  pub trees_are_one : (a b : List PlainTree) → AreTrees project files on a → AreTrees project files on b → b ≡ a
  trees_are_one a b p q =
      let tokens : q.tokens ≡ p.tokens = same_tokens (present_units project on) q.tokens p.tokens q.preprocessed p.preprocessed in
      same_trees p.tokens b a (subst (λ (t : List (List PlainToken)). AllZip IsTreeOf t b) tokens q.parsed) p.parsed
