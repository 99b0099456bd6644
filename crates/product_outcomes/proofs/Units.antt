-- The units that are present give tokens, or one is refused.
use Rattle.std.proofs.Common.{◌≡◌, ℕ, suc, ◌+◌, ◌<◌, ◌≤◌, Bool, true, false, List, [], ◌∷◌, length, map, refl, ap, ◌∙◌, inl, inr, ◌⊎◌, arith}
use Rattle.std.specs.Prelude.{if◌then◌else◌}
use Rattle.std.specs.List.{AllByRecursion, AllZip, Contains, All}
use Rattle.std.proofs.lemmas.List.{length-map, length-append}
use Rattle.text_edits.specs.Files.{PlainFile}
use Rattle.cond_formula.specs.Conditions.{value}
use Rattle.c_text.specs.Token.{PlainToken}
use Rattle.c_text.specs.Preprocessing.{Outcome, gives, is_refused, IsPreprocessed}
use Rattle.project_file.specs.Projects.{PlainUnit, PlainProject}
use Rattle.project_store.specs.Reads.{names_of}
use Rattle.plain_pp.specs.Units.{sources_of, file_of}
use Rattle.project_program.specs.Programs.{present_from, present_units, UnitGives, IsNotPreprocessed}
use Rattle.unit_outcomes.specs.Laws.{HasFiles, UnitsHaveOutcomes, IsSpelt, TokensAreSpelt}

abbrev Below : ℕ → List ℕ → Type 0
Below limit places = AllByRecursion (λ place. place < limit) places

chosen : {X : Type 0} (P : X → Type 0) (b : Bool) (x y : X) → P x → P y → P (if b then x else y)
chosen P true x y a c = a
chosen P false x y a c = c

present-below : (on : ℕ → Bool) (place : ℕ) (units : List PlainUnit) (limit : ℕ) → place + length units ≤ limit → Below limit (present_from on place units)
present-below on place [] limit h = tt
present-below on place (unit ∷ units) limit h =
    chosen (Below limit) (value on unit.when) (place ∷ present_from on (place + 1) units) (present_from on (place + 1) units)
    (omega (arith, h), present-below on (place + 1) units limit (omega (arith, h))) (present-below on (place + 1) units limit (omega (arith, h)))

module _ (have : UnitsHaveOutcomes) (spelt : TokensAreSpelt) (project : PlainProject) (files : List PlainFile) (on : ℕ → Bool) (filed : length files ≡ length (names_of project)) where
  count : length files ≡ length project.headers + length project.units
  count = filed ∙ length-append project.headers (map (λ u. u.file) project.units) ∙ ap (λ n. length project.headers + n) (length-map project.units (λ u. u.file))

  has-files : (place : ℕ) → place < length project.units → HasFiles (sources_of project files on) (file_of project place)
  has-files place h = record { unit = omega (arith, h, count); headers = omega (arith, count) }

  abbrev pub Present : List ℕ → Type 0
  Present places = Below (length project.units) places

  pub present : Present (present_units project on)
  present = present-below on 0 project.units (length project.units) (omega arith)

  pub record Given (places : List ℕ) : Type 0 where
    pub tokens : List (List PlainToken)
    pub are_given : AllZip (UnitGives project files on) places tokens

  abbrev Among : List ℕ → Type 0
  Among places = (place : ℕ) → Contains places place → Contains (present_units project on) place

  behind : (place : ℕ) (places : List ℕ) → Among (place ∷ places) → Among places
  behind place places among other c = among other (suc c.0, omega (arith, c.1), c.2)

  given-from : (places : List ℕ) → Present places → Among places → Given places ⊎ IsNotPreprocessed project files on
  given-from [] h among = inl (record { tokens = []; are_given = tt })
  given-from (place ∷ places) h among =
      let outcome = have (sources_of project files on) (file_of project place) (has-files place h.0) in
      by outcome.0 outcome.1 (given-from places h.1 (behind place places among))
    where
      by : (outcome : Outcome) → IsPreprocessed (sources_of project files on) (file_of project place) outcome → Given places ⊎ IsNotPreprocessed project files on → Given (place ∷ places) ⊎ IsNotPreprocessed project files on
      by (gives tokens) is (inl others) = inl (record { tokens = tokens ∷ others.tokens; are_given = (is, others.are_given) })
      by (gives tokens) is (inr refused) = inr refused
      by (is_refused why) is others = inr (record { unit = place; present = among place (0, omega arith, refl); why = why; refused = is })

  pub given-or-refused : Given (present_units project on) ⊎ IsNotPreprocessed project files on
  given-or-refused = given-from (present_units project on) present (λ place c. c)

  pub all-spelt : (places : List ℕ) (tokens : List (List PlainToken)) → Present places → AllZip (UnitGives project files on) places tokens → AllByRecursion (λ ts. All IsSpelt ts) tokens
  all-spelt [] [] h given = tt
  all-spelt [] (ts ∷ tokens) h given = absurd given
  all-spelt (place ∷ places) [] h given = absurd given
  all-spelt (place ∷ places) (ts ∷ tokens) h given =
      (spelt (sources_of project files on) (file_of project place) (has-files place h.0) ts given.0, all-spelt places tokens h.1 given.1)
