-- A product that can't lack a program has one.
use Rattle.std.proofs.Common.{◌≡◌, ℕ, suc, ◌+◌, ◌<◌, ◌≤◌, Bool, true, false, List, [], ◌∷◌, length, map, Option, Some, None, refl, ap, sym, subst, ◌∙◌, inl, inr, arith}
use Rattle.std.specs.Prelude.{if◌then◌else◌}
use Rattle.std.specs.List.{AllByRecursion, AllZip, Contains}
use Rattle.std.proofs.lemmas.Bool.{cases_lt}
use Rattle.std.proofs.lemmas.List.{length-map, length-append}
use Rattle.text_edits.specs.Files.{PlainFile}
use Rattle.cond_formula.specs.Conditions.{value}
use Rattle.c_text.specs.Token.{PlainToken}
use Rattle.c_text.specs.Preprocessing.{Outcome, gives, is_refused, IsPreprocessed}
use Rattle.c_tree.specs.Trees.{PlainTree}
use Rattle.c_tree.specs.Units.{Spells, IsTreeOf}
use Rattle.c_tree.specs.Heights.{height_of, most_high}
use Rattle.c_tree.specs.Machine.{read, of_trees}
use Rattle.c_tree.specs.ReadingLaws.{ReadIsSpelt, SpeltIsRead, TreesAreOne}
use Rattle.core_meaning.specs.Checking.{Binding, Checked, fine, refused, broken}
use Rattle.core_meaning.specs.Program.{PlainProgram}
use Rattle.core_meaning.specs.Linking.{Units, judged_program, program_of, IsFault, Links}
use Rattle.project_file.specs.Projects.{PlainUnit, PlainProject}
use Rattle.project_store.specs.Reads.{names_of}
use Rattle.plain_pp.specs.Laws.{OutcomesAreOne}
use Rattle.plain_pp.specs.Units.{sources_of, file_of}
use Rattle.project_program.specs.declared.programs.Stage.{Stage}
use Rattle.project_program.specs.declared.programs.Stage.TheVariants.{Preprocess, Parse, Types}
use Rattle.project_program.specs.Programs.{present_from, present_units, UnitGives, AreTrees, IsProgram, IsRefusedAt}
use Rattle.project_program.specs.Laws.{ProgramsAreOne}
use Rattle.unit_outcomes.specs.Laws.{HasFiles, UnitsHaveOutcomes}
use Rattle.product_programs.specs.Laws.{HasProgram, ProgramsAreFound}

-- the laws on units that it follows from
pub record UnitLaws : Type 0 where
  pub outcomes : UnitsHaveOutcomes
  pub read_is_spelt : ReadIsSpelt
  pub spelt_is_read : SpeltIsRead
  pub trees_are_one : TreesAreOne
  pub one_outcome : OutcomesAreOne
  pub one : ProgramsAreOne

abbrev Below : ℕ → List ℕ → Type 0
Below limit places = AllByRecursion (λ place. place < limit) places

chosen : {X : Type 0} (P : X → Type 0) (b : Bool) (x y : X) → P x → P y → P (if b then x else y)
chosen P true x y a c = a
chosen P false x y a c = c

present-below : (on : ℕ → Bool) (place : ℕ) (units : List PlainUnit) (limit : ℕ) → place + length units ≤ limit → Below limit (present_from on place units)
present-below on place [] limit h = tt
present-below on place (unit ∷ units) limit h =
    chosen (Below limit) (value on unit.when) (place ∷ present_from on (place + 1) units) (present_from on (place + 1) units)
    (omega (arith, h), present-below on (place + 1) units limit (omega (arith, h))) (present-below on (place + 1) units limit (omega (arith, h)))

-- ---- tokens and trees are one

same-tokens : OutcomesAreOne → (project : PlainProject) (files : List PlainFile) (on : ℕ → Bool) (places : List ℕ) (a b : List (List PlainToken)) → AllZip (UnitGives project files on) places a → AllZip (UnitGives project files on) places b → a ≡ b
same-tokens one project files on [] [] [] p q = refl
same-tokens one project files on [] (x ∷ a) b p q = absurd p
same-tokens one project files on [] [] (y ∷ b) p q = absurd q
same-tokens one project files on (place ∷ places) [] b p q = absurd p
same-tokens one project files on (place ∷ places) (x ∷ a) [] p q = absurd q
same-tokens one project files on (place ∷ places) (x ∷ a) (y ∷ b) p q =
    let first : gives x ≡ gives y = one (sources_of project files on) (file_of project place) (gives x) (gives y) p.0 q.0 in
    let same : x ≡ y = cc in
    let rest : a ≡ b = same-tokens one project files on places a b p.1 q.1 in
    ap (λ z. z ∷ a) same ∙ ap (λ l. y ∷ l) rest

same-trees : TreesAreOne → (tokens : List (List PlainToken)) (a b : List PlainTree) → AllZip IsTreeOf tokens a → AllZip IsTreeOf tokens b → a ≡ b
same-trees only [] [] [] p q = refl
same-trees only [] (x ∷ a) b p q = absurd p
same-trees only [] [] (y ∷ b) p q = absurd q
same-trees only (t ∷ tokens) [] b p q = absurd p
same-trees only (t ∷ tokens) (x ∷ a) [] p q = absurd q
same-trees only (t ∷ tokens) (x ∷ a) (y ∷ b) p q =
    let same : x ≡ y = only t x y p.0.spells q.0.spells in
    let rest : a ≡ b = same-trees only tokens a b p.1 q.1 in
    ap (λ z. z ∷ a) same ∙ ap (λ l. y ∷ l) rest

-- ---- a tree

record HasTree (tokens : List PlainToken) : Type 0 where
  tree : PlainTree
  is_tree : IsTreeOf tokens tree

module _ (laws : UnitLaws) where
  no-high : (tokens : List PlainToken) (tree : PlainTree) → Spells tokens tree → most_high < height_of tree → (other : PlainTree) → IsTreeOf tokens other → ⊥
  no-high tokens tree spells high other is =
      let same : other ≡ tree = laws.trees_are_one tokens other tree is.spells spells in
      let low : height_of tree ≤ most_high = subst (λ (t : PlainTree). height_of t ≤ most_high) same is.low in
      absurd (omega (arith, high, low))

  tree-of : (tokens : List PlainToken) → (((tree : PlainTree) → IsTreeOf tokens tree → ⊥) → ⊥) → HasTree tokens
  tree-of tokens some = by (read of_trees tokens) refl
    where
      by : (found : Option PlainTree) → read of_trees tokens ≡ found → HasTree tokens
      by (Some tree) e =
          let spells : Spells tokens tree = laws.read_is_spelt tokens tree e in
          elim (cases_lt most_high (height_of tree)) [
            | inl high ↦ absurd (some (no-high tokens tree spells high))
            | inr low ↦ record { tree = tree; is_tree = record { spells = spells; low = low } }
          ]
      by None e = absurd (some (λ tree is. let no : ◌≡◌ {A = Option PlainTree} None (Some tree) = sym e ∙ laws.spelt_is_read tokens tree is.spells in cc))

  module _ (project : PlainProject) (files : List PlainFile) (on : ℕ → Bool) (filed : length files ≡ length (names_of project)) (some : ((program : PlainProgram) → IsProgram project files on program → ⊥) → ⊥) where
    unrefused : (stage : Stage) → IsRefusedAt project files on stage → ⊥
    unrefused stage known = some (λ program is. laws.one.not_both project files on program stage is known)

    -- ---- tokens

    count : length files ≡ length project.headers + length project.units
    count = filed ∙ length-append project.headers (map (λ u. u.file) project.units) ∙ ap (λ n. length project.headers + n) (length-map project.units (λ u. u.file))

    has-files : (place : ℕ) → place < length project.units → HasFiles (sources_of project files on) (file_of project place)
    has-files place h = record { unit = omega (arith, h, count); headers = omega (arith, count) }

    record Given (places : List ℕ) : Type 0 where
      tokens : List (List PlainToken)
      are_given : AllZip (UnitGives project files on) places tokens

    abbrev Among : List ℕ → Type 0
    Among places = (place : ℕ) → Contains places place → Contains (present_units project on) place

    behind : (place : ℕ) (places : List ℕ) → Among (place ∷ places) → Among places
    behind place places among other c = among other (suc c.0, omega (arith, c.1), c.2)

    given-from : (places : List ℕ) → Below (length project.units) places → Among places → Given places
    given-from [] h among = record { tokens = []; are_given = tt }
    given-from (place ∷ places) h among =
        let outcome = laws.outcomes (sources_of project files on) (file_of project place) (has-files place h.0) in
        by outcome.0 outcome.1 (given-from places h.1 (behind place places among))
      where
        by : (outcome : Outcome) → IsPreprocessed (sources_of project files on) (file_of project place) outcome → Given places → Given (place ∷ places)
        by (gives tokens) is others = record { tokens = tokens ∷ others.tokens; are_given = (is, others.are_given) }
        by (is_refused why) is others =
            absurd (unrefused Preprocess (record { unit = place; present = among place (0, omega arith, refl); why = why; refused = is }))

    given : Given (present_units project on)
    given = given-from (present_units project on) (present-below on 0 project.units (length project.units) (omega arith)) (λ place c. c)

    -- ---- trees

    record Parsed (tokens : List (List PlainToken)) : Type 0 where
      trees : List PlainTree
      are_trees : AllZip IsTreeOf tokens trees

    abbrev AmongTokens : List (List PlainToken) → Type 0
    AmongTokens tokens = (of_unit : List PlainToken) → Contains tokens of_unit → Contains given.tokens of_unit

    parsed-from : (tokens : List (List PlainToken)) → AmongTokens tokens → Parsed tokens
    parsed-from [] among = record { trees = []; are_trees = tt }
    parsed-from (of_unit ∷ tokens) among =
        let first : HasTree of_unit =
        tree-of of_unit (λ treeless. unrefused Parse (record { tokens = given.tokens; preprocessed = given.are_given; of_unit = of_unit; one = among of_unit (0, omega arith, refl); treeless = treeless })) in
        let others : Parsed tokens = parsed-from tokens (λ other c. among other (suc c.0, omega (arith, c.1), c.2)) in
        record { trees = first.tree ∷ others.trees; are_trees = (first.is_tree, others.are_trees) }

    parsed : Parsed given.tokens
    parsed = parsed-from given.tokens (λ of_unit c. c)

    are-trees : AreTrees project files on parsed.trees
    are-trees = record { tokens = given.tokens; preprocessed = given.are_given; parsed = parsed.are_trees }

    -- ---- the program

    same-units : (a b : Units) (as_ bs : List Binding) → fine a as_ ≡ fine b bs → a ≡ b
    same-units a b as_ bs e = cc

    no-broken : (a : Units) (as_ : List Binding) → broken ≡ fine a as_ → ⊥
    no-broken a as_ e = cc

    -- a program has these trees
    judged-as : (program : PlainProgram) (is : IsProgram project files on program) → judged_program parsed.trees ≡ fine is.elaborated.linked is.elaborated.bindings
    judged-as program is =
        let same : is.trees ≡ parsed.trees = same-trees laws.trees_are_one given.tokens is.trees parsed.trees
        (subst (λ (t : List (List PlainToken)). AllZip IsTreeOf t is.trees)
        (same-tokens laws.one_outcome project files on (present_units project on) is.are_trees.tokens given.tokens is.are_trees.preprocessed given.are_given) is.are_trees.parsed)
        parsed.are_trees in
        ap judged_program (sym same) ∙ is.elaborated.judged

    linked-well : (linked : Units) (bindings : List Binding) → judged_program parsed.trees ≡ fine linked bindings → Links linked
    linked-well linked bindings e = record {
      no_fault = λ kind name fault. some (λ program is.
          let same : linked ≡ is.elaborated.linked = same-units linked is.elaborated.linked bindings is.elaborated.bindings (sym e ∙ judged-as program is) in
          let links = is.elaborated.links in
          links.no_fault kind name (subst (λ (l : Units). IsFault l kind name) same fault));
    }

    pub found : HasProgram project files on
    found = by (judged_program parsed.trees) refl
      where
        by : (what : Checked Units) → judged_program parsed.trees ≡ what → HasProgram project files on
        by (fine linked bindings) e = record {
          program = program_of parsed.trees linked;
          is_program = record {
            trees = parsed.trees;
            are_trees = are-trees;
            elaborated = record { linked = linked; bindings = bindings; judged = e; links = linked-well linked bindings e; program = refl };
          };
        }
        by (refused kind token) e =
            absurd (unrefused Types (record { trees = parsed.trees; are_trees = are-trees; kind = kind; token = token; refused = record { judged = e } }))
        by broken e = absurd (some (λ program is. no-broken is.elaborated.linked is.elaborated.bindings (sym e ∙ judged-as program is)))

pub programs_found : UnitLaws → ProgramsAreFound
programs_found laws project files on filed some = found laws project files on filed some
