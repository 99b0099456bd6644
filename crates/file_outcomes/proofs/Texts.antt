-- Lawful texts have conditions.
use Rattle.std.proofs.Common.{◌≡◌, ℕ, ◌+◌, ◌<◌, Bool, true, not, cond, length, List, [], ◌∷◌, ◌++◌, map, Option, Some, None, String, Global, string_bytes, refl, sym, ap, subst, ◌∙◌}
use Rattle.std.specs.Prelude.{◌^◌}
use Rattle.std.specs.Option.{is_some}
use Rattle.std.specs.List.{All, AllByRecursion, position, position_or_len, prefix_len}
use Rattle.std.specs.Str.{bytes_eq}
use Rattle.std.proofs.lemmas.List.{length-map}
use Rattle.std.proofs.lemmas.List.Elements.{recursion_from_All}
use Rattle.cond_formula.specs.Conditions.{Condition, Always, VarsBelow}
use Rattle.feature_model.specs.Trees.{Tree, named, inverse, grouped, both, either, implies, equals, feature_number, is_known}
use Rattle.feature_model.specs.Constraints.{IsOver, AreOver}
use Rattle.c_names.specs.Names.{is_new_name}
use Rattle.project_file.specs.Contents.{UnitText, Contents, texts_of}
use Rattle.project_file.specs.Texts.{Spell, IsConstraintOver, IsLawful, IsPresence, IsModelOf}
use Rattle.project_file.specs.Projects.{PlainUnit, PlainProject, AreUnits, AreFeatureNames, IsProjectOf}
use Rattle.file_outcomes.proofs.Strings.{MayBeString, strings_with}
use Rattle.file_outcomes.proofs.Ascii.{name-utf8, constraint-may}
use Rattle.file_outcomes.proofs.Formulas.{condition_for, condition_below, says, all_for, admits}

-- ---- what names a text knows depends on the spelling of the features alone

prefix_len-map : {X Y : Type 0} (p : Y → Bool) (f : X → Y) (xs : List X) → prefix_len (λ x. p (f x)) xs ≡ prefix_len p (map f xs)
prefix_len-map p f [] = refl
prefix_len-map p f (x ∷ xs) = ap (λ n. cond (p (f x)) (1 + n) 0) (prefix_len-map p f xs)

position_or_len-map : {X Y : Type 0} (p : Y → Bool) (f : X → Y) (xs : List X) → position_or_len (λ x. p (f x)) xs ≡ position_or_len p (map f xs)
position_or_len-map p f xs = prefix_len-map (λ y. not (p y)) f xs

position-map : {X Y : Type 0} (p : Y → Bool) (f : X → Y) (xs : List X) → position (λ x. p (f x)) xs ≡ position p (map f xs)
position-map p f xs = rw (position_or_len-map p f xs, length-map xs f)

number_spelled : (a b : List (String Global)) (name : List ℕ) → map string_bytes a ≡ map string_bytes b → feature_number a name ≡ feature_number b name
number_spelled a b name e =
    position-map (λ f. bytes_eq f name) string_bytes a ∙ ap (λ names. position (λ f. bytes_eq f name) names) e
    ∙ sym (position-map (λ f. bytes_eq f name) string_bytes b)

known_spelled : (a b : List (String Global)) (tree : Tree) → map string_bytes a ≡ map string_bytes b → is_known a tree ≡ is_known b tree
known_spelled a b (named name) e = ap is_some (number_spelled a b name e)
known_spelled a b (inverse t) e = known_spelled a b t e
known_spelled a b (grouped t) e = known_spelled a b t e
known_spelled a b (both t u) e = rw (known_spelled a b t e, known_spelled a b u e)
known_spelled a b (either t u) e = rw (known_spelled a b t e, known_spelled a b u e)
known_spelled a b (implies t u) e = rw (known_spelled a b t e, known_spelled a b u e)
known_spelled a b (equals t u) e = rw (known_spelled a b t e, known_spelled a b u e)

-- ---- texts over features

module _ (alloc : Global) (names : List (List ℕ)) (features : List (String Global)) (spelled : Spell features names) where
  over : (text : List ℕ) (is : IsConstraintOver names text) → IsOver features text is.tree
  over text is = record {
    constraint = is.over.constraint;
    known = sym (known_spelled is.features features is.tree (is.spelled ∙ sym spelled)) ∙ is.over.known;
  }

  below : (condition : Condition) → VarsBelow (length features) condition → VarsBelow (length names) condition
  below condition h = subst (λ n. VarsBelow n condition) (sym (length-map features string_bytes) ∙ ap length spelled) h

  -- the constraints as strings, with their trees
  record HaveTrees (constraints : List (List ℕ)) : Type 0 where
    texts : List (String Global)
    texts_spelled : Spell texts constraints
    trees : List Tree
    are_over : AreOver features texts trees

  trees_of : (constraints : List (List ℕ)) → AllByRecursion (IsLawful names) (map Some constraints) → HaveTrees constraints
  trees_of [] h = record { texts = []; texts_spelled = refl; trees = []; are_over = tt }
  trees_of (text ∷ rest) h =
      let is : IsConstraintOver names text = h.0 in
      let others = trees_of rest h.1 in
      let one = Rattle.file_outcomes.proofs.Strings.string_with alloc text (constraint-may text is.tree is.over.constraint) in
      record {
        texts = one.text ∷ others.texts;
        texts_spelled = ap (λ b. b ∷ map string_bytes others.texts) one.spells ∙ ap (λ bs. text ∷ bs) others.texts_spelled;
        trees = is.tree ∷ others.trees;
        are_over = (subst (λ b. IsOver features b is.tree) (sym one.spells) (over text is), others.are_over);
      }

  pub record HasModel (constraints : List (List ℕ)) : Type 0 where
    pub model : Condition
    pub is_model : IsModelOf names constraints model

  pub model_for : (constraints : List (List ℕ)) → AllByRecursion (IsLawful names) (map Some constraints) → HasModel constraints
  model_for constraints h =
      let have = trees_of constraints h in
      let admitted = admits features have.texts have.trees have.are_over in
      record {
        model = all_for features have.trees;
        is_model = record {
          features = features;
          spelled = spelled;
          texts = have.texts;
          texts_spelled = have.texts_spelled;
          admits = admitted;
          below = below (all_for features have.trees) admitted.below;
        };
      }

  record HasPresence (when : Option (List ℕ)) : Type 0 where
    condition : Condition
    is_presence : IsPresence names when condition

  presence_for : (when : Option (List ℕ)) → IsLawful names when → HasPresence when
  presence_for None h = record { condition = Always; is_presence = record { value_is = λ on. refl; below = tt } }
  presence_for (Some text) h =
      let is : IsConstraintOver names text = h in
      record {
        condition = condition_for features is.tree;
        is_presence = record {
          value_is = record { features = features; spelled = spelled; says = says features text is.tree (over text is) };
          below = below (condition_for features is.tree) (condition_below features is.tree);
        };
      }

  pub record HaveUnits (texts : List UnitText) : Type 0 where
    pub units : List PlainUnit
    pub are_units : AreUnits names texts units

  pub units_for : (texts : List UnitText) → AllByRecursion (IsLawful names) (map (λ u. u.when) texts) → HaveUnits texts
  units_for [] h = record { units = []; are_units = tt }
  units_for (text ∷ texts) h =
      let present = presence_for text.when h.0 in
      let others = units_for texts h.1 in
      record {
        units = (let u : PlainUnit = record { file = text.file; when = present.condition } in u) ∷ others.units;
        are_units = (refl, present.is_presence, others.are_units);
      }

-- ---- the project

names_may : (names : List (List ℕ)) → AllByRecursion (λ n. is_new_name n ≡ true) names → AllByRecursion (λ n. length n < 2 ^ 63) names → AllByRecursion MayBeString names
names_may [] h k = tt
names_may (name ∷ names) h k = (record { utf8 = name-utf8 name h.0; short = k.0 }, names_may names h.1 k.1)

lefts : (names : List (List ℕ)) (a b : List (Option (List ℕ))) → AllByRecursion (IsLawful names) (a ++ b) → AllByRecursion (IsLawful names) a
lefts names [] b h = tt
lefts names (x ∷ a) b h = (h.0, lefts names a b h.1)

rights : (names : List (List ℕ)) (a b : List (Option (List ℕ))) → AllByRecursion (IsLawful names) (a ++ b) → AllByRecursion (IsLawful names) b
rights names [] b h = h
rights names (x ∷ a) b h = rights names a b h.1

pub record HasProject (name : List ℕ) (contents : Contents) : Type 0 where
  pub project : PlainProject
  pub is_project : IsProjectOf name contents project

pub project_for : (alloc : Global) (name : List ℕ) (contents : Contents) → AreFeatureNames contents.features → All (λ n. length n < 2 ^ 63) contents.features → All (IsLawful contents.features) (texts_of contents) → HasProject name contents
project_for alloc name contents lawful short texts =
    let names = contents.features in
    let strings = strings_with alloc names (names_may names (recursion_from_All (λ n. is_new_name n ≡ true) names lawful) (recursion_from_All (λ n. length n < 2 ^ 63) names short)) in
    let all = recursion_from_All (IsLawful names) (texts_of contents) texts in
    let model = model_for alloc names strings.texts strings.spell contents.constraints (lefts names (map Some contents.constraints) (map (λ u. u.when) contents.units) all) in
    let units = units_for alloc names strings.texts strings.spell contents.units (rights names (map Some contents.constraints) (map (λ u. u.when) contents.units) all) in
    let p : PlainProject = record { name = name; features = names; model = model.model; headers = contents.headers; units = units.units } in
    record { project = p; is_project = record { name_is = refl; features = refl; headers = refl; model = model.is_model; units = units.are_units } }
