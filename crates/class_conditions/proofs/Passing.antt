-- What is told of units passes a test where an occurrence of these units does.
use Rattle.std.proofs.Common.{◌≡◌, ℕ, Bool, true, false, ◌||◌, List, [], ◌∷◌, map, Some, inl, inr, Contains, sym, ap, subst, ◌∙◌}
use Rattle.std.specs.Prelude.{◌⊎◌, ◌↔◌, IsTrue}
use Rattle.std.specs.List.{AllZip, list_any}
use Rattle.std.proofs.lemmas.Bool.{or_cases, or_left, or_right}
use Rattle.std.proofs.lemmas.List.Folds.{Any-from_list_any, list_any_at}
use Rattle.cond_formula.specs.Conditions.{condition_of, value}
use Rattle.core_meaning.specs.Entities.{Struct}
use Rattle.choice_trees.specs.declared.trees.Forest.{Forest}
use Rattle.choice_trees.specs.ChoiceTrees.{forest_at}
use Rattle.choice_trees.specs.Leaves.{forest_leaves, LeavesAreSpelled}
use Rattle.project_file.specs.declared.projects.Unit.{Unit}
use Rattle.cond_tokens.specs.declared.tokens.CondToken.{CondToken}
use Rattle.cond_tokens.specs.declared.tokens.CondStream.{CondStream}
use Rattle.cond_scopes.specs.Progress.{numbers}
use Rattle.cond_scopes.specs.Units.{present_trees}
use Rattle.cond_pairings.specs.Pairs.{Pair, pairs_seen}
use Rattle.project_check.specs.Parsed.{AreLeaves}
use Rattle.program_occurrences.specs.Occurrences.{UnitNames, names_of_unit, structs_behind, judged_behind, names_behind, names_of_units, Occurrence, occurrences_of}
use Rattle.program_occurrences.specs.Laws.{DeclarationsAreOccurrences}
use Rattle.program_occurrences.proofs.Entities.{source_of, made_from}
use Rattle.changed_forests.specs.Numbered.{IsNumbered}
use Rattle.changed_forests.specs.Laws.{ChangesAreSeen, NumberingsAreSeen}
use Rattle.sited_names.specs.Unsited.{unsited_names}
use Rattle.sited_names.specs.Laws.{SitesDontName}
use Rattle.told_occurrences.specs.declared.told.ToldUnit.{ToldUnit}
use Rattle.told_occurrences.specs.Told.{number_in, pair_of, pairs_of, HaveSame}
use Rattle.told_occurrences.specs.Units.{AreTold, no_more, present, absent}
use Rattle.told_ties.proofs.Numbers.{AreTokens, occurrence_tokens, same_numbers}
use Rattle.told_ties.proofs.Found.{IsSaidOf, IsSaidIn, said_of_none, said_first, said_later, said_cases}
use Rattle.told_ties.proofs.Told.{if_present, if_absent, parts_of, same_trees}
use Rattle.class_occurrences.specs.Occurring.{Occurring, token_of, occurring_by, occurring, passes, some_passes}
use Rattle.class_occurrences.specs.Laws.{tokens_of}
use Rattle.class_conditions.specs.Told.{some_unit_passes}
use Rattle.class_conditions.specs.Laws.{ToldPassAsOccurrences}
use Rattle.class_conditions.proofs.Sites.{same_pairs}

-- ---- elements that pass

record SomePasses {X : Type 0} (test : X → Bool) (xs : List X) : Type 0 where
  element : X
  among : Contains xs element
  passing : IsTrue (test element)

some_passing : {X : Type 0} (test : X → Bool) (xs : List X) → IsTrue (list_any test xs) → SomePasses test xs
some_passing test [] h = absurd (let no : ◌≡◌ {A = Bool} false true = h in cc)
some_passing test (x ∷ xs) h = let a = Any-from_list_any test (x ∷ xs) h in record { element = a.1; among = (a.0, a.2, a.3); passing = a.4 }

passing_some : {X : Type 0} (test : X → Bool) (xs : List X) (x : X) → Contains xs x → IsTrue (test x) → IsTrue (list_any test xs)
passing_some test xs x among passing = list_any_at test xs among.0 x among.1 (ap test among.2 ∙ passing)

module _ (test : Occurring → Bool) where
  -- the occurrence passes
  abbrev Passes : UnitNames → Occurrence → Type 0
  Passes unit o = IsTrue (test (tokens_of o))

  -- ---- one unit

  module _ (tokens : List CondToken) (numbers : List ℕ) (unit : UnitNames) (are : (o : Occurrence) → Contains (occurrences_of unit) o → AreTokens tokens numbers o) where
    abbrev pair_passes : Pair → Bool
    pair_passes p = passes test (occurring tokens p)

    passes_so : (o : Occurrence) → Contains (occurrences_of unit) o → pair_passes (pair_of numbers o) ≡ test (tokens_of o)
    passes_so o among =
        let t = are o among in
        ap (λ i. passes test (occurring_by i (token_of tokens (number_in numbers o.declared_by.number)))) t.identifier
        ∙ ap (λ by. passes test (occurring_by (Some o.identifier.token) by)) t.declared_by

    unit_passes : (pairs : List Pair) → HaveSame pairs (pairs_of numbers unit) → IsTrue (some_passes test tokens pairs) ↔ IsSaidOf Passes unit
    unit_passes pairs same = (forth, back)
      where
        forth : IsTrue (some_passes test tokens pairs) → IsSaidOf Passes unit
        forth h =
            let p = some_passing pair_passes pairs h in
            let s = source_of (pair_of numbers) (occurrences_of unit) p.element ((same p.element).0 p.among) in
            record { occurrence = s.source; among = s.among; holds = sym (passes_so s.source s.among) ∙ (ap pair_passes s.same ∙ p.passing) }

        back : IsSaidOf Passes unit → IsTrue (some_passes test tokens pairs)
        back h =
            let o = h.occurrence in
            passing_some pair_passes pairs (pair_of numbers o) ((same (pair_of numbers o)).1 (made_from (pair_of numbers) (occurrences_of unit) o h.among))
            (passes_so o h.among ∙ h.holds)

  -- ---- all units

  passes_together :
      (first rest : Bool) (unit : UnitNames) (units : List UnitNames) → (IsTrue first ↔ IsSaidOf Passes unit) → (IsTrue rest ↔ IsSaidIn Passes units)
      → IsTrue (first || rest) ↔ IsSaidIn Passes (unit ∷ units)
  passes_together first rest unit units here behind = (λ h. forth (or_cases first rest h), λ h. back (said_cases Passes unit units h))
    where
      forth : IsTrue first ⊎ IsTrue rest → IsSaidIn Passes (unit ∷ units)
      forth (inl h) = said_first Passes unit units (here.0 h)
      forth (inr h) = said_later Passes unit units (behind.0 h)

      back : IsSaidOf Passes unit ⊎ IsSaidIn Passes units → IsTrue (first || rest)
      back (inl h) = or_left first rest (here.1 h)
      back (inr h) = or_right first rest (behind.1 h)

  module _ (declared : DeclarationsAreOccurrences) (spelt : LeavesAreSpelled) (changed : ChangesAreSeen) (on : ℕ → Bool) where
    all_pass :
        {units : List Unit} {new : List Forest} {others : List UnitNames} {all : List ToldUnit} (streams : List CondStream) (forests : List Forest) (structs : List Struct)
        → AreTold on units new others all → map unsited_names others ≡ map unsited_names (names_behind structs (present_trees on units forests))
        → AreLeaves on units streams forests → AllZip IsNumbered forests new
        → IsTrue (some_unit_passes on test streams all) ↔ IsSaidIn Passes (names_behind structs (present_trees on units forests))
    all_pass [] [] structs no_more alike leaves numbers_are =
        (λ h. absurd (let no : ◌≡◌ {A = Bool} false true = h in cc), λ h. absurd (said_of_none Passes h))
    all_pass [] (forest ∷ forests) structs no_more alike leaves numbers_are = absurd leaves
    all_pass (stream ∷ streams) forests structs no_more alike leaves numbers_are = absurd leaves
    all_pass [] forests structs (present there is rest) alike leaves numbers_are = absurd leaves
    all_pass (stream ∷ streams) [] structs (present there is rest) alike leaves numbers_are = absurd leaves
    all_pass (stream ∷ streams) (old ∷ forests) structs (present {unit = unit} {units = units} {forest = new} {forests = news} {names = other} {more = others} {told = told} {rest = all} there is rest) alike leaves numbers_are =
        let tree = forest_at on old in
        let judged = judged_behind structs tree in
        let names = names_of_unit tree judged in
        let more = names_behind (structs_behind structs judged) (present_trees on units forests) in
        let tokens = stream.tokens.items in
        let own = numbers (forest_leaves on old) in
        let pairs = pairs_seen on told.pairs.items in
        let e : names_behind structs (present_trees on (unit ∷ units) (old ∷ forests)) ≡ names ∷ more
        = ap (names_behind structs) (if_present (value on (condition_of unit.when)) tree (present_trees on units forests) there) in
        let both = parts_of (unsited_names other) (unsited_names names) (map unsited_names others) (map unsited_names more) (alike ∙ ap (map unsited_names) e) in
        let same : pairs_of (numbers (forest_leaves on new)) other ≡ pairs_of own names
        = ap (λ (ns : List ℕ). pairs_of ns other) (same_numbers changed on old new numbers_are.0) ∙ same_pairs own other names both.0 in
        let here = unit_passes tokens own names (λ o among. occurrence_tokens declared spelt on old tokens (leaves.0 there) judged o among) pairs
        (subst (λ (ps : List Pair). HaveSame pairs ps) same is.pairs_are) in
        let behind = all_pass streams forests (structs_behind structs judged) rest both.1 leaves.1 numbers_are.1 in
        subst (λ (ns : List UnitNames). IsTrue (some_unit_passes on test (stream ∷ streams) (told ∷ all)) ↔ IsSaidIn Passes ns) (sym e)
        (passes_together (some_passes test tokens pairs) (some_unit_passes on test streams all) names more here behind)
    all_pass [] forests structs (absent there silent rest) alike leaves numbers_are = absurd leaves
    all_pass (stream ∷ streams) [] structs (absent there silent rest) alike leaves numbers_are = absurd leaves
    all_pass (stream ∷ streams) (old ∷ forests) structs (absent {unit = unit} {units = units} {forest = new} {forests = news} {more = others} {told = told} {rest = all} there silent rest) alike leaves numbers_are =
        let tree = forest_at on old in
        let e : names_behind structs (present_trees on (unit ∷ units) (old ∷ forests)) ≡ names_behind structs (present_trees on units forests)
        = ap (names_behind structs) (if_absent (value on (condition_of unit.when)) tree (present_trees on units forests) there) in
        let behind = all_pass streams forests structs rest (alike ∙ ap (map unsited_names) e) leaves.1 numbers_are.1 in
        subst (λ (ns : List UnitNames). IsTrue (some_unit_passes on test (stream ∷ streams) (told ∷ all)) ↔ IsSaidIn Passes ns) (sym e)
        (subst (λ (ps : List Pair). IsTrue (some_passes test stream.tokens.items ps || some_unit_passes on test streams all) ↔ IsSaidIn Passes (names_behind structs (present_trees on units forests)))
        (sym silent.no_pairs) behind)

-- ---- the trees whose tokens don't tell their numbers

pub told_pass : DeclarationsAreOccurrences → LeavesAreSpelled → ChangesAreSeen → NumberingsAreSeen → SitesDontName → ToldPassAsOccurrences
told_pass declared spelt changed numbered sites on units streams forests new all leaves numbers_are told test = (
  λ h. let s = both.0 h in record { found = s.found; holds = s.holds },
  λ h. both.1 (record { found = h.found; holds = h.holds }),
)
  where
    alike : map unsited_names (names_of_units (present_trees on units new)) ≡ map unsited_names (names_of_units (present_trees on units forests))
    alike =
        sym (sites (present_trees on units new))
        ∙ (ap names_of_units (same_trees numbered on units forests new numbers_are) ∙ sites (present_trees on units forests))

    both : IsTrue (some_unit_passes on test streams all) ↔ IsSaidIn (Passes test) (names_of_units (present_trees on units forests))
    both = all_pass test declared spelt changed on streams forests [] told alike leaves numbers_are
