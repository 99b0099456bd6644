-- What is told of units by numbers is what there is in them.
use Rattle.std.proofs.Common.{◌≡◌, ℕ, Bool, true, false, List, [], ◌∷◌, ◌++◌, map, Option, Some, None, Contains, refl, ap, sym, subst, ◌∙◌}
use Rattle.std.specs.Prelude.{◌↔◌, IsTrue, flat_map, if◌then◌else◌}
use Rattle.std.specs.List.{AllZip}
use Rattle.cond_formula.specs.Conditions.{condition_of, value}
use Rattle.core_meaning.specs.Checking.{Checked}
use Rattle.core_meaning.specs.Entities.{Struct}
use Rattle.core_meaning.specs.UnitNames.{UnitState}
use Rattle.choice_trees.specs.declared.trees.Forest.{Forest}
use Rattle.choice_trees.specs.ChoiceTrees.{forest_at}
use Rattle.choice_trees.specs.Leaves.{forest_leaves, LeavesAreSpelled}
use Rattle.project_file.specs.declared.projects.Unit.{Unit}
use Rattle.cond_tokens.specs.declared.tokens.CondToken.{CondToken}
use Rattle.cond_tokens.specs.declared.tokens.CondStream.{CondStream}
use Rattle.choice_parser.specs.Units.{numbered_at}
use Rattle.cond_scopes.specs.Progress.{numbers}
use Rattle.cond_scopes.specs.Units.{present_trees}
use Rattle.cond_pairings.specs.Pairs.{Pair, pairs_seen}
use Rattle.project_check.specs.Parsed.{AreLeaves}
use Rattle.program_occurrences.specs.Occurrences.{UnitNames, names_of_unit, structs_behind, judged_behind, names_behind, names_of_units, Occurrence, occurrences_of, declares_itself, CommonName, common_name}
use Rattle.program_occurrences.specs.Classes.{PlainFileToken, file_token, declaring_token}
use Rattle.program_occurrences.specs.Laws.{DeclarationsAreOccurrences}
use Rattle.program_occurrences.proofs.Entities.{source_of, made_from}
use Rattle.name_spaces.specs.Laws.{declared_name}
use Rattle.moved_programs.specs.Trees.{moved_tree}
use Rattle.changed_forests.specs.Numbered.{unsited, AreSameButSites, IsNumbered}
use Rattle.changed_forests.specs.Laws.{ChangesAreSeen, NumberingsAreSeen}
use Rattle.sited_names.specs.Laws.{SitesDontTie}
use Rattle.told_occurrences.specs.declared.told.ToldUnit.{ToldUnit}
use Rattle.told_occurrences.specs.Told.{number_in, pair_of, pairs_of, NumberedName, numbered, names_of}
use Rattle.told_occurrences.specs.Units.{names_seen, IsToldAs, IsSilent, AreTold, no_more, present, absent}
use Rattle.told_ties.specs.Ties.{TiedPair, tied, NamedToken, named, token_at, tied_if, tied_by, named_if, named_by, tied_in, named_in}
use Rattle.told_ties.specs.Laws.{OccurrencesAreTied}
use Rattle.told_ties.proofs.Lists.{none_among, alone_among, first_among, made_of, makes}
use Rattle.told_ties.proofs.Numbers.{IsCopied, occurrence_copied}
use Rattle.told_ties.proofs.Found.{IsSaidOf, IsSaidIn, said_of_none, said_together, Ties, Names, declared_as_said, named_as_said}

-- ---- one unit

declares : (b : Bool) (name : Option CommonName) (n : CommonName) → (if b then name else None) ≡ Some n → IsTrue b × (name ≡ Some n)
declares true name n e = (refl, e)
declares false name n e = absurd cc

is_declared : (b : Bool) (name : Option CommonName) (n : CommonName) → IsTrue b → name ≡ Some n → (if b then name else None) ≡ Some n
is_declared true name n itself e = e
is_declared false name n itself e = absurd cc

record IsNumberedAs (number : ℕ) (name : Option CommonName) (n : NumberedName) : Type 0 where
  number_is : number ≡ n.number
  name_is : name ≡ Some n.name

numbered_as : (number : ℕ) (name : Option CommonName) (n : NumberedName) → Contains (numbered number name) n → IsNumberedAs number name n
numbered_as number None n h = absurd (none_among n h)
numbered_as number (Some name) n h =
    let e = alone_among (record { number = number; name = name }) n h in
    record { number_is = ap (λ (m : NumberedName). m.number) e; name_is = ap (λ (m : NumberedName). Some m.name) e }

module _ (tokens : List CondToken) (numbers : List ℕ) (unit : UnitNames) (copied : (o : Occurrence) → Contains (occurrences_of unit) o → IsCopied tokens numbers o) where
  tie_is : (o : Occurrence) → Contains (occurrences_of unit) o → tied_by tokens (pair_of numbers o) ≡ tied (file_token o) (declaring_token o) ∷ []
  tie_is o among =
      let c = copied o among in
      ap (λ i. tied_if i (token_at tokens (number_in numbers o.declared_by.number))) c.identifier ∙ ap (tied_if (Some (file_token o))) c.declared_by

  name_is : (o : Occurrence) → Contains (occurrences_of unit) o → (name : CommonName) → named_if (token_at tokens (number_in numbers o.identifier.number)) name ≡ named (file_token o) name ∷ []
  name_is o among name = ap (λ i. named_if i name) (copied o among).identifier

  pairs_tie : (pairs : List Pair) → ((x : Pair) → Contains pairs x ↔ Contains (pairs_of numbers unit) x) → (a b : PlainFileToken) → Contains (flat_map (tied_by tokens) pairs) (tied a b) ↔ IsSaidOf (Ties a b) unit
  pairs_tie pairs same a b = (forth, back)
    where
      forth : Contains (flat_map (tied_by tokens) pairs) (tied a b) → IsSaidOf (Ties a b) unit
      forth h =
          let m = made_of (tied_by tokens) pairs (tied a b) h in
          let s = source_of (pair_of numbers) (occurrences_of unit) m.source ((same m.source).0 m.among) in
          let made : Contains (tied (file_token s.source) (declaring_token s.source) ∷ []) (tied a b)
          = subst (λ (ts : List TiedPair). Contains ts (tied a b)) (ap (tied_by tokens) (sym s.same) ∙ tie_is s.source s.among) m.made in
          let e = alone_among (tied (file_token s.source) (declaring_token s.source)) (tied a b) made in
          record {
            occurrence = s.source;
            among = s.among;
            holds = record { identifier_is = ap (λ (t : TiedPair). t.identifier) e; declared_by_is = ap (λ (t : TiedPair). t.declared_by) e };
          }

      back : IsSaidOf (Ties a b) unit → Contains (flat_map (tied_by tokens) pairs) (tied a b)
      back h =
          let o = h.occurrence in
          let e : tied (file_token o) (declaring_token o) ≡ tied a b = ap (λ x. tied x (declaring_token o)) h.holds.identifier_is ∙ ap (tied a) h.holds.declared_by_is in
          makes (tied_by tokens) pairs (pair_of numbers o) (tied a b) ((same (pair_of numbers o)).1 (made_from (pair_of numbers) (occurrences_of unit) o h.among))
          (subst (λ (ts : List TiedPair). Contains ts (tied a b)) (sym (tie_is o h.among)) (first_among (tied (file_token o) (declaring_token o)) (tied a b) [] e))

  abbrev of_occurrence : Occurrence → List NumberedName
  of_occurrence o = numbered (number_in numbers o.identifier.number) (declared_name unit o)

  names_name : (names : List NumberedName) → ((x : NumberedName) → Contains names x ↔ Contains (names_of numbers unit) x) → (t : PlainFileToken) (n : CommonName) → Contains (flat_map (named_by tokens) names) (named t n) ↔ IsSaidOf (Names t n) unit
  names_name names same t n = (forth, back)
    where
      forth : Contains (flat_map (named_by tokens) names) (named t n) → IsSaidOf (Names t n) unit
      forth h =
          let m = made_of (named_by tokens) names (named t n) h in
          let s = made_of of_occurrence (occurrences_of unit) m.source ((same m.source).0 m.among) in
          let o = s.source in
          let told = numbered_as (number_in numbers o.identifier.number) (declared_name unit o) m.source s.made in
          let made : Contains (named (file_token o) m.source.name ∷ []) (named t n)
          = subst (λ (ts : List NamedToken). Contains ts (named t n)) (ap (λ k. named_if (token_at tokens k) m.source.name) (sym told.number_is) ∙ name_is o s.among m.source.name) m.made in
          let e = alone_among (named (file_token o) m.source.name) (named t n) made in
          let d = declares (declares_itself o) (common_name unit o.identifier) m.source.name told.name_is in
          record {
            occurrence = o;
            among = s.among;
            holds = record { itself = d.0; token_is = ap (λ (x : NamedToken). x.token) e; name_is = d.1 ∙ ap (λ (x : NamedToken). Some x.name) e };
          }

      back : IsSaidOf (Names t n) unit → Contains (flat_map (named_by tokens) names) (named t n)
      back h =
          let o = h.occurrence in
          let own : NumberedName = record { number = number_in numbers o.identifier.number; name = n } in
          let is : declared_name unit o ≡ Some n = is_declared (declares_itself o) (common_name unit o.identifier) n h.holds.itself h.holds.name_is in
          let told : Contains (of_occurrence o) own
          = subst (λ (ns : List NumberedName). Contains ns own) (ap (numbered (number_in numbers o.identifier.number)) (sym is)) (first_among own own [] refl) in
          makes (named_by tokens) names own (named t n) ((same own).1 (makes of_occurrence (occurrences_of unit) o own h.among told))
          (subst (λ (ts : List NamedToken). Contains ts (named t n)) (sym (name_is o h.among n)) (first_among (named (file_token o) n) (named t n) [] (ap (λ x. named x n) h.holds.token_is)))

-- ---- all units

-- the same as it is said unit by unit
record TieAll (units : List UnitNames) (ties : List TiedPair) (names : List NamedToken) : Type 0 where
  ties_are : (a b : PlainFileToken) → Contains ties (tied a b) ↔ IsSaidIn (Ties a b) units
  names_are : (token : PlainFileToken) (name : CommonName) → Contains names (named token name) ↔ IsSaidIn (Names token name) units

none_tied : TieAll [] [] []
none_tied = record {
  ties_are = λ a b. (λ h. absurd (none_among (tied a b) h), λ h. absurd (said_of_none (Ties a b) h));
  names_are = λ token name. (λ h. absurd (none_among (named token name) h), λ h. absurd (said_of_none (Names token name) h));
}

pub if_present : {A : Type 0} (b : Bool) (x : A) (xs : List A) → IsTrue b → (if b then x ∷ xs else xs) ≡ x ∷ xs
if_present true x xs h = refl
if_present false x xs h = absurd cc

pub if_absent : {A : Type 0} (b : Bool) (x : A) (xs : List A) → b ≡ false → (if b then x ∷ xs else xs) ≡ xs
if_absent true x xs h = absurd cc
if_absent false x xs h = refl

pub parts_of : {A : Type 0} (x y : A) (xs ys : List A) → x ∷ xs ≡ y ∷ ys → (x ≡ y) × (xs ≡ ys)
parts_of x y xs ys e = (cc, cc)

module _ (declared : DeclarationsAreOccurrences) (spelt : LeavesAreSpelled) (seen : ChangesAreSeen) (on : ℕ → Bool) where
  unit_tied :
      (stream : CondStream) (forest new : Forest) (told : ToldUnit) (unit : UnitNames) (judged : Checked UnitState) (units : List UnitNames) (ties : List TiedPair) (names : List NamedToken)
      → unit ≡ names_of_unit (forest_at on new) judged → IsNumbered forest new → forest_leaves on forest ≡ numbered_at on 0 stream.tokens.items → IsToldAs on new unit told
      → TieAll units ties names
      → TieAll (unit ∷ units) (flat_map (tied_by stream.tokens.items) (pairs_seen on told.pairs.items) ++ ties) (flat_map (named_by stream.tokens.items) (names_seen on told.names.items) ++ names)
  unit_tied stream forest new told unit judged units ties names unit_is numbers_are leaves is behind =
      let tokens = stream.tokens.items in
      let numbers = numbers (forest_leaves on new) in
      let copied : (o : Occurrence) → Contains (occurrences_of unit) o → IsCopied tokens numbers o
      = λ o among. occurrence_copied declared spelt seen on forest new tokens numbers_are leaves judged o (subst (λ (u : UnitNames). Contains (occurrences_of u) o) unit_is among) in
      record {
        ties_are = λ a b. said_together (Ties a b) unit units (flat_map (tied_by tokens) (pairs_seen on told.pairs.items)) ties (tied a b)
            (pairs_tie tokens numbers unit copied (pairs_seen on told.pairs.items) is.pairs_are a b) (behind.ties_are a b);
        names_are = λ t n. said_together (Names t n) unit units (flat_map (named_by tokens) (names_seen on told.names.items)) names (named t n)
            (names_name tokens numbers unit copied (names_seen on told.names.items) is.names_are t n) (behind.names_are t n);
      }

  silent_tied :
      (tokens : List CondToken) (told : ToldUnit) (units : List UnitNames) (ties : List TiedPair) (names : List NamedToken) → IsSilent on told → TieAll units ties names
      → TieAll units (flat_map (tied_by tokens) (pairs_seen on told.pairs.items) ++ ties) (flat_map (named_by tokens) (names_seen on told.names.items) ++ names)
  silent_tied tokens told units ties names silent h =
      subst (λ (ps : List Pair). TieAll units (flat_map (tied_by tokens) ps ++ ties) (flat_map (named_by tokens) (names_seen on told.names.items) ++ names)) (sym silent.no_pairs)
      (subst (λ (ns : List NumberedName). TieAll units ties (flat_map (named_by tokens) ns ++ names)) (sym silent.no_names) h)

  all_tied :
      {units : List Unit} {new : List Forest} {names : List UnitNames} {all : List ToldUnit} (streams : List CondStream) (forests : List Forest) (structs : List Struct)
      → AreTold on units new names all → names ≡ names_behind structs (present_trees on units new) → AreLeaves on units streams forests → AllZip IsNumbered forests new
      → TieAll names (tied_in on streams all) (named_in on streams all)
  all_tied [] [] structs no_more are leaves numbers_are = none_tied
  all_tied [] (forest ∷ forests) structs no_more are leaves numbers_are = absurd leaves
  all_tied (stream ∷ streams) forests structs no_more are leaves numbers_are = absurd leaves
  all_tied [] forests structs (present there is rest) are leaves numbers_are = absurd leaves
  all_tied (stream ∷ streams) [] structs (present there is rest) are leaves numbers_are = absurd leaves
  all_tied (stream ∷ streams) (old ∷ forests) structs (present {unit = unit} {units = units} {forest = forest} {forests = new} {names = names} {more = more} {told = told} there is rest) are leaves numbers_are =
      let tree = forest_at on forest in
      let both = parts_of names (names_of_unit tree (judged_behind structs tree)) more (names_behind (structs_behind structs (judged_behind structs tree)) (present_trees on units new))
      (are ∙ ap (names_behind structs) (if_present (value on (condition_of unit.when)) tree (present_trees on units new) there)) in
      unit_tied stream old forest told names (judged_behind structs tree) more _ _ both.0 numbers_are.0 (leaves.0 there) is
      (all_tied streams forests (structs_behind structs (judged_behind structs tree)) rest both.1 leaves.1 numbers_are.1)
  all_tied [] forests structs (absent there silent rest) are leaves numbers_are = absurd leaves
  all_tied (stream ∷ streams) [] structs (absent there silent rest) are leaves numbers_are = absurd leaves
  all_tied (stream ∷ streams) (old ∷ forests) structs (absent {unit = unit} {units = units} {forest = forest} {forests = new} {more = more} {told = told} there silent rest) are leaves numbers_are =
      silent_tied stream.tokens.items told more _ _ silent
      (all_tied streams forests structs rest (are ∙ ap (names_behind structs) (if_absent (value on (condition_of unit.when)) (forest_at on forest) (present_trees on units new) there)) leaves.1 numbers_are.1)

-- ---- with the sites that tokens had

pub same_trees : NumberingsAreSeen → (on : ℕ → Bool) (units : List Unit) (forests new : List Forest) → AllZip IsNumbered forests new → AreSameButSites (present_trees on units new) (present_trees on units forests)
same_trees seen on [] forests new h = refl
same_trees seen on (unit ∷ units) [] [] h = refl
same_trees seen on (unit ∷ units) [] (f ∷ new) h = absurd h
same_trees seen on (unit ∷ units) (f ∷ forests) [] h = absurd h
same_trees seen on (unit ∷ units) (f ∷ forests) (g ∷ new) h = by (value on (condition_of unit.when)) (same_trees seen on units forests new h.1)
  where
    by : (b : Bool) → AreSameButSites (present_trees on units new) (present_trees on units forests)
        → AreSameButSites (if b then forest_at on g ∷ present_trees on units new else present_trees on units new) (if b then forest_at on f ∷ present_trees on units forests else present_trees on units forests)
    by true behind = ap (λ t. t ∷ map (moved_tree unsited) (present_trees on units new)) (sym (seen f g h.0 on)) ∙ ap (λ ts. moved_tree unsited (forest_at on f) ∷ ts) behind
    by false behind = behind

also : {A B C : Type 0} → A ↔ B → B ↔ C → A ↔ C
also f g = (λ x. g.0 (f.0 x), λ z. f.1 (g.1 z))

pub occurrences_tied : DeclarationsAreOccurrences → LeavesAreSpelled → ChangesAreSeen → NumberingsAreSeen → SitesDontTie → OccurrencesAreTied
occurrences_tied declared spelt changed numbered sites on units streams forests new all leaves numbers_are told =
    let trees = present_trees on units new in
    let alike = sites trees (present_trees on units forests) (same_trees numbered on units forests new numbers_are) in
    let h = all_tied declared spelt changed on streams forests [] told refl leaves numbers_are in
    record {
      ties_are = λ a b. also (h.ties_are a b) (also (declared_as_said (names_of_units trees) a b) (alike.declared a b));
      names_are = λ t n. also (h.names_are t n) (also (named_as_said (names_of_units trees) t n) (alike.named t n));
    }
