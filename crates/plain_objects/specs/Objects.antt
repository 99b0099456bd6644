-- Steps in judging the initialisers of objects.
use Rattle.std.proofs.Common.{◌≡◌, ℕ, Bool, List, [], ◌∷◌, ◌++◌, map, refl, sym, ap, ◌∙◌}
use Rattle.std.proofs.lemmas.List.{map-append}
use Rattle.std.specs.Prelude.{Option, Some, None, option_map}
use Rattle.c_text.specs.Token.{PlainToken}
use Rattle.c_types.specs.Types.{PlainType}
use Rattle.c_tree.specs.Trees.{PlainTree}
use Rattle.core_meaning.specs.Program.{PlainConstantPart}
use Rattle.core_meaning.specs.Plain.{plain_constant_part}
use Rattle.core_meaning.specs.declared.program.ConstantPart.{ConstantPart}
use Rattle.core_meaning.specs.Values.{Path, Scalar}
use Rattle.core_meaning.specs.Checking.{Checked, ◌>>=◌, give, or_broken}
use Rattle.core_meaning.specs.Entities.{Scope}
use Rattle.core_meaning.specs.Constancy.{Initial, initial, first_scalar}
use Rattle.core_meaning.specs.UnitNames.{UnitState, Storage, constant_parts, with_defined, object_body, defined_object}
use Rattle.plain_scope.specs.Judgements.{Gives, RefusedAs}
use Rattle.plain_scope.specs.JudgementLaws.{refused_first}
use Rattle.plain_scope.specs.declared.errors.ElabError.{ElabError}
use Rattle.plain_declarators.specs.Sequences.{gives_of, refused_of, gives_as}
use Rattle.plain_declarations.specs.declared.initialisers.Initial as code
use Rattle.plain_declarations.specs.PlainDeclared.{plain_initial}
use Rattle.plain_structs.specs.Binding.{bind_assoc}
use Rattle.plain_objects.specs.FirstScalars.{initial_same}

abbrev pub part_at : Path → Scalar → PlainConstantPart
part_at path value = record { path = path; value = value }

abbrev pub constant_part_of : ℕ → Initial → Option PlainConstantPart
constant_part_of globals i = option_map (λ v. part_at i.path v) (first_scalar globals i.value)

-- ---- the values of parts

abbrev joined_part : Option PlainConstantPart → Option (List PlainConstantPart) → Option (List PlainConstantPart)
joined_part None others = None
joined_part (Some p) others = option_map (λ l. p ∷ l) others

by_scalar : (path : Path) (value : Option Scalar) (others : Option (List PlainConstantPart)) → elim value as (λ x. Option (List PlainConstantPart)) [ None ↦ None | Some v ↦ option_map (λ l. record { path = path; value = v } ∷ l) others ] ≡ joined_part (option_map (λ v. part_at path v) value) others
by_scalar path None others = refl
by_scalar path (Some v) others = refl

first_part : (g : ℕ) (i : Initial) (rest : List Initial) → constant_parts g (i ∷ rest) ≡ joined_part (constant_part_of g i) (constant_parts g rest)
first_part g i rest = by_scalar i.path (first_scalar g i.value) (constant_parts g rest)

abbrev at_end : List PlainConstantPart → Option (List PlainConstantPart) → Option (List PlainConstantPart)
at_end last parts = option_map (λ l. l ++ last) parts

last_behind : (last : List PlainConstantPart) (p : Option PlainConstantPart) (others : Option (List PlainConstantPart)) → joined_part p (at_end last others) ≡ at_end last (joined_part p others)
last_behind last None others = refl
last_behind last (Some p) None = refl
last_behind last (Some p) (Some others) = refl

last_part : (g : ℕ) (before : List Initial) (i : Initial) (p : PlainConstantPart) → constant_part_of g i ≡ Some p → constant_parts g (before ++ i ∷ []) ≡ at_end (p ∷ []) (constant_parts g before)
last_part g [] i p is = first_part g i [] ∙ ap (λ x. joined_part x (Some [])) is
last_part g (x ∷ before) i p is = first_part g x (before ++ i ∷ []) ∙ ap (joined_part (constant_part_of g x)) (last_part g before i p is) ∙ last_behind (p ∷ []) (constant_part_of g x) (constant_parts g before) ∙ ap (at_end (p ∷ [])) (sym (first_part g x before))

pub parts_pushed : (g : ℕ) (before : List code.Initial) (x : code.Initial) (parts : List ConstantPart) (p : ConstantPart) → constant_parts g (map plain_initial before) ≡ Some (map (plain_constant_part g) parts) → constant_part_of g (plain_initial x) ≡ Some (plain_constant_part g p) → constant_parts g (map plain_initial (before ++ x ∷ [])) ≡ Some (map (plain_constant_part g) (parts ++ p ∷ []))
parts_pushed g before x parts p so is =
    ap (constant_parts g) (map-append plain_initial before (x ∷ []))
    ∙ last_part g (map plain_initial before) (plain_initial x) (plain_constant_part g p) is
    ∙ ap (at_end (plain_constant_part g p ∷ [])) so
    ∙ ap (λ (l : List PlainConstantPart). Some l) (sym (map-append (plain_constant_part g) parts (p ∷ [])))

-- ---- initialisers

-- the parts of an initialiser of an object of file scope
abbrev pub parts_given : ℕ → Scope → PlainType → PlainToken → PlainTree → Checked (List PlainConstantPart)
parts_given globals scope ty name initialiser = do
  parts ← initial scope (Some globals) ty [] initialiser name
  or_broken (constant_parts globals parts)

pub parts_give : (g : ℕ) (scope : Scope) (ty : PlainType) (name : PlainToken) (tree : PlainTree) (found : List Initial) (parts : List PlainConstantPart) (before after : List ℕ → Bool) → Gives (initial scope (Some 0) ty [] tree name) found before after → constant_parts g found ≡ Some parts → Gives (parts_given g scope ty name tree) parts before after
parts_give g scope ty name tree found parts before after gives is =
    gives_as (initial scope (Some g) ty [] tree name) (λ f. or_broken (constant_parts g f)) found parts before after
    (gives_of (initial scope (Some g) ty [] tree name) (initial scope (Some 0) ty [] tree name) found before after (initial_same scope g 0 ty [] tree name) gives)
    (ap (λ (x : Option (List PlainConstantPart)). or_broken x) is)

pub parts_refused : (g : ℕ) (scope : Scope) (ty : PlainType) (name : PlainToken) (tree : PlainTree) (error : ElabError) → RefusedAs (initial scope (Some 0) ty [] tree name) error → RefusedAs (parts_given g scope ty name tree) error
parts_refused g scope ty name tree error r =
    refused_first (initial scope (Some g) ty [] tree name) (λ f. or_broken (constant_parts g f)) error
    (refused_of (initial scope (Some g) ty [] tree name) (initial scope (Some 0) ty [] tree name) error (initial_same scope g 0 ty [] tree name) r)

defined_by_parts : (g : ℕ) (unit : UnitState) (storage : Storage) (ty : PlainType) (name : PlainToken) (tree : PlainTree) → defined_object g unit storage ty name (Some tree) ≡ (parts_given g unit.scope ty name tree >>= (λ values. give (with_defined unit name.text (object_body values))))
defined_by_parts g unit storage ty name tree = sym (bind_assoc (initial unit.scope (Some g) ty [] tree name) (λ f. or_broken (constant_parts g f)) (λ values. give (with_defined unit name.text (object_body values))))

pub object_gives : (g : ℕ) (unit : UnitState) (storage : Storage) (ty : PlainType) (name : PlainToken) (tree : PlainTree) (parts : List PlainConstantPart) (x : UnitState) (before after : List ℕ → Bool) → Gives (parts_given g unit.scope ty name tree) parts before after → x ≡ with_defined unit name.text (object_body parts) → Gives (defined_object g unit storage ty name (Some tree)) x before after
object_gives g unit storage ty name tree parts x before after gives is =
    gives_of (defined_object g unit storage ty name (Some tree)) (parts_given g unit.scope ty name tree >>= (λ values. give (with_defined unit name.text (object_body values)))) x before after (defined_by_parts g unit storage ty name tree)
    (gives_as (parts_given g unit.scope ty name tree) (λ values. give (with_defined unit name.text (object_body values))) parts x before after gives (ap (λ u. give u) (sym is)))

pub object_refused : (g : ℕ) (unit : UnitState) (storage : Storage) (ty : PlainType) (name : PlainToken) (tree : PlainTree) (error : ElabError) → RefusedAs (parts_given g unit.scope ty name tree) error → RefusedAs (defined_object g unit storage ty name (Some tree)) error
object_refused g unit storage ty name tree error r =
    refused_of (defined_object g unit storage ty name (Some tree)) (parts_given g unit.scope ty name tree >>= (λ values. give (with_defined unit name.text (object_body values)))) error (defined_by_parts g unit storage ty name tree)
    (refused_first (parts_given g unit.scope ty name tree) (λ values. give (with_defined unit name.text (object_body values))) error r)
