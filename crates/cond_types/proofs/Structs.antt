-- What is known behind the definition of a struct is what is known of the unit.
use Rattle.std.proofs.Common.{◌≡◌, ℕ, Bool, true, not, [], refl, sym, ap, ◌∙◌, subst}
use Rattle.c_tree.specs.declared.kinds.Kind.TheVariants as k
use Rattle.c_tree.specs.Trees.{PlainTrees, node, none, more}
use Rattle.core_meaning.specs.declared.refusals.TypeKind.TheVariants.{Redeclared}
use Rattle.core_meaning.specs.Checking.{Checked, fine, refused, broken, ◌>>=◌, unless_so, or_broken}
use Rattle.core_meaning.specs.Entities.{no_entry, Scope}
use Rattle.core_meaning.specs.Declarations.{name_in, Based, based}
use Rattle.core_meaning.specs.UnitNames.{Members, AllMembers, UnitState, members_from, all_members, is_defined_tag, number_of_struct, defined_struct}
use Rattle.type_tables.specs.Numbers.{NumbersKept}
use Rattle.cond_declarators.proofs.There.{Whole}
use Rattle.cond_structs.specs.Standing.{DefinesStruct}
use Rattle.cond_units.specs.Seen.{SeenUnit}
use Rattle.type_tables.specs.Definitions.{plain_definitions}
use Rattle.cond_units.specs.Declaring.{IsUnit}
use Rattle.cond_units.specs.Items.{ItemGoesOn}
use Rattle.cond_units.proofs.Growing.{whole_then, whole_behind}
use Rattle.cond_units.proofs.Declaring.{blocks_kept}

module _ (outer : Scope) where
  abbrev Keeps : Scope → Type 0
  Keeps scope = scope.blocks ≡ outer.blocks

  words_keep : (scope : Scope) (words : PlainTrees) → Keeps scope → Whole (λ (b : Based). Keeps b.scope) (based true scope words)
  words_keep scope words h = by (based true scope words) refl
    where
      by : (c : Checked Based) → based true scope words ≡ c → Whole (λ (b : Based). Keeps b.scope) c
      by (fine b bindings) e = blocks_kept scope b bindings (node k.Specifiers words) e ∙ h
      by (refused kind token) e = tt
      by broken e = tt

  members_keep : (scope : Scope) (number : ℕ) (known : Members) (list : PlainTrees) → Keeps scope → Whole (λ (a : AllMembers). Keeps a.scope) (all_members scope number known list)
  members_keep scope number known none h = h
  members_keep scope number known (more (node kind (more (node words_kind words) (more (node list_kind declarators) (more end none)))) rest) h =
      whole_then (λ (b : Based). Keeps b.scope) (λ (a : AllMembers). Keeps a.scope) (based true scope words) _ (words_keep scope words h)
      (λ base kept. whole_behind (λ (a : AllMembers). Keeps a.scope) (members_from base.scope number known base.ty declarators) _ (λ first. members_keep base.scope number first rest kept))
  members_keep scope number known (more tree rest) h = tt

-- no block is open where none was, and nothing further has been defined
record IsSame (unit next : UnitState) : Type 0 where
  blocks : next.scope.blocks ≡ unit.scope.blocks
  defined : next.defined ≡ unit.defined

struct_keeps : (unit : UnitState) (words members : PlainTrees) → Whole (IsSame unit) (defined_struct unit words members)
struct_keeps unit words members =
    whole_behind (IsSame unit) (or_broken (name_in words)) _
    (λ tag. whole_behind (IsSame unit) (unless_so (not (is_defined_tag unit.scope (unit.scope.tags tag.text))) Redeclared tag) _
    (λ new. whole_then (λ (b : Based). Keeps unit.scope b.scope) (IsSame unit) (based true unit.scope words) _ (words_keep unit.scope unit.scope words refl)
    (λ base kept. whole_then (λ (a : AllMembers). Keeps unit.scope a.scope) (IsSame unit) (all_members base.scope (number_of_struct base.ty) (record { members = []; numbers = no_entry; scalars = 0 }) members) _
    (members_keep unit.scope base.scope (number_of_struct base.ty) (record { members = []; numbers = no_entry; scalars = 0 }) members kept)
    (λ all same. record { blocks = same; defined = refl }))))

pub struct_goes_on :
    (old new : SeenUnit) (by : ℕ → ℕ) (unit : UnitState) (is : IsUnit by old unit) → new.defined ≡ old.defined → (words members : PlainTrees) (f : Bool)
    → DefinesStruct unit.scope.structs is.tables.follows.by new.tables f (defined_struct unit words members) → ItemGoesOn by unit.scope.structs (defined_struct unit words members) f new
struct_goes_on old new by unit is same words members f h = one (defined_struct unit words members) (struct_keeps unit words members) h
  where
    one : (c : Checked UnitState) → Whole (IsSame unit) c → DefinesStruct unit.scope.structs is.tables.follows.by new.tables f c → ItemGoesOn by unit.scope.structs c f new
    one (fine next bindings) keeps d = (
      d.accepted,
      record {
        numbers = d.follows.by;
        is_unit = record { tables = record { follows = d.follows; numbers = refl }; defined = same ∙ (is.defined ∙ ap plain_definitions (sym keeps.defined)); outside = keeps.blocks ∙ is.outside };
        kept = subst (λ (n : ℕ → ℕ). NumbersKept unit.scope.structs n d.follows.by) is.tables.numbers d.kept;
      },
    )
    one (refused kind token) keeps d = d
    one broken keeps d = d
