-- The members of a list of declarators.
use Rattle.std.proofs.Common.{◌≡◌, ℕ, Bool, true, false, List, [], ◌∷◌, refl, sym, ap, ◌∙◌, subst}
use Rattle.std.specs.Prelude.{if◌then◌else◌}
use Rattle.c_tree.specs.declared.kinds.Kind.{Kind}
use Rattle.c_tree.specs.declared.kinds.Kind.TheVariants as kinds
use Rattle.c_tree.specs.Trees.{PlainTrees, node}
use Rattle.c_tree.specs.Grammar.{member_of, declarators}
use Rattle.tree_derivations.specs.Derivations.{Derivation}
use Rattle.tree_derivations.specs.Derivations as derived
use Rattle.bindings.proofs.Locals.{declarators_are}
use Rattle.choice_expansions.specs.Steps.{after_each}
use Rattle.core_meaning.specs.Entities.{Struct}
use Rattle.core_meaning.specs.UnitNames.{Members}
use Rattle.declarator_lists.specs.Lists.{Declared, declared_in, trees_of}
use Rattle.declaration_readings.specs.Readings.{Going, after, goes_on, goes_through, IsSame, next_member}
use Rattle.declaration_readings.specs.Laws.{MembersAreRead}
use Rattle.cond_structs.specs.Gathered.{Gathered}
use Rattle.cond_structs.specs.Standing.{Gathers, GathersSoFar}
use Rattle.cond_structs.specs.Walks.{members_in}
use Rattle.cond_structs.specs.Declaring.{Declaring, next_declarator}

pub same_gathers : (by : ℕ → ℕ) (structs : List Struct) (g : Gathered) (r k : Going Members) → IsSame r k → GathersSoFar by structs g r → GathersSoFar by structs g k
same_gathers by structs g r k same s = record {
  refused = s.refused ∙ same.refused;
  gathers = λ h. subst (Gathers by structs g) (same.state h) (s.gathers (same.refused ∙ h));
}

abbrev with_known : Declaring → Going Members → Declaring
with_known m known = record { scope = m.scope; number = m.number; ty = m.ty; by = m.by; here = m.here; known = known }

merged : {A : Type 0} (h : Bool) (f : A → A) (x y : A) → (if h then f (if h then x else y) else (if h then x else y)) ≡ (if h then f x else y)
merged true f x y = refl
merged false f x y = refl

either_way : {A : Type 0} (h : Bool) (x : A) → x ≡ (if h then x else x)
either_way true x = refl
either_way false x = refl

-- the declarators change nothing but the members
all_steps : (m : Declaring) (ds : List Declared) → after_each next_declarator m ds ≡ with_known m (if m.here then after_each (goes_on (next_member m.scope m.number m.ty)) m.known ds else m.known)
all_steps m [] = ap (with_known m) (either_way m.here m.known)
all_steps m (d ∷ ds) =
    all_steps (next_declarator m d) ds
    ∙ ap (with_known m) (merged m.here (λ k. after_each (goes_on (next_member m.scope m.number m.ty)) k ds) (after m.known (next_member m.scope m.number m.ty m.known.state d)) m.known)

list_derived : (kind : Kind) (parts : PlainTrees) → Derivation (declarators member_of) (node kind parts) → (kinds.Declarators ≡ kind) × derived.Declared member_of parts
list_derived kind parts d =
    let ds = declarators_are d in
    (sym (kind_same kind kinds.Declarators parts ds.parts ds.is), subst (derived.Declared member_of) (sym (parts_same kind kinds.Declarators parts ds.parts ds.is)) ds.declared)
  where
    kind_same : (a b : Kind) (p q : PlainTrees) → node a p ≡ node b q → a ≡ b
    kind_same a b p q e = cc

    parts_same : (a b : Kind) (p q : PlainTrees) → node a p ≡ node b q → p ≡ q
    parts_same a b p q e = cc

pub list_gathers : MembersAreRead → (m : Declaring) (kind : Kind) (parts : Kind → PlainTrees) (g : Gathered)
    → GathersSoFar (after_each next_declarator m (declared_in (trees_of (parts kinds.Declarators)))).by (after_each next_declarator m (declared_in (trees_of (parts kinds.Declarators)))).scope.structs g
    (after_each next_declarator m (declared_in (trees_of (parts kinds.Declarators)))).known
    → (m.here ≡ true → Derivation (declarators member_of) (node kind (parts kind)))
    → GathersSoFar m.by m.scope.structs g (if m.here then after m.known (members_in m.scope m.number m.known.state m.ty (node kind (parts kind))) else m.known)
list_gathers law m kind parts g reached derived_ = by m.here refl
  where
    done : GathersSoFar m.by m.scope.structs g (if m.here then after_each (goes_on (next_member m.scope m.number m.ty)) m.known (declared_in (trees_of (parts kinds.Declarators))) else m.known)
    done = subst (λ (n : Declaring). GathersSoFar n.by n.scope.structs g n.known) (all_steps m (declared_in (trees_of (parts kinds.Declarators)))) reached

    by : (h : Bool) → m.here ≡ h → GathersSoFar m.by m.scope.structs g (if m.here then after m.known (members_in m.scope m.number m.known.state m.ty (node kind (parts kind))) else m.known)
    by false e =
        subst (λ h. GathersSoFar m.by m.scope.structs g (if h then after m.known (members_in m.scope m.number m.known.state m.ty (node kind (parts kind))) else m.known)) (sym e)
        (subst (λ h. GathersSoFar m.by m.scope.structs g (if h then after_each (goes_on (next_member m.scope m.number m.ty)) m.known (declared_in (trees_of (parts kinds.Declarators))) else m.known)) e done)
    by true e =
        let d = list_derived kind (parts kind) (derived_ e) in
        subst (λ h. GathersSoFar m.by m.scope.structs g (if h then after m.known (members_in m.scope m.number m.known.state m.ty (node kind (parts kind))) else m.known)) (sym e)
        (same_gathers m.by m.scope.structs g (goes_through (next_member m.scope m.number m.ty) m.known (parts kind)) _ (law m.scope m.number m.ty m.known (parts kind) d.1)
        (subst (λ (k : Kind). GathersSoFar m.by m.scope.structs g (goes_through (next_member m.scope m.number m.ty) m.known (parts k))) d.0
        (subst (λ h. GathersSoFar m.by m.scope.structs g (if h then after_each (goes_on (next_member m.scope m.number m.ty)) m.known (declared_in (trees_of (parts kinds.Declarators))) else m.known)) e done)))
