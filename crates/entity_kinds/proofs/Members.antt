-- Members of structs that are tied are declared at the same places.
use Rattle.std.proofs.Common.{◌≡◌, ℕ, true, []}
use Rattle.std.specs.Prelude.{None, is_some, length, not}
use Rattle.c_text.specs.Token.{PlainToken}
use Rattle.c_types.specs.Types.{PlainType}
use Rattle.c_tree.specs.declared.kinds.Kind.{Kind}
use Rattle.c_tree.specs.declared.terminals.Terminal.TheVariants as t
use Rattle.c_tree.specs.Trees.{PlainTree, PlainTrees}
use Rattle.core_meaning.specs.declared.refusals.TypeKind.TheVariants.{Redeclared, Incomplete}
use Rattle.core_meaning.specs.Checking.{member_entity, ◌>>=◌, give, unless_so}
use Rattle.core_meaning.specs.Entities.{no_entry, Scope}
use Rattle.core_meaning.specs.Typing.{is_complete}
use Rattle.core_meaning.specs.Expressions.{has_terminal}
use Rattle.core_meaning.specs.Declarations.{Based, based, name_in, object_type}
use Rattle.core_meaning.specs.UnitNames.{UnitState, Members, with_member, declared_member, one_member, members_from, all_members, with_members_at, is_defined_tag, number_of_struct, with_scope, defined_struct, count_functions}
use Rattle.renamed_programs.specs.Trees.{SameButNames, AllSameButNames, same_leaf, same_node, same_end, same_more}
use Rattle.entity_numbers.specs.Kinds.{Ties, AreTied}
use Rattle.bound_slots.specs.Laws.{SizesBindNothing}
use Rattle.entity_kinds.proofs.Pairs.{Anything, Alike, alike_then, any_then, alike_give, left_broken, quiet_then, unless_then, some_then, declares_then}
use Rattle.entity_kinds.proofs.Declarators.{NameStructs, words_alike, object_quiet}

-- as many functions are defined
abbrev pub AsManyFunctions : Ties → UnitState → UnitState → Type 0
AsManyFunctions ties x y = count_functions x.defined ≡ count_functions y.defined

module _ (counts : SizesBindNothing) (m n : ℕ) where
  member_alike :
      (ties : Ties) (s u : Scope) (known others_known : Members) (ty other : PlainType) (kind : Kind) (parts others : PlainTrees) (a b : PlainToken) → AreTied m n ties
      → Alike ties Anything (declared_member s m known ty kind parts a) (declared_member u n others_known other kind others b)
  member_alike ties s u known others_known ty other kind parts others a b h =
      unless_then Anything ties (not (is_some (known.numbers a.text))) (not (is_some (others_known.numbers b.text))) Redeclared Redeclared a b _ _
      (λ x y. declares_then Anything ties (member_entity m (length known.members)) (member_entity n (length others_known.members))
      (λ bound. object_type s ty kind parts a None >>= (λ whole. unless_so (is_complete s.structs whole) Incomplete a >>= (λ complete. give (with_member s.structs known a.text whole))))
      (λ bound. object_type u other kind others b None >>= (λ whole. unless_so (is_complete u.structs whole) Incomplete b >>= (λ complete. give (with_member u.structs others_known b.text whole)))) h
      (λ x1 y1. quiet_then Anything ties (object_type s ty kind parts a None) (object_type u other kind others b None) _ _
      (object_quiet counts s ty kind parts a None) (object_quiet counts u other kind others b None)
      (λ v w. unless_then Anything ties (is_complete s.structs v) (is_complete u.structs w) Incomplete Incomplete a b _ _ (λ x2 y2. alike_give Anything ties _ _ tt))))

  one_alike :
      {tree other : PlainTree} (ties : Ties) (s u : Scope) (known others_known : Members) (ty kind : PlainType) → SameButNames tree other → AreTied m n ties
      → Alike ties Anything (one_member s m known ty tree) (one_member u n others_known kind other)
  one_alike ties s u known others_known ty kind (same_node {kind = inner} {parts = parts} {others = others} e) h =
      some_then Anything ties (name_in parts) (name_in others) _ _ (λ a b. member_alike ties s u known others_known ty kind inner parts others a b h)
  one_alike ties s u known others_known ty kind (same_leaf e) h = left_broken Anything ties _

  from_alike :
      {parts others : PlainTrees} (ties : Ties) (s u : Scope) (known others_known : Members) (ty kind : PlainType) → AllSameButNames parts others → AreTied m n ties
      → Alike ties Anything (members_from s m known ty parts) (members_from u n others_known kind others)
  from_alike ties s u known others_known ty kind same_end h = left_broken Anything ties _
  from_alike ties s u known others_known ty kind (same_more e same_end) h = one_alike ties s u known others_known ty kind e h
  from_alike ties s u known others_known ty kind (same_more {tree = tree} {other = other} e (same_more {rest = rest} {others = others} x l)) h =
      any_then Anything ties (one_member s m known ty tree) (one_member u n others_known kind other) _ _ (one_alike ties s u known others_known ty kind e h)
      (λ more_ grows v w. from_alike more_ s u v w ty kind l (grows m n h))

  all_alike :
      {parts others : PlainTrees} (ties : Ties) (s u : Scope) (known others_known : Members) → AllSameButNames parts others → AreTied m n ties
      → Alike ties Anything (all_members s m known parts) (all_members u n others_known others)
  all_alike ties s u known others_known same_end h = alike_give Anything ties _ _ tt
  all_alike ties s u known others_known
      (same_more {rest = rest} {others = others} (same_node (same_more (same_node {parts = words} {others = terms} w) (same_more (same_node {parts = declarators} {others = further} e) (same_more x same_end)))) l) h =
      alike_then (NameStructs (has_terminal t.Struct words)) Anything ties (based true s words) (based true u terms) _ _ (words_alike true s u ties words terms w)
      (λ more_ grows p q v. any_then Anything more_ (members_from p.scope m known p.ty declarators) (members_from q.scope n others_known q.ty further) _ _ (from_alike more_ p.scope q.scope known others_known p.ty q.ty e (grows m n h))
      (λ third grows' i j. all_alike third p.scope q.scope i j l (grows' m n (grows m n h))))
  all_alike ties s u known others_known (same_more e l) h = left_broken Anything ties _

-- ---- the definition

module _ (counts : SizesBindNothing) where
  abbrev none_known : Members
  none_known = record { members = []; numbers = no_entry; scalars = 0 }

  struct_then :
      {parts others : PlainTrees} (ties : Ties) (x y : UnitState) (p q : Based) (m n : ℕ) → AsManyFunctions ties x y → AllSameButNames parts others → AreTied m n ties
      → Alike ties AsManyFunctions (all_members p.scope m none_known parts >>= (λ all. give (with_scope x (record all.scope { structs = with_members_at m all.known all.scope.structs }))))
      (all_members q.scope n none_known others >>= (λ all. give (with_scope y (record all.scope { structs = with_members_at n all.known all.scope.structs }))))
  struct_then {parts = parts} {others = others} ties x y p q m n same_ e h =
      any_then AsManyFunctions ties (all_members p.scope m none_known parts) (all_members q.scope n none_known others) _ _ (all_alike counts m n ties p.scope q.scope none_known none_known e h)
      (λ more_ grows v w. alike_give AsManyFunctions more_ _ _ same_)

  pub structs_alike :
      {words terms parts others : PlainTrees} (ties : Ties) (x y : UnitState) → has_terminal t.Struct words ≡ true → AsManyFunctions ties x y → AllSameButNames words terms → AllSameButNames parts others
      → Alike ties AsManyFunctions (defined_struct x words parts) (defined_struct y terms others)
  structs_alike {words = words} {terms = terms} ties x y has same_ w e =
      some_then AsManyFunctions ties (name_in words) (name_in terms) _ _
      (λ a b. unless_then AsManyFunctions ties (not (is_defined_tag x.scope (x.scope.tags a.text))) (not (is_defined_tag y.scope (y.scope.tags b.text))) Redeclared Redeclared a b _ _
      (λ x1 y1. alike_then (NameStructs (has_terminal t.Struct words)) AsManyFunctions ties (based true x.scope words) (based true y.scope terms) _ _ (words_alike true x.scope y.scope ties words terms w)
      (λ more_ grows p q v. struct_then more_ x y p q (number_of_struct p.ty) (number_of_struct q.ty) same_ e (v has))))
