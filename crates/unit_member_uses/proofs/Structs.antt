-- Structs and their members use no members.
use Rattle.std.proofs.Common.{◌≡◌, ℕ, Bool, true, not, List, [], ◌∷◌, ◌++◌, refl, sym, ap, ap₂, subst, ◌∙◌, length, append-nil}
use Rattle.std.specs.Prelude.{None, is_some}
use Rattle.std.proofs.lemmas.Bool.{false≢true}
use Rattle.c_text.specs.Token.{PlainToken}
use Rattle.c_types.specs.Types.{PlainType}
use Rattle.c_tree.specs.declared.kinds.Kind.{Kind}
use Rattle.c_tree.specs.declared.kinds.Kind.TheVariants as k
use Rattle.c_tree.specs.declared.terminals.Terminal.TheVariants as t
use Rattle.c_tree.specs.Trees.{PlainTree, PlainTrees, leaf, node, none, more}
use Rattle.c_tree.specs.Grammar as grammar
use Rattle.c_tree.specs.Grammar.{declarator, declarators, specifiers, member, member_of}
use Rattle.tree_derivations.specs.Derivations.{Derivation, single, made_of, Shaped, a_row, a_part, a_word, at_end, Each, no_more, one_more, Declared, last_plain, last_initialised, next_plain, next_initialised, IsWord}
use Rattle.core_meaning.specs.declared.refusals.TypeKind.TheVariants.{Redeclared, Incomplete}
use Rattle.core_meaning.specs.Checking.{member_entity, Checked, ◌>>=◌, give, unless_so, or_broken, declares}
use Rattle.core_meaning.specs.Entities.{no_entry, Scope}
use Rattle.core_meaning.specs.Typing.{is_complete}
use Rattle.core_meaning.specs.Declarations.{name_in, Based, based, object_type}
use Rattle.core_meaning.specs.UnitNames.{UnitState, with_scope, Members, with_member, declared_member, one_member, members_from, AllMembers, all_members, with_members_at, is_defined_tag, number_of_struct, defined_struct}
use Rattle.bindings.proofs.Spellings.{Holds, AllHold, no_name}
use Rattle.entity_numbers.proofs.Uses as bound
use Rattle.operand_types.specs.Laws.{TypesAreKept}
use Rattle.expression_types.specs.Laws.{ExpressionsHaveTypes}
use Rattle.selections.specs.Laws.{HasNames}
use Rattle.selections.proofs.Expressions.{Nothing}
use Rattle.cond_sizes.specs.Laws.{CountsNeedNoNames}
use Rattle.member_uses.specs.Uses.{Use, names_in, names_among}
use Rattle.member_uses.proofs.Parts.{Part, names_of_node, word_names, alone, quiet_then, none_then, then_quiet, then_give, part_then}
use Rattle.member_uses.proofs.Words.{Words}
use Rattle.member_uses.proofs.Declarators.{ObjectForm, ObjectTree, object_tree}
use Rattle.member_uses.proofs.Locals.{words_of, list_of, IsBase, based_part}
use Rattle.unit_member_uses.proofs.Parameters.{Unused}

module _ (by : ℕ → ℕ) (kept : TypesAreKept) (typed : ExpressionsHaveTypes) (sizes : CountsNeedNoNames) where
  abbrev Without : {A : Type 0} → Checked A → List PlainToken → Type 0
  Without m names = Unused by kept typed sizes m names

  -- ---- members

  declared_unused : (scope : Scope) → HasNames scope → (number : ℕ) (known : Members) (ty : PlainType) (kind : Kind) (parts : PlainTrees) (o : ObjectForm by kept typed sizes kind parts) → AllHold parts
      → Without (declared_member scope number known ty kind parts o.form.name) (o.form.name ∷ names_among o.form.rest)
  declared_unused scope names number known ty kind parts o holds =
      let name : PlainToken = o.form.name in
      let last : PlainType → Checked Members = λ whole. unless_so (is_complete scope.structs whole) Incomplete name >>= (λ complete. give (with_member scope.structs known name.text whole)) in
      quiet_then by (λ x u. u ≡ []) (name ∷ names_among o.form.rest) (unless_so (not (is_some (known.numbers name.text))) Redeclared name)
      (λ new. declares (member_entity number (length known.members)) >>= (λ declared_. object_type scope ty kind parts name None >>= last)) (bound.unless_binds Nothing (not (is_some (known.numbers name.text))) Redeclared name)
      (λ new. none_then by (λ x u. u ≡ []) (name ∷ []) (names_among o.form.rest) (declares (member_entity number (length known.members))) (λ declared_. object_type scope ty kind parts name None >>= last) (tt, refl)
      (λ declared_. then_quiet by (λ u. u ≡ []) (names_among o.form.rest) (object_type scope ty kind parts name None) last (o.typed_so scope names ty name None (o.form.holds holds))
      (λ whole. bound.unless_then Nothing (is_complete scope.structs whole) Incomplete name _ (λ x. record { all = tt }))))

  one_unused : (scope : Scope) → HasNames scope → (number : ℕ) (known : Members) (ty : PlainType) {tree : PlainTree} → Derivation (declarator member_of) tree → Holds tree → Without (one_member scope number known ty tree) (names_in tree)
  one_unused scope names number known ty {tree = tree} d holds =
      let o : ObjectTree by kept typed sizes tree = object_tree by kept typed sizes d refl in
      let f = o.object.form in
      subst (λ x. Without (one_member scope number known ty x) (names_in x)) (sym o.is)
      (subst (λ x. Without (or_broken x >>= (λ name. declared_member scope number known ty o.kind o.parts name)) (names_in (node o.kind o.parts))) (sym f.name_is)
      (subst (Without (give f.name >>= (λ name. declared_member scope number known ty o.kind o.parts name))) (sym (names_of_node o.kind o.parts ∙ f.names))
      (alone by (λ x u. u ≡ []) (f.name ∷ names_among f.rest) (declared_member scope number known ty o.kind o.parts f.name) (declared_unused scope names number known ty o.kind o.parts o.object (o.holds holds)))))

  list_unused : {parts : PlainTrees} → Declared member_of parts → AllHold parts → (scope : Scope) → HasNames scope → (number : ℕ) (known : Members) (ty : PlainType) → Without (members_from scope number known ty parts) (names_among parts)
  list_unused (last_plain {tree = tree} d) holds scope names number known ty =
      subst (Without (members_from scope number known ty (more tree none))) (sym (append-nil (names_in tree))) (one_unused scope names number known ty d holds.0)
  list_unused (last_initialised m d w v) holds scope names number known ty = absurd (false≢true m)
  list_unused (next_plain {tree = tree} {comma = comma} {rest = rest} d w s) holds scope names number known ty =
      subst (Without (members_from scope number known ty (more tree (more (leaf comma) rest)))) (sym (ap (λ l. names_in tree ++ l) (word_names comma rest (no_name (t.Comma ∷ []) comma refl w))))
      (none_then by (λ x u. u ≡ []) (names_in tree) (names_among rest) (one_member scope number known ty tree) (λ first. members_from scope number first ty rest) (one_unused scope names number known ty d holds.0)
      (λ first. list_unused s holds.1.1 scope names number first ty))
  list_unused (next_initialised m d w v c s) holds scope names number known ty = absurd (false≢true m)

  -- ---- all members of a struct

  abbrev AreMembers : AllMembers → List Use → Type 0
  AreMembers all u = HasNames all.scope × (u ≡ [])

  -- a type by its words, and what comes then
  pub based_then : {B : Type 0} (S : B → List Use → Type 0) (declaring : Bool) (scope : Scope) → HasNames scope → (words : PlainTrees) → Words words → (others : List PlainToken) (next : Based → Checked B)
      → ((base : Based) → HasNames base.scope → Part by S (next base) others) → Part by S (based declaring scope words >>= next) (names_among words ++ others)
  based_then S declaring scope names words w others next h =
      part_then by (IsBase by) S (names_among words) others (based declaring scope words) next (based_part by declaring scope names words w)
      (λ base u q. subst (λ l. Part by (λ y v. S y (l ++ v)) (next base) others) (sym q.1) (h base q.0))

  member_first : {words list : PlainTree} {last : PlainToken} (rest : PlainTrees) → Derivation specifiers words → Derivation (declarators member_of) list → IsWord (t.Semicolon ∷ []) last → AllHold (more words (more list (more (leaf last) none)))
      → ((scope : Scope) → HasNames scope → (number : ℕ) (known : Members) → Part by AreMembers (all_members scope number known rest) (names_among rest))
      → (scope : Scope) → HasNames scope → (number : ℕ) (known : Members)
      → Part by AreMembers (all_members scope number known (more (node k.Member (more words (more list (more (leaf last) none)))) rest)) (names_among (more (node k.Member (more words (more list (more (leaf last) none)))) rest))
  member_first rest (single is) e y holds others scope names number known = absurd cc
  member_first rest (made_of k.Specifiers b a s) (single is) y holds others scope names number known = absurd cc
  member_first {last = last} rest (made_of k.Specifiers {parts = words} b a s) (made_of k.Declarators {parts = list} c f r) y holds others scope names number known =
      let w : Words words = words_of (made_of {category = specifiers} k.Specifiers b a s) in
      let d : Declared member_of list = list_of (made_of {category = declarators member_of} k.Declarators c f r) in
      let parts : PlainTrees = more (node k.Specifiers words) (more (node k.Declarators list) (more (leaf last) none)) in
      let next : Based → Checked AllMembers = λ base. members_from base.scope number known base.ty list >>= (λ first. all_members base.scope number first rest) in
      subst (Part by AreMembers (all_members scope number known (more (node k.Member parts) rest)))
      (sym (ap (λ l. l ++ names_among rest) (names_of_node k.Member parts ∙ ap₂ (λ a b. a ++ b) (names_of_node k.Specifiers words)
      (ap₂ (λ a b. a ++ b) (names_of_node k.Declarators list) (word_names last none (no_name (t.Semicolon ∷ []) last refl y)) ∙ append-nil (names_among list)))
      ∙ Rattle.std.proofs.Common.append_assoc (names_among words) (names_among list) (names_among rest)))
      (based_then AreMembers true scope names words w (names_among list ++ names_among rest) next
      (λ base named. none_then by AreMembers (names_among list) (names_among rest) (members_from base.scope number known base.ty list) (λ first. all_members base.scope number first rest)
      (list_unused d holds.1.0 base.scope named number known base.ty) (λ first. others base.scope named number first)))
  member_first rest (made_of k.Specifiers b a s) (made_of _ c f r) y holds others scope names number known = absurd cc
  member_first rest (made_of _ b a s) e y holds others scope names number known = absurd cc

  in_member : {parts : PlainTrees} (rest : PlainTrees) → Shaped (grammar.in_row (grammar.row k.Member)) parts → AllHold parts
      → ((scope : Scope) → HasNames scope → (number : ℕ) (known : Members) → Part by AreMembers (all_members scope number known rest) (names_among rest))
      → (scope : Scope) → HasNames scope → (number : ℕ) (known : Members) → Part by AreMembers (all_members scope number known (more (node k.Member parts) rest)) (names_among (more (node k.Member parts) rest))
  in_member rest (a_row (a_part w (a_part d (a_word y at_end)))) holds others = member_first rest w d y holds others

  pub members_part : {parts : PlainTrees} → Each member parts → AllHold parts → (scope : Scope) → HasNames scope → (number : ℕ) (known : Members) → Part by AreMembers (all_members scope number known parts) (names_among parts)
  members_part no_more holds scope names number known = (tt, (names, refl))
  members_part (one_more (single is) others) holds scope names number known = absurd cc
  members_part (one_more {rest = rest} (made_of k.Member b a s) others) holds scope names number known = in_member rest s holds.0 (members_part others holds.1) scope names number known
  members_part (one_more (made_of _ b a s) others) holds scope names number known = absurd cc

  abbrev pub IsStruct : UnitState → List Use → Type 0
  IsStruct next u = HasNames next.scope × (u ≡ [])

  pub struct_part : (unit : UnitState) → HasNames unit.scope → (words parts : PlainTrees) → Words words → Each member parts → AllHold parts → Part by IsStruct (defined_struct unit words parts) (names_among words ++ names_among parts)
  struct_part unit names words parts w each holds =
      let finish : Based → Checked UnitState = λ base.
      all_members base.scope (number_of_struct base.ty) (record { members = []; numbers = no_entry; scalars = 0 }) parts
      >>= (λ all. give (with_scope unit (record all.scope { structs = with_members_at (number_of_struct base.ty) all.known all.scope.structs }))) in
      quiet_then by IsStruct (names_among words ++ names_among parts) (or_broken (name_in words))
      (λ tag. unless_so (not (is_defined_tag unit.scope (unit.scope.tags tag.text))) Redeclared tag >>= (λ new. based true unit.scope words >>= finish)) (bound.some_binds Nothing (name_in words))
      (λ tag. quiet_then by IsStruct (names_among words ++ names_among parts) (unless_so (not (is_defined_tag unit.scope (unit.scope.tags tag.text))) Redeclared tag) (λ new. based true unit.scope words >>= finish)
      (bound.unless_binds Nothing (not (is_defined_tag unit.scope (unit.scope.tags tag.text))) Redeclared tag)
      (λ new. based_then IsStruct true unit.scope names words w (names_among parts) finish
      (λ base named. then_give by AreMembers IsStruct (names_among parts) (all_members base.scope (number_of_struct base.ty) (record { members = []; numbers = no_entry; scalars = 0 }) parts)
      (λ all. with_scope unit (record all.scope { structs = with_members_at (number_of_struct base.ty) all.known all.scope.structs }))
      (members_part each holds base.scope named (number_of_struct base.ty) (record { members = []; numbers = no_entry; scalars = 0 })) (λ all u q. q))))
