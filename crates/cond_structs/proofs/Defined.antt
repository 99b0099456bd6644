-- What comes of the definition of a struct.
use Rattle.std.proofs.Common.{◌≡◌, ℕ, Bool, true, false, not, ◌&&◌, ◌||◌, List, [], ◌∷◌, length, map, refl, sym, ap, ap₂, ◌∙◌, subst}
use Rattle.std.specs.Prelude.{Option, Some, None, slice_get, if◌then◌else◌}
use Rattle.std.proofs.lemmas.Bool.{false≢true}
use Rattle.c_text.specs.Token.{PlainToken}
use Rattle.c_types.specs.Types.{PlainType, structure}
use Rattle.c_tree.specs.declared.kinds.Kind.TheVariants as kinds
use Rattle.c_tree.specs.declared.terminals.Terminal.TheVariants as t
use Rattle.c_tree.specs.Trees.{PlainTree, PlainTrees, node}
use Rattle.c_tree.specs.Grammar.{tag, member}
use Rattle.tree_derivations.specs.Derivations.{Derivation, single, made_of, some_words, Each}
use Rattle.bindings.proofs.Tags.{last_there}
use Rattle.bindings.proofs.Words.{tag_form}
use Rattle.choice_expansions.specs.Steps.{after_each}
use Rattle.conditional.specs.Entries.{some_holds, Carry, entries_of}
use Rattle.conditional.specs.Judgements.{Checked}
use Rattle.conditional.specs.Judgements as j
use Rattle.conditional.specs.declared.outcomes.Outcomes.{Outcomes}
use Rattle.core_meaning.specs.Checking as judging
use Rattle.core_meaning.specs.Checking.{Binding, fine, refused, broken, with_bindings, ◌>>=◌, give, unless_so, or_broken}
use Rattle.core_meaning.specs.declared.refusals.TypeKind.TheVariants.{Redeclared}
use Rattle.core_meaning.specs.Entities.{Struct, Scope, no_entry}
use Rattle.core_meaning.specs.Expressions.{has_terminal, arithmetic_words}
use Rattle.core_meaning.specs.Typing.{is_complete, is_complete_struct}
use Rattle.core_meaning.specs.Declarations.{Based, based, based_on_tag, name_in, new_struct}
use Rattle.core_meaning.specs.UnitNames.{Members, AllMembers, all_members, UnitState, with_scope, with_members_at, is_defined_struct, is_defined_tag, number_of_struct, defined_struct}
use Rattle.declarator_lists.specs.Lists.{trees_of}
use Rattle.declaration_readings.specs.Readings.{Going, after}
use Rattle.operand_types.specs.OperandTypes.{renumbered}
use Rattle.operand_rules.specs.declared.operands.Refused.{Refused}
use Rattle.operand_rules.specs.PlainOperandTypes.{reason}
use Rattle.type_tables.specs.Tables.{Tables, is_complete_type}
use Rattle.type_tables.specs.Forms.{declared_type_form}
use Rattle.type_tables.specs.Steps.{with_completed, where_true}
use Rattle.type_tables.specs.declared.entries.DeclaredType.{DeclaredType}
use Rattle.type_tables.specs.Follows.{IsThere, renumbered_member, Follows}
use Rattle.type_tables.specs.Numbers.{NumbersKept}
use Rattle.type_tables.proofs.StructLaws.{struct_completed, completed_by}
use Rattle.cond_declarators.specs.Types.{ShowsType, based_in}
use Rattle.cond_declarators.specs.DeclaredBases.{DeclaresBase}
use Rattle.cond_declarators.proofs.DeclaratorTypes.{complete_followed}
use Rattle.cond_declarators.proofs.StructsDeclared.{still_follows}
use Rattle.cond_structs.specs.Gathered.{Gathered}
use Rattle.cond_structs.specs.Standing.{Keep, StandsAt, StandsSoFar, parts_of, IsDefined, DefinesStruct}
use Rattle.cond_structs.specs.Walks.{declarations_in, declared_next}
use Rattle.cond_structs.specs.Laws.{DeclarationsAreRead}
use Rattle.cond_structs.proofs.OneMember.{after_stays}
use Rattle.cond_structs.proofs.OneDeclaration.{KeptIn, based_keeps}
use Rattle.cond_structs.proofs.Outcome.{refused_holds, fine_carries, fine_holds}

-- ---- the tag

pub record TagWords (words : PlainTree) : Type 0 where
  pub parts : PlainTrees
  pub is : words ≡ node kinds.Specifiers parts
  pub has : has_terminal t.Struct parts ≡ true
  pub name : PlainToken
  pub named : name_in parts ≡ Some name

pub tag_words : {words : PlainTree} → Derivation tag words → TagWords words
tag_words (single is) = absurd cc
tag_words (made_of kinds.Specifiers {parts = parts} b a (some_words are)) =
    let f = tag_form parts are in record { parts = parts; is = refl; has = f.has; name = f.form.tag; named = f.form.name }
tag_words (made_of _ b a s) = absurd cc

-- a tag names a struct, which is complete where it was defined
record IsStruct (scope : Scope) (defined : Bool) (c : judging.Checked Based) : Type 0 where
  b : Based
  bindings : List Binding
  is : c ≡ fine b bindings
  number : ℕ
  ty : b.ty ≡ structure number
  complete : is_complete b.scope.structs (structure number) ≡ defined

defined_is : (s : Option Struct) → is_complete_struct s ≡ is_defined_struct s
defined_is (Some s) = refl
defined_is None = refl

tag_struct : (scope : Scope) (name : PlainToken) (o : Option ℕ) → IsStruct scope (is_defined_tag scope o) (based_on_tag true scope name o)
tag_struct scope name (Some n) = record { b = record { ty = structure n; scope = scope }; bindings = _; is = refl; number = n; ty = refl; complete = defined_is (slice_get scope.structs n) }
tag_struct scope name None = record {
  b = _;
  bindings = _;
  is = refl;
  number = length scope.structs;
  ty = refl;
  complete = ap is_complete_struct (last_there scope.structs (new_struct name.text));
}

words_struct : (scope : Scope) (words : PlainTrees) (name : PlainToken) → has_terminal t.Struct words ≡ true → name_in words ≡ Some name → IsStruct scope (is_defined_tag scope (scope.tags name.text)) (based true scope words)
words_struct scope words name has named =
    subst (λ b. IsStruct scope (is_defined_tag scope (scope.tags name.text)) (if b then or_broken (name_in words) >>= (λ tag. based_on_tag true scope tag (scope.tags tag.text)) else give (record { ty = arithmetic_words words; scope = scope }))) (sym has)
    (subst (λ o. IsStruct scope (is_defined_tag scope (scope.tags name.text)) (or_broken o >>= (λ tag. based_on_tag true scope tag (scope.tags tag.text)))) (sym named)
    (let s = tag_struct scope name (scope.tags name.text) in
    record { b = s.b; bindings = s.bindings; is = ap (with_bindings []) s.is; number = s.number; ty = s.ty; complete = s.complete }))

-- ---- judgements with bindings

bound : (before : List Struct) (by : ℕ → ℕ) (new : Tables) (r : Bool) (bindings : List Binding) (c : judging.Checked UnitState) → DefinesStruct before by new r c → DefinesStruct before by new r (with_bindings bindings c)
bound before by new r bindings (fine u more_) h = h
bound before by new r bindings (refused kind token) h = h
bound before by new r bindings broken h = h

pub each_stays : (number : ℕ) (k : Going AllMembers) (ds : List Rattle.cond_structs.specs.Walks.MemberParts) → k.refused ≡ true → (after_each (declared_next number) k ds).refused ≡ true
each_stays number k [] e = e
each_stays number k (d ∷ ds) e = each_stays number (declared_next number k d) ds (after_stays k _ e)

abbrev no_members : Members
no_members = record { members = []; numbers = no_entry; scalars = 0 }

abbrev nothing_yet : Bool → Gathered
nothing_yet refused_ = record { members = []; scalars = 0; refused = refused_ }

module _ (unit : UnitState) (old start read new : Tables) (f : Follows old unit.scope) (g : Gathered) (list : PlainTrees) where
  -- what is read behind words that name a struct
  abbrev pub Reads : Bool → Type 0
  Reads bad = (by : ℕ → ℕ) (before : List Struct) (number : ℕ) (k : Going AllMembers) → StandsSoFar by before start (nothing_yet bad) k
      → StandsSoFar by before read g (after_each (declared_next number) k (declarations_in (trees_of list)))

  module _ (law : DeclarationsAreRead) (each : Each member list) (b : Based) (number : ℕ) (is_struct : b.ty ≡ structure number) (follows : Follows start b.scope) (kept : NumbersKept unit.scope.structs f.by follows.by)
      (keep : Keep unit.scope.structs b.scope.structs) (there : (s : Struct) × (slice_get b.scope.structs number ≡ Some s))
      (completes : g.refused ≡ false → new ≡ with_completed (follows.by number) g.members g.scalars read) where
    all_same : (k : Going AllMembers) → StandsSoFar follows.by b.scope.structs read g (after_each (declared_next number) k (declarations_in (trees_of list)))
        → StandsSoFar follows.by b.scope.structs read g (after k (all_members k.state.scope number k.state.known list))
    all_same k s =
        let same = law number list each k in
        record { refused = s.refused ∙ same.refused; stands = λ h. subst (StandsAt follows.by b.scope.structs read g) (same.state h) (s.stands (same.refused ∙ h)) }

    abbrev start_of : Bool → Going AllMembers
    start_of refused_ = record { state = record { scope = b.scope; known = no_members }; refused = refused_ }

    -- all members are declared
    completed_so : (all : AllMembers) → StandsAt follows.by b.scope.structs read g all → g.refused ≡ false
        → IsDefined unit.scope.structs f.by new g.refused (with_scope unit (record all.scope { structs = with_members_at number all.known all.scope.structs }))
    completed_so all st accepted =
        let found = st.keep number there.0 there.1 in
        let done = struct_completed read all.scope st.follows number found.0 found.1 all.known st.gathers.numbers st.gathers.there in
        let same : new ≡ with_completed (st.follows.by number) (map (renumbered_member st.follows.by) all.known.members) all.known.scalars read =
        completes accepted
        ∙ (ap (λ n. with_completed n g.members g.scalars read) (st.kept number there.0 there.1)
        ∙ ap₂ (λ ms s. with_completed (st.follows.by number) ms s read) st.gathers.members st.gathers.scalars) in
        let moved = still_follows (with_completed (st.follows.by number) (map (renumbered_member st.follows.by) all.known.members) all.known.scalars read) new
        (record all.scope { structs = with_members_at number all.known all.scope.structs }) done same in
        record {
          accepted = accepted;
          follows = moved.0;
          kept = λ n s h.
              let h1 = keep n s h in
              kept n s h ∙ (st.kept n h1.0 h1.1
              ∙ (sym (ap (λ (by : ℕ → ℕ). by n) (completed_by read all.scope st.follows number found.0 found.1 all.known st.gathers.numbers st.gathers.there)) ∙ ap (λ (by : ℕ → ℕ). by n) moved.1));
        }

    -- the tag isn't defined yet
    members_defined : Reads false
        → DefinesStruct unit.scope.structs f.by new g.refused
        (all_members b.scope number no_members list >>= (λ all. give (with_scope unit (record all.scope { structs = with_members_at number all.known all.scope.structs }))))
    members_defined reads = by (all_members b.scope number no_members list) refl
      where
        reached : StandsSoFar follows.by b.scope.structs read g (after (start_of false) (all_members b.scope number no_members list))
        reached = all_same (start_of false) (reads follows.by b.scope.structs number (start_of false) (record {
          refused = refl;
          stands = λ h. record {
            follows = follows;
            kept = λ n s e. refl;
            keep = λ n s e. (s, e);
            gathers = record { members = refl; scalars = refl; numbers = λ name. refl; there = tt };
          };
        }))

        by : (c : judging.Checked AllMembers) → all_members b.scope number no_members list ≡ c
            → DefinesStruct unit.scope.structs f.by new g.refused (c >>= (λ all. give (with_scope unit (record all.scope { structs = with_members_at number all.known all.scope.structs }))))
        by (fine all bindings) e =
            let s = subst (λ c. StandsSoFar follows.by b.scope.structs read g (after (start_of false) c)) e reached in
            completed_so all (s.stands refl) s.refused
        by (refused kind token) e = (subst (λ c. StandsSoFar follows.by b.scope.structs read g (after (start_of false) c)) e reached).refused
        by broken e = (subst (λ c. StandsSoFar follows.by b.scope.structs read g (after (start_of false) c)) e reached).refused

    -- the tag is defined already, or not
    pub judged : (bad : Bool) (name : PlainToken) (bindings : List Binding) → Reads bad
        → DefinesStruct unit.scope.structs f.by new g.refused
        (unless_so (not bad) Redeclared name >>= (λ new_. fine b bindings >>= (λ base. all_members base.scope (number_of_struct base.ty) no_members list >>= (λ all. give (with_scope unit (record all.scope { structs = with_members_at (number_of_struct base.ty) all.known all.scope.structs }))))))
    judged true name bindings reads =
        (reads follows.by b.scope.structs number (start_of true) (record { refused = refl; stands = λ h. absurd (false≢true (sym h)) })).refused
        ∙ each_stays number (start_of true) (declarations_in (trees_of list)) refl
    judged false name bindings reads =
        bound unit.scope.structs f.by new g.refused [] _
        (bound unit.scope.structs f.by new g.refused bindings _
        (subst (λ ty. DefinesStruct unit.scope.structs f.by new g.refused (all_members b.scope (number_of_struct ty) no_members list >>= (λ all. give (with_scope unit (record all.scope { structs = with_members_at (number_of_struct ty) all.known all.scope.structs })))))
        (sym is_struct) (members_defined reads)))

or_right : (a b : Bool) → a ≡ false → (a || b) ≡ b
or_right true b e = absurd (false≢true (sym e))
or_right false b e = refl

pub defined_so :
    (on : ℕ → Bool) (base : Outcomes DeclaredType Refused) (unit : UnitState) (old start read new : Tables) (f : Follows old unit.scope) (g : Gathered) (list : PlainTrees) (words : PlainTree) (bad r : Bool)
    → DeclarationsAreRead → Each member list → TagWords words → DeclaresBase (λ v. ShowsType on v base) unit.scope f.by old start (based_in true unit.scope words)
    → ((ty : PlainType) → Carry on ty (entries_of declared_type_form base.fine.alternatives.items)
    → bad ≡ (some_holds on (entries_of reason base.refused.entries.items) || (some_holds on (entries_of declared_type_form base.fine.alternatives.items) && is_complete_type start ty)))
    → Reads unit old start read new f g list bad
    → ((n : ℕ) → Carry on (structure n) (entries_of declared_type_form base.fine.alternatives.items)
    → new ≡ where_true (not g.refused && some_holds on (entries_of declared_type_form base.fine.alternatives.items)) (with_completed n g.members g.scalars) read)
    → r ≡ g.refused → DefinesStruct unit.scope.structs f.by new r (defined_struct unit (parts_of words) list)
defined_so on base unit old start read new f g list words bad r law each w declares bad_is reads completes r_is =
    let s = words_struct unit.scope w.parts w.name w.has w.named in
    let is = subst (DeclaresBase (λ v. ShowsType on v base) unit.scope f.by old start) (ap (based_in true unit.scope) w.is ∙ s.is) declares in
    let keep = subst (KeptIn unit.scope) (ap (based_in true unit.scope) w.is ∙ s.is) (based_keeps unit.scope words) in
    let there : IsThere s.b.scope.structs (structure s.number) = subst (IsThere s.b.scope.structs) s.ty is.there in
    let carry = subst (λ ty. Carry on (renumbered is.follows.by ty) (entries_of declared_type_form base.fine.alternatives.items)) s.ty (fine_carries on base (renumbered is.follows.by s.b.ty) is.shows) in
    let holds = fine_holds on base (renumbered is.follows.by s.b.ty) is.shows in
    let bad_so : bad ≡ is_defined_tag unit.scope (unit.scope.tags w.name.text) =
    bad_is (structure (is.follows.by s.number)) carry
    ∙ (or_right _ _ (refused_holds on base (j.fine (renumbered is.follows.by s.b.ty)) is.shows)
    ∙ (ap (λ b. b && is_complete_type start (structure (is.follows.by s.number))) holds ∙ (complete_followed start s.b.scope is.follows (structure s.number) there ∙ s.complete))) in
    let done = judged unit old start read new f g list law each s.b s.number s.ty is.follows is.kept keep (there s.number refl)
    (λ e. completes (is.follows.by s.number) carry ∙ ap₂ (λ a b. where_true (not a && b) (with_completed (is.follows.by s.number) g.members g.scalars) read) e holds)
    bad w.name s.bindings reads in
    subst (λ b. DefinesStruct unit.scope.structs f.by new b (defined_struct unit (parts_of words) list)) (sym r_is)
    (subst (λ x. DefinesStruct unit.scope.structs f.by new g.refused (defined_struct unit (parts_of x) list)) (sym w.is)
    (subst
    (λ o. DefinesStruct unit.scope.structs f.by new g.refused
    (or_broken o >>= (λ tag. unless_so (not (is_defined_tag unit.scope (unit.scope.tags tag.text))) Redeclared tag >>= (λ new_. based true unit.scope w.parts >>= (λ base.
    all_members base.scope (number_of_struct base.ty) no_members list >>= (λ all. give (with_scope unit (record all.scope { structs = with_members_at (number_of_struct base.ty) all.known all.scope.structs }))))))))
    (sym w.named)
    (bound unit.scope.structs f.by new g.refused [] _
    (subst
    (λ d. DefinesStruct unit.scope.structs f.by new g.refused
    (unless_so (not d) Redeclared w.name >>= (λ new_. based true unit.scope w.parts >>= (λ base.
    all_members base.scope (number_of_struct base.ty) no_members list >>= (λ all. give (with_scope unit (record all.scope { structs = with_members_at (number_of_struct base.ty) all.known all.scope.structs })))))))
    bad_so
    (subst
    (λ c. DefinesStruct unit.scope.structs f.by new g.refused
    (unless_so (not bad) Redeclared w.name >>= (λ new_. c >>= (λ base.
    all_members base.scope (number_of_struct base.ty) no_members list >>= (λ all. give (with_scope unit (record all.scope { structs = with_members_at (number_of_struct base.ty) all.known all.scope.structs })))))))
    (sym s.is) done)))))
