-- Structs, and units: what a unit binds is among its names.
use Rattle.std.proofs.Common.{◌≡◌, ℕ, Bool, true, false, List, [], ◌∷◌, ◌++◌, length, refl, sym, ap, subst, ◌∙◌, append_assoc, append-nil}
use Rattle.std.specs.Prelude.{Option, Some, None, is_some, not}
use Rattle.c_text.specs.Token.{PlainToken}
use Rattle.c_types.specs.Types.{PlainType}
use Rattle.c_tree.specs.declared.kinds.Kind.{Kind}
use Rattle.c_tree.specs.declared.kinds.Kind.TheVariants as k
use Rattle.c_tree.specs.declared.terminals.Terminal.TheVariants as t
use Rattle.c_tree.specs.Trees.{PlainTree, PlainTrees, leaf, node, none, more}
use Rattle.core_meaning.specs.declared.refusals.TypeKind.TheVariants.{Redeclared, Incomplete}
use Rattle.core_meaning.specs.Checking.{member_entity, Binding, Checked, fine, broken, ◌>>=◌, give, unless_so, or_broken, declares, in_function}
use Rattle.core_meaning.specs.Entities.{no_entry, Struct, Numbers, Scope}
use Rattle.core_meaning.specs.Typing.{is_complete}
use Rattle.core_meaning.specs.Declarations.{name_in, Based, based, object_type}
use Rattle.core_meaning.specs.UnitNames.{UnitState, storage_of, with_scope, declared_from, count_functions, defined_function, Members, with_member, declared_member, one_member, members_from, AllMembers, all_members, with_members_at, is_defined_tag, number_of_struct, defined_struct, judged_item, judged_file_items, unit_start, too_big_in, unless_too_big, judged_unit}
use Rattle.bindings.specs.Visible.{NameSpace, members_of}
use Rattle.bindings.specs.Bindings.{tag_text}
use Rattle.scope_readings.specs.Walks.{role}
use Rattle.entity_numbers.proofs.Uses.{Binds}
use Rattle.entity_kinds.proofs.Pairs.{Never, NeverFine, never_then}
use Rattle.entity_kinds.proofs.Declarators.{object_quiet}
use Rattle.bound_slots.specs.Laws.{SizesBindNothing}
use Rattle.name_spaces.specs.Spaces.{space_by, spaces_in_parts, spaces_of}
use Rattle.name_spaces.proofs.Formed.{IsFormed, AreFormed, AreSpecifiers, NameAStruct, AreDeclarators, DefinesFunction, AreMembers, AllMembers as EachMember}
use Rattle.name_spaces.proofs.Embeddings.{Spaces, Embeds}
use Rattle.name_spaces.proofs.Uses.{Worded}
use Rattle.name_spaces.proofs.Listed.{spaces_at, part_is, Anything, Lists, lists_give, lists_behind, lists_never, unless_then as unless_listed, some_then as some_listed, quiet_then as quiet_listed, declares_then, part_then, part_last, past, Turns, name_at}
use Rattle.name_spaces.proofs.Blocks.{specifiers_list}
use Rattle.name_spaces.proofs.Walks.{grown_itself, Walks, WalkedOf, Same, walks_inside, walks_then, walks_give, walks_function, unless_then, some_then, quiet_then, part_walks_then, walks_past, part_walks_last}
use Rattle.name_spaces.proofs.Items.{scope_of_unit, scope_of_base, scope_of_members, NamesStruct, words_walk, declarators_walk, definition_walks}
use Rattle.core_meaning.specs.Expressions.{has_terminal}

names_specifiers : (kind : Kind) (words : PlainTrees) → NameAStruct (node kind words) → AreSpecifiers (node kind words)
names_specifiers k.Specifiers words h = tt
names_specifiers _ words h = absurd h

has_struct : (kind : Kind) (words : PlainTrees) → NameAStruct (node kind words) → has_terminal t.Struct words ≡ true
has_struct k.Specifiers words h = h
has_struct _ words h = absurd h

module _ (last : Scope) (worded : Worded last) (counts : SizesBindNothing) where
  -- ---- members

  module _ (struct : List ℕ) (number : ℕ) (here : last.tags struct ≡ Some number) where
    named_lists :
        (s : Scope) (before : Members) (ty : PlainType) (kind : Kind) (parts : PlainTrees) → Turns kind → space_by k.Member struct (role kind false) ≡ Some (members_of struct) → (name : PlainToken) → name_in parts ≡ Some name
        → Lists last.tags (Anything {A = Members}) (spaces_in_parts k.Member struct kind false parts) (declared_member s number before ty kind parts name)
    named_lists s before ty kind parts only slot name e =
        let n = name_at k.Member struct kind only parts name e in
        subst (λ (l : Spaces). Lists last.tags (Anything {A = Members}) l (declared_member s number before ty kind parts name)) (sym (n.is ∙ ap (λ (x : Option NameSpace). n.before ++ x ∷ n.behind) slot))
        (lists_behind last.tags Anything n.before (Some (members_of struct) ∷ n.behind) (declared_member s number before ty kind parts name)
        (unless_listed last.tags Anything (Some (members_of struct) ∷ n.behind) (not (is_some (before.numbers name.text))) Redeclared name _
        (λ new. declares_then last.tags Anything (Some (members_of struct)) n.behind (member_entity number (length before.members)) _ here
        (λ bound. quiet_listed last.tags Anything n.behind (object_type s ty kind parts name None) _ (object_quiet counts s ty kind parts name None)
        (λ whole. unless_listed last.tags Anything n.behind (is_complete s.structs whole) Incomplete name _
        (λ complete. lists_give last.tags Anything n.behind (with_member s.structs before name.text whole) tt))))))

    member_never :
        (s : Scope) (before : Members) (ty : PlainType) (kind : Kind) (parts : PlainTrees) → ((name : PlainToken) → object_type s ty kind parts name None ≡ broken) → NeverFine (one_member s number before ty (node kind parts))
    member_never s before ty kind parts is =
        never_then (or_broken (name_in parts)) _
        (λ name. never_then (unless_so (not (is_some (before.numbers name.text))) Redeclared name) _
        (λ new. never_then (declares (member_entity number (length before.members))) _
        (λ bound. subst (λ (c : Checked PlainType). NeverFine {A = Members} (c >>= (λ whole. unless_so (is_complete s.structs whole) Incomplete name >>= (λ complete. give (with_member s.structs before name.text whole))))) (sym (is name)) tt)))

    one_lists :
        (s : Scope) (before : Members) (ty : PlainType) (tree : PlainTree) (kind : Kind) (turned : Bool) → Lists last.tags (Anything {A = Members}) (spaces_at k.Member struct kind turned tree) (one_member s number before ty tree)
    one_lists s before ty (leaf token) kind turned = record { listed = tt }
    one_lists s before ty (node k.Declarator parts) kind turned =
        some_listed last.tags Anything (spaces_in_parts k.Member struct k.Declarator false parts) (name_in parts) (λ name. declared_member s number before ty k.Declarator parts name)
        (λ name e. named_lists s before ty k.Declarator parts (λ token turn. refl) refl name e)
    one_lists s before ty (node k.ArrayDeclarator parts) kind turned =
        some_listed last.tags Anything (spaces_in_parts k.Member struct k.ArrayDeclarator false parts) (name_in parts) (λ name. declared_member s number before ty k.ArrayDeclarator parts name)
        (λ name e. named_lists s before ty k.ArrayDeclarator parts (λ token turn. turn) refl name e)
    one_lists s before ty (node inner parts) kind turned = lists_never last.tags Anything (spaces_at k.Member struct kind turned (node inner parts)) _ (member_never s before ty inner parts (λ name. refl))

    from_lists :
        (parts : PlainTrees) (s : Scope) (before : Members) (ty : PlainType) (turned : Bool) → Lists last.tags (Anything {A = Members}) (spaces_in_parts k.Member struct k.Declarators turned parts) (members_from s number before ty parts)
    from_lists none s before ty turned = record { listed = tt }
    from_lists (more tree none) s before ty turned = part_last last.tags k.Member struct k.Declarators Anything turned tree none (one_member s number before ty tree) (one_lists s before ty tree k.Declarators turned)
    from_lists (more tree (more comma rest)) s before ty turned =
        part_then last.tags k.Member struct k.Declarators Anything Anything turned tree (more comma rest) (one_member s number before ty tree) (λ first. members_from s number first ty rest) (one_lists s before ty tree k.Declarators turned)
        (λ first y later. past last.tags k.Member struct k.Declarators Anything later comma rest (members_from s number first ty rest) (λ end_. from_lists rest s first ty end_))

    list_lists :
        (s : Scope) (before : Members) (ty : PlainType) (inner : Kind) (list : PlainTrees) → AreDeclarators (node inner list) → (kind : Kind) (turned : Bool)
        → Lists last.tags (Anything {A = Members}) (spaces_at k.Member struct kind turned (node inner list)) (members_from s number before ty list)
    list_lists s before ty k.Declarators list are kind turned = from_lists list s before ty false
    list_lists s before ty _ list are kind turned = absurd are

  module _ (struct : List ℕ) (number : ℕ) where
    all_walk :
        (parts : PlainTrees) (s : Scope) (before : Members) → s.tags struct ≡ Some number → EachMember parts → AreFormed parts → (turned : Bool)
        → Walks last s scope_of_members (Anything {A = AllMembers}) (spaces_in_parts k.StructDefinition struct k.Members turned parts) (all_members s number before parts)
    all_walk none s before here are h turned = walks_give last scope_of_members Anything s [] (record { scope = s; known = before }) (grown_itself s) tt
    all_walk (more (node k.Member (more (node words_kind words) (more (node list_kind list) (more end_ none)))) rest) s before here are h turned =
        let first : Spaces = spaces_at k.Member struct k.Member false (node words_kind words) in
        let second : Spaces = spaces_in_parts k.Member struct k.Member false (more (node list_kind list) (more end_ none)) in
        let third : Spaces = spaces_in_parts k.StructDefinition struct k.Members turned rest in
        subst (λ (l : Spaces). Walks last s scope_of_members (Anything {A = AllMembers}) l (based true s words >>= (λ base. members_from base.scope number before base.ty list >>= (λ first. all_members base.scope number first rest))))
        (sym (append_assoc first second third))
        (walks_then last s scope_of_base scope_of_members (NamesStruct words) Anything first (second ++ third) (based true s words) (λ base. members_from base.scope number before base.ty list >>= (λ first. all_members base.scope number first rest))
        (words_walk last worded counts true s k.Member struct k.Member false words_kind words h.0.0.0)
        (λ base g v. walks_then last base.scope (Same last base.scope) scope_of_members Anything Anything second third (members_from base.scope number before base.ty list) (λ first. all_members base.scope number first rest)
        (walks_inside last base.scope second (members_from base.scope number before base.ty list)
        (λ e. part_last last.tags k.Member struct k.Member Anything false (node list_kind list) (more end_ none) (members_from base.scope number before base.ty list)
        (list_lists struct number (e.tags struct number (g.tags struct number here)) base.scope before base.ty list_kind list h.0.0.1 k.Member false)))
        (λ known g2 v2. all_walk rest base.scope known (g.tags struct number here) are.1 h.1 turned)))
    all_walk (more (leaf token) rest) s before here are h turned = record { walked = tt }
    all_walk (more (node k.Member _) rest) s before here are h turned = record { walked = tt }
    all_walk (more (node _ parts) rest) s before here are h turned = absurd are.0

  -- ---- structs

  abbrev none_known : Members
  none_known = record { members = []; numbers = no_entry; scalars = 0 }

  members_walk :
      (struct : List ℕ) (number : ℕ) (s : Scope) → s.tags struct ≡ Some number → (inner : Kind) (list : PlainTrees) → AreMembers (node inner list) → IsFormed (node inner list) → (kind : Kind) (turned : Bool)
      → Walks last s scope_of_members (Anything {A = AllMembers}) (spaces_at k.StructDefinition struct kind turned (node inner list)) (all_members s number none_known list)
  members_walk struct number s here k.Members list are h kind turned = all_walk struct number list s none_known here h.0 h.1 false
  members_walk struct number s here _ list are h kind turned = absurd are

  struct_walks :
      (x : UnitState) (tag_kind : Kind) (words : PlainTrees) (brace : PlainTree) (list_kind : Kind) (list rest : PlainTrees) → NameAStruct (node tag_kind words) → AreMembers (node list_kind list) → IsFormed (node list_kind list)
      → Walks last x.scope scope_of_unit (Anything {A = UnitState})
      (spaces_in_parts k.StructDefinition (tag_text (name_in words)) k.StructDefinition false (more (node tag_kind words) (more brace (more (node list_kind list) rest)))) (defined_struct x words list)
  struct_walks x tag_kind words brace list_kind list rest names are h =
      let struct : List ℕ = tag_text (name_in words) in
      let all : Spaces = spaces_in_parts k.StructDefinition struct k.StructDefinition false (more (node tag_kind words) (more brace (more (node list_kind list) rest))) in
      let finish : Based → AllMembers → Checked UnitState = λ base all. give (with_scope x (record all.scope { structs = with_members_at (number_of_struct base.ty) all.known all.scope.structs })) in
      some_then last scope_of_unit Anything x.scope all (name_in words)
      (λ tag. unless_so (not (is_defined_tag x.scope (x.scope.tags tag.text))) Redeclared tag >>= (λ new. based true x.scope words >>= (λ base. all_members base.scope (number_of_struct base.ty) none_known list >>= finish base)))
      (λ tag e. unless_then last scope_of_unit Anything x.scope all (not (is_defined_tag x.scope (x.scope.tags tag.text))) Redeclared tag (λ new. based true x.scope words >>= (λ base. all_members base.scope (number_of_struct base.ty) none_known list >>= finish base))
      (λ new. part_walks_then last scope_of_unit Anything k.StructDefinition struct k.StructDefinition x.scope scope_of_base (NamesStruct words) false (node tag_kind words) (more brace (more (node list_kind list) rest)) (based true x.scope words)
      (λ base. all_members base.scope (number_of_struct base.ty) none_known list >>= finish base)
      (words_walk last worded counts true x.scope k.StructDefinition struct k.StructDefinition false tag_kind words (names_specifiers tag_kind words names))
      (λ base g v later. walks_past last scope_of_unit Anything k.StructDefinition struct k.StructDefinition base.scope later brace (more (node list_kind list) rest) (all_members base.scope (number_of_struct base.ty) none_known list >>= finish base)
      (λ one. part_walks_then last scope_of_unit Anything k.StructDefinition struct k.StructDefinition base.scope scope_of_members Anything one (node list_kind list) rest (all_members base.scope (number_of_struct base.ty) none_known list) (finish base)
      (members_walk struct (number_of_struct base.ty) base.scope
      (subst (λ (l : List ℕ). base.scope.tags l ≡ Some (number_of_struct base.ty)) (sym (ap tag_text e)) (v (has_struct tag_kind words names) tag e)) list_kind list are h k.StructDefinition one)
      (λ members g2 v2 two. walks_give last scope_of_unit Anything members.scope (spaces_in_parts k.StructDefinition struct k.StructDefinition two rest)
      (with_scope x (record members.scope { structs = with_members_at (number_of_struct base.ty) members.known members.scope.structs })) (record { tags = λ tag n f. f; names = λ name n f. f }) tt)))))

  -- ---- items

  module _ (globals : ℕ) where
    function_walks :
        (x : UnitState) (words_kind : Kind) (words : PlainTrees) (list_kind : Kind) (list : PlainTrees) (body : PlainTree) (behind : PlainTrees) → AreSpecifiers (node words_kind words) → DefinesFunction (node list_kind list) → AreFormed list → IsFormed body
        → Walks last x.scope scope_of_unit (Anything {A = UnitState}) (spaces_in_parts k.Function [] k.Function false (more (node words_kind words) (more (node list_kind list) (more body none))))
        (judged_item globals x (node k.Function (more (node words_kind words) (more (node list_kind list) (more body none)))) behind)
    function_walks x words_kind words k.Declarators (more (node k.FunctionDeclarator parts) none) body behind are defines h formed =
        let n : ℕ = count_functions x.defined in
        let head : Spaces = spaces_in_parts k.Function [] k.FunctionDeclarator false parts in
        let p = part_is k.Function [] k.Function false body none in
        let rest : Spaces = spaces_at k.Function [] k.Function false body ++ spaces_in_parts k.Function [] k.Function p.later none in
        let next : Based → Checked UnitState = λ base. or_broken (name_in parts) >>= (λ name. in_function n (defined_function x (storage_of words) base.ty parts name body)) in
        part_walks_then last scope_of_unit Anything k.Function [] k.Function x.scope (Same last x.scope) Anything false (node words_kind words) (more (node k.Declarators (more (node k.FunctionDeclarator parts) none)) (more body none)) (based false x.scope words) next
        (walks_inside last x.scope (spaces_at k.Function [] k.Function false (node words_kind words)) (based false x.scope words) (λ e. specifiers_list last.tags false x.scope k.Function [] k.Function false words_kind words are))
        (λ base g v later. after later base)
      where
        after :
            (later : Bool) (base : Based) → Walks last x.scope scope_of_unit (Anything {A = UnitState})
            (spaces_in_parts k.Function [] k.Function later (more (node k.Declarators (more (node k.FunctionDeclarator parts) none)) (more body none)))
            (or_broken (name_in parts) >>= (λ name. in_function (count_functions x.defined) (defined_function x (storage_of words) base.ty parts name body)))
        after later base =
            let head : Spaces = spaces_in_parts k.Function [] k.FunctionDeclarator false parts in
            let p = part_is k.Function [] k.Function later body none in
            let tail : Spaces = spaces_in_parts k.Function [] k.Function p.later none in
            subst (λ (l : Spaces). Walks last x.scope scope_of_unit (Anything {A = UnitState}) l (or_broken (name_in parts) >>= (λ name. in_function (count_functions x.defined) (defined_function x (storage_of words) base.ty parts name body))))
            (sym (ap (λ (l : Spaces). l ++ spaces_in_parts k.Function [] k.Function later (more body none)) (append-nil head) ∙ ap (λ (l : Spaces). head ++ l) p.is))
            (some_then last scope_of_unit Anything x.scope (head ++ (spaces_at k.Function [] k.Function later body ++ tail)) (name_in parts) (λ name. in_function (count_functions x.defined) (defined_function x (storage_of words) base.ty parts name body))
            (λ name e. walks_function last scope_of_unit Anything x.scope (head ++ (spaces_at k.Function [] k.Function later body ++ tail)) (count_functions x.defined) (defined_function x (storage_of words) base.ty parts name body)
            (definition_walks last worded counts [] x (storage_of words) base.ty parts h.0.1 name e body formed later tail)))
    function_walks x words_kind words _ list body behind are defines h formed = absurd defines

    item_walks :
        (tree : PlainTree) (x : UnitState) (behind : PlainTrees) → IsFormed tree → (turned : Bool)
        → Walks last x.scope scope_of_unit (Anything {A = UnitState}) (spaces_at k.Unit [] k.Unit turned tree) (judged_item globals x tree behind)
    item_walks (node k.StructDefinition (more (node tag_kind words) (more brace (more (node list_kind list) rest)))) x behind h turned =
        struct_walks x tag_kind words brace list_kind list rest h.0.0 h.0.1 h.1.1.1.0
    item_walks (node k.StructDeclaration (more (node tag_kind words) (more end_ none))) x behind h turned =
        part_walks_then last scope_of_unit Anything k.StructDeclaration [] k.StructDeclaration x.scope scope_of_base (NamesStruct words) false (node tag_kind words) (more end_ none) (based true x.scope words) (λ base. give (with_scope x base.scope))
        (words_walk last worded counts true x.scope k.StructDeclaration [] k.StructDeclaration false tag_kind words h.0)
        (λ base g v later. walks_give last scope_of_unit Anything base.scope (spaces_in_parts k.StructDeclaration [] k.StructDeclaration later (more end_ none)) (with_scope x base.scope) (grown_itself base.scope) tt)
    item_walks (node k.Declaration (more (node words_kind words) (more (node list_kind list) (more end_ none)))) x behind h turned =
        part_walks_then last scope_of_unit Anything k.Declaration [] k.Declaration x.scope scope_of_base (NamesStruct words) false (node words_kind words) (more (node list_kind list) (more end_ none)) (based true x.scope words)
        (λ base. declared_from globals (with_scope x base.scope) (storage_of words) base.ty list behind)
        (words_walk last worded counts true x.scope k.Declaration [] k.Declaration false words_kind words h.0.0)
        (λ base g v later. part_walks_last last scope_of_unit Anything k.Declaration [] k.Declaration base.scope later (node list_kind list) (more end_ none) (declared_from globals (with_scope x base.scope) (storage_of words) base.ty list behind)
        (declarators_walk last worded counts globals [] (with_scope x base.scope) (storage_of words) base.ty list_kind list h.0.1 h.1.1.0.1 behind k.Declaration later))
    item_walks (node k.Function (more (node words_kind words) (more (node list_kind (more (node kind parts) none)) (more body none)))) x behind h turned =
        function_walks x words_kind words list_kind (more (node kind parts) none) body behind h.0.0 h.0.1 h.1.1.0.1 h.1.1.1.0
    item_walks _ x behind h turned = record { walked = tt }

    items_walk :
        (parts : PlainTrees) (x : UnitState) → AreFormed parts → (turned : Bool)
        → Walks last x.scope scope_of_unit (Anything {A = UnitState}) (spaces_in_parts k.Unit [] k.Unit turned parts) (judged_file_items globals x parts)
    items_walk none x h turned = walks_give last scope_of_unit Anything x.scope [] x (grown_itself x.scope) tt
    items_walk (more tree rest) x h turned =
        part_walks_then last scope_of_unit Anything k.Unit [] k.Unit x.scope scope_of_unit Anything turned tree rest (judged_item globals x tree rest) (λ first. judged_file_items globals first rest) (item_walks tree x rest h.0 turned)
        (λ first g v later. items_walk rest first h.1 later)

    small_quiet : (o : Option PlainToken) → Binds Never (unless_too_big o)
    small_quiet None = record { all = tt }
    small_quiet (Some name) = record { all = tt }

    unit_walks :
        (structs : List Struct) (numbers : Numbers) (parts : PlainTrees) → AreFormed parts
        → Walks last (unit_start structs numbers).scope scope_of_unit (Anything {A = UnitState}) (spaces_of (node k.Unit parts)) (judged_unit globals structs numbers (node k.Unit parts))
    unit_walks structs numbers parts h =
        subst (λ (l : Spaces). Walks last (unit_start structs numbers).scope scope_of_unit (Anything {A = UnitState}) l (judged_unit globals structs numbers (node k.Unit parts))) (append-nil (spaces_in_parts k.Unit [] k.Unit false parts))
        (walks_then last (unit_start structs numbers).scope scope_of_unit scope_of_unit Anything Anything (spaces_in_parts k.Unit [] k.Unit false parts) [] (judged_file_items globals (unit_start structs numbers) parts)
        (λ unit. unless_too_big (too_big_in unit.scope parts) >>= (λ small. give unit)) (items_walk parts (unit_start structs numbers) h false)
        (λ unit g v. quiet_then last scope_of_unit Anything unit.scope [] (unless_too_big (too_big_in unit.scope parts)) (λ small. give unit) (small_quiet (too_big_in unit.scope parts))
        (λ small. walks_give last scope_of_unit Anything unit.scope [] unit (grown_itself unit.scope) tt)))

-- what is bound in a unit that is judged well
pub unit_embeds :
    SizesBindNothing → (globals : ℕ) (structs : List Struct) (numbers : Numbers) (parts : PlainTrees) → AreFormed parts → (unit : UnitState) (js : List Binding) → judged_unit globals structs numbers (node k.Unit parts) ≡ fine unit js
    → Worded unit.scope → Embeds unit.scope.tags (spaces_of (node k.Unit parts)) js
unit_embeds counts globals structs numbers parts h unit js judged worded =
    let w = (unit_walks unit.scope worded counts globals structs numbers parts h).walked in
    let v : WalkedOf unit.scope (unit_start structs numbers).scope scope_of_unit Anything (spaces_of (node k.Unit parts)) (fine unit js) =
    subst (WalkedOf unit.scope (unit_start structs numbers).scope scope_of_unit Anything (spaces_of (node k.Unit parts))) judged w in
    v.1 (grown_itself unit.scope)
