-- The items of a unit: what they bind is among their names, and what they leave visible stays so.
use Rattle.std.proofs.Common.{◌≡◌, ℕ, ◌≤◌, Bool, true, false, List, [], ◌∷◌, ◌++◌, length, refl, sym, ap, subst, ◌∙◌, append_assoc, append-nil, arith, ◌+◌}
use Rattle.std.specs.Prelude.{Option, Some, None, is_some, not, ◌&&◌, if◌then◌else◌}
use Rattle.std.proofs.lemmas.List.{length-append}
use Rattle.std.proofs.lemmas.Bool.{false≢true}
use Rattle.std.proofs.lemmas.Option.{none-some, same_Some}
use Rattle.c_text.specs.Token.{PlainToken}
use Rattle.c_types.specs.Types.{PlainType}
use Rattle.c_tree.specs.declared.kinds.Kind.{Kind}
use Rattle.c_tree.specs.declared.kinds.Kind.TheVariants as k
use Rattle.c_tree.specs.declared.terminals.Terminal.{Terminal}
use Rattle.c_tree.specs.declared.terminals.Terminal.TheVariants as t
use Rattle.c_tree.specs.Terminals.{terminal, same}
use Rattle.c_tree.specs.Trees.{PlainTree, PlainTrees, leaf, node, none, more}
use Rattle.c_tree.specs.Grammar.{is_word}
use Rattle.core_meaning.specs.declared.refusals.TypeKind.TheVariants.{Redeclared}
use Rattle.core_meaning.specs.Checking.{file_entity, Checked, fine, refused, broken, ◌>>=◌, give, unless_so, or_broken, declares, with_bindings}
use Rattle.core_meaning.specs.Entities.{Table, Sort, variable, function, FileName, Scope}
use Rattle.core_meaning.specs.Typing.{is_complete}
use Rattle.core_meaning.specs.Program.{no_item}
use Rattle.core_meaning.specs.Expressions.{has_terminal, arithmetic_words}
use Rattle.core_meaning.specs.Constancy.{initial}
use Rattle.core_meaning.specs.Declarations.{name_in, behind_word, Based, based_on_tag, based, starred, object_type, Parameter, parameters_in, parameters_of, with_block, with_parameter}
use Rattle.core_meaning.specs.Statements.{JudgedItems, items_as}
use Rattle.core_meaning.specs.UnitNames.{object_body, tentative_body, function_body, UnitState, Storage, by_static, by_extern, by_none, is_function, same_sort, same_bool, linkage, with_file_name, declared_as, with_name, may_be_incomplete, judged_global, constant_parts, with_defined, with_scope, defined_object, declared_object, signature_of, parameter_types, refused_initialiser, may_be_function, new_function, declared_function, declared_one, declared_from, with_parameters, is_result, result_kind, judged_body, defined_function, AllMembers, number_of_struct}
use Rattle.bindings.specs.Visible.{NameSpace, ordinary}
use Rattle.scope_readings.specs.Walks.{role, declaration_in}
use Rattle.entity_numbers.proofs.Uses.{Binds, if_binds}
use Rattle.entity_kinds.proofs.Pairs.{Never, NeverFine, never_then}
use Rattle.entity_kinds.proofs.Declarators.{object_quiet, whole_object_quiet}
use Rattle.bound_slots.specs.Laws.{SizesBindNothing}
use Rattle.name_spaces.specs.Spaces.{space_by, spaces_in_parts, struct_in}
use Rattle.name_spaces.proofs.Formed.{IsFormed, AreFormed, AreSpecifiers, AreDeclarators}
use Rattle.name_spaces.proofs.Embeddings.{Spaces}
use Rattle.name_spaces.proofs.Uses.{names, initial_uses, Worded}
use Rattle.name_spaces.proofs.Listed as listed
use Rattle.name_spaces.proofs.Listed.{spaces_at, Anything, Lists, lists_give, lists_behind, lists_before, lists_uses, part_last, past, Turns, name_at, name_before}
use Rattle.name_spaces.proofs.Blocks.{specifiers_list, parameters_list, IsGiven, names_given}
use Rattle.name_spaces.proofs.Statements.{items_list}
use Rattle.name_spaces.proofs.Walks.{Grown, grown_itself, entry_kept, entry_here, grown_worded, Leaves, Walks, walks_listed, Same, walks_inside, walks_then, walks_give, walks_behind, walks_before, walks_never, walks_if, quiet_then, unless_then, some_then, declares_walk, part_walks_then, walks_past, part_walks_last, valued_walks_then, valued_walks_last}

abbrev pub scope_of_unit : UnitState → Scope
scope_of_unit x = x.scope

abbrev pub scope_of_base : Based → Scope
scope_of_base x = x.scope

abbrev scope_itself : Scope → Scope
scope_itself x = x

abbrev pub scope_of_members : AllMembers → Scope
scope_of_members x = x.scope

-- ---- words

-- the struct that words name is visible behind them
abbrev pub NamesStruct : PlainTrees → Based → Type 0
NamesStruct words base = has_terminal t.Struct words ≡ true → (tag : PlainToken) → name_in words ≡ Some tag → base.scope.tags tag.text ≡ Some (number_of_struct base.ty)

tag_leaves : (declaring : Bool) (s : Scope) (tag : PlainToken) (o : Option ℕ) → s.tags tag.text ≡ o → Leaves s scope_of_base (λ base. base.scope.tags tag.text ≡ Some (number_of_struct base.ty)) (based_on_tag declaring s tag o)
tag_leaves declaring s tag (Some n) e = record { left = (grown_itself s, e) }
tag_leaves false s tag None e = record { left = tt }
tag_leaves true s tag None e = record {
  left = (record { tags = entry_kept s.tags tag.text (length s.structs) e; names = λ name n f. f }, entry_here s.tags tag.text (length s.structs));
}

words_leave : (declaring : Bool) (s : Scope) (words : PlainTrees) → Leaves s scope_of_base (NamesStruct words) (based declaring s words)
words_leave declaring s words = by (has_terminal t.Struct words) refl (name_in words) refl
  where
    as_named :
        (tag : PlainToken) → name_in words ≡ Some tag → (c : Checked Based) → Leaves s scope_of_base (λ base. base.scope.tags tag.text ≡ Some (number_of_struct base.ty)) c
        → Leaves s scope_of_base (NamesStruct words) (with_bindings [] c)
    as_named tag e (fine x js) h = record { left = (h.left.0, λ has other f. subst (λ (l : PlainToken). x.scope.tags l.text ≡ Some (number_of_struct x.ty)) (same_Some tag other (sym e ∙ f)) h.left.1) }
    as_named tag e (refused kind token) h = record { left = tt }
    as_named tag e broken h = record { left = tt }

    by :
        (b : Bool) → has_terminal t.Struct words ≡ b → (o : Option PlainToken) → name_in words ≡ o
        → Leaves s scope_of_base (NamesStruct words) (if b then or_broken o >>= (λ tag. based_on_tag declaring s tag (s.tags tag.text)) else give (record { ty = arithmetic_words words; scope = s }))
    by true has None e = record { left = tt }
    by true has (Some tag) e = as_named tag e (based_on_tag declaring s tag (s.tags tag.text)) (tag_leaves declaring s tag (s.tags tag.text) refl)
    by false has o e = record { left = (grown_itself s, λ there. absurd (false≢true (sym has ∙ there))) }

-- ---- names of file scope

name_leaves : (s : Scope) (name : PlainToken) (sort : Sort) (internal : Bool) (o : Option FileName) → s.file_names name.text ≡ o → Leaves s scope_itself (Anything {A = Scope}) (declared_as s name sort internal o)
name_leaves s name sort internal (Some visible) e = by (same_sort visible.sort sort && same_bool visible.internal internal)
  where
    by : (b : Bool) → Leaves s scope_itself (Anything {A = Scope}) (unless_so b Redeclared name >>= (λ same_. give s))
    by true = record { left = (grown_itself s, tt) }
    by false = record { left = tt }
name_leaves s name sort internal None e = record { left = (record { tags = λ tag n f. f; names = entry_kept s.file_names name.text (record { sort = sort; internal = internal }) e }, tt) }

name_quiet : (known : Table ℕ) (s : Scope) (name : PlainToken) (sort : Sort) (internal : Bool) (o : Option FileName) → Lists known (Anything {A = Scope}) [] (declared_as s name sort internal o)
name_quiet known s name sort internal (Some visible) = listed.unless_then known Anything [] (same_sort visible.sort sort && same_bool visible.internal internal) Redeclared name (λ same_. give s) (λ x. lists_give known Anything [] s tt)
name_quiet known s name sort internal None = lists_give known Anything [] (with_file_name s name.text (record { sort = sort; internal = internal })) tt

worded_parameters : (s : Scope) (slot : ℕ) (ps : List Parameter) → Worded s → Worded (with_parameters s slot ps)
worded_parameters s slot [] w = w
worded_parameters s slot (p ∷ ps) w = worded_parameters (with_parameter s slot p.name p.ty) (slot + 1) ps (by p.name)
  where
    by : (o : Option PlainToken) → Worded (with_parameter s slot o p.ty)
    by None = w
    by (Some name) = w

behind_formed : (wanted : Terminal) (parts : PlainTrees) (tree : PlainTree) → AreFormed parts → behind_word wanted parts ≡ Some tree → IsFormed tree
behind_formed wanted none tree h e = absurd (none-some tree e)
behind_formed wanted (more (node kind inner) rest) tree h e = absurd (none-some tree e)
behind_formed wanted (more (leaf token) none) tree h e = absurd (none-some tree e)
behind_formed wanted (more (leaf token) (more next rest)) tree h e = by (same wanted (terminal token)) (behind_formed wanted (more next rest) tree h.1) e
  where
    by : (b : Bool) → (behind_word wanted (more next rest) ≡ Some tree → IsFormed tree) → (if b then Some next else behind_word wanted (more next rest)) ≡ Some tree → IsFormed tree
    by true later e = subst IsFormed (same_Some next tree e) h.1.0
    by false later e = later e

value_quiet : (o : Option PlainTree) (name : PlainToken) → Binds Never (refused_initialiser o name)
value_quiet None name = record { all = tt }
value_quiet (Some value) name = record { all = tt }

module _ (last : Scope) (worded : Worded last) (counts : SizesBindNothing) where
  -- words of an item, or of a member
  pub words_walk :
      (declaring : Bool) (s : Scope) (around : Kind) (struct : List ℕ) (kind : Kind) (turned : Bool) (inner : Kind) (words : PlainTrees) → AreSpecifiers (node inner words)
      → Walks last s scope_of_base (NamesStruct words) (spaces_at around struct kind turned (node inner words)) (based declaring s words)
  words_walk declaring s around struct kind turned inner words are =
      walks_listed last s scope_of_base (NamesStruct words) (spaces_at around struct kind turned (node inner words)) (based declaring s words) (words_leave declaring s words)
      (λ e. specifiers_list last.tags declaring s around struct kind turned inner words are)

  name_walk : (s : Scope) (name : PlainToken) (sort : Sort) (storage : Storage) → Walks last s scope_itself (Anything {A = Scope}) [] (with_name s name sort storage)
  name_walk s name sort storage =
      walks_listed last s scope_itself Anything [] (with_name s name sort storage) (name_leaves s name sort (linkage storage (is_function sort) (s.file_names name.text)) (s.file_names name.text) refl)
      (λ e. name_quiet last.tags s name sort (linkage storage (is_function sort) (s.file_names name.text)) (s.file_names name.text))

  -- a name of file scope becomes visible
  name_then :
      (before : Scope) (spaces : Spaces) (name : PlainToken) (sort : Sort) (storage : Storage) (f : Scope → Checked UnitState) → ((x : Scope) → Grown before x → Walks last x scope_of_unit (Anything {A = UnitState}) spaces (f x))
      → Walks last before scope_of_unit (Anything {A = UnitState}) spaces (with_name before name sort storage >>= f)
  name_then before spaces name sort storage f h = walks_then last before scope_itself scope_of_unit Anything Anything [] spaces (with_name before name sort storage) f (name_walk before name sort storage) (λ x g v. h x g)

  global_quiet : (storage : Storage) (given_ : Bool) (s : Scope) (ty : PlainType) (name : PlainToken) (rest : PlainTrees) → Binds Never (judged_global storage given_ s ty name rest)
  global_quiet storage given_ s ty name rest =
      if_binds Never (may_be_incomplete storage given_ s.structs ty rest && not (is_complete s.structs ty)) _ _ (record { all = tt }) (whole_object_quiet counts s ty name)

  -- ---- objects

  module _ (globals : ℕ) where
    value_walks :
        (x : UnitState) (ty : PlainType) (name : PlainToken) (tree : PlainTree) → IsFormed tree → (spaces : Spaces) → names tree ≤ length spaces
        → Walks last x.scope scope_of_unit (Anything {A = UnitState}) spaces
        (initial x.scope (Some globals) ty [] tree name >>= (λ parts. or_broken (constant_parts globals parts) >>= (λ values. give (with_defined x name.text (object_body values)))))
    value_walks x ty name tree h spaces less =
        let all = walks_then last x.scope (Same last x.scope) scope_of_unit Anything Anything spaces [] (initial x.scope (Some globals) ty [] tree name)
        (λ parts. or_broken (constant_parts globals parts) >>= (λ values. give (with_defined x name.text (object_body values))))
        (walks_inside last x.scope spaces (initial x.scope (Some globals) ty [] tree name)
        (λ e. lists_uses last.tags (names tree) spaces (initial x.scope (Some globals) ty [] tree name) less (initial_uses x.scope (grown_worded x.scope last e worded) (Some globals) ty [] tree name h)))
        (λ parts g v. some_then last scope_of_unit Anything x.scope [] (constant_parts globals parts) (λ values. give (with_defined x name.text (object_body values)))
        (λ values e. walks_give last scope_of_unit Anything x.scope [] (with_defined x name.text (object_body values)) (grown_itself x.scope) tt)) in
        subst (λ (l : Spaces). Walks last x.scope scope_of_unit (Anything {A = UnitState}) l
        (initial x.scope (Some globals) ty [] tree name >>= (λ parts. or_broken (constant_parts globals parts) >>= (λ values. give (with_defined x name.text (object_body values)))))) (append-nil spaces) all

    defined_walks :
        (x : UnitState) (storage : Storage) (ty : PlainType) (name : PlainToken) (o : Option PlainTree) → IsGiven o → (spaces : Spaces) → names_given o ≤ length spaces
        → Walks last x.scope scope_of_unit (Anything {A = UnitState}) spaces (defined_object globals x storage ty name o)
    defined_walks x by_extern ty name None h spaces less = walks_give last scope_of_unit Anything x.scope spaces x (grown_itself x.scope) tt
    defined_walks x by_static ty name None h spaces less = walks_give last scope_of_unit Anything x.scope spaces (with_defined x name.text tentative_body) (grown_itself x.scope) tt
    defined_walks x by_none ty name None h spaces less = walks_give last scope_of_unit Anything x.scope spaces (with_defined x name.text tentative_body) (grown_itself x.scope) tt
    defined_walks x by_extern ty name (Some tree) h spaces less = value_walks x ty name tree h spaces less
    defined_walks x by_static ty name (Some tree) h spaces less = value_walks x ty name tree h spaces less
    defined_walks x by_none ty name (Some tree) h spaces less = value_walks x ty name tree h spaces less

    module _ (struct : List ℕ) where
      object_walks :
          (x : UnitState) (storage : Storage) (ty : PlainType) (kind : Kind) (parts : PlainTrees) → Turns kind → space_by k.Declaration struct (role kind false) ≡ Some ordinary
          → (name : PlainToken) → name_in parts ≡ Some name → (o : Option PlainTree) → IsGiven o → (rest : PlainTrees) (others : Spaces) → names_given o ≤ length others
          → Walks last x.scope scope_of_unit (Anything {A = UnitState}) (spaces_in_parts k.Declaration struct kind false parts ++ others) (declared_object globals x storage ty kind parts name o rest)
      object_walks x storage ty kind parts only slot name e o given_ rest others less =
          let n = name_at k.Declaration struct kind only parts name e in
          let end_ : Spaces = n.behind ++ others in
          let count = length-append n.behind others in
          subst (λ (l : Spaces). Walks last x.scope scope_of_unit (Anything {A = UnitState}) l (declared_object globals x storage ty kind parts name o rest))
          (sym (ap (λ (l : Spaces). l ++ others) (n.is ∙ ap (λ (y : Option NameSpace). n.before ++ y ∷ n.behind) slot) ∙ append_assoc n.before (Some ordinary ∷ n.behind) others))
          (walks_behind last scope_of_unit Anything x.scope n.before (Some ordinary ∷ end_) (declared_object globals x storage ty kind parts name o rest)
          (declares_walk last scope_of_unit Anything x.scope (Some ordinary) end_ (file_entity name.text) _ tt
          (λ bound. quiet_then last scope_of_unit Anything x.scope end_ (object_type x.scope ty kind parts name o) _ (object_quiet counts x.scope ty kind parts name o)
          (λ whole. name_then x.scope end_ name (variable whole) storage _
          (λ scope g. quiet_then last scope_of_unit Anything scope end_ (judged_global storage (is_some o) scope whole name rest) _ (global_quiet storage (is_some o) scope whole name rest)
          (λ judged. defined_walks (with_scope x scope) storage whole name o given_ end_ (omega (arith, less, count))))))))

      object_never :
          (x : UnitState) (storage : Storage) (ty : PlainType) (kind : Kind) (parts : PlainTrees) (o : Option PlainTree) (rest : PlainTrees) → ((name : PlainToken) → object_type x.scope ty kind parts name o ≡ broken)
          → NeverFine (or_broken (name_in parts) >>= (λ name. declared_object globals x storage ty kind parts name o rest))
      object_never x storage ty kind parts o rest is =
          never_then (or_broken (name_in parts)) _
          (λ name. never_then (declares (file_entity name.text)) _
          (λ bound. subst (λ (c : Checked PlainType). NeverFine {A = UnitState} (c >>= (λ whole. with_name x.scope name (variable whole) storage >>= (λ scope. judged_global storage (is_some o) scope whole name rest >>= (λ judged. defined_object globals (with_scope x scope) storage whole name o)))))
          (sym (is name)) tt))

  -- ---- functions

  -- the name of a function, and its parameters behind it
  record FunctionNamed (around : Kind) (struct : List ℕ) (parts : PlainTrees) (name : PlainToken) : Type 0 where
    before : Spaces
    behind : Spaces
    is : spaces_in_parts around struct k.FunctionDeclarator false parts ≡ before ++ space_by around struct (role k.FunctionDeclarator false) ∷ behind
    parameters : (defining : Bool) (s : Scope) → Lists last.tags (Anything {A = List Parameter}) behind (parameters_of defining s (behind_word t.OpenParenthesis parts) name)

  function_named : (around : Kind) (struct : List ℕ) (parts : PlainTrees) (name : PlainToken) → AreFormed parts → name_in parts ≡ Some name → FunctionNamed around struct parts name
  function_named around struct parts name h e = by (behind_word t.OpenParenthesis parts) refl
    where
      plain : (o : Option PlainTree) → behind_word t.OpenParenthesis parts ≡ o → ((defining : Bool) (s : Scope) (spaces : Spaces) → Lists last.tags (Anything {A = List Parameter}) spaces (parameters_of defining s o name)) → FunctionNamed around struct parts name
      plain o f all =
          let n = name_at around struct k.FunctionDeclarator (λ token turn. refl) parts name e in
          record { before = n.before; behind = n.behind; is = n.is; parameters = λ defining s. subst (λ (x : Option PlainTree). Lists last.tags (Anything {A = List Parameter}) n.behind (parameters_of defining s x name)) (sym f) (all defining s n.behind) }

      by : (o : Option PlainTree) → behind_word t.OpenParenthesis parts ≡ o → FunctionNamed around struct parts name
      by None f = plain None f (λ defining s spaces. record { listed = tt })
      by (Some (leaf token)) f = plain (Some (leaf token)) f (λ defining s spaces. record { listed = (tt, tt) })
      by (Some (node k.Parameters list)) f =
          let n = name_before around struct k.FunctionDeclarator (λ token turn. refl) t.OpenParenthesis parts name k.Parameters list e f in
          let b = n.there in
          record {
            before = n.before;
            behind = n.behind;
            is = n.is;
            parameters = λ defining s.
                subst (λ (x : Option PlainTree). Lists last.tags (Anything {A = List Parameter}) n.behind (parameters_of defining s x name)) (sym f)
                (subst (λ (l : Spaces). Lists last.tags (Anything {A = List Parameter}) l (parameters_in defining s (node k.Parameters list) name)) (sym b.is)
                (lists_behind last.tags Anything b.before (spaces_at around struct k.FunctionDeclarator b.turned (node k.Parameters list) ++ b.behind) (parameters_in defining s (node k.Parameters list) name)
                (lists_before last.tags Anything (spaces_at around struct k.FunctionDeclarator b.turned (node k.Parameters list)) b.behind (parameters_in defining s (node k.Parameters list) name)
                (parameters_list last.tags counts defining struct s list name (behind_formed t.OpenParenthesis parts (node k.Parameters list) h f) around k.FunctionDeclarator b.turned))));
          }
      by (Some (node inner list)) f = plain (Some (node inner list)) f (λ defining s spaces. record { listed = (tt, tt) })

  new_lists :
      {around : Kind} {struct : List ℕ} {parts : PlainTrees} {name : PlainToken} (n : FunctionNamed around struct parts name) (defining : Bool) (s : Scope) (storage : Storage) (ty : PlainType)
      → Lists last.tags (Anything {A = List Parameter}) n.behind (new_function defining s storage ty parts name)
  new_lists {parts = parts} {name = name} n defining s storage ty =
      listed.unless_then last.tags Anything n.behind (may_be_function storage ty (s.file_names name.text)) Redeclared name (λ new. parameters_of defining s (behind_word t.OpenParenthesis parts) name) (λ x. n.parameters defining s)

  module _ (struct : List ℕ) where
    function_walks :
        (x : UnitState) (storage : Storage) (ty : PlainType) (parts : PlainTrees) → AreFormed parts → (name : PlainToken) → name_in parts ≡ Some name → (o : Option PlainTree) (others : Spaces)
        → Walks last x.scope scope_of_unit (Anything {A = UnitState}) (spaces_in_parts k.Declaration struct k.FunctionDeclarator false parts ++ others) (declared_function x storage ty parts name o)
    function_walks x storage ty parts h name e o others =
        let n = function_named k.Declaration struct parts name h e in
        walks_before last scope_of_unit Anything x.scope (spaces_in_parts k.Declaration struct k.FunctionDeclarator false parts) others (declared_function x storage ty parts name o)
        (subst (λ (l : Spaces). Walks last x.scope scope_of_unit (Anything {A = UnitState}) l (declared_function x storage ty parts name o)) (sym n.is)
        (walks_behind last scope_of_unit Anything x.scope n.before (Some ordinary ∷ n.behind) (declared_function x storage ty parts name o)
        (declares_walk last scope_of_unit Anything x.scope (Some ordinary) n.behind (file_entity name.text) _ tt
        (λ bound. subst (λ (l : Spaces). Walks last x.scope scope_of_unit (Anything {A = UnitState}) l (new_function false x.scope storage (starred parts ty) parts name
        >>= (λ parameters. with_name x.scope name (function (signature_of (starred parts ty) parameters)) storage >>= (λ scope. refused_initialiser o name >>= (λ none_given. give (with_scope x scope)))))) (append-nil n.behind)
        (walks_then last x.scope (Same last x.scope) scope_of_unit Anything Anything n.behind [] (new_function false x.scope storage (starred parts ty) parts name) _
        (walks_inside last x.scope n.behind (new_function false x.scope storage (starred parts ty) parts name) (λ g. new_lists n false x.scope storage (starred parts ty)))
        (λ parameters g v. name_then x.scope [] name (function (signature_of (starred parts ty) parameters)) storage (λ scope. refused_initialiser o name >>= (λ none_given. give (with_scope x scope)))
        (λ scope g2. quiet_then last scope_of_unit Anything scope [] (refused_initialiser o name) (λ none_given. give (with_scope x scope)) (value_quiet o name)
        (λ z. walks_give last scope_of_unit Anything scope [] (with_scope x scope) (grown_itself scope) tt))))))))

  -- ---- declarators at file scope

  module _ (globals : ℕ) (struct : List ℕ) where
    one_walks :
        (x : UnitState) (storage : Storage) (ty : PlainType) (tree : PlainTree) → IsFormed tree → (o : Option PlainTree) → IsGiven o → (rest : PlainTrees) (others : Spaces) → names_given o ≤ length others → (kind : Kind) (turned : Bool)
        → Walks last x.scope scope_of_unit (Anything {A = UnitState}) (spaces_at k.Declaration struct kind turned tree ++ others) (declared_one globals x storage ty tree o rest)
    one_walks x storage ty (leaf token) h o given_ rest others less kind turned = record { walked = tt }
    one_walks x storage ty (node k.FunctionDeclarator parts) h o given_ rest others less kind turned =
        some_then last scope_of_unit Anything x.scope (spaces_in_parts k.Declaration struct k.FunctionDeclarator false parts ++ others) (name_in parts) (λ name. declared_function x storage ty parts name o)
        (λ name e. function_walks struct x storage ty parts h.1 name e o others)
    one_walks x storage ty (node k.Declarator parts) h o given_ rest others less kind turned =
        some_then last scope_of_unit Anything x.scope (spaces_in_parts k.Declaration struct k.Declarator false parts ++ others) (name_in parts) (λ name. declared_object globals x storage ty k.Declarator parts name o rest)
        (λ name e. object_walks globals struct x storage ty k.Declarator parts (λ token turn. refl) refl name e o given_ rest others less)
    one_walks x storage ty (node k.ArrayDeclarator parts) h o given_ rest others less kind turned =
        some_then last scope_of_unit Anything x.scope (spaces_in_parts k.Declaration struct k.ArrayDeclarator false parts ++ others) (name_in parts) (λ name. declared_object globals x storage ty k.ArrayDeclarator parts name o rest)
        (λ name e. object_walks globals struct x storage ty k.ArrayDeclarator parts (λ token turn. turn) refl name e o given_ rest others less)
    one_walks x storage ty (node inner parts) h o given_ rest others less kind turned =
        walks_never last scope_of_unit Anything x.scope (spaces_at k.Declaration struct kind turned (node inner parts) ++ others) _ (object_never globals struct x storage ty inner parts o rest (λ name. refl))

    alone :
        (x : UnitState) (storage : Storage) (ty : PlainType) (tree : PlainTree) → IsFormed tree → (rest : PlainTrees) (turned : Bool)
        → Walks last x.scope scope_of_unit (Anything {A = UnitState}) (spaces_at k.Declaration struct k.Declarators turned tree) (declared_one globals x storage ty tree None rest)
    alone x storage ty tree h rest turned =
        subst (λ (l : Spaces). Walks last x.scope scope_of_unit (Anything {A = UnitState}) l (declared_one globals x storage ty tree None rest)) (append-nil (spaces_at k.Declaration struct k.Declarators turned tree))
        (one_walks x storage ty tree h None tt rest [] (omega arith) k.Declarators turned)

    from_walks :
        (parts : PlainTrees) (x : UnitState) (storage : Storage) (ty : PlainType) → AreFormed parts → (rest : PlainTrees) (turned : Bool)
        → Walks last x.scope scope_of_unit (Anything {A = UnitState}) (spaces_in_parts k.Declaration struct k.Declarators turned parts) (declared_from globals x storage ty parts rest)
    from_walks none x storage ty h rest turned = record { walked = tt }
    from_walks (more tree none) x storage ty h rest turned =
        part_walks_last last scope_of_unit Anything k.Declaration struct k.Declarators x.scope turned tree none (declared_one globals x storage ty tree None rest) (alone x storage ty tree h.0 rest turned)
    from_walks (more tree (more sign none)) x storage ty h rest turned = record { walked = tt }
    from_walks (more tree (more sign (more next none))) x storage ty h rest turned =
        walks_if last scope_of_unit Anything x.scope (spaces_in_parts k.Declaration struct k.Declarators turned (more tree (more sign (more next none)))) (is_word (t.Assign ∷ []) sign) _ _
        (valued_walks_last last scope_of_unit Anything k.Declaration struct k.Declarators x.scope turned tree sign next (declared_one globals x storage ty tree (Some next) rest)
        (λ others less. one_walks x storage ty tree h.0 (Some next) h.1.1.0 rest others less k.Declarators turned))
        (part_walks_then last scope_of_unit Anything k.Declaration struct k.Declarators x.scope scope_of_unit Anything turned tree (more sign (more next none)) (declared_one globals x storage ty tree None rest) (λ first. declared_from globals first storage ty (more next none) rest)
        (alone x storage ty tree h.0 rest turned)
        (λ first g v later. walks_past last scope_of_unit Anything k.Declaration struct k.Declarators first.scope later sign (more next none) (declared_from globals first storage ty (more next none) rest)
        (λ end_. from_walks (more next none) first storage ty h.1.1 rest end_)))
    from_walks (more tree (more sign (more next (more comma others)))) x storage ty h rest turned =
        walks_if last scope_of_unit Anything x.scope (spaces_in_parts k.Declaration struct k.Declarators turned (more tree (more sign (more next (more comma others))))) (is_word (t.Assign ∷ []) sign) _ _
        (valued_walks_then last scope_of_unit Anything k.Declaration struct k.Declarators x.scope scope_of_unit Anything turned tree sign next (more comma others) (declared_one globals x storage ty tree (Some next) rest) (λ first. declared_from globals first storage ty others rest)
        (λ spaces less. one_walks x storage ty tree h.0 (Some next) h.1.1.0 rest spaces less k.Declarators turned)
        (λ first g v later. walks_past last scope_of_unit Anything k.Declaration struct k.Declarators first.scope later comma others (declared_from globals first storage ty others rest)
        (λ end_. from_walks others first storage ty h.1.1.1.1 rest end_)))
        (part_walks_then last scope_of_unit Anything k.Declaration struct k.Declarators x.scope scope_of_unit Anything turned tree (more sign (more next (more comma others))) (declared_one globals x storage ty tree None rest) (λ first. declared_from globals first storage ty (more next (more comma others)) rest)
        (alone x storage ty tree h.0 rest turned)
        (λ first g v later. walks_past last scope_of_unit Anything k.Declaration struct k.Declarators first.scope later sign (more next (more comma others)) (declared_from globals first storage ty (more next (more comma others)) rest)
        (λ end_. from_walks (more next (more comma others)) first storage ty h.1.1 rest end_)))

    pub declarators_walk :
        (x : UnitState) (storage : Storage) (ty : PlainType) (inner : Kind) (list : PlainTrees) → AreDeclarators (node inner list) → AreFormed list → (rest : PlainTrees) (kind : Kind) (turned : Bool)
        → Walks last x.scope scope_of_unit (Anything {A = UnitState}) (spaces_at k.Declaration struct kind turned (node inner list)) (declared_from globals x storage ty list rest)
    declarators_walk x storage ty k.Declarators list are h rest kind turned = from_walks list x storage ty h rest false
    declarators_walk x storage ty _ list are h rest kind turned = absurd are

  -- ---- definitions of functions

  body_lists :
      (s : Scope) → Worded s → (result : PlainType) (slots : List PlainType) (body : PlainTree) → IsFormed body → (around : Kind) (struct : List ℕ) (kind : Kind) (turned : Bool)
      → Lists last.tags (Anything {A = JudgedItems}) (spaces_at around struct kind turned body) (judged_body s result slots body)
  body_lists s w result slots (node inner (more brace (more (node k.Items items) (more end_ none)))) h around struct kind turned =
      let a : Kind = declaration_in around inner in
      let tag : List ℕ = struct_in struct inner (more brace (more (node k.Items items) (more end_ none))) in
      past last.tags a tag inner Anything false brace (more (node k.Items items) (more end_ none)) _
      (λ one. part_last last.tags a tag inner Anything one (node k.Items items) (more end_ none) _
      (items_list last.tags counts tag a items (record { scope = s; result = result; in_loop = false }) w slots h.1.1.0.1 k.Items false))
  body_lists s w result slots (node inner (more brace (more (node k.Absent items) (more end_ none)))) h around struct kind turned =
      lists_give last.tags Anything (spaces_at around struct kind turned (node inner (more brace (more (node k.Absent items) (more end_ none))))) (items_as slots no_item) tt
  body_lists s w result slots _ h around struct kind turned = record { listed = tt }

  module _ (struct : List ℕ) where
    pub definition_walks :
        (x : UnitState) (storage : Storage) (ty : PlainType) (parts : PlainTrees) → AreFormed parts → (name : PlainToken) → name_in parts ≡ Some name → (body : PlainTree) → IsFormed body → (turned : Bool) (others : Spaces)
        → Walks last x.scope scope_of_unit (Anything {A = UnitState}) (spaces_in_parts k.Function struct k.FunctionDeclarator false parts ++ (spaces_at k.Function struct k.Function turned body ++ others)) (defined_function x storage ty parts name body)
    definition_walks x storage ty parts h name e body formed turned others =
        let n = function_named k.Function struct parts name h e in
        let end_ : Spaces = spaces_at k.Function struct k.Function turned body ++ others in
        let result : PlainType = starred parts ty in
        let last_part : Scope → List Parameter → Checked UnitState =
        λ scope parameters. judged_body (with_parameters (with_block scope) 0 parameters) result (parameter_types parameters) body >>= (λ items. give (with_defined (with_scope x scope) name.text (function_body items.slots items.core))) in
        subst (λ (l : Spaces). Walks last x.scope scope_of_unit (Anything {A = UnitState}) l (defined_function x storage ty parts name body))
        (sym (ap (λ (l : Spaces). l ++ end_) n.is ∙ append_assoc n.before (Some ordinary ∷ n.behind) end_))
        (walks_behind last scope_of_unit Anything x.scope n.before (Some ordinary ∷ (n.behind ++ end_)) (defined_function x storage ty parts name body)
        (declares_walk last scope_of_unit Anything x.scope (Some ordinary) (n.behind ++ end_) (file_entity name.text) _ tt
        (λ bound. unless_then last scope_of_unit Anything x.scope (n.behind ++ end_) (is_result x.scope result)
        (result_kind x.scope storage result name (parameters_of true x.scope (behind_word t.OpenParenthesis parts) name)) name _
        (λ fits. walks_then last x.scope (Same last x.scope) scope_of_unit Anything Anything n.behind end_ (new_function true x.scope storage result parts name)
        (λ parameters. with_name x.scope name (function (signature_of result parameters)) storage >>= (λ scope. last_part scope parameters))
        (walks_inside last x.scope n.behind (new_function true x.scope storage result parts name) (λ g. new_lists n true x.scope storage result))
        (λ parameters g v. name_then x.scope end_ name (function (signature_of result parameters)) storage (λ scope. last_part scope parameters)
        (λ scope g2. walks_before last scope_of_unit Anything scope (spaces_at k.Function struct k.Function turned body) others (last_part scope parameters)
        (subst (λ (l : Spaces). Walks last scope scope_of_unit (Anything {A = UnitState}) l (last_part scope parameters)) (append-nil (spaces_at k.Function struct k.Function turned body))
        (walks_then last scope (Same last scope) scope_of_unit Anything Anything (spaces_at k.Function struct k.Function turned body) [] (judged_body (with_parameters (with_block scope) 0 parameters) result (parameter_types parameters) body)
        (λ items. give (with_defined (with_scope x scope) name.text (function_body items.slots items.core)))
        (walks_inside last scope (spaces_at k.Function struct k.Function turned body) (judged_body (with_parameters (with_block scope) 0 parameters) result (parameter_types parameters) body)
        (λ g3. body_lists (with_parameters (with_block scope) 0 parameters) (worded_parameters (with_block scope) 0 parameters (grown_worded scope last g3 worded)) result (parameter_types parameters) body formed k.Function struct k.Function turned))
        (λ items g4 v4. walks_give last scope_of_unit Anything scope [] (with_defined (with_scope x scope) name.text (function_body items.slots items.core)) (grown_itself scope) tt)))))))))
