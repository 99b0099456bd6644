-- Words, declarators and parameters that differ only in names: they name structs, declare names and have sizes at the same places. Sizes bind
-- nothing.
use Rattle.std.proofs.Common.{◌≡◌, inl, ℕ, Bool, true, false, List, [], ◌∷◌, ◌++◌, refl, sym, ap, subst, ◌∙◌, length}
use Rattle.std.specs.Prelude.{Option, Some, None, nat_le, ◌&&◌, if◌then◌else◌}
use Rattle.std.proofs.lemmas.Bool.{false≢true}
use Rattle.c_text.specs.Token.{PlainToken}
use Rattle.c_types.specs.Types.{PlainType, structure}
use Rattle.c_tree.specs.declared.kinds.Kind.{Kind}
use Rattle.c_tree.specs.declared.kinds.Kind.TheVariants as k
use Rattle.c_tree.specs.declared.terminals.Terminal.{Terminal}
use Rattle.c_tree.specs.declared.terminals.Terminal.TheVariants as t
use Rattle.c_tree.specs.Terminals.{terminal, same, is_one_of}
use Rattle.c_tree.specs.Trees.{PlainTree, PlainTrees, leaf, more}
use Rattle.c_tree.specs.Grammar.{is_absent, is_word, are_words, is_lone_void}
use Rattle.core_meaning.specs.declared.refusals.TypeKind.TheVariants.{Redeclared, Incomplete, BadConstant}
use Rattle.core_meaning.specs.Checking.{struct_entity, Binding, Checked, fine, refused, broken, ◌>>=◌, give, unless_so, or_broken, declares}
use Rattle.core_meaning.specs.Entities.{Scope}
use Rattle.core_meaning.specs.Typing.{is_complete}
use Rattle.core_meaning.specs.Expressions.{has_terminal, arithmetic_words, first_token_in}
use Rattle.core_meaning.specs.Constancy.{judged_count, count_by_initialiser, most_elements, is_small}
use Rattle.core_meaning.specs.Declarations.{name_in, behind_word, Based, with_struct, based_on_tag, based, starred, count_of_size, is_left_out, count_or_one, count_without_size, element_count, object_type, with_block, Parameter, size_of_parameter, parameter_type, token_of, is_new_parameter, parameter_entity, declares_name, may_be_parameter, judged_parameter, declared_parameter, one_parameter, with_parameter, parameters_from, parameters_in, parameters_of, judged_object, local_initial}
use Rattle.core_meaning.specs.UnitNames.{number_of_struct}
use Rattle.renamed_programs.specs.Trees.{SameButName, SameButNames, AllSameButNames, same_leaf, same_node, same_end, same_more}
use Rattle.renamed_programs.proofs.Scopes.{BothOr}
use Rattle.renamed_programs.proofs.Tokens.{same_terminal}
use Rattle.renamed_programs.proofs.Expressions.{same_terminals}
use Rattle.renamed_programs.proofs.Declarators.{same_names}
use Rattle.entity_numbers.proofs.Uses.{All, Binds, then_binds, if_binds, unless_then as unless_binds_then, unless_binds}
use Rattle.entity_numbers.specs.Kinds.{Ties, AreTied, with_tie, AreDeclaredAlike}
use Rattle.bound_slots.specs.Laws.{SizesBindNothing}
use Rattle.entity_kinds.proofs.Pairs.{Anything, Alike, alike_then, any_then, alike_give, left_refused, right_refused, left_broken, right_broken, alike_if, Never, quiet_then, unless_then, some_then, declares_then}
use Rattle.entity_kinds.proofs.Initialisers.{initials_alike}

-- ---- what trees say, whatever the names are

pub same_sign : (terminals : List Terminal) {tree other : PlainTree} → SameButNames tree other → is_word terminals tree ≡ is_word terminals other
same_sign terminals (same_leaf {a = a} {b = b} e) = ap (is_one_of terminals) (same_terminal a b e)
same_sign terminals (same_node e) = refl

same_absence : {tree other : PlainTree} → SameButNames tree other → is_absent tree ≡ is_absent other
same_absence (same_leaf e) = refl
same_absence (same_node {kind = k.Absent} same_end) = refl
same_absence (same_node {kind = k.Absent} (same_more e l)) = refl
same_absence (same_node e) = refl

same_specifying : (words : List Terminal) {parts others : PlainTrees} → AllSameButNames parts others → are_words words parts ≡ are_words words others
same_specifying [] same_end = refl
same_specifying [] (same_more e l) = refl
same_specifying (first ∷ words) same_end = refl
same_specifying (first ∷ words) (same_more {rest = rest} (same_leaf {a = a} {b = b} e) l) =
    ap (λ x. same first x && are_words words rest) (same_terminal a b e) ∙ ap (λ x. same first (terminal b) && x) (same_specifying words l)
same_specifying (first ∷ words) (same_more (same_node e) l) = refl

same_void : {parts others : PlainTrees} → AllSameButNames parts others → is_lone_void parts ≡ is_lone_void others
same_void (same_more (same_node (same_more (same_node {parts = words} {others = others} w) (same_more {tree = second} {other = last} e same_end))) same_end) =
    ap (λ x. x && is_absent second) (same_specifying (t.Void ∷ []) w) ∙ ap (λ x. are_words (t.Void ∷ []) others && x) (same_absence e)
same_void same_end = refl
same_void (same_more (same_leaf e) l) = refl
same_void (same_more (same_node same_end) l) = refl
same_void (same_more (same_node (same_more (same_leaf e) m)) l) = refl
same_void (same_more (same_node (same_more (same_node w) same_end)) l) = refl
same_void (same_more (same_node (same_more (same_node w) (same_more e (same_more f m)))) l) = refl
same_void (same_more (same_node (same_more (same_node w) (same_more e same_end))) (same_more f l)) = refl

-- trees that stand behind a word
abbrev pub BothTrees : Option PlainTree → Option PlainTree → Type 0
BothTrees o p = BothOr SameButNames o p

pub same_behind : (wanted : Terminal) {parts others : PlainTrees} → AllSameButNames parts others → BothTrees (behind_word wanted parts) (behind_word wanted others)
same_behind wanted same_end = tt
same_behind wanted (same_more (same_leaf e) same_end) = tt
same_behind wanted (same_more (same_leaf {a = a} {b = b} e) (same_more {tree = tree} {other = other} {rest = rest} {others = others} f l)) =
    subst (λ x. BothTrees (behind_word wanted (more (leaf a) (more tree rest))) (if same wanted x then Some other else behind_word wanted (more other others))) (same_terminal a b e)
    (by (same wanted (terminal a)) (same_behind wanted (same_more f l)))
  where
    by :
        (x : Bool) → BothTrees (behind_word wanted (more tree rest)) (behind_word wanted (more other others))
        → BothTrees (if x then Some tree else behind_word wanted (more tree rest)) (if x then Some other else behind_word wanted (more other others))
    by true h = f
    by false h = h
same_behind wanted (same_more (same_node e) l) = tt

-- ---- types by words

-- where the words name a struct, both types are structs that are tied
abbrev pub NameStructs : Bool → Ties → Based → Based → Type 0
NameStructs named ties x y = named ≡ true → AreTied (number_of_struct x.ty) (number_of_struct y.ty) ties

module _ (declaring : Bool) (s u : Scope) where
  tag_named : (ties : Ties) (m n : ℕ) (x y : Scope) → Alike ties (NameStructs true) (declares (struct_entity m) >>= (λ bound. give (record { ty = structure m; scope = x }))) (declares (struct_entity n) >>= (λ bound. give (record { ty = structure n; scope = y })))
  tag_named ties m n x y =
      declares_then (NameStructs true) ties (struct_entity m) (struct_entity n) (λ bound. give (record { ty = structure m; scope = x })) (λ bound. give (record { ty = structure n; scope = y })) tt
      (λ x1 y1. alike_give (NameStructs true) ((m, n) ∷ ties) _ _ (λ e. inl (refl, refl)))

  tags_alike :
      (ties : Ties) (a b : PlainToken) (o p : Option ℕ) → Alike ties (NameStructs true) (based_on_tag declaring s a o) (based_on_tag declaring u b p)
  tags_alike ties a b (Some m) (Some n) = tag_named ties m n s u
  tags_alike ties a b (Some m) None = by declaring
    where
      by : (d : Bool) → Alike ties (NameStructs true) (based_on_tag d s a (Some m)) (based_on_tag d u b None)
      by true = tag_named ties m (length u.structs) s (with_struct u b.text)
      by false = right_refused (NameStructs true) ties _ _ _
  tags_alike ties a b None (Some n) = by declaring
    where
      by : (d : Bool) → Alike ties (NameStructs true) (based_on_tag d s a None) (based_on_tag d u b (Some n))
      by true = tag_named ties (length s.structs) n (with_struct s a.text) u
      by false = left_refused (NameStructs true) ties _ _ _
  tags_alike ties a b None None = by declaring
    where
      by : (d : Bool) → Alike ties (NameStructs true) (based_on_tag d s a None) (based_on_tag d u b None)
      by true = tag_named ties (length s.structs) (length u.structs) (with_struct s a.text) (with_struct u b.text)
      by false = left_refused (NameStructs true) ties _ _ _

  pub words_alike :
      (ties : Ties) (words others : PlainTrees) → AllSameButNames words others → Alike ties (NameStructs (has_terminal t.Struct words)) (based declaring s words) (based declaring u others)
  words_alike ties words others e = by (has_terminal t.Struct words) (has_terminal t.Struct others) (same_terminals t.Struct words others e)
    where
      by :
          (x y : Bool) → x ≡ y
          → Alike ties (NameStructs x) (if x then or_broken (name_in words) >>= (λ tag. based_on_tag declaring s tag (s.tags tag.text)) else give (record { ty = arithmetic_words words; scope = s }))
          (if y then or_broken (name_in others) >>= (λ tag. based_on_tag declaring u tag (u.tags tag.text)) else give (record { ty = arithmetic_words others; scope = u }))
      by true true e = some_then (NameStructs true) ties (name_in words) (name_in others) _ _ (λ a b. tags_alike ties a b (s.tags a.text) (u.tags b.text))
      by true false e = absurd cc
      by false true e = absurd cc
      by false false e = alike_give (NameStructs false) ties _ _ (λ h. absurd (false≢true h))

-- ---- sizes and types of declarators

module _ (counts : SizesBindNothing) where
  count_quiet : (c : Checked ℕ) → ((n : ℕ) (js : List Binding) → c ≡ fine n js → js ≡ []) → Binds Never c
  count_quiet (fine n js) h = record { all = subst (λ (l : List Binding). All Never l) (sym (h n js refl)) tt }
  count_quiet (refused kind token) h = record { all = tt }
  count_quiet broken h = record { all = tt }

  size_quiet : (s : Scope) (name : PlainToken) (o : Option PlainTree) → Binds Never (count_of_size s name o)
  size_quiet s name None = record { all = tt }
  size_quiet s name (Some size) = count_quiet (judged_count s size name) (λ n js e. counts s size name n js e)

  no_size_quiet : (element : PlainType) (name : PlainToken) (o : Option PlainTree) → Binds Never (count_without_size element name o)
  no_size_quiet element name None = record { all = tt }
  no_size_quiet element name (Some value) = unless_binds_then Never (nat_le (count_or_one (count_by_initialiser element value)) most_elements) BadConstant name _ (λ x. record { all = tt })

  pub object_quiet : (s : Scope) (ty : PlainType) (kind : Kind) (parts : PlainTrees) (name : PlainToken) (o : Option PlainTree) → Binds Never (object_type s ty kind parts name o)
  object_quiet s ty k.ArrayDeclarator parts name o =
      unless_binds_then Never (is_complete s.structs (starred parts ty)) Incomplete name _
      (λ x. then_binds Never (element_count s (starred parts ty) name (behind_word t.OpenBracket parts) o) _
      (if_binds Never (is_left_out (behind_word t.OpenBracket parts)) _ _ (no_size_quiet (starred parts ty) name o) (size_quiet s name (behind_word t.OpenBracket parts))) (λ count. record { all = tt }))
  object_quiet s ty k.Declarator parts name o = record { all = tt }
  object_quiet s ty _ parts name o = record { all = tt }

  array_quiet : (s : Scope) (ty : PlainType) (kind : Kind) (parts : PlainTrees) (name : PlainToken) → Binds Never (parameter_type s ty kind parts name)
  array_quiet s ty k.ArrayDeclarator parts name =
      unless_binds_then Never (is_complete s.structs (starred parts ty)) Incomplete name _
      (λ x. then_binds Never (size_of_parameter s name (behind_word t.OpenBracket parts)) _
      (if_binds Never (is_left_out (behind_word t.OpenBracket parts)) _ _ (record { all = tt }) (size_quiet s name (behind_word t.OpenBracket parts))) (λ count. record { all = tt }))
  array_quiet s ty k.Declarator parts name = record { all = tt }
  array_quiet s ty _ parts name = record { all = tt }

  pub whole_object_quiet : (s : Scope) (ty : PlainType) (name : PlainToken) → Binds Never (judged_object s ty name)
  whole_object_quiet s ty name = unless_binds_then Never (is_complete s.structs ty) Incomplete name _ (λ x. unless_binds Never (is_small s.structs ty) BadConstant name)

  whole_parameter_quiet : (defining : Bool) (s : Scope) (ty : PlainType) (name : PlainToken) → Binds Never (judged_parameter defining s ty name)
  whole_parameter_quiet defining s ty name = unless_binds_then Never (may_be_parameter defining s ty) Incomplete name _ (λ x. unless_binds Never (is_small s.structs ty) BadConstant name)

  -- ---- parameters

  module _ (defining : Bool) where
    same_kind : (d : Bool) (ties : Ties) (m n : ℕ) → AreDeclaredAlike ties (parameter_entity d m) (parameter_entity d n)
    same_kind true ties m n = tt
    same_kind false ties m n = tt

    no_tie : (d : Bool) (ties : Ties) (m n : ℕ) → with_tie ties (parameter_entity d m) (parameter_entity d n) ≡ ties
    no_tie true ties m n = refl
    no_tie false ties m n = refl

    names_declared :
        {C D : Type 0} (W : Ties → C → D → Type 0) (ties : Ties) (o p : Option PlainToken) (m n : ℕ) (f : Unit {0} → Checked C) (g : Unit {0} → Checked D) → BothOr SameButName o p
        → ((x y : Unit {0}) → Alike ties W (f x) (g y)) → Alike ties W (declares_name o (parameter_entity defining m) >>= f) (declares_name p (parameter_entity defining n) >>= g)
    names_declared W ties None None m n f g h next = quiet_then W ties (give tt) (give tt) f g (record { all = tt }) (record { all = tt }) next
    names_declared W ties None (Some b) m n f g h next = absurd h
    names_declared W ties (Some a) None m n f g h next = absurd h
    names_declared W ties (Some a) (Some b) m n f g h next =
        declares_then W ties (parameter_entity defining m) (parameter_entity defining n) f g (same_kind defining ties m n)
        (λ x y. subst (λ (more_ : Ties). Alike more_ W (f x) (g y)) (sym (no_tie defining ties m n)) (next x y))

    named_alike :
        (ties : Ties) (s u : Scope) (before others_before : List Parameter) (ty other : PlainType) (first second : PlainToken) (kind : Kind) (parts others : PlainTrees) → AllSameButNames parts others
        → Alike {A = Parameter} {B = Parameter} ties Anything
        (unless_so (is_new_parameter before (name_in parts)) Redeclared (token_of (name_in parts) first) >>= (λ new. declares_name (name_in parts) (parameter_entity defining (length before))
        >>= (λ bound. parameter_type s ty kind parts (token_of (name_in parts) first) >>= (λ whole. judged_parameter defining s whole (token_of (name_in parts) first) >>= (λ judged. give (record { name = name_in parts; ty = whole }))))))
        (unless_so (is_new_parameter others_before (name_in others)) Redeclared (token_of (name_in others) second) >>= (λ new. declares_name (name_in others) (parameter_entity defining (length others_before))
        >>= (λ bound. parameter_type u other kind others (token_of (name_in others) second) >>= (λ whole. judged_parameter defining u whole (token_of (name_in others) second) >>= (λ judged. give (record { name = name_in others; ty = whole }))))))
    named_alike ties s u before others_before ty other first second kind parts others e =
        unless_then Anything ties (is_new_parameter before (name_in parts)) (is_new_parameter others_before (name_in others)) Redeclared Redeclared (token_of (name_in parts) first) (token_of (name_in others) second) _ _
        (λ x y. names_declared Anything ties (name_in parts) (name_in others) (length before) (length others_before) _ _ (same_names parts others e)
        (λ x1 y1. quiet_then Anything ties (parameter_type s ty kind parts (token_of (name_in parts) first)) (parameter_type u other kind others (token_of (name_in others) second)) _ _
        (array_quiet s ty kind parts (token_of (name_in parts) first)) (array_quiet u other kind others (token_of (name_in others) second))
        (λ v w. quiet_then Anything ties (judged_parameter defining s v (token_of (name_in parts) first)) (judged_parameter defining u w (token_of (name_in others) second)) _ _
        (whole_parameter_quiet defining s v (token_of (name_in parts) first)) (whole_parameter_quiet defining u w (token_of (name_in others) second)) (λ x2 y2. alike_give Anything ties _ _ tt))))

    declarators_alike :
        {tree other : PlainTree} (ties : Ties) (s u : Scope) (before others_before : List Parameter) (ty kind : PlainType) (first second : PlainToken) → SameButNames tree other
        → Alike ties Anything (declared_parameter defining s before ty first tree) (declared_parameter defining u others_before kind second other)
    declarators_alike ties s u before others_before ty kind first second (same_node {kind = k.Absent} e) =
        quiet_then Anything ties (judged_parameter defining s ty first) (judged_parameter defining u kind second) _ _ (whole_parameter_quiet defining s ty first) (whole_parameter_quiet defining u kind second)
        (λ x y. alike_give Anything ties _ _ tt)
    declarators_alike ties s u before others_before ty kind first second (same_node {kind = inner} {parts = parts} {others = others} e) = named_alike ties s u before others_before ty kind first second inner parts others e
    declarators_alike ties s u before others_before ty kind first second (same_leaf e) = left_broken Anything ties _

    ones_alike :
        {tree other : PlainTree} (ties : Ties) (s u : Scope) (before others_before : List Parameter) (a b : PlainToken) → SameButNames tree other
        → Alike ties Anything (one_parameter defining s before tree a) (one_parameter defining u others_before other b)
    ones_alike ties s u before others_before a b (same_node (same_more (same_node {parts = words} {others = others} w) (same_more {tree = tree} {other = other} e same_end))) =
        alike_then (NameStructs (has_terminal t.Struct words)) Anything ties (based false s words) (based false u others) _ _ (words_alike false s u ties words others w)
        (λ more_ grows x y v. declarators_alike more_ s u before others_before x.ty y.ty (first_token_in words a) (first_token_in others b) e)
    ones_alike ties s u before others_before a b (same_leaf e) = left_broken Anything ties _
    ones_alike ties s u before others_before a b (same_node e) = left_broken Anything ties _

    from_alike :
        {parts others : PlainTrees} (ties : Ties) (s u : Scope) (before others_before : List Parameter) (a b : PlainToken) → AllSameButNames parts others
        → Alike ties Anything (parameters_from defining s before parts a) (parameters_from defining u others_before others b)
    from_alike ties s u before others_before a b same_end = alike_give Anything ties _ _ tt
    from_alike ties s u before others_before a b (same_more {tree = tree} {other = other} e same_end) =
        any_then Anything ties (one_parameter defining s before tree a) (one_parameter defining u others_before other b) _ _ (ones_alike ties s u before others_before a b e) (λ more_ grows p q. alike_give Anything more_ _ _ tt)
    from_alike ties s u before others_before a b (same_more {tree = tree} {other = other} e (same_more {rest = rest} {others = others} x l)) =
        any_then Anything ties (one_parameter defining s before tree a) (one_parameter defining u others_before other b) _ _ (ones_alike ties s u before others_before a b e)
        (λ more_ grows p q. from_alike more_ (with_parameter s (length before) p.name p.ty) (with_parameter u (length others_before) q.name q.ty) (before ++ p ∷ []) (others_before ++ q ∷ []) a b l)

    lists_alike :
        {tree other : PlainTree} (ties : Ties) (s u : Scope) (a b : PlainToken) → SameButNames tree other → Alike ties Anything (parameters_in defining s tree a) (parameters_in defining u other b)
    lists_alike ties s u a b (same_node {kind = k.Parameters} {parts = parts} {others = others} e) =
        alike_if Anything ties (is_lone_void parts) (is_lone_void others) _ _ _ _ (same_void e) (alike_give Anything ties _ _ tt) (from_alike ties (with_block s) (with_block u) [] [] a b e)
    lists_alike ties s u a b (same_leaf e) = alike_give Anything ties _ _ tt
    lists_alike ties s u a b (same_node e) = alike_give Anything ties _ _ tt

    pub parameters_alike :
        (ties : Ties) (s u : Scope) (o p : Option PlainTree) (a b : PlainToken) → BothTrees o p → Alike ties Anything (parameters_of defining s o a) (parameters_of defining u p b)
    parameters_alike ties s u None p a b h = left_broken Anything ties _
    parameters_alike ties s u (Some tree) None a b h = right_broken Anything ties _
    parameters_alike ties s u (Some tree) (Some other) a b h = lists_alike ties s u a b h

-- ---- values that locals start with

pub local_values_alike :
    (ties : Ties) (s u : Scope) (ty kind : PlainType) (a b : PlainToken) (o p : Option PlainTree) → BothTrees o p → Alike ties Anything (local_initial s ty a o) (local_initial u kind b p)
local_values_alike ties s u ty kind a b None None h = alike_give Anything ties _ _ tt
local_values_alike ties s u ty kind a b None (Some other) h = absurd h
local_values_alike ties s u ty kind a b (Some tree) None h = absurd h
local_values_alike ties s u ty kind a b (Some tree) (Some other) h = initials_alike s u None None ties ty kind [] [] a b h
