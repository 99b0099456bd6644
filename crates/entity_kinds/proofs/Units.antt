-- Items of units that differ only in names declare things of one kind at the same places.
use Rattle.std.proofs.Common.{◌≡◌, ℕ, ◌+◌, Bool, true, false, List, [], ◌∷◌, ◌++◌, refl, sym, ap, subst, ◌∙◌, arith}
use Rattle.std.specs.Prelude.{Option, Some, None, is_some, not, ◌&&◌, if◌then◌else◌}
use Rattle.c_text.specs.Token.{PlainToken}
use Rattle.c_types.specs.Types.{PlainType}
use Rattle.c_tree.specs.declared.kinds.Kind.{Kind}
use Rattle.c_tree.specs.declared.kinds.Kind.TheVariants as k
use Rattle.c_tree.specs.declared.terminals.Terminal.TheVariants as t
use Rattle.c_tree.specs.Trees.{PlainTree, PlainTrees, none, more}
use Rattle.c_tree.specs.Grammar.{is_word}
use Rattle.core_meaning.specs.declared.refusals.TypeKind.TheVariants.{Redeclared}
use Rattle.core_meaning.specs.Checking.{file_entity, fine, ◌>>=◌, give, unless_so}
use Rattle.core_meaning.specs.Entities.{Struct, Sort, variable, function, FileName, Numbers, Scope}
use Rattle.core_meaning.specs.Typing.{is_complete}
use Rattle.core_meaning.specs.Expressions.{has_terminal}
use Rattle.core_meaning.specs.Constancy.{initial}
use Rattle.core_meaning.specs.Declarations.{name_in, behind_word, based, starred, object_type, parameters_of, with_block}
use Rattle.core_meaning.specs.UnitNames.{object_body, tentative_body, function_body, Defined, UnitState, Storage, by_static, by_extern, by_none, storage_of, is_function, same_sort, same_bool, linkage, declared_again, declared_as, with_name, may_be_incomplete, judged_global, constant_parts, with_defined, with_scope, defined_object, declared_object, parameter_types, signature_of, refused_initialiser, may_be_function, new_function, declared_function, declared_one, declared_from, with_parameters, is_result, result_kind, judged_body, is_function_body, count_functions, defined_function, judged_item, judged_file_items, unit_start, too_big_in, unless_too_big, judged_unit}
use Rattle.tree_derivations.specs.Derivations.{IsDerived, UnitsAreDerived}
use Rattle.renamed_programs.specs.Trees.{SameButNames, AllSameButNames, same_leaf, same_node, same_end, same_more}
use Rattle.renamed_programs.proofs.Expressions.{same_terminals}
use Rattle.entity_numbers.proofs.Uses.{Binds, if_binds, unless_then as unless_binds_then}
use Rattle.entity_numbers.specs.Kinds.{Ties}
use Rattle.bound_slots.specs.Laws.{SizesBindNothing}
use Rattle.entity_kinds.specs.Laws.{KindsAreAlike}
use Rattle.entity_kinds.proofs.Pairs.{Anything, Sides, Alike, alike_then, any_then, alike_give, left_broken, alike_if, Never, quiet_then, unless_then, some_then, declares_then, alike_function}
use Rattle.entity_kinds.proofs.Initialisers.{initials_alike}
use Rattle.entity_kinds.proofs.Declarators.{BothTrees, same_sign, same_behind, NameStructs, words_alike, object_quiet, whole_object_quiet, parameters_alike}
use Rattle.entity_kinds.proofs.Statements.{items_alike}
use Rattle.entity_kinds.proofs.Tags.{IsTaggedItem, AreTaggedItems, items_tagged}
use Rattle.entity_kinds.proofs.Members.{AsManyFunctions, structs_alike}

-- ---- words of storage, and functions that are defined

storage_same : {words others : PlainTrees} → AllSameButNames words others → storage_of words ≡ storage_of others
storage_same {words = words} {others = others} e =
    ap (λ b. if b then by_static else if has_terminal t.Extern words then by_extern else by_none) (same_terminals t.Static words others e)
    ∙ ap (λ b. if has_terminal t.Static others then by_static else if b then by_extern else by_none) (same_terminals t.Extern words others e)

one_more : (ds : List Defined) (d : Defined) → count_functions (ds ++ d ∷ []) ≡ count_functions ds + (if is_function_body d.body then 1 else 0)
one_more [] d = let n : ℕ = if is_function_body d.body then 1 else 0 in let e : n + 0 ≡ 0 + n = omega arith in e
one_more (x ∷ ds) d =
    let m : ℕ = if is_function_body x.body then 1 else 0 in
    let n : ℕ = if is_function_body d.body then 1 else 0 in
    let e : m + (count_functions ds + n) ≡ (m + count_functions ds) + n = omega arith in
    ap (λ l. m + l) (one_more ds d) ∙ e

pub still_as_many : (ds es : List Defined) (d e : Defined) → is_function_body d.body ≡ is_function_body e.body → count_functions ds ≡ count_functions es → count_functions (ds ++ d ∷ []) ≡ count_functions (es ++ e ∷ [])
still_as_many ds es d e same_ h =
    one_more ds d ∙ ap (λ n. n + (if is_function_body d.body then 1 else 0)) h ∙ ap (λ (b : Bool). count_functions es + (if b then 1 else 0)) same_ ∙ sym (one_more es e)

-- ---- judgements of names, which bind nothing

again_quiet : (s : Scope) (name : PlainToken) (sort : Sort) (internal : Bool) (v : FileName) → Binds Never (declared_again s name sort internal v)
again_quiet s name sort internal v = unless_binds_then Never (same_sort v.sort sort && same_bool v.internal internal) Redeclared name _ (λ x. record { all = tt })

as_quiet : (s : Scope) (name : PlainToken) (sort : Sort) (internal : Bool) (o : Option FileName) → Binds Never (declared_as s name sort internal o)
as_quiet s name sort internal (Some v) = again_quiet s name sort internal v
as_quiet s name sort internal None = record { all = tt }

name_quiet : (s : Scope) (name : PlainToken) (sort : Sort) (storage : Storage) → Binds Never (with_name s name sort storage)
name_quiet s name sort storage = as_quiet s name sort (linkage storage (is_function sort) (s.file_names name.text)) (s.file_names name.text)

value_quiet : (o : Option PlainTree) (name : PlainToken) → Binds Never (refused_initialiser o name)
value_quiet None name = record { all = tt }
value_quiet (Some value) name = record { all = tt }

small_quiet : (o : Option PlainToken) → Binds Never (unless_too_big o)
small_quiet None = record { all = tt }
small_quiet (Some name) = record { all = tt }

module _ (counts : SizesBindNothing) where
  global_quiet : (storage : Storage) (given_ : Bool) (s : Scope) (ty : PlainType) (name : PlainToken) (rest : PlainTrees) → Binds Never (judged_global storage given_ s ty name rest)
  global_quiet storage given_ s ty name rest =
      if_binds Never (may_be_incomplete storage given_ s.structs ty rest && not (is_complete s.structs ty)) _ _ (record { all = tt }) (whole_object_quiet counts s ty name)

  -- ---- objects

  module _ (globals count : ℕ) where
    defined_alike :
        (ties : Ties) (x y : UnitState) (storage : Storage) (ty kind : PlainType) (a b : PlainToken) (o p : Option PlainTree) → BothTrees o p → AsManyFunctions ties x y
        → Alike ties AsManyFunctions (defined_object globals x storage ty a o) (defined_object count y storage kind b p)
    defined_alike ties x y by_extern ty kind a b None None h same_ = alike_give AsManyFunctions ties x y same_
    defined_alike ties x y by_static ty kind a b None None h same_ =
        alike_give AsManyFunctions ties _ _ (still_as_many x.defined y.defined (record { name = a.text; body = tentative_body }) (record { name = b.text; body = tentative_body }) refl same_)
    defined_alike ties x y by_none ty kind a b None None h same_ =
        alike_give AsManyFunctions ties _ _ (still_as_many x.defined y.defined (record { name = a.text; body = tentative_body }) (record { name = b.text; body = tentative_body }) refl same_)
    defined_alike ties x y storage ty kind a b (Some tree) (Some other) h same_ =
        any_then AsManyFunctions ties (initial x.scope (Some globals) ty [] tree a) (initial y.scope (Some count) kind [] other b) _ _ (initials_alike x.scope y.scope (Some globals) (Some count) ties ty kind [] [] a b h)
        (λ more_ grows v w. some_then AsManyFunctions more_ (constant_parts globals v) (constant_parts count w) _ _
        (λ c d. alike_give AsManyFunctions more_ _ _ (still_as_many x.defined y.defined (record { name = a.text; body = object_body c }) (record { name = b.text; body = object_body d }) refl same_)))
    defined_alike ties x y storage ty kind a b None (Some other) h same_ = absurd h
    defined_alike ties x y storage ty kind a b (Some tree) None h same_ = absurd h

    object_alike :
        (ties : Ties) (x y : UnitState) (storage : Storage) (ty other : PlainType) (kind : Kind) (parts others : PlainTrees) (a b : PlainToken) (o p : Option PlainTree) (rest behind : PlainTrees) → BothTrees o p → AsManyFunctions ties x y
        → Alike ties AsManyFunctions (declared_object globals x storage ty kind parts a o rest) (declared_object count y storage other kind others b p behind)
    object_alike ties x y storage ty other kind parts others a b o p rest behind h same_ =
        declares_then AsManyFunctions ties (file_entity a.text) (file_entity b.text)
        (λ bound. object_type x.scope ty kind parts a o >>= (λ whole. with_name x.scope a (variable whole) storage >>= (λ scope. judged_global storage (is_some o) scope whole a rest >>= (λ judged_. defined_object globals (with_scope x scope) storage whole a o))))
        (λ bound. object_type y.scope other kind others b p >>= (λ whole. with_name y.scope b (variable whole) storage >>= (λ scope. judged_global storage (is_some p) scope whole b behind >>= (λ judged_. defined_object count (with_scope y scope) storage whole b p)))) tt
        (λ x1 y1. quiet_then AsManyFunctions ties (object_type x.scope ty kind parts a o) (object_type y.scope other kind others b p) _ _ (object_quiet counts x.scope ty kind parts a o) (object_quiet counts y.scope other kind others b p)
        (λ v w. quiet_then AsManyFunctions ties (with_name x.scope a (variable v) storage) (with_name y.scope b (variable w) storage) _ _ (name_quiet x.scope a (variable v) storage) (name_quiet y.scope b (variable w) storage)
        (λ s u. quiet_then AsManyFunctions ties (judged_global storage (is_some o) s v a rest) (judged_global storage (is_some p) u w b behind) _ _ (global_quiet storage (is_some o) s v a rest) (global_quiet storage (is_some p) u w b behind)
        (λ x2 y2. defined_alike ties (with_scope x s) (with_scope y u) storage v w a b o p h same_))))

    -- ---- declarations of functions

    new_alike :
        (defining : Bool) (ties : Ties) (s u : Scope) (storage : Storage) (ty other : PlainType) {parts others : PlainTrees} (a b : PlainToken) → AllSameButNames parts others
        → Alike ties Anything (new_function defining s storage ty parts a) (new_function defining u storage other others b)
    new_alike defining ties s u storage ty other {parts = parts} {others = others} a b e =
        unless_then Anything ties (may_be_function storage ty (s.file_names a.text)) (may_be_function storage other (u.file_names b.text)) Redeclared Redeclared a b _ _
        (λ x y. parameters_alike counts defining ties s u (behind_word t.OpenParenthesis parts) (behind_word t.OpenParenthesis others) a b (same_behind t.OpenParenthesis e))

    function_alike :
        (ties : Ties) (x y : UnitState) (storage : Storage) (ty other : PlainType) {parts others : PlainTrees} (a b : PlainToken) (o p : Option PlainTree) → AllSameButNames parts others → AsManyFunctions ties x y
        → Alike ties AsManyFunctions (declared_function x storage ty parts a o) (declared_function y storage other others b p)
    function_alike ties x y storage ty other {parts = parts} {others = others} a b o p e same_ =
        declares_then AsManyFunctions ties (file_entity a.text) (file_entity b.text)
        (λ bound. new_function false x.scope storage (starred parts ty) parts a >>= (λ parameters. with_name x.scope a (function (signature_of (starred parts ty) parameters)) storage >>= (λ scope. refused_initialiser o a >>= (λ none_given. give (with_scope x scope)))))
        (λ bound. new_function false y.scope storage (starred others other) others b >>= (λ parameters. with_name y.scope b (function (signature_of (starred others other) parameters)) storage >>= (λ scope. refused_initialiser p b >>= (λ none_given. give (with_scope y scope))))) tt
        (λ x1 y1. any_then AsManyFunctions ties (new_function false x.scope storage (starred parts ty) parts a) (new_function false y.scope storage (starred others other) others b) _ _ (new_alike false ties x.scope y.scope storage (starred parts ty) (starred others other) a b e)
        (λ more_ grows v w. quiet_then AsManyFunctions more_ (with_name x.scope a (function (signature_of (starred parts ty) v)) storage) (with_name y.scope b (function (signature_of (starred others other) w)) storage) _ _
        (name_quiet x.scope a (function (signature_of (starred parts ty) v)) storage) (name_quiet y.scope b (function (signature_of (starred others other) w)) storage)
        (λ s u. quiet_then AsManyFunctions more_ (refused_initialiser o a) (refused_initialiser p b) _ _ (value_quiet o a) (value_quiet p b) (λ x2 y2. alike_give AsManyFunctions more_ _ _ same_))))

    -- ---- declarators at file scope

    one_alike :
        {tree other : PlainTree} (ties : Ties) (x y : UnitState) (storage : Storage) (ty kind : PlainType) (o p : Option PlainTree) (rest behind : PlainTrees) → SameButNames tree other → BothTrees o p → AsManyFunctions ties x y
        → Alike ties AsManyFunctions (declared_one globals x storage ty tree o rest) (declared_one count y storage kind other p behind)
    one_alike ties x y storage ty kind o p rest behind (same_node {kind = k.FunctionDeclarator} {parts = parts} {others = others} e) h same_ =
        some_then AsManyFunctions ties (name_in parts) (name_in others) _ _ (λ a b. function_alike ties x y storage ty kind a b o p e same_)
    one_alike ties x y storage ty kind o p rest behind (same_node {kind = inner} {parts = parts} {others = others} e) h same_ =
        some_then AsManyFunctions ties (name_in parts) (name_in others) _ _ (λ a b. object_alike ties x y storage ty kind inner parts others a b o p rest behind h same_)
    one_alike ties x y storage ty kind o p rest behind (same_leaf e) h same_ = left_broken AsManyFunctions ties _

    first_then :
        {tree other : PlainTree} (parts others : PlainTrees) (o p : Option PlainTree) (rest behind : PlainTrees) (ty kind : PlainType) (storage : Storage) → SameButNames tree other → BothTrees o p
        → ((ties : Ties) (x y : UnitState) → AsManyFunctions ties x y → Alike ties AsManyFunctions (declared_from globals x storage ty parts rest) (declared_from count y storage kind others behind))
        → (ties : Ties) (x y : UnitState) → AsManyFunctions ties x y
        → Alike ties AsManyFunctions (declared_one globals x storage ty tree o rest >>= (λ first. declared_from globals first storage ty parts rest)) (declared_one count y storage kind other p behind >>= (λ first. declared_from count first storage kind others behind))
    first_then {tree = tree} {other = other} parts others o p rest behind ty kind storage e h next ties x y same_ =
        alike_then AsManyFunctions AsManyFunctions ties (declared_one globals x storage ty tree o rest) (declared_one count y storage kind other p behind) _ _ (one_alike ties x y storage ty kind o p rest behind e h same_)
        (λ more_ grows v w i. next more_ v w i)

    names_alike :
        {parts others : PlainTrees} (rest behind : PlainTrees) (ty kind : PlainType) (storage : Storage) → AllSameButNames parts others → (ties : Ties) (x y : UnitState) → AsManyFunctions ties x y
        → Alike ties AsManyFunctions (declared_from globals x storage ty parts rest) (declared_from count y storage kind others behind)
    names_alike rest behind ty kind storage same_end ties x y same_ = left_broken AsManyFunctions ties _
    names_alike rest behind ty kind storage (same_more e same_end) ties x y same_ = one_alike ties x y storage ty kind None None rest behind e tt same_
    names_alike rest behind ty kind storage (same_more e (same_more z same_end)) ties x y same_ = left_broken AsManyFunctions ties _
    names_alike rest behind ty kind storage (same_more e (same_more {tree = sign} {other = mark} z (same_more {tree = next} {other = second} f same_end))) ties x y same_ =
        alike_if AsManyFunctions ties (is_word (t.Assign ∷ []) sign) (is_word (t.Assign ∷ []) mark) _ _ _ _ (same_sign (t.Assign ∷ []) z)
        (one_alike ties x y storage ty kind (Some next) (Some second) rest behind e f same_)
        (first_then (more next none) (more second none) None None rest behind ty kind storage e tt (names_alike rest behind ty kind storage (same_more f same_end)) ties x y same_)
    names_alike rest behind ty kind storage (same_more e (same_more {tree = sign} {other = mark} z (same_more {tree = next} {other = second} f (same_more {tree = comma} {other = point} {rest = further} {others = others} v l)))) ties x y same_ =
        alike_if AsManyFunctions ties (is_word (t.Assign ∷ []) sign) (is_word (t.Assign ∷ []) mark) _ _ _ _ (same_sign (t.Assign ∷ []) z)
        (first_then further others (Some next) (Some second) rest behind ty kind storage e f (names_alike rest behind ty kind storage l) ties x y same_)
        (first_then (more next (more comma further)) (more second (more point others)) None None rest behind ty kind storage e tt (names_alike rest behind ty kind storage (same_more f (same_more v l))) ties x y same_)

    -- ---- definitions of functions

    body_alike :
        {tree other : PlainTree} (ties : Ties) (s u : Scope) (result kind : PlainType) (slots places : List PlainType) → SameButNames tree other
        → Alike ties Anything (judged_body s result slots tree) (judged_body u kind places other)
    body_alike ties s u result kind slots places (same_node (same_more x (same_more (same_node {kind = k.Items} e) (same_more y same_end)))) =
        items_alike counts ties (record { scope = s; result = result; in_loop = false }) (record { scope = u; result = kind; in_loop = false }) slots places e
    body_alike ties s u result kind slots places (same_node (same_more x (same_more (same_node {kind = k.Absent} e) (same_more y same_end)))) = alike_give Anything ties _ _ tt
    body_alike ties s u result kind slots places (same_leaf e) = left_broken Anything ties _
    body_alike ties s u result kind slots places (same_node e) = left_broken Anything ties _

    definition_alike :
        {parts others : PlainTrees} {body second : PlainTree} (ties : Ties) (x y : UnitState) (storage : Storage) (ty other : PlainType) (a b : PlainToken) → AllSameButNames parts others → SameButNames body second → AsManyFunctions ties x y
        → Alike ties AsManyFunctions (defined_function x storage ty parts a body) (defined_function y storage other others b second)
    definition_alike {parts = parts} {others = others} {body = body} {second = second} ties x y storage ty other a b e f same_ =
        let result : PlainType = starred parts ty in
        let kind : PlainType = starred others other in
        declares_then AsManyFunctions ties (file_entity a.text) (file_entity b.text)
        (λ bound. unless_so (is_result x.scope result) (result_kind x.scope storage result a (parameters_of true x.scope (behind_word t.OpenParenthesis parts) a)) a
        >>= (λ fits. new_function true x.scope storage result parts a >>= (λ parameters. with_name x.scope a (function (signature_of result parameters)) storage
        >>= (λ scope. judged_body (with_parameters (with_block scope) 0 parameters) result (parameter_types parameters) body >>= (λ items. give (with_defined (with_scope x scope) a.text (function_body items.slots items.core)))))))
        (λ bound. unless_so (is_result y.scope kind) (result_kind y.scope storage kind b (parameters_of true y.scope (behind_word t.OpenParenthesis others) b)) b
        >>= (λ fits. new_function true y.scope storage kind others b >>= (λ parameters. with_name y.scope b (function (signature_of kind parameters)) storage
        >>= (λ scope. judged_body (with_parameters (with_block scope) 0 parameters) kind (parameter_types parameters) second >>= (λ items. give (with_defined (with_scope y scope) b.text (function_body items.slots items.core))))))) tt
        (λ x1 y1. unless_then AsManyFunctions ties (is_result x.scope result) (is_result y.scope kind) (result_kind x.scope storage result a (parameters_of true x.scope (behind_word t.OpenParenthesis parts) a)) (result_kind y.scope storage kind b (parameters_of true y.scope (behind_word t.OpenParenthesis others) b)) a b _ _
        (λ x2 y2. any_then AsManyFunctions ties (new_function true x.scope storage result parts a) (new_function true y.scope storage kind others b) _ _ (new_alike true ties x.scope y.scope storage result kind a b e)
        (λ more_ grows v w. quiet_then AsManyFunctions more_ (with_name x.scope a (function (signature_of result v)) storage) (with_name y.scope b (function (signature_of kind w)) storage) _ _
        (name_quiet x.scope a (function (signature_of result v)) storage) (name_quiet y.scope b (function (signature_of kind w)) storage)
        (λ s u. any_then AsManyFunctions more_ (judged_body (with_parameters (with_block s) 0 v) result (parameter_types v) body) (judged_body (with_parameters (with_block u) 0 w) kind (parameter_types w) second) _ _
        (body_alike more_ (with_parameters (with_block s) 0 v) (with_parameters (with_block u) 0 w) result kind (parameter_types v) (parameter_types w) f)
        (λ third grows' i j. alike_give AsManyFunctions third _ _ (still_as_many x.defined y.defined (record { name = a.text; body = function_body i.slots i.core }) (record { name = b.text; body = function_body j.slots j.core }) refl same_))))))

    -- ---- items

    item_alike :
        {tree other : PlainTree} (ties : Ties) (x y : UnitState) (rest behind : PlainTrees) → IsTaggedItem tree → SameButNames tree other → AsManyFunctions ties x y
        → Alike ties AsManyFunctions (judged_item globals x tree rest) (judged_item count y other behind)
    item_alike ties x y rest behind has (same_node {kind = k.StructDefinition} (same_more (same_node w) (same_more z (same_more (same_node e) l)))) same_ = structs_alike counts ties x y has same_ w e
    item_alike ties x y rest behind has (same_node {kind = k.StructDeclaration} (same_more (same_node {parts = words} {others = terms} w) (same_more z same_end))) same_ =
        alike_then (NameStructs (has_terminal t.Struct words)) AsManyFunctions ties (based true x.scope words) (based true y.scope terms) _ _ (words_alike true x.scope y.scope ties words terms w) (λ more_ grows p q v. alike_give AsManyFunctions more_ _ _ same_)
    item_alike ties x y rest behind has (same_node {kind = k.Declaration} (same_more (same_node {parts = words} {others = terms} w) (same_more (same_node {parts = parts} {others = others} e) (same_more z same_end)))) same_ =
        alike_then (NameStructs (has_terminal t.Struct words)) AsManyFunctions ties (based true x.scope words) (based true y.scope terms) _ _ (words_alike true x.scope y.scope ties words terms w)
        (λ more_ grows p q v. subst (λ storage. Alike more_ AsManyFunctions (declared_from globals (with_scope x p.scope) (storage_of words) p.ty parts rest) (declared_from count (with_scope y q.scope) storage q.ty others behind)) (storage_same w)
        (names_alike rest behind p.ty q.ty (storage_of words) e more_ (with_scope x p.scope) (with_scope y q.scope) same_))
    item_alike ties x y rest behind has
        (same_node {kind = k.Function} (same_more (same_node {parts = words} {others = terms} w) (same_more (same_node (same_more (same_node {parts = parts} {others = others} e) same_end)) (same_more {tree = body} {other = second} f same_end)))) same_ =
        alike_then (NameStructs (has_terminal t.Struct words)) AsManyFunctions ties (based false x.scope words) (based false y.scope terms) _ _ (words_alike false x.scope y.scope ties words terms w)
        (λ more_ grows p q v. some_then AsManyFunctions more_ (name_in parts) (name_in others) _ _
        (λ a b. alike_function AsManyFunctions more_ (count_functions x.defined) (count_functions y.defined) (defined_function x (storage_of words) p.ty parts a body) (defined_function y (storage_of terms) q.ty others b second) same_
        (subst (λ storage. Alike more_ AsManyFunctions (defined_function x (storage_of words) p.ty parts a body) (defined_function y storage q.ty others b second)) (storage_same w)
        (definition_alike more_ x y (storage_of words) p.ty q.ty a b e f same_))))
    item_alike ties x y rest behind has (same_leaf e) same_ = left_broken AsManyFunctions ties _
    item_alike ties x y rest behind has (same_node e) same_ = left_broken AsManyFunctions ties _

    all_alike :
        {parts others : PlainTrees} (ties : Ties) (x y : UnitState) → AreTaggedItems parts → AllSameButNames parts others → AsManyFunctions ties x y
        → Alike ties AsManyFunctions (judged_file_items globals x parts) (judged_file_items count y others)
    all_alike ties x y has same_end same_ = alike_give AsManyFunctions ties x y same_
    all_alike ties x y has (same_more {tree = tree} {other = other} {rest = rest} {others = others} e l) same_ =
        alike_then AsManyFunctions AsManyFunctions ties (judged_item globals x tree rest) (judged_item count y other others) _ _ (item_alike ties x y rest others has.0 e same_)
        (λ more_ grows v w i. all_alike more_ v w has.1 l i)

    -- ---- units

    unit_alike :
        {tree other : PlainTree} (structs others : List Struct) (numbers more_ : Numbers) → IsDerived tree → SameButNames tree other
        → Alike [] AsManyFunctions (judged_unit globals structs numbers tree) (judged_unit count others more_ other)
    unit_alike structs others numbers more_ derived (same_leaf e) = left_broken AsManyFunctions [] _
    unit_alike structs others numbers more_ derived (same_node {kind = k.Unit} {parts = parts} {others = further} e) =
        alike_then AsManyFunctions AsManyFunctions [] (judged_file_items globals (unit_start structs numbers) parts) (judged_file_items count (unit_start others more_) further) _ _
        (all_alike [] (unit_start structs numbers) (unit_start others more_) (items_tagged derived) e refl)
        (λ ties grows x y i. quiet_then AsManyFunctions ties (unless_too_big (too_big_in x.scope parts)) (unless_too_big (too_big_in y.scope further)) _ _ (small_quiet (too_big_in x.scope parts)) (small_quiet (too_big_in y.scope further))
        (λ v w. alike_give AsManyFunctions ties x y i))
    unit_alike structs others numbers more_ derived (same_node e) = absurd derived

pub kinds_are_alike : UnitsAreDerived → SizesBindNothing → KindsAreAlike
kinds_are_alike derived counts tree other is e globals count structs others numbers more_ unit after js ks first second =
    let both = (unit_alike counts globals count structs others numbers more_ (derived tree is) e).holds in
    (subst (λ d. Sides AsManyFunctions [] (fine unit js) d) second (subst (λ c. Sides AsManyFunctions [] c (judged_unit count others more_ other)) first both)).0
