-- What declarators and words of units that are alike say: as many stars, names and sizes that correspond, the same types.
use Rattle.std.proofs.Common.{◌≡◌, ℕ, ◌+◌, suc, ◌<◌, Bool, true, false, List, [], ◌∷◌, ◌++◌, refl, sym, ap, subst, ◌∙◌, length, arith}
use Rattle.std.specs.Prelude.{Option, Some, None, if◌then◌else◌, nat_le, ◌||◌}
use Rattle.std.specs.Str.{bytes_eq}
use Rattle.c_text.specs.Token.{PlainToken}
use Rattle.c_types.specs.Types.{PlainType, array_of, structure, pointer_to}
use Rattle.c_tree.specs.declared.kinds.Kind.{Kind}
use Rattle.c_tree.specs.declared.kinds.Kind.TheVariants as k
use Rattle.c_tree.specs.declared.terminals.Terminal.{Terminal}
use Rattle.c_tree.specs.declared.terminals.Terminal.TheVariants as t
use Rattle.c_tree.specs.Terminals.{terminal, same, is_one_of}
use Rattle.c_tree.specs.Trees.{PlainTree, PlainTrees, leaf, none, more, absent}
use Rattle.c_tree.specs.Grammar.{Category, expression, initialiser, parameters, Slot, word, perhaps, stars, optional, bracketed_size, is_absent, is_word}
use Rattle.c_tree.specs.Heights.{count_stars}
use Rattle.c_tree.proofs.TerminalCases.{same-true}
use Rattle.core_meaning.specs.declared.refusals.TypeKind.TheVariants.{Incomplete, BadConstant}
use Rattle.core_meaning.specs.Checking.{struct_entity, ◌>>=◌, give, unless_so}
use Rattle.core_meaning.specs.Entities.{Table, with_entry, Struct, Scope}
use Rattle.core_meaning.specs.Typing.{is_complete}
use Rattle.core_meaning.specs.Expressions.{has_terminal, arithmetic_words}
use Rattle.core_meaning.specs.Constancy.{count_by_initialiser, most_elements}
use Rattle.core_meaning.specs.Declarations.{name_in, behind_word, Based, new_struct, with_struct, based_on_tag, based, pointers, starred, count_of_size, is_left_out, count_or_one, count_without_size, element_count, object_type, size_of_parameter, parameter_type}
use Rattle.tree_derivations.specs.Derivations.{Derivation, single, made_of, Row, a_word, perhaps_there, not_there, a_star, no_star, left_out, given, IsWord}
use Rattle.renamed_programs.specs.Trees.{SameButName, SameButNames, AllSameButNames, same_leaf, same_node, same_end, same_more}
use Rattle.renamed_programs.proofs.Alike.{Naming, Alike, Equal, alike_equal, alike_tests, alike_somes, alike_if, alike_give, alike_refused, alike_broken, refused_alike, alike_declares}
use Rattle.renamed_programs.proofs.Tokens.{same_terminal}
use Rattle.renamed_programs.proofs.Scopes.{SameStruct, AlikeScopes, AreDeclared, BothOr, zip_append, zip_length}
use Rattle.renamed_programs.proofs.Expressions.{same_terminals, same_words, expression_alike}
use Rattle.renamed_programs.proofs.Constants.{count_same, count_alike}

-- ---- words and names

same_name_in :
    (a b : PlainToken) (rest others : PlainTrees) (x y : Bool) → SameButName a b → BothOr SameButName (name_in rest) (name_in others)
    → BothOr SameButName (if x then Some a else if y then None else name_in rest) (if x then Some b else if y then None else name_in others)
same_name_in a b rest others true y e i = e
same_name_in a b rest others false true e i = tt
same_name_in a b rest others false false e i = i

pub same_names : (parts others : PlainTrees) → AllSameButNames parts others → BothOr SameButName (name_in parts) (name_in others)
same_names _ _ same_end = tt
same_names _ _ (same_more {rest = rest} {others = others} (same_leaf {a = a} {b = b} e) r) =
    subst (λ x. BothOr SameButName (name_in (more (leaf a) rest)) (if same t.Name x then Some b else if same t.OpenBracket x then None else name_in others)) (same_terminal a b e)
    (same_name_in a b rest others (same t.Name (terminal a)) (same t.OpenBracket (terminal a)) e (same_names rest others r))
same_names _ _ (same_more (same_node e) r) = tt

pub word_is : (wanted : Terminal) (token : PlainToken) → IsWord (wanted ∷ []) token → terminal token ≡ wanted
word_is wanted token w = same-true (terminal token) wanted (by (same (terminal token) wanted) w)
  where
    by : (b : Bool) → (b || false) ≡ true → b ≡ true
    by true h = refl
    by false h = h

pub skip_word : (wanted : Terminal) (token : PlainToken) (rest : PlainTrees) → same wanted (terminal token) ≡ false → behind_word wanted (more (leaf token) rest) ≡ behind_word wanted rest
skip_word wanted token none e = refl
skip_word wanted token (more next rest) e = ap (λ x. if x then Some next else behind_word wanted (more next rest)) e

pub hit_word : (wanted : Terminal) (token : PlainToken) (next : PlainTree) (rest : PlainTrees) → same wanted (terminal token) ≡ true → behind_word wanted (more (leaf token) (more next rest)) ≡ Some next
hit_word wanted token next rest e = ap (λ x. if x then Some next else behind_word wanted (more next rest)) e

-- ---- trees that stand behind a word

-- two that are alike, of a category or left out, or none
pub data Behind (category : Category) : Option PlainTree → Option PlainTree → Type 0 where
  none_behind : Behind category None None
  left_out_behind : Behind category (Some absent) (Some absent)
  some_behind : {tree other : PlainTree} → Derivation category tree → SameButNames tree other → Behind category (Some tree) (Some other)

skipped :
    (category : Category) (wanted passed_ : Terminal) (a b : PlainToken) (rest others : PlainTrees) → same wanted passed_ ≡ false → terminal a ≡ passed_ → SameButName a b
    → Behind category (behind_word wanted rest) (behind_word wanted others) → Behind category (behind_word wanted (more (leaf a) rest)) (behind_word wanted (more (leaf b) others))
skipped category wanted passed_ a b rest others other is e i =
    subst (λ x. Behind category x (behind_word wanted (more (leaf b) others))) (sym (skip_word wanted a rest (ap (same wanted) is ∙ other)))
    (subst (λ x. Behind category (behind_word wanted rest) x) (sym (skip_word wanted b others (ap (same wanted) (sym (same_terminal a b e) ∙ is) ∙ other))) i)

found_behind :
    (category : Category) (wanted : Terminal) (a b : PlainToken) (next second : PlainTree) (rest others : PlainTrees) → same wanted wanted ≡ true → terminal a ≡ wanted → SameButName a b
    → Behind category (Some next) (Some second) → Behind category (behind_word wanted (more (leaf a) (more next rest))) (behind_word wanted (more (leaf b) (more second others)))
found_behind category wanted a b next second rest others self is e i =
    subst (λ x. Behind category x (behind_word wanted (more (leaf b) (more second others)))) (sym (hit_word wanted a next rest (ap (same wanted) is ∙ self)))
    (subst (λ x. Behind category (Some next) x) (sym (hit_word wanted b second others (ap (same wanted) (sym (same_terminal a b e) ∙ is) ∙ self))) i)

abbrev pub Sizes : PlainTrees → PlainTrees → Type 0
Sizes parts others = Behind (expression 2) (behind_word t.OpenBracket parts) (behind_word t.OpenBracket others)

abbrev pub ParametersBehind : PlainTrees → PlainTrees → Type 0
ParametersBehind parts others = Behind parameters (behind_word t.OpenParenthesis parts) (behind_word t.OpenParenthesis others)

size_behind : {parts others : PlainTrees} → Row bracketed_size parts → AllSameButNames parts others → Sizes parts others
size_behind (a_word {token = a} w (left_out {rest = rest} r)) (same_more (same_leaf {b = b} e) (same_more {others = others} (same_node same_end) l)) =
    found_behind (expression 2) t.OpenBracket a b absent absent rest others refl (word_is t.OpenBracket a w) e left_out_behind
size_behind (a_word {token = a} w (given {tree = tree} {rest = rest} d r)) (same_more (same_leaf {b = b} e) (same_more {other = second} {others = others} x l)) =
    found_behind (expression 2) t.OpenBracket a b tree second rest others refl (word_is t.OpenBracket a w) e (some_behind d x)

named_size : {parts others : PlainTrees} → Row (word (t.Name ∷ []) ∷ bracketed_size) parts → AllSameButNames parts others → Sizes parts others
named_size (a_word {token = a} {rest = rest} w r) (same_more {others = others} (same_leaf {b = b} e) l) =
    skipped (expression 2) t.OpenBracket t.Name a b rest others refl (word_is t.Name a w) e (size_behind r l)

perhaps_named_size : {parts others : PlainTrees} → Row (perhaps (t.Name ∷ []) ∷ bracketed_size) parts → AllSameButNames parts others → Sizes parts others
perhaps_named_size (perhaps_there {token = a} {rest = rest} w r) (same_more {others = others} (same_leaf {b = b} e) l) =
    skipped (expression 2) t.OpenBracket t.Name a b rest others refl (word_is t.Name a w) e (size_behind r l)
perhaps_named_size (not_there r) l = size_behind r l

pub array_sizes : {parts others : PlainTrees} → Row (stars ∷ word (t.Name ∷ []) ∷ bracketed_size) parts → AllSameButNames parts others → Sizes parts others
array_sizes (a_star {token = a} {rest = rest} w r) (same_more {others = others} (same_leaf {b = b} e) l) =
    skipped (expression 2) t.OpenBracket t.Star a b rest others refl (word_is t.Star a w) e (array_sizes r l)
array_sizes (no_star r) l = named_size r l

pub abstract_sizes : {parts others : PlainTrees} → Row (stars ∷ perhaps (t.Name ∷ []) ∷ bracketed_size) parts → AllSameButNames parts others → Sizes parts others
abstract_sizes (a_star {token = a} {rest = rest} w r) (same_more {others = others} (same_leaf {b = b} e) l) =
    skipped (expression 2) t.OpenBracket t.Star a b rest others refl (word_is t.Star a w) e (abstract_sizes r l)
abstract_sizes (no_star r) l = perhaps_named_size r l

abbrev parenthesized : List Slot
parenthesized = word (t.OpenParenthesis ∷ []) ∷ optional parameters ∷ word (t.CloseParenthesis ∷ []) ∷ []

list_behind : {parts others : PlainTrees} → Row parenthesized parts → AllSameButNames parts others → ParametersBehind parts others
list_behind (a_word {token = a} w (left_out {rest = rest} r)) (same_more (same_leaf {b = b} e) (same_more {others = others} (same_node same_end) l)) =
    found_behind parameters t.OpenParenthesis a b absent absent rest others refl (word_is t.OpenParenthesis a w) e left_out_behind
list_behind (a_word {token = a} w (given {tree = tree} {rest = rest} d r)) (same_more (same_leaf {b = b} e) (same_more {other = second} {others = others} x l)) =
    found_behind parameters t.OpenParenthesis a b tree second rest others refl (word_is t.OpenParenthesis a w) e (some_behind d x)

named_list : {parts others : PlainTrees} → Row (word (t.Name ∷ []) ∷ parenthesized) parts → AllSameButNames parts others → ParametersBehind parts others
named_list (a_word {token = a} {rest = rest} w r) (same_more {others = others} (same_leaf {b = b} e) l) =
    skipped parameters t.OpenParenthesis t.Name a b rest others refl (word_is t.Name a w) e (list_behind r l)

pub function_parameters : {parts others : PlainTrees} → Row (stars ∷ word (t.Name ∷ []) ∷ parenthesized) parts → AllSameButNames parts others → ParametersBehind parts others
function_parameters (a_star {token = a} {rest = rest} w r) (same_more {others = others} (same_leaf {b = b} e) l) =
    skipped parameters t.OpenParenthesis t.Star a b rest others refl (word_is t.Star a w) e (function_parameters r l)
function_parameters (no_star r) l = named_list r l

-- ---- initialisers that may be left out

pub data Values : Option PlainTree → Option PlainTree → Type 0 where
  no_value : Values None None
  a_value : {tree other : PlainTree} → Derivation initialiser tree → SameButNames tree other → Values (Some tree) (Some other)

present : {n : ℕ} {tree other : PlainTree} → Derivation (expression n) tree → SameButNames tree other → is_absent tree ≡ is_absent other
present (single is) (same_leaf e) = refl
present (made_of k.Absent b a s) e = absurd cc
present (made_of _ b a s) (same_node e) = refl

left_out_same : {size other : Option PlainTree} → Behind (expression 2) size other → is_left_out size ≡ is_left_out other
left_out_same none_behind = refl
left_out_same left_out_behind = refl
left_out_same (some_behind d e) = present d e

-- ---- types

star_same : {tree other : PlainTree} → SameButNames tree other → is_word (t.Star ∷ []) tree ≡ is_word (t.Star ∷ []) other
star_same (same_leaf {a = a} {b = b} e) = ap (is_one_of (t.Star ∷ [])) (same_terminal a b e)
star_same (same_node e) = refl

stars_same : (parts others : PlainTrees) → AllSameButNames parts others → count_stars parts ≡ count_stars others
stars_same _ _ same_end = refl
stars_same _ _ (same_more {tree = tree} {other = other} {rest = rest} {others = others} e r) =
    ap (λ (b : Bool). (if b then 1 else 0) + count_stars rest) (star_same e) ∙ ap (λ n. (if is_word (t.Star ∷ []) other then 1 else 0) + n) (stars_same rest others r)

pub starred_same : (parts others : PlainTrees) (ty : PlainType) → AllSameButNames parts others → starred parts ty ≡ starred others ty
starred_same parts others ty e = ap (λ n. pointers n ty) (stars_same parts others e)

module _ (named : Naming) (slots : List PlainType) (s u : Scope) (h : AlikeScopes named slots s u) where
  size_alike : {size other : Option PlainTree} → Behind (expression 2) size other → (name second : PlainToken) → Alike named Equal (count_of_size s name size) (count_of_size u second other)
  size_alike none_behind name second = alike_broken named Equal _
  size_alike left_out_behind name second = alike_broken named Equal _
  size_alike (some_behind {tree = tree} {other = other} d e) name second = count_alike named slots s u h tree other name second (expression_alike named slots s u h d e)

  without_size_alike : (element : PlainType) {value other : Option PlainTree} → Values value other → (name second : PlainToken) → Alike named Equal (count_without_size element name value) (count_without_size element second other)
  without_size_alike element no_value name second = alike_refused named Equal _ _ _
  without_size_alike element (a_value {tree = tree} {other = other} d e) name second =
      alike_tests named Equal (nat_le (count_or_one (count_by_initialiser element tree)) most_elements) (nat_le (count_or_one (count_by_initialiser element other)) most_elements) BadConstant BadConstant name second _ _
      (λ x y. alike_give named Equal _ _ (ap count_or_one (count_same element d e)))

  element_count_alike :
      (element : PlainType) {size other value given_ : Option PlainTree} → Behind (expression 2) size other → Values value given_ → (name second : PlainToken)
      → Alike named Equal (element_count s element name size value) (element_count u element second other given_)
  element_count_alike element {size} {other} {value} {given_} e v name second =
      alike_if named Equal (is_left_out size) (is_left_out other) _ _ _ _ (left_out_same e) (without_size_alike element v name second) (size_alike e name second)

  array_alike :
      (element : PlainType) {size other value given_ : Option PlainTree} → Behind (expression 2) size other → Values value given_ → (name second : PlainToken)
      → Alike named Equal (unless_so (is_complete s.structs element) Incomplete name >>= (λ complete. element_count s element name size value >>= (λ count. give (array_of element count))))
      (unless_so (is_complete u.structs element) Incomplete second >>= (λ complete. element_count u element second other given_ >>= (λ count. give (array_of element count))))
  array_alike element {size} {other} {value} {given_} e v name second =
      alike_tests named Equal (is_complete s.structs element) (is_complete u.structs element) Incomplete Incomplete name second _ _
      (λ x y. alike_equal named Equal (element_count s element name size value) (element_count u element second other given_) _ _ (element_count_alike element e v name second)
      (λ count. alike_give named Equal _ _ refl))

  pub object_alike :
      (ty : PlainType) (kind : Kind) (parts others : PlainTrees) {value given_ : Option PlainTree} → AllSameButNames parts others → (kind ≡ k.ArrayDeclarator → Sizes parts others) → Values value given_ → (name second : PlainToken)
      → Alike named Equal (object_type s ty kind parts name value) (object_type u ty kind others second given_)
  object_alike ty k.ArrayDeclarator parts others {value} {given_} e sizes v name second =
      subst
      (λ (element : PlainType). Alike named Equal (object_type s ty k.ArrayDeclarator parts name value)
      (unless_so (is_complete u.structs element) Incomplete second >>= (λ complete. element_count u element second (behind_word t.OpenBracket others) given_ >>= (λ count. give (array_of element count)))))
      (starred_same parts others ty e) (array_alike (starred parts ty) (sizes refl) v name second)
  object_alike ty k.Declarator parts others e sizes v name second = alike_give named Equal _ _ (starred_same parts others ty e)
  object_alike ty _ parts others e sizes v name second = alike_broken named Equal _

  parameter_size_alike : {size other : Option PlainTree} → Behind (expression 2) size other → (name second : PlainToken) → Alike named Equal (size_of_parameter s name size) (size_of_parameter u second other)
  parameter_size_alike {size} {other} e name second =
      alike_if named Equal (is_left_out size) (is_left_out other) _ _ _ _ (left_out_same e) (alike_give named Equal 0 0 refl) (size_alike e name second)

  parameter_array_alike :
      (element : PlainType) {size other : Option PlainTree} → Behind (expression 2) size other → (name second : PlainToken)
      → Alike named Equal (unless_so (is_complete s.structs element) Incomplete name >>= (λ complete. size_of_parameter s name size >>= (λ count. give (pointer_to element))))
      (unless_so (is_complete u.structs element) Incomplete second >>= (λ complete. size_of_parameter u second other >>= (λ count. give (pointer_to element))))
  parameter_array_alike element {size} {other} e name second =
      alike_tests named Equal (is_complete s.structs element) (is_complete u.structs element) Incomplete Incomplete name second _ _
      (λ x y. alike_equal named Equal (size_of_parameter s name size) (size_of_parameter u second other) _ _ (parameter_size_alike e name second) (λ count. alike_give named Equal _ _ refl))

  pub parameter_alike :
      (ty : PlainType) (kind : Kind) (parts others : PlainTrees) → AllSameButNames parts others → (kind ≡ k.ArrayDeclarator → Sizes parts others) → (name second : PlainToken)
      → Alike named Equal (parameter_type s ty kind parts name) (parameter_type u ty kind others second)
  parameter_alike ty k.ArrayDeclarator parts others e sizes name second =
      subst
      (λ (element : PlainType). Alike named Equal (parameter_type s ty k.ArrayDeclarator parts name)
      (unless_so (is_complete u.structs element) Incomplete second >>= (λ complete. size_of_parameter u second (behind_word t.OpenBracket others) >>= (λ count. give (pointer_to element)))))
      (starred_same parts others ty e) (parameter_array_alike (starred parts ty) (sizes refl) name second)
  parameter_alike ty k.Declarator parts others e sizes name second = alike_give named Equal _ _ (starred_same parts others ty e)
  parameter_alike ty _ parts others e sizes name second = alike_broken named Equal _

  -- ---- words of types, which may declare a struct

  pub record SameBase (x y : Based) : Type 0 where
    pub ty : x.ty ≡ y.ty
    pub scopes : AlikeScopes named slots x.scope y.scope

  one_more : (structs : List Struct) (new : Struct) → length (structs ++ new ∷ []) ≡ suc (length structs)
  one_more [] new = refl
  one_more (x ∷ rest) new = ap suc (one_more rest new)

  still_declared : (tags : Table ℕ) (structs : List Struct) (name : List ℕ) (new : Struct) → AreDeclared tags structs → AreDeclared (with_entry tags name (length structs)) (structs ++ new ∷ [])
  still_declared tags structs name new declared other n e = by (bytes_eq other name) refl e
    where
      by : (b : Bool) → bytes_eq other name ≡ b → (if b then Some (length structs) else tags other) ≡ Some n → n < length (structs ++ new ∷ [])
      by true f g = let is : length structs ≡ n = cc in omega (arith, is, one_more structs new)
      by false f g = let less : n < length structs = declared other n g in omega (arith, less, one_more structs new)

  new_alike : (a b : PlainToken) → AlikeScopes named slots (with_struct s a.text) (with_struct u b.text)
  new_alike a b = record {
    structs = zip_append SameStruct s.structs u.structs (new_struct a.text ∷ []) (new_struct b.text ∷ []) h.structs (record { complete = refl; members = refl }, tt);
    names = h.names;
    order = h.order;
    locals = h.locals;
    other_locals = h.other_locals;
    tags = still_declared s.tags s.structs a.text (new_struct a.text) h.tags;
    other_tags = still_declared u.tags u.structs b.text (new_struct b.text) h.other_tags;
    numbers = h.numbers;
  }

  abbrev base_of : ℕ → Scope → Based
  base_of n scope = record { ty = structure n; scope = scope }

  old_with_new : (a b : PlainToken) (n : ℕ) → s.tags a.text ≡ Some n → Alike named SameBase (based_on_tag true s a (Some n)) (based_on_tag true u b None)
  old_with_new a b n e =
      alike_declares named SameBase (struct_entity n) (struct_entity (length u.structs)) (λ x. give (base_of n s)) (λ x. give (base_of (length u.structs) (with_struct u b.text)))
      (λ same_ x y. absurd {0} (let less : n < length s.structs = h.tags a.text n e in let is : n ≡ length u.structs = same_ in omega (arith, less, is, zip_length SameStruct s.structs u.structs h.structs)))

  new_with_old : (a b : PlainToken) (n : ℕ) → u.tags b.text ≡ Some n → Alike named SameBase (based_on_tag true s a None) (based_on_tag true u b (Some n))
  new_with_old a b n e =
      alike_declares named SameBase (struct_entity (length s.structs)) (struct_entity n) (λ x. give (base_of (length s.structs) (with_struct s a.text))) (λ x. give (base_of n u))
      (λ same_ x y. absurd {0} (let less : n < length u.structs = h.other_tags b.text n e in let is : length s.structs ≡ n = same_ in omega (arith, less, is, zip_length SameStruct s.structs u.structs h.structs)))

  tag_alike : (declaring : Bool) (a b : PlainToken) (m n : Option ℕ) → s.tags a.text ≡ m → u.tags b.text ≡ n → Alike named SameBase (based_on_tag declaring s a m) (based_on_tag declaring u b n)
  tag_alike declaring a b (Some m) (Some n) e f =
      alike_declares named SameBase (struct_entity m) (struct_entity n) _ _ (λ same_ x y. alike_give named SameBase (base_of m s) (base_of n u) (record { ty = ap structure same_; scopes = h }))
  tag_alike true a b (Some m) None e f = old_with_new a b m e
  tag_alike true a b None (Some n) e f = new_with_old a b n f
  tag_alike true a b None None e f =
      alike_declares named SameBase (struct_entity (length s.structs)) (struct_entity (length u.structs)) _ _
      (λ same_ x y. alike_give named SameBase (base_of (length s.structs) (with_struct s a.text)) (base_of (length u.structs) (with_struct u b.text)) (record { ty = ap structure same_; scopes = new_alike a b }))
  tag_alike false a b (Some m) None e f = refused_alike named SameBase _ _ _
  tag_alike false a b None n e f = alike_refused named SameBase _ _ _

  pub based_alike : (declaring : Bool) (words others : PlainTrees) → AllSameButNames words others → Alike named SameBase (based declaring s words) (based declaring u others)
  based_alike declaring words others e =
      alike_if named SameBase (has_terminal t.Struct words) (has_terminal t.Struct others) _ _ _ _ (same_terminals t.Struct words others e)
      (alike_somes named SameBase (name_in words) (name_in others) (λ tag. based_on_tag declaring s tag (s.tags tag.text)) (λ tag. based_on_tag declaring u tag (u.tags tag.text)) (λ a b f g. tag_alike declaring a b (s.tags a.text) (u.tags b.text) refl refl))
      (alike_give named SameBase (record { ty = arithmetic_words words; scope = s }) (record { ty = arithmetic_words others; scope = u }) (record { ty = same_words words others e; scopes = h }))
