-- Expressions of units that are alike: where their identifiers are bound alike, they are the same in a core program and have the same types.
-- What is visible stays as it is: `AlikeScopes`.
use Rattle.std.proofs.Common.{◌≡◌, ℕ, ◌+◌, Bool, true, false, List, [], ◌∷◌, refl, sym, ap, subst, ◌∙◌, length, IsTrue}
use Rattle.std.specs.Prelude.{Option, Some, None, slice_get, codes, option_map, pos, ◌||◌}
use Rattle.std.specs.Str.{bytes_eq}
use Rattle.std.proofs.lemmas.Bool.{and_parts}
use Rattle.c_text.specs.Token.{PlainToken}
use Rattle.c_text.specs.Constants.{quoted_values, number_value}
use Rattle.c_types.specs.Types.{PlainType, char, array_of, structure, pointer_to}
use Rattle.c_types.specs.Tags.{PlainMember}
use Rattle.c_tree.specs.declared.kinds.Kind.{Kind}
use Rattle.c_tree.specs.declared.kinds.Kind.TheVariants as k
use Rattle.c_tree.specs.declared.terminals.Terminal.{Terminal}
use Rattle.c_tree.specs.declared.terminals.Terminal.TheVariants as t
use Rattle.c_tree.specs.Terminals.{terminal, same, is_one_of}
use Rattle.c_tree.specs.Trees.{PlainTree, PlainTrees, leaf, node, none, more}
use Rattle.c_tree.specs.Grammar.{expression, are_texts, is_word}
use Rattle.core_meaning.specs.declared.refusals.TypeKind.TheVariants.{Incomplete, NoMember, BadOperand}
use Rattle.core_meaning.specs.Program.{PlainPlace, PlainArguments, no_argument, literal, update, update_after, constant, slot, global, member, target, call}
use Rattle.core_meaning.specs.Checking.{local_entity, file_entity, member_entity, Checked, refused, ◌>>=◌, give, uses}
use Rattle.core_meaning.specs.Entities.{Table, Struct, Local, Signature, Sort, variable, function, FileName, Scope, local_in, entity_number}
use Rattle.core_meaning.specs.Typing.{Operand, Typed, of_object, of_value, loaded}
use Rattle.core_meaning.specs.Expressions.{judged, judged_arguments, single_operand, name_operand, file_name_operand, file_operand, number_operand, number_type, is_zero_number, character_operand, character_value, text_bytes, joined_bytes, first_text, first_token, stepped, prefixed, cast_to, has_terminal, words_type, arithmetic_words, selected, member_of, member_in, member_operand, member_of_target, struct_place, is_free, indexed, Callee, callee, callee_unless_local, callee_of_name, callee_of_sort, count_entries, may_be_called, result_of_call, passed, condition_value, chosen, combined_by, written_place, valued, judged_condition}
use Rattle.core_meaning.specs.Typing as typing
use Rattle.tree_derivations.specs.Derivations.{Derivation, single, made_of, some_texts, a_row, at_end, a_word, a_part, left_out, given, with_commas, Separated, last_one, next_one, IsWord}
use Rattle.renamed_programs.specs.Trees.{SameButName, SameButNames, AllSameButNames, same_leaf, same_node, same_end, same_more}
use Rattle.renamed_programs.proofs.Alike.{Naming, Alike, Equal, Anything, SameOperand, NeverFine, alike_rules, alike_operand, alike_equal, alike_tests, alike_finds, alike_somes, alike_somes_same, alike_if, alike_give, alike_refused, alike_broken, broken_alike, alike_any, alike_uses, never_then, never_left, never_right}
use Rattle.renamed_programs.proofs.Tokens.{same_terminal, same_text, same_word}
use Rattle.renamed_programs.proofs.Scopes.{SameStruct, AlikeScopes, BothOr, zip_at, member_types}
use Rattle.renamed_programs.proofs.Operators.{loads, written_alike, stepped_alike, assignment_alike, prefixed_alike, cast_alike, combined_by_alike, indexed_alike, chosen_alike, passed_alike, condition_alike, callable_alike}

-- ---- words

pub same_terminals : (wanted : Terminal) (parts others : PlainTrees) → AllSameButNames parts others → has_terminal wanted parts ≡ has_terminal wanted others
same_terminals wanted _ _ same_end = refl
same_terminals wanted _ _ (same_more {rest = rest} {others = others} (same_leaf {a = a} {b = b} h) more_) =
    ap (λ x. same wanted x || has_terminal wanted rest) (same_terminal a b h)
    ∙ ap (λ x. same wanted (terminal b) || x) (same_terminals wanted rest others more_)
same_terminals wanted _ _ (same_more {rest = rest} {others = others} (same_node h) more_) = same_terminals wanted rest others more_

pub same_words : (parts others : PlainTrees) → AllSameButNames parts others → arithmetic_words parts ≡ arithmetic_words others
same_words parts others h =
    ap (λ x. words_type x (has_terminal t.Unsigned parts) (has_terminal t.Char parts) (has_terminal t.Long parts)) (same_terminals t.Void parts others h)
    ∙ ap (λ x. words_type (has_terminal t.Void others) x (has_terminal t.Char parts) (has_terminal t.Long parts)) (same_terminals t.Unsigned parts others h)
    ∙ ap (λ x. words_type (has_terminal t.Void others) (has_terminal t.Unsigned others) x (has_terminal t.Long parts)) (same_terminals t.Char parts others h)
    ∙ ap (λ x. words_type (has_terminal t.Void others) (has_terminal t.Unsigned others) (has_terminal t.Char others) x) (same_terminals t.Long parts others h)

-- ---- texts

pub same_bytes : (parts others : PlainTrees) → IsTrue (are_texts parts) → AllSameButNames parts others → text_bytes parts ≡ text_bytes others
same_bytes _ _ texts same_end = refl
same_bytes _ _ texts (same_more {rest = rest} {others = others} (same_leaf {a = a} {b = b} h) more_) =
    let both = and_parts (is_word (t.Text ∷ []) (leaf a)) (are_texts rest) texts in
    ap (λ x. joined_bytes (quoted_values x) (text_bytes rest)) (same_word (t.Text ∷ []) a b refl both.0 h)
    ∙ ap (joined_bytes (quoted_values b.text)) (same_bytes rest others both.1 more_)
same_bytes _ _ texts (same_more (same_node h) more_) = refl

-- ---- names

slot_types : (slots : List PlainType) (m n : ℕ) (a b : PlainType) → m ≡ n → slice_get slots m ≡ Some a → slice_get slots n ≡ Some b → a ≡ b
slot_types slots m n a b e h i =
    let same_ : slice_get slots m ≡ slice_get slots n = ap (slice_get slots) e in
    cc

found_sort : (a b : Option FileName) (m n : FileName) → a ≡ b → a ≡ Some m → b ≡ Some n → m.sort ≡ n.sort
found_sort a b m n e h i = let same_ : m ≡ n = cc in ap (λ x. x.sort) same_

variable_type : (a b : PlainType) → variable a ≡ variable b → a ≡ b
variable_type a b h = cc

pub function_signature : (a b : Signature) → function a ≡ function b → a ≡ b
function_signature a b h = cc

module _ (named : Naming) (slots : List PlainType) (s u : Scope) (h : AlikeScopes named slots s u) where
  pub same_number : (table other : Table ℕ) (a b : List ℕ) → table a ≡ other b → entity_number table a ≡ entity_number other b
  same_number table other a b e = ap (λ x. elim x as (λ y. ℕ) [ Some n ↦ n | None ↦ 0 ]) e

  objects_alike :
      (a b : PlainToken) (m n : FileName) (x y : Sort) → s.file_names a.text ≡ Some m → u.file_names b.text ≡ Some n → m.sort ≡ x → n.sort ≡ y → Alike named SameOperand (file_operand s a x) (file_operand u b y)
  objects_alike a b m n (variable x) (variable y) e f is other =
      alike_uses named SameOperand (file_entity a.text) (file_entity b.text) _ _
      (λ names x1 y1. alike_give named SameOperand (of_object a x (global (entity_number s.numbers.globals a.text)) true) _
      (ap (λ ty. of_object b ty (global (entity_number s.numbers.globals a.text)) true) (variable_type x y (sym is ∙ found_sort (s.file_names a.text) (u.file_names b.text) m n (h.names a.text b.text names) e f ∙ other))
      ∙ ap (λ number. of_object b y (global number) true) (same_number s.numbers.globals u.numbers.globals a.text b.text (h.numbers.globals a.text b.text names))))
  objects_alike a b m n (variable x) (function y) e f is other = search alike_rules
  objects_alike a b m n (function x) y e f is other = search alike_rules

  file_alike : (a b : PlainToken) (m n : Option FileName) → s.file_names a.text ≡ m → u.file_names b.text ≡ n → Alike named SameOperand (file_name_operand s a m) (file_name_operand u b n)
  file_alike a b (Some m) (Some n) e f = objects_alike a b m n m.sort n.sort e f refl refl
  file_alike a b (Some m) None e f = search alike_rules
  file_alike a b None n e f = search alike_rules

  local_or_sort : (a b : PlainToken) (x : Local) (y : Sort) → Alike named SameOperand (name_operand s a (Some x)) (file_operand u b y)
  local_or_sort a b x (variable ty) = alike_uses named SameOperand (local_entity x.slot) (file_entity b.text) (λ x1. give (of_object a x.ty (slot x.slot) true)) (λ x1. give (of_object b ty (global (entity_number u.numbers.globals b.text)) true)) (λ no_ x1 y1. absurd {0} no_)
  local_or_sort a b x (function signature) = search alike_rules

  local_or_file : (a b : PlainToken) (x : Local) (n : Option FileName) → Alike named SameOperand (name_operand s a (Some x)) (file_name_operand u b n)
  local_or_file a b x (Some n) = local_or_sort a b x n.sort
  local_or_file a b x None = search alike_rules

  sort_or_local : (a b : PlainToken) (x : Sort) (y : Local) → Alike named SameOperand (file_operand s a x) (name_operand u b (Some y))
  sort_or_local a b (variable ty) y = alike_uses named SameOperand (file_entity a.text) (local_entity y.slot) (λ x1. give (of_object a ty (global (entity_number s.numbers.globals a.text)) true)) (λ x1. give (of_object b y.ty (slot y.slot) true)) (λ no_ x1 y1. absurd {0} no_)
  sort_or_local a b (function signature) y = search alike_rules

  file_or_local : (a b : PlainToken) (n : Option FileName) (y : Local) → Alike named SameOperand (file_name_operand s a n) (name_operand u b (Some y))
  file_or_local a b (Some n) y = sort_or_local a b n.sort y
  file_or_local a b None y = search alike_rules

  name_alike : (a b : PlainToken) (x y : Option Local) → local_in s.blocks a.text ≡ x → local_in u.blocks b.text ≡ y → Alike named SameOperand (name_operand s a x) (name_operand u b y)
  name_alike a b (Some x) (Some y) e f =
      alike_uses named SameOperand (local_entity x.slot) (local_entity y.slot) _ _
      (λ slots_ x1 y1. alike_give named SameOperand (of_object a x.ty (slot x.slot) true) _
      (ap (λ ty. of_object b ty (slot x.slot) true) (slot_types slots x.slot y.slot x.ty y.ty slots_ (h.locals a.text x e) (h.other_locals b.text y f))
      ∙ ap (λ n. of_object b y.ty (slot n) true) slots_))
  name_alike a b (Some x) None e f = local_or_file a b x (u.file_names b.text)
  name_alike a b None (Some y) e f = file_or_local a b (s.file_names a.text) y
  name_alike a b None None e f = file_alike a b (s.file_names a.text) (u.file_names b.text) refl refl

  number_same : (a b : PlainToken) → a.text ≡ b.text → SameOperand (number_operand a) (number_operand b)
  number_same a b e = ap (λ text. let o : Operand = record { ty = number_type text; designates = typing.value (constant (pos (number_value text))); is_null = is_zero_number text; stands_at = b } in o) e

  character_alike : (a b : PlainToken) → a.text ≡ b.text → Alike named SameOperand (character_operand a) (character_operand b)
  character_alike a b e =
      alike_somes_same named SameOperand (character_value (quoted_values a.text)) (character_value (quoted_values b.text)) _ _ (ap (λ x. character_value (quoted_values x)) e) (λ z. alike_give named SameOperand _ _ refl)

  single_alike : (a b : PlainToken) (x : Terminal) → terminal a ≡ x → SameButName a b → Alike named SameOperand (single_operand s a x) (single_operand u b x)
  single_alike a b t.Name e i = name_alike a b (local_in s.blocks a.text) (local_in u.blocks b.text) refl refl
  single_alike a b t.Number e i = alike_give named SameOperand _ _ (number_same a b (same_text a b i (λ f. let g : t.Number ≡ t.Name = sym e ∙ f in absurd cc)))
  single_alike a b t.Character e i = character_alike a b (same_text a b i (λ f. let g : t.Character ≡ t.Name = sym e ∙ f in absurd cc))
  single_alike a b _ e i = alike_broken named SameOperand _

  leaf_alike : (a b : PlainToken) → SameButName a b → Alike named SameOperand (judged s (leaf a)) (judged u (leaf b))
  leaf_alike a b i = subst (λ x. Alike named SameOperand (judged s (leaf a)) (single_operand u b x)) (same_terminal a b i) (single_alike a b (terminal a) refl i)

  -- ---- members

  types_at : (members others : List PlainMember) (n : ℕ) (a b : PlainMember) → member_types members ≡ member_types others → slice_get members n ≡ Some a → slice_get others n ≡ Some b → a.ty ≡ b.ty
  types_at members others n a b e f g =
      let one : slice_get (member_types members) n ≡ Some a.ty = Rattle.std.proofs.lemmas.Option.slice_get-map (λ m. m.ty) members n ∙ ap (option_map (λ m. m.ty)) f in
      let two : slice_get (member_types others) n ≡ Some b.ty = Rattle.std.proofs.lemmas.Option.slice_get-map (λ m. m.ty) others n ∙ ap (option_map (λ m. m.ty)) g in
      let same_ : slice_get (member_types members) n ≡ slice_get (member_types others) n = ap (λ l. slice_get l n) e in
      cc

  same_at : (members : List PlainMember) (m n : ℕ) (b : PlainMember) → m ≡ n → slice_get members n ≡ Some b → slice_get members m ≡ Some b
  same_at members m n b e f = ap (slice_get members) e ∙ f

  operand_alike :
      (a b : PlainToken) (place : PlainPlace) (free : Bool) (n : ℕ) (members others : List PlainMember) (x y : Option PlainMember) (m o : ℕ) → member_types members ≡ member_types others → slice_get members m ≡ x → slice_get others o ≡ y
      → Alike named SameOperand (member_operand a place free n x m) (member_operand b place free n y o)
  operand_alike a b place free n members others (Some x) (Some y) m o e f g =
      alike_uses named SameOperand (member_entity n m) (member_entity n o) _ _
      (λ numbers x1 y1. alike_give named SameOperand (of_object a x.ty (member place m) free) _
      (ap (λ ty. of_object b ty (member place m) free) (types_at members others m x y e f (same_at others m o y numbers.1 g))
      ∙ ap (λ i. of_object b y.ty (member place i) free) numbers.1))
  operand_alike a b place free n members others (Some x) None m o e f g = broken_alike named SameOperand _
  operand_alike a b place free n members others None y m o e f g = alike_broken named SameOperand _

  member_in_alike :
      (sign other a b : PlainToken) (place : PlainPlace) (free : Bool) (n : ℕ) (x y : Option Struct) → BothOr SameStruct x y → Alike named SameOperand (member_in sign a place free n x) (member_in other b place free n y)
  member_in_alike sign other a b place free n (Some x) (Some y) e =
      alike_tests named SameOperand x.complete y.complete Incomplete Incomplete sign other _ _
      (λ x1 y1. alike_finds named SameOperand (x.numbers a.text) (y.numbers b.text) NoMember NoMember a b _ _
      (λ m o f g. operand_alike a b place free n x.members y.members (slice_get x.members m) (slice_get y.members o) m o e.members refl refl))
  member_in_alike sign other a b place free n (Some x) None e = absurd e
  member_in_alike sign other a b place free n None y e = alike_broken named SameOperand _

  member_alike : (sign other a b : PlainToken) (ty : PlainType) (place : PlainPlace) (free : Bool) → Alike named SameOperand (member_of s sign a ty place free) (member_of u other b ty place free)
  member_alike sign other a b (structure n) place free = member_in_alike sign other a b place free n (slice_get s.structs n) (slice_get u.structs n) (zip_at SameStruct s.structs u.structs h.structs n)
  member_alike sign other a b _ place free = alike_refused named SameOperand _ _ _

  target_alike : (sign other a b : PlainToken) (x : Typed) (ty : PlainType) → Alike named SameOperand (member_of_target s sign a x ty) (member_of_target u other b x ty)
  target_alike sign other a b x (pointer_to ty) = member_alike sign other a b ty (target x.core) true
  target_alike sign other a b x _ = alike_refused named SameOperand _ _ _

  selected_alike : (sign other a b : PlainToken) → sign.text ≡ other.text → (o : Operand) (token : PlainToken) → Alike named SameOperand (selected s sign a o) (selected u other b (record o { stands_at = token }))
  selected_alike sign other a b e o token =
      alike_if named SameOperand (bytes_eq sign.text (codes ".")) (bytes_eq other.text (codes ".")) _ _ _ _ (ap (λ x. bytes_eq x (codes ".")) e)
      (member_alike sign other a b o.ty (struct_place o.ty o.designates) (is_free o.designates))
      (alike_equal named SameOperand (loaded s o) (loaded u (record o { stands_at = token })) _ _ (loads named s u h.structs o token) (λ x. target_alike sign other a b x x.ty))

  -- ---- calls

  pub record Known (scope : Scope) (f : Callee) : Type 0 where
    pub entry : FileName
    pub is : scope.file_names f.name.text ≡ Some entry
    pub sort : entry.sort ≡ function f.signature

  known_sort : (scope : Scope) (token : PlainToken) (n : FileName) (x : Sort) (f : Callee) → scope.file_names token.text ≡ Some n → n.sort ≡ x → callee_of_sort token x ≡ Some f → Known scope f
  known_sort scope token n (variable ty) f e is i = absurd cc
  known_sort scope token n (function signature) f e is i =
      let made : Callee = record { name = token; signature = signature } in
      let same_ : made ≡ f = cc in
      subst (Known scope) same_ (record { entry = n; is = e; sort = is })

  known_name : (scope : Scope) (token : PlainToken) (n : Option FileName) (f : Callee) → scope.file_names token.text ≡ n → callee_of_name token n ≡ Some f → Known scope f
  known_name scope token (Some n) f e i = known_sort scope token n n.sort f e refl i
  known_name scope token None f e i = absurd cc

  known_local : (scope : Scope) (token : PlainToken) (l : Option Local) (f : Callee) → callee_unless_local scope token l ≡ Some f → Known scope f
  known_local scope token (Some l) f i = absurd cc
  known_local scope token None f i = known_name scope token (scope.file_names token.text) f refl i

  known : (scope : Scope) (tree : PlainTree) (f : Callee) → callee scope tree ≡ Some f → Known scope f
  known scope (leaf token) f i = known_local scope token (local_in scope.blocks token.text) f i
  known scope (node k.Parenthesized (more bracket (more inner (more close none)))) f i = known scope inner f i
  known scope (node kind parts) f i = absurd cc

  same_signature : (f g : Callee) → Known s f → Known u g → named f.name.text g.name.text → f.signature ≡ g.signature
  same_signature f g x y names =
      function_signature f.signature g.signature (sym x.sort ∙ found_sort (s.file_names f.name.text) (u.file_names g.name.text) x.entry y.entry (h.names f.name.text g.name.text names) x.is y.is ∙ y.sort)

  result_same :
      (f g : Callee) (bracket other : PlainToken) (given_ : PlainArguments) → named f.name.text g.name.text → f.signature ≡ g.signature → SameOperand (result_of_call s f bracket given_) (result_of_call u g other given_)
  result_same f g bracket other given_ names e =
      ap (λ (signature : Signature). of_value other signature.result (call (entity_number s.numbers.functions f.name.text) given_)) e
      ∙ ap (λ n. of_value other g.signature.result (call n given_)) (same_number s.numbers.functions u.numbers.functions f.name.text g.name.text (h.numbers.functions f.name.text g.name.text names))

  -- a call by what is called
  abbrev called : Scope → Callee → PlainToken → ℕ → (List PlainType → Checked PlainArguments) → Checked Operand
  called scope f bracket count judged_as =
      uses (file_entity f.name.text) >>= (λ bound. may_be_called scope f.signature count bracket >>= (λ callable. judged_as f.signature.parameters >>= (λ given_. give (result_of_call scope f bracket given_))))

  abbrev called_without : Scope → Callee → PlainToken → Checked Operand
  called_without scope f bracket =
      uses (file_entity f.name.text) >>= (λ bound. may_be_called scope f.signature 0 bracket >>= (λ callable. give (result_of_call scope f bracket no_argument)))

  abbrev not_called : Scope → PlainTree → PlainToken → Checked Operand
  not_called scope first bracket = judged scope first >>= (λ operand. loaded scope operand >>= (λ x. refused BadOperand bracket))

  never_called : (scope : Scope) (first : PlainTree) (bracket : PlainToken) → NeverFine named (not_called scope first bracket)
  never_called scope first bracket = never_then named (judged scope first) _ (λ operand. never_then named (loaded scope operand) _ (λ x. tt))

  abbrev ArgumentsAlike : PlainTrees → PlainTrees → Type 0
  ArgumentsAlike parts others = (types : List PlainType) (bracket other : PlainToken) → Alike named Equal (judged_arguments s types parts bracket) (judged_arguments u types others other)

  called_alike :
      (f g : Callee) (bracket other : PlainToken) (m n : ℕ) (parts others : PlainTrees) → ArgumentsAlike parts others → Known s f → Known u g
      → Alike named SameOperand (called s f bracket m (λ types. judged_arguments s types parts bracket)) (called u g other n (λ types. judged_arguments u types others other))
  called_alike f g bracket other m n parts others alike x y =
      alike_uses named SameOperand (file_entity f.name.text) (file_entity g.name.text) _ _
      (λ names x1 y1. let e : f.signature ≡ g.signature = same_signature f g x y names in
      alike_any named SameOperand (may_be_called s f.signature m bracket) (may_be_called u g.signature n other) _ _
      (subst (λ (signature : Signature). Alike named Anything (may_be_called s f.signature m bracket) (may_be_called u signature n other)) e (callable_alike named s u h.structs f.signature m n bracket other))
      (λ a b. alike_equal named SameOperand (judged_arguments s f.signature.parameters parts bracket) (judged_arguments u g.signature.parameters others other) _ _
      (subst (λ (signature : Signature). Alike named Equal (judged_arguments s f.signature.parameters parts bracket) (judged_arguments u signature.parameters others other)) e (alike f.signature.parameters bracket other))
      (λ given_. alike_give named SameOperand (result_of_call s f bracket given_) _ (result_same f g bracket other given_ names e))))

  without_alike : (f g : Callee) (bracket other : PlainToken) → Known s f → Known u g → Alike named SameOperand (called_without s f bracket) (called_without u g other)
  without_alike f g bracket other x y =
      alike_uses named SameOperand (file_entity f.name.text) (file_entity g.name.text) _ _
      (λ names x1 y1. let e : f.signature ≡ g.signature = same_signature f g x y names in
      alike_any named SameOperand (may_be_called s f.signature 0 bracket) (may_be_called u g.signature 0 other) _ _
      (subst (λ (signature : Signature). Alike named Anything (may_be_called s f.signature 0 bracket) (may_be_called u signature 0 other)) e (callable_alike named s u h.structs f.signature 0 0 bracket other))
      (λ a b. alike_give named SameOperand (result_of_call s f bracket no_argument) _ (result_same f g bracket other no_argument names e)))

  call_alike :
      (first second : PlainTree) (bracket other : PlainToken) (parts others : PlainTrees) (x y : Option Callee) → callee s first ≡ x → callee u second ≡ y → ArgumentsAlike parts others
      → Alike named SameOperand
      (elim x as (λ x. Checked Operand) [ Some f ↦ called s f bracket (count_entries parts) (λ types. judged_arguments s types parts bracket) | None ↦ not_called s first bracket ])
      (elim y as (λ x. Checked Operand) [ Some f ↦ called u f other (count_entries others) (λ types. judged_arguments u types others other) | None ↦ not_called u second other ])
  call_alike first second bracket other parts others (Some f) (Some g) e i alike = called_alike f g bracket other (count_entries parts) (count_entries others) parts others alike (known s first f e) (known u second g i)
  call_alike first second bracket other parts others (Some f) None e i alike = never_right named SameOperand _ _ (never_called u second other)
  call_alike first second bracket other parts others None y e i alike = never_left named SameOperand _ _ (never_called s first bracket)

  call_without_alike :
      (first second : PlainTree) (bracket other : PlainToken) (x y : Option Callee) → callee s first ≡ x → callee u second ≡ y
      → Alike named SameOperand
      (elim x as (λ x. Checked Operand) [ Some f ↦ called_without s f bracket | None ↦ not_called s first bracket ])
      (elim y as (λ x. Checked Operand) [ Some f ↦ called_without u f other | None ↦ not_called u second other ])
  call_without_alike first second bracket other (Some f) (Some g) e i = without_alike f g bracket other (known s first f e) (known u second g i)
  call_without_alike first second bracket other (Some f) None e i = never_right named SameOperand _ _ (never_called u second other)
  call_without_alike first second bracket other None y e i = never_left named SameOperand _ _ (never_called s first bracket)

  -- ---- expressions by their parts

  abbrev pub AreAlike : PlainTree → PlainTree → Type 0
  AreAlike tree other = Alike named SameOperand (judged s tree) (judged u other)

  then_alike :
      (first second : PlainTree) (f g : Operand → Checked Operand) → AreAlike first second → ((o : Operand) (token : PlainToken) → Alike named SameOperand (f o) (g (record o { stands_at = token })))
      → Alike named SameOperand (judged s first >>= f) (judged u second >>= g)
  then_alike first second f g i next = alike_operand named SameOperand (judged s first) (judged u second) f g i next

  pub valued_alike : (first second : PlainTree) → AreAlike first second → Alike named Equal (valued s first) (valued u second)
  valued_alike first second i = alike_operand named Equal (judged s first) (judged u second) (loaded s) (loaded u) i (λ o token. loads named s u h.structs o token)

  pub judged_condition_alike : (first second : PlainTree) (behind other : PlainToken) → AreAlike first second → Alike named Equal (judged_condition s first behind) (judged_condition u second other)
  judged_condition_alike first second behind other i =
      alike_operand named Equal (judged s first) (judged u second) (condition_value s (first_token first behind)) (condition_value u (first_token second other)) i (λ o token. condition_alike named s u h.structs (first_token first behind) (first_token second other) o token)

  -- the values of two operands, and what is made of them
  two_alike :
      (first second third fourth : PlainTree) (f g : Typed → Typed → Checked Operand) → AreAlike first second → AreAlike third fourth → ((a b : Typed) → Alike named SameOperand (f a b) (g a b))
      → Alike named SameOperand
      (judged s first >>= (λ left. loaded s left >>= (λ a. judged s third >>= (λ right. loaded s right >>= (λ b. f a b)))))
      (judged u second >>= (λ left. loaded u left >>= (λ a. judged u fourth >>= (λ right. loaded u right >>= (λ b. g a b)))))
  two_alike first second third fourth f g i j next =
      alike_operand named SameOperand (judged s first) (judged u second) _ _ i
      (λ o token. alike_equal named SameOperand (loaded s o) (loaded u (record o { stands_at = token })) _ _ (loads named s u h.structs o token)
      (λ a. alike_operand named SameOperand (judged s third) (judged u fourth) _ _ j
      (λ p at. alike_equal named SameOperand (loaded s p) (loaded u (record p { stands_at = at })) _ _ (loads named s u h.structs p at) (λ b. next a b))))

  assigned_alike :
      (first second third fourth : PlainTree) (sign other : PlainToken) → sign.text ≡ other.text → AreAlike first second → AreAlike third fourth
      → AreAlike (node k.Assignment (more first (more (leaf sign) (more third none)))) (node k.Assignment (more second (more (leaf other) (more fourth none))))
  assigned_alike first second third fourth sign other e i j =
      alike_operand named SameOperand (judged s first) (judged u second) _ _ i
      (λ o token. alike_equal named SameOperand (written_place s sign o) (written_place u other (record o { stands_at = token })) _ _ (written_alike named s u h.structs sign other o token)
      (λ place. alike_operand named SameOperand (judged s third) (judged u fourth) _ _ j
      (λ p at. alike_equal named SameOperand (loaded s p) (loaded u (record p { stands_at = at })) _ _ (loads named s u h.structs p at)
      (λ right. assignment_alike named s u h.structs sign other e o token place right))))

  conditional_alike :
      (first second third fourth fifth sixth : PlainTree) (question other colon at : PlainToken) → AreAlike first second → AreAlike third fourth → AreAlike fifth sixth
      → AreAlike (node k.Conditional (more first (more (leaf question) (more third (more (leaf colon) (more fifth none)))))) (node k.Conditional (more second (more (leaf other) (more fourth (more (leaf at) (more sixth none))))))
  conditional_alike first second third fourth fifth sixth question other colon at i j l =
      alike_equal named SameOperand (judged s first >>= condition_value s (first_token first question)) (judged u second >>= condition_value u (first_token second other)) _ _
      (judged_condition_alike first second question other i)
      (λ condition. two_alike third fourth fifth sixth (chosen question condition) (chosen other condition) j l (λ a b. chosen_alike named s u h.structs question other condition a b))

  cast_is_alike :
      (open_ close other shut : PlainToken) (words others : PlainTrees) (inner second : PlainTree) → AllSameButNames words others → AreAlike inner second
      → Alike named SameOperand (judged s inner >>= (λ operand. loaded s operand >>= (λ x. cast_to open_ x (arithmetic_words words)))) (judged u second >>= (λ operand. loaded u operand >>= (λ x. cast_to other x (arithmetic_words others))))
  cast_is_alike open_ close other shut words others inner second e i =
      alike_operand named SameOperand (judged s inner) (judged u second) _ _ i
      (λ o token. alike_equal named SameOperand (loaded s o) (loaded u (record o { stands_at = token })) _ _ (loads named s u h.structs o token)
      (λ x. subst (λ ty. Alike named SameOperand (cast_to open_ x (arithmetic_words words)) (cast_to other x ty)) (same_words words others e) (cast_alike named s u h.structs open_ other x (arithmetic_words words))))

  texts_alike : (parts others : PlainTrees) → IsTrue (are_texts parts) → AllSameButNames parts others → AreAlike (node k.Texts parts) (node k.Texts others)
  texts_alike parts others texts e =
      alike_somes_same named SameOperand (text_bytes parts) (text_bytes others) _ _ (same_bytes parts others texts e)
      (λ bytes. alike_somes named SameOperand (first_text parts) (first_text others) _ _
      (λ first second i j. alike_give named SameOperand (of_object first (array_of char (length bytes + 1)) (literal (entity_number s.numbers.literals bytes)) true) _
      (ap (λ n. of_object second (array_of char (length bytes + 1)) (literal n) true) (same_number s.numbers.literals u.numbers.literals bytes bytes (h.numbers.literals bytes)))))

  one_argument : (tree second : PlainTree) → AreAlike tree second → ArgumentsAlike (more tree none) (more second none)
  one_argument tree second i [] bracket other = alike_broken named Equal _
  one_argument tree second i (ty ∷ types) bracket other =
      alike_operand named Equal (judged s tree) (judged u second) _ _ i
      (λ o token. alike_equal named Equal (passed s ty o (first_token tree bracket)) (passed u ty (record o { stands_at = token }) (first_token second other)) _ _
      (passed_alike named s u h.structs ty o token (first_token tree bracket) (first_token second other)) (λ core. alike_give named Equal _ _ refl))

  more_arguments : (tree second comma sign : PlainTree) (rest others : PlainTrees) → AreAlike tree second → ArgumentsAlike rest others → ArgumentsAlike (more tree (more comma rest)) (more second (more sign others))
  more_arguments tree second comma sign rest others i j [] bracket other = alike_broken named Equal _
  more_arguments tree second comma sign rest others i j (ty ∷ types) bracket other =
      alike_operand named Equal (judged s tree) (judged u second) _ _ i
      (λ o token. alike_equal named Equal (passed s ty o (first_token tree bracket)) (passed u ty (record o { stands_at = token }) (first_token second other)) _ _
      (passed_alike named s u h.structs ty o token (first_token tree bracket) (first_token second other))
      (λ core. alike_equal named Equal (judged_arguments s types rest bracket) (judged_arguments u types others other) _ _ (j types bracket other) (λ given_. alike_give named Equal _ _ refl)))

  combines :
      (terminals : List Terminal) (kind : Kind) (first second third fourth : PlainTree) (sign other : PlainToken) → is_one_of terminals t.Name ≡ false → IsWord terminals sign → SameButName sign other → AreAlike first second → AreAlike third fourth
      → Alike named SameOperand
      (judged s first >>= (λ left. loaded s left >>= (λ a. judged s third >>= (λ right. loaded s right >>= (λ b. combined_by s kind sign a b)))))
      (judged u second >>= (λ left. loaded u left >>= (λ a. judged u fourth >>= (λ right. loaded u right >>= (λ b. combined_by u kind other a b)))))
  combines terminals kind first second third fourth sign other none_ w e i j =
      two_alike first second third fourth (combined_by s kind sign) (combined_by u kind other) i j (λ a b. combined_by_alike named s u h.structs kind sign other (same_word terminals sign other none_ w e) a b)

  mutual
    pub expression_alike : {n : ℕ} {tree other : PlainTree} → Derivation (expression n) tree → SameButNames tree other → AreAlike tree other
    expression_alike (single {token = token} is) (same_leaf {b = b} e) = leaf_alike token b e
    expression_alike (made_of k.Texts {parts = parts} b a (some_texts texts some)) (same_node {others = others} e) = texts_alike parts others texts e
    expression_alike (made_of k.Parenthesized b a (a_row (a_word w (a_part d (a_word v at_end))))) (same_node (same_more (same_leaf x) (same_more e (same_more (same_leaf y) same_end)))) =
        expression_alike d e
    expression_alike (made_of k.PostfixStep b a (a_row (a_part {tree = inner} d (a_word {token = sign} w at_end)))) (same_node (same_more {other = second} e (same_more (same_leaf {b = other} x) same_end))) =
        then_alike inner second (stepped s update_after sign) (stepped u update_after other) (expression_alike d e) (λ o token. stepped_alike named s u h.structs update_after sign other (same_word (t.Step ∷ []) sign other refl w x) o token)
    expression_alike (made_of k.PrefixStep b a (a_row (a_word {token = sign} w (a_part {tree = inner} d at_end)))) (same_node (same_more (same_leaf {b = other} x) (same_more {other = second} e same_end))) =
        then_alike inner second (stepped s update sign) (stepped u update other) (expression_alike d e) (λ o token. stepped_alike named s u h.structs update sign other (same_word (t.Step ∷ []) sign other refl w x) o token)
    expression_alike (made_of k.Prefix b a (a_row (a_word {token = sign} w (a_part {tree = inner} d at_end)))) (same_node (same_more (same_leaf {b = other} x) (same_more {other = second} e same_end))) =
        then_alike inner second (prefixed s sign) (prefixed u other) (expression_alike d e) (λ o token. prefixed_alike named s u h.structs sign other (same_word (t.Ampersand ∷ t.Star ∷ t.Sign ∷ t.Negation ∷ []) sign other refl w x) o token)
    expression_alike (made_of k.Cast b a (a_row (a_word {token = open_} w (a_part (made_of words_kind {parts = words} c f g) (a_word {token = close} v (a_part {tree = inner} d at_end))))))
        (same_node (same_more (same_leaf {b = other} x) (same_more (same_node {others = others} y) (same_more (same_leaf {b = shut} z) (same_more {other = second} e same_end))))) =
        cast_is_alike open_ close other shut words others inner second y (expression_alike d e)
    expression_alike (made_of k.Cast b a (a_row (a_word w (a_part (single is) r)))) e = absurd cc
    expression_alike (made_of k.Selection b a (a_row (a_part {tree = whole} d (a_word {token = sign} w (a_word {token = name} v at_end))))) (same_node (same_more {other = second} e (same_more (same_leaf {b = other} x) (same_more (same_leaf {b = name'} y) same_end)))) =
        then_alike whole second (selected s sign name) (selected u other name') (expression_alike d e) (λ o token. selected_alike sign other name name' (same_word (t.Select ∷ []) sign other refl w x) o token)
    expression_alike (made_of k.Index b a (a_row (a_part {tree = first} d (a_word {token = bracket} w (a_part {tree = third} f (a_word v at_end)))))) (same_node (same_more {other = second} e (same_more (same_leaf {b = other} x) (same_more {other = fourth} g (same_more (same_leaf y) same_end))))) =
        two_alike first second third fourth (indexed s bracket) (indexed u other) (expression_alike d e) (expression_alike f g) (λ x y. indexed_alike named s u h.structs bracket other x y)
    expression_alike (made_of k.Call b a (a_row (a_part {tree = first} d (a_word {token = bracket} w (given (made_of k.Arguments {parts = parts} c f (with_commas l)) (a_word v at_end))))))
        (same_node (same_more {other = second} e (same_more (same_leaf {b = other} x) (same_more (same_node {others = others} g) (same_more (same_leaf y) same_end))))) =
        call_alike first second bracket other parts others (callee s first) (callee u second) refl refl (arguments_alike l g)
    expression_alike (made_of k.Call b a (a_row (a_part d (a_word w (given (single is) r))))) e = absurd cc
    expression_alike (made_of k.Call b a (a_row (a_part d (a_word w (given (made_of _ c f l) r))))) e = absurd cc
    expression_alike (made_of k.Call b a (a_row (a_part {tree = first} d (a_word {token = bracket} w (left_out (a_word v at_end)))))) (same_node (same_more {other = second} e (same_more (same_leaf {b = other} x) (same_more (same_node same_end) (same_more (same_leaf y) same_end))))) =
        call_without_alike first second bracket other (callee s first) (callee u second) refl refl
    expression_alike (made_of k.Assignment b a (a_row (a_part {tree = first} d (a_word {token = sign} w (a_part {tree = third} f at_end))))) (same_node (same_more {other = second} e (same_more (same_leaf {b = other} x) (same_more {other = fourth} g same_end)))) =
        assigned_alike first second third fourth sign other (same_word (t.Assign ∷ t.CompoundAssign ∷ []) sign other refl w x) (expression_alike d e) (expression_alike f g)
    expression_alike (made_of k.Conditional b a (a_row (a_part {tree = first} d (a_word {token = question} w (a_part {tree = third} f (a_word {token = colon} v (a_part {tree = fifth} l at_end)))))))
        (same_node (same_more {other = second} e (same_more (same_leaf {b = other} x) (same_more {other = fourth} g (same_more (same_leaf {b = at} y) (same_more {other = sixth} m same_end)))))) =
        conditional_alike first second third fourth fifth sixth question other colon at (expression_alike d e) (expression_alike f g) (expression_alike l m)
    expression_alike (made_of k.LogicalOr b a (a_row (a_part {tree = first} d (a_word {token = sign} w (a_part {tree = third} f at_end))))) (same_node (same_more {other = second} e (same_more (same_leaf {b = other} x) (same_more {other = fourth} g same_end)))) =
        combines (t.OrOr ∷ []) k.LogicalOr first second third fourth sign other refl w x (expression_alike d e) (expression_alike f g)
    expression_alike (made_of k.LogicalAnd b a (a_row (a_part {tree = first} d (a_word {token = sign} w (a_part {tree = third} f at_end))))) (same_node (same_more {other = second} e (same_more (same_leaf {b = other} x) (same_more {other = fourth} g same_end)))) =
        combines (t.AndAnd ∷ []) k.LogicalAnd first second third fourth sign other refl w x (expression_alike d e) (expression_alike f g)
    expression_alike (made_of k.Or b a (a_row (a_part {tree = first} d (a_word {token = sign} w (a_part {tree = third} f at_end))))) (same_node (same_more {other = second} e (same_more (same_leaf {b = other} x) (same_more {other = fourth} g same_end)))) =
        combines (t.Bar ∷ []) k.Or first second third fourth sign other refl w x (expression_alike d e) (expression_alike f g)
    expression_alike (made_of k.Xor b a (a_row (a_part {tree = first} d (a_word {token = sign} w (a_part {tree = third} f at_end))))) (same_node (same_more {other = second} e (same_more (same_leaf {b = other} x) (same_more {other = fourth} g same_end)))) =
        combines (t.Caret ∷ []) k.Xor first second third fourth sign other refl w x (expression_alike d e) (expression_alike f g)
    expression_alike (made_of k.And b a (a_row (a_part {tree = first} d (a_word {token = sign} w (a_part {tree = third} f at_end))))) (same_node (same_more {other = second} e (same_more (same_leaf {b = other} x) (same_more {other = fourth} g same_end)))) =
        combines (t.Ampersand ∷ []) k.And first second third fourth sign other refl w x (expression_alike d e) (expression_alike f g)
    expression_alike (made_of k.Equality b a (a_row (a_part {tree = first} d (a_word {token = sign} w (a_part {tree = third} f at_end))))) (same_node (same_more {other = second} e (same_more (same_leaf {b = other} x) (same_more {other = fourth} g same_end)))) =
        combines (t.Equality ∷ []) k.Equality first second third fourth sign other refl w x (expression_alike d e) (expression_alike f g)
    expression_alike (made_of k.Relation b a (a_row (a_part {tree = first} d (a_word {token = sign} w (a_part {tree = third} f at_end))))) (same_node (same_more {other = second} e (same_more (same_leaf {b = other} x) (same_more {other = fourth} g same_end)))) =
        combines (t.Relation ∷ []) k.Relation first second third fourth sign other refl w x (expression_alike d e) (expression_alike f g)
    expression_alike (made_of k.Shift b a (a_row (a_part {tree = first} d (a_word {token = sign} w (a_part {tree = third} f at_end))))) (same_node (same_more {other = second} e (same_more (same_leaf {b = other} x) (same_more {other = fourth} g same_end)))) =
        combines (t.Shift ∷ []) k.Shift first second third fourth sign other refl w x (expression_alike d e) (expression_alike f g)
    expression_alike (made_of k.Sum b a (a_row (a_part {tree = first} d (a_word {token = sign} w (a_part {tree = third} f at_end))))) (same_node (same_more {other = second} e (same_more (same_leaf {b = other} x) (same_more {other = fourth} g same_end)))) =
        combines (t.Sign ∷ []) k.Sum first second third fourth sign other refl w x (expression_alike d e) (expression_alike f g)
    expression_alike (made_of k.Product b a (a_row (a_part {tree = first} d (a_word {token = sign} w (a_part {tree = third} f at_end))))) (same_node (same_more {other = second} e (same_more (same_leaf {b = other} x) (same_more {other = fourth} g same_end)))) =
        combines (t.Star ∷ t.Divide ∷ []) k.Product first second third fourth sign other refl w x (expression_alike d e) (expression_alike f g)
    expression_alike (made_of _ b a s) e = absurd cc

    arguments_alike : {parts others : PlainTrees} → Separated (expression 1) parts → AllSameButNames parts others → ArgumentsAlike parts others
    arguments_alike (last_one {tree = tree} d) (same_more {other = second} e same_end) = one_argument tree second (expression_alike d e)
    arguments_alike (next_one {tree = tree} {comma = comma} {rest = rest} d w l) (same_more {other = second} e (same_more {other = sign} {others = others} x g)) =
        more_arguments tree second (leaf comma) sign rest others (expression_alike d e) (arguments_alike l g)
