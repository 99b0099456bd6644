-- Expressions that differ only in names use as many identifiers, whatever is visible to them.
use Rattle.std.proofs.Common.{◌≡◌, ℕ, Bool, true, false, List, [], ◌∷◌, refl, sym, subst}
use Rattle.std.specs.Prelude.{Option, Some, None, codes, slice_get, if◌then◌else◌}
use Rattle.std.specs.Str.{bytes_eq}
use Rattle.c_text.specs.Token.{PlainToken}
use Rattle.c_text.specs.Constants.{quoted_values}
use Rattle.c_types.specs.Types.{PlainType, pointer_to, structure}
use Rattle.c_types.specs.Tags.{PlainMember}
use Rattle.c_tree.specs.declared.kinds.Kind.TheVariants as k
use Rattle.c_tree.specs.declared.terminals.Terminal.{Terminal}
use Rattle.c_tree.specs.declared.terminals.Terminal.TheVariants as t
use Rattle.c_tree.specs.Terminals.{terminal}
use Rattle.c_tree.specs.Trees.{PlainTree, PlainTrees, leaf, node, none, more}
use Rattle.core_meaning.specs.declared.refusals.TypeKind.TheVariants.{BadOperand, Incomplete, NoMember}
use Rattle.core_meaning.specs.Program.{PlainPlace, PlainArguments, no_argument, update, update_after, target}
use Rattle.core_meaning.specs.Checking.{Entity, local_entity, file_entity, member_entity, Binding, Checked, fine, refused, broken, with_bindings, ◌>>=◌, give, unless_so, found_or, uses}
use Rattle.core_meaning.specs.Entities.{Struct, Local, Sort, variable, function, FileName, Scope, local_in}
use Rattle.core_meaning.specs.Typing.{Operand, Typed, loaded}
use Rattle.core_meaning.specs.Expressions.{judged, judged_arguments, single_operand, name_operand, file_name_operand, file_operand, number_operand, character_value, text_bytes, first_text, first_token, stepped, prefixed, cast_to, arithmetic_words, selected, member_of, member_in, member_operand, member_of_target, struct_place, is_free, indexed, Callee, callee, count_entries, may_be_called, result_of_call, passed, condition_value, chosen, combined_by, written_place, assignment, valued, judged_condition}
use Rattle.renamed_programs.specs.Trees.{SameButName, SameButNames, AllSameButNames, same_leaf, same_node, same_end, same_more}
use Rattle.renamed_programs.proofs.Tokens.{same_terminal}
use Rattle.entity_numbers.proofs.Uses.{Binds}
use Rattle.entity_numbers.proofs.Operators.{loads, written_binds, stepped_binds, assignment_binds, prefixed_binds, cast_binds, indexed_binds, chosen_binds, callable_binds, passed_binds, combined_binds, condition_binds}
use Rattle.entity_numbers.specs.Kinds.{Ties, IsUsable, AreMeantAlike, AreKindsAlike}
use Rattle.entity_kinds.proofs.Pairs.{Grows, Anything, Sides, Alike, any_then, alike_give, left_broken, right_broken, Never, none_bound, alike_quiet, quiet_then, quiet_unless, found_quiet, some_then, NeverFine, never_then, left_never, right_never, uses_then}

-- ---- what uses one identifier

abbrev IsOneUse : List Binding → Type 0
IsOneUse [] = ⊥
IsOneUse (j ∷ []) = (j.in_expression ≡ true) × IsUsable j.entity
IsOneUse (j ∷ (k ∷ ks)) = ⊥

abbrev OneOf : {A : Type 0} → Checked A → Type 0
OneOf (fine x js) = IsOneUse js
OneOf (refused kind token) = Unit {0}
OneOf broken = Unit {0}

record UsesOne {A : Type 0} (c : Checked A) : Type 0 where
  one : OneOf c

uses_it : {A : Type 0} (e : Entity) (x : A) → IsUsable e → UsesOne (uses e >>= (λ bound. give x))
uses_it e x h = record { one = (refl, h) }

quiet_one : {A : Type 0} (js : List Binding) (c : Checked A) → js ≡ [] → OneOf c → OneOf (with_bindings js c)
quiet_one js c e h = subst (λ (l : List Binding). OneOf (with_bindings l c)) (sym e) (by c h)
  where
    by : {A : Type 0} (c : Checked A) → OneOf c → OneOf (with_bindings [] c)
    by (fine x js) h = h
    by (refused kind token) h = h
    by broken h = h

quiet_uses : {A B : Type 0} (c : Checked A) (f : A → Checked B) → Binds Never c → ((x : A) → UsesOne (f x)) → UsesOne (c >>= f)
quiet_uses (fine x js) f h g = record { one = quiet_one js (f x) (none_bound js h.all) (g x).one }
quiet_uses (refused kind token) f h g = record { one = tt }
quiet_uses broken f h g = record { one = tt }

if_uses : {A : Type 0} (b : Bool) (c d : Checked A) → UsesOne c → UsesOne d → UsesOne (if b then c else d)
if_uses true c d f g = f
if_uses false c d f g = g

both_uses : (ties : Ties) (j k : Binding) → (j.in_expression ≡ true) × IsUsable j.entity → (k.in_expression ≡ true) × IsUsable k.entity → AreMeantAlike ties j.in_expression k.in_expression j.entity k.entity
both_uses ties j k h i =
    subst (λ (b : Bool). AreMeantAlike ties b k.in_expression j.entity k.entity) (sym h.0) (subst (λ (b : Bool). AreMeantAlike ties true b j.entity k.entity) (sym i.0) (h.1, i.1))

ones_alike : {A B : Type 0} (ties : Ties) (c : Checked A) (d : Checked B) → UsesOne c → UsesOne d → Alike ties Anything c d
ones_alike ties c d h i = record { holds = by c d h.one i.one }
  where
    bound : (js ks : List Binding) → IsOneUse js → IsOneUse ks → AreKindsAlike ties js ks
    bound [] ks h i = absurd h
    bound (j ∷ (l ∷ js)) ks h i = absurd h
    bound (j ∷ []) [] h i = absurd i
    bound (j ∷ []) (k ∷ (l ∷ ks)) h i = absurd i
    bound (j ∷ []) (k ∷ []) h i = (both_uses ties j k h i, tt)

    by : {A B : Type 0} (c : Checked A) (d : Checked B) → OneOf c → OneOf d → Sides Anything ties c d
    by (fine x js) (fine y ks) h i = (bound js ks h i, tt)
    by (fine x js) (refused kind token) h i = tt
    by (fine x js) broken h i = tt
    by (refused kind token) d h i = tt
    by broken d h i = tt

module _ (s : Scope) where
  sort_uses : (a : PlainToken) (x : Sort) → UsesOne (file_operand s a x)
  sort_uses a (variable ty) = uses_it (file_entity a.text) _ tt
  sort_uses a (function f) = record { one = tt }

  file_uses : (a : PlainToken) (n : Option FileName) → UsesOne (file_name_operand s a n)
  file_uses a (Some n) = sort_uses a n.sort
  file_uses a None = record { one = tt }

  name_uses : (a : PlainToken) (x : Option Local) → UsesOne (name_operand s a x)
  name_uses a (Some x) = uses_it (local_entity x.slot) _ tt
  name_uses a None = file_uses a (s.file_names a.text)

  member_uses : (a : PlainToken) (place : PlainPlace) (free : Bool) (m : ℕ) (x : Option PlainMember) (i : ℕ) → UsesOne (member_operand a place free m x i)
  member_uses a place free m (Some x) i = uses_it (member_entity m i) _ tt
  member_uses a place free m None i = record { one = tt }

  struct_uses : (sign a : PlainToken) (place : PlainPlace) (free : Bool) (m : ℕ) (x : Option Struct) → UsesOne (member_in sign a place free m x)
  struct_uses sign a place free m (Some x) =
      quiet_uses (unless_so x.complete Incomplete sign) _ (quiet_unless x.complete Incomplete sign)
      (λ x1. quiet_uses (found_or (x.numbers a.text) NoMember a) _ (found_quiet (x.numbers a.text) NoMember a) (λ i. member_uses a place free m (slice_get x.members i) i))
  struct_uses sign a place free m None = record { one = tt }

  type_uses : (sign a : PlainToken) (ty : PlainType) (place : PlainPlace) (free : Bool) → UsesOne (member_of s sign a ty place free)
  type_uses sign a (structure m) place free = struct_uses sign a place free m (slice_get s.structs m)
  type_uses sign a _ place free = record { one = tt }

  target_uses : (sign a : PlainToken) (x : Typed) (ty : PlainType) → UsesOne (member_of_target s sign a x ty)
  target_uses sign a x (pointer_to ty) = type_uses sign a ty (target x.core) true
  target_uses sign a x _ = record { one = tt }

  selection_uses : (sign a : PlainToken) (o : Operand) → UsesOne (selected s sign a o)
  selection_uses sign a o =
      if_uses (bytes_eq sign.text (codes ".")) _ _ (type_uses sign a o.ty (struct_place o.ty o.designates) (is_free o.designates))
      (quiet_uses (loaded s o) _ (loads Never s o) (λ x. target_uses sign a x x.ty))

-- ---- expressions

module _ (s u : Scope) where
  singles_alike : (ties : Ties) (a b : PlainToken) (x : Terminal) → Alike ties Anything (single_operand s a x) (single_operand u b x)
  singles_alike ties a b t.Name = ones_alike ties _ _ (name_uses s a (local_in s.blocks a.text)) (name_uses u b (local_in u.blocks b.text))
  singles_alike ties a b t.Number = alike_give Anything ties (number_operand a) (number_operand b) tt
  singles_alike ties a b t.Character =
      some_then Anything ties (character_value (quoted_values a.text)) (character_value (quoted_values b.text)) _ _ (λ x y. alike_give Anything ties _ _ tt)
  singles_alike ties a b _ = left_broken Anything ties _

  leaves_alike : (ties : Ties) (a b : PlainToken) → SameButName a b → Alike ties Anything (judged s (leaf a)) (judged u (leaf b))
  leaves_alike ties a b e = subst (λ x. Alike ties Anything (judged s (leaf a)) (single_operand u b x)) (same_terminal a b e) (singles_alike ties a b (terminal a))

  texts_alike : (ties : Ties) (parts others : PlainTrees) → Alike ties Anything (judged s (node k.Texts parts)) (judged u (node k.Texts others))
  texts_alike ties parts others =
      some_then Anything ties (text_bytes parts) (text_bytes others) _ _
      (λ x y. some_then Anything ties (first_text parts) (first_text others) _ _ (λ a b. alike_give Anything ties _ _ tt))

  -- an operand that an operator takes, which binds nothing
  operator_alike :
      {A B : Type 0} (ties : Ties) (c d : Checked Operand) (f : Operand → Checked A) (g : Operand → Checked B) → Alike ties Anything c d → ((o : Operand) → Binds Never (f o)) → ((o : Operand) → Binds Never (g o))
      → Alike ties Anything (c >>= f) (d >>= g)
  operator_alike ties c d f g h i j = any_then Anything ties c d f g h (λ more_ grows o p. alike_quiet more_ (f o) (g p) (i o) (j p))

  -- an operand, and then what its value leads to
  value_then :
      {C D : Type 0} (W : Ties → C → D → Type 0) (ties : Ties) (c d : Checked Operand) (f : Typed → Checked C) (g : Typed → Checked D) → Alike ties Anything c d
      → ((more_ : Ties) → Grows ties more_ → (x y : Typed) → Alike more_ W (f x) (g y))
      → Alike ties W (c >>= (λ o. loaded s o >>= f)) (d >>= (λ o. loaded u o >>= g))
  value_then W ties c d f g h next =
      any_then W ties c d (λ o. loaded s o >>= f) (λ o. loaded u o >>= g) h (λ more_ grows o p. quiet_then W more_ (loaded s o) (loaded u p) f g (loads Never s o) (loads Never u p) (next more_ grows))

  two_alike :
      (ties : Ties) (c d : Checked Operand) (c' d' : Checked Operand) (f g : Typed → Typed → Checked Operand) → Alike ties Anything c d → ((more_ : Ties) → Alike more_ Anything c' d')
      → ((a b : Typed) → Binds Never (f a b)) → ((a b : Typed) → Binds Never (g a b))
      → Alike ties Anything (c >>= (λ left. loaded s left >>= (λ a. c' >>= (λ right. loaded s right >>= (λ b. f a b)))))
      (d >>= (λ left. loaded u left >>= (λ a. d' >>= (λ right. loaded u right >>= (λ b. g a b)))))
  two_alike ties c d c' d' f g h i p q =
      value_then Anything ties c d (λ a. c' >>= (λ right. loaded s right >>= (λ b. f a b))) (λ a. d' >>= (λ right. loaded u right >>= (λ b. g a b))) h
      (λ more_ grows a b. value_then Anything more_ c' d' (λ x. f a x) (λ y. g b y) (i more_) (λ third grows' x y. alike_quiet third (f a x) (g b y) (p a x) (q b y)))

  no_call : (c : Checked Operand) (bracket : PlainToken) → NeverFine {A = Operand} (c >>= (λ operand. loaded s operand >>= (λ x. refused BadOperand bracket)))
  no_call c bracket = never_then c _ (λ o. never_then (loaded s o) _ (λ x. tt))

  no_call_there : (d : Checked Operand) (bracket : PlainToken) → NeverFine {A = Operand} (d >>= (λ operand. loaded u operand >>= (λ x. refused BadOperand bracket)))
  no_call_there d bracket = never_then d _ (λ o. never_then (loaded u o) _ (λ x. tt))

  calls_alike :
      (ties : Ties) (c d : Checked Operand) (a b : PlainToken) (m n : ℕ) (first : Callee → Checked PlainArguments) (second : Callee → Checked PlainArguments) (o p : Option Callee)
      → ((more_ : Ties) (f g : Callee) → Alike more_ Anything (first f) (second g))
      → Alike ties Anything (elim o as (λ x. Checked Operand) [
        | Some f ↦ uses (file_entity f.name.text) >>= (λ bound. may_be_called s f.signature m a >>= (λ callable. first f >>= (λ arguments. give (result_of_call s f a arguments))))
        | None ↦ c >>= (λ operand. loaded s operand >>= (λ x. refused BadOperand a))
      ]) (elim p as (λ x. Checked Operand) [
        | Some g ↦ uses (file_entity g.name.text) >>= (λ bound. may_be_called u g.signature n b >>= (λ callable. second g >>= (λ arguments. give (result_of_call u g b arguments))))
        | None ↦ d >>= (λ operand. loaded u operand >>= (λ x. refused BadOperand b))
      ])
  calls_alike ties c d a b m n first second (Some f) (Some g) h =
      uses_then Anything ties (file_entity f.name.text) (file_entity g.name.text)
      (λ bound. may_be_called s f.signature m a >>= (λ callable. first f >>= (λ arguments. give (result_of_call s f a arguments))))
      (λ bound. may_be_called u g.signature n b >>= (λ callable. second g >>= (λ arguments. give (result_of_call u g b arguments)))) tt tt
      (λ x1 y1. quiet_then Anything ties (may_be_called s f.signature m a) (may_be_called u g.signature n b) _ _ (callable_binds Never s f.signature m a) (callable_binds Never u g.signature n b)
      (λ x y. any_then Anything ties (first f) (second g) _ _ (h ties f g) (λ third grows' v w. alike_give Anything third _ _ tt)))
  calls_alike ties c d a b m n first second None p h = left_never Anything ties _ _ (no_call c a)
  calls_alike ties c d a b m n first second (Some f) None h = right_never Anything ties _ _ (no_call_there d b)

  empty_calls_alike :
      (ties : Ties) (c d : Checked Operand) (a b : PlainToken) (o p : Option Callee)
      → Alike ties Anything (elim o as (λ x. Checked Operand) [
        | Some f ↦ uses (file_entity f.name.text) >>= (λ bound. may_be_called s f.signature 0 a >>= (λ callable. give (result_of_call s f a no_argument)))
        | None ↦ c >>= (λ operand. loaded s operand >>= (λ x. refused BadOperand a))
      ]) (elim p as (λ x. Checked Operand) [
        | Some g ↦ uses (file_entity g.name.text) >>= (λ bound. may_be_called u g.signature 0 b >>= (λ callable. give (result_of_call u g b no_argument)))
        | None ↦ d >>= (λ operand. loaded u operand >>= (λ x. refused BadOperand b))
      ])
  empty_calls_alike ties c d a b (Some f) (Some g) =
      uses_then Anything ties (file_entity f.name.text) (file_entity g.name.text)
      (λ bound. may_be_called s f.signature 0 a >>= (λ callable. give (result_of_call s f a no_argument)))
      (λ bound. may_be_called u g.signature 0 b >>= (λ callable. give (result_of_call u g b no_argument))) tt tt
      (λ x1 y1. quiet_then Anything ties (may_be_called s f.signature 0 a) (may_be_called u g.signature 0 b) _ _ (callable_binds Never s f.signature 0 a) (callable_binds Never u g.signature 0 b)
      (λ x y. alike_give Anything ties _ _ tt))
  empty_calls_alike ties c d a b None p = left_never Anything ties _ _ (no_call c a)
  empty_calls_alike ties c d a b (Some f) None = right_never Anything ties _ _ (no_call_there d b)

  conditions_alike :
      (ties : Ties) (c d : Checked Operand) (a b : PlainToken) → Alike ties Anything c d → Alike ties Anything (c >>= condition_value s a) (d >>= condition_value u b)
  conditions_alike ties c d a b h = operator_alike ties c d (condition_value s a) (condition_value u b) h (λ o. condition_binds Never s a o) (λ o. condition_binds Never u b o)

  mutual
    pub judged_alike : {tree other : PlainTree} (ties : Ties) → SameButNames tree other → Alike ties Anything (judged s tree) (judged u other)
    judged_alike ties (same_leaf {a = a} {b = b} e) = leaves_alike ties a b e
    judged_alike ties (same_node {kind = k.Texts} {parts = parts} {others = others} e) = texts_alike ties parts others
    judged_alike ties (same_node {kind = k.Parenthesized} (same_more x (same_more e (same_more y same_end)))) = judged_alike ties e
    judged_alike ties (same_node {kind = k.PostfixStep} (same_more {tree = tree} {other = other} e (same_more (same_leaf {a = a} {b = b} x) same_end))) =
        operator_alike ties (judged s tree) (judged u other) (stepped s update_after a) (stepped u update_after b) (judged_alike ties e) (λ o. stepped_binds Never s update_after a o) (λ o. stepped_binds Never u update_after b o)
    judged_alike ties (same_node {kind = k.PrefixStep} (same_more (same_leaf {a = a} {b = b} x) (same_more {tree = tree} {other = other} e same_end))) =
        operator_alike ties (judged s tree) (judged u other) (stepped s update a) (stepped u update b) (judged_alike ties e) (λ o. stepped_binds Never s update a o) (λ o. stepped_binds Never u update b o)
    judged_alike ties (same_node {kind = k.Prefix} (same_more (same_leaf {a = a} {b = b} x) (same_more {tree = tree} {other = other} e same_end))) =
        operator_alike ties (judged s tree) (judged u other) (prefixed s a) (prefixed u b) (judged_alike ties e) (λ o. prefixed_binds Never s a o) (λ o. prefixed_binds Never u b o)
    judged_alike ties (same_node {kind = k.Cast} (same_more (same_leaf {a = a} {b = b} x) (same_more (same_node {parts = words} {others = others} w) (same_more y (same_more {tree = tree} {other = other} e same_end))))) =
        value_then Anything ties (judged s tree) (judged u other) (λ v. cast_to a v (arithmetic_words words)) (λ v. cast_to b v (arithmetic_words others)) (judged_alike ties e)
        (λ more_ grows v w. alike_quiet more_ (cast_to a v (arithmetic_words words)) (cast_to b w (arithmetic_words others)) (cast_binds Never a v (arithmetic_words words)) (cast_binds Never b w (arithmetic_words others)))
    judged_alike ties (same_node {kind = k.Selection} (same_more {tree = tree} {other = other} e (same_more (same_leaf {a = a} {b = b} x) (same_more (same_leaf {a = m} {b = n} y) same_end)))) =
        any_then Anything ties (judged s tree) (judged u other) (selected s a m) (selected u b n) (judged_alike ties e)
        (λ more_ grows o p. ones_alike more_ (selected s a m o) (selected u b n p) (selection_uses s a m o) (selection_uses u b n p))
    judged_alike ties (same_node {kind = k.Index} (same_more {tree = first} {other = other} e (same_more (same_leaf {a = a} {b = b} x) (same_more {tree = second} {other = last} f (same_more y same_end))))) =
        two_alike ties (judged s first) (judged u other) (judged s second) (judged u last) (indexed s a) (indexed u b) (judged_alike ties e) (λ more_. judged_alike more_ f)
        (λ v w. indexed_binds Never s a v w) (λ v w. indexed_binds Never u b v w)
    judged_alike ties (same_node {kind = k.Call} (same_more {tree = first} {other = other} e (same_more (same_leaf {a = a} {b = b} x) (same_more (same_node {kind = k.Arguments} {parts = parts} {others = others} f) (same_more y same_end))))) =
        calls_alike ties (judged s first) (judged u other) a b (count_entries parts) (count_entries others) (λ c. judged_arguments s c.signature.parameters parts a) (λ c. judged_arguments u c.signature.parameters others b) (callee s first) (callee u other)
        (λ more_ c d. arguments_alike more_ c.signature.parameters d.signature.parameters a b f)
    judged_alike ties (same_node {kind = k.Call} (same_more {tree = first} {other = other} e (same_more (same_leaf {a = a} {b = b} x) (same_more (same_node {kind = k.Absent} same_end) (same_more y same_end))))) =
        empty_calls_alike ties (judged s first) (judged u other) a b (callee s first) (callee u other)
    judged_alike ties (same_node {kind = k.Assignment} (same_more {tree = first} {other = other} e (same_more (same_leaf {a = a} {b = b} x) (same_more {tree = second} {other = last} f same_end)))) =
        any_then Anything ties (judged s first) (judged u other)
        (λ left. written_place s a left >>= (λ place. judged s second >>= (λ operand. loaded s operand >>= (λ right. assignment s a left place right))))
        (λ left. written_place u b left >>= (λ place. judged u last >>= (λ operand. loaded u operand >>= (λ right. assignment u b left place right)))) (judged_alike ties e)
        (λ more_ grows o p. quiet_then Anything more_ (written_place s a o) (written_place u b p) _ _ (written_binds Never s a o) (written_binds Never u b p)
        (λ v w. value_then Anything more_ (judged s second) (judged u last) (λ right. assignment s a o v right) (λ right. assignment u b p w right) (judged_alike more_ f)
        (λ third grows' l r. alike_quiet third (assignment s a o v l) (assignment u b p w r) (assignment_binds Never s a o v l) (assignment_binds Never u b p w r))))
    judged_alike ties (same_node {kind = k.Conditional} (same_more {tree = first} {other = other} e (same_more (same_leaf {a = a} {b = b} x) (same_more {tree = second} {other = next} f (same_more y (same_more {tree = third} {other = last} g same_end)))))) =
        any_then Anything ties (judged s first >>= condition_value s (first_token first a)) (judged u other >>= condition_value u (first_token other b)) _ _
        (conditions_alike ties (judged s first) (judged u other) (first_token first a) (first_token other b) (judged_alike ties e))
        (λ more_ grows c d. two_alike more_ (judged s second) (judged u next) (judged s third) (judged u last) (chosen a c) (chosen b d) (judged_alike more_ f) (λ also. judged_alike also g)
        (λ v w. chosen_binds Never a c v w) (λ v w. chosen_binds Never b d v w))
    judged_alike ties (same_node {kind = kind} (same_more {tree = first} {other = other} e (same_more (same_leaf {a = a} {b = b} x) (same_more {tree = second} {other = last} f same_end)))) =
        two_alike ties (judged s first) (judged u other) (judged s second) (judged u last) (combined_by s kind a) (combined_by u kind b) (judged_alike ties e) (λ more_. judged_alike more_ f)
        (λ v w. combined_binds Never s kind a v w) (λ v w. combined_binds Never u kind b v w)
    judged_alike ties (same_node {kind = kind} e) = left_broken Anything ties _

    arguments_alike :
        {parts others : PlainTrees} (ties : Ties) (types kinds : List PlainType) (a b : PlainToken) → AllSameButNames parts others
        → Alike ties Anything (judged_arguments s types parts a) (judged_arguments u kinds others b)
    arguments_alike ties (ty ∷ types) (other ∷ kinds) a b same_end = alike_give Anything ties _ _ tt
    arguments_alike ties (ty ∷ types) (other ∷ kinds) a b (same_more {tree = first} {other = second} e same_end) =
        any_then Anything ties (judged s first) (judged u second) _ _ (judged_alike ties e)
        (λ more_ grows o p. quiet_then Anything more_ (passed s ty o (first_token first a)) (passed u other p (first_token second b)) _ _ (passed_binds Never s ty o (first_token first a)) (passed_binds Never u other p (first_token second b))
        (λ v w. alike_give Anything more_ _ _ tt))
    arguments_alike ties (ty ∷ types) (other ∷ kinds) a b (same_more {tree = first} {other = second} e (same_more {tree = comma} {other = sign} x (same_more {tree = third} {other = fourth} {rest = rest} {others = others} y l))) =
        any_then Anything ties (judged s first) (judged u second) _ _ (judged_alike ties e)
        (λ more_ grows o p. quiet_then Anything more_ (passed s ty o (first_token first a)) (passed u other p (first_token second b)) _ _ (passed_binds Never s ty o (first_token first a)) (passed_binds Never u other p (first_token second b))
        (λ v w. any_then Anything more_ (judged_arguments s types (more third rest) a) (judged_arguments u kinds (more fourth others) b) _ _ (arguments_alike more_ types kinds a b (same_more y l)) (λ also grows' m n. alike_give Anything also _ _ tt)))
    arguments_alike ties (ty ∷ types) (other ∷ kinds) a b (same_more {tree = first} {other = second} e (same_more x same_end)) =
        any_then Anything ties (judged s first) (judged u second) _ _ (judged_alike ties e)
        (λ more_ grows o p. quiet_then Anything more_ (passed s ty o (first_token first a)) (passed u other p (first_token second b)) _ _ (passed_binds Never s ty o (first_token first a)) (passed_binds Never u other p (first_token second b))
        (λ v w. any_then Anything more_ (judged_arguments s types none a) (judged_arguments u kinds none b) _ _ (arguments_alike more_ types kinds a b same_end) (λ also grows' m n. alike_give Anything also _ _ tt)))
    arguments_alike ties [] [] a b same_end = alike_give Anything ties _ _ tt
    arguments_alike ties [] (other ∷ kinds) a b same_end = alike_give Anything ties _ _ tt
    arguments_alike ties (ty ∷ types) [] a b same_end = alike_give Anything ties _ _ tt
    arguments_alike ties [] kinds a b (same_more e same_end) = left_broken Anything ties _
    arguments_alike ties [] kinds a b (same_more e (same_more x l)) = left_broken Anything ties _
    arguments_alike ties (ty ∷ types) [] a b (same_more e same_end) = right_broken Anything ties _
    arguments_alike ties (ty ∷ types) [] a b (same_more e (same_more x l)) = right_broken Anything ties _

  pub valued_alike : {tree other : PlainTree} (ties : Ties) → SameButNames tree other → Alike ties Anything (valued s tree) (valued u other)
  valued_alike {tree = tree} {other = other} ties e = operator_alike ties (judged s tree) (judged u other) (loaded s) (loaded u) (judged_alike ties e) (λ o. loads Never s o) (λ o. loads Never u o)

  pub judged_condition_alike : {tree other : PlainTree} (ties : Ties) (a b : PlainToken) → SameButNames tree other → Alike ties Anything (judged_condition s tree a) (judged_condition u other b)
  judged_condition_alike {tree = tree} {other = other} ties a b e = conditions_alike ties (judged s tree) (judged u other) (first_token tree a) (first_token other b) (judged_alike ties e)
