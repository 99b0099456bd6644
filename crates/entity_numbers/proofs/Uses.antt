-- What expressions bind: what is visible to them, and nothing else; and their types name visible structs alone. This holds of all trees.
use Rattle.std.proofs.Common.{◌≡◌, ℕ, ◌+◌, Bool, true, false, List, [], ◌∷◌, ◌++◌, refl, sym, subst, length}
use Rattle.std.specs.Prelude.{Option, Some, None, is_some, slice_get, codes, pos, ◌==◌, ◌||◌, if◌then◌else◌}
use Rattle.std.specs.Str.{bytes_eq}
use Rattle.std.proofs.lemmas.Bool.{false≢true}
use Rattle.std.proofs.lemmas.Option.{same_Some, none-some}
use Rattle.c_text.specs.Token.{PlainToken}
use Rattle.c_text.specs.Constants.{quoted_values, is_unsigned, digits_of, number_value}
use Rattle.c_types.specs.Types.{PlainType, char, int, pointer_to, array_of, structure}
use Rattle.c_types.specs.Tags.{PlainMember}
use Rattle.c_tree.specs.declared.kinds.Kind.{Kind}
use Rattle.c_tree.specs.declared.kinds.Kind.TheVariants as k
use Rattle.c_tree.specs.declared.terminals.Terminal.{Terminal}
use Rattle.c_tree.specs.declared.terminals.Terminal.TheVariants as t
use Rattle.c_tree.specs.Terminals.{terminal}
use Rattle.c_tree.specs.Trees.{PlainTree, PlainTrees, leaf, node, none, more}
use Rattle.core_meaning.specs.declared.refusals.TypeKind.{TypeKind}
use Rattle.core_meaning.specs.declared.refusals.TypeKind.TheVariants.{BadOperand, Incomplete, NoMember, ArgumentCount}
use Rattle.core_meaning.specs.declared.expressions.Change.{Change}
use Rattle.core_meaning.specs.Program.{PlainExpression, PlainPlace, PlainArguments, no_argument, argument, update, update_after, target, assign, constant, literal}
use Rattle.core_meaning.specs.Checking.{Entity, local_entity, file_entity, member_entity, Binding, Checked, fine, refused, broken, with_bindings, ◌>>=◌, give, unless_so, found_or, or_broken, uses}
use Rattle.core_meaning.specs.Entities.{Table, Struct, Local, Signature, Sort, variable, function, FileName, Scope, local_in, entity_number}
use Rattle.core_meaning.specs.Typing.{Operand, Typed, of_value, of_object, loaded, is_complete, fits_into}
use Rattle.core_meaning.specs.Expressions.{judged, judged_arguments, valued, judged_condition, single_operand, name_operand, file_name_operand, file_operand, number_operand, number_types, has_long, character_value, written_place, left_value, updated, one, stepped, assignment, operation_on, change_by, compound_operator, combined, prefixed, cast_to, arithmetic_words, indexed, member_operand, member_in, member_of, member_of_target, selected, struct_place, is_free, is_void, chosen, Callee, callee, callee_of_sort, callee_of_name, callee_unless_local, count_entries, may_be_called, result_of_call, passed, combined_by, operator_named, condition_value, first_token, text_bytes, first_text}
use Rattle.bindings.proofs.Follows.{Yields}
use Rattle.bindings.proofs.Types.{Tagged as TagOf, Made, AllMade, MadeSort, made_number, made_words}
use Rattle.bindings.proofs.Operators.{Anything, loads, written_yields, stepped_yields, assignment_yields, prefixed_yields, cast_yields, indexed_yields, logical_and_yields, logical_or_yields, combined_yields, chosen_yields, passed_yields, condition_yields}

-- ---- all that is bound

abbrev pub All : (Entity → Type 0) → List Binding → Type 0
All K [] = Unit {0}
All K (b ∷ rest) = K b.entity × All K rest

pub all_append : (K : Entity → Type 0) (js ks : List Binding) → All K js → All K ks → All K (js ++ ks)
all_append K [] ks f g = g
all_append K (j ∷ js) ks f g = (f.0, all_append K js ks f.1 g)

abbrev pub AllOf : {A : Type 0} → (Entity → Type 0) → Checked A → Type 0
AllOf K (fine x js) = All K js
AllOf K (refused kind token) = Unit {0}
AllOf K broken = Unit {0}

pub record Binds {A : Type 0} (K : Entity → Type 0) (c : Checked A) : Type 0 where
  pub all : AllOf K c

-- with what holds of the result
abbrev pub GivenOf : {A : Type 0} → (Entity → Type 0) → (A → Type 0) → Checked A → Type 0
GivenOf K P (fine x js) = All K js × P x
GivenOf K P (refused kind token) = Unit {0}
GivenOf K P broken = Unit {0}

pub record Gives {A : Type 0} (K : Entity → Type 0) (P : A → Type 0) (c : Checked A) : Type 0 where
  pub given_ : GivenOf K P c

-- what is said of entities, and tags of the structs that types may name
pub record Sense : Type 1 where
  pub knows : Entity → Type 0
  pub tags : Table ℕ

-- what is visible may be bound, and its types name the structs of these tags
pub record Allows (K : Entity → Type 0) (tags : Table ℕ) (s : Scope) : Type 0 where
  pub locals : (name : List ℕ) (l : Local) → local_in s.blocks name ≡ Some l → K (local_entity l.slot) × Made tags l.ty
  pub files : (name : List ℕ) (n : FileName) → s.file_names name ≡ Some n → K (file_entity name) × MadeSort tags n.sort
  pub members :
      (number n : ℕ) (found : Struct) (m : PlainMember) → TagOf tags number → slice_get s.structs number ≡ Some found → slice_get found.members n ≡ Some m
      → K (member_entity number n) × Made tags m.ty

module _ (K : Entity → Type 0) where
  with_all : {B : Type 0} (js : List Binding) (c : Checked B) → All K js → AllOf K c → AllOf K (with_bindings js c)
  with_all js (fine x ks) f g = all_append K js ks f g
  with_all js (refused kind token) f g = tt
  with_all js broken f g = tt

  pub then_binds : {A B : Type 0} (c : Checked A) (f : A → Checked B) → Binds K c → ((x : A) → Binds K (f x)) → Binds K (c >>= f)
  then_binds (fine x js) f h g = record { all = with_all js (f x) h.all (g x).all }
  then_binds (refused kind token) f h g = record { all = tt }
  then_binds broken f h g = record { all = tt }

  pub if_binds : {A : Type 0} (b : Bool) (c d : Checked A) → Binds K c → Binds K d → Binds K (if b then c else d)
  if_binds true c d f g = f
  if_binds false c d f g = g

  pub gives : {A : Type 0} (x : A) → Binds K (give x)
  gives x = record { all = tt }

  pub refuses : {A : Type 0} (kind : TypeKind) (token : PlainToken) → Binds {A = A} K (refused kind token)
  refuses kind token = record { all = tt }

  pub unless_binds : (b : Bool) (kind : TypeKind) (token : PlainToken) → Binds K (unless_so b kind token)
  unless_binds true kind token = record { all = tt }
  unless_binds false kind token = record { all = tt }

  pub found_binds : {A : Type 0} (o : Option A) (kind : TypeKind) (token : PlainToken) → Binds K (found_or o kind token)
  found_binds (Some x) kind token = record { all = tt }
  found_binds None kind token = record { all = tt }

  pub some_binds : {A : Type 0} (o : Option A) → Binds K (or_broken o)
  some_binds (Some x) = record { all = tt }
  some_binds None = record { all = tt }

  pub some_then : {A B : Type 0} (o : Option A) (f : A → Checked B) → ((x : A) → Binds K (f x)) → Binds K (or_broken o >>= f)
  some_then o f g = then_binds (or_broken o) f (some_binds o) g

  pub found_then : {A B : Type 0} (o : Option A) (kind : TypeKind) (token : PlainToken) (f : A → Checked B) → ((x : A) → Binds K (f x)) → Binds K (found_or o kind token >>= f)
  found_then o kind token f g = then_binds (found_or o kind token) f (found_binds o kind token) g

  pub unless_then : {B : Type 0} (b : Bool) (kind : TypeKind) (token : PlainToken) (f : Unit {0} → Checked B) → ((x : Unit {0}) → Binds K (f x)) → Binds K (unless_so b kind token >>= f)
  unless_then b kind token f g = then_binds (unless_so b kind token) f (unless_binds b kind token) g

  -- ---- what holds of results

  pub gives_then : {A B : Type 0} (P : A → Type 0) (Q : B → Type 0) (c : Checked A) (f : A → Checked B) → Gives K P c → ((x : A) → P x → Gives K Q (f x)) → Gives K Q (c >>= f)
  gives_then P Q (fine x js) f h g = record { given_ = behind Q js (f x) h.given_.0 (g x h.given_.1).given_ }
    where
      behind : {B : Type 0} (Q : B → Type 0) (js : List Binding) (c : Checked B) → All K js → GivenOf K Q c → GivenOf K Q (with_bindings js c)
      behind Q js (fine y ks) f g = (all_append K js ks f g.0, g.1)
      behind Q js (refused kind token) f g = tt
      behind Q js broken f g = tt
  gives_then P Q (refused kind token) f h g = record { given_ = tt }
  gives_then P Q broken f h g = record { given_ = tt }

  pub gives_binds : {A : Type 0} (P : A → Type 0) (c : Checked A) → Gives K P c → Binds K c
  gives_binds P (fine x js) h = record { all = h.given_.0 }
  gives_binds P (refused kind token) h = record { all = tt }
  gives_binds P broken h = record { all = tt }

  pub binds_give : {A : Type 0} (c : Checked A) → Binds K c → Gives K (Anything {A = A}) c
  binds_give (fine x js) h = record { given_ = (h.all, tt) }
  binds_give (refused kind token) h = record { given_ = tt }
  binds_give broken h = record { given_ = tt }

  pub gives_if : {A : Type 0} (P : A → Type 0) (b : Bool) (c d : Checked A) → Gives K P c → Gives K P d → Gives K P (if b then c else d)
  gives_if P true c d f g = f
  gives_if P false c d f g = g

  quietly : {A : Type 0} (P : A → Type 0) (c : Checked A) → Yields P c → Gives K P c
  quietly P (fine x js) h = record { given_ = (subst (All K) (sym h.none) tt, h.value) }
  quietly P (refused kind token) h = record { given_ = tt }
  quietly P broken h = record { given_ = tt }

  pub some_gives : {A B : Type 0} (P : B → Type 0) (o : Option A) (f : A → Checked B) → ((x : A) → Gives K P (f x)) → Gives K P (or_broken o >>= f)
  some_gives P o f g = gives_then Anything P (or_broken o) f (binds_give (or_broken o) (some_binds o)) (λ x y. g x)

  none_gives : {A B : Type 0} (P : B → Type 0) (o : Option A) (f : A → Checked B) → is_some o ≡ false → Gives K P (or_broken o >>= f)
  none_gives P None f e = record { given_ = tt }
  none_gives P (Some x) f e = absurd (false≢true (sym e))

  module _ (tags : Table ℕ) where
    abbrev pub Operands : Operand → Type 0
    Operands o = Made tags o.ty

    abbrev pub Values : Typed → Type 0
    Values x = Made tags x.ty

    -- ---- operators bind nothing

    pub load_gives : {B : Type 0} (P : B → Type 0) (s : Scope) (o : Operand) (f : Typed → Checked B) → Operands o → ((x : Typed) → Values x → Gives K P (f x)) → Gives K P (loaded s o >>= f)
    load_gives P s o f h g = gives_then Values P (loaded s o) f (quietly Values (loaded s o) (loads tags s o h)) g

    stepped_gives : (s : Scope) (make : Change → PlainPlace → PlainExpression → PlainExpression) (sign : PlainToken) (o : Operand) → Operands o → Gives K Operands (stepped s make sign o)
    stepped_gives s make sign o h = by (is_some (compound_operator sign.text)) refl
      where
        by : (b : Bool) → is_some (compound_operator sign.text) ≡ b → Gives K Operands (stepped s make sign o)
        by true e = quietly Operands (stepped s make sign o) (stepped_yields tags s make sign o e h)
        by false e =
            gives_then Anything Operands (written_place s sign o) (λ place. updated s make sign o place one) (quietly Anything (written_place s sign o) (written_yields tags s sign o))
            (λ place x. none_gives Operands (compound_operator sign.text) (λ op. found_or (change_by o.ty (operation_on s.structs op (left_value o place) one)) BadOperand sign >>= (λ c. give (of_value sign o.ty (make c place one.core)))) e)

    assignment_gives : (s : Scope) (sign : PlainToken) (left : Operand) (place : PlainPlace) (right : Typed) → Operands left → Gives K Operands (assignment s sign left place right)
    assignment_gives s sign left place right h = by (bytes_eq sign.text (codes "=") || is_some (compound_operator sign.text)) refl
      where
        neither : (a b : Bool) → (a || b) ≡ false → (a ≡ false) × (b ≡ false)
        neither true b e = absurd (false≢true (sym e))
        neither false b e = (refl, e)

        by : (b : Bool) → (bytes_eq sign.text (codes "=") || is_some (compound_operator sign.text)) ≡ b → Gives K Operands (assignment s sign left place right)
        by true e = quietly Operands (assignment s sign left place right) (assignment_yields tags s sign left place right e h)
        by false e =
            let both = neither (bytes_eq sign.text (codes "=")) (is_some (compound_operator sign.text)) e in
            subst (λ (b : Bool). Gives K Operands (if b then found_or (fits_into left.ty right) BadOperand sign >>= (λ core. give (of_value sign left.ty (assign place core))) else updated s update sign left place right)) (sym both.0)
            (none_gives Operands (compound_operator sign.text) (λ op. found_or (change_by left.ty (operation_on s.structs op (left_value left place) right)) BadOperand sign >>= (λ c. give (of_value sign left.ty (update c place right.core)))) both.1)

    named_gives : (s : Scope) (sign : PlainToken) (a b : Typed) → Values a → Values b → Gives K Operands (or_broken (operator_named sign.text) >>= combined s sign a b)
    named_gives s sign a b f g = by (is_some (operator_named sign.text)) refl
      where
        by : (c : Bool) → is_some (operator_named sign.text) ≡ c → Gives K Operands (or_broken (operator_named sign.text) >>= combined s sign a b)
        by true e = quietly Operands (or_broken (operator_named sign.text) >>= combined s sign a b) (combined_yields tags s sign a b e f g)
        by false e = none_gives Operands (operator_named sign.text) (combined s sign a b) e

    combined_gives : (s : Scope) (kind : Kind) (sign : PlainToken) (a b : Typed) → Values a → Values b → Gives K Operands (combined_by s kind sign a b)
    combined_gives s k.LogicalAnd sign a b f g = quietly Operands (combined_by s k.LogicalAnd sign a b) (logical_and_yields tags s sign a b)
    combined_gives s k.LogicalOr sign a b f g = quietly Operands (combined_by s k.LogicalOr sign a b) (logical_or_yields tags s sign a b)
    combined_gives s _ sign a b f g = named_gives s sign a b f g

    pub passed_gives : (s : Scope) (ty : PlainType) (o : Operand) (first : PlainToken) → Operands o → Gives K (Anything {A = PlainExpression}) (passed s ty o first)
    passed_gives s ty o first h = quietly Anything (passed s ty o first) (passed_yields tags s ty o first h)

    pub condition_gives : (s : Scope) (first : PlainToken) (o : Operand) → Operands o → Gives K (Anything {A = PlainExpression}) (condition_value s first o)
    condition_gives s first o h = quietly Anything (condition_value s first o) (condition_yields tags s first o h)

    -- ---- names and members

    module _ (s : Scope) (h : Allows K tags s) where
      file_gives : (token : PlainToken) (sort : Sort) → K (file_entity token.text) → MadeSort tags sort → Gives K Operands (file_operand s token sort)
      file_gives token (variable ty) known made = record { given_ = ((known, tt), made) }
      file_gives token (function signature) known made = record { given_ = tt }

      file_name_gives : (token : PlainToken) (n : Option FileName) → s.file_names token.text ≡ n → Gives K Operands (file_name_operand s token n)
      file_name_gives token None e = record { given_ = tt }
      file_name_gives token (Some n) e = let f = h.files token.text n e in file_gives token n.sort f.0 f.1

      name_gives : (token : PlainToken) (l : Option Local) → local_in s.blocks token.text ≡ l → Gives K Operands (name_operand s token l)
      name_gives token (Some l) e = let f = h.locals token.text l e in record { given_ = ((f.0, tt), f.1) }
      name_gives token None e = file_name_gives token (s.file_names token.text) refl

      number_made : (token : PlainToken) → Operands (number_operand token)
      number_made token =
          made_number tags (number_types (is_unsigned token.text) (has_long token.text) ((digits_of token.text).base == 10)) (pos (number_value token.text)) (is_unsigned token.text) (has_long token.text) ((digits_of token.text).base == 10) refl

      single_gives : (token : PlainToken) (kind : Terminal) → Gives K Operands (single_operand s token kind)
      single_gives token t.Name = name_gives token (local_in s.blocks token.text) refl
      single_gives token t.Number = record { given_ = (tt, number_made token) }
      single_gives token t.Character = some_gives Operands (character_value (quoted_values token.text)) (λ z. give (of_value token int (constant z))) (λ z. record { given_ = (tt, tt) })
      single_gives token _ = record { given_ = tt }

      member_gives :
          (name : PlainToken) (place : PlainPlace) (free : Bool) (number : ℕ) (found : Struct) (n : ℕ) → TagOf tags number → slice_get s.structs number ≡ Some found → (o : Option PlainMember) → slice_get found.members n ≡ o
          → Gives K Operands (member_operand name place free number o n)
      member_gives name place free number found n tag e None f = record { given_ = tt }
      member_gives name place free number found n tag e (Some m) f = let g = h.members number n found m tag e f in record { given_ = ((g.0, tt), g.1) }

      struct_gives :
          (sign name : PlainToken) (place : PlainPlace) (free : Bool) (number : ℕ) (o : Option Struct) → TagOf tags number → slice_get s.structs number ≡ o → Gives K Operands (member_in sign name place free number o)
      struct_gives sign name place free number None tag e = record { given_ = tt }
      struct_gives sign name place free number (Some found) tag e =
          gives_then Anything Operands (unless_so found.complete Incomplete sign) (λ x. found_or (found.numbers name.text) NoMember name >>= (λ n. member_operand name place free number (slice_get found.members n) n)) (binds_give (unless_so found.complete Incomplete sign) (unless_binds found.complete Incomplete sign))
          (λ x y. gives_then Anything Operands (found_or (found.numbers name.text) NoMember name) (λ n. member_operand name place free number (slice_get found.members n) n) (binds_give (found_or (found.numbers name.text) NoMember name) (found_binds (found.numbers name.text) NoMember name))
          (λ n z. member_gives name place free number found n tag e (slice_get found.members n) refl))

      of_gives : (sign name : PlainToken) (ty : PlainType) (place : PlainPlace) (free : Bool) → Made tags ty → Gives K Operands (member_of s sign name ty place free)
      of_gives sign name (structure number) place free made = struct_gives sign name place free number (slice_get s.structs number) made refl
      of_gives sign name _ place free made = record { given_ = tt }

      target_gives : (sign name : PlainToken) (x : Typed) (ty : PlainType) → Made tags ty → Gives K Operands (member_of_target s sign name x ty)
      target_gives sign name x (pointer_to ty) made = of_gives sign name ty (target x.core) true made
      target_gives sign name x _ made = record { given_ = tt }

      selected_gives : (sign name : PlainToken) (o : Operand) → Operands o → Gives K Operands (selected s sign name o)
      selected_gives sign name o made =
          gives_if Operands (bytes_eq sign.text (codes ".")) _ _ (of_gives sign name o.ty (struct_place o.ty o.designates) (is_free o.designates) made)
          (load_gives Operands s o (λ x. member_of_target s sign name x x.ty) made (λ x m. target_gives sign name x x.ty m))

      -- ---- expressions

      two_give :
          {B : Type 0} (P : B → Type 0) (first second : Checked Operand) (next : Typed → Typed → Checked B) → Gives K Operands first → Gives K Operands second
          → ((a b : Typed) → Values a → Values b → Gives K P (next a b))
          → Gives K P (first >>= (λ left. loaded s left >>= (λ a. second >>= (λ right. loaded s right >>= (λ b. next a b)))))
      two_give P first second next f g n =
          gives_then Operands P first (λ left. loaded s left >>= (λ a. second >>= (λ right. loaded s right >>= (λ b. next a b)))) f
          (λ left l. load_gives P s left (λ a. second >>= (λ right. loaded s right >>= (λ b. next a b))) l
          (λ a x. gives_then Operands P second (λ right. loaded s right >>= (λ b. next a b)) g (λ right r. load_gives P s right (λ b. next a b) r (λ b y. n a b x y))))

      no_call : (first : Checked Operand) (bracket : PlainToken) → Gives K Operands first → Gives K Operands (first >>= (λ operand. loaded s operand >>= (λ x. refused BadOperand bracket)))
      no_call first bracket f = gives_then Operands Operands first (λ operand. loaded s operand >>= (λ x. refused BadOperand bracket)) f (λ o m. load_gives Operands s o (λ x. refused BadOperand bracket) m (λ x y. record { given_ = tt }))

      -- a function that is called is visible
      record Called (f : Callee) : Type 0 where
        known : K (file_entity f.name.text)
        made : MadeSort tags (function f.signature)

      sort_called : (token : PlainToken) (sort : Sort) (f : Callee) → K (file_entity token.text) → MadeSort tags sort → callee_of_sort token sort ≡ Some f → Called f
      sort_called token (variable ty) f known made e = absurd (none-some f e)
      sort_called token (function signature) f known made e = subst Called (same_Some (record { name = token; signature = signature }) f e) (record { known = known; made = made })

      name_called : (token : PlainToken) (n : Option FileName) → s.file_names token.text ≡ n → (f : Callee) → callee_of_name token n ≡ Some f → Called f
      name_called token None i f e = absurd (none-some f e)
      name_called token (Some n) i f e = let g = h.files token.text n i in sort_called token n.sort f g.0 g.1 e

      local_called : (token : PlainToken) (l : Option Local) (f : Callee) → callee_unless_local s token l ≡ Some f → Called f
      local_called token (Some l) f e = absurd (none-some f e)
      local_called token None f e = name_called token (s.file_names token.text) refl f e

      called : (tree : PlainTree) (f : Callee) → callee s tree ≡ Some f → Called f
      called (leaf token) f e = local_called token (local_in s.blocks token.text) f e
      called (node k.Parenthesized (more bracket (more inner (more close none)))) f e = called inner f e
      called _ f e = absurd (none-some f e)

      callable_gives : (f : Signature) (count : ℕ) (bracket : PlainToken) → Gives K (Anything {A = Unit {0}}) (may_be_called s f count bracket)
      callable_gives f count bracket = binds_give (may_be_called s f count bracket) (unless_then (is_void f.result || is_complete s.structs f.result) Incomplete bracket (λ complete. unless_so (count == length f.parameters) ArgumentCount bracket) (λ x. unless_binds (count == length f.parameters) ArgumentCount bracket))

      call_gives :
          (first : PlainTree) (bracket : PlainToken) (count : Callee → ℕ) (arguments_ : Callee → Checked PlainArguments) (o : Option Callee) → callee s first ≡ o → Gives K Operands (judged s first)
          → ((f : Callee) → AllMade tags f.signature.parameters → Gives K (Anything {A = PlainArguments}) (arguments_ f))
          → Gives K Operands (elim o as (λ x. Checked Operand) [
            | Some f ↦ uses (file_entity f.name.text) >>= (λ bound. may_be_called s f.signature (count f) bracket >>= (λ callable. arguments_ f >>= (λ arguments. give (result_of_call s f bracket arguments))))
            | None ↦ judged s first >>= (λ operand. loaded s operand >>= (λ x. refused BadOperand bracket))
          ])
      call_gives first bracket count arguments_ (Some f) e a g =
          let c = called first f e in
          gives_then Anything Operands (uses (file_entity f.name.text)) (λ bound. may_be_called s f.signature (count f) bracket >>= (λ callable. arguments_ f >>= (λ arguments. give (result_of_call s f bracket arguments)))) (record { given_ = ((c.known, tt), tt) })
          (λ x u. gives_then Anything Operands (may_be_called s f.signature (count f) bracket) (λ callable. arguments_ f >>= (λ arguments. give (result_of_call s f bracket arguments))) (callable_gives f.signature (count f) bracket)
          (λ y v. gives_then Anything Operands (arguments_ f) (λ arguments. give (result_of_call s f bracket arguments)) (g f c.made.1) (λ z w. record { given_ = (tt, c.made.0) })))
      call_gives first bracket count arguments_ None e a g = no_call (judged s first) bracket a

      empty_call :
          (first : PlainTree) (bracket : PlainToken) (o : Option Callee) → callee s first ≡ o → Gives K Operands (judged s first)
          → Gives K Operands (elim o as (λ x. Checked Operand) [
            | Some f ↦ uses (file_entity f.name.text) >>= (λ bound. may_be_called s f.signature 0 bracket >>= (λ callable. give (result_of_call s f bracket no_argument)))
            | None ↦ judged s first >>= (λ operand. loaded s operand >>= (λ x. refused BadOperand bracket))
          ])
      empty_call first bracket (Some f) e a =
          let c = called first f e in
          gives_then Anything Operands (uses (file_entity f.name.text)) (λ bound. may_be_called s f.signature 0 bracket >>= (λ callable. give (result_of_call s f bracket no_argument))) (record { given_ = ((c.known, tt), tt) })
          (λ x u. gives_then Anything Operands (may_be_called s f.signature 0 bracket) (λ callable. give (result_of_call s f bracket no_argument)) (callable_gives f.signature 0 bracket) (λ y v. record { given_ = (tt, c.made.0) }))
      empty_call first bracket None e a = no_call (judged s first) bracket a

      mutual
        pub judged_gives : (tree : PlainTree) → Gives K Operands (judged s tree)
        judged_gives (leaf token) = single_gives token (terminal token)
        judged_gives (node k.Texts parts) =
            some_gives Operands (text_bytes parts) (λ bytes. or_broken (first_text parts) >>= (λ first. give (of_object first (array_of char (length bytes + 1)) (literal (entity_number s.numbers.literals bytes)) true)))
            (λ bytes. some_gives Operands (first_text parts) (λ first. give (of_object first (array_of char (length bytes + 1)) (literal (entity_number s.numbers.literals bytes)) true)) (λ first. record { given_ = (tt, tt) }))
        judged_gives (node k.Parenthesized (more bracket (more inner (more close none)))) = judged_gives inner
        judged_gives (node k.PostfixStep (more inner (more (leaf sign) none))) = gives_then Operands Operands (judged s inner) (stepped s update_after sign) (judged_gives inner) (λ o m. stepped_gives s update_after sign o m)
        judged_gives (node k.PrefixStep (more (leaf sign) (more inner none))) = gives_then Operands Operands (judged s inner) (stepped s update sign) (judged_gives inner) (λ o m. stepped_gives s update sign o m)
        judged_gives (node k.Prefix (more (leaf sign) (more inner none))) = gives_then Operands Operands (judged s inner) (prefixed s sign) (judged_gives inner) (λ o m. quietly Operands (prefixed s sign o) (prefixed_yields tags s sign o m))
        judged_gives (node k.Cast (more (leaf bracket) (more (node words_kind words) (more close (more inner none))))) =
            gives_then Operands Operands (judged s inner) (λ o. loaded s o >>= (λ x. cast_to bracket x (arithmetic_words words))) (judged_gives inner)
            (λ o m. load_gives Operands s o (λ x. cast_to bracket x (arithmetic_words words)) m (λ x y. quietly Operands (cast_to bracket x (arithmetic_words words)) (cast_yields tags bracket x (arithmetic_words words) (made_words tags words))))
        judged_gives (node k.Selection (more first (more (leaf sign) (more (leaf name) none)))) = gives_then Operands Operands (judged s first) (selected s sign name) (judged_gives first) (λ o m. selected_gives sign name o m)
        judged_gives (node k.Index (more first (more (leaf bracket) (more second (more close none))))) =
            two_give Operands (judged s first) (judged s second) (indexed s bracket) (judged_gives first) (judged_gives second) (λ a b x y. quietly Operands (indexed s bracket a b) (indexed_yields tags s bracket a b x y))
        judged_gives (node k.Call (more first (more (leaf bracket) (more (node k.Arguments parts) (more close none))))) =
            call_gives first bracket (λ f. count_entries parts) (λ f. judged_arguments s f.signature.parameters parts bracket) (callee s first) refl (judged_gives first) (λ f made. arguments_give f.signature.parameters parts bracket)
        judged_gives (node k.Call (more first (more (leaf bracket) (more (node k.Absent none) (more close none))))) = empty_call first bracket (callee s first) refl (judged_gives first)
        judged_gives (node k.Assignment (more first (more (leaf sign) (more second none)))) =
            gives_then Operands Operands (judged s first) (λ left. written_place s sign left >>= (λ place. judged s second >>= (λ o. loaded s o >>= (λ right. assignment s sign left place right)))) (judged_gives first)
            (λ left m. gives_then Anything Operands (written_place s sign left) (λ place. judged s second >>= (λ o. loaded s o >>= (λ right. assignment s sign left place right))) (quietly Anything (written_place s sign left) (written_yields tags s sign left))
            (λ place x. gives_then Operands Operands (judged s second) (λ o. loaded s o >>= (λ right. assignment s sign left place right)) (judged_gives second)
            (λ o y. load_gives Operands s o (λ right. assignment s sign left place right) y (λ right z. assignment_gives s sign left place right m))))
        judged_gives (node k.Conditional (more first (more (leaf question) (more second (more colon (more third none)))))) =
            gives_then Anything Operands (judged s first >>= condition_value s (first_token first question)) (λ condition. judged s second >>= (λ left. loaded s left >>= (λ a. judged s third >>= (λ right. loaded s right >>= (λ b. chosen question condition a b)))))
            (gives_then Operands Anything (judged s first) (condition_value s (first_token first question)) (judged_gives first) (λ o m. condition_gives s (first_token first question) o m))
            (λ condition u. two_give Operands (judged s second) (judged s third) (chosen question condition) (judged_gives second) (judged_gives third) (λ a b x y. quietly Operands (chosen question condition a b) (chosen_yields tags question condition a b x y)))
        judged_gives (node kind (more first (more (leaf sign) (more second none)))) =
            two_give Operands (judged s first) (judged s second) (combined_by s kind sign) (judged_gives first) (judged_gives second) (λ a b x y. combined_gives s kind sign a b x y)
        judged_gives (node kind parts) = record { given_ = tt }

        pub arguments_give : (types : List PlainType) (parts : PlainTrees) (bracket : PlainToken) → Gives K (Anything {A = PlainArguments}) (judged_arguments s types parts bracket)
        arguments_give (ty ∷ types) (more tree none) bracket =
            gives_then Operands Anything (judged s tree) (λ o. passed s ty o (first_token tree bracket) >>= (λ core. give (argument core no_argument))) (judged_gives tree)
            (λ o m. gives_then Anything Anything (passed s ty o (first_token tree bracket)) (λ core. give (argument core no_argument)) (passed_gives s ty o (first_token tree bracket) m) (λ core x. record { given_ = (tt, tt) }))
        arguments_give (ty ∷ types) (more tree (more comma rest)) bracket =
            gives_then Operands Anything (judged s tree) (λ o. passed s ty o (first_token tree bracket) >>= (λ core. judged_arguments s types rest bracket >>= (λ others. give (argument core others)))) (judged_gives tree)
            (λ o m. gives_then Anything Anything (passed s ty o (first_token tree bracket)) (λ core. judged_arguments s types rest bracket >>= (λ others. give (argument core others))) (passed_gives s ty o (first_token tree bracket) m)
            (λ core x. gives_then Anything Anything (judged_arguments s types rest bracket) (λ others. give (argument core others)) (arguments_give types rest bracket) (λ others y. record { given_ = (tt, tt) })))
        arguments_give (ty ∷ types) none bracket = record { given_ = (tt, tt) }
        arguments_give [] none bracket = record { given_ = (tt, tt) }
        arguments_give [] (more tree none) bracket = record { given_ = tt }
        arguments_give [] (more tree (more comma rest)) bracket = record { given_ = tt }

      pub valued_gives : (tree : PlainTree) → Gives K Values (valued s tree)
      valued_gives tree = gives_then Operands Values (judged s tree) (loaded s) (judged_gives tree) (λ o m. quietly Values (loaded s o) (loads tags s o m))

      pub valued_binds : (tree : PlainTree) → Binds K (valued s tree)
      valued_binds tree = gives_binds Values (valued s tree) (valued_gives tree)

      pub judged_condition_binds : (tree : PlainTree) (behind : PlainToken) → Binds K (judged_condition s tree behind)
      judged_condition_binds tree behind =
          gives_binds Anything (judged_condition s tree behind) (gives_then Operands Anything (judged s tree) (condition_value s (first_token tree behind)) (judged_gives tree) (λ o m. condition_gives s (first_token tree behind) o m))
