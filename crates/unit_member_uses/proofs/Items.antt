-- The items of a unit, one after the other.
use Rattle.std.proofs.Common.{◌≡◌, ℕ, Bool, true, false, List, [], ◌∷◌, ◌++◌, refl, sym, ap, ap₂, subst, ◌∙◌, IsTrue, append-nil}
use Rattle.std.specs.Prelude.{Option, Some, None}
use Rattle.std.proofs.lemmas.Bool.{false≢true}
use Rattle.std.proofs.lemmas.Option.{none-some}
use Rattle.c_text.specs.Token.{PlainToken}
use Rattle.c_tree.specs.declared.kinds.Kind.{Kind}
use Rattle.c_tree.specs.declared.kinds.Kind.TheVariants as k
use Rattle.c_tree.specs.declared.terminals.Terminal.TheVariants as t
use Rattle.c_tree.specs.Trees.{PlainTree, PlainTrees, leaf, node, none, more}
use Rattle.c_tree.specs.Grammar as grammar
use Rattle.c_tree.specs.Grammar.{declarator, declarators, file_specifiers, file_first, file_item, tag, members, word, stars, defines_function}
use Rattle.tree_derivations.specs.Derivations.{Derivation, single, made_of, Shaped, Row, a_row, a_part, a_word, at_end, some_words, one_or_more, declarators_of, Each, no_more, one_more, Declared, last_plain, last_initialised, next_plain, next_initialised, IsWord}
use Rattle.core_meaning.specs.Checking.{Binding, Checked, fine, refused, broken, in_function, ◌>>=◌, give, or_broken}
use Rattle.core_meaning.specs.Entities.{Struct, Numbers}
use Rattle.core_meaning.specs.Declarations.{name_in, Based, based, starred}
use Rattle.core_meaning.specs.UnitNames.{UnitState, with_scope, storage_of, declared_from, count_functions, defined_function, judged_item, judged_file_items, unit_start, unless_too_big, too_big_in, judged_unit}
use Rattle.declarator_lists.specs.Lists.{declared_in, trees_of}
use Rattle.declaration_readings.specs.Readings.{Going, next_name}
use Rattle.bindings.proofs.Spellings.{Holds, AllHold, no_name}
use Rattle.operand_types.specs.Laws.{TypesAreKept}
use Rattle.expression_types.specs.Laws.{ExpressionsHaveTypes}
use Rattle.selections.specs.Laws.{HasNames}
use Rattle.cond_sizes.specs.Laws.{CountsNeedNoNames}
use Rattle.member_uses.specs.Uses.{Use, names_in, names_among, using, structures_used, structures_in}
use Rattle.member_uses.specs.Declarations.{declaration, uses_in_turn}
use Rattle.member_uses.proofs.Parts.{Part, Quietly, names_of_node, word_names, alone, known_then, then_quietly, part_as}
use Rattle.member_uses.proofs.Words.{Words, words_are}
use Rattle.member_uses.proofs.Declarators.{NameForm, name_form}
use Rattle.member_uses.proofs.Locals.{IsBase, based_part}
use Rattle.unit_member_uses.specs.Items.{behind_item, uses_in_items, definition, is_struct}
use Rattle.unit_member_uses.proofs.Parameters.{parenthesized}
use Rattle.unit_member_uses.proofs.FileNames.{all_part}
use Rattle.unit_member_uses.proofs.Structs.{IsStruct, based_then, struct_part}
use Rattle.unit_member_uses.proofs.Functions.{one_result, numbered_part, IsBody, IsFunction, function_part}

-- ---- what items are made of

pub file_words : {words : PlainTrees} → Derivation file_specifiers (node k.Specifiers words) → Words words
file_words {words = words} (made_of _ b a (some_words are)) = words_are grammar.file_types words are refl

pub tag_words_of : {words : PlainTrees} → Derivation tag (node k.Specifiers words) → Words words
tag_words_of {words = words} (made_of _ b a (some_words are)) = words_are (grammar.tag_words ∷ []) words are refl

pub file_list : {list : PlainTrees} → Derivation (declarators file_first) (node k.Declarators list) → Declared file_first list
file_list (made_of _ b a (declarators_of d)) = d

members_of_node : {parts : PlainTrees} → Derivation members (node k.Members parts) → Each grammar.member parts
members_of_node (made_of _ b a (one_or_more each any)) = each

-- the one declarator of a function's definition
record IsFunctionList (list : PlainTrees) : Type 0 where
  parts : PlainTrees
  is : list ≡ more (node k.FunctionDeclarator parts) none
  row : Row (stars ∷ word (t.Name ∷ []) ∷ parenthesized) parts

one_function : {tree : PlainTree} → Derivation (declarator file_first) tree → IsTrue (defines_function (node k.Declarators (more tree none))) → IsFunctionList (more tree none)
one_function (single is) h = absurd cc
one_function (made_of k.FunctionDeclarator {parts = parts} b a (a_row row)) h = record { parts = parts; is = refl; row = row }
one_function (made_of _ b a s) h = absurd cc

no_others : {tree : PlainTree} → Derivation (declarator file_first) tree → (second : PlainTree) (rest : PlainTrees) → IsTrue (defines_function (node k.Declarators (more tree (more second rest)))) → ⊥
no_others (single is) second rest h = false≢true h
no_others (made_of _ b a s) second rest h = false≢true h

function_list : {list : PlainTrees} → Declared file_first list → IsTrue (defines_function (node k.Declarators list)) → IsFunctionList list
function_list (last_plain d) h = one_function d h
function_list (last_initialised {value = value} {sign = sign} m d w v) h = absurd (no_others d (leaf sign) (more value none) h)
function_list (next_plain {comma = comma} {rest = rest} d w s) h = absurd (no_others d (leaf comma) rest h)
function_list (next_initialised {value = value} {sign = sign} {comma = comma} {rest = rest} m d w v c s) h = absurd (no_others d (leaf sign) (more value (more (leaf comma) rest)) h)

pub function_row : {parts : PlainTrees} → Derivation (declarators file_first) (node k.Declarators (more (node k.FunctionDeclarator parts) none)) → Row (stars ∷ word (t.Name ∷ []) ∷ parenthesized) parts
function_row (made_of _ b a (declarators_of (last_plain (made_of _ c e (a_row row))))) = row

-- the identifiers of two nodes, one after the other
two_names : (one other : Kind) (parts others : PlainTrees) (last : PlainToken) → IsWord (t.Semicolon ∷ []) last → names_among (more (node one parts) (more (node other others) (more (leaf last) none))) ≡ names_among parts ++ names_among others
two_names one other parts others last y =
    ap₂ (λ a b. a ++ b) (names_of_node one parts) (ap₂ (λ a b. a ++ b) (names_of_node other others) (word_names last none (no_name (t.Semicolon ∷ []) last refl y)) ∙ append-nil (names_among others))

-- the parts of a function's definition
abbrev pub inner_parts : PlainTrees → PlainTrees → PlainTree → PlainTrees
inner_parts words parts body = more (node k.Specifiers words) (more (node k.Declarators (more (node k.FunctionDeclarator parts) none)) (more body none))

module _ (by : ℕ → ℕ) (kept : TypesAreKept) (typed : ExpressionsHaveTypes) (sizes : CountsNeedNoNames) (globals : ℕ) where
  -- ---- declarations

  abbrev pub IsDeclaration : UnitState → PlainTrees → PlainTrees → PlainTrees → UnitState → List Use → Type 0
  IsDeclaration unit words list behind next u =
      HasNames next.scope × ((base : Based) (bs : List Binding) → based true unit.scope words ≡ fine base bs → (g : Going UnitState) → g.state ≡ with_scope unit base.scope
      → u ≡ uses_in_turn by (next_name globals (storage_of words) base.ty behind) g (declared_in (trees_of list)))

  pub declaration_part : (unit : UnitState) → HasNames unit.scope → (words list : PlainTrees) (last : PlainToken) → Words words → Declared file_first list → AllHold list → IsWord (t.Semicolon ∷ []) last → (behind : PlainTrees)
      → Part by (IsDeclaration unit words list behind) (judged_item globals unit (node k.Declaration (declaration words list last)) behind) (names_in (node k.Declaration (declaration words list last)))
  declaration_part unit names words list last w d holds y behind =
      let next : Based → Checked UnitState = λ base. declared_from globals (with_scope unit base.scope) (storage_of words) base.ty list behind in
      subst (Part by (IsDeclaration unit words list behind) (based true unit.scope words >>= next)) (sym (names_of_node k.Declaration (declaration words list last) ∙ two_names k.Specifiers k.Declarators words list last y))
      (known_then by (IsBase by) (IsDeclaration unit words list behind) (names_among words) (names_among list) (based true unit.scope words) next (based_part by true unit.scope names words w)
      (λ base js e q. subst (λ l. Part by (λ x v. IsDeclaration unit words list behind x (l ++ v)) (next base) (names_among list)) (sym q.1) (of_base base js e q.0)))
    where
      of_base : (base : Based) (js : List Binding) → based true unit.scope words ≡ fine base js → HasNames base.scope
          → Part by (IsDeclaration unit words list behind) (declared_from globals (with_scope unit base.scope) (storage_of words) base.ty list behind) (names_among list)
      of_base base js e named =
          every (declared_from globals (with_scope unit base.scope) (storage_of words) base.ty list behind)
          (λ b. all_part by kept typed sizes globals (storage_of words) base.ty behind d holds (record { state = with_scope unit base.scope; refused = b }) named)
        where
          every : (m : Checked UnitState) → ((b : Bool) → Part by (λ next u. HasNames next.scope × (u ≡ uses_in_turn by (next_name globals (storage_of words) base.ty behind) (record { state = with_scope unit base.scope; refused = b }) (declared_in (trees_of list)))) m (names_among list))
              → Part by (IsDeclaration unit words list behind) m (names_among list)
          every (fine next ks) h = (
            (h false).0,
            (
              (h false).1.0,
              λ other bs f g is.
                  let p : base ≡ other = one_result (based true unit.scope words) base other js bs e f in
                  (h g.refused).1.1
                  ∙ ap₂ (λ x h. uses_in_turn by (next_name globals (storage_of words) x behind) h (declared_in (trees_of list))) (ap (λ (b : Based). b.ty) p)
                  (ap (λ s. record { state = s; refused = g.refused }) (ap (λ (b : Based). with_scope unit b.scope) p ∙ sym is)),
            ),
          )
          every (refused kind token) h = tt
          every broken h = tt

  -- ---- functions

  abbrev pub IsDefinition : UnitState → PlainTrees → PlainTrees → PlainTree → UnitState → List Use → Type 0
  IsDefinition unit words parts body next u =
      HasNames next.scope × ((base : Based) (bs : List Binding) → based false unit.scope words ≡ fine base bs → (name : PlainToken) → name_in parts ≡ Some name → IsBody by kept typed sizes unit (storage_of words) (starred parts base.ty) parts name body u)

  same_name : (o : Option PlainToken) (a b : PlainToken) → o ≡ Some a → o ≡ Some b → a ≡ b
  same_name o a b e f = cc

  pub definition_part : (unit : UnitState) → HasNames unit.scope → (words parts : PlainTrees) (body : PlainTree) → Words words → NameForm parenthesized parts → AllHold parts → Derivation grammar.block body → Holds body → (behind : PlainTrees)
      → Part by (IsDefinition unit words parts body) (judged_item globals unit (definition words parts body) behind) (names_in (definition words parts body))
  definition_part unit names words parts body w f holds d body_holds behind =
      let n : ℕ = count_functions unit.defined in
      let ends : Based → PlainToken → Checked UnitState = λ base name. in_function n (defined_function unit (storage_of words) base.ty parts name body) in
      let next : Based → Checked UnitState = λ base. or_broken (name_in parts) >>= ends base in
      let S : UnitState → List Use → Type 0 = IsDefinition unit words parts body in
      let others : List PlainToken = f.name ∷ (names_among f.rest ++ names_in body) in
      subst (Part by S (based false unit.scope words >>= next)) (sym written)
      (known_then by (IsBase by) S (names_among words) others (based false unit.scope words) next (based_part by false unit.scope names words w)
      (λ base js e q. subst (λ l. Part by (λ x v. S x (l ++ v)) (next base) others) (sym q.1)
      (subst (λ o. Part by S (or_broken o >>= ends base) others) (sym f.name_is)
      (alone by S others (ends base f.name)
      (part_as by (IsFunction by kept typed sizes unit (storage_of words) (starred parts base.ty) parts f.name body) S others (ends base f.name)
      (numbered_part by n (IsFunction by kept typed sizes unit (storage_of words) (starred parts base.ty) parts f.name body) (defined_function unit (storage_of words) base.ty parts f.name body) others
      (function_part by kept typed sizes unit names (storage_of words) base.ty parts f holds d body_holds))
      (λ x u r. (
        r.0,
        λ other bs g name is.
            subst (λ b. IsBody by kept typed sizes unit (storage_of words) (starred parts b) parts name body u) (ap (λ (b : Based). b.ty) (one_result (based false unit.scope words) base other js bs e g))
            (subst (λ a. IsBody by kept typed sizes unit (storage_of words) (starred parts base.ty) parts a body u) (same_name (name_in parts) f.name name f.name_is is) r.1),
      )))))))
    where
      written : names_in (definition words parts body) ≡ names_among words ++ (f.name ∷ (names_among f.rest ++ names_in body))
      written =
          names_of_node k.Function (more (node k.Specifiers words) (more (node k.Declarators (more (node k.FunctionDeclarator parts) none)) (more body none)))
          ∙ ap₂ (λ a b. a ++ b) (names_of_node k.Specifiers words)
          (ap₂ (λ a b. a ++ b) (names_of_node k.Declarators (more (node k.FunctionDeclarator parts) none) ∙ (append-nil (names_in (node k.FunctionDeclarator parts)) ∙ (names_of_node k.FunctionDeclarator parts ∙ f.names))) (append-nil (names_in body)))

  -- ---- structs

  pub definition_of_struct : (unit : UnitState) → HasNames unit.scope → (words parts : PlainTrees) (open_ close last : PlainToken) → Words words → Each grammar.member parts → AllHold parts → IsWord (t.OpenBrace ∷ []) open_
      → IsWord (t.CloseBrace ∷ []) close → IsWord (t.Semicolon ∷ []) last → (behind : PlainTrees)
      → Part by (IsStruct by kept typed sizes) (judged_item globals unit (node k.StructDefinition (more (node k.Specifiers words) (more (leaf open_) (more (node k.Members parts) (more (leaf close) (more (leaf last) none)))))) behind)
      (names_in (node k.StructDefinition (more (node k.Specifiers words) (more (leaf open_) (more (node k.Members parts) (more (leaf close) (more (leaf last) none)))))))
  definition_of_struct unit names words parts open_ close last w each holds o c y behind =
      let inner : PlainTrees = more (node k.Members parts) (more (leaf close) (more (leaf last) none)) in
      subst (Part by (IsStruct by kept typed sizes) (judged_item globals unit (node k.StructDefinition (more (node k.Specifiers words) (more (leaf open_) inner))) behind))
      (sym (names_of_node k.StructDefinition (more (node k.Specifiers words) (more (leaf open_) inner))
      ∙ ap₂ (λ a b. a ++ b) (names_of_node k.Specifiers words)
      (word_names open_ inner (no_name (t.OpenBrace ∷ []) open_ refl o)
      ∙ (ap₂ (λ a b. a ++ b) (names_of_node k.Members parts) (word_names close (more (leaf last) none) (no_name (t.CloseBrace ∷ []) close refl c) ∙ word_names last none (no_name (t.Semicolon ∷ []) last refl y))
      ∙ append-nil (names_among parts)))))
      (struct_part by kept typed sizes unit names words parts w each holds)

  pub declaration_of_struct : (unit : UnitState) → HasNames unit.scope → (words : PlainTrees) (last : PlainToken) → Words words → IsWord (t.Semicolon ∷ []) last → (behind : PlainTrees)
      → Part by (IsStruct by kept typed sizes) (judged_item globals unit (node k.StructDeclaration (more (node k.Specifiers words) (more (leaf last) none))) behind) (names_in (node k.StructDeclaration (more (node k.Specifiers words) (more (leaf last) none))))
  declaration_of_struct unit names words last w y behind =
      subst (Part by (IsStruct by kept typed sizes) (judged_item globals unit (node k.StructDeclaration (more (node k.Specifiers words) (more (leaf last) none))) behind))
      (sym (names_of_node k.StructDeclaration (more (node k.Specifiers words) (more (leaf last) none))
      ∙ ap₂ (λ a b. a ++ b) (names_of_node k.Specifiers words) (word_names last none (no_name (t.Semicolon ∷ []) last refl y))))
      (based_then by kept typed sizes (IsStruct by kept typed sizes) true unit.scope names words w [] (λ base. give (with_scope unit base.scope)) (λ base named. (tt, (named, refl))))

  -- ---- declarations and definitions that are derived

  declaration_row : {words list : PlainTrees} {last : PlainToken} → Shaped (grammar.in_row (grammar.row k.Declaration)) (declaration words list last) → AllHold (declaration words list last) → (unit : UnitState) → HasNames unit.scope
      → (behind : PlainTrees) → Part by (IsDeclaration unit words list behind) (judged_item globals unit (node k.Declaration (declaration words list last)) behind) (names_in (node k.Declaration (declaration words list last)))
  declaration_row {words = words} {list = list} {last = last} (a_row (a_part w (a_part d (a_word y at_end)))) holds unit names behind =
      declaration_part unit names words list last (file_words w) (file_list d) holds.1.0 y behind

  pub declaration_derived : {words list : PlainTrees} {last : PlainToken} → Derivation file_item (node k.Declaration (declaration words list last)) → AllHold (declaration words list last) → (unit : UnitState) → HasNames unit.scope
      → (behind : PlainTrees) → Part by (IsDeclaration unit words list behind) (judged_item globals unit (node k.Declaration (declaration words list last)) behind) (names_in (node k.Declaration (declaration words list last)))
  declaration_derived (made_of _ b a s) = declaration_row s

  definition_row : {words parts : PlainTrees} {body : PlainTree} → Shaped (grammar.in_row (grammar.row k.Function)) (inner_parts words parts body) → AllHold (inner_parts words parts body) → (unit : UnitState) → HasNames unit.scope
      → (behind : PlainTrees) → Part by (IsDefinition unit words parts body) (judged_item globals unit (definition words parts body) behind) (names_in (definition words parts body))
  definition_row {words = words} {parts = parts} {body = body} (a_row (a_part w (a_part d (a_part e at_end)))) holds unit names behind =
      definition_part unit names words parts body (file_words w) (name_form (function_row d)) holds.1.0.0 e holds.1.1.0 behind

  pub definition_derived : {words parts : PlainTrees} {body : PlainTree} → Derivation file_item (definition words parts body) → AllHold (inner_parts words parts body) → (unit : UnitState) → HasNames unit.scope
      → (behind : PlainTrees) → Part by (IsDefinition unit words parts body) (judged_item globals unit (definition words parts body) behind) (names_in (definition words parts body))
  definition_derived (made_of _ b a s) = definition_row s

  -- ---- items, by how they are derived

  abbrev pub IsItem : PlainTree → UnitState → List Use → Type 0
  IsItem tree next u = HasNames next.scope × (is_struct tree ≡ true → u ≡ [])

  abbrev In : Kind → PlainTrees → Type 0
  In kind parts = Shaped (grammar.in_row (grammar.row kind)) parts

  abbrev ItemIs : PlainTree → Type 0
  ItemIs tree = (unit : UnitState) → HasNames unit.scope → (behind : PlainTrees) → Part by (IsItem tree) (judged_item globals unit tree behind) (names_in tree)

  declared_item : {words list : PlainTree} (last : PlainToken) → Derivation file_specifiers words → Derivation (declarators file_first) list → IsWord (t.Semicolon ∷ []) last → AllHold (more words (more list (more (leaf last) none)))
      → ItemIs (node k.Declaration (more words (more list (more (leaf last) none))))
  declared_item last (single is) e y holds = absurd cc
  declared_item last (made_of k.Specifiers b a s) (single is) y holds = absurd cc
  declared_item last (made_of k.Specifiers {parts = words} b a s) (made_of k.Declarators {parts = list} c f r) y holds = λ unit names behind.
      part_as by (IsDeclaration unit words list behind) (IsItem (node k.Declaration (declaration words list last))) (names_in (node k.Declaration (declaration words list last)))
      (judged_item globals unit (node k.Declaration (declaration words list last)) behind)
      (declaration_part unit names words list last (file_words (made_of {category = file_specifiers} k.Specifiers b a s)) (file_list (made_of {category = declarators file_first} k.Declarators c f r)) holds.1.0 y behind)
      (λ next u q. (q.0, λ never. absurd (false≢true never)))
  declared_item last (made_of k.Specifiers b a s) (made_of _ c f r) y holds = absurd cc
  declared_item last (made_of _ b a s) e y holds = absurd cc

  in_declaration : {parts : PlainTrees} → In k.Declaration parts → AllHold parts → ItemIs (node k.Declaration parts)
  in_declaration (a_row (a_part w (a_part d (a_word {token = last} y at_end)))) holds = declared_item last w d y holds

  by_list : {words list : PlainTrees} {body : PlainTree} → Words words → IsFunctionList list → AllHold list → Derivation grammar.block body → Holds body
      → ItemIs (node k.Function (more (node k.Specifiers words) (more (node k.Declarators list) (more body none))))
  by_list {words = words} {list = list} {body = body} w o holds d body_holds unit names behind =
      subst (λ l. Part by (IsItem (node k.Function (more (node k.Specifiers words) (more (node k.Declarators l) (more body none))))) (judged_item globals unit (node k.Function (more (node k.Specifiers words) (more (node k.Declarators l) (more body none)))) behind)
      (names_in (node k.Function (more (node k.Specifiers words) (more (node k.Declarators l) (more body none)))))) (sym o.is)
      (part_as by (IsDefinition unit words o.parts body) (IsItem (definition words o.parts body)) (names_in (definition words o.parts body)) (judged_item globals unit (definition words o.parts body) behind)
      (definition_part unit names words o.parts body w (name_form o.row) (subst AllHold o.is holds).0 d body_holds behind) (λ next u q. (q.0, λ never. absurd (false≢true never))))

  defined_item : {words list body : PlainTree} → Derivation file_specifiers words → Derivation (declarators file_first) list → Derivation grammar.block body → IsTrue (defines_function list) → AllHold (more words (more list (more body none)))
      → ItemIs (node k.Function (more words (more list (more body none))))
  defined_item (single is) e d h holds = absurd cc
  defined_item (made_of k.Specifiers b a s) (single is) d h holds = absurd cc
  defined_item (made_of k.Specifiers {parts = words} b a s) (made_of k.Declarators {parts = list} c f r) d h holds =
      by_list (file_words (made_of {category = file_specifiers} k.Specifiers b a s)) (function_list (file_list (made_of {category = declarators file_first} k.Declarators c f r)) h) holds.1.0 d holds.1.1.0
  defined_item (made_of k.Specifiers b a s) (made_of _ c f r) d h holds = absurd cc
  defined_item (made_of _ b a s) e d h holds = absurd cc

  in_definition : {parts : PlainTrees} → In k.Function parts → IsTrue (grammar.agree k.Function parts) → AllHold parts → ItemIs (node k.Function parts)
  in_definition (a_row (a_part w (a_part d (a_part e at_end)))) h holds = defined_item w d e h holds

  struct_item : {words list : PlainTree} (open_ close last : PlainToken) → Derivation tag words → Derivation members list → IsWord (t.OpenBrace ∷ []) open_ → IsWord (t.CloseBrace ∷ []) close → IsWord (t.Semicolon ∷ []) last
      → AllHold (more words (more (leaf open_) (more list (more (leaf close) (more (leaf last) none))))) → ItemIs (node k.StructDefinition (more words (more (leaf open_) (more list (more (leaf close) (more (leaf last) none))))))
  struct_item open_ close last (single is) e o c y holds = absurd cc
  struct_item open_ close last (made_of k.Specifiers b a s) (single is) o c y holds = absurd cc
  struct_item open_ close last (made_of k.Specifiers {parts = words} b a s) (made_of k.Members {parts = parts} q f r) o c y holds = λ unit names behind.
      let tree : PlainTree = node k.StructDefinition (more (node k.Specifiers words) (more (leaf open_) (more (node k.Members parts) (more (leaf close) (more (leaf last) none))))) in
      part_as by (IsStruct by kept typed sizes) (IsItem tree) (names_in tree) (judged_item globals unit tree behind)
      (definition_of_struct unit names words parts open_ close last (tag_words_of (made_of {category = tag} k.Specifiers b a s)) (members_of_node (made_of {category = members} k.Members q f r)) holds.1.1.0 o c y behind)
      (λ next u i. (i.0, λ always. i.1))
  struct_item open_ close last (made_of k.Specifiers b a s) (made_of _ q f r) o c y holds = absurd cc
  struct_item open_ close last (made_of _ b a s) e o c y holds = absurd cc

  in_struct : {parts : PlainTrees} → In k.StructDefinition parts → AllHold parts → ItemIs (node k.StructDefinition parts)
  in_struct (a_row (a_part w (a_word {token = open_} o (a_part d (a_word {token = close} c (a_word {token = last} y at_end)))))) holds = struct_item open_ close last w d o c y holds

  tag_item : {words : PlainTree} (last : PlainToken) → Derivation tag words → IsWord (t.Semicolon ∷ []) last → ItemIs (node k.StructDeclaration (more words (more (leaf last) none)))
  tag_item last (single is) y = absurd cc
  tag_item last (made_of k.Specifiers {parts = words} b a s) y = λ unit names behind.
      let tree : PlainTree = node k.StructDeclaration (more (node k.Specifiers words) (more (leaf last) none)) in
      part_as by (IsStruct by kept typed sizes) (IsItem tree) (names_in tree) (judged_item globals unit tree behind)
      (declaration_of_struct unit names words last (tag_words_of (made_of {category = tag} k.Specifiers b a s)) y behind) (λ next u i. (i.0, λ always. i.1))
  tag_item last (made_of _ b a s) y = absurd cc

  in_tag : {parts : PlainTrees} → In k.StructDeclaration parts → ItemIs (node k.StructDeclaration parts)
  in_tag (a_row (a_part w (a_word {token = last} y at_end))) = tag_item last w y

  pub item_part : {tree : PlainTree} → Derivation file_item tree → Holds tree → ItemIs tree
  item_part (single is) holds = absurd cc
  item_part (made_of k.Declaration b a s) holds = in_declaration s holds
  item_part (made_of k.Function b a s) holds = in_definition s a holds
  item_part (made_of k.StructDefinition b a s) holds = in_struct s holds
  item_part (made_of k.StructDeclaration b a s) holds = in_tag s
  item_part (made_of _ b a s) holds = absurd cc

  -- ---- units

  abbrev AreItems : UnitState → PlainTrees → UnitState → List Use → Type 0
  AreItems unit parts next u = HasNames next.scope × (u ≡ uses_in_items by globals unit parts)

  items_part : {parts : PlainTrees} → Each file_item parts → AllHold parts → (unit : UnitState) → HasNames unit.scope → Part by (AreItems unit parts) (judged_file_items globals unit parts) (names_among parts)
  items_part no_more holds unit names = (tt, (names, refl))
  items_part (one_more {tree = tree} {rest = rest} d others) holds unit names =
      let m : Checked UnitState = judged_item globals unit tree rest in
      known_then by (IsItem tree) (AreItems unit (more tree rest)) (names_in tree) (names_among rest) m (λ next. judged_file_items globals next rest) (item_part d holds.0 unit names rest)
      (λ next js e q. part_as by (AreItems next rest) (λ last v. AreItems unit (more tree rest) last (using (names_in tree) (structures_used by js) ++ v)) (names_among rest) (judged_file_items globals next rest)
      (items_part others holds.1 next q.0)
      (λ last v r. (
        r.0,
        ap (λ l. using (names_in tree) (structures_used by js) ++ l) r.1
            ∙ sym (ap (λ c. using (names_in tree) (structures_in by c) ++ uses_in_items by globals (behind_item unit c) rest) e),
      )))

  ended : (next : UnitState) (o : Option PlainToken) (P : UnitState → Type 0) → P next → Quietly P (unless_too_big o >>= (λ small. give next))
  ended next None P p = p
  ended next (Some name) P p = tt

  pub unit_part : {parts : PlainTrees} → Each file_item parts → AllHold parts → (structs : List Struct) (numbers : Numbers)
      → Part by (λ next u. u ≡ uses_in_items by globals (unit_start structs numbers) parts) (judged_unit globals structs numbers (node k.Unit parts)) (names_in (node k.Unit parts))
  unit_part {parts = parts} each holds structs numbers =
      let S : UnitState → List Use → Type 0 = λ next u. u ≡ uses_in_items by globals (unit_start structs numbers) parts in
      subst (Part by S (judged_unit globals structs numbers (node k.Unit parts))) (sym (names_of_node k.Unit parts))
      (then_quietly by (AreItems (unit_start structs numbers) parts) S (names_among parts) (judged_file_items globals (unit_start structs numbers) parts) (λ unit. unless_too_big (too_big_in unit.scope parts) >>= (λ small. give unit))
      (items_part each holds (unit_start structs numbers) (λ name n e. absurd (none-some n e)))
      (λ next u q. ended next (too_big_in next.scope parts) (λ y. S y u) q.1))
