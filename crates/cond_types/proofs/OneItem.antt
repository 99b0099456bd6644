-- What is declared of an item by the trees that stand at its places.
use Rattle.std.proofs.Common.{◌≡◌, inl, inr, ℕ, Bool, true, false, refl, sym, ap, ◌∙◌, subst}
use Rattle.std.specs.Prelude.{Some, None, ⊤}
use Rattle.c_text.specs.Token.{PlainToken}
use Rattle.c_tree.specs.declared.kinds.Kind.{Kind}
use Rattle.c_tree.specs.declared.kinds.Kind.TheVariants as k
use Rattle.c_tree.specs.Trees.{PlainTree, PlainTrees, leaf, node, none, more}
use Rattle.c_tree.specs.Grammar.{Category, tag, member, file_item, file_first, belongs}
use Rattle.tree_derivations.specs.Derivations.{Derivation, single, made_of, Each}
use Rattle.tree_derivations.specs.Derivations as derivations
use Rattle.choice_trees.specs.ChoiceTrees.{no_statement}
use Rattle.core_meaning.specs.Checking.{Checked}
use Rattle.core_meaning.specs.UnitNames.{UnitState, defined_struct, judged_item}
use Rattle.type_tables.specs.Tables.{Tables}
use Rattle.type_tables.specs.Follows.{Follows}
use Rattle.type_tables.specs.Numbers.{FollowsBy}
use Rattle.cond_structs.specs.Standing.{parts_of, DefinesStruct}
use Rattle.cond_units.specs.Seen.{SeenUnit}
use Rattle.cond_units.specs.Declaring.{IsUnit}
use Rattle.cond_units.specs.Where.{Where}
use Rattle.cond_units.specs.Items.{ItemGoesOn, DeclaresItem, declaration_of, words_alone}
use Rattle.cond_units.specs.Units.{one_item}
use Rattle.cond_units.specs.Functions.{IsFunctionDeclarator, of_function}
use Rattle.cond_types.specs.Definitions.{definition_of, IsDefinition}
use Rattle.cond_types.specs.Places.{tree_at, IsEmpty, IsNone}
use Rattle.cond_types.specs.Functions.{listed_definition, IsListedDefinition}
use Rattle.cond_types.proofs.Shapes.{none_such, struct_parts, tag_parts, declaration_parts, function_parts}
use Rattle.cond_types.proofs.Structs.{struct_goes_on}

-- ---- what can't be

some_same : (a b : PlainTree) → Some a ≡ Some b → a ≡ b
some_same a b e = cc

no_tree : {A : Type 0} (a : PlainTree) → Some a ≡ None → A
no_tree a e = absurd cc

same_list : (kind : Kind) (a b : PlainTrees) → node kind a ≡ node kind b → a ≡ b
same_list kind a b e = cc

-- where a tree stands it isn't empty, if the tree isn't the `;` of a statement
pub not_empty : {A : Type 0} (parts : PlainTrees) (n : ℕ) (tree : PlainTree) → tree_at n parts ≡ Some tree → (tree ≡ no_statement → A) → IsEmpty (tree_at n parts) → A
not_empty parts n tree there other (inl absent) = no_tree tree (sym there ∙ absent)
not_empty parts n tree there other (inr semicolon) = other (some_same tree no_statement (sym there ∙ semicolon))

no_words : {A : Type 0} {category : Category} → belongs category k.ExpressionStatement ≡ false → Derivation category no_statement → A
no_words {A} {category} other (made_of _ b a s) = none_such (sym other ∙ b)

no_words_of : {A : Type 0} {category : Category} (tree : PlainTree) → belongs category k.ExpressionStatement ≡ false → Derivation category tree → tree ≡ no_statement → A
no_words_of {A} {category} tree other d e = no_words other (subst (λ (t : PlainTree). Derivation category t) e d)

-- nothing is done where a derivation can't be
pub nothing_done : (here : Bool) (judged : UnitState → Checked UnitState) (Ready : Type 0) (u : SeenUnit) (f : Bool) → f ≡ false → (Ready → ⊥) → Where here (DeclaresItem judged Ready) u u f
nothing_done here judged Ready u f off never = record {
  elsewhere = λ h. (record { stays = λ by unit is. is }, off);
  does = λ h. record { goes_on = λ by unit is ready. absurd (never ready) };
}

-- what is judged so is judged of what is ready
pub as_judged :
    (here : Bool) (judged other : UnitState → Checked UnitState) (Ready Other : Type 0) (old new : SeenUnit) (f : Bool) → (Ready → Other × ((unit : UnitState) → other unit ≡ judged unit))
    → Where here (DeclaresItem other Other) old new f → Where here (DeclaresItem judged Ready) old new f
as_judged here judged other Ready Other old new f leads does = record {
  elsewhere = does.elsewhere;
  does = λ h. record {
    goes_on = λ by unit is ready.
        subst (λ c. ItemGoesOn by unit.scope.structs c f new) ((leads ready).1 unit) ((does.does h).goes_on by unit is (leads ready).0);
  };
}

-- ---- structs

pub no_members : (parts : PlainTrees) → IsEmpty (tree_at 0 parts) → Derivation file_item (node k.StructDefinition parts) → ⊥
no_members parts empty d =
    let s = struct_parts d in
    not_empty parts 0 s.words (ap (tree_at 0) s.parts_are) (λ e. no_words_of s.words refl s.tagged e) empty

pub no_member_list : (parts : PlainTrees) → IsNone k.Members (tree_at 2 parts) → Derivation file_item (node k.StructDefinition parts) → ⊥
no_member_list parts other d =
    let s = struct_parts d in
    absurd_list s.list (other s.list (ap (tree_at 2) s.parts_are))
  where
    absurd_list : (list : PlainTrees) → node k.Members list ≡ no_statement → ⊥
    absurd_list list e = cc

no_tag_leaf : {A : Type 0} {token : PlainToken} → Derivation tag (leaf token) → A
no_tag_leaf (single is) = none_such is

pub struct_here :
    (parts : PlainTrees) (words : PlainTree) (members : PlainTrees) → tree_at 0 parts ≡ Some words → tree_at 2 parts ≡ Some (node k.Members members)
    → (globals : ℕ) (rest : PlainTrees) (here : Bool) (old new : SeenUnit) (f : Bool) → new.defined ≡ old.defined
    → (here ≡ false → (new.tables ≡ old.tables) × (f ≡ false))
    → (here ≡ true → (unit : UnitState) (follows : Follows old.tables unit.scope) → Derivation tag words → Each member members
    → DefinesStruct unit.scope.structs follows.by new.tables f (defined_struct unit (parts_of words) members))
    → Where here (DeclaresItem (one_item globals (node k.StructDefinition parts) rest) (Derivation file_item (node k.StructDefinition parts))) old new f
struct_here parts words members is_words is_list globals rest here old new f same off defines = record {
  elsewhere = λ h. (
    record { stays = λ by unit is. record { tables = subst (λ (t : Tables). FollowsBy by t unit.scope) (sym (off h).0) is.tables; defined = same ∙ is.defined; outside = is.outside } },
    (off h).1,
  );
  does = λ h. record {
    goes_on = λ by unit is d.
        let s = struct_parts d in
        let e : s.words ≡ words = some_same s.words words (sym (ap (tree_at 0) s.parts_are) ∙ is_words) in
        let l : s.list ≡ members = same_list k.Members s.list members (some_same (node k.Members s.list) (node k.Members members) (sym (ap (tree_at 2) s.parts_are) ∙ is_list)) in
        subst (λ (ps : PlainTrees). ItemGoesOn by unit.scope.structs (judged_item globals unit (node k.StructDefinition ps) rest) f new) (sym s.parts_are)
        (by_words by unit is s.words s.brace s.list s.rest (e, l) s.tagged
        (struct_goes_on old new by unit is same (parts_of words) members f
        (defines h unit is.tables.follows (subst (λ (t : PlainTree). Derivation tag t) e s.tagged) (subst (λ (ps : PlainTrees). Each member ps) l s.each))));
  };
}
  where
    by_words : (by : ℕ → ℕ) (unit : UnitState) → IsUnit by old unit → (w brace : PlainTree) (l others : PlainTrees) → (w ≡ words) × (l ≡ members) → Derivation tag w
        → ItemGoesOn by unit.scope.structs (defined_struct unit (parts_of words) members) f new
        → ItemGoesOn by unit.scope.structs (judged_item globals unit (node k.StructDefinition (more w (more brace (more (node k.Members l) others)))) rest) f new
    by_words by unit is (leaf token) brace l others same_ d h = no_tag_leaf d
    by_words by unit is (node kind inner) brace l others same_ d h =
        subst (λ (ps : PlainTrees). ItemGoesOn by unit.scope.structs (defined_struct unit (parts_of (node kind inner)) ps) f new) (sym same_.1)
        (subst (λ (t : PlainTree). ItemGoesOn by unit.scope.structs (defined_struct unit (parts_of t) members) f new) (sym same_.0) h)

-- ---- declarations

pub no_tag : (parts : PlainTrees) → IsEmpty (tree_at 0 parts) → Derivation file_item (node k.StructDeclaration parts) → ⊥
no_tag parts empty d =
    let s = tag_parts d in
    not_empty parts 0 s.words (ap (tree_at 0) s.parts_are) (λ e. no_words_of s.words refl s.tagged e) empty

words_judged : (globals : ℕ) (rest : PlainTrees) (words end : PlainTree) (unit : UnitState) → words_alone words unit ≡ one_item globals (node k.StructDeclaration (more words (more end none))) rest unit
words_judged globals rest (leaf token) end unit = refl
words_judged globals rest (node kind words) end unit = refl

pub tag_leads :
    (parts : PlainTrees) (words : PlainTree) → tree_at 0 parts ≡ Some words → (globals : ℕ) (rest : PlainTrees) → Derivation file_item (node k.StructDeclaration parts)
    → ⊤ × ((unit : UnitState) → words_alone words unit ≡ one_item globals (node k.StructDeclaration parts) rest unit)
tag_leads parts words is_words globals rest d =
    let s = tag_parts d in
    let e : words ≡ s.words = some_same words s.words (sym is_words ∙ ap (tree_at 0) s.parts_are) in (
      tt,
      λ unit.
          ap (λ (t : PlainTree). words_alone t unit) e
          ∙ words_judged globals rest s.words s.end unit
          ∙ ap (λ (ps : PlainTrees). one_item globals (node k.StructDeclaration ps) rest unit) (sym s.parts_are),
    )

pub no_specifiers : (parts : PlainTrees) → IsEmpty (tree_at 0 parts) → Derivation file_item (node k.Declaration parts) → ⊥
no_specifiers parts empty d =
    let s = declaration_parts d in
    not_empty parts 0 s.words (ap (tree_at 0) s.parts_are) (λ e. no_words_of s.words refl s.specified e) empty

no_node : (list : PlainTrees) → node k.Declarators list ≡ no_statement → ⊥
no_node list e = cc

pub no_declarators : (parts : PlainTrees) → IsNone k.Declarators (tree_at 1 parts) → Derivation file_item (node k.Declaration parts) → ⊥
no_declarators parts other d =
    let s = declaration_parts d in
    no_node s.list (other s.list (ap (tree_at 1) s.parts_are))

names_judged : (globals : ℕ) (rest : PlainTrees) (words : PlainTree) (list : PlainTrees) (end : PlainTree) (unit : UnitState)
    → declaration_of globals words list rest unit ≡ one_item globals (node k.Declaration (more words (more (node k.Declarators list) (more end none)))) rest unit
names_judged globals rest (leaf token) list end unit = refl
names_judged globals rest (node kind words) list end unit = refl

pub declaration_leads :
    (parts : PlainTrees) (words : PlainTree) (list : PlainTrees) → tree_at 0 parts ≡ Some words → tree_at 1 parts ≡ Some (node k.Declarators list) → (globals : ℕ) (rest : PlainTrees) → Derivation file_item (node k.Declaration parts)
    → derivations.Declared file_first list × ((unit : UnitState) → declaration_of globals words list rest unit ≡ one_item globals (node k.Declaration parts) rest unit)
declaration_leads parts words list is_words is_list globals rest d =
    let s = declaration_parts d in
    let e : words ≡ s.words = some_same words s.words (sym is_words ∙ ap (tree_at 0) s.parts_are) in
    let l : list ≡ s.list = same_list k.Declarators list s.list (some_same (node k.Declarators list) (node k.Declarators s.list) (sym is_list ∙ ap (tree_at 1) s.parts_are)) in (
      subst (λ (ps : PlainTrees). derivations.Declared file_first ps) (sym l) s.declared,
      λ unit.
          ap (λ (t : PlainTree). declaration_of globals t list rest unit) e
          ∙ ap (λ (ps : PlainTrees). declaration_of globals s.words ps rest unit) l
          ∙ names_judged globals rest s.words s.list s.end unit
          ∙ ap (λ (ps : PlainTrees). one_item globals (node k.Declaration ps) rest unit) (sym s.parts_are),
    )

-- ---- definitions of functions

pub no_function_words : (parts : PlainTrees) → IsEmpty (tree_at 0 parts) → Derivation file_item (node k.Function parts) → ⊥
no_function_words parts empty d =
    let s = function_parts d in
    not_empty parts 0 s.words (ap (tree_at 0) s.parts_are) (λ e. no_words_of s.words refl s.specified e) empty

pub no_function_list : (parts : PlainTrees) → IsNone k.Declarators (tree_at 1 parts) → Derivation file_item (node k.Function parts) → ⊥
no_function_list parts other d =
    let s = function_parts d in
    no_node (more s.declarator none) (other (more s.declarator none) (ap (tree_at 1) s.parts_are))

pub no_body : (parts : PlainTrees) → IsEmpty (tree_at 2 parts) → Derivation file_item (node k.Function parts) → ⊥
no_body parts empty d =
    let s = function_parts d in
    not_empty parts 2 s.body (ap (tree_at 2) s.parts_are) (λ e. no_words_of s.body refl s.defines.has_block e) empty

definition_judged : (globals : ℕ) (rest : PlainTrees) (words declarator body : PlainTree) (unit : UnitState)
    → listed_definition words body (more declarator none) unit ≡ one_item globals (node k.Function (more words (more (node k.Declarators (more declarator none)) (more body none)))) rest unit
definition_judged globals rest (leaf token) declarator body unit = refl
definition_judged globals rest (node kind words) (leaf token) body unit = refl
definition_judged globals rest (node kind words) (node inner parts) body unit = refl

pub definition_leads :
    (parts : PlainTrees) (words body : PlainTree) (list : PlainTrees) → tree_at 0 parts ≡ Some words → tree_at 1 parts ≡ Some (node k.Declarators list) → tree_at 2 parts ≡ Some body
    → (globals : ℕ) (rest : PlainTrees) → Derivation file_item (node k.Function parts)
    → IsListedDefinition body list × ((unit : UnitState) → listed_definition words body list unit ≡ one_item globals (node k.Function parts) rest unit)
definition_leads parts words body list is_words is_list is_body globals rest d =
    let s = function_parts d in
    let e : words ≡ s.words = some_same words s.words (sym is_words ∙ ap (tree_at 0) s.parts_are) in
    let l : list ≡ more s.declarator none = same_list k.Declarators list (more s.declarator none) (some_same (node k.Declarators list) (node k.Declarators (more s.declarator none)) (sym is_list ∙ ap (tree_at 1) s.parts_are)) in
    let b : body ≡ s.body = some_same body s.body (sym is_body ∙ ap (tree_at 2) s.parts_are) in (
      record { declarator = s.declarator; alone = l; defines = subst (λ (t : PlainTree). IsDefinition s.declarator t) (sym b) s.defines },
      λ unit.
          ap (λ (t : PlainTree). listed_definition t body list unit) e
          ∙ ap (λ (t : PlainTree). listed_definition s.words t list unit) b
          ∙ ap (λ (ps : PlainTrees). listed_definition s.words s.body ps unit) l
          ∙ definition_judged globals rest s.words s.declarator s.body unit
          ∙ ap (λ (ps : PlainTrees). one_item globals (node k.Function ps) rest unit) (sym s.parts_are),
    )

-- ---- the list of one declarator

no_declarator_kind : IsFunctionDeclarator no_statement → ⊥
no_declarator_kind is = by no_statement refl is
  where
    by : (tree : PlainTree) → tree ≡ no_statement → IsFunctionDeclarator tree → ⊥
    by tree e (of_function {parts = parts} d) = cc

pub no_declarator : (body : PlainTree) (list : PlainTrees) → IsEmpty (tree_at 0 list) → IsListedDefinition body list → ⊥
no_declarator body list empty is =
    not_empty list 0 is.declarator (ap (tree_at 0) is.alone) (λ e. no_function is.declarator is.defines e) empty
  where
    no_function : (declarator : PlainTree) → IsDefinition declarator body → declarator ≡ no_statement → ⊥
    no_function declarator d e = no_declarator_kind (subst (λ (t : PlainTree). IsFunctionDeclarator t) e d.declares)

pub declarator_leads :
    (words body declarator : PlainTree) (list : PlainTrees) → tree_at 0 list ≡ Some declarator → IsListedDefinition body list
    → IsDefinition declarator body × ((unit : UnitState) → definition_of words declarator body unit ≡ listed_definition words body list unit)
declarator_leads words body declarator list is_declarator is =
    let e : is.declarator ≡ declarator = some_same is.declarator declarator (sym (ap (tree_at 0) is.alone) ∙ is_declarator) in (
      subst (λ (t : PlainTree). IsDefinition t body) e is.defines,
      λ unit.
          ap (λ (t : PlainTree). definition_of words t body unit) (sym e) ∙ ap (λ (ps : PlainTrees). listed_definition words body ps unit) (sym is.alone),
    )

-- ---- other kinds

pub no_item :
    (kind : Kind) (parts : PlainTrees) → (kind ≡ k.Function → ⊥) → (kind ≡ k.Declaration → ⊥) → (kind ≡ k.StructDefinition → ⊥) → (kind ≡ k.StructDeclaration → ⊥)
    → Derivation file_item (node kind parts) → ⊥
no_item kind parts f d s t (made_of k.Function b a x) = f refl
no_item kind parts f d s t (made_of k.Declaration b a x) = d refl
no_item kind parts f d s t (made_of k.StructDefinition b a x) = s refl
no_item kind parts f d s t (made_of k.StructDeclaration b a x) = t refl
no_item kind parts f d s t (made_of _ b a x) = none_such b

pub no_leaf : (token : PlainToken) → Derivation file_item (leaf token) → ⊥
no_leaf token (single is) = none_such is
