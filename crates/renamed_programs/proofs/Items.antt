-- Items of units that are alike, and whole units.
use Rattle.std.proofs.Common.{◌≡◌, ℕ, true, false, List, [], ◌++◌, refl, sym, subst, IsTrue}
use Rattle.std.specs.Prelude.{Option, Some, None}
use Rattle.std.proofs.lemmas.Bool.{false≢true}
use Rattle.std.proofs.lemmas.List.{append-nil}
use Rattle.c_text.specs.Token.{PlainToken}
use Rattle.c_types.specs.Types.{PlainType}
use Rattle.c_tree.specs.declared.kinds.Kind.{Kind}
use Rattle.c_tree.specs.declared.kinds.Kind.TheVariants as k
use Rattle.c_tree.specs.Trees.{PlainTree, PlainTrees, leaf, node, none, more}
use Rattle.c_tree.specs.Grammar.{file_first, tag, file_specifiers, declarators, declarator, members, block, file_item, defines_function}
use Rattle.core_meaning.specs.Checking.{Binding, Checked, fine, ◌>>=◌, give, in_function, or_broken}
use Rattle.core_meaning.specs.Entities.{Struct, Numbers}
use Rattle.core_meaning.specs.Declarations.{name_in, based}
use Rattle.core_meaning.specs.UnitNames.{UnitState, Storage, storage_of, with_scope, declared_from, count_functions, defined_function, judged_item, judged_file_items, unit_start, too_big_in, unless_too_big, judged_unit}
use Rattle.tree_derivations.specs.Derivations.{Derivation, single, made_of, a_row, at_end, a_word, a_part, some_words, one_or_more, declarators_of, last_plain, last_initialised, next_plain, next_initialised, Each, no_more, one_more, IsDerived}
use Rattle.renamed_programs.specs.Trees.{SameButNames, AllSameButNames, same_node, same_end, same_more}
use Rattle.renamed_programs.specs.Entities.{Correspondence, AreBoundAlike}
use Rattle.renamed_programs.proofs.Alike.{Naming, naming, Alike, Quiet, AllTied, all_tied, alike_somes, alike_give, alike_then, alike_any, alike_quiet, alike_function}
use Rattle.renamed_programs.proofs.Scopes.{SameStructs, SameNumbers}
use Rattle.renamed_programs.proofs.Declarators.{function_parameters, SameBase, based_alike}
use Rattle.renamed_programs.proofs.Units.{OneToOne, storage_same, SameUnit, scope_alike, declarators_alike, function_defined, struct_defined}

module _ (named : Naming) (one_to_one : OneToOne named) where
  abbrev pub UnitsAfter : UnitState → UnitState → Type 0
  UnitsAfter x y = SameUnit named one_to_one x y

  abbrev pub ItemAlike : PlainTree → PlainTree → Type 0
  ItemAlike tree other = (globals : ℕ) (x y : UnitState) (behind at : PlainTrees) → UnitsAfter x y → Alike named UnitsAfter (judged_item globals x tree behind) (judged_item globals y other at)

  struct_declared :
      (words others : PlainTrees) (x y : UnitState) → AllSameButNames words others → UnitsAfter x y
      → Alike named UnitsAfter (based true x.scope words >>= (λ base. give (with_scope x base.scope))) (based true y.scope others >>= (λ base. give (with_scope y base.scope)))
  struct_declared words others x y e h =
      alike_then named (SameBase named [] x.scope y.scope h.scopes) UnitsAfter (based true x.scope words) (based true y.scope others) _ _ (based_alike named [] x.scope y.scope h.scopes true words others e)
      (λ p q z. alike_give named UnitsAfter (with_scope x p.scope) (with_scope y q.scope) (scope_alike named one_to_one x y p.scope q.scope h z.scopes))

  names_declared :
      (words others list second behind at : PlainTrees) (globals : ℕ) (x y : UnitState) → AllSameButNames words others
      → ((storage : Storage) (ty : PlainType) (p q : UnitState) → UnitsAfter p q → Alike named UnitsAfter (declared_from globals p storage ty list behind) (declared_from globals q storage ty second at)) → UnitsAfter x y
      → Alike named UnitsAfter (based true x.scope words >>= (λ base. declared_from globals (with_scope x base.scope) (storage_of words) base.ty list behind))
      (based true y.scope others >>= (λ base. declared_from globals (with_scope y base.scope) (storage_of others) base.ty second at))
  names_declared words others list second behind at globals x y e f h =
      alike_then named (SameBase named [] x.scope y.scope h.scopes) UnitsAfter (based true x.scope words) (based true y.scope others) _ _ (based_alike named [] x.scope y.scope h.scopes true words others e)
      (λ p q z. subst (λ ty. Alike named UnitsAfter (declared_from globals (with_scope x p.scope) (storage_of words) p.ty list behind) (declared_from globals (with_scope y q.scope) (storage_of others) ty second at)) z.ty
      (subst (λ storage. Alike named UnitsAfter (declared_from globals (with_scope x p.scope) (storage_of words) p.ty list behind) (declared_from globals (with_scope y q.scope) storage p.ty second at)) (storage_same words others e)
      (f (storage_of words) p.ty (with_scope x p.scope) (with_scope y q.scope) (scope_alike named one_to_one x y p.scope q.scope h z.scopes))))

  function_named :
      (words others parts second : PlainTrees) (body body' : PlainTree) (x y : UnitState) → AllSameButNames words others
      → ((storage : Storage) (ty : PlainType) (a b : PlainToken) → Alike named UnitsAfter (defined_function x storage ty parts a body) (defined_function y storage ty second b body')) → UnitsAfter x y
      → Alike named UnitsAfter (based false x.scope words >>= (λ base. or_broken (name_in parts) >>= (λ name. in_function (count_functions x.defined) (defined_function x (storage_of words) base.ty parts name body))))
      (based false y.scope others >>= (λ base. or_broken (name_in second) >>= (λ name. in_function (count_functions y.defined) (defined_function y (storage_of others) base.ty second name body'))))
  function_named words others parts second body body' x y e f h =
      alike_then named (SameBase named [] x.scope y.scope h.scopes) UnitsAfter (based false x.scope words) (based false y.scope others) _ _ (based_alike named [] x.scope y.scope h.scopes false words others e)
      (λ p q z. alike_somes named UnitsAfter (name_in parts) (name_in second) _ _
      (λ a b i j. alike_function named UnitsAfter (count_functions x.defined) (count_functions y.defined) (defined_function x (storage_of words) p.ty parts a body) (defined_function y (storage_of others) q.ty second b body')
      (subst (λ ty. Alike named UnitsAfter (defined_function x (storage_of words) p.ty parts a body) (defined_function y (storage_of others) ty second b body')) z.ty
      (subst (λ storage. Alike named UnitsAfter (defined_function x (storage_of words) p.ty parts a body) (defined_function y storage p.ty second b body')) (storage_same words others e) (f (storage_of words) p.ty a b)))))

  struct_item :
      {words list words' list' : PlainTree} → Derivation tag words → SameButNames words words' → Derivation members list → SameButNames list list' → (brace close end_ start last after : PlainTree)
      → ItemAlike (node k.StructDefinition (more words (more brace (more list (more close (more end_ none)))))) (node k.StructDefinition (more words' (more start (more list' (more last (more after none))))))
  struct_item (made_of k.Specifiers {parts = words} b a (some_words are)) (same_node {others = words'} e) (made_of k.Members {parts = list} c f (one_or_more each any)) (same_node {others = list'} g) brace close end_ start last after globals x y behind at h =
      struct_defined named one_to_one x y words words' list list' h e each g
  struct_item (single is) e d f brace close end_ start last after globals x y behind at h = absurd cc
  struct_item (made_of k.Specifiers b a w) e (single is) f brace close end_ start last after globals x y behind at h = absurd cc
  struct_item (made_of k.Specifiers b a w) e (made_of _ c g d) f brace close end_ start last after globals x y behind at h = absurd cc
  struct_item (made_of _ b a w) e d f brace close end_ start last after globals x y behind at h = absurd cc

  struct_declaration : {words words' : PlainTree} → Derivation tag words → SameButNames words words' → (end_ last : PlainTree) → ItemAlike (node k.StructDeclaration (more words (more end_ none))) (node k.StructDeclaration (more words' (more last none)))
  struct_declaration (made_of k.Specifiers {parts = words} b a w) (same_node {others = words'} e) end_ last globals x y behind at h = struct_declared words words' x y e h
  struct_declaration (single is) e end_ last globals x y behind at h = absurd cc
  struct_declaration (made_of _ b a w) e end_ last globals x y behind at h = absurd cc

  declaration :
      {words list words' list' : PlainTree} → Derivation file_specifiers words → SameButNames words words' → Derivation (declarators file_first) list → SameButNames list list' → (end_ last : PlainTree)
      → ItemAlike (node k.Declaration (more words (more list (more end_ none)))) (node k.Declaration (more words' (more list' (more last none))))
  declaration (made_of k.Specifiers {parts = words} b a w) (same_node {others = words'} e) (made_of k.Declarators {parts = list} c f (declarators_of d)) (same_node {others = list'} g) end_ last globals x y behind at h =
      names_declared words words' list list' behind at globals x y e (λ storage ty p q i. declarators_alike named one_to_one d g globals storage ty behind at p q i) h
  declaration (single is) e d f end_ last globals x y behind at h = absurd cc
  declaration (made_of k.Specifiers b a w) e (single is) f end_ last globals x y behind at h = absurd cc
  declaration (made_of k.Specifiers b a w) e (made_of _ c g d) f end_ last globals x y behind at h = absurd cc
  declaration (made_of _ b a w) e d f end_ last globals x y behind at h = absurd cc

  -- the one declarator of a function's definition
  only_function :
      {tree tree' body body' : PlainTree} (words words' : PlainTrees) → AllSameButNames words words' → Derivation (declarator file_first) tree → IsTrue (defines_function (node k.Declarators (more tree none))) → SameButNames tree tree' → Derivation block body → SameButNames body body'
      → (kind list_kind : Kind) → ItemAlike (node k.Function (more (node kind words) (more (node list_kind (more tree none)) (more body none)))) (node k.Function (more (node kind words') (more (node list_kind (more tree' none)) (more body' none))))
  only_function words words' e (single is) a f d g kind list_kind globals x y behind at h = absurd cc
  only_function {body = body} {body' = body'} words words' e (made_of k.FunctionDeclarator {parts = parts} b c (a_row row)) a (same_node {others = parts'} f) d g kind list_kind globals x y behind at h =
      function_named words words' parts parts' body body' x y e (λ storage ty p q. function_defined named one_to_one x y storage ty parts parts' p q h f (function_parameters row f) d g) h
  only_function words words' e (made_of _ b c l) a f d g kind list_kind globals x y behind at h = absurd (false≢true a)

  function_item :
      {words list body words' list' body' : PlainTree} → Derivation file_specifiers words → SameButNames words words' → Derivation (declarators file_first) list → IsTrue (defines_function list) → SameButNames list list' → Derivation block body → SameButNames body body'
      → ItemAlike (node k.Function (more words (more list (more body none)))) (node k.Function (more words' (more list' (more body' none))))
  function_item (made_of k.Specifiers {parts = words} b c w) (same_node {others = words'} e) (made_of k.Declarators i j (declarators_of (last_plain l))) a (same_node (same_more f same_end)) d g globals x y behind at h = only_function words words' e l a f d g k.Specifiers k.Declarators globals x y behind at h
  function_item (made_of k.Specifiers b c w) e (made_of k.Declarators i j (declarators_of (last_initialised m (single is) v o))) a f d g globals x y behind at h = absurd cc
  function_item (made_of k.Specifiers b c w) e (made_of k.Declarators i j (declarators_of (last_initialised m (made_of _ p q r) v o))) a f d g globals x y behind at h = absurd (false≢true a)
  function_item (made_of k.Specifiers b c w) e (made_of k.Declarators i j (declarators_of (next_plain (single is) v l))) a f d g globals x y behind at h = absurd cc
  function_item (made_of k.Specifiers b c w) e (made_of k.Declarators i j (declarators_of (next_plain (made_of _ p q r) v l))) a f d g globals x y behind at h = absurd (false≢true a)
  function_item (made_of k.Specifiers b c w) e (made_of k.Declarators i j (declarators_of (next_initialised m (single is) v o s l))) a f d g globals x y behind at h = absurd cc
  function_item (made_of k.Specifiers b c w) e (made_of k.Declarators i j (declarators_of (next_initialised m (made_of _ p q r) v o s l))) a f d g globals x y behind at h = absurd (false≢true a)
  function_item (made_of k.Specifiers b c w) e (single is) a f d g globals x y behind at h = absurd cc
  function_item (made_of k.Specifiers b c w) e (made_of _ i j l) a f d g globals x y behind at h = absurd cc
  function_item (single is) e l a f d g globals x y behind at h = absurd cc
  function_item (made_of _ b c w) e l a f d g globals x y behind at h = absurd cc

  item_alike : {tree other : PlainTree} → Derivation file_item tree → SameButNames tree other → ItemAlike tree other
  item_alike (single is) e globals x y behind at h = absurd cc
  item_alike (made_of k.StructDefinition b a (a_row (a_part w (a_word {token = brace} o (a_part d (a_word {token = close} c (a_word {token = end_} v at_end))))))) (same_node (same_more i (same_more {other = start} j (same_more l (same_more {other = last} m (same_more {other = after} n same_end)))))) globals x y behind at h =
      struct_item w i d l (leaf brace) (leaf close) (leaf end_) start last after globals x y behind at h
  item_alike (made_of k.StructDeclaration b a (a_row (a_part w (a_word {token = end_} v at_end)))) (same_node (same_more i (same_more {other = last} j same_end))) globals x y behind at h = struct_declaration w i (leaf end_) last globals x y behind at h
  item_alike (made_of k.Declaration b a (a_row (a_part w (a_part d (a_word {token = end_} v at_end))))) (same_node (same_more i (same_more j (same_more {other = last} l same_end)))) globals x y behind at h = declaration w i d j (leaf end_) last globals x y behind at h
  item_alike (made_of k.Function b a (a_row (a_part w (a_part d (a_part c at_end))))) (same_node (same_more i (same_more j (same_more l same_end)))) globals x y behind at h = function_item w i d a j c l globals x y behind at h
  item_alike (made_of _ b a l) e globals x y behind at h = absurd cc

  file_items_alike :
      {parts others : PlainTrees} → Each file_item parts → AllSameButNames parts others → (globals : ℕ) (x y : UnitState) → UnitsAfter x y
      → Alike named UnitsAfter (judged_file_items globals x parts) (judged_file_items globals y others)
  file_items_alike no_more same_end globals x y h = alike_give named UnitsAfter x y h
  file_items_alike (one_more {tree = tree} {rest = rest} d each) (same_more {other = other} {others = others} e r) globals x y h =
      alike_then named UnitsAfter UnitsAfter (judged_item globals x tree rest) (judged_item globals y other others) _ _ (item_alike d e globals x y rest others h) (λ p q i. file_items_alike each r globals p q i)

  small_quiet : (name : Option PlainToken) → Quiet named (unless_too_big name)
  small_quiet None = refl
  small_quiet (Some name) = tt

  start_alike : (structs others : List Struct) (numbers more_ : Numbers) → SameStructs structs others → SameNumbers named numbers more_ → UnitsAfter (unit_start structs numbers) (unit_start others more_)
  start_alike structs others numbers more_ h n = record {
    scopes = record {
      structs = h;
      names = λ a b e. refl;
      order = tt;
      locals = λ name l e. absurd cc;
      other_locals = λ name l e. absurd cc;
      tags = λ name m e. absurd cc;
      other_tags = λ name m e. absurd cc;
      numbers = n;
    };
    defined = tt;
  }

  pub unit_alike :
      {tree other : PlainTree} → IsDerived tree → SameButNames tree other → (globals : ℕ) (structs others : List Struct) (numbers more_ : Numbers) → SameStructs structs others → SameNumbers named numbers more_
      → Alike named UnitsAfter (judged_unit globals structs numbers tree) (judged_unit globals others more_ other)
  unit_alike {tree = leaf token} derived e globals structs others numbers more_ h n = absurd derived
  unit_alike {tree = node k.Unit parts} derived (same_node {others = parts'} e) globals structs others numbers more_ h n =
      alike_then named UnitsAfter UnitsAfter (judged_file_items globals (unit_start structs numbers) parts) (judged_file_items globals (unit_start others more_) parts') _ _
      (file_items_alike derived e globals (unit_start structs numbers) (unit_start others more_) (start_alike structs others numbers more_ h n))
      (λ x y i. alike_any named UnitsAfter (unless_too_big (too_big_in x.scope parts)) (unless_too_big (too_big_in y.scope parts')) _ _
      (alike_quiet named (unless_too_big (too_big_in x.scope parts)) (unless_too_big (too_big_in y.scope parts')) (small_quiet (too_big_in x.scope parts)) (small_quiet (too_big_in y.scope parts')))
      (λ p q. alike_give named UnitsAfter x y i))
  unit_alike {tree = node _ parts} derived e globals structs others numbers more_ h n = absurd derived

-- what comes of two judgements that are alike, fine, and bind alike
pub result_of :
    {A B : Type 0} (named : Correspondence) (V : A → B → Type 0) (c : Checked A) (d : Checked B) (x : A) (y : B) (js ks : List Binding) → Alike (naming named) V c d → c ≡ fine x js → d ≡ fine y ks → AreBoundAlike named js ks → V x y
result_of named V c d x y js ks h e f bound =
    let both : Alike (naming named) V (fine x js) (fine y ks) = subst (λ z. Alike (naming named) V (fine x js) z) f (subst (λ z. Alike (naming named) V z d) e h) in
    let all : AllTied (naming named) (js ++ []) (ks ++ []) = subst (λ l. AllTied (naming named) (js ++ []) l) (sym (append-nil ks)) (subst (λ l. AllTied (naming named) l ks) (sym (append-nil js)) (all_tied named js ks bound)) in
    (both.holds [] [] all).0
