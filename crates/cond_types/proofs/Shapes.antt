-- The parts of a unit's items, by their derivations.
use Rattle.std.proofs.Common.{◌≡◌, true, false, IsTrue, refl, ap}
use Rattle.std.proofs.lemmas.Bool.{false≢true}
use Rattle.c_tree.specs.declared.kinds.Kind.TheVariants as k
use Rattle.c_tree.specs.Trees.{PlainTree, PlainTrees, leaf, node, none, more}
use Rattle.c_tree.specs.Grammar.{tag, members, member, file_item, file_specifiers, file_first, declarator, declarators, block, defines_function}
use Rattle.tree_derivations.specs.Derivations.{Derivation, single, made_of, a_row, one_or_more, declarators_of, at_end, a_word, a_part, Each, last_plain, last_initialised, next_plain, next_initialised}
use Rattle.tree_derivations.specs.Derivations as derivations
use Rattle.cond_units.specs.Functions.{IsFunctionDeclarator, of_function}
use Rattle.cond_types.specs.Definitions.{IsDefinition}

pub none_such : {A : Type 0} → false ≡ true → A
none_such h = absurd (false≢true h)

-- the definition of a struct
pub record IsStruct (parts : PlainTrees) : Type 0 where
  pub words : PlainTree
  pub brace : PlainTree
  pub list : PlainTrees
  pub rest : PlainTrees
  pub parts_are : parts ≡ more words (more brace (more (node k.Members list) rest))
  pub tagged : Derivation tag words
  pub each : Each member list

-- the declaration of a struct
pub record IsTag (parts : PlainTrees) : Type 0 where
  pub words : PlainTree
  pub end : PlainTree
  pub parts_are : parts ≡ more words (more end none)
  pub tagged : Derivation tag words

-- a declaration of names
pub record IsDeclaration (parts : PlainTrees) : Type 0 where
  pub words : PlainTree
  pub list : PlainTrees
  pub end : PlainTree
  pub parts_are : parts ≡ more words (more (node k.Declarators list) (more end none))
  pub specified : Derivation file_specifiers words
  pub declared : derivations.Declared file_first list

-- the definition of a function
pub record IsFunction (parts : PlainTrees) : Type 0 where
  pub words : PlainTree
  pub declarator : PlainTree
  pub body : PlainTree
  pub parts_are : parts ≡ more words (more (node k.Declarators (more declarator none)) (more body none))
  pub specified : Derivation file_specifiers words
  pub defines : IsDefinition declarator body

-- a list with one declarator, of a function
record IsOne (list : PlainTrees) : Type 0 where
  declarator : PlainTree
  alone : list ≡ more declarator none
  of : IsFunctionDeclarator declarator

in_members : {tree : PlainTree} → Derivation members tree → (words brace : PlainTree) (rest : PlainTrees) → Derivation tag words → IsStruct (more words (more brace (more tree rest)))
in_members (single is) words brace rest tagged = none_such is
in_members (made_of k.Members {parts = list} b a (one_or_more each any)) words brace rest tagged =
    record { words = words; brace = brace; list = list; rest = rest; parts_are = refl; tagged = tagged; each = each }
in_members (made_of _ b a s) words brace rest tagged = none_such b

pub struct_parts : {parts : PlainTrees} → Derivation file_item (node k.StructDefinition parts) → IsStruct parts
struct_parts (made_of k.StructDefinition b a (a_row (a_part {tree = words} tagged (a_word {token = brace} w (a_part {tree = tree} {rest = rest} m others))))) = in_members m words (leaf brace) rest tagged

pub tag_parts : {parts : PlainTrees} → Derivation file_item (node k.StructDeclaration parts) → IsTag parts
tag_parts (made_of k.StructDeclaration b a (a_row (a_part {tree = words} tagged (a_word {token = end} w at_end)))) = record { words = words; end = leaf end; parts_are = refl; tagged = tagged }

in_list : {tree : PlainTree} → Derivation (declarators file_first) tree → (words end : PlainTree) → Derivation file_specifiers words → IsDeclaration (more words (more tree (more end none)))
in_list (single is) words end specified = none_such is
in_list (made_of k.Declarators {parts = list} b a (declarators_of declared)) words end specified =
    record { words = words; list = list; end = end; parts_are = refl; specified = specified; declared = declared }
in_list (made_of _ b a s) words end specified = none_such b

pub declaration_parts : {parts : PlainTrees} → Derivation file_item (node k.Declaration parts) → IsDeclaration parts
declaration_parts (made_of k.Declaration b a (a_row (a_part {tree = words} specified (a_part d (a_word {token = end} w at_end))))) = in_list d words (leaf end) specified

one_declarator : {tree : PlainTree} → Derivation (declarator file_first) tree → IsTrue (defines_function (node k.Declarators (more tree none))) → IsOne (more tree none)
one_declarator (single is) h = none_such is
one_declarator (made_of k.FunctionDeclarator {parts = parts} b a s) h = record { declarator = node k.FunctionDeclarator parts; alone = refl; of = of_function {role = file_first} (made_of k.FunctionDeclarator b a s) }
one_declarator (made_of _ b a s) h = none_such h

no_others : {A : Type 0} {tree : PlainTree} → Derivation (declarator file_first) tree → (second : PlainTree) (rest : PlainTrees) → IsTrue (defines_function (node k.Declarators (more tree (more second rest)))) → A
no_others (single is) second rest h = none_such h
no_others (made_of _ b a s) second rest h = none_such h

one_in_list : {list : PlainTrees} → derivations.Declared file_first list → IsTrue (defines_function (node k.Declarators list)) → IsOne list
one_in_list (last_plain d) h = one_declarator d h
one_in_list (last_initialised {value = value} {sign = sign} m d w v) h = no_others d (leaf sign) (more value none) h
one_in_list (next_plain {comma = comma} {rest = rest} d w s) h = no_others d (leaf comma) rest h
one_in_list (next_initialised {value = value} {sign = sign} {comma = comma} {rest = rest} m d w v c s) h = no_others d (leaf sign) (more value (more (leaf comma) rest)) h

defined_in : {tree : PlainTree} → Derivation (declarators file_first) tree → IsTrue (defines_function tree) → (words body : PlainTree) → Derivation file_specifiers words → Derivation block body → IsFunction (more words (more tree (more body none)))
defined_in (single is) h words body specified has_block = none_such is
defined_in (made_of k.Declarators {parts = list} b a (declarators_of declared)) h words body specified has_block =
    let one = one_in_list declared h in
    record {
      words = words;
      declarator = one.declarator;
      body = body;
      parts_are = ap (λ (l : PlainTrees). more words (more (node k.Declarators l) (more body none))) one.alone;
      specified = specified;
      defines = record { declares = one.of; has_block = has_block };
    }
defined_in (made_of _ b a s) h words body specified has_block = none_such b

pub function_parts : {parts : PlainTrees} → Derivation file_item (node k.Function parts) → IsFunction parts
function_parts (made_of k.Function b a (a_row (a_part {tree = words} specified (a_part d (a_part {tree = body} has_block at_end))))) = defined_in d a words body specified has_block
