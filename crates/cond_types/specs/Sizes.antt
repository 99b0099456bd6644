-- Which objects of a unit are too big where their structs are complete (ISO/IEC 9899:2011, 6.9.2), as a configuration sees them.
use Rattle.std.specs.Prelude.{Bool, true, false, not, ◌&&◌, Option, Some, None}
use Rattle.std.specs.List.{list_any}
use Rattle.c_text.specs.Token.{PlainToken}
use Rattle.c_tree.specs.declared.kinds.Kind.{Kind}
use Rattle.c_tree.specs.declared.kinds.Kind.TheVariants as k
use Rattle.c_tree.specs.Trees.{PlainTree, leaf, node}
use Rattle.declarator_lists.specs.Lists.{trees_of}
use Rattle.core_meaning.specs.Declarations.{name_in}
use Rattle.type_tables.specs.Tables.{Tables, Sort, object, declared_function, FileName, is_small}
use Rattle.link_faults.specs.Measures.{is_so}

abbrev pub is_plain_declarator : Kind → Bool
is_plain_declarator k.Declarator = true
is_plain_declarator kind = false

abbrev pub is_plain_tree : PlainTree → Bool
is_plain_tree (leaf token) = false
is_plain_tree (node kind parts) = is_plain_declarator kind

abbrev pub is_list : Kind → Bool
is_list k.Declarators = true
is_list kind = false

abbrev pub is_declaration : Kind → Bool
is_declaration k.Declaration = true
is_declaration kind = false

module _ (t : Tables) where
  abbrev pub is_big : Sort → Bool
  is_big (object ty) = not (is_small t ty)
  is_big (declared_function number) = false

  abbrev pub is_big_name : FileName → Bool
  is_big_name n = is_big n.sort

  -- the object of a name that is given
  abbrev pub is_given_big : Option PlainToken → Bool
  is_given_big None = false
  is_given_big (Some name) = is_so is_big_name (t.names name.text)

  abbrev pub is_big_declarator : PlainTree → Bool
  is_big_declarator (leaf token) = false
  is_big_declarator (node kind parts) = is_plain_declarator kind && is_given_big (name_in parts)

  -- a list of declarators
  abbrev pub is_big_list : PlainTree → Bool
  is_big_list (leaf token) = false
  is_big_list (node kind list) = is_list kind && list_any is_big_declarator (trees_of list)

  -- an item of a unit
  abbrev pub is_big_item : PlainTree → Bool
  is_big_item (leaf token) = false
  is_big_item (node kind parts) = is_declaration kind && list_any is_big_list (trees_of parts)
