-- The parts of a node are read one after the other.
use Rattle.std.proofs.Common.{◌≡◌, Bool, true, false, ◌||◌, Option, Some, None, refl, if◌then◌else◌}
use Rattle.c_text.specs.Token.{PlainToken}
use Rattle.c_tree.specs.declared.kinds.Kind.{Kind}
use Rattle.c_tree.specs.Trees.{PlainTree, PlainTrees, leaf, node, none, more}
use Rattle.choice_trees.specs.ChoiceTrees.{with_part}
use Rattle.bindings.specs.Bindings.{is_name}
use Rattle.scope_readings.specs.Scopes.{Scopes, passed}
use Rattle.scope_readings.specs.Walks.{Role, ordinary_use, member_use, tag, declared_name, role, turns, scope_of, walk_parts, walk_name}
use Rattle.cond_scopes.specs.Progress.{SoFar, showing, name_read, part_read, perhaps_read, parts_read}

module _ (around kind : Kind) where
  -- the names of declarators are shown at the end
  abbrev pub ended : SoFar → Scopes
  ended p = showing (scope_of around) p.hidden p.scopes

  abbrev walked : PlainTrees → SoFar → Scopes
  walked parts p = showing (scope_of around) p.hidden (walk_parts around kind p.turned parts p.scopes)

  abbrev pub AreRead : PlainTrees → Type 0
  AreRead parts = (p : SoFar) → walked parts p ≡ ended (parts_read around kind parts p)

  name_walked :
      (token : PlainToken) (rest : PlainTrees) (p : SoFar) (r : Role) → AreRead rest
      → showing (scope_of around) p.hidden (walk_name around r token (λ after. walk_parts around kind p.turned rest after) p.scopes)
      ≡ ended (parts_read around kind rest (name_read around r token.text p))
  name_walked token rest p ordinary_use behind = behind (name_read around ordinary_use token.text p)
  name_walked token rest p member_use behind = behind (name_read around member_use token.text p)
  name_walked token rest p tag behind = behind (name_read around tag token.text p)
  name_walked token rest p declared_name behind = behind (name_read around declared_name token.text p)

  leaf_walked :
      (token : PlainToken) (rest : PlainTrees) (p : SoFar) (b : Bool) → AreRead rest
      → showing (scope_of around) p.hidden
      (if b then walk_name around (role kind p.turned) token (λ after. walk_parts around kind p.turned rest after) p.scopes
      else walk_parts around kind (p.turned || turns kind token) rest (passed p.scopes))
      ≡ ended (parts_read around kind rest
      (if b then name_read around (role kind p.turned) token.text p
      else record p { scopes = passed p.scopes; turned = p.turned || turns kind token }))
  leaf_walked token rest p true behind = name_walked token rest p (role kind p.turned) behind
  leaf_walked token rest p false behind = behind (record p { scopes = passed p.scopes; turned = p.turned || turns kind token })

  pub walked_by_parts : (parts : PlainTrees) → AreRead parts
  walked_by_parts none p = refl
  walked_by_parts (more (node inner parts) rest) p = walked_by_parts rest (part_read around kind (node inner parts) p)
  walked_by_parts (more (leaf token) rest) p = leaf_walked token rest p (is_name token) (walked_by_parts rest)

  -- what stands for a part, if anything does, and then the others
  pub part_then : (needed : Bool) (part : Option PlainTree) (rest : PlainTrees) (p : SoFar)
      → parts_read around kind (with_part needed part rest) p ≡ parts_read around kind rest (perhaps_read around kind needed part p)
  part_then needed (Some tree) rest p = refl
  part_then true None rest p = refl
  part_then false None rest p = refl
