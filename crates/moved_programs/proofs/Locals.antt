-- Declarations of locals whose tokens stand elsewhere are judged alike.
use Rattle.std.proofs.Common.{◌≡◌, false, List, [], ◌∷◌, ◌++◌, map, refl, ap, length}
use Rattle.std.specs.Prelude.{Option, Some, None, option_map}
use Rattle.c_text.specs.Token.{PlainToken}
use Rattle.c_types.specs.Types.{PlainType}
use Rattle.c_tree.specs.declared.kinds.Kind.{Kind}
use Rattle.c_tree.specs.declared.terminals.Terminal.TheVariants as t
use Rattle.c_tree.specs.Trees.{PlainTree, PlainTrees, leaf, node, none, more}
use Rattle.c_tree.specs.Grammar.{is_word}
use Rattle.core_meaning.specs.declared.refusals.TypeKind.{TypeKind}
use Rattle.core_meaning.specs.declared.refusals.TypeKind.TheVariants.{Redeclared}
use Rattle.core_meaning.specs.Program.{PlainPart}
use Rattle.core_meaning.specs.Checking.{local_entity, ◌>>=◌, give, unless_so, declares}
use Rattle.core_meaning.specs.Entities.{Scope}
use Rattle.core_meaning.specs.Constancy.{Initial}
use Rattle.core_meaning.specs.Declarations.{name_in, based, object_type, with_local, judged_object, Locals, LocalItem, is_new_local, plain_part, local_initial, declared_local, one_local, with_items, locals_from, judged_locals}
use Rattle.moved_programs.specs.Trees.{moved_tree, moved_trees}
use Rattle.moved_programs.proofs.Moves.{elsewhere, stays, unless_moves, declares_moves}
use Rattle.moved_programs.proofs.Follows.{Follows, kept, then_follows, same_follows, token_follows, give_follows, given_follows, broken_follows, tested_follows}
use Rattle.moved_programs.proofs.Words.{name_moves, same_word}
use Rattle.moved_programs.proofs.Constants.{KeepsKinds, moved_initials, initial_follows}
use Rattle.moved_programs.proofs.Declarators.{based_moves, object_moves, judged_object_moves}

module _ (told : TypeKind → TypeKind) (h : PlainToken → PlainToken) (alike : KeepsKinds told h) where
  values_follow : (s : Scope) (ty : PlainType) (name : PlainToken) (initialiser : Option PlainTree) → Follows told h (moved_initials h) (local_initial s ty name initialiser) (local_initial s ty (elsewhere h name) (option_map (moved_tree (elsewhere h)) initialiser))
  values_follow s ty name None = give_follows told h (moved_initials h) _ _ refl
  values_follow s ty name (Some initialiser) = initial_follows told h alike s None initialiser ty [] name

  same_parts : (given_ : List Initial) → map plain_part (moved_initials h given_) ≡ map plain_part given_
  same_parts [] = refl
  same_parts (i ∷ rest) = ap (λ l. plain_part i ∷ l) (same_parts rest)

  abbrev local_here : Scope → List PlainType → PlainType → PlainToken → List PlainPart → Locals
  local_here s slots whole name parts = record {
    scope = with_local s name.text (length slots) whole;
    slots = slots ++ whole ∷ [];
    items = (let item : LocalItem = record { slot = length slots; parts = parts } in item) ∷ [];
  }

  declared_follows :
      (s : Scope) (slots : List PlainType) (ty : PlainType) (kind : Kind) (parts : PlainTrees) (name : PlainToken) (initialiser : Option PlainTree)
      → Follows told h stays (declared_local s slots ty kind parts name initialiser) (declared_local s slots ty kind (moved_trees (elsewhere h) parts) (elsewhere h name) (option_map (moved_tree (elsewhere h)) initialiser))
  declared_follows s slots ty kind parts name initialiser =
      let moved = option_map (moved_tree (elsewhere h)) initialiser in
      same_follows told h stays (unless_so (is_new_local s name.text) Redeclared name) (unless_so (is_new_local s name.text) Redeclared (elsewhere h name)) _ _ (kept told h (unless_moves h (is_new_local s name.text) Redeclared name (elsewhere h name) refl))
      (λ new. same_follows told h stays (declares (local_entity (length slots))) (declares (local_entity (length slots))) _ _ (kept told h (declares_moves h (local_entity (length slots))))
      (λ bound. same_follows told h stays (object_type s ty kind parts name initialiser) (object_type s ty kind (moved_trees (elsewhere h) parts) (elsewhere h name) moved) _ _ (kept told h (object_moves h s ty kind parts name initialiser))
      (λ whole. same_follows told h stays (judged_object s whole name) (judged_object s whole (elsewhere h name)) _ _ (kept told h (judged_object_moves h s whole name))
      (λ judged. then_follows told h (moved_initials h) stays (local_initial (with_local s name.text (length slots) whole) whole name initialiser) (local_initial (with_local s name.text (length slots) whole) whole (elsewhere h name) moved)
      (λ given_. give (local_here s slots whole name (map plain_part given_))) (λ given_. give (local_here s slots whole name (map plain_part given_)))
      (values_follow (with_local s name.text (length slots) whole) whole name initialiser)
      (λ given_. give_follows told h stays (local_here s slots whole name (map plain_part given_)) (local_here s slots whole name (map plain_part (moved_initials h given_))) (ap (local_here s slots whole name) (same_parts given_)))))))

  one_follows :
      (s : Scope) (slots : List PlainType) (ty : PlainType) (tree : PlainTree) (initialiser : Option PlainTree)
      → Follows told h stays (one_local s slots ty tree initialiser) (one_local s slots ty (moved_tree (elsewhere h) tree) (option_map (moved_tree (elsewhere h)) initialiser))
  one_follows s slots ty (node kind parts) initialiser =
      token_follows told h stays (name_in parts) (name_in (moved_trees (elsewhere h) parts)) _ _ (name_moves h parts) (λ name. declared_follows s slots ty kind parts name initialiser)
  one_follows s slots ty (leaf token) initialiser = broken_follows told h stays

  abbrev LocalsFollow : PlainTrees → Type 0
  LocalsFollow parts = (s : Scope) (slots : List PlainType) (ty : PlainType) → Follows told h stays (locals_from s slots ty parts) (locals_from s slots ty (moved_trees (elsewhere h) parts))

  -- one declarator, and then others
  one_then :
      (s : Scope) (slots : List PlainType) (ty : PlainType) (tree : PlainTree) (initialiser : Option PlainTree) (rest : PlainTrees) → LocalsFollow rest
      → Follows told h stays (one_local s slots ty tree initialiser >>= (λ first. locals_from first.scope first.slots ty rest >>= (λ others. give (with_items first.items others))))
      (one_local s slots ty (moved_tree (elsewhere h) tree) (option_map (moved_tree (elsewhere h)) initialiser) >>= (λ first. locals_from first.scope first.slots ty (moved_trees (elsewhere h) rest) >>= (λ others. give (with_items first.items others))))
  one_then s slots ty tree initialiser rest i =
      same_follows told h stays (one_local s slots ty tree initialiser) (one_local s slots ty (moved_tree (elsewhere h) tree) (option_map (moved_tree (elsewhere h)) initialiser)) _ _ (one_follows s slots ty tree initialiser)
      (λ first. same_follows told h stays (locals_from first.scope first.slots ty rest) (locals_from first.scope first.slots ty (moved_trees (elsewhere h) rest)) _ _ (i first.scope first.slots ty) (λ others. given_follows told h stays (with_items first.items others)))

  from_follows : (parts : PlainTrees) → LocalsFollow parts
  from_follows none s slots ty = broken_follows told h stays
  from_follows (more tree none) s slots ty = one_follows s slots ty tree None
  from_follows (more tree (more sign none)) s slots ty = broken_follows told h stays
  from_follows (more tree (more sign (more next none))) s slots ty =
      tested_follows told h stays (is_word (t.Assign ∷ []) sign) (is_word (t.Assign ∷ []) (moved_tree (elsewhere h) sign)) _ _ _ _ (same_word h (t.Assign ∷ []) sign) (one_follows s slots ty tree (Some next))
      (one_then s slots ty tree None (more next none) (from_follows (more next none)))
  from_follows (more tree (more sign (more next (more comma rest)))) s slots ty =
      tested_follows told h stays (is_word (t.Assign ∷ []) sign) (is_word (t.Assign ∷ []) (moved_tree (elsewhere h) sign)) _ _ _ _ (same_word h (t.Assign ∷ []) sign) (one_then s slots ty tree (Some next) rest (from_follows rest))
      (one_then s slots ty tree None (more next (more comma rest)) (from_follows (more next (more comma rest))))

  pub locals_follow : (s : Scope) (slots : List PlainType) (parts : PlainTrees) → Follows told h stays (judged_locals s slots parts) (judged_locals s slots (moved_trees (elsewhere h) parts))
  locals_follow s slots (more (node words_kind words) (more (node kind declarators) (more end_ none))) =
      same_follows told h stays (based false s words) (based false s (moved_trees (elsewhere h) words)) _ _ (kept told h (based_moves h false s words)) (λ base. from_follows declarators s slots base.ty)
  locals_follow s slots _ = broken_follows told h stays
