-- Sizes and initialisers whose tokens stand elsewhere are judged alike, where places that were apart are apart.
use Rattle.std.proofs.Common.{◌≡◌, ℕ, suc, ◌+◌, List, [], ◌∷◌, ◌++◌, map, refl, sym, ap, subst, ◌∙◌, length, take}
use Rattle.std.specs.Prelude.{Option, Some, None, option_map, nat_le, pos, ◌&&◌, if◌then◌else◌}
use Rattle.std.proofs.lemmas.List.{map-append}
use Rattle.c_text.specs.Token.{PlainToken}
use Rattle.c_types.specs.Types.{PlainType, array_of}
use Rattle.c_types.specs.Integers.{is_integer, converted}
use Rattle.c_tree.specs.declared.kinds.Kind.TheVariants as k
use Rattle.c_tree.specs.Trees.{PlainTree, PlainTrees, leaf, node, none, more}
use Rattle.core_meaning.specs.declared.refusals.TypeKind.{TypeKind}
use Rattle.core_meaning.specs.declared.refusals.TypeKind.TheVariants.{BadOperand, BadConstant}
use Rattle.core_meaning.specs.Program.{constant}
use Rattle.core_meaning.specs.Values.{part, Path}
use Rattle.core_meaning.specs.Checking.{Checked, fine, refused, broken, ◌>>=◌, unless_so, found_or, or_broken}
use Rattle.core_meaning.specs.Entities.{Scope}
use Rattle.core_meaning.specs.Typing.{Typed, fits_into}
use Rattle.core_meaning.specs.Expressions.{first_token, text_bytes, valued}
use Rattle.core_meaning.specs.Constancy.{judged_count, count_of_value, value_if_constant, Initial, part_for, path_for, is_character_type, text_parts, text_initial, same_place, is_before_bad_constant, kind_of_excess, part_or_excess, is_allowed, value_initial, whole_initial, text_or_whole, initial, initial_entries, counted_by_text, count_by_initialiser}
use Rattle.moved_programs.specs.Trees.{moved_tree, moved_trees}
use Rattle.moved_programs.proofs.Moves.{elsewhere, moved_checked, Moves, stays, same_then, give_moves, somes_move, unless_moves, found_moves}
use Rattle.moved_programs.proofs.Follows.{Follows, as_they_are, as_one, kept, then_follows, same_follows, give_follows, refused_follows, if_follows}
use Rattle.moved_programs.proofs.Words.{first_moves, same_bytes, same_entries}
use Rattle.moved_programs.proofs.Expressions.{value_moves}

-- tokens that stood at one place do so elsewhere, and no others
abbrev pub KeepsPlaces : (PlainToken → PlainToken) → Type 0
KeepsPlaces h = (a b : PlainToken) → same_place (elsewhere h a) (elsewhere h b) ≡ same_place a b

-- The kind that counts for an initialiser too many is told elsewhere as it was: by places, or not at all.
pub record KeepsKinds (told : TypeKind → TypeKind) (h : PlainToken → PlainToken) : Type 0 where
  pub keeps :
      (kind : TypeKind) (token first : PlainToken)
      → told (if same_place (elsewhere h token) (elsewhere h first) && is_before_bad_constant kind then kind else BadConstant)
      ≡ told (if same_place token first && is_before_bad_constant kind then kind else BadConstant)

pub kinds_by_places : (h : PlainToken → PlainToken) → KeepsPlaces h → KeepsKinds as_they_are h
kinds_by_places h apart = record {
  keeps = λ kind token first. ap (λ b. if b && is_before_bad_constant kind then kind else BadConstant) (apart token first);
}

pub kinds_as_one : (h : PlainToken → PlainToken) → KeepsKinds as_one h
kinds_as_one h = record { keeps = λ kind token first. refl }

abbrev pub moved_initial : (PlainToken → PlainToken) → Initial → Initial
moved_initial h i = record i { first = elsewhere h i.first }

abbrev pub moved_initials : (PlainToken → PlainToken) → List Initial → List Initial
moved_initials h given_ = map (moved_initial h) given_

module _ (h : PlainToken → PlainToken) where
  pub count_moves : (s : Scope) (tree : PlainTree) (behind : PlainToken) → Moves h stays (judged_count s tree behind) (judged_count s (moved_tree (elsewhere h) tree) (elsewhere h behind))
  count_moves s tree behind =
      same_then h stays (valued s tree) (valued s (moved_tree (elsewhere h) tree)) _ _ (value_moves h s tree)
      (λ x. found_moves h (if is_integer x.ty then count_of_value (value_if_constant x.core) else None) BadConstant (first_token tree behind) (first_token (moved_tree (elsewhere h) tree) (elsewhere h behind)) (first_moves h tree behind))

  -- ---- the number of elements that an initialiser gives

  text_count : (element : PlainType) (parts : PlainTrees) → counted_by_text element (moved_trees (elsewhere h) parts) ≡ counted_by_text element parts
  text_count element parts = ap (λ x. if is_character_type element then option_map (λ bytes. length bytes + 1) x else None) (same_bytes h parts)

  pub same_count : (element : PlainType) (tree : PlainTree) → count_by_initialiser element (moved_tree (elsewhere h) tree) ≡ count_by_initialiser element tree
  same_count element (node k.Braces (more brace (more (node kind entries) (more last none)))) = ap Some (same_entries h entries)
  same_count element (node k.Texts parts) = text_count element parts
  same_count element (leaf token) = refl
  same_count element (node _ _) = refl

  -- ---- initialisers

  parts_move : (element : PlainType) (path : Path) (n : ℕ) (bytes : List ℕ) (first : PlainToken) → text_parts element path n bytes (elsewhere h first) ≡ moved_initials h (text_parts element path n bytes first)
  parts_move element path n [] first = refl
  parts_move element path n (byte ∷ rest) first =
      let here : Initial = record { path = part n ∷ path; value = constant (converted element (pos byte)); first = elsewhere h first } in
      ap (λ l. here ∷ l) (parts_move element path (suc n) rest first)

  text_moves :
      (element : PlainType) (count : ℕ) (path : Path) (bytes : List ℕ) (first : PlainToken) → Moves h (moved_initials h) (text_initial element count path bytes first) (text_initial element count path bytes (elsewhere h first))
  text_moves element count path bytes first =
      same_then h (moved_initials h) (unless_so (nat_le (length bytes) count) BadConstant first) (unless_so (nat_le (length bytes) count) BadConstant (elsewhere h first)) _ _
      (unless_moves h (nat_le (length bytes) count) BadConstant first (elsewhere h first) refl)
      (λ room. give_moves h (moved_initials h) _ _ (parts_move element path 0 (take count (bytes ++ 0 ∷ [])) first))

module _ (told : TypeKind → TypeKind) (h : PlainToken → PlainToken) (alike : KeepsKinds told h) (s : Scope) (globals : Option ℕ) where
  told_kind : (first : PlainToken) (c : Checked Typed) → told (kind_of_excess (elsewhere h first) (moved_checked h stays c)) ≡ told (kind_of_excess first c)
  told_kind first (fine x bindings) = refl
  told_kind first (refused kind token) = alike.keeps kind token first
  told_kind first broken = refl

  part_follows :
      (found : Option PlainType) (tree : PlainTree) (first at : PlainToken) → at ≡ elsewhere h first
      → Follows told h stays (part_or_excess s globals found tree first) (part_or_excess s globals found (moved_tree (elsewhere h) tree) at)
  part_follows (Some element) tree first at e = give_follows told h stays _ _ refl
  part_follows None tree first at e =
      let kinds = ap (λ c. told (kind_of_excess (elsewhere h first) c)) (value_moves h s tree).holds ∙ told_kind first (valued s tree) in
      record { holds = ap (λ token. refused (told (kind_of_excess token (valued s (moved_tree (elsewhere h) tree)))) token) e ∙ ap (λ kind. refused kind (elsewhere h first)) kinds }

  value_initial_follows :
      (ty : PlainType) (path : Path) (tree : PlainTree) (first : PlainToken) → Follows told h (moved_initials h) (value_initial s globals ty path tree first) (value_initial s globals ty path (moved_tree (elsewhere h) tree) (elsewhere h first))
  value_initial_follows ty path tree first =
      same_follows told h (moved_initials h) (valued s tree) (valued s (moved_tree (elsewhere h) tree)) _ _ (kept told h (value_moves h s tree))
      (λ x. same_follows told h (moved_initials h) (found_or (fits_into ty x) BadOperand first) (found_or (fits_into ty x) BadOperand (elsewhere h first)) _ _ (kept told h (found_moves h (fits_into ty x) BadOperand first (elsewhere h first) refl))
      (λ core. same_follows told h (moved_initials h) (unless_so (is_allowed s globals core) BadConstant first) (unless_so (is_allowed s globals core) BadConstant (elsewhere h first)) _ _
      (kept told h (unless_moves h (is_allowed s globals core) BadConstant first (elsewhere h first) refl))
      (λ allowed. give_follows told h (moved_initials h) _ _ refl)))

  whole_follows :
      (ty : PlainType) (path : Path) (tree : PlainTree) (first : PlainToken) → Follows told h (moved_initials h) (whole_initial s globals ty path tree first) (whole_initial s globals ty path (moved_tree (elsewhere h) tree) (elsewhere h first))
  whole_follows (array_of element count) path tree first =
      same_follows told h (moved_initials h) (valued s tree) (valued s (moved_tree (elsewhere h) tree)) _ _ (kept told h (value_moves h s tree)) (λ x. refused_follows told h (moved_initials h) BadOperand first (elsewhere h first) refl)
  whole_follows ty path tree first = value_initial_follows ty path tree first

  text_or_whole_follows :
      (ty : PlainType) (path : Path) (parts : PlainTrees) (first : PlainToken)
      → Follows told h (moved_initials h) (text_or_whole s globals ty path parts first) (text_or_whole s globals ty path (moved_trees (elsewhere h) parts) (elsewhere h first))
  text_or_whole_follows (array_of element count) path parts first =
      if_follows told h (moved_initials h) (is_character_type element) _ _ _ _
      (same_follows told h (moved_initials h) (or_broken (text_bytes parts)) (or_broken (text_bytes (moved_trees (elsewhere h) parts))) _ _ (kept told h (somes_move h (text_bytes parts) (text_bytes (moved_trees (elsewhere h) parts)) (same_bytes h parts)))
      (λ bytes. kept told h (text_moves h element count path bytes first)))
      (refused_follows told h (moved_initials h) BadOperand first (elsewhere h first) refl)
  text_or_whole_follows ty path parts first = value_initial_follows ty path (node k.Texts parts) first

  abbrev InitialFollows : PlainTree → Type 0
  InitialFollows tree =
      (ty : PlainType) (path : Path) (behind : PlainToken) → Follows told h (moved_initials h) (initial s globals ty path tree behind) (initial s globals ty path (moved_tree (elsewhere h) tree) (elsewhere h behind))

  abbrev EntriesFollow : PlainTrees → Type 0
  EntriesFollow entries =
      (ty : PlainType) (path : Path) (n : ℕ) (behind : PlainToken)
      → Follows told h (moved_initials h) (initial_entries s globals ty path n entries behind) (initial_entries s globals ty path n (moved_trees (elsewhere h) entries) (elsewhere h behind))

  whole_at :
      (ty : PlainType) (path : Path) (tree : PlainTree) (behind : PlainToken)
      → Follows told h (moved_initials h) (whole_initial s globals ty path tree (first_token tree behind)) (whole_initial s globals ty path (moved_tree (elsewhere h) tree) (first_token (moved_tree (elsewhere h) tree) (elsewhere h behind)))
  whole_at ty path tree behind =
      subst (λ token. Follows told h (moved_initials h) (whole_initial s globals ty path tree (first_token tree behind)) (whole_initial s globals ty path (moved_tree (elsewhere h) tree) token)) (sym (first_moves h tree behind))
      (whole_follows ty path tree (first_token tree behind))

  text_at :
      (ty : PlainType) (path : Path) (parts : PlainTrees) (behind : PlainToken)
      → Follows told h (moved_initials h) (text_or_whole s globals ty path parts (first_token (node k.Texts parts) behind)) (text_or_whole s globals ty path (moved_trees (elsewhere h) parts) (first_token (moved_tree (elsewhere h) (node k.Texts parts)) (elsewhere h behind)))
  text_at ty path parts behind =
      subst (λ token. Follows told h (moved_initials h) (text_or_whole s globals ty path parts (first_token (node k.Texts parts) behind)) (text_or_whole s globals ty path (moved_trees (elsewhere h) parts) token)) (sym (first_moves h (node k.Texts parts) behind))
      (text_or_whole_follows ty path parts (first_token (node k.Texts parts) behind))

  part_then :
      (w : List Initial → List Initial) (found : Option PlainType) (tree : PlainTree) (behind : PlainToken) (m n : PlainType → Checked (List Initial)) → ((element : PlainType) → Follows told h w (m element) (n element))
      → Follows told h w (part_or_excess s globals found tree (first_token tree behind) >>= m) (part_or_excess s globals found (moved_tree (elsewhere h) tree) (first_token (moved_tree (elsewhere h) tree) (elsewhere h behind)) >>= n)
  part_then w found tree behind m n next =
      same_follows told h w (part_or_excess s globals found tree (first_token tree behind)) (part_or_excess s globals found (moved_tree (elsewhere h) tree) (first_token (moved_tree (elsewhere h) tree) (elsewhere h behind))) m n
      (part_follows found tree (first_token tree behind) (first_token (moved_tree (elsewhere h) tree) (elsewhere h behind)) (first_moves h tree behind)) next

  one_entry : (tree : PlainTree) → InitialFollows tree → EntriesFollow (more tree none)
  one_entry tree i ty path n behind =
      part_then (moved_initials h) (part_for s.structs ty n) tree behind _ _ (λ element. i element (path_for ty path n) behind)

  more_entries : (tree comma : PlainTree) (rest : PlainTrees) → InitialFollows tree → EntriesFollow rest → EntriesFollow (more tree (more comma rest))
  more_entries tree comma rest i j ty path n behind =
      part_then (moved_initials h) (part_for s.structs ty n) tree behind _ _
      (λ element. then_follows told h (moved_initials h) (moved_initials h) (initial s globals element (path_for ty path n) tree behind) (initial s globals element (path_for ty path n) (moved_tree (elsewhere h) tree) (elsewhere h behind)) _ _ (i element (path_for ty path n) behind)
      (λ first. then_follows told h (moved_initials h) (moved_initials h) (initial_entries s globals ty path (n + 1) rest behind) (initial_entries s globals ty path (n + 1) (moved_trees (elsewhere h) rest) (elsewhere h behind)) _ _ (j ty path (n + 1) behind)
      (λ others. give_follows told h (moved_initials h) (first ++ others) _ (sym (map-append (moved_initial h) first others)))))

  mutual
    pub initial_follows : (tree : PlainTree) → InitialFollows tree
    initial_follows (node k.Braces (more brace (more (node kind entries) (more last none)))) ty path behind = entries_follow entries ty path 0 behind
    initial_follows (node k.Texts parts) ty path behind = text_at ty path parts behind
    initial_follows tree ty path behind = whole_at ty path tree behind

    entries_follow : (entries : PlainTrees) → EntriesFollow entries
    entries_follow none ty path n behind = give_follows told h (moved_initials h) _ _ refl
    entries_follow (more tree none) ty path n behind = one_entry tree (initial_follows tree) ty path n behind
    entries_follow (more tree (more comma rest)) ty path n behind = more_entries tree comma rest (initial_follows tree) (entries_follow rest) ty path n behind
