-- The parts of a node are walked through one after the other.
use Rattle.std.proofs.Common.{◌≡◌, ℕ, suc, ◌+◌, ◌<◌, ◌≤◌, drop, length, get_or, add-one, drop-cons, Bool, true, false, ◌||◌, List, ◌∷◌, ◌++◌, Option, Some, None, IsTrue, refl, sym, ap, subst, ◌∙◌, append_assoc}
use Rattle.std.specs.Prelude.{if◌then◌else◌}
use Rattle.std.proofs.Math.Bool.{or-false}
use Rattle.std.proofs.lemmas.List.{drop_all}
use Rattle.c_text.specs.Token.{PlainToken}
use Rattle.c_tree.specs.declared.kinds.Kind.{Kind}
use Rattle.c_tree.specs.declared.kinds.Kind.TheVariants as k
use Rattle.c_tree.specs.Trees.{PlainTree, PlainTrees, leaf, node, more}
use Rattle.choice_trees.specs.declared.trees.Choice.{Choice}
use Rattle.choice_trees.specs.declared.trees.Item.{Item}
use Rattle.choice_trees.specs.ChoiceTrees.{PlainChoices, plain_branches, plain_choices, needs_statement, no_statement, with_part, branch_at, parts_at}
use Rattle.choice_trees.specs.Leaves.{Leaf, branch_leaves, parts_leaves}
use Rattle.bindings.specs.Visible.{NameSpace}
use Rattle.bindings.specs.Bindings.{is_name}
use Rattle.scope_readings.specs.Walks.{role, turns, declaration_in}
use Rattle.name_spaces.specs.Spaces.{space_by, defined_tag, struct_in, spaces_in_node, spaces_in_parts}
use Rattle.cond_name_spaces.specs.Spaced.{InSpace, names_among, spaced}
use Rattle.cond_name_spaces.specs.Progress.{defines_struct, Logs, turns_at, turns_if_any, spaces_of_part, spaces_if_any, followed_by}

module _ (around : Kind) (tag : List ℕ) (kind : Kind) where
  abbrev spaces_on : Bool → PlainTrees → List (Option NameSpace) → List (Option NameSpace)
  spaces_on turned trees told = followed_by (spaces_in_parts around tag kind turned trees) told

  by_token : (token : PlainToken) (turned n : Bool) (trees : PlainTrees) (told : List (Option NameSpace))
      → (if n then space_by around tag (role kind turned) ∷ spaces_on (turned || (if n then false else turns kind token)) trees told else spaces_on (turned || (if n then false else turns kind token)) trees told)
      ≡ followed_by (if n then space_by around tag (role kind turned) ∷ spaces_in_parts around tag kind turned trees else spaces_in_parts around tag kind (turned || turns kind token) trees) told
  by_token token turned true trees told = ap (λ t. space_by around tag (role kind turned) ∷ spaces_on t trees told) (or-false turned)
  by_token token turned false trees told = refl

  -- a part and what stands behind it
  one_part_told : (turned : Bool) (tree : PlainTree) (trees : PlainTrees) (told : List (Option NameSpace))
      → spaces_of_part around tag kind turned tree (spaces_on (turned || turns_at kind tree) trees told) ≡ spaces_on turned (more tree trees) told
  one_part_told turned (leaf token) trees told = by_token token turned (is_name token) trees told
  one_part_told turned (node inner parts) trees told =
      ap (λ t. spaces_in_node around tag inner parts ++ spaces_on t trees told) (or-false turned)
      ∙ sym (append_assoc (spaces_in_node around tag inner parts) (spaces_in_parts around tag kind turned trees) told)

  part_told : (needed turned behind : Bool) (part : Option PlainTree) (trees : PlainTrees) (told : List (Option NameSpace)) → behind ≡ (turned || turns_if_any kind part)
      → spaces_if_any around tag kind turned part (spaces_on behind trees told) ≡ spaces_on turned (with_part needed part trees) told
  part_told true turned behind (Some tree) trees told is = ap (λ b. spaces_of_part around tag kind turned tree (spaces_on b trees told)) is ∙ one_part_told turned tree trees told
  part_told false turned behind (Some tree) trees told is = ap (λ b. spaces_of_part around tag kind turned tree (spaces_on b trees told)) is ∙ one_part_told turned tree trees told
  part_told true turned behind None trees told is = ap (λ b. spaces_on b trees told) is ∙ one_part_told turned no_statement trees told
  part_told false turned behind None trees told is = ap (λ b. spaces_on b trees told) (is ∙ or-false turned)

  module _ (on : ℕ → Bool) (parts : List (Choice Item)) (path : Bool) (old : List InSpace) where
    -- what is noted of the parts from one place on, behind what has been noted
    abbrev outcome : ℕ → PlainChoices → Bool → List InSpace → List Leaf → List (Option NameSpace) → List InSpace
    outcome place rest turned now leaves told = now ++ spaced (names_among (parts_leaves on kind place rest leaves)) (spaces_on turned (parts_at on kind place rest) told)

    pub record PartsSoFar (place : ℕ) (turned : Bool) (now : List InSpace) : Type 0 where
      pub off : path ≡ false → now ≡ old
      pub read : IsTrue path → (leaves : List Leaf) (told : List (Option NameSpace))
          → outcome place (plain_choices (drop place parts)) turned now leaves told ≡ outcome 0 (plain_choices parts) false old leaves told

    pub parts_start : (turned : Bool) → turned ≡ false → PartsSoFar 0 turned old
    parts_start turned is = record { off = λ h. refl; read = λ h leaves told. ap (λ t. outcome 0 (plain_choices parts) t old leaves told) is }

    one_part : (place : ℕ) (part : Choice Item) (turned behind : Bool) (now new : List InSpace) → drop place parts ≡ part ∷ drop (suc place) parts
        → behind ≡ (turned || turns_if_any kind (branch_at on (plain_branches part.branches.items)))
        → Logs path (branch_leaves on (needs_statement kind place) (plain_branches part.branches.items)) (spaces_if_any around tag kind turned (branch_at on (plain_branches part.branches.items))) now new
        → PartsSoFar place turned now → PartsSoFar (suc place) behind new
    one_part place part turned behind now new opened is logs so_far = record {
      off = λ h. logs.elsewhere h ∙ so_far.off h;
      read = λ h leaves told.
          let rest : PlainChoices = plain_choices (drop (suc place) parts) in
          let chosen : Option PlainTree = branch_at on (plain_branches part.branches.items) in
          logs.here h (parts_leaves on kind (suc place) rest leaves) (spaces_on behind (parts_at on kind (suc place) rest) told)
          ∙ (ap (λ l. now ++ spaced (names_among (branch_leaves on (needs_statement kind place) (plain_branches part.branches.items) (parts_leaves on kind (suc place) rest leaves))) l)
          (part_told (needs_statement kind place) turned behind chosen (parts_at on kind (suc place) rest) told is)
          ∙ (ap (λ list. outcome place (plain_choices list) turned now leaves told) (sym opened)
          ∙ so_far.read h leaves told));
    }

    pub parts_next : (place : ℕ) (part : Choice Item) (turned behind : Bool) (now new : List InSpace) → place < length parts → part ≡ get_or parts place part
        → behind ≡ (turned || turns_if_any kind (branch_at on (plain_branches part.branches.items)))
        → ((needed : Bool) → Logs path (branch_leaves on needed (plain_branches part.branches.items)) (spaces_if_any around tag kind turned (branch_at on (plain_branches part.branches.items))) now new)
        → PartsSoFar place turned now → PartsSoFar (place + 1) behind new
    parts_next place part turned behind now new within same is logs so_far =
        let further : PartsSoFar (suc place) behind new =
        one_part place part turned behind now new (drop-cons parts place part within ∙ ap (λ (x : Choice Item). x ∷ drop (suc place) parts) (sym same)) is (logs (needs_statement kind place)) so_far in
        rw add-one further

    pub parts_end : (place : ℕ) (turned : Bool) (now : List InSpace) → length parts ≤ place → PartsSoFar place turned now
        → Logs path (parts_leaves on kind 0 (plain_choices parts)) (spaces_on false (parts_at on kind 0 (plain_choices parts))) old now
    parts_end place turned now past so_far = record {
      here = λ h leaves told. ap (λ list. outcome place (plain_choices list) turned now leaves told) (sym (drop_all place parts past)) ∙ so_far.read h leaves told;
      elsewhere = so_far.off;
    }

-- ---- the struct around the parts of a node

abbrev DefinesAs : Kind → Bool → Type 0
DefinesAs kind true = kind ≡ k.StructDefinition
DefinesAs kind false = (tag : List ℕ) (trees : PlainTrees) → struct_in tag kind trees ≡ tag

defines_as : (kind : Kind) → DefinesAs kind (defines_struct kind)
defines_as k.StructDefinition = refl
defines_as kind = λ tag trees. refl

pub in_definition :
    (on : ℕ → Bool) (tag : List ℕ) (kind : Kind) (parts : PlainChoices) → defines_struct kind ≡ true
    → struct_in tag kind (parts_at on kind 0 parts) ≡ defined_tag (parts_at on k.StructDefinition 0 parts)
in_definition on tag kind parts is = ap (λ other. struct_in tag other (parts_at on other 0 parts)) (subst (DefinesAs kind) is (defines_as kind))

pub in_another : (tag : List ℕ) (kind : Kind) (trees : PlainTrees) → defines_struct kind ≡ false → struct_in tag kind trees ≡ tag
in_another tag kind trees is = subst (DefinesAs kind) is (defines_as kind) tag trees

-- what is noted of the parts is noted of the node, by the declaration and the struct in which they stand
pub in_node :
    (around inner kind : Kind) (tag struct : List ℕ) (trees : PlainTrees) (b : Bool) (leaves : List Leaf → List Leaf) (old new : List InSpace) → inner ≡ declaration_in around kind → struct_in tag kind trees ≡ struct
    → Logs b leaves (followed_by (spaces_in_parts inner struct kind false trees)) old new → Logs b leaves (followed_by (spaces_in_node around tag kind trees)) old new
in_node around inner kind tag struct trees b leaves old new inner_is struct_is logs =
    subst (λ d. Logs b leaves (followed_by (spaces_in_parts d (struct_in tag kind trees) kind false trees)) old new) inner_is
    (subst (λ s. Logs b leaves (followed_by (spaces_in_parts inner s kind false trees)) old new) (sym struct_is) logs)
