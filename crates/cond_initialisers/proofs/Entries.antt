-- The entries of a list, part by part.
use Rattle.std.proofs.Common.{◌≡◌, ℕ, suc, ◌+◌, ◌<◌, ◌≤◌, Bool, true, false, not, List, [], ◌∷◌, ◌++◌, length, get_or, drop, append_assoc, append-nil, refl, sym, ap, ◌∙◌}
use Rattle.std.specs.Prelude.{◌&&◌, Option, Some, None, if◌then◌else◌}
use Rattle.std.proofs.lemmas.List.{drop_all, map-append}
use Rattle.cond_formula.specs.declared.formulas.Formula.{Formula}
use Rattle.cond_formula.specs.Conditions.{condition_of, value}
use Rattle.conditional.specs.Entries.{under}
use Rattle.conditional.proofs.ListLaws.{item_of}
use Rattle.c_types.specs.declared.types.CType.{CType}
use Rattle.c_types.specs.Types.{PlainType, plain_type}
use Rattle.c_tree.specs.declared.kinds.Kind.{Kind}
use Rattle.c_tree.specs.declared.kinds.Kind.TheVariants as k
use Rattle.c_tree.specs.Trees.{PlainTree, PlainTrees, leaf, node, none}
use Rattle.choice_trees.specs.declared.trees.Choice.{Choice}
use Rattle.choice_trees.specs.declared.trees.Item.{Item}
use Rattle.choice_trees.specs.ChoiceTrees.{PlainChoices, no_choice, choice, plain_item, plain_branches, plain_choices, with_part, item_at, parts_at, branch_at}
use Rattle.expression_types.specs.Reading.{is_operand}
use Rattle.cond_initialisers.specs.declared.shapes.Shape.{Shape}
use Rattle.cond_initialisers.specs.declared.shapes.Shape.TheVariants.{Braces, List as AList, Texts, Expression}
use Rattle.cond_initialisers.specs.Shapes.{shape_of}
use Rattle.cond_initialisers.specs.Refusals.{RefusedFor, Asked, is_entry, alone, refuses, entries_in, one_entry}
use Rattle.cond_initialisers.specs.Rows.{plain_types, asked_for, asked_each}

-- ---- shapes

abbrev pub HasShape : Kind → Shape → Type 0
HasShape kind Braces = kind ≡ k.Braces
HasShape kind AList = kind ≡ k.Initialisers
HasShape kind Texts = kind ≡ k.Texts
HasShape kind Expression = (asked : Asked) (members : ℕ → List PlainType) (parts : PlainTrees) (ty : PlainType) → refuses asked members (node kind parts) ty ≡ alone asked (node kind parts) ty

pub has_shape : (kind : Kind) → HasShape kind (shape_of kind)
has_shape k.Braces = refl
has_shape k.Initialisers = refl
has_shape k.Texts = refl
has_shape kind = λ asked members parts ty. refl

-- ---- places

pub same_places : (on : ℕ → Bool) (m n : ℕ) (parts : PlainChoices) → parts_at on k.Braces m parts ≡ parts_at on k.Initialisers n parts
same_places on m n no_choice = refl
same_places on m n (choice alternatives rest) = ap (with_part false (branch_at on alternatives)) (same_places on (suc m) (suc n) rest)

next_places : (on : ℕ → Bool) (m n : ℕ) (parts : PlainChoices) → parts_at on k.Initialisers m parts ≡ parts_at on k.Initialisers n parts
next_places on m n no_choice = refl
next_places on m n (choice alternatives rest) = ap (with_part false (branch_at on alternatives)) (next_places on (suc m) (suc n) rest)

module _ (asked : Asked) (members : ℕ → List PlainType) where
  -- ---- entries

  leaf_apart : (b : Bool) (entry : RefusedFor) (rest : List RefusedFor) → (if b then entry ∷ rest else rest) ≡ (if b then entry ∷ [] else []) ++ rest
  leaf_apart true entry rest = refl
  leaf_apart false entry rest = refl

  pub part_apart : (o : Option PlainTree) (rest : PlainTrees) → entries_in asked members (with_part false o rest) ≡ entries_in asked members (with_part false o none) ++ entries_in asked members rest
  part_apart None rest = refl
  part_apart (Some (leaf token)) rest = leaf_apart (is_operand token) (alone asked (leaf token)) (entries_in asked members rest)
  part_apart (Some (node kind parts)) rest = refl

  pub one_part : (tree : PlainTree) → entries_in asked members (with_part false (Some tree) none) ≡ one_entry asked members tree
  one_part (leaf token) = refl
  one_part (node kind parts) = refl

  pub no_entry : (tree : PlainTree) → is_entry tree ≡ false → one_entry asked members tree ≡ []
  no_entry tree e = ap (λ b. if b then refuses asked members tree ∷ [] else []) e

  pub an_entry : (tree : PlainTree) → is_entry tree ≡ true → one_entry asked members tree ≡ refuses asked members tree ∷ []
  an_entry tree e = ap (λ b. if b then refuses asked members tree ∷ [] else []) e

  -- ---- parts, one after the other

  module _ (ts : List PlainType) (on : ℕ → Bool) where
    abbrev pub entries_from : List (Choice Item) → List (List Bool)
    entries_from parts = asked_each ts (entries_in asked members (parts_at on k.Initialisers 0 (plain_choices parts)))

    abbrev pub entries_for_part : Option PlainTree → List (List Bool)
    entries_for_part o = asked_each ts (entries_in asked members (with_part false o none))

    first_part : (x : Choice Item) (rest : List (Choice Item)) → entries_from (x ∷ rest) ≡ entries_for_part (branch_at on (plain_branches x.branches.items)) ++ entries_from rest
    first_part x rest =
        ap (λ ps. asked_each ts (entries_in asked members (with_part false (branch_at on (plain_branches x.branches.items)) ps))) (next_places on 1 0 (plain_choices rest))
        ∙ (ap (asked_each ts) (part_apart (branch_at on (plain_branches x.branches.items)) (parts_at on k.Initialisers 0 (plain_choices rest)))
        ∙ map-append (asked_for ts) (entries_in asked members (with_part false (branch_at on (plain_branches x.branches.items)) none)) (entries_in asked members (parts_at on k.Initialisers 0 (plain_choices rest))))

    pub next_part : (list : List (Choice Item)) (x : Choice Item) (i : ℕ) (old new : List (List Bool)) → i < length list → x ≡ get_or list i x
        → new ≡ old ++ entries_for_part (branch_at on (plain_branches x.branches.items)) → old ++ entries_from (drop i list) ≡ entries_from list → new ++ entries_from (drop (i + 1) list) ≡ entries_from list
    next_part list x i old new within is pushed before =
        ap (λ l. l ++ entries_from (drop (i + 1) list)) pushed
        ∙ (append_assoc old (entries_for_part (branch_at on (plain_branches x.branches.items))) (entries_from (drop (i + 1) list))
        ∙ (ap (λ l. old ++ l) (sym (ap entries_from (item_of list x i within is) ∙ first_part x (drop (i + 1) list))) ∙ before))

    pub all_parts : (list : List (Choice Item)) (i : ℕ) (all : List (List Bool)) → length list ≤ i → all ++ entries_from (drop i list) ≡ entries_from list → all ≡ entries_from list
    all_parts list i all past before = sym (append-nil all) ∙ (ap (λ l. all ++ entries_from l) (sym (drop_all i list past)) ∙ before)

    -- ---- the alternatives for a part

    -- what has been pushed, and what a later alternative would be
    pub record PartSoFar (list : List (Formula × Item)) (i : ℕ) (left : Bool) (before now : List (List Bool)) : Type 0 where
      pub pushed : List (List Bool)
      pub now_is : now ≡ before ++ pushed
      pub same : pushed ++ under left (entries_for_part (branch_at on (plain_branches (drop i list)))) ≡ entries_for_part (branch_at on (plain_branches list))

    pub part_start : (list : List (Formula × Item)) (left : Bool) (before : List (List Bool)) → left ≡ true → PartSoFar list 0 left before before
    part_start list left before e = record {
      pushed = [];
      now_is = sym (append-nil before);
      same = ap (λ b. under b (entries_for_part (branch_at on (plain_branches list)))) e;
    }

    taken : (t w here after : Bool) (item : PlainTree) (rest : Option PlainTree) (pushed : List (List Bool)) → here ≡ (t && w) → after ≡ (t && not w)
        → (pushed ++ under here (asked_each ts (one_entry asked members item))) ++ under after (entries_for_part rest) ≡ pushed ++ under t (entries_for_part (if w then Some item else rest))
    taken true true here after item rest pushed h a =
        ap (λ b. (pushed ++ under b (asked_each ts (one_entry asked members item))) ++ under after (entries_for_part rest)) h
        ∙ (ap (λ b. (pushed ++ asked_each ts (one_entry asked members item)) ++ under b (entries_for_part rest)) a
        ∙ (append-nil (pushed ++ asked_each ts (one_entry asked members item)) ∙ ap (λ es. pushed ++ asked_each ts es) (sym (one_part item))))
    taken true false here after item rest pushed h a =
        ap (λ b. (pushed ++ under b (asked_each ts (one_entry asked members item))) ++ under after (entries_for_part rest)) h
        ∙ (ap (λ b. (pushed ++ []) ++ under b (entries_for_part rest)) a
        ∙ ap (λ l. l ++ entries_for_part rest) (append-nil pushed))
    taken false w here after item rest pushed h a =
        ap (λ b. (pushed ++ under b (asked_each ts (one_entry asked members item))) ++ under after (entries_for_part rest)) h
        ∙ (ap (λ b. (pushed ++ []) ++ under b (entries_for_part rest)) a
        ∙ append-nil (pushed ++ []))

    pub part_step : (list : List (Formula × Item)) (x : Formula × Item) (i : ℕ) (t here after : Bool) (before old new : List (List Bool)) → i < length list → x ≡ get_or list i x
        → here ≡ (t && value on (condition_of x.0)) → after ≡ (t && not (value on (condition_of x.0)))
        → new ≡ old ++ under here (asked_each ts (one_entry asked members (item_at on (plain_item x.1)))) → PartSoFar list i t before old → PartSoFar list (i + 1) after before new
    part_step list x i t here after before old new within is h a pushed so_far = record {
      pushed = so_far.pushed ++ under here (asked_each ts (one_entry asked members (item_at on (plain_item x.1))));
      now_is = pushed ∙ (ap (λ l. l ++ under here (asked_each ts (one_entry asked members (item_at on (plain_item x.1))))) so_far.now_is
          ∙ append_assoc before so_far.pushed (under here (asked_each ts (one_entry asked members (item_at on (plain_item x.1))))));
      same = taken t (value on (condition_of x.0)) here after (item_at on (plain_item x.1)) (branch_at on (plain_branches (drop (i + 1) list))) so_far.pushed h a
          ∙ (ap (λ l. so_far.pushed ++ under t (entries_for_part (branch_at on (plain_branches l)))) (sym (item_of list x i within is)) ∙ so_far.same);
    }

    nothing_more : (b : Bool) (l : List (List Bool)) → l ++ under b (entries_for_part None) ≡ l
    nothing_more true l = append-nil l
    nothing_more false l = append-nil l

    pub part_end : (list : List (Formula × Item)) (i : ℕ) (left : Bool) (before now : List (List Bool)) → length list ≤ i → PartSoFar list i left before now
        → now ≡ before ++ entries_for_part (branch_at on (plain_branches list))
    part_end list i left before now past so_far =
        so_far.now_is ∙ ap (λ l. before ++ l)
        (sym (nothing_more left so_far.pushed) ∙ (ap (λ l. so_far.pushed ++ under left (entries_for_part (branch_at on (plain_branches l)))) (sym (drop_all i list past)) ∙ so_far.same))

-- ---- types, one after the other

pub next_type : (entry : RefusedFor) (types : List CType) (ty : CType) (i : ℕ) (old new : List Bool) (b : Bool) → i < length types → ty ≡ get_or types i ty → b ≡ entry (plain_type ty)
    → new ≡ old ++ b ∷ [] → old ++ asked_for (plain_types (drop i types)) entry ≡ asked_for (plain_types types) entry
    → new ++ asked_for (plain_types (drop (i + 1) types)) entry ≡ asked_for (plain_types types) entry
next_type entry types ty i old new b within is e pushed before =
    ap (λ l. l ++ asked_for (plain_types (drop (i + 1) types)) entry) pushed
    ∙ (append_assoc old (b ∷ []) (asked_for (plain_types (drop (i + 1) types)) entry)
    ∙ (ap (λ c. old ++ c ∷ asked_for (plain_types (drop (i + 1) types)) entry) e
    ∙ (ap (λ l. old ++ asked_for (plain_types l) entry) (sym (item_of types ty i within is)) ∙ before)))

pub all_types : (entry : RefusedFor) (types : List CType) (i : ℕ) (all : List Bool) → length types ≤ i → all ++ asked_for (plain_types (drop i types)) entry ≡ asked_for (plain_types types) entry
    → all ≡ asked_for (plain_types types) entry
all_types entry types i all past before = sym (append-nil all) ∙ (ap (λ l. all ++ asked_for (plain_types l) entry) (sym (drop_all i types past)) ∙ before)

pub nothing_under : {P : Type 0} (b : Bool) (l more_ : List P) → more_ ≡ [] → l ≡ l ++ under b more_
nothing_under true l more_ e = sym (ap (λ m. l ++ m) e ∙ append-nil l)
nothing_under false l more_ e = sym (append-nil l)
