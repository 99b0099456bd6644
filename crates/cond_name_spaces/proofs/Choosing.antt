-- Of the alternatives for a part the first that holds is walked through.
use Rattle.std.proofs.Common.{◌≡◌, ℕ, ◌+◌, ◌<◌, ◌≤◌, drop, length, get_or, Bool, true, false, not, ◌&&◌, ◌||◌, List, ◌++◌, Option, Some, IsTrue, refl, sym, ap, ap₂, subst, ◌∙◌}
use Rattle.std.specs.Prelude.{if◌then◌else◌}
use Rattle.std.proofs.Math.Bool.{or-false}
use Rattle.std.proofs.lemmas.List.{drop_all}
use Rattle.conditional.proofs.ListLaws.{item_of}
use Rattle.cond_formula.specs.Conditions.{Condition, condition_of, value}
use Rattle.cond_formula.specs.declared.formulas.Formula.{Formula}
use Rattle.c_tree.specs.declared.kinds.Kind.{Kind}
use Rattle.choice_trees.specs.declared.trees.Item.{Item}
use Rattle.choice_trees.specs.ChoiceTrees.{PlainItem, PlainBranches, no_branch, branch, plain_item, plain_branches, item_at, branch_at}
use Rattle.choice_trees.specs.Leaves.{Leaf, item_leaves, branch_leaves}
use Rattle.bindings.specs.Visible.{NameSpace}
use Rattle.cond_name_spaces.specs.Spaced.{InSpace, names_among, spaced}
use Rattle.cond_name_spaces.specs.Progress.{Logs, turns_at, turns_if_any, spaces_of_part, spaces_if_any}

and_false : (b : Bool) → (b && false) ≡ false
and_false true = refl
and_false false = refl

and_true : (b : Bool) → IsTrue b → IsTrue (b && true)
and_true true h = refl
and_true false h = h

without_true : (b : Bool) → b ≡ false → (b && true) ≡ false
without_true b h = ap (λ x. x && true) h

opened : (list : List (Formula × Item)) (place : ℕ) (b : Formula × Item) → place < length list → b ≡ get_or list place b
    → plain_branches (drop place list) ≡ branch (condition_of b.0) (plain_item b.1) (plain_branches (drop (place + 1) list))
opened list place b within is = ap plain_branches (item_of list b place within is)

module _ (on : ℕ → Bool) (kind : Kind) (all : PlainBranches) where
  taken : (when : Condition) (item : PlainItem) (rest : PlainBranches) (w : Bool) → value on when ≡ w → branch_at on (branch when item rest) ≡ (if w then Some (item_at on item) else branch_at on rest)
  taken when item rest w is = ap (λ b. if b then Some (item_at on item) else branch_at on rest) is

  taken_leaves : (when : Condition) (item : PlainItem) (rest : PlainBranches) (needed w : Bool) → value on when ≡ w → (leaves : List Leaf)
      → branch_leaves on needed (branch when item rest) leaves ≡ (if w then item_leaves on item leaves else branch_leaves on needed rest leaves)
  taken_leaves when item rest true w is leaves = ap (λ b. if b then item_leaves on item leaves else branch_leaves on true rest leaves) is
  taken_leaves when item rest false w is leaves = ap (λ b. if b then item_leaves on item leaves else branch_leaves on false rest leaves) is

  -- ---- where names are other things

  -- none of the alternatives before these holds (`left`), or the first that does counted
  pub record TurnsSoFar (turned : Bool) (left : Bool) (rest : PlainBranches) (behind : Bool) : Type 0 where
    pub unturned : IsTrue left → behind ≡ turned
    pub same : IsTrue left → branch_at on rest ≡ branch_at on all
    pub counted : left ≡ false → behind ≡ (turned || turns_if_any kind (branch_at on all))

  module _ (turned : Bool) where
    pub turns_start : TurnsSoFar turned true all turned
    turns_start = record { unturned = λ h. refl; same = λ h. refl; counted = λ h. absurd cc }

    turns_on : (when : Condition) (item : PlainItem) (rest : PlainBranches) (left w : Bool) (behind new : Bool) → value on when ≡ w → new ≡ (behind || ((left && w) && turns_at kind (item_at on item)))
        → TurnsSoFar turned left (branch when item rest) behind → TurnsSoFar turned (left && not w) rest new
    turns_on when item rest true true behind new is next so_far = record {
      unturned = λ h. absurd cc;
      same = λ h. absurd cc;
      counted = λ h. next ∙ ap₂ (λ b o. b || turns_if_any kind o) (so_far.unturned refl) (sym (taken when item rest true is) ∙ so_far.same refl);
    }
    turns_on when item rest true false behind new is next so_far = record {
      unturned = λ h. next ∙ (or-false behind ∙ so_far.unturned refl);
      same = λ h. sym (taken when item rest false is) ∙ so_far.same refl;
      counted = λ h. absurd cc;
    }
    turns_on when item rest false w behind new is next so_far = record {
      unturned = λ h. absurd cc;
      same = λ h. absurd cc;
      counted = λ h. next ∙ (or-false behind ∙ so_far.counted refl);
    }

    pub turns_next : (list : List (Formula × Item)) (place : ℕ) (b : Formula × Item) (left here later behind new : Bool) → place < length list → b ≡ get_or list place b
        → here ≡ (left && value on (condition_of b.0)) → new ≡ (behind || (here && turns_at kind (item_at on (plain_item b.1)))) → later ≡ (left && not (value on (condition_of b.0)))
        → TurnsSoFar turned left (plain_branches (drop place list)) behind → TurnsSoFar turned later (plain_branches (drop (place + 1) list)) new
    turns_next list place b left here later behind new within is here_is new_is later_is so_far =
        subst (λ l. TurnsSoFar turned l (plain_branches (drop (place + 1) list)) new) (sym later_is)
        (turns_on (condition_of b.0) (plain_item b.1) (plain_branches (drop (place + 1) list)) left (value on (condition_of b.0)) behind new refl
        (new_is ∙ ap (λ h. behind || (h && turns_at kind (item_at on (plain_item b.1)))) here_is)
        (subst (λ rest. TurnsSoFar turned left rest behind) (opened list place b within is) so_far))

    turns_ended : (left behind : Bool) → TurnsSoFar turned left no_branch behind → behind ≡ (turned || turns_if_any kind (branch_at on all))
    turns_ended true behind so_far = so_far.unturned refl ∙ (sym (or-false turned) ∙ ap (λ o. turned || turns_if_any kind o) (so_far.same refl))
    turns_ended false behind so_far = so_far.counted refl

    pub turns_end : (list : List (Formula × Item)) (place : ℕ) (left behind : Bool) → length list ≤ place → TurnsSoFar turned left (plain_branches (drop place list)) behind
        → behind ≡ (turned || turns_if_any kind (branch_at on all))
    turns_end list place left behind past so_far = turns_ended left behind (subst (λ rest. TurnsSoFar turned left (plain_branches rest) behind) (drop_all place list past) so_far)

  -- ---- what is noted

  module _ (around : Kind) (tag : List ℕ) (turned path : Bool) (old : List InSpace) where
    pub record LogsSoFar (left : Bool) (rest : PlainBranches) (now : List InSpace) : Type 0 where
      pub off : path ≡ false → now ≡ old
      pub unread : IsTrue left → now ≡ old
      pub same : IsTrue left → branch_at on rest ≡ branch_at on all
      pub same_leaves : IsTrue left → (needed : Bool) (leaves : List Leaf) → branch_leaves on needed rest leaves ≡ branch_leaves on needed all leaves
      pub read : left ≡ false → IsTrue path → (needed : Bool) (leaves : List Leaf) (told : List (Option NameSpace))
          → now ++ spaced (names_among leaves) told ≡ old ++ spaced (names_among (branch_leaves on needed all leaves)) (spaces_if_any around tag kind turned (branch_at on all) told)

    pub logs_start : LogsSoFar true all old
    logs_start = record { off = λ h. refl; unread = λ h. refl; same = λ h. refl; same_leaves = λ h needed leaves. refl; read = λ h. absurd cc }

    logs_on : (when : Condition) (item : PlainItem) (rest : PlainBranches) (left w : Bool) (now new : List InSpace) → value on when ≡ w
        → Logs (path && (left && w)) (item_leaves on item) (spaces_of_part around tag kind turned (item_at on item)) now new
        → LogsSoFar left (branch when item rest) now → LogsSoFar (left && not w) rest new
    logs_on when item rest true true now new is logs so_far = record {
      off = λ h. logs.elsewhere (without_true path h) ∙ so_far.off h;
      unread = λ h. absurd cc;
      same = λ h. absurd cc;
      same_leaves = λ h. absurd cc;
      read = λ h on_path needed leaves told.
          logs.here (and_true path on_path) leaves told
          ∙ (ap (λ l. l ++ spaced (names_among (item_leaves on item leaves)) (spaces_of_part around tag kind turned (item_at on item) told)) (so_far.unread refl)
          ∙ ap₂ (λ l o. old ++ spaced (names_among l) (spaces_if_any around tag kind turned o told)) (sym (taken_leaves when item rest needed true is leaves) ∙ so_far.same_leaves refl needed leaves)
          (sym (taken when item rest true is) ∙ so_far.same refl));
    }
    logs_on when item rest true false now new is logs so_far =
        let still = logs.elsewhere (and_false path) in
        record {
          off = λ h. still ∙ so_far.off h;
          unread = λ h. still ∙ so_far.unread refl;
          same = λ h. sym (taken when item rest false is) ∙ so_far.same refl;
          same_leaves = λ h needed leaves. sym (taken_leaves when item rest needed false is leaves) ∙ so_far.same_leaves refl needed leaves;
          read = λ h. absurd cc;
        }
    logs_on when item rest false w now new is logs so_far =
        let still = logs.elsewhere (and_false path) in
        record {
          off = λ h. still ∙ so_far.off h;
          unread = λ h. absurd cc;
          same = λ h. absurd cc;
          same_leaves = λ h. absurd cc;
          read = λ h on_path needed leaves told. ap (λ l. l ++ spaced (names_among leaves) told) still ∙ so_far.read refl on_path needed leaves told;
        }

    pub logs_next : (list : List (Formula × Item)) (place : ℕ) (b : Formula × Item) (left here later : Bool) (now new : List InSpace) → place < length list → b ≡ get_or list place b
        → here ≡ (path && (left && value on (condition_of b.0))) → later ≡ (left && not (value on (condition_of b.0)))
        → Logs here (item_leaves on (plain_item b.1)) (spaces_of_part around tag kind turned (item_at on (plain_item b.1))) now new
        → LogsSoFar left (plain_branches (drop place list)) now → LogsSoFar later (plain_branches (drop (place + 1) list)) new
    logs_next list place b left here later now new within is here_is later_is logs so_far =
        subst (λ l. LogsSoFar l (plain_branches (drop (place + 1) list)) new) (sym later_is)
        (logs_on (condition_of b.0) (plain_item b.1) (plain_branches (drop (place + 1) list)) left (value on (condition_of b.0)) now new refl
        (subst (λ h. Logs h (item_leaves on (plain_item b.1)) (spaces_of_part around tag kind turned (item_at on (plain_item b.1))) now new) here_is logs)
        (subst (λ rest. LogsSoFar left rest now) (opened list place b within is) so_far))

    -- where none holds there is a `;` at most, which is no identifier
    no_identifier : (needed : Bool) (leaves : List Leaf) → names_among (branch_leaves on needed no_branch leaves) ≡ names_among leaves
    no_identifier true leaves = refl
    no_identifier false leaves = refl

    logs_ended : (needed left : Bool) (now : List InSpace) → LogsSoFar left no_branch now
        → Logs path (branch_leaves on needed all) (spaces_if_any around tag kind turned (branch_at on all)) old now
    logs_ended needed true now so_far = record {
      here = λ h leaves told.
          ap (λ l. l ++ spaced (names_among leaves) told) (so_far.unread refl)
          ∙ (ap (λ names. old ++ spaced names told) (sym (no_identifier needed leaves))
          ∙ ap₂ (λ l o. old ++ spaced (names_among l) (spaces_if_any around tag kind turned o told)) (so_far.same_leaves refl needed leaves) (so_far.same refl));
      elsewhere = so_far.off;
    }
    logs_ended needed false now so_far = record { here = λ h leaves told. so_far.read refl h needed leaves told; elsewhere = so_far.off }

    pub logs_end : (list : List (Formula × Item)) (place : ℕ) (needed left : Bool) (now : List InSpace) → length list ≤ place → LogsSoFar left (plain_branches (drop place list)) now
        → Logs path (branch_leaves on needed all) (spaces_if_any around tag kind turned (branch_at on all)) old now
    logs_end list place needed left now past so_far = logs_ended needed left now (subst (λ rest. LogsSoFar left (plain_branches rest) now) (drop_all place list past) so_far)
