-- Of the alternatives for a part the first that holds is read.
use Rattle.std.proofs.Common.{◌≡◌, ℕ, suc, ◌+◌, ◌<◌, ◌≤◌, drop, length, get_or, add-one, drop-cons, subst, Bool, true, false, not, ◌&&◌, List, ◌∷◌, Some, None, IsTrue, refl, sym, ap, ap₂, ◌∙◌, if◌then◌else◌}
use Rattle.std.proofs.lemmas.List.{drop_all}
use Rattle.cond_formula.specs.Conditions.{Condition, condition_of, value}
use Rattle.cond_formula.specs.declared.formulas.Formula.{Formula}
use Rattle.choice_trees.specs.declared.trees.Item.{Item}
use Rattle.c_tree.specs.declared.kinds.Kind.{Kind}
use Rattle.choice_trees.specs.ChoiceTrees.{PlainItem, PlainBranches, no_branch, branch, plain_item, plain_branches, item_at, branch_at}
use Rattle.choice_trees.specs.Leaves.{Leaf, item_leaves, branch_leaves}
use Rattle.cond_bindings.specs.Names.{PlainNames}
use Rattle.cond_scopes.specs.declared.parts.Progress.{Progress}
use Rattle.cond_scopes.specs.Progress.{part_read, perhaps_read, numbers, seen_so_far, MovesOn}

module _ (on : ℕ → Bool) (around kind : Kind) (needed : Bool) (all : PlainBranches) (on_path : Bool) (old_names : PlainNames) (old : Progress) where
  -- the same is seen, whatever stands behind
  abbrev pub SeesAlike : PlainNames → Progress → PlainNames → Progress → Type 0
  SeesAlike a p b q = (leaves : List Leaf) → seen_so_far on (numbers leaves) b q ≡ seen_so_far on (numbers leaves) a p

  -- how far the alternatives have come: on the path none before these holds (`left`), or the first that does was read
  pub record ChoiceSoFar (left : Bool) (rest : PlainBranches) (names : PlainNames) (now : Progress) : Type 0 where
    pub narrower : IsTrue left → IsTrue on_path
    pub off : on_path ≡ false → SeesAlike old_names old names now
    pub unread : IsTrue left → SeesAlike old_names old names now
    pub same_branch : IsTrue left → branch_at on rest ≡ branch_at on all
    pub same_leaves : IsTrue left → (behind : List Leaf) → branch_leaves on needed rest behind ≡ branch_leaves on needed all behind
    pub read :
        IsTrue on_path → left ≡ false → (behind : List Leaf)
        → seen_so_far on (numbers behind) names now
        ≡ perhaps_read around kind needed (branch_at on all) (seen_so_far on (numbers (branch_leaves on needed all behind)) old_names old)

  pub start : ChoiceSoFar on_path all old_names old
  start = record {
    narrower = λ h. h;
    off = λ h leaves. refl;
    unread = λ h leaves. refl;
    same_branch = λ h. refl;
    same_leaves = λ h behind. refl;
    read = λ h none behind. absurd (cc (h, none));
  }

  -- another alternative that may hold is read where it is the first that does
  module _
      (when : Condition) (item : PlainItem) (rest : PlainBranches) (names : PlainNames) (now : Progress) (new_names : PlainNames) (new : Progress)
    where
      abbrev pub ReadsHere : Bool → Type 0
      ReadsHere here =
          (behind : List Leaf)
          → MovesOn on here (numbers (item_leaves on item behind)) (part_read around kind (item_at on item)) (numbers behind) names now new_names new

      first_branch : (w : Bool) → value on when ≡ w → (if w then Some (item_at on item) else branch_at on rest) ≡ branch_at on (branch when item rest)
      first_branch w is = ap (λ b. if b then Some (item_at on item) else branch_at on rest) (sym is)

      first_leaves :
          (needed w : Bool) → value on when ≡ w → (behind : List Leaf)
          → (if w then item_leaves on item behind else branch_leaves on needed rest behind) ≡ branch_leaves on needed (branch when item rest) behind
      first_leaves true w is behind = ap (λ b. if b then item_leaves on item behind else branch_leaves on true rest behind) (sym is)
      first_leaves false w is behind = ap (λ b. if b then item_leaves on item behind else branch_leaves on false rest behind) (sym is)

      pub here_read :
          (left w : Bool) → value on when ≡ w → ChoiceSoFar left (branch when item rest) names now → ReadsHere (left && w)
          → ChoiceSoFar (left && not w) rest new_names new
      here_read false w is so_far reads = record {
        narrower = λ h. absurd (cc h);
        off = λ h leaves. reads leaves ∙ so_far.off h leaves;
        unread = λ h. absurd (cc h);
        same_branch = λ h. absurd (cc h);
        same_leaves = λ h. absurd (cc h);
        read = λ h none behind. reads behind ∙ so_far.read h none behind;
      }
      here_read true false is so_far reads = record {
        narrower = so_far.narrower;
        off = λ h leaves. reads leaves ∙ so_far.off h leaves;
        unread = λ h leaves. reads leaves ∙ so_far.unread h leaves;
        same_branch = λ h. first_branch false is ∙ so_far.same_branch h;
        same_leaves = λ h behind. first_leaves needed false is behind ∙ so_far.same_leaves h behind;
        read = λ h none behind. absurd (cc none);
      }
      here_read true true is so_far reads = record {
        narrower = λ h. absurd (cc h);
        off = λ h leaves. absurd (cc (h, so_far.narrower refl));
        unread = λ h. absurd (cc h);
        same_branch = λ h. absurd (cc h);
        same_leaves = λ h. absurd (cc h);
        read = λ h none behind.
            reads behind ∙ (ap (part_read around kind (item_at on item)) (so_far.unread refl (item_leaves on item behind)) ∙
            ap₂ (λ part leaves. perhaps_read around kind needed part (seen_so_far on (numbers leaves) old_names old))
            (first_branch true is ∙ so_far.same_branch refl) (first_leaves needed true is behind ∙ so_far.same_leaves refl behind));
      }

      -- one that can't hold here is passed over
      pub passed_over :
          (left w : Bool) → value on when ≡ w → (left && w) ≡ false → ChoiceSoFar left (branch when item rest) names now → ChoiceSoFar left rest names now
      passed_over false w is never so_far = record {
        narrower = so_far.narrower;
        off = so_far.off;
        unread = so_far.unread;
        same_branch = λ h. absurd (cc h);
        same_leaves = λ h. absurd (cc h);
        read = so_far.read;
      }
      passed_over true false is never so_far = record {
        narrower = so_far.narrower;
        off = so_far.off;
        unread = so_far.unread;
        same_branch = λ h. first_branch false is ∙ so_far.same_branch h;
        same_leaves = λ h behind. first_leaves needed false is behind ∙ so_far.same_leaves h behind;
        read = so_far.read;
      }
      passed_over true true is never so_far = absurd (cc never)

  -- of a list of alternatives the one at a place
  module _ (list : List (Formula × Item)) (place : ℕ) (b : Formula × Item) (names : PlainNames) (now : Progress) where
    drop_here : place < length list → b ≡ get_or list place b → drop place list ≡ b ∷ drop (place + 1) list
    drop_here within is = rw add-one (drop-cons list place b within ∙ ap (λ x. x ∷ drop (suc place) list) (sym is))

    abbrev at_it : Bool → Type 0
    at_it left = ChoiceSoFar left (branch (condition_of b.0) (plain_item b.1) (plain_branches (drop (place + 1) list))) names now

    opened : (left : Bool) → place < length list → b ≡ get_or list place b → ChoiceSoFar left (plain_branches (drop place list)) names now → at_it left
    opened left within is so_far = subst (λ rest. ChoiceSoFar left (plain_branches rest) names now) (drop_here within is) so_far

    pub one_read :
        (left here after : Bool) (new_names : PlainNames) (new : Progress) → place < length list → b ≡ get_or list place b
        → here ≡ (left && value on (condition_of b.0)) → after ≡ (left && not (value on (condition_of b.0)))
        → ChoiceSoFar left (plain_branches (drop place list)) names now
        → ((behind : List Leaf) → MovesOn on here (numbers (item_leaves on (plain_item b.1) behind)) (part_read around kind (item_at on (plain_item b.1))) (numbers behind) names now new_names new)
        → ChoiceSoFar after (plain_branches (drop (place + 1) list)) new_names new
    one_read left here after new_names new within is here_is after_is so_far reads =
        subst (λ a. ChoiceSoFar a (plain_branches (drop (place + 1) list)) new_names new) (sym after_is)
        (here_read (condition_of b.0) (plain_item b.1) (plain_branches (drop (place + 1) list)) names now new_names new left (value on (condition_of b.0)) refl (opened left within is so_far)
        (λ behind. subst (λ h. MovesOn on h (numbers (item_leaves on (plain_item b.1) behind)) (part_read around kind (item_at on (plain_item b.1))) (numbers behind) names now new_names new) here_is (reads behind)))

    pub one_passed :
        (left : Bool) → place < length list → b ≡ get_or list place b → false ≡ (left && value on (condition_of b.0))
        → ChoiceSoFar left (plain_branches (drop place list)) names now → ChoiceSoFar left (plain_branches (drop (place + 1) list)) names now
    one_passed left within is never so_far =
        passed_over (condition_of b.0) (plain_item b.1) (plain_branches (drop (place + 1) list)) names now names now left (value on (condition_of b.0)) refl (sym never) (opened left within is so_far)

  -- at the end the first that holds was read, or none holds
  module _ (left : Bool) (names : PlainNames) (now : Progress) (so_far : ChoiceSoFar left no_branch names now) (behind : List Leaf) where
    none_holds :
        (n : Bool) → SeesAlike old_names old names now
        → seen_so_far on (numbers behind) names now
        ≡ perhaps_read around kind n None (seen_so_far on (numbers (branch_leaves on n no_branch behind)) old_names old)
    none_holds true alike = alike behind
    none_holds false alike = alike behind

    at_end :
        (l : Bool) → left ≡ l → IsTrue on_path
        → seen_so_far on (numbers behind) names now
        ≡ perhaps_read around kind needed (branch_at on all) (seen_so_far on (numbers (branch_leaves on needed all behind)) old_names old)
    at_end false is h = so_far.read h is behind
    at_end true is h =
        none_holds needed (so_far.unread is) ∙
        ap₂ (λ part leaves. perhaps_read around kind needed part (seen_so_far on (numbers leaves) old_names old)) (so_far.same_branch is) (so_far.same_leaves is behind)

    by_path :
        (p : Bool) → on_path ≡ p
        → MovesOn on p (numbers (branch_leaves on needed all behind)) (perhaps_read around kind needed (branch_at on all)) (numbers behind) old_names old names now
    by_path true is = at_end left refl is
    by_path false is = so_far.off is behind

    pub all_read : MovesOn on on_path (numbers (branch_leaves on needed all behind)) (perhaps_read around kind needed (branch_at on all)) (numbers behind) old_names old names now
    all_read = by_path on_path refl

  pub list_read :
      (list : List (Formula × Item)) (place : ℕ) (left : Bool) (names : PlainNames) (now : Progress) → length list ≤ place
      → ChoiceSoFar left (plain_branches (drop place list)) names now → (behind : List Leaf)
      → MovesOn on on_path (numbers (branch_leaves on needed all behind)) (perhaps_read around kind needed (branch_at on all)) (numbers behind) old_names old names now
  list_read list place left names now past so_far behind =
      all_read left names now (subst (λ rest. ChoiceSoFar left (plain_branches rest) names now) (drop_all place list past) so_far) behind
