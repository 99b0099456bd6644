-- The alternatives for a part, and the parts of a node, as far as a walk has come.
use Rattle.std.proofs.Common.{◌≡◌, ℕ, suc, ◌+◌, ◌<◌, ◌≤◌, drop, length, get_or, add-one, drop-cons, Bool, true, false, not, ◌&&◌, List, ◌∷◌, refl, sym, ap, subst, ◌∙◌}
use Rattle.std.specs.Prelude.{if◌then◌else◌, Option, Some, None}
use Rattle.std.proofs.lemmas.Bool.{false≢true}
use Rattle.std.proofs.lemmas.List.{drop_all}
use Rattle.c_tree.specs.declared.kinds.Kind.{Kind}
use Rattle.c_tree.specs.Trees.{PlainTree, none, more}
use Rattle.choice_trees.specs.declared.trees.Choice.{Choice}
use Rattle.choice_trees.specs.declared.trees.Item.{Item}
use Rattle.choice_trees.specs.ChoiceTrees.{plain_branches, plain_choices, needs_statement, with_part, branch_at, parts_at}
use Rattle.cond_member_uses.specs.Noted.{Noted, Notes, Where}
use Rattle.cond_member_uses.proofs.Composing.{nothing_noted, part_then}
use Rattle.cond_member_uses.proofs.Nodes.{no_statement_noted}

-- This is what stands for a part, and the walk is on a path where `path`.
module _ (kind : Kind) (all : Option PlainTree) (path : Bool) (old : Noted) where
  -- the first alternatives have been tried, of which none holds where `left`; then this is what is left
  pub record Tried (left : Bool) (rest : Option PlainTree) (now : Noted) : Type 0 where
    pub within : left ≡ true → path ≡ true
    pub off : path ≡ false → now ≡ old
    pub waiting : left ≡ true → (now ≡ old) × (all ≡ rest)
    pub done : path ≡ true → left ≡ false → (needed : Bool) → Notes kind (with_part needed all none) old now

  pub tried_begin : (left : Bool) → left ≡ path → Tried left all old
  tried_begin left is = record {
    within = λ h. sym is ∙ h;
    off = λ h. refl;
    waiting = λ h. (refl, refl);
    done = λ h g. absurd (false≢true (sym g ∙ (is ∙ h)));
  }

  there : (needed : Bool) (tree : PlainTree) (new : Noted) → Notes kind (more tree none) old new → Notes kind (with_part needed (Some tree) none) old new
  there true tree new x = x
  there false tree new x = x

  -- one alternative more
  pub tried_next :
      (left w here later : Bool) (tree : PlainTree) (rest : Option PlainTree) (now new : Noted) → here ≡ (left && w) → later ≡ (left && not w) → Where here (Notes kind (more tree none)) now new
      → Tried left (if w then Some tree else rest) now → Tried later rest new
  tried_next true true here later tree rest now new here_is later_is found t = record {
    within = λ h. t.within refl;
    off = λ h. absurd (false≢true (sym h ∙ t.within refl));
    waiting = λ h. absurd (false≢true (sym later_is ∙ h));
    done = λ h g needed.
        subst (λ (o : Option PlainTree). Notes kind (with_part needed o none) old new) (sym (t.waiting refl).1)
        (there needed tree new (subst (λ (n : Noted). Notes kind (more tree none) n new) (t.waiting refl).0 (found.does here_is)));
  }
  tried_next true false here later tree rest now new here_is later_is found t = record {
    within = λ h. t.within refl;
    off = λ h. absurd (false≢true (sym h ∙ t.within refl));
    waiting = λ h. (found.elsewhere here_is ∙ (t.waiting refl).0, (t.waiting refl).1);
    done = λ h g. absurd (false≢true (sym g ∙ later_is));
  }
  tried_next false w here later tree rest now new here_is later_is found t = record {
    within = λ h. absurd (false≢true (sym later_is ∙ h));
    off = λ h. found.elsewhere here_is ∙ t.off h;
    waiting = λ h. absurd (false≢true (sym later_is ∙ h));
    done = λ h g needed. subst (Notes kind (with_part needed all none) old) (sym (found.elsewhere here_is)) (t.done h refl needed);
  }

  nothing_there : (needed : Bool) → Notes kind (with_part needed None none) old old
  nothing_there true = no_statement_noted kind old
  nothing_there false = nothing_noted kind old

  pub tried_all : (left : Bool) (now : Noted) → Tried left None now → (needed : Bool) → Where path (Notes kind (with_part needed all none)) old now
  tried_all true now t needed = record {
    elsewhere = λ h. t.off h;
    does = λ h.
        subst (λ (o : Option PlainTree). Notes kind (with_part needed o none) old now) (sym (t.waiting refl).1)
        (subst (Notes kind (with_part needed None none) old) (sym (t.waiting refl).0) (nothing_there needed));
  }
  tried_all false now t needed = record { elsewhere = λ h. t.off h; does = λ h. t.done h refl needed }

module _ (on : ℕ → Bool) (kind : Kind) (parts : List (Choice Item)) (path : Bool) (old : Noted) where
  -- the parts before a place have been noted: whatever notes those from there on notes all
  pub record PartsSoFar (place : ℕ) (now : Noted) : Type 0 where
    pub off : path ≡ false → now ≡ old
    pub so_far : path ≡ true → (final : Noted) → Notes kind (parts_at on kind place (plain_choices (drop place parts))) now final → Notes kind (parts_at on kind 0 (plain_choices parts)) old final

  pub parts_begin : PartsSoFar 0 old
  parts_begin = record { off = λ h. refl; so_far = λ h final x. x }

  one_part :
      (place : ℕ) (part : Choice Item) (now new : Noted) → drop place parts ≡ part ∷ drop (suc place) parts
      → ((needed : Bool) → Where path (Notes kind (with_part needed (branch_at on (plain_branches part.branches.items)) none)) now new) → PartsSoFar place now → PartsSoFar (suc place) new
  one_part place part now new opened found so_far = record {
    off = λ h. (found false).elsewhere h ∙ so_far.off h;
    so_far = λ h final x.
        so_far.so_far h final
        (subst (λ (list : List (Choice Item)). Notes kind (parts_at on kind place (plain_choices list)) now final) (sym opened)
        (part_then kind (needs_statement kind place) (branch_at on (plain_branches part.branches.items)) (parts_at on kind (suc place) (plain_choices (drop (suc place) parts))) now new final
        ((found (needs_statement kind place)).does h) x));
  }

  pub parts_next :
      (place : ℕ) (part : Choice Item) (now new : Noted) → place < length parts → part ≡ get_or parts place part
      → ((needed : Bool) → Where path (Notes kind (with_part needed (branch_at on (plain_branches part.branches.items)) none)) now new) → PartsSoFar place now → PartsSoFar (place + 1) new
  parts_next place part now new within is found so_far =
      subst (λ n. PartsSoFar n new) (sym (add-one place))
      (one_part place part now new (drop-cons parts place part within ∙ ap (λ (p : Choice Item). p ∷ drop (suc place) parts) (sym is)) found so_far)

  pub parts_end : (place : ℕ) (now : Noted) → length parts ≤ place → PartsSoFar place now → Where path (Notes kind (parts_at on kind 0 (plain_choices parts))) old now
  parts_end place now past so_far = record {
    elsewhere = λ h. so_far.off h;
    does = λ h.
        so_far.so_far h now
        (subst (λ (list : List (Choice Item)). Notes kind (parts_at on kind place (plain_choices list)) now now) (sym (drop_all place parts past)) (nothing_noted kind now));
  }
