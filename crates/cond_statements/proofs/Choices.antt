-- The alternatives for a part, one after the other, and parts one after the other.
use Rattle.std.proofs.Common.{◌≡◌, ℕ, ◌+◌, ◌<◌, ◌≤◌, Bool, true, false, not, ◌&&◌, List, drop, length, get_or, refl, sym, ap, subst, ◌∙◌, add-one}
use Rattle.std.specs.Prelude.{Option, Some, None, if◌then◌else◌}
use Rattle.std.proofs.lemmas.List.{drop_all}
use Rattle.c_types.specs.Types.{PlainType}
use Rattle.c_tree.specs.declared.kinds.Kind.{Kind}
use Rattle.c_tree.specs.Trees.{PlainTree, PlainTrees, none, more}
use Rattle.conditional.specs.Entries.{Entry}
use Rattle.conditional.proofs.ListLaws.{item_of}
use Rattle.choice_trees.specs.declared.trees.Choice.{Choice}
use Rattle.choice_trees.specs.declared.trees.Item.{Item}
use Rattle.choice_trees.specs.ChoiceTrees.{plain_branches, plain_choices, needs_statement, with_part, branch_at, parts_at}
use Rattle.choice_trees.proofs.Parts.{also, also_none}
use Rattle.type_tables.specs.Tables.{Tables}
use Rattle.cond_statements.specs.Readings.{Reads, Walks}
use Rattle.cond_statements.proofs.Walking.{or_false, if_same, also_also, walks_then, walks_nothing, walks_nowhere, Unchanged, unchanged, then_unchanged}
use Rattle.cond_statements.proofs.Standing.{later}

module _ (on : ℕ → Bool) (result : PlainType) (results : List (Entry PlainType)) (in_loop : Bool) (kind : Kind) where
  abbrev Steps : PlainTrees → Bool → Tables → Tables → Bool → Bool → Bool → Bool → Type 0
  Steps parts when old new refused refused_now turned turned_now = Walks on result results in_loop kind parts when old new refused refused_now turned turned_now

  -- ---- alternatives

  -- where none of the alternatives so far is there, the rest decides; elsewhere one of them is read, or the condition is false
  abbrev pub ChoiceSoFar : Bool → Bool → Option PlainTree → Option PlainTree → Tables → Tables → Bool → Bool → Bool → Bool → Type 0
  ChoiceSoFar true when all rest old new refused refused_now turned turned_now =
      (when ≡ true) × (rest ≡ all) × Unchanged on result results in_loop kind old new refused refused_now turned turned_now
  ChoiceSoFar false when all rest old new refused refused_now turned turned_now = (needed : Bool) → Steps (with_part needed all none) when old new refused refused_now turned turned_now

  pub choice_begins : (when : Bool) (all : Option PlainTree) (t : Tables) (refused turned : Bool) → ChoiceSoFar when when all all t t refused refused turned turned
  choice_begins true all t refused turned = (refl, refl, record { tables = refl; refused_is = refl; turned_is = refl })
  choice_begins false all t refused turned = λ needed. walks_nowhere on result results in_loop kind (with_part needed all none) false t refused turned refl

  changed : (parts : PlainTrees) (when : Bool) (old mid new : Tables) (refused refused_mid refused_now turned turned_mid turned_now : Bool) → Unchanged on result results in_loop kind old mid refused refused_mid turned turned_mid
      → Steps parts when mid new refused_mid refused_now turned_mid turned_now → Steps parts when old new refused refused_now turned turned_now
  changed parts when old mid new refused refused_mid refused_now turned turned_mid turned_now u x =
      subst (λ t. Steps parts when t new refused refused_now turned turned_now) u.tables
      (subst (λ b. Steps parts when mid new b refused_now turned turned_now) u.refused_is
      (subst (λ b. Steps parts when mid new refused_mid refused_now b turned_now) u.turned_is x))

  both_unchanged : (old mid new : Tables) (refused refused_mid refused_now turned turned_mid turned_now : Bool) → Unchanged on result results in_loop kind old mid refused refused_mid turned turned_mid
      → Unchanged on result results in_loop kind mid new refused_mid refused_now turned_mid turned_now → Unchanged on result results in_loop kind old new refused refused_now turned turned_now
  both_unchanged old mid new refused refused_mid refused_now turned turned_mid turned_now u v =
      record { tables = v.tables ∙ u.tables; refused_is = v.refused_is ∙ u.refused_is; turned_is = v.turned_is ∙ u.turned_is }

  -- one alternative more
  pub choice_goes_on :
      (left holds here after when : Bool) (all later : Option PlainTree) (tree : PlainTree) (old mid new : Tables) (refused refused_mid refused_now turned turned_mid turned_now : Bool) → here ≡ (left && holds) → after ≡ (left && not holds)
      → ChoiceSoFar left when all (if holds then Some tree else later) old mid refused refused_mid turned turned_mid → Steps (more tree none) here mid new refused_mid refused_now turned_mid turned_now
      → ChoiceSoFar after when all later old new refused refused_now turned turned_now
  choice_goes_on false holds here after when all later tree old mid new refused refused_mid refused_now turned turned_mid turned_now is then_is before x =
      subst (λ b. ChoiceSoFar b when all later old new refused refused_now turned turned_now) (sym then_is)
      (λ needed. then_unchanged on result results in_loop kind (with_part needed all none) when old mid new refused refused_mid refused_now turned turned_mid turned_now
      (unchanged on result results in_loop kind (more tree none) here mid new refused_mid refused_now turned_mid turned_now is x) (before needed))
  choice_goes_on true true here after when all later tree old mid new refused refused_mid refused_now turned turned_mid turned_now is then_is before x =
      subst (λ b. ChoiceSoFar b when all later old new refused refused_now turned turned_now) (sym then_is)
      (λ needed. subst (λ (o : Option PlainTree). Steps (with_part needed o none) when old new refused refused_now turned turned_now) before.1
      (subst (λ b. Steps (more tree none) b old new refused refused_now turned turned_now) (is ∙ sym before.0)
      (changed (more tree none) here old mid new refused refused_mid refused_now turned turned_mid turned_now before.2 x)))
  choice_goes_on true false here after when all later tree old mid new refused refused_mid refused_now turned turned_mid turned_now is then_is before x =
      subst (λ b. ChoiceSoFar b when all later old new refused refused_now turned turned_now) (sym then_is) (
        before.0,
        before.1,
        both_unchanged old mid new refused refused_mid refused_now turned turned_mid turned_now before.2
            (unchanged on result results in_loop kind (more tree none) here mid new refused_mid refused_now turned_mid turned_now is x),
      )

  -- the `;` that stands for a statement
  semicolon_read : (needed when : Bool) (t : Tables) (refused turned : Bool) → Steps (with_part needed None none) when t t refused refused turned turned
  semicolon_read false when t refused turned = walks_nothing on result results in_loop kind when t refused turned
  semicolon_read true when t refused turned =
      record {
        found = false;
        refused_is = or_false refused;
        turned_is = if_same when turned;
        reads = record {
          same = λ h. refl;
          accepted = λ h. refl;
          arrives = λ h by s first fine stands ready stand. record { refused_is = sym fine; stands = λ e. later kind first by t s.scope stand; same = λ q e. refl };
        };
      }

  -- no alternative more
  pub choice_ends : (left when : Bool) (all : Option PlainTree) (old new : Tables) (refused refused_now turned turned_now : Bool) → ChoiceSoFar left when all None old new refused refused_now turned turned_now
      → (needed : Bool) → Steps (with_part needed all none) when old new refused refused_now turned turned_now
  choice_ends false when all old new refused refused_now turned turned_now before needed = before needed
  choice_ends true when all old new refused refused_now turned turned_now before needed =
      subst (λ (o : Option PlainTree). Steps (with_part needed o none) when old new refused refused_now turned turned_now) before.1
      (then_unchanged on result results in_loop kind (with_part needed None none) when old old new refused refused refused_now turned turned turned_now before.2 (semicolon_read needed when old refused turned))

  -- ---- parts

  -- how far the parts up to this place have been read
  pub record PartsSoFar (parts : List (Choice Item)) (when : Bool) (old new : Tables) (place : ℕ) (refused turned : Bool) : Type 0 where
    pub done : PlainTrees
    pub walks : Steps done when old new false refused false turned
    pub same : also done (parts_at on kind place (plain_choices (drop place parts))) ≡ parts_at on kind 0 (plain_choices parts)

  pub parts_begin : (parts : List (Choice Item)) (when : Bool) (t : Tables) (refused turned : Bool) → refused ≡ false → turned ≡ false → PartsSoFar parts when t t 0 refused turned
  parts_begin parts when t refused turned fine still = record {
    done = none;
    walks =
        subst (λ b. Steps none when t t false b false turned) (sym fine) (subst (λ b. Steps none when t t false false false b) (sym still) (walks_nothing on result results in_loop kind when t false false));
    same = refl;
  }

  split_part : (needed : Bool) (o : Option PlainTree) (rest : PlainTrees) → with_part needed o rest ≡ also (with_part needed o none) rest
  split_part needed (Some tree) rest = refl
  split_part true None rest = refl
  split_part false None rest = refl

  pub parts_go_on :
      (parts : List (Choice Item)) (when : Bool) (old mid new : Tables) (place : ℕ) (part : Choice Item) (refused refused_now turned turned_now : Bool) → place < length parts → part ≡ get_or parts place part
      → PartsSoFar parts when old mid place refused turned
      → ((needed : Bool) → Steps (with_part needed (branch_at on (plain_branches part.branches.items)) none) when mid new refused refused_now turned turned_now)
      → PartsSoFar parts when old new (place + 1) refused_now turned_now
  parts_go_on parts when old mid new place part refused refused_now turned turned_now within is before read =
      let needed = needs_statement kind place in
      let here = with_part needed (branch_at on (plain_branches part.branches.items)) none in
      let behind = parts_at on kind (place + 1) (plain_choices (drop (place + 1) parts)) in
      record {
        done = also before.done here;
        walks = walks_then on result results in_loop kind before.done here when old mid new false refused refused_now false turned turned_now before.walks (read needed);
        same =
            also_also before.done here behind
            ∙ ap (also before.done) (sym (split_part needed (branch_at on (plain_branches part.branches.items)) behind))
            ∙ ap (λ n. also before.done (with_part needed (branch_at on (plain_branches part.branches.items)) (parts_at on kind n (plain_choices (drop (place + 1) parts))))) (add-one place)
            ∙ ap (λ list. also before.done (parts_at on kind place (plain_choices list))) (sym (item_of parts part place within is))
            ∙ before.same;
      }

  pub parts_end : (parts : List (Choice Item)) (when : Bool) (old new : Tables) (place : ℕ) (refused turned : Bool) → length parts ≤ place → PartsSoFar parts when old new place refused turned
      → Reads on result results in_loop kind false (parts_at on kind 0 (plain_choices parts)) when old new refused
  parts_end parts when old new place refused turned past so_far =
      subst (λ (ps : PlainTrees). Reads on result results in_loop kind false ps when old new refused)
      (sym (also_none so_far.done) ∙ ap (λ list. also so_far.done (parts_at on kind place (plain_choices list))) (sym (drop_all place parts past)) ∙ so_far.same)
      (subst (λ b. Reads on result results in_loop kind false so_far.done when old new b) (sym so_far.walks.refused_is) so_far.walks.reads)
