-- What tables are to what is visible.
use Rattle.std.proofs.Common.{◌≡◌, ◌∙◌, ℕ, Bool, true, false, sym, subst}
use Rattle.c_tree.specs.declared.kinds.Kind.{Kind}
use Rattle.c_tree.specs.declared.kinds.Kind.TheVariants as k
use Rattle.core_meaning.specs.Entities.{Scope}
use Rattle.core_meaning.specs.Declarations.{with_block}
use Rattle.type_tables.specs.Tables.{Tables}
use Rattle.type_tables.specs.Steps.{entered}
use Rattle.type_tables.specs.Follows.{Follows}
use Rattle.type_tables.specs.Numbers.{FollowsBy, FollowsInBlockBy}
use Rattle.type_tables.proofs.BlockLaws.{block_entered, entered_by}
use Rattle.statement_readings.specs.Walks.{State}
use Rattle.cond_statements.specs.Readings.{Stand, Arrives}

pub followed : (by : ℕ → ℕ) (t : Tables) (scope : Scope) → FollowsInBlockBy by t scope → FollowsBy by t scope
followed by t scope f = record { follows = f.follows.follows; numbers = f.numbers }

-- a block in which nothing is declared
pub outer_followed : (by : ℕ → ℕ) (t : Tables) (scope : Scope) → FollowsInBlockBy by t (with_block scope) → FollowsBy by t scope
outer_followed by t scope f =
    let g : Follows t (with_block scope) = f.follows.follows in
    record {
      follows = record {
        by = g.by;
        apart = g.apart;
        structs = g.structs;
        tags = g.tags;
        tagged = g.tagged;
        names = g.names;
        names_there = g.names_there;
        names_numbered = g.names_numbered;
        locals = g.locals;
        locals_there = g.locals_there;
        within = g.within;
        completes = g.completes;
        uncounted = g.uncounted;
      };
      numbers = f.numbers;
    }

-- the structs keep their numbers where a block is entered
pub entered_followed : (by : ℕ → ℕ) (t : Tables) (scope : Scope) → FollowsBy by t scope → FollowsInBlockBy by (entered t) (with_block scope)
entered_followed by t scope f = record { follows = block_entered t scope f.follows; numbers = entered_by t scope f.follows ∙ f.numbers }

-- behind the first node
pub later : (kind : Kind) (first : Bool) (by : ℕ → ℕ) (t : Tables) (scope : Scope) → Stand kind first by t scope → Stand kind false by t scope
later k.Items first by t scope stand = stand
later k.Block first by t scope stand = stand
later k.For true by t scope stand = outer_followed by t scope stand
later k.For false by t scope stand = stand
later _ first by t scope stand = stand

pub standing : (kind : Kind) (first : Bool) (by : ℕ → ℕ) (t : Tables) (scope : Scope) → Stand kind first by t scope → FollowsBy by t scope
standing k.Items first by t scope stand = followed by t scope stand
standing k.Block first by t scope stand = followed by t scope stand
standing k.For true by t scope stand = outer_followed by t scope stand
standing k.For false by t scope stand = stand
standing _ first by t scope stand = stand

-- neither the tables nor what is visible has changed
pub still_there : (kind : Kind) (first : Bool) (by : ℕ → ℕ) (old new : Tables) (refused : Bool) (s t : State) → (t.refused ≡ false → new ≡ old) → (t.refused ≡ false → t.scope ≡ s.scope) → refused ≡ t.refused
    → Stand kind first by old s.scope → Arrives kind first by old new refused t
still_there kind first by old new refused s t same there is stand = record {
  refused_is = is;
  stands = λ e. subst (λ (u : Tables). Stand kind first by u t.scope) (sym (same e)) (subst (Stand kind first by old) (sym (there e)) stand);
  same = λ q e. same e;
}
