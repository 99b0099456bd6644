-- Declarations that are read one after the other.
use Rattle.std.proofs.Common.{◌≡◌, ℕ, ◌+◌, ◌<◌, ◌≤◌, Bool, true, false, List, ◌∷◌, length, get_or, drop, sym, ◌∙◌, subst}
use Rattle.std.specs.Prelude.{if◌then◌else◌}
use Rattle.std.proofs.lemmas.List.{drop_all}
use Rattle.cond_formula.specs.Conditions.{condition_of, value}
use Rattle.conditional.specs.Entries.{seen}
use Rattle.conditional.proofs.ListLaws.{item_of}
use Rattle.c_tree.specs.Grammar.{member_of, declarators}
use Rattle.tree_derivations.specs.Derivations.{Derivation}
use Rattle.choice_expansions.specs.Steps.{after_each}
use Rattle.core_meaning.specs.Entities.{Struct}
use Rattle.core_meaning.specs.UnitNames.{AllMembers}
use Rattle.declaration_readings.specs.Readings.{Going}
use Rattle.type_tables.specs.Tables.{Tables}
use Rattle.cond_structs.specs.Gathered.{Gathered}
use Rattle.cond_structs.specs.Standing.{StandsSoFar}
use Rattle.cond_structs.specs.Walks.{MemberParts, declared_next, AreDerived}
use Rattle.cond_structs.specs.declared.listing.MemberDeclaration.{MemberDeclaration}
use Rattle.cond_structs.specs.Listing.{declaration_at, declarations_at}

-- a state of which the rest of the declarations makes what all make of the one before
pub record Reaches (by : ℕ → ℕ) (before : List Struct) (number : ℕ) (k : Going AllMembers) (whole : List MemberParts) (t : Tables) (g : Gathered) (rest : List MemberParts) : Type 0 where
  pub now : Going AllMembers
  pub stands : StandsSoFar by before t g now
  pub rest_is : after_each (declared_next number) now rest ≡ after_each (declared_next number) k whole
  pub derived : AreDerived rest

module _ (by : ℕ → ℕ) (before : List Struct) (number : ℕ) (k : Going AllMembers) (whole : List MemberParts) where
  reach_step : (b here : Bool) (what : MemberParts) (rest : List MemberParts) (old new : Tables) (g out : Gathered) → here ≡ b
      → ((s : Going AllMembers) → (here ≡ true → Derivation (declarators member_of) what.list) → StandsSoFar by before old g s → StandsSoFar by before new out (if here then declared_next number s what else s))
      → Reaches by before number k whole old g (if b then what ∷ rest else rest) → Reaches by before number k whole new out rest
  reach_step true here what rest old new g out is step r = record {
    now = declared_next number r.now what;
    stands = subst (λ b. StandsSoFar by before new out (if b then declared_next number r.now what else r.now)) is (step r.now (λ h. r.derived.0) r.stands);
    rest_is = r.rest_is;
    derived = r.derived.1;
  }
  reach_step false here what rest old new g out is step r = record {
    now = r.now;
    stands = subst (λ b. StandsSoFar by before new out (if b then declared_next number r.now what else r.now)) is (step r.now (λ h. absurd (Rattle.std.proofs.lemmas.Bool.false≢true (sym is ∙ h))) r.stands);
    rest_is = r.rest_is;
    derived = r.derived;
  }

  pub reaches_next : (on : ℕ → Bool) (list : List MemberDeclaration) (i : ℕ) (d : MemberDeclaration) (here : Bool) (old new : Tables) (g out : Gathered) → i < length list → d ≡ get_or list i d → here ≡ value on (condition_of d.when)
      → ((s : Going AllMembers) → (here ≡ true → Derivation (declarators member_of) (declaration_at on d).what.list) → StandsSoFar by before old g s
      → StandsSoFar by before new out (if here then declared_next number s (declaration_at on d).what else s))
      → Reaches by before number k whole old g (seen on (declarations_at on (drop i list))) → Reaches by before number k whole new out (seen on (declarations_at on (drop (i + 1) list)))
  reaches_next on list i d here old new g out less at is step r =
      reach_step (value on (condition_of d.when)) here (declaration_at on d).what (seen on (declarations_at on (drop (i + 1) list))) old new g out is step
      (subst (λ l. Reaches by before number k whole old g (seen on (declarations_at on l))) (item_of list d i less at) r)

  pub reached_all : (on : ℕ → Bool) (list : List MemberDeclaration) (i : ℕ) (t : Tables) (g : Gathered) → length list ≤ i → Reaches by before number k whole t g (seen on (declarations_at on (drop i list)))
      → StandsSoFar by before t g (after_each (declared_next number) k whole)
  reached_all on list i t g past r =
      let done = subst (λ l. Reaches by before number k whole t g (seen on (declarations_at on l))) (drop_all i list past) r in subst (StandsSoFar by before t g) done.rest_is done.stands
