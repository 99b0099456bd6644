-- The members of one declarator more, and how far a declaration has come behind it.
use Rattle.std.proofs.Common.{◌≡◌, ℕ, Bool, true, false, ◌&&◌, refl, sym, ap, ◌∙◌, subst, List}
use Rattle.std.specs.Prelude.{None, if◌then◌else◌}
use Rattle.std.proofs.lemmas.Bool.{false≢true}
use Rattle.cond_formula.specs.declared.formulas.Formula.{Formula}
use Rattle.cond_formula.specs.Conditions.{condition_of, value}
use Rattle.c_types.specs.Types.{PlainType}
use Rattle.c_tree.specs.Trees.{PlainTree}
use Rattle.conditional.specs.Judgements.{fine}
use Rattle.core_meaning.specs.Entities.{Struct, Scope}
use Rattle.core_meaning.specs.UnitNames.{Members, one_member}
use Rattle.declaration_readings.specs.Readings.{Going, after}
use Rattle.operand_types.specs.OperandTypes.{renumbered, outcome_as}
use Rattle.type_tables.specs.Seen.{seen_tables}
use Rattle.type_tables.specs.Follows.{IsThere, Follows}
use Rattle.cond_declarators.specs.Types.{ShowsType, object_type_in}
use Rattle.cond_structs.specs.declared.collecting.Gathering.{Gathering}
use Rattle.cond_structs.specs.declared.declaring.Declaration.{Declaration}
use Rattle.cond_structs.specs.Gathered.{Gathered, gathered, with_declared, Comes, Keeps}
use Rattle.cond_structs.specs.Walks.{declared_name}
use Rattle.cond_structs.specs.Standing.{GathersSoFar}
use Rattle.cond_structs.specs.Declaring.{Declaring, next_tree, IsDeclaring}
use Rattle.cond_structs.proofs.OneMember.{one_gathers, after_stays, both_refused}

pub comes_gathers : (by : ℕ → ℕ) (structs : List Struct) (a b : Gathered) (k : Going Members) → Comes a b → GathersSoFar by structs b k → GathersSoFar by structs a k
comes_gathers by structs a b k c s = record {
  refused = c.refused ∙ s.refused;
  gathers = λ h. let g = s.gathers h in record {
    members = c.members (s.refused ∙ h) ∙ g.members;
    scalars = c.scalars (s.refused ∙ h) ∙ g.scalars;
    numbers = g.numbers;
    there = g.there;
  };
}

and_true : (a : Bool) → (a && true) ≡ a
and_true true = refl
and_true false = refl

and_false : (a : Bool) → (a && false) ≡ false
and_false true = refl
and_false false = refl

abbrev with_all : Declaration → Gathering → Declaration
with_all d all = record { tables = d.tables; base = d.base; here = d.here; all = all }

-- where the condition is false
stays : (on : ℕ → Bool) (old : Declaration) (all : Gathering) (m : Declaring) → IsDeclaring on old m → gathered on all ≡ gathered on old.all → IsDeclaring on (with_all old all) m
stays on old all m means same = record {
  here_is = means.here_is;
  so_far = subst (λ g. GathersSoFar m.by m.scope.structs g m.known) (sym same) means.so_far;
  before = λ h r. let x = means.before h r in record { follows = x.follows; numbers = x.numbers; shows = x.shows; there = x.there };
}

accepted_before : {S : Type 0} (k : Going S) (c : Rattle.core_meaning.specs.Checking.Checked S) → (after k c).refused ≡ false → k.refused ≡ false
accepted_before k c e = by k.refused refl
  where
    by : (b : Bool) → k.refused ≡ b → k.refused ≡ false
    by true h = absurd (false≢true (sym e ∙ after_stays k c h))
    by false h = h

module _ (on : ℕ → Bool) (old : Declaration) (all : Gathering) (m : Declaring) (tree : PlainTree) (means : IsDeclaring on old m) where
  abbrev next : Going Members
  next = after m.known (one_member m.scope m.number m.known.state m.ty tree)

  abbrev with_here : Bool → Declaring
  with_here here = record { scope = m.scope; number = m.number; ty = m.ty; by = m.by; here = here; known = m.known }

  -- the declaration is there
  there_step : m.here ≡ true → (m.known.refused ≡ true → (gathered on all).refused ≡ true) → (m.known.refused ≡ false → GathersSoFar m.by m.scope.structs (gathered on all) next)
      → IsDeclaring on (with_all old all) (next_tree m tree)
  there_step h stay go = record {
    here_is = means.here_is;
    so_far = subst (λ b. GathersSoFar m.by m.scope.structs (gathered on all) (if b then next else m.known)) (sym h) (by m.known.refused refl);
    before = λ e r.
        let x = means.before e (accepted_before m.known (one_member m.scope m.number m.known.state m.ty tree) (ap (λ b. (if b then next else m.known).refused) (sym h) ∙ r)) in
        record { follows = x.follows; numbers = x.numbers; shows = x.shows; there = x.there };
  }
    where
      by : (b : Bool) → m.known.refused ≡ b → GathersSoFar m.by m.scope.structs (gathered on all) next
      by true e = both_refused m.by m.scope.structs (gathered on all) next (stay e) (after_stays m.known (one_member m.scope m.number m.known.state m.ty tree) e)
      by false e = go e

  -- the declaration isn't there
  not_there_step : m.here ≡ false → gathered on all ≡ gathered on old.all → IsDeclaring on (with_all old all) (next_tree m tree)
  not_there_step h same = record {
    here_is = means.here_is;
    so_far = subst (λ b. GathersSoFar m.by m.scope.structs (gathered on all) (if b then next else m.known)) (sym h)
        (subst (λ g. GathersSoFar m.by m.scope.structs g m.known) (sym same) means.so_far);
    before = λ e r. absurd (false≢true (sym h ∙ e));
  }

  pub tree_step : (b here : Bool) → here ≡ (value on (condition_of old.here) && b) → Keeps here (gathered on old.all) (gathered on all)
      → ((scope : Scope) (f : Follows (seen_tables on old.tables.now) scope) (ty : PlainType) → IsThere scope.structs ty → ShowsType on (fine (renumbered f.by ty)) old.base.now → here ≡ true
      → Comes (gathered on all) (with_declared (seen_tables on old.tables.now) (λ name. outcome_as (renumbered f.by) (object_type_in scope ty tree name None)) (declared_name tree) (gathered on old.all)))
      → IsDeclaring on (with_all old all) (if b then next_tree m tree else m)
  tree_step false here is keeps comes = stays on old all m means (keeps.elsewhere (is ∙ and_false (value on (condition_of old.here))))
  tree_step true here is keeps comes = by m.here refl
    where
      now : here ≡ m.here
      now = is ∙ and_true (value on (condition_of old.here)) ∙ means.here_is

      by : (h : Bool) → m.here ≡ h → IsDeclaring on (with_all old all) (next_tree m tree)
      by false e = not_there_step e (keeps.elsewhere (now ∙ e))
      by true e =
          there_step e (λ r. keeps.refused (means.so_far.refused ∙ r))
          (λ r.
          let x = means.before e r in
          subst (λ (by : ℕ → ℕ). GathersSoFar by m.scope.structs (gathered on all) next) x.numbers
          (comes_gathers x.follows.by m.scope.structs (gathered on all) _ next
          (comes m.scope x.follows m.ty x.there (subst (λ (by : ℕ → ℕ). ShowsType on (fine (renumbered by m.ty)) old.base.now) (sym x.numbers) x.shows) (now ∙ e))
          (one_gathers (seen_tables on old.tables.now) m.scope x.follows m.number m.ty x.there tree (gathered on old.all) m.known
          (subst (λ (by : ℕ → ℕ). GathersSoFar by m.scope.structs (gathered on old.all) m.known) (sym x.numbers) means.so_far))))

  -- by all trees that the declarator stands for
  pub declarator_step : (b : Bool) (here : Formula) (taken : Gathering) → value on (condition_of here) ≡ (value on (condition_of old.here) && b) → taken ≡ old.all
      → (state : Declaration) → state.all ≡ all
      → ((n : Declaring) → IsDeclaring on (record { tables = old.tables; base = old.base; here = here; all = taken }) n → IsDeclaring on state (next_tree n tree))
      → IsDeclaring on (with_all old all) (if b then next_tree m tree else m)
  declarator_step b here taken is same state all_is steps = by b is
    where
      both_true : (x y : Bool) → (x && y) ≡ true → x ≡ true
      both_true true y e = refl
      both_true false y e = absurd (false≢true e)

      done : IsDeclaring on state (next_tree (with_here (value on (condition_of here))) tree)
      done = steps (with_here (value on (condition_of here))) (record {
        here_is = refl;
        so_far = subst (λ (a : Gathering). GathersSoFar m.by m.scope.structs (gathered on a) m.known) (sym same) means.so_far;
        before = λ h r.
            let x = means.before (sym means.here_is ∙ both_true (value on (condition_of old.here)) b (sym is ∙ h)) r in
            record { follows = x.follows; numbers = x.numbers; shows = x.shows; there = x.there };
      })

      reached : GathersSoFar m.by m.scope.structs (gathered on all) (if value on (condition_of here) then next else m.known)
      reached = subst (λ (a : Gathering). GathersSoFar m.by m.scope.structs (gathered on a) (if value on (condition_of here) then next else m.known)) all_is done.so_far

      by : (b : Bool) → value on (condition_of here) ≡ (value on (condition_of old.here) && b) → IsDeclaring on (with_all old all) (if b then next_tree m tree else m)
      by false e = record {
        here_is = means.here_is;
        so_far = subst (λ h. GathersSoFar m.by m.scope.structs (gathered on all) (if h then next else m.known)) (e ∙ and_false (value on (condition_of old.here))) reached;
        before = λ h r. let x = means.before h r in record { follows = x.follows; numbers = x.numbers; shows = x.shows; there = x.there };
      }
      by true e = record {
        here_is = means.here_is;
        so_far = subst (λ h. GathersSoFar m.by m.scope.structs (gathered on all) (if h then next else m.known)) (e ∙ and_true (value on (condition_of old.here)) ∙ means.here_is) reached;
        before = λ h r.
            let x = means.before h (accepted_before m.known (one_member m.scope m.number m.known.state m.ty tree) (ap (λ b. (if b then next else m.known).refused) (sym h) ∙ r)) in
            record { follows = x.follows; numbers = x.numbers; shows = x.shows; there = x.there };
      }
