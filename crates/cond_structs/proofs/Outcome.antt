-- A member of the type that a declarator comes to, and what is the same where nothing is refused.
use Rattle.std.proofs.Common.{◌≡◌, ℕ, Bool, true, false, ◌&&◌, ◌||◌, List, [], ◌∷◌, refl, sym, ap, ap₂, ◌∙◌, subst}
use Rattle.std.specs.Prelude.{Some, if◌then◌else◌}
use Rattle.std.proofs.lemmas.Bool.{false≢true}
use Rattle.cond_formula.specs.Conditions.{value}
use Rattle.c_types.specs.Types.{PlainType}
use Rattle.conditional.specs.Entries.{Entry, seen, first, listed, entries_of, some_holds, Carry}
use Rattle.conditional.specs.Judgements.{Checked, fine, refused}
use Rattle.conditional.specs.declared.outcomes.Outcomes.{Outcomes}
use Rattle.operand_rules.specs.declared.operands.Refused.{Refused}
use Rattle.operand_rules.specs.PlainOperandTypes.{reason}
use Rattle.type_tables.specs.Tables.{Tables}
use Rattle.type_tables.specs.Forms.{declared_type_form}
use Rattle.type_tables.specs.declared.entries.DeclaredType.{DeclaredType}
use Rattle.cond_declarators.specs.Types.{ShowsType}
use Rattle.cond_structs.specs.Gathered.{Gathered, refuse, is_named, with_type, with_outcome, with_member, Comes, Keeps}

or_false : (b : Bool) → (b || false) ≡ b
or_false true = refl
or_false false = refl

or_true : (b : Bool) → (b || true) ≡ true
or_true true = refl
or_true false = refl

or_stays : (b c : Bool) → b ≡ true → (b || c) ≡ true
or_stays true c e = refl
or_stays false c e = absurd (false≢true e)

no_entry_holds : {P : Type 0} (t : Bool) (what : P) (rest : List P) (holds : Bool) → (rest ≡ [] → holds ≡ false) → (if t then what ∷ rest else rest) ≡ [] → (t || holds) ≡ false
no_entry_holds true what rest holds later e = absurd cc
no_entry_holds false what rest holds later e = later e

none_holds : {P : Type 0} (on : ℕ → Bool) (entries : List (Entry P)) → seen on entries ≡ [] → some_holds on entries ≡ false
none_holds on [] e = refl
none_holds on (x ∷ rest) e = no_entry_holds (value on x.when) x.what (seen on rest) (some_holds on rest) (none_holds on rest) e

an_entry_holds : {P : Type 0} (t : Bool) (what v : P) (rest : List P) (holds : Bool) → (first rest ≡ Some v → holds ≡ true) → first (if t then what ∷ rest else rest) ≡ Some v → (t || holds) ≡ true
an_entry_holds true what v rest holds later e = refl
an_entry_holds false what v rest holds later e = later e

one_holds : {P : Type 0} (on : ℕ → Bool) (entries : List (Entry P)) (v : P) → first (seen on entries) ≡ Some v → some_holds on entries ≡ true
one_holds on [] v e = absurd cc
one_holds on (x ∷ rest) v e = an_entry_holds (value on x.when) x.what v (seen on rest) (some_holds on rest) (one_holds on rest v) e

-- where words or a declarator are refused
pub refused_holds : (on : ℕ → Bool) (all : Outcomes DeclaredType Refused) (v : Checked PlainType (Unit {0})) → ShowsType on v all
    → some_holds on (entries_of reason all.refused.entries.items) ≡ (elim v as (λ x. Bool) [ fine ty ↦ false | refused why ↦ true ])
refused_holds on all (fine ty) s = none_holds on (listed reason all.refused) s.shown.not_refused
refused_holds on all (refused why) s = one_holds on (listed reason all.refused) why (s.shown.held refl)

pub fine_carries : (on : ℕ → Bool) (all : Outcomes DeclaredType Refused) (ty : PlainType) → ShowsType on (fine ty) all → Carry on ty (entries_of declared_type_form all.fine.alternatives.items)
fine_carries on all ty s = s.shown.carry

pub fine_holds : (on : ℕ → Bool) (all : Outcomes DeclaredType Refused) (ty : PlainType) → ShowsType on (fine ty) all → some_holds on (entries_of declared_type_form all.fine.alternatives.items) ≡ true
fine_holds on all ty s = s.shown.held refl

pub refuse_false : (g : Gathered) (b : Bool) → b ≡ false → refuse b g ≡ g
refuse_false g b e = ap (λ x. refuse x g) e ∙ ap (λ x. record { members = g.members; scalars = g.scalars; refused = x }) (or_false g.refused)

pub same_comes : (a b : Gathered) → a ≡ b → Comes a b
same_comes a b e = record { refused = ap (λ (g : Gathered). g.refused) e; members = λ h. ap (λ (g : Gathered). g.members) e; scalars = λ h. ap (λ (g : Gathered). g.scalars) e }

pub both_come : (a b : Gathered) → a.refused ≡ true → b.refused ≡ true → Comes a b
both_come a b e f = record { refused = e ∙ sym f; members = λ h. absurd (false≢true (sym h ∙ f)); scalars = λ h. absurd (false≢true (sym h ∙ f)) }

pub keeps_nothing : (here : Bool) (g : Gathered) → Keeps here g g
keeps_nothing here g = record { elsewhere = λ e. refl; refused = λ e. e }

pub keeps_both : (here : Bool) (a b c : Gathered) → Keeps here a b → Keeps here b c → Keeps here a c
keeps_both here a b c x y = record { elsewhere = λ e. y.elsewhere e ∙ x.elsewhere e; refused = λ e. y.refused (x.refused e) }

pub keeps_added : (t : Tables) (name : List ℕ) (ty : PlainType) (here when : Bool) (old new : Gathered) → (here ≡ false → when ≡ false) → new ≡ (if when then with_type t name ty old else old) → Keeps here old new
keeps_added t name ty here when old new less e = record {
  elsewhere = λ h. e ∙ ap (λ b. if b then with_type t name ty old else old) (less h);
  refused = λ r. ap (λ (g : Gathered). g.refused) e ∙ stays when r;
}
  where
    stays : (b : Bool) → old.refused ≡ true → (if b then with_type t name ty old else old).refused ≡ true
    stays true r = or_stays old.refused _ r
    stays false r = r

and_false : (a b : Bool) → a ≡ false → (a && b) ≡ false
and_false true b e = absurd (false≢true (sym e))
and_false false b e = refl

pub less_by : (here other found : Bool) → found ≡ (here && other) → here ≡ false → found ≡ false
less_by here other found is e = is ∙ and_false here other e

-- what is added, and refused where types are
pub outcome_comes :
    (on : ℕ → Bool) (t : Tables) (name : List ℕ) (types : Outcomes DeclaredType Refused) (v : Checked PlainType (Unit {0})) (here found : Bool) (old mid new : Gathered)
    → ((ty : PlainType) → Carry on ty (entries_of declared_type_form types.fine.alternatives.items)
    → mid ≡ (if here && some_holds on (entries_of declared_type_form types.fine.alternatives.items) then with_type t name ty old else old))
    → new ≡ refuse found mid → found ≡ (here && some_holds on (entries_of reason types.refused.entries.items)) → ShowsType on v types → here ≡ true → Comes new (with_outcome t name v old)
outcome_comes on t name types (fine ty) here found old mid new adds e is s h =
    same_comes new (with_type t name ty old)
    (e ∙ refuse_false mid found (is ∙ ap₂ (λ a b. a && b) h (refused_holds on types (fine ty) s))
    ∙ adds ty (fine_carries on types ty s) ∙ ap₂ (λ a b. if a && b then with_type t name ty old else old) h (fine_holds on types ty s))
outcome_comes on t name types (refused why) here found old mid new adds e is s h =
    both_come new (refuse true old) (ap (λ (g : Gathered). g.refused) e ∙ ap (λ b. mid.refused || b) (is ∙ ap₂ (λ a b. a && b) h (refused_holds on types (refused why) s)) ∙ or_true mid.refused)
    (or_true old.refused)

-- a member of a name that has to be new
pub named_comes : (t : Tables) (name text : List ℕ) (v : Checked PlainType (Unit {0})) (here : Bool) (old mid new : Gathered) → text ≡ name → mid ≡ refuse (here && is_named text old) old → here ≡ true
    → Comes new (with_outcome t text v mid) → Comes new (with_member t name v old)
named_comes t name text v here old mid new same is h comes =
    subst (λ x. Comes new (with_member t x v old)) same (subst (λ m. Comes new (with_outcome t text v m)) (is ∙ ap (λ b. refuse (b && is_named text old) old) h) comes)
