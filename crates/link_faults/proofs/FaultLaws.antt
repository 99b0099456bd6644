-- Units that don't link, and names that they don't mention.
use Rattle.std.proofs.Common.{◌≡◌, inl, inr, ℕ, zero, suc, Bool, true, false, not, ◌&&◌, ◌||◌, List, [], ◌∷◌, refl, sym, ap, ap₂, ◌∙◌, subst, codes}
use Rattle.std.specs.Prelude.{◌⊎◌, ◌↔◌, Option, Some, None, is_some, filter, IsTrue, if◌then◌else◌, slice_get}
use Rattle.std.specs.List.{list_any, AllZip}
use Rattle.std.specs.Str.{bytes_eq}
use Rattle.std.proofs.lemmas.Bool.{false≢true}
use Rattle.std.proofs.lemmas.Slice.Eq.{bytes_eq-Decides}
use Rattle.cond_formula.specs.Conditions.{condition_of, value}
use Rattle.conditional.specs.Entries.{seen, listed, entries_of, first}
use Rattle.conditional.specs.declared.entries.Guarded.{Guarded}
use Rattle.core_meaning.specs.Entities.{Struct}
use Rattle.core_meaning.specs.Entities as scopes
use Rattle.core_meaning.specs.Linking.{Unit, Units, Links, IsFault, defines, defines_main}
use Rattle.core_meaning.specs.declared.refusals.LinkKind.{LinkKind}
use Rattle.core_meaning.specs.declared.refusals.LinkKind.TheVariants as link_kind
use Rattle.type_tables.specs.Tables.{FileName}
use Rattle.type_tables.specs.Forms.{file_name_form}
use Rattle.name_places.specs.Places.{place_of}
use Rattle.type_tables.specs.Seen.{seen_tables, meaning_of, name_in}
use Rattle.type_tables.specs.declared.entries.CondName.{CondName}
use Rattle.type_tables.specs.declared.tables.Tables.{Tables}
use Rattle.type_tables.specs.Follows.{NameFollows}
use Rattle.type_tables.specs.Definitions.{PlainDefinition, definition_form, plain_definition}
use Rattle.type_tables.specs.declared.definitions.Definition.{Definition}
use Rattle.link_faults.specs.declared.left.LeftUnit.{LeftUnit}
use Rattle.cond_bindings.specs.declared.unit_bindings.FileUse.{FileUse}
use Rattle.link_faults.specs.SeenUnits as seen_units
use Rattle.link_faults.specs.SeenUnits.{LeavesAlike, LeaveAlike, is_present, name_seen, units_seen}
use Rattle.link_faults.proofs.SeenLaws.{main_seen}
use Rattle.link_faults.proofs.OtherNames.{not_undefined, not_duplicate}
use Rattle.link_faults.specs.Faulty.{HasFault, SomeHaveFaults, FailToLink}
use Rattle.link_faults.specs.Mentioned.{is_declared, is_defined, is_used, is_mentioned, names_it}
use Rattle.link_faults.proofs.Walks.{any_map}
use Rattle.link_faults.proofs.Correspondence.{undeclared_agree}

-- ---- conditions and what they say

pub either_says : (a b : Bool) (A B : Type 0) → IsTrue a ↔ A → IsTrue b ↔ B → IsTrue (a || b) ↔ (A ⊎ B)
either_says true b A B p q = (λ h. inl (p.0 refl), λ h. refl)
either_says false b A B p q = (λ h. inr (q.0 h), back)
  where
    back : A ⊎ B → IsTrue b
    back (inl x) = absurd (false≢true (p.1 x))
    back (inr y) = q.1 y

pub said : (a : Bool) (A B : Type 0) → IsTrue a ↔ A → B ↔ A → IsTrue a ↔ B
said a A B p q = (λ h. q.1 (p.0 h), λ h. p.1 (q.0 h))

pub tested_as : (a b : Bool) → a ≡ b → IsTrue a ↔ IsTrue b
tested_as a b e = (λ h. subst IsTrue e h, λ h. subst IsTrue (sym e) h)

-- one name more
pub one_more : (before here after : Bool) (H R A : Type 0) → after ≡ (before || here) → IsTrue here ↔ H → (IsTrue before ⊎ (H ⊎ R)) ↔ A → (IsTrue after ⊎ R) ↔ A
one_more before here after H R A now says so_far = (λ h. so_far.0 (into h), λ a. out (so_far.1 a))
  where
    split : (a b : Bool) → IsTrue (a || b) → IsTrue a ⊎ IsTrue b
    split true b h = inl refl
    split false b h = inr h

    joined : (a b : Bool) → IsTrue a ⊎ IsTrue b → IsTrue (a || b)
    joined true b h = refl
    joined false b (inl h) = absurd (false≢true h)
    joined false b (inr h) = h

    sorted : IsTrue before ⊎ IsTrue here → IsTrue before ⊎ (H ⊎ R)
    sorted (inl h) = inl h
    sorted (inr h) = inr (inl (says.0 h))

    into : IsTrue after ⊎ R → IsTrue before ⊎ (H ⊎ R)
    into (inl h) = sorted (split before here (subst IsTrue now h))
    into (inr r) = inr (inr r)

    out : IsTrue before ⊎ (H ⊎ R) → IsTrue after ⊎ R
    out (inl h) = inl (subst IsTrue (sym now) (joined before here (inl h)))
    out (inr (inl h)) = inl (subst IsTrue (sym now) (joined before here (inr (says.1 h))))
    out (inr (inr r)) = inr r

pub nothing_before : (b : Bool) (A : Type 0) → b ≡ false → (IsTrue b ⊎ A) ↔ A
nothing_before b A e = (into, λ a. inr a)
  where
    into : IsTrue b ⊎ A → A
    into (inl t) = absurd (false≢true (sym e ∙ t))
    into (inr a) = a

pub none_left : (b : Bool) (A : Type 0) → (IsTrue b ⊎ ⊥) ↔ A → IsTrue b ↔ A
none_left b A h = (λ t. h.0 (inl t), λ a. alone (h.1 a))
  where
    alone : IsTrue b ⊎ ⊥ → IsTrue b
    alone (inl t) = t
    alone (inr e) = absurd e

-- ---- faults

pub fault_of : (linked : Units) (name : List ℕ) → HasFault linked name → FailToLink linked
fault_of linked name (inl f) = record { kind = link_kind.Undefined; name = name; fault = f }
fault_of linked name (inr (inl f)) = record { kind = link_kind.Duplicate; name = name; fault = f }
fault_of linked name (inr (inr f)) = record { kind = link_kind.Incompatible; name = name; fault = f }

pub some_fail : (linked : Units) (names : List (List ℕ)) → SomeHaveFaults linked names → FailToLink linked
some_fail linked [] h = absurd h
some_fail linked (name ∷ rest) (inl f) = fault_of linked name f
some_fail linked (name ∷ rest) (inr h) = some_fail linked rest h

some_have : (linked : Units) (name : List ℕ) → HasFault linked name → (names : List (List ℕ)) → IsTrue (list_any (bytes_eq name) names) → SomeHaveFaults linked names
some_have linked name f [] h = false≢true h
some_have linked name f (n ∷ rest) h = by (bytes_eq name n) refl (some_have linked name f rest) h
  where
    by : (b : Bool) → bytes_eq name n ≡ b → (IsTrue (list_any (bytes_eq name) rest) → SomeHaveFaults linked rest)
        → IsTrue (b || list_any (bytes_eq name) rest) → HasFault linked n ⊎ SomeHaveFaults linked rest
    by true e later h = inl (subst (HasFault linked) ((bytes_eq-Decides name n).0 e) f)
    by false e later h = inr (later h)

-- ---- names that units don't mention

either_not : (a b : Bool) → (a || b) ≡ false → (a ≡ false) × (b ≡ false)
either_not true b h = absurd (false≢true (sym h))
either_not false b h = (refl, h)

bytes_eq_turned : (a b : List ℕ) → bytes_eq a b ≡ false → bytes_eq b a ≡ false
bytes_eq_turned a b h = by (bytes_eq b a) refl
  where
    by : (t : Bool) → bytes_eq b a ≡ t → t ≡ false
    by true e = sym ((bytes_eq-Decides a b).1 (sym ((bytes_eq-Decides b a).0 e))) ∙ h
    by false e = refl

module _ (on : ℕ → Bool) (name : List ℕ) where
  not_used : (uses : List FileUse) → is_used name uses ≡ false → seen_units.is_used on uses name ≡ false
  not_used [] h = refl
  not_used (u ∷ uses) h =
      let parts = either_not (bytes_eq name u.name.items) (is_used name uses) h in
      ap₂ (λ (a b : Bool). (a && value on (condition_of u.when)) || b) parts.0 (not_used uses parts.1)

  not_defined : (entries : List (Guarded Definition)) → is_defined name entries ≡ false → list_any (λ (d : PlainDefinition). bytes_eq d.name name) (seen on (entries_of definition_form entries)) ≡ false
  not_defined [] h = refl
  not_defined (e ∷ entries) h =
      let parts = either_not (bytes_eq name e.what.name.items) (is_defined name entries) h in
      by (value on (condition_of e.when)) (bytes_eq_turned name e.what.name.items parts.0) (not_defined entries parts.1)
    where
      by : (b : Bool) → bytes_eq e.what.name.items name ≡ false → list_any (λ (d : PlainDefinition). bytes_eq d.name name) (seen on (entries_of definition_form entries)) ≡ false
          → list_any (λ (d : PlainDefinition). bytes_eq d.name name) (if b then definition_form e.what ∷ seen on (entries_of definition_form entries) else seen on (entries_of definition_form entries)) ≡ false
      by true one rest = ap₂ (λ (a b : Bool). a || b) one rest
      by false one rest = rest

  not_declared_at : (declared : List CondName) (place : ℕ) → is_declared name declared ≡ false → meaning_of on name (slice_get declared place) ≡ None
  not_declared_at [] place h = refl
  not_declared_at (n ∷ declared) zero h =
      let parts = either_not (bytes_eq name n.name.items) (is_declared name declared) h in
      ap (λ (b : Bool). if b then first (seen on (listed file_name_form n.meanings)) else None) parts.0
  not_declared_at (n ∷ declared) (suc place) h = not_declared_at declared place (either_not (bytes_eq name n.name.items) (is_declared name declared) h).1

  not_declared : (declared : List CondName) (place : Option ℕ) → is_declared name declared ≡ false → name_in on declared name place ≡ None
  not_declared declared None h = refl
  not_declared declared (Some place) h = not_declared_at declared place h

  module _ (tables : Tables) (numbers : ℕ → ℕ) (structs : List Struct) where
    follows_none : (n : Option scopes.FileName) (m : Option FileName) → NameFollows numbers (seen_tables on tables).signatures n m → m ≡ None → is_some n ≡ false
    follows_none None m h e = refl
    follows_none (Some n) None h e = absurd h
    follows_none (Some n) (Some m) h e = cc

    unit_unmentioned : (unit : Unit) (left : LeftUnit) → LeavesAlike on tables numbers structs unit left → is_mentioned name left ≡ false → names_it name unit ≡ false
    unit_unmentioned unit left a h =
        let one = either_not (is_declared name left.names.declared.items) (is_defined name left.defined.entries.items || is_used name left.uses.items) h in
        let two = either_not (is_defined name left.defined.entries.items) (is_used name left.uses.items) one.1 in
        let used : unit.uses name ≡ false = a.uses name ∙ not_used left.uses.items two.1 in
        let defined : defines unit name ≡ false =
        sym (any_map (λ (d : PlainDefinition). bytes_eq d.name name) plain_definition unit.defined)
        ∙ ap (λ (ds : List PlainDefinition). list_any (λ (d : PlainDefinition). bytes_eq d.name name) ds) a.defined ∙ not_defined left.defined.entries.items two.0 in
        let declared : is_some (unit.names name) ≡ false =
        follows_none (unit.names name) (name_seen on left.names name) (a.names name) (not_declared left.names.declared.items (place_of left.names.places name) one.0) in
        ap₂ (λ (x y : Bool). x || (y || is_some (unit.names name))) used defined ∙ declared

    present_unmentioned : (units : List Unit) (lefts : List LeftUnit) → AllZip (LeavesAlike on tables numbers structs) units (filter (is_present on) lefts)
        → list_any (is_mentioned name) lefts ≡ false → list_any (names_it name) units ≡ false
    present_unmentioned [] lefts a h = refl
    present_unmentioned (unit ∷ units) [] a h = absurd a
    present_unmentioned (unit ∷ units) (left ∷ lefts) a h =
        let parts = either_not (is_mentioned name left) (list_any (is_mentioned name) lefts) h in
        by (is_present on left) parts.0 (λ k. present_unmentioned units lefts k parts.1) (λ k. present_unmentioned (unit ∷ units) lefts k parts.1) a
      where
        by : (p : Bool) → is_mentioned name left ≡ false
            → (AllZip (LeavesAlike on tables numbers structs) units (filter (is_present on) lefts) → list_any (names_it name) units ≡ false)
            → (AllZip (LeavesAlike on tables numbers structs) (unit ∷ units) (filter (is_present on) lefts) → list_any (names_it name) (unit ∷ units) ≡ false)
            → AllZip (LeavesAlike on tables numbers structs) (unit ∷ units) (if p then left ∷ filter (is_present on) lefts else filter (is_present on) lefts)
            → list_any (names_it name) (unit ∷ units) ≡ false
        by true none rest all a = ap₂ (λ (x y : Bool). x || y) (unit_unmentioned unit left a.0 none) (rest a.1)
        by false none rest all a = all a

any_less : (p q : Unit → Bool) → ((unit : Unit) → q unit ≡ false → p unit ≡ false) → (units : List Unit) → list_any q units ≡ false → list_any p units ≡ false
any_less p q less [] h = refl
any_less p q less (unit ∷ units) h =
    let parts = either_not (q unit) (list_any q units) h in
    ap₂ (λ (a b : Bool). a || b) (less unit parts.0) (any_less p q less units parts.1)

never : (b : Bool) → b ≡ false → IsTrue b → ⊥
never true e t = cc
never false e t = cc

unnamed_faultless : (linked : Units) (name : List ℕ) → list_any (names_it name) linked.units ≡ false → HasFault linked name → ⊥
unnamed_faultless linked name h = by
  where
    used_or_defined : list_any (λ unit. unit.uses name || defines unit name) linked.units ≡ false
    used_or_defined =
        any_less (λ unit. unit.uses name || defines unit name) (names_it name)
        (λ unit k.
        let one = either_not (unit.uses name) (defines unit name || is_some (unit.names name)) k in
        ap₂ (λ (a b : Bool). a || b) one.0 (either_not (defines unit name) (is_some (unit.names name)) one.1).0) linked.units h

    declared : list_any (λ unit. is_some (unit.names name)) linked.units ≡ false
    declared =
        any_less (λ unit. is_some (unit.names name)) (names_it name)
        (λ unit k.
        let one = either_not (unit.uses name) (defines unit name || is_some (unit.names name)) k in
        (either_not (defines unit name) (is_some (unit.names name)) one.1).1) linked.units h

    by : HasFault linked name → ⊥
    by (inl f) = never _ (not_undefined name linked.units used_or_defined) f
    by (inr (inl f)) = never _ (not_duplicate name linked.units used_or_defined) f
    by (inr (inr f)) = undeclared_agree linked name declared f

-- ---- units that link

-- no name has a fault, if none of those that are mentioned has one
pub none_has_fault : (on : ℕ → Bool) (tables : Tables) (numbers : ℕ → ℕ) (linked : Units) (lefts : List LeftUnit) (names : List (List ℕ)) → LeaveAlike on tables numbers linked lefts
    → ((name : List ℕ) → list_any (bytes_eq name) names ≡ list_any (is_mentioned name) lefts) → (SomeHaveFaults linked names → ⊥)
    → (name : List ℕ) → HasFault linked name → ⊥
none_has_fault on tables numbers linked lefts names alike all none name f = by (list_any (bytes_eq name) names) refl
  where
    by : (b : Bool) → list_any (bytes_eq name) names ≡ b → ⊥
    by true e = none (some_have linked name f names e)
    by false e = unnamed_faultless linked name (present_unmentioned on name tables numbers linked.structs linked.units lefts alike (sym (all name) ∙ e)) f

pub they_link : (linked : Units) → (IsTrue (not (list_any defines_main linked.units)) → ⊥) → ((name : List ℕ) → HasFault linked name → ⊥) → Links linked
they_link linked main none = record { no_fault = by }
  where
    by : (kind : LinkKind) (name : List ℕ) → IsFault linked kind name → ⊥
    by link_kind.NoMain name f = main f.1
    by link_kind.Undefined name f = none name (inl f)
    by link_kind.Duplicate name f = none name (inr (inl f))
    by link_kind.Incompatible name f = none name (inr (inr f))

module _ (on : ℕ → Bool) (tables : Tables) (numbers : ℕ → ℕ) (linked : Units) (lefts : List LeftUnit) (names : List (List ℕ)) (no_main faulty : Bool) (alike : LeaveAlike on tables numbers linked lefts)
    (mains : no_main ≡ not (list_any defines_main (units_seen on tables lefts))) (faults : IsTrue faulty ↔ SomeHaveFaults linked names) where
  -- what is seen of the units lacks `main` where they do
  lacks : no_main ≡ not (list_any defines_main linked.units)
  lacks = mains ∙ ap not (sym (main_seen on tables numbers linked.structs linked.units (filter (is_present on) lefts) alike))

  pub fails : IsTrue (no_main || faulty) → FailToLink linked
  fails h = by no_main refl h
    where
      by : (b : Bool) → no_main ≡ b → IsTrue (b || faulty) → FailToLink linked
      by true e h = record { kind = link_kind.NoMain; name = codes "main"; fault = (refl, sym lacks ∙ e) }
      by false e h = some_fail linked names (faults.0 h)

  pub links : ((name : List ℕ) → list_any (bytes_eq name) names ≡ list_any (is_mentioned name) lefts) → (no_main || faulty) ≡ false → Links linked
  links all h =
      let parts = either_not no_main faulty h in
      they_link linked (never (not (list_any defines_main linked.units)) (sym lacks ∙ parts.0))
      (none_has_fault on tables numbers linked lefts names alike all (λ some. never faulty parts.1 (faults.1 some)))
