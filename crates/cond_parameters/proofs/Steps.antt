-- One parameter more: in a scope, in the tables that follow it, and in what a configuration sees.
use Rattle.std.proofs.Common.{arith, ◌≡◌, ℕ, ◌+◌, Bool, true, false, ◌&&◌, ◌||◌, List, [], ◌∷◌, ◌++◌, map, length, refl, sym, ap, ap₂, ◌∙◌, subst, if◌then◌else◌}
use Rattle.std.specs.Prelude.{Option, Some, None, is_some}
use Rattle.std.specs.List.{list_any}
use Rattle.std.specs.Str.{bytes_eq}
use Rattle.std.proofs.lemmas.Cmp.{nat_list_eq_equiv}
use Rattle.c_text.specs.Token.{PlainToken}
use Rattle.c_types.specs.Types.{PlainType}
use Rattle.c_tree.specs.Trees.{PlainTree}
use Rattle.conditional.specs.Judgements.{Checked, fine, refused, bind}
use Rattle.core_meaning.specs.Checking as judging
use Rattle.core_meaning.specs.Entities.{Table, with_entry, Struct, Local, Scope}
use Rattle.core_meaning.specs.Declarations.{innermost, with_local_in, with_local, with_block, Parameter, is_name_of, with_parameter, one_parameter}
use Rattle.core_meaning.specs.UnitNames.{parameter_types, with_parameters}
use Rattle.operand_types.specs.OperandTypes.{outcome_as, renumbered}
use Rattle.plain_parameters.specs.Parameters.{is_void_node}
use Rattle.type_tables.specs.Tables.{Tables}
use Rattle.type_tables.specs.Follows.{IsThere, AreThere, FollowsInBlock}
use Rattle.type_tables.specs.Numbers.{FollowsInBlockBy}
use Rattle.type_tables.proofs.BlockLaws.{local_declared, local_by}
use Rattle.cond_declarators.proofs.There.{whole_of}
use Rattle.cond_parameters.specs.Parameters.{AreDeclared, Declares}
use Rattle.cond_parameters.specs.Readings.{Reading, nothing_read, with_next, goes_on}
use Rattle.cond_parameters.specs.Types.{renumbered_parameter, HaveNames}
use Rattle.cond_parameters.specs.Walks.{State, with_named, added, Adds, IsStateOf}
use Rattle.cond_parameters.proofs.Law.{one_behind}
use Rattle.cond_parameters.proofs.OneParameter.{parameter_there}

-- ---- names

or_false : (b : Bool) → (b || false) ≡ b
or_false true = refl
or_false false = refl

or_true : (b : Bool) → (b || true) ≡ true
or_true true = refl
or_true false = refl

entry_or : (b : Bool) (l : Local) (o : Option Local) (rest : Bool) → (is_some (if b then Some l else o) || rest) ≡ (is_some o || (b || rest))
entry_or true l None rest = refl
entry_or true l (Some other) rest = refl
entry_or false l o rest = refl

abbrev NamedIn : List Parameter → Type 0
NamedIn ps =
    (s : Scope) (block : Table Local) (others : List (Table Local)) → s.blocks ≡ block ∷ others → (slot : ℕ) (name : List ℕ)
    → is_some (innermost (with_parameters s slot ps).blocks name) ≡ (is_some (block name) || list_any (λ p. is_name_of name p.name) ps)

with_first : (ps : List Parameter) → NamedIn ps → (s : Scope) (block : Table Local) (others : List (Table Local)) → s.blocks ≡ block ∷ others → (slot : ℕ) (name : List ℕ) (first : Option PlainToken) (ty : PlainType)
    → is_some (innermost (with_parameters (with_parameter s slot first ty) (slot + 1) ps).blocks name) ≡ (is_some (block name) || (is_name_of name first || list_any (λ p. is_name_of name p.name) ps))
with_first ps later s block others is slot name None ty = later s block others is (slot + 1) name
with_first ps later s block others is slot name (Some n) ty =
    later (with_local s n.text slot ty) (with_entry block n.text (record { slot = slot; ty = ty })) others (ap (λ bs. with_local_in bs n.text (record { slot = slot; ty = ty })) is) (slot + 1) name
    ∙ entry_or (bytes_eq name n.text) (record { slot = slot; ty = ty }) (block name) (list_any (λ p. is_name_of name p.name) ps)
    ∙ ap (λ b. is_some (block name) || (b || list_any (λ p. is_name_of name p.name) ps)) (nat_list_eq_equiv.symm name n.text)

named_in : (ps : List Parameter) → NamedIn ps
named_in [] s block others is slot name = ap (λ bs. is_some (innermost bs name)) is ∙ sym (or_false (is_some (block name)))
named_in (p ∷ ps) s block others is slot name = with_first ps (named_in ps) s block others is slot name p.name p.ty

-- a block's parameters are its names
names_behind : (scope : Scope) (ps : List Parameter) → HaveNames (with_parameters (with_block scope) 0 ps) ps
names_behind scope ps = record { names = λ name. named_in ps (with_block scope) (λ n. None) scope.blocks refl 0 name }

-- ---- structs and types

structs_by_name : (s : Scope) (slot : ℕ) (name : Option PlainToken) (ty : PlainType) → (with_parameter s slot name ty).structs ≡ s.structs
structs_by_name s slot None ty = refl
structs_by_name s slot (Some n) ty = refl

structs_behind : (s : Scope) (slot : ℕ) (ps : List Parameter) → (with_parameters s slot ps).structs ≡ s.structs
structs_behind s slot [] = refl
structs_behind s slot (p ∷ ps) = structs_behind (with_parameter s slot p.name p.ty) (slot + 1) ps ∙ structs_by_name s slot p.name p.ty

one_there : (structs : List Struct) (ps : List Parameter) (p : Parameter) → AreThere structs (parameter_types ps) → IsThere structs p.ty → AreThere structs (parameter_types (ps ++ p ∷ []))
one_there structs [] p there one = (one, tt)
one_there structs (q ∷ ps) p there one = (there.0, one_there structs ps p there.1 one)

one_type : (by : ℕ → ℕ) (ps : List Parameter) (p : Parameter) → map (renumbered by) (parameter_types ps) ++ renumbered by p.ty ∷ [] ≡ map (renumbered by) (parameter_types (ps ++ p ∷ []))
one_type by [] p = refl
one_type by (q ∷ ps) p = ap (λ (l : List PlainType). renumbered by q.ty ∷ l) (one_type by ps p)

-- ---- tables

follows_named : (by : ℕ → ℕ) (t : Tables) (s : Scope) → FollowsInBlockBy by t s → (slot : ℕ) (name : Option PlainToken) (ty : PlainType) → IsThere s.structs ty
    → FollowsInBlockBy by (with_named name (renumbered by ty) t) (with_parameter s slot name ty)
follows_named by t s f slot None ty there = f
follows_named by t s f slot (Some n) ty there =
    subst (λ other. FollowsInBlockBy other (with_named (Some n) (renumbered other ty) t) (with_local s n.text slot ty)) f.numbers
    (record { follows = local_declared t s f.follows n.text slot ty there; numbers = local_by t s f.follows n.text slot ty there })

one_declared :
    (by : ℕ → ℕ) (scope : Scope) (before : List Parameter) (p : Parameter) (types : List PlainType) (is_refused : Bool) (t : Tables) → IsThere scope.structs p.ty → AreDeclared by scope before types is_refused t
    → AreDeclared by scope (before ++ p ∷ []) (types ++ renumbered by p.ty ∷ []) is_refused (with_named p.name (renumbered by p.ty) t)
one_declared by scope before p types is_refused t there d = record {
  fits = d.fits;
  types_are = ap (λ (l : List PlainType). l ++ renumbered by p.ty ∷ []) d.types_are ∙ one_type by before p;
  there = one_there scope.structs before p d.there there;
  follows =
      let e : 0 + length before ≡ length before = omega arith in
      subst (FollowsInBlockBy by (with_named p.name (renumbered by p.ty) t)) (sym (one_behind (with_block scope) 0 before p))
      (follows_named by t (with_parameters (with_block scope) 0 before) d.follows (0 + length before) p.name p.ty
      (subst (λ structs. IsThere structs p.ty) (sym (structs_behind (with_block scope) 0 before)) there));
}

-- ---- what is seen

pub nothing_shown : (by : ℕ → ℕ) (scope : Scope) (some void : Bool) (types : List PlainType) (is_refused : Bool) (t : Tables) → some ≡ false → void ≡ false → types ≡ [] → is_refused ≡ false → FollowsInBlockBy by t (with_block scope)
    → IsStateOf by scope nothing_read some void (record { types = types; refused = is_refused; tables = t })
nothing_shown by scope some void types is_refused t is_some is_void none fits f = record {
  some_is = is_some;
  void_is = is_void;
  declares = record { fits = fits; types_are = none; there = tt; follows = f };
}

module _ (by : ℕ → ℕ) (scope : Scope) (defining : Bool) (behind : PlainToken) (tree : PlainTree) where
  abbrev also_refused : State → Bool → State
  also_refused s b = record s { refused = s.refused || b }

  abbrev judged : List Parameter → judging.Checked Parameter
  judged before = one_parameter defining (with_parameters (with_block scope) 0 before) before tree behind

  abbrev Adding : State → State → Type 0
  Adding s new = (s.refused ≡ true → new.refused ≡ true)
      × ((inner : Scope) (f : FollowsInBlock s.tables inner) (before : List Parameter) (behind : PlainToken) → HaveNames inner before
      → new ≡ added true (outcome_as (renumbered_parameter f.follows.by) (one_parameter defining inner before tree behind)) s)

  by_judged : (before : List Parameter) (s new : State) (c : judging.Checked Parameter) → ((p : Parameter) (bindings : List judging.Binding) → c ≡ judging.fine p bindings → IsThere scope.structs p.ty)
      → new ≡ added true (outcome_as (renumbered_parameter by) c) s → AreDeclared by scope before s.types s.refused s.tables
      → Declares by scope (outcome_as (λ p. before ++ p ∷ []) c) new.types new.refused new.tables
  by_judged before s new (judging.fine p bindings) there is d =
      subst (λ (n : State). AreDeclared by scope (before ++ p ∷ []) n.types n.refused n.tables) (sym is) (one_declared by scope before p s.types s.refused s.tables (there p bindings refl) d)
  by_judged before s new (judging.refused kind token) there is d = ap (λ (n : State). n.refused) is
  by_judged before s new judging.broken there is d = ap (λ (n : State). n.refused) is

  by_reading : (s new : State) (c : Checked (List Parameter) (Unit {0})) → Adding s new → Declares by scope c s.types s.refused s.tables
      → Declares by scope (bind c (with_next defining scope behind tree)) new.types new.refused new.tables
  by_reading s new (refused why) a d = a.0 d
  by_reading s new (fine before) a d =
      by_judged before s new (judged before)
      (λ p bindings is. subst (λ structs. IsThere structs p.ty) (structs_behind (with_block scope) 0 before)
      (whole_of (λ (p : Parameter). IsThere (with_parameters (with_block scope) 0 before).structs p.ty) (judged before) p bindings
      (parameter_there defining (with_parameters (with_block scope) 0 before) before s.tables d.follows.follows.follows tree behind) is))
      (a.1 (with_parameters (with_block scope) 0 before) d.follows.follows before behind (names_behind scope before)
      ∙ ap (λ (n : ℕ → ℕ). added true (outcome_as (renumbered_parameter n) (judged before)) s) d.follows.numbers)
      d

  not_refused : (s : State) → also_refused s false ≡ s
  not_refused s = ap (λ b. record s { refused = b }) (or_false s.refused)

  by_flags : (void is_void some : Bool) (s new : State) (c : Checked (List Parameter) (Unit {0})) → Adds defining true is_void tree (also_refused s (void || (is_void && some))) new
      → Declares by scope c s.types s.refused s.tables
      → Declares by scope (if void || (is_void && some) then refused tt else if is_void then c else bind c (with_next defining scope behind tree)) new.types new.refused new.tables
  by_flags void is_void some s new c a d = flagged (void || (is_void && some)) is_void a
    where
      flagged : (beside v : Bool) → Adds defining true v tree (also_refused s beside) new
          → Declares by scope (if beside then refused tt else if v then c else bind c (with_next defining scope behind tree)) new.types new.refused new.tables
      flagged true v a = a.keeps (or_true s.refused)
      flagged false true a = subst (λ (n : State). Declares by scope c n.types n.refused n.tables) (sym (a.void_adds refl ∙ not_refused s)) d
      flagged false false a =
          let e = subst (λ (n : State). Adds defining true false tree n new) (not_refused s) a in by_reading s new c (e.keeps, e.adds refl refl) d

  -- what is shown goes on by a tree where a condition is true
  pub shown_next : (here is_void some void some_ void_ : Bool) (r : Reading) (s new : State) → is_void ≡ is_void_node tree → some_ ≡ (some || here) → void_ ≡ (void || (is_void && here))
      → Adds defining here is_void tree (also_refused s (here && (void || (is_void && some)))) new → IsStateOf by scope r some void s
      → IsStateOf by scope (if here then goes_on defining scope behind r tree else r) some_ void_ new
  shown_next false is_void some void some_ void_ r s new v is_some is_void_ a shown = record {
    some_is = is_some ∙ or_false some ∙ shown.some_is;
    void_is = is_void_ ∙ (ap (λ b. void || b) (and_false is_void) ∙ or_false void) ∙ shown.void_is;
    declares = subst (λ (n : State). Declares by scope r.parameters n.types n.refused n.tables) (sym (a.elsewhere refl ∙ not_refused s)) shown.declares;
  }
    where
      and_false : (b : Bool) → (b && false) ≡ false
      and_false true = refl
      and_false false = refl
  shown_next true is_void some void some_ void_ r s new v is_some is_void_ a shown = record {
    some_is = is_some ∙ or_true some;
    void_is = is_void_ ∙ ap₂ (λ a b. a || b) shown.void_is (and_true is_void ∙ v);
    declares =
        subst (λ p. Declares by scope p new.types new.refused new.tables)
        (ap (λ b. if b || (is_void && some) then refused tt else if is_void then r.parameters else bind r.parameters (with_next defining scope behind tree)) shown.void_is
        ∙ ap (λ b. if r.void || (is_void && b) then refused tt else if is_void then r.parameters else bind r.parameters (with_next defining scope behind tree)) shown.some_is
        ∙ ap (λ b. if r.void || (b && r.some) then refused tt else if b then r.parameters else bind r.parameters (with_next defining scope behind tree)) v)
        (by_flags void is_void some s new r.parameters a shown.declares);
  }
    where
      and_true : (b : Bool) → (b && true) ≡ b
      and_true true = refl
      and_true false = refl
