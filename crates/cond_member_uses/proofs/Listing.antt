-- A list of declarators is noted one after the other.
use Rattle.std.proofs.Common.{◌≡◌, ℕ, Bool, true, false, ◌&&◌, List, [], ◌∷◌, ◌++◌, refl, sym, ap, subst, ◌∙◌, append-nil, append_assoc, if◌then◌else◌}
use Rattle.std.specs.Prelude.{⊤, Option, Some, None}
use Rattle.std.proofs.lemmas.Bool.{false≢true}
use Rattle.c_types.specs.Types.{PlainType}
use Rattle.c_tree.specs.Trees.{PlainTree, PlainTrees, leaf, none, more, all_written, spelled}
use Rattle.c_tree.specs.Grammar as grammar
use Rattle.c_tree.specs.Grammar.{Role, local}
use Rattle.tree_derivations.specs.Derivations as derivations
use Rattle.tree_derivations.specs.Derivations.{Derivation, last_plain, last_initialised, next_plain, next_initialised}
use Rattle.conditional.specs.Judgements as judgements
use Rattle.conditional.specs.declared.outcomes.Outcomes.{Outcomes}
use Rattle.bindings.specs.Laws.{ArePieces}
use Rattle.core_meaning.specs.Checking.{Binding, Checked, fine, refused, broken, ◌>>=◌, give}
use Rattle.core_meaning.specs.Entities.{Scope}
use Rattle.core_meaning.specs.Declarations.{Locals, one_local, locals_from}
use Rattle.operand_types.specs.OperandTypes.{renumbered}
use Rattle.operand_rules.specs.declared.operands.Refused.{Refused}
use Rattle.choice_expansions.specs.Steps.{after_each}
use Rattle.declarator_lists.specs.Lists.{Declared, declared, declared_in, trees_of}
use Rattle.declaration_readings.specs.Readings.{Going, after, goes_on, goes_through, IsSame, Slots, slots_of, next_local}
use Rattle.declaration_readings.specs.Laws.{LocalsAreRead}
use Rattle.declaration_readings.proofs.Lists.{one_alone, one_before, value_alone, value_before}
use Rattle.member_uses.specs.Uses.{Use}
use Rattle.member_uses.specs.Laws.{LocalsUseInitialisers}
use Rattle.member_uses.specs.Declarations.{IsDeclarator, uses_in_declared, uses_in_turn, uses_initially}
use Rattle.type_tables.specs.Tables.{known_in}
use Rattle.type_tables.specs.declared.entries.DeclaredType.{DeclaredType}
use Rattle.type_tables.specs.Follows.{IsThere}
use Rattle.type_tables.specs.Numbers.{FollowsInBlockBy}
use Rattle.cond_declarators.specs.Types.{ShowsType}
use Rattle.cond_statements.proofs.Standing.{followed}
use Rattle.cond_member_uses.specs.Noted.{Noted, HasNames, Where}
use Rattle.cond_member_uses.specs.Declared.{NotesOne, NotesList}
use Rattle.cond_member_uses.proofs.Noting.{names_followed, apart_by, known_by}
use Rattle.cond_member_uses.proofs.Composing.{names_kept}
use Rattle.cond_member_uses.proofs.Pieces.{first_pieces, rest_pieces}

-- ---- what is derived and spelt, declarator by declarator

abbrev pub AreReady : Role → List Declared → Type 0
AreReady role [] = ⊤
AreReady role (d ∷ others) = IsDeclarator role d × AreReady role others

same_tree : (a b : PlainTree) → ◌≡◌ {A = Option PlainTree} (Some a) (Some b) → a ≡ b
same_tree a b e = cc

alone : (role : Role) (tree : PlainTree) → Derivation (grammar.declarator role) tree → ArePieces (spelled tree) → IsDeclarator role (declared tree None)
alone role tree d spelt = record { declarator = d; declarator_pieces = spelt; initialiser = λ other is. absurd cc; initialiser_pieces = λ other is. absurd cc }

initialised :
    (role : Role) (tree value : PlainTree) → Derivation (grammar.declarator role) tree → ArePieces (spelled tree) → Derivation grammar.initialiser value → ArePieces (spelled value)
    → IsDeclarator role (declared tree (Some value))
initialised role tree value d spelt v value_spelt = record {
  declarator = d;
  declarator_pieces = spelt;
  initialiser = λ other is. subst (Derivation grammar.initialiser) (same_tree value other is) v;
  initialiser_pieces = λ other is. subst (λ t. ArePieces (spelled t)) (same_tree value other is) value_spelt;
}

pub are_ready : {role : Role} {parts : PlainTrees} → derivations.Declared role parts → ArePieces (all_written parts []) → AreReady role (declared_in (trees_of parts))
are_ready {role} (last_plain {tree = tree} d) spelt = subst (AreReady role) (sym (one_alone d)) (alone role tree d spelt, tt)
are_ready {role} (last_initialised {tree = tree} {value = value} {sign = sign} m d w v) spelt =
    let behind = rest_pieces tree (more (leaf sign) (more value none)) spelt in
    subst (AreReady role) (sym (value_alone d sign w v))
    (initialised role tree value d (first_pieces tree (more (leaf sign) (more value none)) spelt) v (rest_pieces (leaf sign) (more value none) behind), tt)
are_ready {role} (next_plain {tree = tree} {comma = comma} {rest = rest} d w others) spelt =
    let behind = rest_pieces tree (more (leaf comma) rest) spelt in
    subst (AreReady role) (sym (one_before d comma rest w)) (alone role tree d (first_pieces tree (more (leaf comma) rest) spelt), are_ready others (rest_pieces (leaf comma) rest behind))
are_ready {role} (next_initialised {tree = tree} {value = value} {sign = sign} {comma = comma} {rest = rest} m d w v x others) spelt =
    let signed = rest_pieces tree (more (leaf sign) (more value (more (leaf comma) rest))) spelt in
    let valued = rest_pieces (leaf sign) (more value (more (leaf comma) rest)) signed in
    let behind = rest_pieces value (more (leaf comma) rest) valued in
    subst (AreReady role) (sym (value_before d sign w v comma rest)) (
      initialised role tree value d (first_pieces tree (more (leaf sign) (more value (more (leaf comma) rest))) spelt) v (first_pieces value (more (leaf comma) rest) valued),
      are_ready others (rest_pieces (leaf comma) rest behind),
    )

-- ---- one declarator more

stays_refused : (ty : PlainType) (rest : List Declared) (g : Going Slots) → g.refused ≡ true → (after_each (goes_on (next_local ty)) g rest).refused ≡ true
stays_refused ty [] g h = h
stays_refused ty (d ∷ rest) g h = stays_refused ty rest (goes_on (next_local ty) g d) (one (next_local ty g.state d))
  where
    one : (c : Checked Slots) → (after g c).refused ≡ true
    one (fine s bindings) = h
    one (refused kind token) = refl
    one broken = refl

-- the locals of a declarator that isn't refused
record IsDeclared (m : Checked Locals) : Type 0 where
  locals : Locals
  bindings : List Binding
  is : m ≡ fine locals bindings

unrefused : (m : Checked Locals) (g : Going Slots) → g.refused ≡ false → (after g (m >>= (λ locals. give (slots_of locals)))).refused ≡ false → IsDeclared m
unrefused (fine locals bindings) g h e = record { locals = locals; bindings = bindings; is = refl }
unrefused (refused kind token) g h e = absurd (false≢true (sym e))
unrefused broken g h e = absurd (false≢true (sym e))

fine_before : (next : Going Slots) (rest : List Declared) (ty : PlainType) → (after_each (goes_on (next_local ty)) next rest).refused ≡ false → next.refused ≡ false
fine_before next rest ty h = by next.refused refl
  where
    by : (b : Bool) → next.refused ≡ b → b ≡ false
    by true e = absurd (false≢true (sym h ∙ stays_refused ty rest next e))
    by false e = refl

after_fine : (m : Checked Locals) (g : Going Slots) (locals : Locals) (bindings : List Binding) → m ≡ fine locals bindings
    → after g (m >>= (λ locals. give (slots_of locals))) ≡ record { state = slots_of locals; refused = g.refused }
after_fine m g locals bindings is = ap (λ (c : Checked Locals). after g (c >>= (λ locals. give (slots_of locals)))) is

module _ (law : LocalsUseInitialisers) (by : ℕ → ℕ) (on : ℕ → Bool) (base : Outcomes DeclaredType Refused) (scope : Scope) (ty : PlainType) (there : IsThere scope.structs ty)
    (shown : ShowsType on (judgements.fine (renumbered by ty)) base) (whole : Going Slots) (total : List Use) where
  abbrev here : Slots → Going Slots
  here s = record { state = s; refused = false }

  -- what is left of the list makes of this state what the list makes of the first one, and its uses are those that are left to be noted
  pub record At (rest : List Declared) (now : Noted) : Type 0 where
    pub state : Slots
    pub follows : FollowsInBlockBy by now.tables state.scope
    pub structs : state.scope.structs ≡ scope.structs
    pub rest_is : after_each (goes_on (next_local ty)) (here state) rest ≡ whole
    pub ready : AreReady local rest
    pub uses : now.uses ++ uses_in_turn by (next_local ty) (here state) rest ≡ total

  one_more : whole.refused ≡ false → (d : Declared) (rest : List Declared) (now new : Noted) → HasNames now.tables → NotesOne on base d.declarator d.initialiser now new → At (d ∷ rest) now → At rest new
  one_more fine_ d rest now new names x at =
      let s = at.state in
      let next = goes_on (next_local ty) (here s) d in
      let good = unrefused (one_local s.scope s.slots ty d.declarator d.initialiser) (here s) refl
      (fine_before next rest ty (ap (λ (g : Going Slots). g.refused) at.rest_is ∙ fine_)) in
      let goes = x.notes by s.scope s.slots ty good.locals good.bindings names at.ready.0 at.follows (subst (λ structs. IsThere structs ty) (sym at.structs) there) shown good.is in
      let is_next : next ≡ here (slots_of good.locals) = after_fine (one_local s.scope s.slots ty d.declarator d.initialiser) (here s) good.locals good.bindings good.is in
      let f = followed by now.tables s.scope at.follows in
      let used : uses_in_declared by (next_local ty) s d ≡ uses_initially (known_in new.tables) d.initialiser =
      law by (apart_by by now.tables s.scope f) ty d at.ready.0 s (names_followed now.tables s.scope f.follows names) (slots_of good.locals) (good.bindings ++ [])
      (ap (λ (c : Checked Locals). c >>= (λ locals. give (slots_of locals))) good.is) (known_in new.tables)
      (known_by by new.tables good.locals.scope (followed by new.tables good.locals.scope goes.follows)) in
      record {
        state = slots_of good.locals;
        follows = goes.follows;
        structs = goes.structs ∙ at.structs;
        rest_is = ap (λ (g : Going Slots). after_each (goes_on (next_local ty)) g rest) (sym is_next) ∙ at.rest_is;
        ready = at.ready.1;
        uses =
            ap (λ l. l ++ uses_in_turn by (next_local ty) (here (slots_of good.locals)) rest) goes.noted
            ∙ append_assoc now.uses (uses_initially (known_in new.tables) d.initialiser) (uses_in_turn by (next_local ty) (here (slots_of good.locals)) rest)
            ∙ ap (λ l. now.uses ++ (l ++ uses_in_turn by (next_local ty) (here (slots_of good.locals)) rest)) (sym used)
            ∙ ap (λ (g : Going Slots). now.uses ++ (uses_in_declared by (next_local ty) s d ++ uses_in_turn by (next_local ty) g rest)) (sym is_next)
            ∙ at.uses;
      }

  pub at_next :
      whole.refused ≡ false → (d : Declared) (holds : Bool) (before rest : List Declared) (now new : Noted) → before ≡ (if holds then d ∷ rest else rest) → HasNames now.tables
      → Where holds (NotesOne on base d.declarator d.initialiser) now new → At before now → At rest new
  at_next fine_ d true before rest now new is names x at = one_more fine_ d rest now new names (x.does refl) (subst (λ list. At list now) is at)
  at_next fine_ d false before rest now new is names x at = subst (At rest) (sym (x.elsewhere refl)) (subst (λ list. At list now) is at)

-- ---- the whole list

module _ (law : LocalsUseInitialisers) (read : LocalsAreRead) (on : ℕ → Bool) (base : Outcomes DeclaredType Refused) (list : PlainTrees) (path : Bool) (old : Noted) where
  abbrev first : Scope → List PlainType → Going Slots
  first scope slots = record { state = record { scope = scope; slots = slots }; refused = false }

  abbrev pub Reached : (by : ℕ → ℕ) (scope : Scope) (slots : List PlainType) (ty : PlainType) → IsThere scope.structs ty → ShowsType on (judgements.fine (renumbered by ty)) base → List Declared → Noted → Type 0
  Reached by scope slots ty there shown rest now =
      At law by on base scope ty there shown (goes_through (next_local ty) (first scope slots) list) (old.uses ++ uses_in_turn by (next_local ty) (first scope slots) (declared_in (trees_of list))) rest now

  pub record ListSoFar (rest : List Declared) (now : Noted) : Type 0 where
    pub off : path ≡ false → now ≡ old
    pub names : now.tables.names ≡ old.tables.names
    pub reached : path ≡ true → (by : ℕ → ℕ) (scope : Scope) (slots : List PlainType) (ty : PlainType) → HasNames old.tables → derivations.Declared local list → ArePieces (all_written list [])
        → FollowsInBlockBy by old.tables scope → (there : IsThere scope.structs ty) (shown : ShowsType on (judgements.fine (renumbered by ty)) base)
        → (goes_through (next_local ty) (first scope slots) list).refused ≡ false → Reached by scope slots ty there shown rest now

  pub list_begins : ListSoFar (declared_in (trees_of list)) old
  list_begins = record {
    off = λ h. refl;
    names = refl;
    reached = λ h by scope slots ty names derived spelt follows there shown fine_. record {
      state = record { scope = scope; slots = slots };
      follows = follows;
      structs = refl;
      rest_is = refl;
      ready = are_ready derived spelt;
      uses = refl;
    };
  }

  pub list_next :
      (d : Declared) (holds : Bool) (before rest : List Declared) (now new : Noted) → before ≡ (if holds then d ∷ rest else rest) → new.tables.names ≡ now.tables.names
      → Where (path && holds) (NotesOne on base d.declarator d.initialiser) now new → ListSoFar before now → ListSoFar rest new
  list_next d holds before rest now new is same x so_far = record {
    off = λ h. x.elsewhere (ap (λ b. b && holds) h) ∙ so_far.off h;
    names = same ∙ so_far.names;
    reached = λ h by scope slots ty names derived spelt follows there shown fine_.
        at_next law by on base scope ty there shown (goes_through (next_local ty) (first scope slots) list) (old.uses ++ uses_in_turn by (next_local ty) (first scope slots) (declared_in (trees_of list)))
        fine_ d holds before rest now new is (names_kept old.tables now.tables so_far.names names)
        (subst (λ b. Where (b && holds) (NotesOne on base d.declarator d.initialiser) now new) h x)
        (so_far.reached h by scope slots ty names derived spelt follows there shown fine_);
  }

  went_well : (g : Going Slots) (scope : Scope) (slots : List PlainType) (c : Checked Locals) (locals : Locals) (bindings : List Binding) → c ≡ fine locals bindings
      → IsSame g (after (first scope slots) (c >>= (λ locals. give (slots_of locals)))) → (g.refused ≡ false) × (g.state ≡ slots_of locals)
  went_well g scope slots c locals bindings is same =
      let to = subst (IsSame g) (after_fine c (first scope slots) locals bindings is) same in
      (to.refused, to.state refl)

  pub list_ends : (now : Noted) → ListSoFar [] now → Where path (NotesList on base list) old now
  list_ends now so_far = record {
    elsewhere = λ h. so_far.off h;
    does = λ h. record {
      names = so_far.names;
      notes = λ by scope slots ty locals bindings names ready follows there shown judged.
          let g = goes_through (next_local ty) (first scope slots) list in
          let well = went_well g scope slots (locals_from scope slots ty list) locals bindings judged (read ty (first scope slots) local list ready.0) in
          let at = so_far.reached h by scope slots ty names ready.0 ready.1 follows there shown well.0 in
          let last : at.state ≡ slots_of locals = ap (λ (x : Going Slots). x.state) at.rest_is ∙ well.1 in
          record {
            follows = subst (λ (s : Slots). FollowsInBlockBy by now.tables s.scope) last at.follows;
            structs = sym (ap (λ (s : Slots). s.scope.structs) last) ∙ at.structs;
            noted = sym (append-nil now.uses) ∙ at.uses;
          };
    };
  }
