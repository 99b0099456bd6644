-- Tokens and nodes among parts.
use Rattle.std.proofs.Common.{◌≡◌, ℕ, Bool, true, false, not, ◌||◌, ◌&&◌, List, IsTrue, refl, sym, ap, subst, ◌∙◌}
use Rattle.std.specs.Prelude.{if◌then◌else◌}
use Rattle.std.proofs.lemmas.Bool.{false≢true}
use Rattle.c_text.specs.Token.{PlainToken}
use Rattle.c_types.specs.Types.{PlainType}
use Rattle.c_tree.specs.declared.kinds.Kind.{Kind}
use Rattle.c_tree.specs.declared.kinds.Kind.TheVariants as k
use Rattle.c_tree.specs.Trees.{PlainTree, PlainTrees, leaf, node, none, more}
use Rattle.conditional.specs.Entries.{Entry, Stands}
use Rattle.core_meaning.specs.Checking.{Checked, fine, refused, broken}
use Rattle.core_meaning.specs.Entities.{Scope}
use Rattle.core_meaning.specs.Declarations.{Locals, judged_locals}
use Rattle.operand_types.specs.OperandTypes.{renumbered}
use Rattle.expression_types.specs.Reading.{is_operand}
use Rattle.statement_readings.specs.Walks.{State, use_in, is_loop, scope_in, with_locals, leave, expression_refused, expression_read, left_out, node_read, walk_parts}
use Rattle.type_tables.specs.Tables.{Tables}
use Rattle.type_tables.specs.Follows.{FollowsInBlock}
use Rattle.type_tables.specs.Numbers.{FollowsBy, FollowsInBlockBy}
use Rattle.cond_statements.specs.declared.roles.Role.{Role}
use Rattle.cond_statements.specs.declared.roles.Role.TheVariants.{LeftOut, Declaration, Scoped, Parts, Jump, Expression}
use Rattle.cond_statements.specs.Roles.{role_of}
use Rattle.cond_statements.specs.Following.{Declared}
use Rattle.cond_statements.specs.Ready.{may_declare, has_items, IsDerived, IsExpression, NodeReady, Ready}
use Rattle.cond_statements.specs.Results.{absence_refused}
use Rattle.cond_statements.specs.Readings.{first_behind, Stand, is_quiet, Arrives, Reads, ReadsBlock}
use Rattle.cond_statements.proofs.Standing.{followed, later, standing, still_there}
use Rattle.cond_statements.proofs.KindsOfNodes.{opened, Opens, Quiet, Partwise, listed, quietly, IsRead, Plays, plays_role}

-- ---- what is visible behind a node

out_scope : (result : PlainType) (around : Kind) (s : State) → (left_out result around s).scope ≡ s.scope
out_scope result k.Return s = refl
out_scope result _ s = refl

node_scope :
    (result : PlainType) (in_loop : Bool) (around : Kind) (turned first : Bool) (kind : Kind) (role : Role) → Plays kind role → (parts : PlainTrees) (inner : State → State) → may_declare around first ≡ false → has_items around ≡ false
    → (Quiet kind → Ready kind true parts → (s : State) → (inner s).scope ≡ s.scope) → NodeReady around first kind parts (Ready kind true parts) → (s : State) → (node_read result in_loop around turned kind parts inner s).scope ≡ s.scope
node_scope result in_loop around turned first kind LeftOut plays parts inner d l within ready s =
    ap (λ (n : Kind). (node_read result in_loop around turned n parts inner s).scope) plays ∙ out_scope result around s
node_scope result in_loop around turned first kind Declaration plays parts inner d l within ready s =
    let r : IsTrue (may_declare around first) × IsDerived (node k.LocalDeclaration parts) = subst (λ (n : Kind). NodeReady around first n parts (Ready n true parts)) plays ready in
    absurd (false≢true (sym d ∙ r.0))
node_scope result in_loop around turned first kind Scoped plays parts inner d l within ready s = ap (λ (t : State). t.scope) (plays.reads result in_loop around turned parts inner s)
node_scope result in_loop around turned first kind Parts (listed e) parts inner d l within ready s =
    let r : IsTrue (has_items around) × Ready k.Items true parts = subst (λ (n : Kind). NodeReady around first n parts (Ready n true parts)) e ready in
    absurd (false≢true (sym l ∙ r.0))
node_scope result in_loop around turned first kind Parts (quietly q) parts inner d l within ready s =
    ap (λ (t : State). t.scope) (q.reads result in_loop around turned parts inner s) ∙ within q (q.ready around first parts ready) s
node_scope result in_loop around turned first kind Jump plays parts inner d l within ready s =
    ap (λ (n : Kind). (node_read result in_loop around turned n parts inner s).scope) plays
node_scope result in_loop around turned first kind Expression plays parts inner d l within ready s = ap (λ (t : State). t.scope) (plays.reads result in_loop around turned parts inner s)

either_scope : (o : Bool) (a b s : State) → a.scope ≡ s.scope → b.scope ≡ s.scope → (if o then a else b).scope ≡ s.scope
either_scope true a b s h i = h
either_scope false a b s h i = i

-- what is visible is so again behind the parts of a node among which nothing is declared
pub quiet_scope :
    (result : PlainType) (in_loop : Bool) (kind : Kind) → Quiet kind → (turned first : Bool) (parts : PlainTrees) → Ready kind first parts → (s : State) → (walk_parts result in_loop kind turned parts s).scope ≡ s.scope
quiet_scope result in_loop kind q turned first none ready s = refl
quiet_scope result in_loop kind q turned first (more (leaf token) rest) ready s =
    either_scope (is_operand token) _ _ s (quiet_scope result in_loop kind q turned first rest ready (expression_read result kind turned (leaf token) s))
    (quiet_scope result in_loop kind q (turned || Rattle.statement_readings.specs.Walks.turns kind token) first rest ready s)
quiet_scope result in_loop kind q turned first (more (node inner parts) rest) ready s =
    quiet_scope result in_loop kind q turned false rest ready.1 (node_read result in_loop kind turned inner parts (walk_parts result (is_loop inner || in_loop) inner false parts) s)
    ∙ node_scope result in_loop kind turned first inner (role_of inner) (plays_role inner) parts (walk_parts result (is_loop inner || in_loop) inner false parts) (q.declares first) q.lists
    (λ quiet ready t. quiet_scope result (is_loop inner || in_loop) inner quiet false true parts ready t) ready.0 s

-- ---- declarations

-- what a declaration among the parts of a node is to what is visible
pub record Declaring (around : Kind) (first : Bool) : Type 0 where
  pub before : (by : ℕ → ℕ) (t : Tables) (scope : Scope) → Stand around first by t scope → FollowsInBlockBy by t (scope_in around scope)
  pub behind : (by : ℕ → ℕ) (t : Tables) (scope : Scope) → FollowsInBlockBy by t scope → Stand around false by t scope
  pub loud : is_quiet around ≡ false

pub declaring : (around : Kind) (first : Bool) → may_declare around first ≡ true → Declaring around first
declaring k.Items first h = record { before = λ by t scope stand. stand; behind = λ by t scope f. f; loud = refl }
declaring k.For true h = record { before = λ by t scope stand. stand; behind = λ by t scope f. followed by t scope f; loud = refl }
declaring k.For false h = absurd (false≢true h)
declaring _ first h = absurd (false≢true h)

declared_arrives :
    (around : Kind) (by : ℕ → ℕ) (old new : Tables) (found : Bool) (m : Checked Locals) (s : State) → s.refused ≡ false → ((scope : Scope) → FollowsInBlockBy by new scope → Stand around false by new scope) → is_quiet around ≡ false
    → Declared by m found new → Arrives around false by old new found (with_locals s m)
declared_arrives around by old new found (fine locals bindings) s f behind loud is = record {
  refused_is = is.0 ∙ sym f;
  stands = λ e. behind locals.scope is.1;
  same = λ q e. absurd (false≢true (sym loud ∙ q));
}
declared_arrives around by old new found (refused kind token) s f behind loud is = record { refused_is = is; stands = λ e. absurd (false≢true (sym e)); same = λ q e. absurd (false≢true (sym e)) }
declared_arrives around by old new found broken s f behind loud is = record { refused_is = is; stands = λ e. absurd (false≢true (sym e)); same = λ q e. absurd (false≢true (sym e)) }

pub only_block : (around : Kind) → has_items around ≡ true → around ≡ k.Block
only_block k.Block h = refl
only_block _ h = absurd (false≢true h)

fine_or : (b c : Bool) → b ≡ false → c ≡ (b || c)
fine_or b c h = sym (ap (λ a. a || c) h)

module _ (on : ℕ → Bool) (result : PlainType) (results : List (Entry PlainType)) (in_loop : Bool) (around : Kind) (turned : Bool) where
  pub declaration_read :
      (parts : PlainTrees) (when : Bool) (old new : Tables) (found : Bool) → (when ≡ false → (new ≡ old) × (found ≡ false))
      → (when ≡ true → (scope : Scope) (slots : List PlainType) (f : FollowsInBlock old scope) → IsDerived (node k.LocalDeclaration parts) → Declared f.follows.by (judged_locals scope slots parts) found new)
      → Reads on result results in_loop around turned (more (node k.LocalDeclaration parts) none) when old new found
  declaration_read parts when old new found elsewhere declared = record {
    same = λ h. (elsewhere h).0;
    accepted = λ h. (elsewhere h).1;
    arrives = λ h by s first f stands ready stand.
        let d = declaring around first ready.0.0 in
        let follows = d.before by old s.scope stand in
        declared_arrives around by old new found (judged_locals (scope_in around s.scope) s.slots parts) s f (λ scope g. d.behind by new scope g) d.loud
        (subst (λ (n : ℕ → ℕ). Declared n (judged_locals (scope_in around s.scope) s.slots parts) found new) follows.numbers (declared h (scope_in around s.scope) s.slots follows.follows ready.0.1));
  }

  -- ---- what changes nothing

  pub expression_node_read :
      (tree : PlainTree) (when : Bool) (t : Tables) (found : Bool) → ((s : State) → walk_parts result in_loop around turned (more tree none) s ≡ expression_read result around turned tree s)
      → ((first : Bool) → Ready around first (more tree none) → IsExpression tree) → (when ≡ false → found ≡ false)
      → (when ≡ true → (by : ℕ → ℕ) (scope : Scope) → Stands on (renumbered by result) results → FollowsBy by t scope → IsExpression tree → found ≡ expression_refused result scope (use_in around turned) tree)
      → ((first : Bool) (by : ℕ → ℕ) (scope : Scope) → Stand around first by t scope → Stand around (first_behind first (more tree none)) by t scope)
      → Reads on result results in_loop around turned (more tree none) when t t found
  expression_node_read tree when t found reads is elsewhere where_so behind = record {
    same = λ h. refl;
    accepted = elsewhere;
    arrives = λ h by s first f stands ready stand.
        still_there around (first_behind first (more tree none)) by t t found s (walk_parts result in_loop around turned (more tree none) s) (λ e. refl) (λ e. ap (λ (u : State). u.scope) (reads s))
        (where_so h by s.scope stands (standing around first by t s.scope stand) (is first ready)
        ∙ fine_or s.refused (expression_refused result s.scope (use_in around turned) tree) f ∙ sym (ap (λ (u : State). u.refused) (reads s)))
        (behind first by s.scope stand);
  }

  same_state : (o : Bool) (a s : State) → o ≡ false → (if o then a else s) ≡ s
  same_state o a s h = ap (λ b. if b then a else s) h

  first_state : (o : Bool) (a s : State) → o ≡ true → (if o then a else s) ≡ a
  first_state o a s h = ap (λ b. if b then a else s) h

  pub token_read : (token : PlainToken) (when : Bool) (t : Tables) (found : Bool) → is_operand token ≡ false → found ≡ false → Reads on result results in_loop around turned (more (leaf token) none) when t t found
  token_read token when t found other none_found = record {
    same = λ h. refl;
    accepted = λ h. none_found;
    arrives = λ h by s first f stands ready stand.
        still_there around first by t t found s (walk_parts result in_loop around turned (more (leaf token) none) s) (λ e. refl)
        (λ e. ap (λ (u : State). u.scope) (same_state (is_operand token) (expression_read result around turned (leaf token) s) s other))
        (none_found ∙ sym f ∙ sym (ap (λ (u : State). u.refused) (same_state (is_operand token) (expression_read result around turned (leaf token) s) s other))) stand;
  }

  pub operand_read :
      (token : PlainToken) (when : Bool) (t : Tables) (found : Bool) → is_operand token ≡ true → (when ≡ false → found ≡ false)
      → (when ≡ true → (by : ℕ → ℕ) (scope : Scope) → Stands on (renumbered by result) results → FollowsBy by t scope → IsExpression (leaf token) → found ≡ expression_refused result scope (use_in around turned) (leaf token))
      → Reads on result results in_loop around turned (more (leaf token) none) when t t found
  operand_read token when t found operand elsewhere where_so =
      expression_node_read (leaf token) when t found (λ s. first_state (is_operand token) (expression_read result around turned (leaf token) s) s operand)
      (λ first ready. record { level = 0; derivation = Rattle.tree_derivations.specs.Derivations.single operand }) elsewhere where_so (λ first by scope stand. stand)

  absence : (kind : Kind) (s : State) (found : Bool) → s.refused ≡ false → found ≡ absence_refused kind result → found ≡ (left_out result kind s).refused
  absence k.Return s found f h = h ∙ fine_or s.refused (absence_refused k.Return result) f
  absence _ s found f h = h ∙ sym f

  pub absence_read :
      (parts : PlainTrees) (when : Bool) (t : Tables) (found : Bool) → (when ≡ false → found ≡ false)
      → (when ≡ true → (by : ℕ → ℕ) → Stands on (renumbered by result) results → found ≡ absence_refused around result)
      → Reads on result results in_loop around turned (more (node k.Absent parts) none) when t t found
  absence_read parts when t found elsewhere where_so = record {
    same = λ h. refl;
    accepted = elsewhere;
    arrives = λ h by s first f stands ready stand.
        still_there around false by t t found s (left_out result around s) (λ e. refl) (λ e. out_scope result around s) (absence around s found f (where_so h by stands)) (later around first by t s.scope stand);
  }

  jumped : (when : Bool) (found : Bool) (s : State) → when ≡ true → s.refused ≡ false → found ≡ (when && not in_loop) → found ≡ (s.refused || not in_loop)
  jumped when found s h f is = is ∙ ap (λ b. b && not in_loop) h ∙ fine_or s.refused (not in_loop) f

  pub jump_read : (parts : PlainTrees) (when : Bool) (t : Tables) (found : Bool) → found ≡ (when && not in_loop) → Reads on result results in_loop around turned (more (node k.Jump parts) none) when t t found
  jump_read parts when t found is = record {
    same = λ h. refl;
    accepted = λ h. is ∙ ap (λ b. b && not in_loop) h;
    arrives = λ h by s first f stands ready stand.
        still_there around false by t t found s (node_read result in_loop around turned k.Jump parts (walk_parts result (is_loop k.Jump || in_loop) k.Jump false parts) s) (λ e. refl) (λ e. refl) (jumped when found s h f is)
        (later around first by t s.scope stand);
  }

  pub is_expression_read :
      (kind : Kind) → IsRead kind → (parts : PlainTrees) (when : Bool) (t : Tables) (found : Bool) → (when ≡ false → found ≡ false)
      → (when ≡ true → (by : ℕ → ℕ) (scope : Scope) → Stands on (renumbered by result) results → FollowsBy by t scope → IsExpression (node kind parts) → found ≡ expression_refused result scope (use_in around turned) (node kind parts))
      → Reads on result results in_loop around turned (more (node kind parts) none) when t t found
  is_expression_read kind plays parts when t found elsewhere where_so =
      expression_node_read (node kind parts) when t found (λ s. plays.reads result in_loop around turned parts (walk_parts result (is_loop kind || in_loop) kind false parts) s)
      (λ first ready. plays.ready around first parts ready.0) elsewhere where_so (λ first by scope stand. later around first by t scope stand)

  -- ---- what has parts of its own

  items_in_block :
      (first : Bool) (by : ℕ → ℕ) (old new : Tables) (found : Bool) (t : State) → is_quiet around ≡ false → ((scope : Scope) → FollowsInBlockBy by new scope → Stand around false by new scope)
      → Arrives k.Items first by old new found t → Arrives around false by old new found t
  items_in_block first by old new found t loud behind x =
      record { refused_is = x.refused_is; stands = λ e. behind t.scope (x.stands e); same = λ q e. absurd (false≢true (sym loud ∙ q)) }

  items_before : (first : Bool) (by : ℕ → ℕ) (t : Tables) (scope : Scope) → around ≡ k.Block → Stand around first by t scope → FollowsInBlockBy by t scope
  items_before first by t scope e stand = subst (λ (n : Kind). Stand n first by t scope) e stand

  items_behind : (by : ℕ → ℕ) (t : Tables) (scope : Scope) → around ≡ k.Block → FollowsInBlockBy by t scope → Stand around false by t scope
  items_behind by t scope e f = subst (λ (n : Kind). Stand n false by t scope) (sym e) f

  items_read : (parts : PlainTrees) (when : Bool) (old new : Tables) (found : Bool) → Reads on result results in_loop k.Items false parts when old new found
      → Reads on result results in_loop around turned (more (node k.Items parts) none) when old new found
  items_read parts when old new found x = record {
    same = x.same;
    accepted = x.accepted;
    arrives = λ h by s first f stands ready stand.
        let block : around ≡ k.Block = only_block around ready.0.0 in
        items_in_block (first_behind true parts) by old new found (walk_parts result in_loop k.Items false parts s) (ap is_quiet block) (λ scope g. items_behind by new scope block g)
        (x.arrives h by s true f stands ready.0.1 (items_before first by old s.scope block stand));
  }

  quiet_read : (kind : Kind) → Quiet kind → (parts : PlainTrees) (when : Bool) (old new : Tables) (found : Bool) → Reads on result results (is_loop kind || in_loop) kind false parts when old new found
      → Reads on result results in_loop around turned (more (node kind parts) none) when old new found
  quiet_read kind q parts when old new found x = record {
    same = x.same;
    accepted = x.accepted;
    arrives = λ h by s first f stands ready stand.
        let within = q.ready around first parts ready.0 in
        let inner = x.arrives h by s true f stands within (q.stands true by old s.scope (standing around first by old s.scope stand)) in
        let walk = walk_parts result (is_loop kind || in_loop) kind false parts s in
        let is : node_read result in_loop around turned kind parts (walk_parts result (is_loop kind || in_loop) kind false parts) s ≡ walk = q.reads result in_loop around turned parts (walk_parts result (is_loop kind || in_loop) kind false parts) s in
        subst (Arrives around false by old new found) (sym is)
        (still_there around false by old new found s walk (λ e. inner.same q.quiet e) (λ e. quiet_scope result (is_loop kind || in_loop) kind q false true parts within s) inner.refused_is (later around first by old s.scope stand));
  }

  pub partwise_read : (kind : Kind) → Partwise kind → (parts : PlainTrees) (when : Bool) (old new : Tables) (found : Bool) → Reads on result results (is_loop kind || in_loop) kind false parts when old new found
      → Reads on result results in_loop around turned (more (node kind parts) none) when old new found
  partwise_read kind (listed e) parts when old new found x =
      subst (λ (n : Kind). Reads on result results in_loop around turned (more (node n parts) none) when old new found) (sym e)
      (items_read parts when old new found (subst (λ (n : Kind). Reads on result results (is_loop n || in_loop) n false parts when old new found) e x))
  partwise_read kind (quietly q) parts when old new found x = quiet_read kind q parts when old new found x

  pub scoped_read : (kind : Kind) → Opens kind → (parts : PlainTrees) (when : Bool) (t : Tables) (found : Bool) → ReadsBlock on result results (is_loop kind || in_loop) kind parts when t found
      → Reads on result results in_loop around turned (more (node kind parts) none) when t t found
  scoped_read kind opens parts when t found x = record {
    same = λ h. refl;
    accepted = x.reads.accepted;
    arrives = λ h by s first f stands ready stand.
        let inner =
        x.reads.arrives h by (opened kind s) true (opens.refused s ∙ f) stands (opens.ready around first parts ready.0) (opens.stands by t s (standing around first by t s.scope stand)) in
        let is : node_read result in_loop around turned kind parts (walk_parts result (is_loop kind || in_loop) kind false parts) s ≡ leave s (walk_parts result (is_loop kind || in_loop) kind false parts (opened kind s)) =
        opens.reads result in_loop around turned parts (walk_parts result (is_loop kind || in_loop) kind false parts) s in
        subst (Arrives around false by t t found) (sym is)
        (still_there around false by t t found s (leave s (walk_parts result (is_loop kind || in_loop) kind false parts (opened kind s))) (λ e. refl) (λ e. refl) inner.refused_is (later around first by t s.scope stand));
  }
