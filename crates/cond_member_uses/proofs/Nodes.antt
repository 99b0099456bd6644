-- Nodes among parts are noted by what their kinds say.
use Rattle.std.proofs.Common.{◌≡◌, ℕ, Bool, true, false, not, ◌||◌, List, [], ◌++◌, refl, sym, ap, subst, ◌∙◌, append-nil}
use Rattle.std.proofs.lemmas.Bool.{false≢true}
use Rattle.c_types.specs.Types.{PlainType}
use Rattle.c_tree.specs.declared.kinds.Kind.{Kind}
use Rattle.c_tree.specs.declared.kinds.Kind.TheVariants as k
use Rattle.c_tree.specs.Trees.{PlainTree, PlainTrees, node, none, more}
use Rattle.choice_trees.specs.ChoiceTrees.{semicolon, no_statement}
use Rattle.core_meaning.specs.declared.refusals.TypeKind.TheVariants.{Misplaced}
use Rattle.core_meaning.specs.Checking.{Binding, Checked, fine, refused, broken, with_bindings, ◌>>=◌, unless_so, found_or}
use Rattle.core_meaning.specs.Entities.{Scope}
use Rattle.core_meaning.specs.Typing.{fits_into}
use Rattle.core_meaning.specs.Expressions.{judged, valued, is_void}
use Rattle.core_meaning.specs.Declarations.{Locals, judged_locals}
use Rattle.statement_readings.specs.Walks.{State, Use as Usage, condition, discarded, returned, use_in, is_loop, scope_in, is_refused, with_locals, expression_refused, left_out, node_read, walk_parts}
use Rattle.member_uses.specs.Uses.{Use, uses_in, uses_among}
use Rattle.member_uses.specs.Walks.{uses_in_node, uses_in_parts}
use Rattle.type_tables.specs.Tables.{Tables}
use Rattle.type_tables.specs.Numbers.{FollowsInBlockBy}
use Rattle.cond_statements.specs.declared.roles.Role.TheVariants.{Scoped, Parts, Expression}
use Rattle.cond_statements.specs.Readings.{Stand, is_quiet}
use Rattle.cond_statements.proofs.Standing.{later, standing}
use Rattle.cond_statements.proofs.KindsOfNodes.{opened, Opens, Quiet, Partwise, listed, quietly, IsRead, plays_role}
use Rattle.cond_statements.proofs.Nodes.{quiet_scope, declaring, only_block}
use Rattle.cond_member_uses.specs.Noted.{Noted, Comes, Notes, NotesExpression, NotesBlock, NotesLocals}
use Rattle.cond_member_uses.proofs.Composing.{token_noted, then_noted}
use Rattle.cond_member_uses.proofs.NodeUses.{UsesAs, uses_by_role}

-- ---- what isn't refused is fine

pub record IsFine {A : Type 0} (m : Checked A) : Type 0 where
  pub value : A
  pub bindings : List Binding
  pub is : m ≡ fine value bindings

is_fine : {A : Type 0} (m : Checked A) → is_refused m ≡ false → IsFine m
is_fine (fine x bindings) h = record { value = x; bindings = bindings; is = refl }
is_fine (refused kind token) h = absurd (false≢true (sym h))
is_fine broken h = absurd (false≢true (sym h))

first_fine : {A B : Type 0} (m : Checked A) (next : A → Checked B) → is_refused (m >>= next) ≡ false → IsFine m
first_fine (fine x bindings) next h = record { value = x; bindings = bindings; is = refl }
first_fine (refused kind token) next h = absurd (false≢true (sym h))
first_fine broken next h = absurd (false≢true (sym h))

with_unrefused : {A : Type 0} (before : List Binding) (m : Checked A) → is_refused (with_bindings before m) ≡ false → is_refused m ≡ false
with_unrefused before (fine x bindings) h = refl
with_unrefused before (refused kind token) h = h
with_unrefused before broken h = h

valued_fine : (scope : Scope) (tree : PlainTree) → is_refused (valued scope tree) ≡ false → IsFine (judged scope tree)
valued_fine scope tree h = first_fine (judged scope tree) _ h

returned_fine : (b : Bool) (scope : Scope) (tree : PlainTree) (result : PlainType)
    → is_refused (unless_so b Misplaced semicolon >>= (λ placed. valued scope tree >>= (λ x. found_or (fits_into result x) Misplaced semicolon))) ≡ false → IsFine (judged scope tree)
returned_fine true scope tree result h =
    let given = first_fine (valued scope tree) (λ x. found_or (fits_into result x) Misplaced semicolon) (with_unrefused [] _ h) in
    valued_fine scope tree (ap is_refused given.is)
returned_fine false scope tree result h = absurd (false≢true (sym h))

expression_fine : (result : PlainType) (scope : Scope) (usage : Usage) (tree : PlainTree) → expression_refused result scope usage tree ≡ false → IsFine (judged scope tree)
expression_fine result scope condition tree h = first_fine (judged scope tree) _ h
expression_fine result scope discarded tree h = valued_fine scope tree h
expression_fine result scope returned tree h = returned_fine (not (is_void result)) scope tree result h

or_second : (a b : Bool) → (a || b) ≡ false → b ≡ false
or_second true b h = absurd (false≢true (sym h))
or_second false b h = h

-- ---- what changes nothing that is visible

-- nothing but what is noted has changed
kept : (around : Kind) (first : Bool) (by : ℕ → ℕ) (s t : State) (us vs : List Use) (a b : Noted) → b.tables ≡ a.tables → t.scope ≡ s.scope → vs ≡ us → b.uses ≡ a.uses ++ us → Stand around first by a.tables s.scope
    → Comes around false by t.scope vs a b
kept around first by s t us vs a b same there is noted stand = record {
  stands = subst (λ (u : Tables). Stand around false by u t.scope) (sym same) (subst (Stand around false by a.tables) (sym there) (later around first by a.tables s.scope stand));
  names = ap (λ (u : Tables). u.names) same;
  same = λ q. same;
  noted = noted ∙ ap (λ l. a.uses ++ l) (sym is);
}

out_scope : (result : PlainType) (around : Kind) (s : State) → (left_out result around s).scope ≡ s.scope
out_scope result k.Return s = refl
out_scope result _ s = refl

module _ (around : Kind) (parts : PlainTrees) where
  pub absent_noted : (a : Noted) → Notes around (more (node k.Absent parts) none) a a
  absent_noted a = record {
    notes = λ by result in_loop turned first s names pieces ready stand fine.
        kept around first by s (left_out result around s) [] [] a a refl (out_scope result around s) refl (sym (append-nil a.uses)) stand;
  }

  pub jump_noted : (a : Noted) → Notes around (more (node k.Jump parts) none) a a
  jump_noted a = record {
    notes = λ by result in_loop turned first s names pieces ready stand fine.
        kept around first by s (node_read result in_loop around turned k.Jump parts (walk_parts result (is_loop k.Jump || in_loop) k.Jump false parts) s) [] [] a a refl refl refl (sym (append-nil a.uses)) stand;
  }

  pub expression_noted : (kind : Kind) → IsRead kind → UsesAs kind Expression → (a b : Noted) → NotesExpression (node kind parts) a b → Notes around (more (node kind parts) none) a b
  expression_noted kind plays uses a b x = record {
    notes = λ by result in_loop turned first s names pieces ready stand fine.
        let inner = walk_parts result (is_loop kind || in_loop) kind false parts in
        let reads = plays.reads result in_loop around turned parts inner s in
        let good = expression_fine result s.scope (use_in around turned) (node kind parts)
        (or_second s.refused (expression_refused result s.scope (use_in around turned) (node kind parts)) (ap (λ (t : State). t.refused) (sym reads) ∙ fine)) in
        kept around first by s (node_read result in_loop around turned kind parts inner s) (uses_in by (node kind parts) (judged s.scope (node kind parts)))
        (uses_in_node by result around kind parts (uses_in_parts by result (is_loop kind || in_loop) kind false parts) s ++ []) a b x.same (ap (λ (t : State). t.scope) reads)
        (append-nil (uses_in_node by result around kind parts (uses_in_parts by result (is_loop kind || in_loop) kind false parts) s)
        ∙ uses by result around parts (uses_in_parts by result (is_loop kind || in_loop) kind false parts) s)
        (x.notes by s.scope good.value good.bindings names pieces (plays.ready around first parts ready.0) (standing around first by a.tables s.scope stand) good.is) stand;
  }

  -- ---- what has parts of its own

  quiet_noted : (kind : Kind) → Quiet kind → UsesAs kind Parts → (a b : Noted) → Notes kind parts a b → Notes around (more (node kind parts) none) a b
  quiet_noted kind q uses a b x = record {
    notes = λ by result in_loop turned first s names pieces ready stand fine.
        let inner = walk_parts result (is_loop kind || in_loop) kind false parts in
        let reads = q.reads result in_loop around turned parts inner s in
        let within = q.ready around first parts ready.0 in
        let comes = x.notes by result (is_loop kind || in_loop) false true s names pieces within (q.stands true by a.tables s.scope (standing around first by a.tables s.scope stand))
        (ap (λ (t : State). t.refused) (sym reads) ∙ fine) in
        kept around first by s (node_read result in_loop around turned kind parts inner s) (uses_in_parts by result (is_loop kind || in_loop) kind false parts s)
        (uses_in_node by result around kind parts (uses_in_parts by result (is_loop kind || in_loop) kind false parts) s ++ []) a b (comes.same q.quiet)
        (ap (λ (t : State). t.scope) reads ∙ quiet_scope result (is_loop kind || in_loop) kind q false true parts within s)
        (append-nil (uses_in_node by result around kind parts (uses_in_parts by result (is_loop kind || in_loop) kind false parts) s)
        ∙ uses by result around parts (uses_in_parts by result (is_loop kind || in_loop) kind false parts) s)
        comes.noted stand;
  }

  items_before : (first : Bool) (by : ℕ → ℕ) (t : Tables) (scope : Scope) → around ≡ k.Block → Stand around first by t scope → FollowsInBlockBy by t scope
  items_before first by t scope e stand = subst (λ (n : Kind). Stand n first by t scope) e stand

  items_behind : (by : ℕ → ℕ) (t : Tables) (scope : Scope) → around ≡ k.Block → FollowsInBlockBy by t scope → Stand around false by t scope
  items_behind by t scope e f = subst (λ (n : Kind). Stand n false by t scope) (sym e) f

  items_noted : (a b : Noted) → Notes k.Items parts a b → Notes around (more (node k.Items parts) none) a b
  items_noted a b x = record {
    notes = λ by result in_loop turned first s names pieces ready stand fine.
        let block : around ≡ k.Block = only_block around ready.0.0 in
        let comes = x.notes by result in_loop false true s names pieces ready.0.1 (items_before first by a.tables s.scope block stand) fine in
        record {
          stands = items_behind by b.tables (walk_parts result in_loop k.Items false parts s).scope block comes.stands;
          names = comes.names;
          same = λ q. absurd (false≢true (ap is_quiet (sym block) ∙ q));
          noted = comes.noted ∙ ap (λ l. a.uses ++ l) (sym (append-nil (uses_in_parts by result in_loop k.Items false parts s)));
        };
  }

  pub partwise_noted : (kind : Kind) → Partwise kind → UsesAs kind Parts → (a b : Noted) → Notes kind parts a b → Notes around (more (node kind parts) none) a b
  partwise_noted kind (listed e) uses a b x =
      subst (λ (n : Kind). Notes around (more (node n parts) none) a b) (sym e) (items_noted a b (subst (λ (n : Kind). Notes n parts a b) e x))
  partwise_noted kind (quietly q) uses a b x = quiet_noted kind q uses a b x

  pub scoped_noted : (kind : Kind) → Opens kind → UsesAs kind Scoped → (a b : Noted) → NotesBlock kind parts a b → Notes around (more (node kind parts) none) a b
  scoped_noted kind opens uses a b x = record {
    notes = λ by result in_loop turned first s names pieces ready stand fine.
        let inner = walk_parts result (is_loop kind || in_loop) kind false parts in
        let reads = opens.reads result in_loop around turned parts inner s in
        let comes = x.notes.notes by result (is_loop kind || in_loop) false true (opened kind s) names pieces (opens.ready around first parts ready.0)
        (opens.stands by a.tables s (standing around first by a.tables s.scope stand)) (ap (λ (t : State). t.refused) (sym reads) ∙ fine) in
        kept around first by s (node_read result in_loop around turned kind parts inner s) (uses_in_parts by result (is_loop kind || in_loop) kind false parts (opened kind s))
        (uses_in_node by result around kind parts (uses_in_parts by result (is_loop kind || in_loop) kind false parts) s ++ []) a b x.same (ap (λ (t : State). t.scope) reads)
        (append-nil (uses_in_node by result around kind parts (uses_in_parts by result (is_loop kind || in_loop) kind false parts) s)
        ∙ uses by result around parts (uses_in_parts by result (is_loop kind || in_loop) kind false parts) s)
        comes.noted stand;
  }

  -- ---- declarations

  unrefused_locals : (m : Checked Locals) (s : State) → (with_locals s m).refused ≡ false → IsFine m
  unrefused_locals (fine locals bindings) s h = record { value = locals; bindings = bindings; is = refl }
  unrefused_locals (refused kind token) s h = absurd (false≢true (sym h))
  unrefused_locals broken s h = absurd (false≢true (sym h))

  pub locals_noted : (a b : Noted) → NotesLocals parts a b → Notes around (more (node k.LocalDeclaration parts) none) a b
  locals_noted a b x = record {
    notes = λ by result in_loop turned first s names pieces ready stand fine.
        let d = declaring around first ready.0.0 in
        let m = judged_locals (scope_in around s.scope) s.slots parts in
        let good = unrefused_locals m s fine in
        let found = x.notes by (scope_in around s.scope) s.slots good.value good.bindings names pieces ready.0.1 (d.before by a.tables s.scope stand) good.is in
        record {
          stands = subst (λ (c : Checked Locals). Stand around false by b.tables (with_locals s c).scope) (sym good.is) (d.behind by b.tables good.value.scope found.0);
          names = x.names;
          same = λ q. absurd (false≢true (sym d.loud ∙ q));
          noted = found.1 ∙ ap (λ l. a.uses ++ l) (sym (append-nil (uses_among by parts m)));
        };
  }

-- ---- a `;` that stands for a statement

pub no_statement_noted : (around : Kind) (a : Noted) → Notes around (more no_statement none) a a
no_statement_noted around a =
    partwise_noted around _ k.ExpressionStatement (plays_role k.ExpressionStatement) (uses_by_role k.ExpressionStatement) a a
    (then_noted k.ExpressionStatement (node k.Absent none) _ a a a (absent_noted k.ExpressionStatement none a) (token_noted k.ExpressionStatement semicolon a))
