-- Parts are noted one after the other.
use Rattle.std.proofs.Common.{◌≡◌, ℕ, Bool, true, false, ◌||◌, List, [], ◌++◌, refl, sym, ap, subst, ◌∙◌, append_assoc, append-nil}
use Rattle.std.specs.Prelude.{if◌then◌else◌, Option, Some, None}
use Rattle.std.proofs.lemmas.Bool.{false≢true}
use Rattle.c_text.specs.Token.{PlainToken}
use Rattle.c_tree.specs.declared.kinds.Kind.{Kind}
use Rattle.c_tree.specs.Trees.{PlainTree, PlainTrees, leaf, node, none, more}
use Rattle.choice_trees.specs.ChoiceTrees.{no_statement, with_part}
use Rattle.core_meaning.specs.Entities.{Scope}
use Rattle.expression_types.specs.Reading.{is_operand}
use Rattle.statement_readings.specs.Walks.{State, turns, is_loop, expression_read, node_read, walk_parts}
use Rattle.statement_readings.proofs.Steps.{Stays}
use Rattle.statement_readings.proofs.Parts.{parts_stay}
use Rattle.member_uses.specs.Uses.{Use}
use Rattle.member_uses.specs.Walks.{uses_in_node, uses_in_parts}
use Rattle.type_tables.specs.Tables.{Tables, FileName}
use Rattle.cond_statements.specs.Readings.{first_behind, Stand}
use Rattle.cond_member_uses.specs.Noted.{Noted, HasNames, Comes, Notes}
use Rattle.cond_member_uses.proofs.Pieces.{first_pieces, rest_pieces}

-- what isn't refused behind something wasn't refused before it
pub unrefused : (next : State → State) → Stays next → (s : State) → (next s).refused ≡ false → s.refused ≡ false
unrefused next stays s h = case s.refused refl
  where
    case : (b : Bool) → s.refused ≡ b → b ≡ false
    case true e = absurd (false≢true (sym h ∙ stays s e))
    case false e = refl

pub names_kept : (old new : Tables) → new.names ≡ old.names → HasNames old → HasNames new
names_kept old new same names = λ name n is. names name n (sym (ap (λ (t : List ℕ → Option FileName). t name) same) ∙ is)

pub comes_then :
    (kind : Kind) (first second : Bool) (by : ℕ → ℕ) (here there : Scope) (us vs : List Use) (a b c : Noted) → Comes kind first by here us a b → Comes kind second by there vs b c
    → Comes kind second by there (us ++ vs) a c
comes_then kind first second by here there us vs a b c one other = record {
  stands = other.stands;
  names = other.names ∙ one.names;
  same = λ q. other.same q ∙ one.same q;
  noted = other.noted ∙ (ap (λ l. l ++ vs) one.noted ∙ append_assoc a.uses us vs);
}

pub nothing_noted : (kind : Kind) (old : Noted) → Notes kind none old old
nothing_noted kind old = record {
  notes = λ by result in_loop turned first s names pieces ready stand fine. record { stands = stand; names = refl; same = λ q. refl; noted = sym (append-nil old.uses) };
}

-- a token uses nothing
pub token_noted : (kind : Kind) (token : PlainToken) (old : Noted) → Notes kind (more (leaf token) none) old old
token_noted kind token old = record {
  notes = λ by result in_loop turned first s names pieces ready stand fine. at by first (is_operand token) (expression_read result kind turned (leaf token) s) s refl stand;
}
  where
    at : (by : ℕ → ℕ) (first o : Bool) (x s : State) → x.scope ≡ s.scope → Stand kind first by old.tables s.scope → Comes kind first by (if o then x else s).scope (if o then [] else []) old old
    at by first true x s e stand = record { stands = subst (Stand kind first by old.tables) (sym e) stand; names = refl; same = λ q. refl; noted = sym (append-nil old.uses) }
    at by first false x s e stand = record { stands = stand; names = refl; same = λ q. refl; noted = sym (append-nil old.uses) }

module _ (kind : Kind) (first second : Bool) (by : ℕ → ℕ) (a b c : Noted) (walk : Bool → State → State) (uses : Bool → State → List Use) (stays : (turned : Bool) → Stays (walk turned))
    (others : (turned : Bool) (s : State) → b.tables.names ≡ a.tables.names → Stand kind first by b.tables s.scope → (walk turned s).refused ≡ false → Comes kind second by (walk turned s).scope (uses turned s) b c) where
  leaf_then : (o turned later : Bool) (x s : State) → ((if o then x else s).refused ≡ false → Comes kind first by (if o then x else s).scope (if o then [] else []) a b)
      → (if o then walk turned x else walk later s).refused ≡ false
      → Comes kind second by (if o then walk turned x else walk later s).scope (if o then uses turned x else uses later s) a c
  leaf_then true turned later x s one fine =
      let head = one (unrefused (walk turned) (stays turned) x fine) in
      comes_then kind first second by x.scope (walk turned x).scope [] (uses turned x) a b c head (others turned x head.names head.stands fine)
  leaf_then false turned later x s one fine =
      let head = one (unrefused (walk later) (stays later) s fine) in
      comes_then kind first second by s.scope (walk later s).scope [] (uses later s) a b c head (others later s head.names head.stands fine)

  node_then : (turned : Bool) (t : State) (us : List Use) → (t.refused ≡ false → Comes kind first by t.scope (us ++ []) a b) → (walk turned t).refused ≡ false
      → Comes kind second by (walk turned t).scope (us ++ uses turned t) a c
  node_then turned t us one fine =
      let head = one (unrefused (walk turned) (stays turned) t fine) in
      subst (λ l. Comes kind second by (walk turned t).scope (l ++ uses turned t) a c) (append-nil us)
      (comes_then kind first second by t.scope (walk turned t).scope (us ++ []) (uses turned t) a b c head (others turned t head.names head.stands fine))

-- a part, and those behind it
pub then_noted : (kind : Kind) (tree : PlainTree) (rest : PlainTrees) (a b c : Noted) → Notes kind (more tree none) a b → Notes kind rest b c → Notes kind (more tree rest) a c
then_noted kind (leaf token) rest a b c one others = record {
  notes = λ by result in_loop turned first s names pieces ready stand fine.
      let head = one.notes by result in_loop turned first s names (first_pieces (leaf token) rest pieces) tt stand in
      leaf_then kind first (first_behind first rest) by a b c (λ turned t. walk_parts result in_loop kind turned rest t) (λ turned t. uses_in_parts by result in_loop kind turned rest t)
      (λ turned. parts_stay result in_loop kind turned rest)
      (λ turned t same stand fine. others.notes by result in_loop turned first t (names_kept a.tables b.tables same names) (rest_pieces (leaf token) rest pieces) ready stand fine)
      (is_operand token) turned (turned || turns kind token) (expression_read result kind turned (leaf token) s) s head fine;
}
then_noted kind (node inner parts) rest a b c one others = record {
  notes = λ by result in_loop turned first s names pieces ready stand fine.
      let read = node_read result in_loop kind turned inner parts (walk_parts result (is_loop inner || in_loop) inner false parts) s in
      let head = one.notes by result in_loop turned first s names (first_pieces (node inner parts) rest pieces) (ready.0, tt) stand in
      node_then kind false (first_behind false rest) by a b c (λ turned t. walk_parts result in_loop kind turned rest t) (λ turned t. uses_in_parts by result in_loop kind turned rest t)
      (λ turned. parts_stay result in_loop kind turned rest)
      (λ turned t same stand fine. others.notes by result in_loop turned false t (names_kept a.tables b.tables same names) (rest_pieces (node inner parts) rest pieces) ready.1 stand fine)
      turned read (uses_in_node by result kind inner parts (uses_in_parts by result (is_loop inner || in_loop) inner false parts) s) head fine;
}

-- no part, and those behind it
none_then : (kind : Kind) (rest : PlainTrees) (a b c : Noted) → Notes kind none a b → Notes kind rest b c → Notes kind rest a c
none_then kind rest a b c one others = record {
  notes = λ by result in_loop turned first s names pieces ready stand fine.
      let head = one.notes by result in_loop turned first s names tt tt stand (unrefused (walk_parts result in_loop kind turned rest) (parts_stay result in_loop kind turned rest) s fine) in
      comes_then kind first (first_behind first rest) by s.scope (walk_parts result in_loop kind turned rest s).scope [] (uses_in_parts by result in_loop kind turned rest s) a b c head
      (others.notes by result in_loop turned first s (names_kept a.tables b.tables head.names names) pieces ready head.stands fine);
}

-- a part, if there is one, and those behind it
pub part_then :
    (kind : Kind) (needed : Bool) (part : Option PlainTree) (rest : PlainTrees) (a b c : Noted) → Notes kind (with_part needed part none) a b → Notes kind rest b c → Notes kind (with_part needed part rest) a c
part_then kind true None rest a b c one others = then_noted kind no_statement rest a b c one others
part_then kind false None rest a b c one others = none_then kind rest a b c one others
part_then kind true (Some tree) rest a b c one others = then_noted kind tree rest a b c one others
part_then kind false (Some tree) rest a b c one others = then_noted kind tree rest a b c one others
