-- The parts of a statement, one after the other, beside the judgements of what they are.
use Rattle.std.proofs.Common.{◌≡◌, ℕ, Bool, true, false, ◌||◌, List, [], ◌∷◌, ◌++◌, refl, sym, ap, ap₂, subst, ◌∙◌}
use Rattle.std.specs.Prelude.{nat_le, if◌then◌else◌}
use Rattle.c_text.specs.Token.{PlainToken}
use Rattle.c_types.specs.Types.{PlainType}
use Rattle.c_tree.specs.declared.kinds.Kind.{Kind}
use Rattle.c_tree.specs.declared.kinds.Kind.TheVariants as k
use Rattle.c_tree.specs.declared.terminals.Terminal.{Terminal}
use Rattle.c_tree.specs.declared.terminals.Terminal.TheVariants as t
use Rattle.c_tree.specs.Terminals.{terminal, is_one_of}
use Rattle.c_tree.specs.Trees.{PlainTree, PlainTrees, leaf, node, none, more}
use Rattle.c_tree.specs.Grammar.{expression, statement, level, is_statement}
use Rattle.c_tree.proofs.TerminalCases.{EachOf, one_of}
use Rattle.std.proofs.lemmas.Bool.{and_parts}
use Rattle.tree_derivations.specs.Derivations.{Derivation, single, made_of, IsWord}
use Rattle.core_meaning.specs.Checking.{Checked, ◌>>=◌}
use Rattle.core_meaning.specs.Entities.{Scope}
use Rattle.core_meaning.specs.Expressions.{judged}
use Rattle.core_meaning.specs.Declarations.{Locals, judged_locals}
use Rattle.core_meaning.specs.Statements.{Judged, judged_statement}
use Rattle.expression_types.specs.Reading.{is_operand}
use Rattle.bindings.specs.Bindings.{is_name}
use Rattle.bindings.proofs.Spellings.{no_name}
use Rattle.selections.specs.Laws.{HasNames}
use Rattle.statement_readings.specs.Walks.{State, turns, is_loop, scope_in, with_locals, expression_read, walk_parts, walk_statement}
use Rattle.statement_readings.proofs.Steps.{none_such}
use Rattle.statement_readings.proofs.Parts.{expression_part as expression_walked, statement_part as statement_walked}
use Rattle.member_uses.specs.Uses.{Use, names_in, names_among, using, structures_used, uses_in, uses_among}
use Rattle.member_uses.specs.Walks.{uses_in_node, uses_in_parts}
use Rattle.member_uses.proofs.Parts.{Part, names_of_node, word_names, part_then, known_then, part_as}
use Rattle.member_uses.proofs.Judged.{expression_uses}

-- a word that is no operand
abbrev pub IsOther : Terminal → Type 0
IsOther x = is_one_of (t.Name ∷ t.Number ∷ t.Character ∷ []) x ≡ false

-- behind a statement its scope is visible again
abbrev pub At : State → Judged → State → Type 0
At s j now = (now.scope ≡ s.scope) × (now.slots ≡ j.slots)

module _ (by : ℕ → ℕ) (result : PlainType) where
  -- what is said of a judgement and of the state that parts leave, where they use what is judged
  abbrev pub Rest : {B : Type 0} → Bool → Kind → Bool → PlainTrees → State → (B → State → Type 0) → Checked B → Type 0
  Rest in_loop kind turned parts s P m =
      Part by (λ y u. P y (walk_parts result in_loop kind turned parts s) × (u ≡ uses_in_parts by result in_loop kind turned parts s)) m (names_among parts)

  module _ {B : Type 0} (P : B → State → Type 0) (in_loop : Bool) (kind : Kind) where
    -- a word
    pub word_step : (turned next : Bool) (token : PlainToken) (rest : PlainTrees) (s : State) (m : Checked B) → is_operand token ≡ false → (turned || turns kind token) ≡ next → is_name token ≡ false
        → Rest in_loop kind next rest s P m → Rest in_loop kind turned (more (leaf token) rest) s P m
    word_step turned next token rest s m operand turning named h =
        subst (Part by (λ y u. P y (walk_parts result in_loop kind turned (more (leaf token) rest) s) × (u ≡ uses_in_parts by result in_loop kind turned (more (leaf token) rest) s)) m) (sym (word_names token rest named))
        (subst (λ (b : Bool). Part by (λ y u. P y (if b then walk_parts result in_loop kind turned rest (expression_read result kind turned (leaf token) s) else walk_parts result in_loop kind (turned || turns kind token) rest s)
        × (u ≡ (if b then uses_in_parts by result in_loop kind turned rest (expression_read result kind turned (leaf token) s) else uses_in_parts by result in_loop kind (turned || turns kind token) rest s))) m (names_among rest)) (sym operand)
        (subst (λ b. Rest in_loop kind b rest s P m) (sym turning) h))

    pub word_rest : (ts : List Terminal) → EachOf IsOther ts → is_one_of ts t.Name ≡ false → (token : PlainToken) (rest : PlainTrees) → IsWord ts token → ((token : PlainToken) → turns kind token ≡ false)
        → (s : State) (m : Checked B) → Rest in_loop kind false rest s P m → Rest in_loop kind false (more (leaf token) rest) s P m
    word_rest ts never free token rest w still s m h =
        word_step false false token rest s m (one_of IsOther ts (terminal token) w never) (still token) (no_name ts token free w) h

    -- ---- a part, and what stands behind it

    pub parts_then : {A : Type 0} (Q : A → State → Type 0) (turned : Bool) (tree : PlainTree) (rest : PlainTrees) (s now : State) (us : List Use) (m : Checked A) (next : A → Checked B)
        → walk_parts result in_loop kind turned (more tree rest) s ≡ walk_parts result in_loop kind turned rest now
        → uses_in_parts by result in_loop kind turned (more tree rest) s ≡ us ++ uses_in_parts by result in_loop kind turned rest now
        → Part by (λ x u. Q x now × (u ≡ us)) m (names_in tree) → ((x : A) → Q x now → Rest in_loop kind turned rest now P (next x))
        → Rest in_loop kind turned (more tree rest) s P (m >>= next)
    parts_then Q turned tree rest s now us m next walked used h others =
        part_then by (λ x u. Q x now × (u ≡ us)) (λ y u. P y (walk_parts result in_loop kind turned (more tree rest) s) × (u ≡ uses_in_parts by result in_loop kind turned (more tree rest) s)) (names_in tree) (names_among rest) m next h
        (λ x u q. part_as by (λ y v. P y (walk_parts result in_loop kind turned rest now) × (v ≡ uses_in_parts by result in_loop kind turned rest now))
        (λ y v. P y (walk_parts result in_loop kind turned (more tree rest) s) × ((u ++ v) ≡ uses_in_parts by result in_loop kind turned (more tree rest) s)) (names_among rest) (next x) (others x q.0)
        (λ y v r. (subst (P y) (sym walked) r.0, ap₂ (λ a b. a ++ b) q.1 r.1 ∙ sym used)))

    -- ---- expressions

    expression_node : (turned : Bool) (inner : Kind) (parts : PlainTrees) (f : State → List Use) (s : State) → nat_le 1 (level inner) ≡ true
        → uses_in_node by result kind inner parts f s ≡ uses_in by (node inner parts) (judged s.scope (node inner parts))
    expression_node turned k.Absent parts f s h = none_such h
    expression_node turned k.Jump parts f s h = none_such h
    expression_node turned k.LocalDeclaration parts f s h = none_such h
    expression_node turned k.Block parts f s h = none_such h
    expression_node turned k.For parts f s h = none_such h
    expression_node turned k.Items parts f s h = none_such h
    expression_node turned k.ExpressionStatement parts f s h = none_such h
    expression_node turned k.If parts f s h = none_such h
    expression_node turned k.Else parts f s h = none_such h
    expression_node turned k.While parts f s h = none_such h
    expression_node turned k.Do parts f s h = none_such h
    expression_node turned k.ForStart parts f s h = none_such h
    expression_node turned k.Return parts f s h = none_such h
    expression_node turned _ parts f s h = refl

    expression_used : {n : ℕ} {tree : PlainTree} → Derivation (expression n) tree → (turned : Bool) (rest : PlainTrees) (s : State)
        → uses_in_parts by result in_loop kind turned (more tree rest) s ≡ expression_uses by s.scope tree ++ uses_in_parts by result in_loop kind turned rest (expression_read result kind turned tree s)
    expression_used (single {token = token} is) turned rest s =
        ap (λ (b : Bool). if b then uses_in_parts by result in_loop kind turned rest (expression_read result kind turned (leaf token) s) else uses_in_parts by result in_loop kind (turned || turns kind token) rest s) is
    expression_used {n = n} (made_of inner {parts = parts} b a shaped) turned rest s =
        ap₂ (λ us now. us ++ uses_in_parts by result in_loop kind turned rest now)
        (expression_node turned inner parts (uses_in_parts by result (is_loop inner || in_loop) inner false parts) s (and_parts (nat_le 1 (level inner)) (nat_le n (level inner)) b).0)
        (expression_walked result (made_of {category = expression n} inner b a shaped) in_loop kind turned none s)

    pub expression_rest : {A : Type 0} {n : ℕ} {tree : PlainTree} → Derivation (expression n) tree → (turned : Bool) (rest : PlainTrees) (s : State) (m : Checked A) (next : A → Checked B)
        → Part by (λ x u. u ≡ expression_uses by s.scope tree) m (names_in tree) → ((x : A) → Rest in_loop kind turned rest (expression_read result kind turned tree s) P (next x))
        → Rest in_loop kind turned (more tree rest) s P (m >>= next)
    expression_rest {tree = tree} d turned rest s m next h others =
        parts_then (λ x now. Unit {0}) turned tree rest s (expression_read result kind turned tree s) (expression_uses by s.scope tree) m next
        (expression_walked result d in_loop kind turned rest s) (expression_used d turned rest s)
        (part_as by (λ x u. u ≡ expression_uses by s.scope tree) (λ x u. Unit {0} × (u ≡ expression_uses by s.scope tree)) (names_in tree) m h (λ x u e. (tt, e))) (λ x q. others x)

    -- ---- declarations

    pub locals_rest : (turned : Bool) (parts rest : PlainTrees) (s : State) (next : Locals → Checked B)
        → Part by (λ l u. HasNames l.scope) (judged_locals (scope_in kind s.scope) s.slots parts) (names_among parts)
        → ((l : Locals) → HasNames l.scope → Rest in_loop kind turned rest (record s { scope = l.scope; slots = l.slots }) P (next l))
        → Rest in_loop kind turned (more (node k.LocalDeclaration parts) rest) s P (judged_locals (scope_in kind s.scope) s.slots parts >>= next)
    locals_rest turned parts rest s next h others =
        let m : Checked Locals = judged_locals (scope_in kind s.scope) s.slots parts in
        subst (Part by (λ y u. P y (walk_parts result in_loop kind turned rest (with_locals s m)) × (u ≡ uses_among by parts m ++ uses_in_parts by result in_loop kind turned rest (with_locals s m))) (m >>= next))
        (sym (ap (λ l. l ++ names_among rest) (names_of_node k.LocalDeclaration parts)))
        (known_then by (λ l u. HasNames l.scope) (λ y u. P y (walk_parts result in_loop kind turned rest (with_locals s m)) × (u ≡ uses_among by parts m ++ uses_in_parts by result in_loop kind turned rest (with_locals s m))) (names_among parts) (names_among rest) m next h
        (λ l js e names. part_as by (λ y v. P y (walk_parts result in_loop kind turned rest (record s { scope = l.scope; slots = l.slots })) × (v ≡ uses_in_parts by result in_loop kind turned rest (record s { scope = l.scope; slots = l.slots })))
        (λ y v. P y (walk_parts result in_loop kind turned rest (with_locals s m)) × ((using (names_among parts) (structures_used by js) ++ v) ≡ uses_among by parts m ++ uses_in_parts by result in_loop kind turned rest (with_locals s m)))
        (names_among rest) (next l) (others l names)
        (λ y v q. (
          subst (λ c. P y (walk_parts result in_loop kind turned rest (with_locals s c))) (sym e) q.0,
          ap (λ l. using (names_among parts) (structures_used by js) ++ l) q.1 ∙ sym (ap (λ c. uses_among by parts c ++ uses_in_parts by result in_loop kind turned rest (with_locals s c)) e),
        ))))

  -- ---- statements

  abbrev pub statement_uses : Bool → PlainTree → State → List Use
  statement_uses in_loop (leaf token) s = []
  statement_uses in_loop (node kind parts) s = uses_in_node by result k.Block kind parts (uses_in_parts by result (is_loop kind || in_loop) kind false parts) s

  abbrev pub StatementsAre : Bool → PlainTree → Type 0
  StatementsAre in_loop tree =
      (s : State) → HasNames s.scope
      → Part by (λ j u. At s j (walk_statement result in_loop tree s) × (u ≡ statement_uses in_loop tree s)) (judged_statement (record { scope = s.scope; result = result; in_loop = in_loop }) s.slots tree) (names_in tree)

  module _ {B : Type 0} (P : B → State → Type 0) (in_loop : Bool) (kind : Kind) where
    statement_node : (inner : Kind) (parts : PlainTrees) (f : State → List Use) (s : State) → is_statement inner ≡ true → uses_in_node by result kind inner parts f s ≡ uses_in_node by result k.Block inner parts f s
    statement_node k.Block parts f s h = refl
    statement_node k.For parts f s h = refl
    statement_node k.ExpressionStatement parts f s h = refl
    statement_node k.If parts f s h = refl
    statement_node k.While parts f s h = refl
    statement_node k.Do parts f s h = refl
    statement_node k.Return parts f s h = refl
    statement_node k.Jump parts f s h = refl
    statement_node _ parts f s h = none_such h

    statement_used : {tree : PlainTree} → Derivation statement tree → (turned : Bool) (rest : PlainTrees) (s : State)
        → uses_in_parts by result in_loop kind turned (more tree rest) s ≡ statement_uses in_loop tree s ++ uses_in_parts by result in_loop kind turned rest (walk_statement result in_loop tree s)
    statement_used (single is) turned rest s = none_such is
    statement_used (made_of inner {parts = parts} b a shaped) turned rest s =
        ap₂ (λ us now. us ++ uses_in_parts by result in_loop kind turned rest now) (statement_node inner parts (uses_in_parts by result (is_loop inner || in_loop) inner false parts) s b)
        (statement_walked result (made_of {category = statement} inner b a shaped) in_loop kind turned none s)

    pub statement_rest : {tree : PlainTree} → Derivation statement tree → StatementsAre in_loop tree → (turned : Bool) (rest : PlainTrees) (s : State) → HasNames s.scope → (next : Scope → List PlainType → Judged → Checked B)
        → ((j : Judged) (now : State) → HasNames now.scope → now.scope ≡ s.scope → now.slots ≡ j.slots → Rest in_loop kind turned rest now P (next now.scope now.slots j))
        → Rest in_loop kind turned (more tree rest) s P (judged_statement (record { scope = s.scope; result = result; in_loop = in_loop }) s.slots tree >>= (λ j. next s.scope j.slots j))
    statement_rest {tree = tree} d is turned rest s names next others =
        let now : State = walk_statement result in_loop tree s in
        parts_then P in_loop kind (At s) turned tree rest s now (statement_uses in_loop tree s) (judged_statement (record { scope = s.scope; result = result; in_loop = in_loop }) s.slots tree) (λ j. next s.scope j.slots j)
        (statement_walked result d in_loop kind turned rest s) (statement_used d turned rest s) (is s names)
        (λ j q. subst (λ scope. Rest in_loop kind turned rest now P (next scope j.slots j)) q.0
        (subst (λ slots. Rest in_loop kind turned rest now P (next now.scope slots j)) q.1
        (others j now (subst HasNames (sym q.0) names) q.0 q.1)))
