-- Declarators one after the other, each judged behind those before it.
use Rattle.std.proofs.Common.{◌≡◌, ℕ, true, List, [], ◌∷◌, ◌++◌, refl, sym, ap, subst, ◌∙◌, IsTrue, append-nil, append_assoc}
use Rattle.std.specs.Prelude.{Option, Some, None}
use Rattle.c_text.specs.Token.{PlainToken}
use Rattle.c_tree.specs.declared.terminals.Terminal.TheVariants as t
use Rattle.c_tree.specs.Trees.{PlainTree, PlainTrees, leaf, none, more, spelled}
use Rattle.c_tree.specs.Grammar.{Role, declarator, initialiser, may_be_initialised}
use Rattle.tree_derivations.specs.Derivations.{Derivation, Declared, last_plain, last_initialised, next_plain, next_initialised, IsWord}
use Rattle.core_meaning.specs.Checking.{Checked, fine, refused, broken, ◌>>=◌}
use Rattle.declarator_lists.specs.Lists as list
use Rattle.declarator_lists.specs.Lists.{declared_in, trees_of}
use Rattle.declaration_readings.specs.Readings.{Going, after}
use Rattle.declaration_readings.proofs.Lists.{declared, one_alone, one_before, value_alone, value_before}
use Rattle.declaration_readings.proofs.InTurn.{is_filled}
use Rattle.bindings.specs.Laws.{ArePieces}
use Rattle.bindings.proofs.Pieces.{holds_of}
use Rattle.bindings.proofs.Spellings.{Holds, AllHold, no_name}
use Rattle.member_uses.specs.Uses.{names_in, names_among, using, structures_used, structures_in}
use Rattle.member_uses.specs.Declarations.{IsDeclarator, names_in_declared, uses_in_turn}
use Rattle.member_uses.proofs.Parts.{word_names, Part, part_as, known_then}

-- an initialiser, if there is one
pub data Initialised : Option PlainTree → Type 0 where
  no_value : Initialised None
  a_value : {tree : PlainTree} → Derivation initialiser tree → Holds tree → Initialised (Some tree)

pub initialised : {role : Role} (d : list.Declared) → IsDeclarator role d → Initialised d.initialiser
initialised d is = from d.initialiser is.initialiser is.initialiser_pieces
  where
    from : (value : Option PlainTree) → ((tree : PlainTree) → value ≡ Some tree → Derivation initialiser tree) → ((tree : PlainTree) → value ≡ Some tree → ArePieces (spelled tree)) → Initialised value
    from None derived pieces = no_value
    from (Some tree) derived pieces = a_value (derived tree refl) (holds_of tree [] (pieces tree refl)).0

filled : {role : Role} {parts : PlainTrees} → Declared role parts → is_filled parts ≡ true
filled (last_plain d) = refl
filled (last_initialised m d w v) = refl
filled (next_plain d w s) = refl
filled (next_initialised m d w v c s) = refl

module _ {S : Type 0} (one : S → list.Declared → Checked S) (all : S → PlainTrees → Checked S) (role : Role) where
  -- how the judgement of a list begins
  pub record IsInTurn : Type 0 where
    pub alone : (s : S) (tree : PlainTree) → all s (more tree none) ≡ one s (declared tree None)
    pub alone_with : (s : S) (tree value : PlainTree) (sign : PlainToken) → IsTrue (may_be_initialised role) → IsWord (t.Assign ∷ []) sign
        → all s (more tree (more (leaf sign) (more value none))) ≡ one s (declared tree (Some value))
    pub before : (s : S) (tree : PlainTree) (comma : PlainToken) (rest : PlainTrees) → IsWord (t.Comma ∷ []) comma → is_filled rest ≡ true
        → all s (more tree (more (leaf comma) rest)) ≡ (one s (declared tree None) >>= (λ next. all next rest))
    pub before_with : (s : S) (tree value : PlainTree) (sign comma : PlainToken) (rest : PlainTrees) → IsTrue (may_be_initialised role) → IsWord (t.Assign ∷ []) sign
        → all s (more tree (more (leaf sign) (more value (more (leaf comma) rest)))) ≡ (one s (declared tree (Some value)) >>= (λ next. all next rest))

  module _ (by : ℕ → ℕ) (P : S → Type 0) where
    -- each declarator is a part
    abbrev pub IsEach : Type 0
    IsEach = (tree : PlainTree) (value : Option PlainTree) → Derivation (declarator role) tree → Holds tree → Initialised value → (s : S) → P s
        → Part by (λ next u. P next) (one s (declared tree value)) (names_in_declared (declared tree value))

    last_uses : (g : Going S) (d : list.Declared) (m : Checked S) → one g.state d ≡ m → Part by (λ next u. P next) m (names_in_declared d)
        → Part by (λ next u. P next × (u ≡ uses_in_turn by one g (d ∷ []))) m (names_in_declared d)
    last_uses g d (fine next js) e h = (h.0, (h.1, sym (ap (λ m. using (names_in_declared d) (structures_in by m) ++ []) e ∙ append-nil (using (names_in_declared d) (structures_used by js)))))
    last_uses g d (refused kind token) e h = tt
    last_uses g d broken e h = tt

    next_uses : (g : Going S) (d : list.Declared) (rest : PlainTrees) → Part by (λ next u. P next) (one g.state d) (names_in_declared d)
        → ((h : Going S) → P h.state → Part by (λ next u. P next × (u ≡ uses_in_turn by one h (declared_in (trees_of rest)))) (all h.state rest) (names_among rest))
        → Part by (λ next u. P next × (u ≡ uses_in_turn by one g (d ∷ declared_in (trees_of rest)))) (one g.state d >>= (λ next. all next rest)) (names_in_declared d ++ names_among rest)
    next_uses g d rest h others =
        known_then by (λ next u. P next) (λ next u. P next × (u ≡ uses_in_turn by one g (d ∷ declared_in (trees_of rest)))) (names_in_declared d) (names_among rest) (one g.state d) (λ next. all next rest) h
        (λ next js e p. part_as by (λ last u. P last × (u ≡ uses_in_turn by one (record { state = next; refused = g.refused }) (declared_in (trees_of rest))))
        (λ last u. P last × ((using (names_in_declared d) (structures_used by js) ++ u) ≡ uses_in_turn by one g (d ∷ declared_in (trees_of rest)))) (names_among rest) (all next rest)
        (others (record { state = next; refused = g.refused }) p)
        (λ last u q. (
          q.0,
          ap (λ l. using (names_in_declared d) (structures_used by js) ++ l) q.1
              ∙ sym (ap (λ m. using (names_in_declared d) (structures_in by m) ++ uses_in_turn by one (after g m) (declared_in (trees_of rest))) e),
        )))

    -- the identifiers of a list, declarator by declarator
    comma_names : (tree : PlainTree) (comma : PlainToken) (rest : PlainTrees) → IsWord (t.Comma ∷ []) comma
        → names_among (more tree (more (leaf comma) rest)) ≡ names_in_declared (declared tree None) ++ names_among rest
    comma_names tree comma rest w =
        ap (λ l. names_in tree ++ l) (word_names comma rest (no_name (t.Comma ∷ []) comma refl w))
        ∙ sym (ap (λ l. l ++ names_among rest) (append-nil (names_in tree)))

    value_names : (tree value : PlainTree) (sign : PlainToken) (rest : PlainTrees) → IsWord (t.Assign ∷ []) sign
        → names_among (more tree (more (leaf sign) (more value rest))) ≡ names_in_declared (declared tree (Some value)) ++ names_among rest
    value_names tree value sign rest w =
        ap (λ l. names_in tree ++ l) (word_names sign (more value rest) (no_name (t.Assign ∷ []) sign refl w)) ∙ sym (append_assoc (names_in tree) (names_in value) (names_among rest))

    abbrev Goal : Going S → PlainTrees → Type 0
    Goal g parts = Part by (λ next u. P next × (u ≡ uses_in_turn by one g (declared_in (trees_of parts)))) (all g.state parts) (names_among parts)

    as_goal : (g : Going S) (parts : PlainTrees) (ds : List list.Declared) (m : Checked S) (names : List PlainToken) → declared_in (trees_of parts) ≡ ds → all g.state parts ≡ m → names_among parts ≡ names
        → Part by (λ next u. P next × (u ≡ uses_in_turn by one g ds)) m names → Goal g parts
    as_goal g parts ds m names a b c h =
        subst (λ l. Part by (λ next u. P next × (u ≡ uses_in_turn by one g l)) (all g.state parts) (names_among parts)) (sym a)
        (subst (λ c. Part by (λ next u. P next × (u ≡ uses_in_turn by one g ds)) c (names_among parts)) (sym b)
        (subst (Part by (λ next u. P next × (u ≡ uses_in_turn by one g ds)) m) (sym c) h))

    pub used_in_turn : IsInTurn → IsEach → {parts : PlainTrees} → Declared role parts → AllHold parts → (g : Going S) → P g.state → Goal g parts
    used_in_turn turn each (last_plain {tree = tree} d) holds g p =
        as_goal g (more tree none) (declared tree None ∷ []) (one g.state (declared tree None)) (names_in_declared (declared tree None)) (one_alone d) (turn.alone g.state tree) refl
        (last_uses g (declared tree None) (one g.state (declared tree None)) refl (each tree None d holds.0 no_value g.state p))
    used_in_turn turn each (last_initialised {tree = tree} {value = value} {sign = sign} m d w v) holds g p =
        as_goal g (more tree (more (leaf sign) (more value none))) (declared tree (Some value) ∷ []) (one g.state (declared tree (Some value))) (names_in_declared (declared tree (Some value)))
        (value_alone d sign w v) (turn.alone_with g.state tree value sign m w) (value_names tree value sign none w ∙ append-nil (names_in_declared (declared tree (Some value))))
        (last_uses g (declared tree (Some value)) (one g.state (declared tree (Some value))) refl (each tree (Some value) d holds.0 (a_value v holds.1.1.0) g.state p))
    used_in_turn turn each (next_plain {tree = tree} {comma = comma} {rest = rest} d w s) holds g p =
        as_goal g (more tree (more (leaf comma) rest)) (declared tree None ∷ declared_in (trees_of rest)) (one g.state (declared tree None) >>= (λ next. all next rest)) (names_in_declared (declared tree None) ++ names_among rest)
        (one_before d comma rest w) (turn.before g.state tree comma rest w (filled s)) (comma_names tree comma rest w)
        (next_uses g (declared tree None) rest (each tree None d holds.0 no_value g.state p) (λ h q. used_in_turn turn each s holds.1.1 h q))
    used_in_turn turn each (next_initialised {tree = tree} {value = value} {sign = sign} {comma = comma} {rest = rest} m d w v c s) holds g p =
        as_goal g (more tree (more (leaf sign) (more value (more (leaf comma) rest)))) (declared tree (Some value) ∷ declared_in (trees_of rest)) (one g.state (declared tree (Some value)) >>= (λ next. all next rest))
        (names_in_declared (declared tree (Some value)) ++ names_among rest)
        (value_before d sign w v comma rest) (turn.before_with g.state tree value sign comma rest m w)
        (value_names tree value sign (more (leaf comma) rest) w ∙ ap (λ l. names_in_declared (declared tree (Some value)) ++ l) (word_names comma rest (no_name (t.Comma ∷ []) comma refl c)))
        (next_uses g (declared tree (Some value)) rest (each tree (Some value) d holds.0 (a_value v holds.1.1.0) g.state p) (λ h q. used_in_turn turn each s holds.1.1.1.1 h q))
