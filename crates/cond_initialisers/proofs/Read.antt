-- Initialisers are refused entry by entry exactly where what they give is refused.
use Rattle.std.proofs.Common.{arith, ◌≡◌, ℕ, zero, suc, ◌+◌, ◌<◌, ◌≤◌, Bool, true, false, List, [], ◌∷◌, ◌++◌, refl, sym, ap, subst, ◌∙◌}
use Rattle.std.specs.Prelude.{IsTrue, ◌||◌, ◌==◌, nat_lt, map, replicate, Option, Some, None, option_map, slice_get, if◌then◌else◌}
use Rattle.std.proofs.lemmas.Bool.{false≢true, eq-eqb, ne_eqb, ltb-true, ltb-false}
use Rattle.c_text.specs.Token.{PlainToken}
use Rattle.c_types.specs.Types.{PlainType, char, unsigned_char, array_of, structure}
use Rattle.c_types.specs.Tags.{PlainMember}
use Rattle.c_tree.specs.declared.kinds.Kind.{Kind}
use Rattle.c_tree.specs.declared.kinds.Kind.TheVariants as k
use Rattle.c_tree.specs.declared.terminals.Terminal.TheVariants as t
use Rattle.c_tree.specs.Trees.{PlainTree, PlainTrees, leaf, node, none, more}
use Rattle.c_tree.specs.Grammar.{expression, initialiser, initialisers, belongs, agree, shape}
use Rattle.tree_derivations.specs.Derivations.{Derivation, single, made_of, Shaped, a_row, some_texts, with_last_comma, at_end, a_word, a_part, Ended, ends, ends_in_comma, goes_on}
use Rattle.core_meaning.specs.declared.refusals.TypeKind.TheVariants.{BadOperand}
use Rattle.core_meaning.specs.Values.{Path}
use Rattle.core_meaning.specs.Checking.{Checked, refused, ◌>>=◌, give}
use Rattle.core_meaning.specs.Entities.{Struct, Scope}
use Rattle.core_meaning.specs.Expressions.{valued, first_token}
use Rattle.core_meaning.specs.Constancy.{Initial, members_of, part_for, path_for, is_character_type, part_or_excess, whole_initial, text_or_whole, initial, initial_entries}
use Rattle.operand_types.specs.OperandTypes.{renumbered}
use Rattle.expression_types.specs.Reading.{is_operand}
use Rattle.expression_types.proofs.PartsRead.{no_operand}
use Rattle.statement_readings.specs.Walks.{is_refused}
use Rattle.type_tables.specs.Follows.{IsThere, AreThere, types_of}
use Rattle.cond_initialisers.specs.Laws.{AreRefused}
use Rattle.cond_initialisers.specs.Refusals.{RefusedFor, Asked, parts_of, in_pairs, some_refused, alone, as_text, refuses, entries_in}
use Rattle.cond_initialisers.proofs.Refused.{refused_with, always_refused, refused_both}

-- ---- expressions

abbrev is_braces : Kind → Bool
is_braces k.Braces = true
is_braces other = false

as_expression : (kind : Kind) {parts : PlainTrees} → IsTrue (belongs initialiser kind) → IsTrue (agree kind parts) → Shaped (shape initialiser kind) parts → is_braces kind ≡ false → Derivation (expression 1) (node kind parts)
as_expression k.Texts b a s e = made_of k.Texts refl a s
as_expression k.Parenthesized b a s e = made_of k.Parenthesized refl a s
as_expression k.PostfixStep b a s e = made_of k.PostfixStep refl a s
as_expression k.PrefixStep b a s e = made_of k.PrefixStep refl a s
as_expression k.Prefix b a s e = made_of k.Prefix refl a s
as_expression k.Cast b a s e = made_of k.Cast refl a s
as_expression k.Selection b a s e = made_of k.Selection refl a s
as_expression k.Index b a s e = made_of k.Index refl a s
as_expression k.Call b a s e = made_of k.Call refl a s
as_expression k.Assignment b a s e = made_of k.Assignment refl a s
as_expression k.Conditional b a s e = made_of k.Conditional refl a s
as_expression k.LogicalOr b a s e = made_of k.LogicalOr refl a s
as_expression k.LogicalAnd b a s e = made_of k.LogicalAnd refl a s
as_expression k.Or b a s e = made_of k.Or refl a s
as_expression k.Xor b a s e = made_of k.Xor refl a s
as_expression k.And b a s e = made_of k.And refl a s
as_expression k.Equality b a s e = made_of k.Equality refl a s
as_expression k.Relation b a s e = made_of k.Relation refl a s
as_expression k.Shift b a s e = made_of k.Shift refl a s
as_expression k.Sum b a s e = made_of k.Sum refl a s
as_expression k.Product b a s e = made_of k.Product refl a s
as_expression k.Braces b a s e = absurd (false≢true (sym e))
as_expression _ b a s e = absurd cc

-- ---- lists

slice_get_map : {A B : Type 0} (f : A → B) (xs : List A) (n : ℕ) → slice_get (map f xs) n ≡ option_map f (slice_get xs n)
slice_get_map f [] n = refl
slice_get_map f (x ∷ xs) zero = refl
slice_get_map f (x ∷ xs) (suc n) = slice_get_map f xs n

get_repeated : {A : Type 0} (count n : ℕ) (x : A) → n < count → slice_get (replicate count x) n ≡ Some x
get_repeated zero n x h = absurd (omega (arith, h))
get_repeated (suc count) zero x h = refl
get_repeated (suc count) (suc n) x h = get_repeated count n x (omega (arith, h))

get_past : {A : Type 0} (count n : ℕ) (x : A) → count ≤ n → slice_get (replicate count x) n ≡ None
get_past zero n x h = refl
get_past (suc count) zero x h = absurd (omega (arith, h))
get_past (suc count) (suc n) x h = get_past count n x (omega (arith, h))

some_same : {A : Type 0} (x y : A) → Some x ≡ Some y → x ≡ y
some_same x y e = cc

or_false : (b : Bool) → (b || false) ≡ b
or_false true = refl
or_false false = refl

module _ (by : ℕ → ℕ) (scope : Scope) (members : ℕ → List PlainType) (globals : Option ℕ) (asked : Asked) (right : AreRefused by scope globals asked)
    (follow : (n : ℕ) (s : Struct) → slice_get scope.structs n ≡ Some s → (members (by n) ≡ map (renumbered by) (types_of s.members)) × AreThere scope.structs (types_of s.members)) where
  -- ---- expressions

  alone_same : {level : ℕ} {tree : PlainTree} → Derivation (expression level) tree → (ty : PlainType) (path : Path) (first : PlainToken)
      → alone asked tree (renumbered by ty) ≡ is_refused (whole_initial scope globals ty path tree first)
  alone_same {level} {tree} d (array_of element count) path first = always_refused {B = List Initial} (valued scope tree) (λ x. refused BadOperand first) (λ x. refl)
  alone_same {level} {tree} d ty path first = right.values level tree d ty path first

  -- ---- texts

  character_same : (ty : PlainType) → is_character_type (renumbered by ty) ≡ is_character_type ty
  character_same char = refl
  character_same unsigned_char = refl
  character_same ty = refl

  if_characters : (b : Bool) (x : Bool) (y : Checked (List Initial)) (first : PlainToken) → x ≡ is_refused y → (if b then x else true) ≡ is_refused (if b then y else refused BadOperand first)
  if_characters true x y first e = e
  if_characters false x y first e = refl

  text_same : {parts : PlainTrees} → Derivation (expression 1) (node k.Texts parts) → (ty : PlainType) (path : Path) (first : PlainToken)
      → as_text asked (node k.Texts parts) (renumbered by ty) ≡ is_refused (text_or_whole scope globals ty path parts first)
  text_same {parts} d (array_of element count) path first =
      ap (λ b. if b then asked.without_room (node k.Texts parts) count else true) (character_same element)
      ∙ if_characters (is_character_type element) _ _ first (right.texts parts d element count path first)
  text_same {parts} d ty path first = right.values 1 (node k.Texts parts) d ty path first

  -- ---- the parts of an object

  -- these are its parts from one on
  abbrev AreParts : PlainType → ℕ → List PlainType → Type 0
  AreParts ty n ps = (i at : ℕ) → at ≡ n + i → slice_get ps i ≡ option_map (renumbered by) (part_for scope.structs ty at)

  abbrev PartsThere : PlainType → Type 0
  PartsThere ty = (n : ℕ) (part : PlainType) → part_for scope.structs ty n ≡ Some part → IsThere scope.structs part

  single_part : (ty : PlainType) (i at : ℕ) → at ≡ 0 + i → slice_get (renumbered by ty ∷ []) i ≡ option_map (renumbered by) (if at == 0 then Some ty else None)
  single_part ty zero at e = ap (λ b. option_map (renumbered by) (if b then Some ty else None)) (sym (eq-eqb at 0 (omega (arith, e))))
  single_part ty (suc i) at e = ap (λ b. option_map (renumbered by) (if b then Some ty else None)) (sym (ne_eqb at 0 (λ h. let same_ : at ≡ 0 = h in omega (arith, e, same_))))

  repeated_part : (b : Bool) (element : PlainType) (count i at : ℕ) → nat_lt at count ≡ b → at ≡ 0 + i
      → slice_get (replicate count (renumbered by element)) i ≡ option_map (renumbered by) (if b then Some element else None)
  repeated_part true element count i at h e = let less : at < count = ltb-true at count h in get_repeated count i (renumbered by element) (omega (arith, less, e))
  repeated_part false element count i at h e = let past : count ≤ at = ltb-false at count h in get_past count i (renumbered by element) (omega (arith, past, e))

  struct_part : (n : ℕ) (s : Struct) → slice_get scope.structs n ≡ Some s → (i at : ℕ) → at ≡ 0 + i
      → slice_get (members (by n)) i ≡ option_map (renumbered by) (option_map (λ m. m.ty) (slice_get (members_of (slice_get scope.structs n)) at))
  struct_part n s found i at e =
      let same_ : i ≡ at = omega (arith, e) in
      ap (λ ts. slice_get ts i) (follow n s found).0
      ∙ (slice_get_map (renumbered by) (types_of s.members) i
      ∙ (ap (option_map (renumbered by)) (slice_get_map (λ (m : PlainMember). m.ty) s.members i)
      ∙ (ap (λ j. option_map (renumbered by) (option_map (λ (m : PlainMember). m.ty) (slice_get s.members j))) same_
      ∙ ap (λ o. option_map (renumbered by) (option_map (λ (m : PlainMember). m.ty) (slice_get (members_of o) at))) (sym found))))

  are_parts : (ty : PlainType) → IsThere scope.structs ty → AreParts ty 0 (parts_of members (renumbered by ty))
  are_parts (array_of element count) there i at e = repeated_part (nat_lt at count) element count i at refl e
  are_parts (structure n) there i at e = let found = there n refl in struct_part n found.0 found.1 i at e
  are_parts ty there i at e = single_part ty i at e

  only_there : (b : Bool) (ty part : PlainType) → IsThere scope.structs ty → (if b then Some ty else None) ≡ Some part → IsThere scope.structs part
  only_there true ty part there e = subst (IsThere scope.structs) (some_same ty part e) there
  only_there false ty part there e = absurd cc

  member_there : (ms : List PlainMember) (n : ℕ) (part : PlainType) → AreThere scope.structs (types_of ms) → option_map (λ (m : PlainMember). m.ty) (slice_get ms n) ≡ Some part → IsThere scope.structs part
  member_there [] n part there e = absurd cc
  member_there (m ∷ ms) zero part there e = subst (IsThere scope.structs) (some_same m.ty part e) there.0
  member_there (m ∷ ms) (suc n) part there e = member_there ms n part there.1 e

  parts_there : (ty : PlainType) → IsThere scope.structs ty → PartsThere ty
  parts_there (array_of element count) there n part e = only_there (nat_lt n count) element part there e
  parts_there (structure s) there n part e =
      let found = there s refl in
      member_there found.0.members n part (follow s found.0 found.1).1 (ap (λ o. option_map (λ (m : PlainMember). m.ty) (slice_get (members_of o) n)) (sym found.1) ∙ e)
  parts_there ty there n part e = only_there (n == 0) ty part there e

  -- ---- entries

  abbrev Same : PlainTree → Type 0
  Same tree = (ty : PlainType) → IsThere scope.structs ty → (path : Path) (behind : PlainToken) → refuses asked members tree (renumbered by ty) ≡ is_refused (initial scope globals ty path tree behind)

  abbrev AllSame : PlainTrees → Type 0
  AllSame entries = (ty : PlainType) (n : ℕ) (ps : List PlainType) → AreParts ty n ps → PartsThere ty → (path : Path) (behind : PlainToken)
      → in_pairs (entries_in asked members entries) ps ≡ is_refused (initial_entries scope globals ty path n entries behind)

  -- an initialiser is an entry
  entry_first : {tree : PlainTree} → Derivation initialiser tree → (rest : PlainTrees) → entries_in asked members (more tree rest) ≡ refuses asked members tree ∷ entries_in asked members rest
  entry_first (single {token = token} is) rest = ap (λ b. if b then alone asked (leaf token) ∷ entries_in asked members rest else entries_in asked members rest) is
  entry_first (made_of kind b a s) rest = refl

  no_entry : (token : PlainToken) (rest : PlainTrees) → is_operand token ≡ false → entries_in asked members (more (leaf token) rest) ≡ entries_in asked members rest
  no_entry token rest e = ap (λ b. if b then alone asked (leaf token) ∷ entries_in asked members rest else entries_in asked members rest) e

  -- the part that an entry is for, if there is one
  for_part : (entry : RefusedFor) (entries : List RefusedFor) (ty : PlainType) (n : ℕ) (ps : List PlainType) (found : Option PlainType) (tree : PlainTree) (first : PlainToken)
      (next : PlainType → Checked (List Initial)) → part_for scope.structs ty n ≡ found → AreParts ty n ps
      → ((part : PlainType) (rest : List PlainType) → part_for scope.structs ty n ≡ Some part → AreParts ty (n + 1) rest → (entry (renumbered by part) || in_pairs entries rest) ≡ is_refused (next part))
      → in_pairs (entry ∷ entries) ps ≡ is_refused (part_or_excess scope globals found tree first >>= next)
  for_part entry entries ty n [] None tree first next is parts same_ = refl
  for_part entry entries ty n [] (Some part) tree first next is parts same_ = absurd (never (parts 0 n (omega arith) ∙ ap (option_map (renumbered by)) is))
    where
      never : None ≡ Some (renumbered by part) → ⊥
      never e = cc
  for_part entry entries ty n (p ∷ ps) None tree first next is parts same_ = absurd (never (parts 0 n (omega arith) ∙ ap (option_map (renumbered by)) is))
    where
      never : Some p ≡ None → ⊥
      never e = cc
  for_part entry entries ty n (p ∷ ps) (Some part) tree first next is parts same_ =
      ap (λ q. entry q || in_pairs entries ps) (some_same p (renumbered by part) (parts 0 n (omega arith) ∙ ap (option_map (renumbered by)) is))
      ∙ (same_ part ps is (λ i at e. parts (suc i) at (omega (arith, e))) ∙ sym (refused_with [] (next part)))

  last_same : {tree : PlainTree} → Derivation initialiser tree → Same tree → AllSame (more tree none)
  last_same {tree} d one ty n ps parts there path behind =
      ap (λ es. in_pairs es ps) (entry_first d none)
      ∙ for_part (refuses asked members tree) [] ty n ps (part_for scope.structs ty n) tree (first_token tree behind) (λ part. initial scope globals part (path_for ty path n) tree behind) refl parts
      (λ part rest is others. or_false (refuses asked members tree (renumbered by part)) ∙ one part (there n part is) (path_for ty path n) behind)

  next_same : {tree : PlainTree} (comma : PlainToken) (rest : PlainTrees) → Derivation initialiser tree → is_operand comma ≡ false → Same tree → AllSame rest → AllSame (more tree (more (leaf comma) rest))
  next_same {tree} comma rest d free one others ty n ps parts there path behind =
      ap (λ es. in_pairs es ps) (entry_first d (more (leaf comma) rest) ∙ ap (λ es. refuses asked members tree ∷ es) (no_entry comma rest free))
      ∙ for_part (refuses asked members tree) (entries_in asked members rest) ty n ps (part_for scope.structs ty n) tree (first_token tree behind)
      (λ part. initial scope globals part (path_for ty path n) tree behind >>= (λ first. initial_entries scope globals ty path (n + 1) rest behind >>= (λ behind_. give (first ++ behind_)))) refl parts
      (λ part ps is from. ap (λ b. b || in_pairs (entries_in asked members rest) ps) (one part (there n part is) (path_for ty path n) behind)
      ∙ (ap (λ b. is_refused (initial scope globals part (path_for ty path n) tree behind) || b) (others ty (n + 1) ps from there path behind)
      ∙ refused_both (initial scope globals part (path_for ty path n) tree behind) (initial_entries scope globals ty path (n + 1) rest behind) (λ first behind_. first ++ behind_)))

  none_same : AllSame none
  none_same ty n ps parts there path behind = refl

  in_braces : (open_ close : PlainToken) (entries : PlainTrees) → is_operand open_ ≡ false → is_operand close ≡ false → AllSame entries
      → Same (node k.Braces (more (leaf open_) (more (node k.Initialisers entries) (more (leaf close) none))))
  in_braces open_ close entries o c same_ ty there path behind =
      ap (λ es. some_refused es (renumbered by ty)) (no_entry open_ (more (node k.Initialisers entries) (more (leaf close) none)) o)
      ∙ (ap (λ es. some_refused (refuses asked members (node k.Initialisers entries) ∷ es) (renumbered by ty)) (no_entry close none c)
      ∙ (or_false (in_pairs (entries_in asked members entries) (parts_of members (renumbered by ty)))
      ∙ same_ ty 0 (parts_of members (renumbered by ty)) (are_parts ty there) (parts_there ty there) path behind))

  mutual
    pub initial_same : {tree : PlainTree} → Derivation initialiser tree → Same tree
    initial_same (single {token = token} is) = λ ty there path behind. alone_same {level = 1} (single is) ty path token
    initial_same (made_of k.Braces b a (a_row (a_word {token = open_} w (a_part d (a_word {token = close} v at_end))))) =
        list_same d open_ close (no_operand (t.OpenBrace ∷ []) open_ (refl, tt) w) (no_operand (t.CloseBrace ∷ []) close (refl, tt) v)
    initial_same (made_of k.Texts {parts = parts} b a (some_texts texts some)) = λ ty there path behind.
        text_same (made_of k.Texts refl a (some_texts texts some)) ty path (first_token (node k.Texts parts) behind)
    initial_same (made_of k.Initialisers b a s) = absurd cc
    initial_same (made_of kind {parts = parts} b a s) = λ ty there path behind. alone_same (as_expression kind b a s refl) ty path (first_token (node kind parts) behind)

    list_same : {tree : PlainTree} → Derivation initialisers tree → (open_ close : PlainToken) → is_operand open_ ≡ false → is_operand close ≡ false
        → Same (node k.Braces (more (leaf open_) (more tree (more (leaf close) none))))
    list_same (single is) open_ close o c = absurd cc
    list_same (made_of k.Initialisers {parts = parts} b a (with_last_comma s)) open_ close o c = in_braces open_ close parts o c (entries_same s)
    list_same (made_of _ b a s) open_ close o c = absurd cc

    entries_same : {entries : PlainTrees} → Ended initialiser entries → AllSame entries
    entries_same (ends d) = last_same d (initial_same d)
    entries_same (ends_in_comma {comma = comma} d w) = next_same comma none d (no_operand (t.Comma ∷ []) comma (refl, tt) w) (initial_same d) none_same
    entries_same (goes_on {comma = comma} {rest = rest} d w s) = next_same comma rest d (no_operand (t.Comma ∷ []) comma (refl, tt) w) (initial_same d) (entries_same s)
