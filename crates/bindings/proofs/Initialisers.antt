-- Sizes and initialisers are read as they are judged.
use Rattle.std.proofs.Common.{◌≡◌, ℕ, ◌+◌, Bool, true, false, List, [], ◌∷◌, ◌++◌, refl, sym, ◌∙◌, length, IsTrue, suc}
use Rattle.std.specs.Prelude.{Option, Some, None, is_some, take, nat_le, option_map, if◌then◌else◌, ◌&&◌, ◌==◌}
use Rattle.std.proofs.lemmas.Bool.{and_parts, false≢true, eqb-true}
use Rattle.c_text.specs.Token.{PlainToken}
use Rattle.c_types.specs.Types.{PlainType, array_of}
use Rattle.c_types.specs.Integers.{is_integer}
use Rattle.c_tree.specs.declared.kinds.Kind.{Kind}
use Rattle.c_tree.specs.declared.kinds.Kind.TheVariants as k
use Rattle.c_tree.specs.declared.terminals.Terminal.TheVariants as t
use Rattle.c_tree.specs.Trees.{PlainTree, PlainTrees, leaf, node, none, more}
use Rattle.c_tree.specs.Grammar.{expression, initialiser, initialisers, belongs, agree, shape, are_texts}
use Rattle.core_meaning.specs.declared.refusals.TypeKind.TheVariants.{BadOperand, BadConstant}
use Rattle.core_meaning.specs.Program.{PlainConstantPart}
use Rattle.core_meaning.specs.Values.{Path}
use Rattle.core_meaning.specs.Checking.{Entity, Checked, fine, refused, broken, ◌>>=◌, give, unless_so, found_or, or_broken}
use Rattle.core_meaning.specs.Entities.{Scope}
use Rattle.core_meaning.specs.Typing.{Typed, loaded, fits_into}
use Rattle.core_meaning.specs.Expressions.{judged, valued, first_token, text_bytes}
use Rattle.core_meaning.specs.Constancy.{judged_count, count_of_value, value_if_constant, Initial, first_scalar, part_for, path_for, is_character_type, text_parts, text_initial, same_place, same_span, is_before_bad_constant, kind_of_excess, part_or_excess, is_allowed, value_initial, whole_initial, text_or_whole, initial, initial_entries}
use Rattle.core_meaning.specs.UnitNames.{constant_parts}
use Rattle.tree_derivations.specs.Derivations.{Derivation, single, made_of, Shaped, a_row, some_texts, with_last_comma, at_end, a_word, a_part, Ended, ends, ends_in_comma, goes_on}
use Rattle.bindings.specs.Visible.{Occurrence, Reading, passed}
use Rattle.bindings.specs.Bindings.{is_name, read_expression, read_expressions}
use Rattle.bindings.specs.Judged.{Identified, IsFirstUndeclared}
use Rattle.bindings.proofs.Follows.{Adds, adds_none, Unbound, unbound_further, IfUndeclared, if_undeclared, Follows, quietly_before, yields, yields_both, yields_as, yields_if}
use Rattle.bindings.proofs.Spellings.{Holds, AllHold, no_name}
use Rattle.bindings.proofs.Operators.{Anything, loads, yields_unless, yields_found, yields_some}
use Rattle.bindings.proofs.Related.{Room, numbering}
use Rattle.bindings.proofs.Expressions.{expressions_add, read_leaf, skip, skip_texts, bytes_known, Rel, After, Goal, Operands, Values, then_quietly, then_on, quietly}
use Rattle.bindings.proofs.ExpressionTrees.{IsRead, expression_read}

-- ---- an expression that initialises

abbrev is_braces : Kind → Bool
is_braces k.Braces = true
is_braces other = false

as_expression : (kind : Kind) {parts : PlainTrees} → IsTrue (belongs initialiser kind) → IsTrue (agree kind parts) → Shaped (shape initialiser kind) parts → is_braces kind ≡ false → Derivation (expression 1) (node kind parts)
as_expression k.Texts b a s e = made_of k.Texts refl a s
as_expression k.Parenthesized b a s e = made_of k.Parenthesized refl a s
as_expression k.PostfixStep b a s e = made_of k.PostfixStep refl a s
as_expression k.PrefixStep b a s e = made_of k.PrefixStep refl a s
as_expression k.Prefix b a s e = made_of k.Prefix refl a s
as_expression k.Cast b a s e = made_of k.Cast refl a s
as_expression k.Selection b a s e = made_of k.Selection refl a s
as_expression k.Index b a s e = made_of k.Index refl a s
as_expression k.Call b a s e = made_of k.Call refl a s
as_expression k.Assignment b a s e = made_of k.Assignment refl a s
as_expression k.Conditional b a s e = made_of k.Conditional refl a s
as_expression k.LogicalOr b a s e = made_of k.LogicalOr refl a s
as_expression k.LogicalAnd b a s e = made_of k.LogicalAnd refl a s
as_expression k.Or b a s e = made_of k.Or refl a s
as_expression k.Xor b a s e = made_of k.Xor refl a s
as_expression k.And b a s e = made_of k.And refl a s
as_expression k.Equality b a s e = made_of k.Equality refl a s
as_expression k.Relation b a s e = made_of k.Relation refl a s
as_expression k.Shift b a s e = made_of k.Shift refl a s
as_expression k.Sum b a s e = made_of k.Sum refl a s
as_expression k.Product b a s e = made_of k.Product refl a s
as_expression k.Braces b a s e = absurd (false≢true (sym e))
as_expression _ b a s e = absurd cc

-- ---- tokens at one place

place_trans : (a b c : PlainToken) → same_place a b ≡ true → same_place a c ≡ true → same_place b c ≡ true
place_trans a b c p q = let one_ = place_is a b p in let two_ = place_is a c q in
    place_from b c (sym one_.0 ∙ two_.0) (sym one_.1 ∙ two_.1) (sym one_.2 ∙ two_.2)
  where
    place_is : (a b : PlainToken) → same_place a b ≡ true → (a.origin.file ≡ b.origin.file) × (a.origin.span.start ≡ b.origin.span.start) × (a.origin.span.«end» ≡ b.origin.span.«end»)
    place_is a b h =
        let outer = and_parts (a.origin.file == b.origin.file) (same_span a.origin.span b.origin.span) h in
        let inner = and_parts (a.origin.span.start == b.origin.span.start) (a.origin.span.«end» == b.origin.span.«end») outer.1 in
        (eqb-true a.origin.file b.origin.file outer.0, eqb-true a.origin.span.start b.origin.span.start inner.0, eqb-true a.origin.span.«end» b.origin.span.«end» inner.1)

    place_from : (a b : PlainToken) → a.origin.file ≡ b.origin.file → a.origin.span.start ≡ b.origin.span.start → a.origin.span.«end» ≡ b.origin.span.«end» → same_place a b ≡ true
    place_from a b f s e =
        Rattle.std.proofs.lemmas.Bool.and_from (a.origin.file == b.origin.file) (same_span a.origin.span b.origin.span) (Rattle.std.proofs.lemmas.Bool.eq-eqb a.origin.file b.origin.file f)
        (Rattle.std.proofs.lemmas.Bool.and_from (a.origin.span.start == b.origin.span.start) (a.origin.span.«end» == b.origin.span.«end») (Rattle.std.proofs.lemmas.Bool.eq-eqb a.origin.span.start b.origin.span.start s) (Rattle.std.proofs.lemmas.Bool.eq-eqb a.origin.span.«end» b.origin.span.«end» e))

first_at : (a b : PlainToken) (os : List Occurrence) → same_place a b ≡ true → IsFirstUndeclared a os → IsFirstUndeclared b os
first_at a b [] same h = h
first_at a b (o ∷ os) same h = by o.binding (first_at a b os same) h
  where
    by :
        (x : Rattle.bindings.specs.Visible.Binding) → (IsFirstUndeclared a os → IsFirstUndeclared b os)
        → (elim x as (λ x. Type 0) [ Rattle.bindings.specs.Visible.bound_to n ↦ IsFirstUndeclared a os | Rattle.bindings.specs.Visible.undeclared ↦ IsTrue (same_place a o.token) | Rattle.bindings.specs.Visible.member_use w ↦ IsFirstUndeclared a os ])
        → (elim x as (λ x. Type 0) [ Rattle.bindings.specs.Visible.bound_to n ↦ IsFirstUndeclared b os | Rattle.bindings.specs.Visible.undeclared ↦ IsTrue (same_place b o.token) | Rattle.bindings.specs.Visible.member_use w ↦ IsFirstUndeclared b os ])
    by (Rattle.bindings.specs.Visible.bound_to n) further h = further h
    by Rattle.bindings.specs.Visible.undeclared further h = place_trans a b o.token same h
    by (Rattle.bindings.specs.Visible.member_use w) further h = further h

-- what a judgement says of an expression that is one initialiser too many
abbrev Known : List Occurrence → List Occurrence → Checked Typed → Type 0
Known a b (fine x js) = Unit {0}
Known a b (refused kind token) = IfUndeclared kind (Unbound a b token)
Known a b broken = Unit {0}

known_of : (names : Entity → Entity) (h : List Identified) (a b : List Occurrence) (V : Typed → List Identified → Type 0) (c : Checked Typed) → Follows names h a b V c → Known a b c
known_of names h a b V (fine x js) f = tt
known_of names h a b V (refused kind token) f = f
known_of names h a b V broken f = tt

excess : (a b : List Occurrence) (first : PlainToken) (c : Checked Typed) → Known a b c → IfUndeclared (kind_of_excess first c) (Unbound a b first)
excess a b first (fine x js) h = tt
excess a b first broken h = tt
excess a b first (refused kind token) h = by (same_place token first) refl (is_before_bad_constant kind)
  where
    by : (x : Bool) → same_place token first ≡ x → (y : Bool) → IfUndeclared (if x && y then kind else BadConstant) (Unbound a b first)
    by true e true = if_undeclared kind (λ u. record { os = u.os; is = u.is; first = first_at token first u.os e u.first }) h
    by true e false = tt
    by false e y = tt

-- ---- values of globals

abbrev pub AllAllowed : Option ℕ → List Initial → Type 0
AllAllowed globals [] = Unit {0}
AllAllowed globals (i ∷ rest) = ((elim globals as (λ x. Bool) [ None ↦ true | Some n ↦ is_some (first_scalar n i.value) ]) ≡ true) × AllAllowed globals rest

allowed_both : (globals : Option ℕ) (a b : List Initial) → AllAllowed globals a → AllAllowed globals b → AllAllowed globals (a ++ b)
allowed_both globals [] b f g = g
allowed_both globals (i ∷ a) b f g = (f.0, allowed_both globals a b f.1 g)

pub constants_known : (n : ℕ) (parts : List Initial) → AllAllowed (Some n) parts → is_some (constant_parts n parts) ≡ true
constants_known n [] h = refl
constants_known n (i ∷ rest) h = by (first_scalar n i.value) (constant_parts n rest) h.0 (constants_known n rest h.1)
  where
    by : (a : Option Rattle.core_meaning.specs.Values.Scalar) (b : Option (List PlainConstantPart)) → is_some a ≡ true → is_some b ≡ true
        → is_some (elim a as (λ x. Option (List PlainConstantPart)) [ None ↦ None | Some v ↦ option_map (λ others. record { path = i.path; value = v } ∷ others) b ]) ≡ true
    by (Some a) (Some b) f g = refl
    by None b f g = absurd (false≢true f)
    by (Some a) None f g = absurd (false≢true g)

text_allowed : (globals : Option ℕ) (element : PlainType) (path : Path) (n : ℕ) (bytes : List ℕ) (first : PlainToken) → AllAllowed globals (text_parts element path n bytes first)
text_allowed globals element path n [] first = tt
text_allowed None element path n (byte ∷ rest) first = (refl, text_allowed None element path (suc n) rest first)
text_allowed (Some g) element path n (byte ∷ rest) first = (refl, text_allowed (Some g) element path (suc n) rest first)

module _ (at : ℕ → Entity) (taken : Room) (scope : Scope) where
  pub valued_read :
      (tree : PlainTree) → IsRead at taken scope tree → (r : Reading) (h : List Identified) → Rel at taken scope r h
      → Goal at taken scope (Values at taken scope) h r.found (read_expression tree r) (valued scope tree)
  valued_read tree read r h rel =
      then_quietly at taken scope (Operands at taken scope) (Values at taken scope) h r.found (read_expression tree r) (judged scope tree) (loaded scope) (read r h rel) (λ x m. loads scope.tags scope x m)

  pub count_read :
      (tree : PlainTree) (name : PlainToken) → IsRead at taken scope tree → (r : Reading) (h : List Identified) → Rel at taken scope r h
      → Goal at taken scope Anything h r.found (read_expression tree r) (judged_count scope tree name)
  count_read tree name read r h rel =
      then_quietly at taken scope (Values at taken scope) Anything h r.found (read_expression tree r) (valued scope tree)
      (λ x. found_or (if is_integer x.ty then count_of_value (value_if_constant x.core) else None) BadConstant (first_token tree name))
      (valued_read tree read r h rel)
      (λ x m. yields_as (λ n. (if is_integer x.ty then count_of_value (value_if_constant x.core) else None) ≡ Some n) Anything
      (found_or (if is_integer x.ty then count_of_value (value_if_constant x.core) else None) BadConstant (first_token tree name))
      (yields_found (if is_integer x.ty then count_of_value (value_if_constant x.core) else None) BadConstant (first_token tree name) tt) (λ n e. tt))

  module _ (globals : Option ℕ) where
    abbrev pub Parts : List Initial → Type 0
    Parts parts = AllAllowed globals parts

    value_read :
        (tree : PlainTree) (ty : PlainType) (path : Path) (first : PlainToken) → IsRead at taken scope tree → (r : Reading) (h : List Identified) → Rel at taken scope r h
        → Goal at taken scope Parts h r.found (read_expression tree r) (value_initial scope globals ty path tree first)
    value_read tree ty path first read r h rel =
        then_quietly at taken scope (Values at taken scope) Parts h r.found (read_expression tree r) (valued scope tree)
        (λ x. found_or (fits_into ty x) BadOperand first >>= (λ core. unless_so (is_allowed scope globals core) BadConstant first >>= (λ allowed. give (record { path = path; value = core; first = first } ∷ []))))
        (valued_read tree read r h rel)
        (λ x m. yields_both (λ core. fits_into ty x ≡ Some core) Parts (found_or (fits_into ty x) BadOperand first)
        (λ core. unless_so (is_allowed scope globals core) BadConstant first >>= (λ allowed. give (record { path = path; value = core; first = first } ∷ [])))
        (yields_found (fits_into ty x) BadOperand first tt)
        (λ core e. yields_both (λ y. is_allowed scope globals core ≡ true) Parts (unless_so (is_allowed scope globals core) BadConstant first) (λ allowed. give (record { path = path; value = core; first = first } ∷ []))
        (yields_unless (is_allowed scope globals core) BadConstant first tt)
        (λ y allowed. yields Parts (record { path = path; value = core; first = first } ∷ []) (allowed, tt))))

    whole_read :
        (tree : PlainTree) (ty : PlainType) (path : Path) (first : PlainToken) → IsRead at taken scope tree → (r : Reading) (h : List Identified) → Rel at taken scope r h
        → Goal at taken scope Parts h r.found (read_expression tree r) (whole_initial scope globals ty path tree first)
    whole_read tree (array_of element count) path first read r h rel =
        then_quietly at taken scope (Values at taken scope) Parts h r.found (read_expression tree r) (valued scope tree) (λ x. refused BadOperand first) (valued_read tree read r h rel) (λ x m. tt)
    whole_read tree ty path first read r h rel = value_read tree ty path first read r h rel

    text_read :
        (parts : PlainTrees) (ty : PlainType) (path : Path) (first : PlainToken) → IsTrue (are_texts parts) → AllHold parts → IsRead at taken scope (node k.Texts parts)
        → (r : Reading) (h : List Identified) → Rel at taken scope r h
        → Goal at taken scope Parts h r.found (read_expression (node k.Texts parts) r) (text_or_whole scope globals ty path parts first)
    text_read parts (array_of element count) path first texts holds read r h rel =
        skip_texts parts texts r (λ s. Goal at taken scope Parts h r.found s (text_or_whole scope globals (array_of element count) path parts first)) (λ s g. g)
        (quietly at taken scope Parts h r (text_or_whole scope globals (array_of element count) path parts first) rel
        (yields_if Parts (is_character_type element) (or_broken (text_bytes parts) >>= (λ bytes. text_initial element count path bytes first)) (refused BadOperand first)
        (λ e. yields_both (λ bytes. text_bytes parts ≡ Some bytes) Parts (or_broken (text_bytes parts)) (λ bytes. text_initial element count path bytes first)
        (yields_some (text_bytes parts) (bytes_known parts texts holds))
        (λ bytes f. yields_both (λ x. nat_le (length bytes) count ≡ true) Parts (unless_so (nat_le (length bytes) count) BadConstant first) (λ room. give (text_parts element path 0 (take count (bytes ++ 0 ∷ [])) first))
        (yields_unless (nat_le (length bytes) count) BadConstant first tt)
        (λ x g. yields Parts (text_parts element path 0 (take count (bytes ++ 0 ∷ [])) first) (text_allowed globals element path 0 (take count (bytes ++ 0 ∷ [])) first))))
        (λ e. tt)))
    text_read parts ty path first texts holds read r h rel = value_read (node k.Texts parts) ty path first read r h rel

    abbrev InitialRead : PlainTree → Type 0
    InitialRead tree =
        (ty : PlainType) (path : Path) (behind : PlainToken) (r : Reading) (h : List Identified) → Rel at taken scope r h
        → Goal at taken scope Parts h r.found (read_expression tree r) (initial scope globals ty path tree behind)

    abbrev ExcessKnown : PlainTree → Type 0
    ExcessKnown tree = (r : Reading) (h : List Identified) → Rel at taken scope r h → Known r.found (read_expression tree r).found (valued scope tree)

    abbrev EntriesRead : PlainTrees → Type 0
    EntriesRead entries =
        (ty : PlainType) (path : Path) (n : ℕ) (behind : PlainToken) (r : Reading) (h : List Identified) → Rel at taken scope r h
        → Goal at taken scope Parts h r.found (read_expressions entries r) (initial_entries scope globals ty path n entries behind)

    -- an initialiser for a part, where the object has the part
    part_read :
        (tree : PlainTree) (first : PlainToken) (found : Option PlainType) (r s : Reading) (h : List Identified) (next : PlainType → Checked (List Initial)) → Rel at taken scope r h
        → ExcessKnown tree → Adds (read_expression tree r).found s.found → ((element : PlainType) → Goal at taken scope Parts h r.found s (next element))
        → Goal at taken scope Parts h r.found s (part_or_excess scope globals found tree first >>= next)
    part_read tree first (Some element) r s h next rel known adds g =
        quietly_before (numbering at) h r.found s.found Anything (After at taken scope Parts s) (give element) next (yields Anything element tt) (λ x any. g x)
    part_read tree first None r s h next rel known adds g =
        if_undeclared (kind_of_excess first (valued scope tree)) (λ u. unbound_further u adds)
        (excess r.found (read_expression tree r).found first (valued scope tree) (known r h rel))

    -- the last entry, and an entry before others
    last_entry : (tree : PlainTree) → InitialRead tree → ExcessKnown tree → EntriesRead (more tree none)
    last_entry tree read known ty path n behind r h rel =
        part_read tree (first_token tree behind) (part_for scope.structs ty n) r (read_expression tree r) h (λ element. initial scope globals element (path_for ty path n) tree behind) rel known
        (adds_none (read_expression tree r).found) (λ element. read element (path_for ty path n) behind r h rel)

    next_entry :
        (tree : PlainTree) (comma : PlainToken) (rest : PlainTrees) → is_name comma ≡ false → InitialRead tree → ExcessKnown tree → EntriesRead rest
        → EntriesRead (more tree (more (leaf comma) rest))
    next_entry tree comma rest e read known others ty path n behind r h rel =
        let between : Reading = passed (read_expression tree r) in
        let last : Reading = read_expressions rest between in
        skip comma (read_expression tree r) e (λ s. Goal at taken scope Parts h r.found (read_expressions rest s) (initial_entries scope globals ty path n (more tree (more (leaf comma) rest)) behind))
        (part_read tree (first_token tree behind) (part_for scope.structs ty n) r last h
        (λ element. initial scope globals element (path_for ty path n) tree behind >>= (λ first. initial_entries scope globals ty path (n + 1) rest behind >>= (λ others. give (first ++ others)))) rel known
        (expressions_add rest between)
        (λ element. then_on at taken scope Parts Parts h r.found between last (initial scope globals element (path_for ty path n) tree behind)
        (λ first. initial_entries scope globals ty path (n + 1) rest behind >>= (λ others. give (first ++ others)))
        (read element (path_for ty path n) behind r h rel)
        (λ first after a rel2. then_quietly at taken scope Parts Parts after between.found last (initial_entries scope globals ty path (n + 1) rest behind) (λ others. give (first ++ others))
        (others ty path (n + 1) behind between after rel2) (λ more_ b. yields Parts (first ++ more_) (allowed_both globals first more_ a b)))
        (expressions_add rest between)))

    no_entry : EntriesRead none
    no_entry ty path n behind r h rel = quietly at taken scope Parts h r (give []) rel (yields Parts [] tt)

    braces_read :
        (open_ close : PlainToken) (entries : PlainTrees) → is_name open_ ≡ false → is_name close ≡ false → EntriesRead entries
        → InitialRead (node k.Braces (more (leaf open_) (more (node k.Initialisers entries) (more (leaf close) none))))
    braces_read open_ close entries o c read ty path behind r h rel =
        skip open_ r o (λ s. Goal at taken scope Parts h r.found (read_leaf close (read_expressions entries s)) (initial_entries scope globals ty path 0 entries behind))
        (skip close (read_expressions entries (passed r)) c (λ s. Goal at taken scope Parts h r.found s (initial_entries scope globals ty path 0 entries behind))
        (read ty path 0 behind (passed r) h rel))

    excess_braces : {tree : PlainTree} → Derivation initialisers tree → (open_ close : PlainToken) → ExcessKnown (node k.Braces (more (leaf open_) (more tree (more (leaf close) none))))
    excess_braces (single is) open_ close r h rel = absurd cc
    excess_braces (made_of kind b a s) open_ close r h rel = tt

    excess_read : {tree : PlainTree} → Derivation initialiser tree → Holds tree → ExcessKnown tree
    excess_read (single {token = token} is) holds r h rel = known_of (numbering at) h r.found (read_expression (leaf token) r).found (After at taken scope (Values at taken scope) (read_expression (leaf token) r)) (valued scope (leaf token)) (valued_read (leaf token) (expression_read at taken scope {n = 1} (single is) holds) r h rel)
    excess_read (made_of k.Braces b a (a_row (a_word {token = open_} w (a_part d (a_word {token = close} v at_end))))) holds r h rel = excess_braces d open_ close r h rel
    excess_read (made_of kind {parts = parts} b a s) holds r h rel =
        known_of (numbering at) h r.found (read_expression (node kind parts) r).found (After at taken scope (Values at taken scope) (read_expression (node kind parts) r)) (valued scope (node kind parts)) (valued_read (node kind parts) (expression_read at taken scope (as_expression kind b a s refl) holds) r h rel)

    mutual
      pub initial_read : {tree : PlainTree} → Derivation initialiser tree → Holds tree → InitialRead tree
      initial_read (single {token = token} is) holds = λ ty path behind. whole_read (leaf token) ty path token (expression_read at taken scope {n = 1} (single is) holds)
      initial_read (made_of k.Braces b a (a_row (a_word {token = open_} w (a_part d (a_word {token = close} v at_end))))) holds =
          list_read d open_ close holds.1.0 (no_name (t.OpenBrace ∷ []) open_ refl w) (no_name (t.CloseBrace ∷ []) close refl v)
      initial_read (made_of k.Texts {parts = parts} b a (some_texts texts some)) holds = λ ty path behind.
          text_read parts ty path (first_token (node k.Texts parts) behind) texts holds (expression_read at taken scope {n = 1} (made_of k.Texts refl a (some_texts texts some)) holds)
      initial_read (made_of kind {parts = parts} b a s) holds = λ ty path behind.
          whole_read (node kind parts) ty path (first_token (node kind parts) behind) (expression_read at taken scope (as_expression kind b a s refl) holds)

      list_read :
          {tree : PlainTree} → Derivation initialisers tree → (open_ close : PlainToken) → Holds tree → is_name open_ ≡ false → is_name close ≡ false
          → InitialRead (node k.Braces (more (leaf open_) (more tree (more (leaf close) none))))
      list_read (single is) open_ close holds o c = absurd cc
      list_read (made_of k.Initialisers {parts = parts} b a (with_last_comma s)) open_ close holds o c = braces_read open_ close parts o c (entries_read s holds)
      list_read (made_of _ b a s) open_ close holds o c = absurd cc

      entries_read : {entries : PlainTrees} → Ended initialiser entries → AllHold entries → EntriesRead entries
      entries_read (ends {tree = tree} d) holds = last_entry tree (initial_read d holds.0) (excess_read d holds.0)
      entries_read (ends_in_comma {tree = tree} {comma = comma} d w) holds = next_entry tree comma none (no_name (t.Comma ∷ []) comma refl w) (initial_read d holds.0) (excess_read d holds.0) no_entry
      entries_read (goes_on {tree = tree} {comma = comma} {rest = rest} d w s) holds =
          next_entry tree comma rest (no_name (t.Comma ∷ []) comma refl w) (initial_read d holds.0) (excess_read d holds.0) (entries_read s holds.1.1)
