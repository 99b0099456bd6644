-- Steps in judging initialisers.
use Rattle.std.proofs.Common.{◌≡◌, ℕ, suc, ◌+◌, ◌<◌, ◌≤◌, ◌==◌, ◌&&◌, Bool, true, false, List, [], ◌∷◌, ◌++◌, length, take, map, reverse, refl, sym, ap, arith, ◌∙◌}
use Rattle.std.specs.Prelude.{pos, Option, Some, None, Result, Ok, Err, MatchResult, if◌then◌else◌}
use Rattle.std.proofs.lemmas.List.{map-append, append_assoc, reverse-append, append-nil, length-append}
use Rattle.std.proofs.Math.Seq.{take-append_seam}
use Rattle.std.proofs.Common.{add-one, take_all, drop, get_or, ◌*◌}
use Rattle.std.proofs.Math.Seq.{drop-cons}
use Rattle.std.proofs.Math.ListN.{drop_of_length-le}
use Rattle.plain_scope.specs.declared.errors.ElabError.{ElabError}
use Rattle.plain_scope.specs.declared.errors.ElabError.TheVariants.{Memory}
use Rattle.plain_scope.specs.Judgements.{Gives, IsRefused, RefusedAs}
use Rattle.plain_scope.specs.JudgementLaws.{refused_first}
use Rattle.plain_declarators.specs.Words.{behind_comma, next_behind}
use Rattle.plain_declarators.specs.Shapes.{braced}
use Rattle.plain_declarators.specs.Sequences.{bind_nothing, gives_next, refused_next, gives_of, refused_of}
use Rattle.plain_declarators.specs.Progress.{Continues, continues_with, continues_refused}
use Rattle.text_edits.specs.Span.{plain_span}
use Rattle.c_text.specs.Token.{PlainToken}
use Rattle.c_text.specs.declared.origin.FileToken.{FileToken}
use Rattle.c_types.specs.Types.{PlainType, char, unsigned_char}
use Rattle.c_types.specs.Integers.{converted, is_integer}
use Rattle.c_tree.specs.declared.kinds.Kind.{Kind}
use Rattle.c_tree.specs.declared.kinds.Kind.TheVariants as k
use Rattle.c_tree.specs.declared.trees.Tree.{Tree}
use Rattle.c_tree.specs.Trees.{PlainTree, PlainTrees, leaf, node, none, more, plain_tree, plain_trees}
use Rattle.core_meaning.specs.declared.refusals.TypeKind.{TypeKind}
use Rattle.core_meaning.specs.Program.{PlainExpression, constant}
use Rattle.core_meaning.specs.Values.{part, Path}
use Rattle.core_meaning.specs.Plain.{path_from}
use Rattle.core_meaning.specs.declared.refusals.TypeKind.TheVariants.{BadOperand, BadConstant}
use Rattle.core_meaning.specs.Checking.{Checked, fine, refused, broken, ◌>>=◌, give, unless_so, or_broken}
use Rattle.core_meaning.specs.Entities.{Scope}
use Rattle.core_meaning.specs.Typing.{Typed}
use Rattle.core_meaning.specs.Expressions.{first_token, text_bytes, valued}
use Rattle.core_meaning.specs.Constancy.{Initial, initial, initial_entries, part_for, path_for, text_initial, text_parts, is_character_type, is_allowed, whole_initial, same_span, is_before_bad_constant, kind_of_excess, part_or_excess}

-- whether the object is a global; its parts don't depend on how many globals there are
abbrev pub globals_if : Bool → Option ℕ
globals_if of_global = if of_global then Some 0 else None

-- one initialiser among those in braces
abbrev pub entry_initial : Scope → Option ℕ → PlainType → Path → ℕ → PlainTree → PlainToken → Checked (List Initial)
entry_initial scope globals ty path n tree behind = do
  element ← part_or_excess scope globals (part_for scope.structs ty n) tree (first_token tree behind)
  initial scope globals element (path_for ty path n) tree behind

-- an array from texts
abbrev pub array_from_text : PlainType → ℕ → Path → PlainTrees → PlainToken → Checked (List Initial)
array_from_text element count path parts first =
    if is_character_type element
    then or_broken (text_bytes parts) >>= (λ bytes. text_initial element count path bytes first)
    else refused BadOperand first

pub longer_path : (path : List ℕ) (n : ℕ) → path_from (path ++ n ∷ []) ≡ part n ∷ path_from path
longer_path path n = ap reverse (map-append part path (n ∷ [])) ∙ reverse-append (map part path) (part n ∷ [])

abbrev pub text_at : PlainType → Path → ℕ → ℕ → PlainToken → Initial
text_at element path n byte first = record { path = part n ∷ path; value = constant (converted element (pos byte)); first = first }

text_step_at : (before : List Initial) (element : PlainType) (path : Path) (n byte : ℕ) (rest : List ℕ) (first : PlainToken) → (before ++ text_at element path n byte first ∷ []) ++ text_parts element path (suc n) rest first ≡ before ++ text_parts element path n (byte ∷ rest) first
text_step_at before element path n byte rest first = append_assoc before (text_at element path n byte first ∷ []) (text_parts element path (suc n) rest first)

-- one more byte of a text
pub text_step : (parts before : List Initial) (element : PlainType) (path : Path) (n byte : ℕ) (rest : List ℕ) (first : PlainToken) → parts ≡ before ++ text_at element path n byte first ∷ [] → parts ++ text_parts element path (n + 1) rest first ≡ before ++ text_parts element path n (byte ∷ rest) first
text_step parts before element path n byte rest first is = rw (is, add-one) (text_step_at before element path n byte rest first)

pub room_for_none : (bytes : List ℕ) (count : ℕ) → length bytes ≤ count → count ≤ length bytes → bytes ≡ take count (bytes ++ 0 ∷ [])
room_for_none bytes count small large =
    let e : count ≡ length bytes = omega arith in rw e (sym (take-append_seam bytes (0 ∷ [])))

pub room_for_all : (bytes : List ℕ) (count : ℕ) → length bytes < count → bytes ++ 0 ∷ [] ≡ take count (bytes ++ 0 ∷ [])
room_for_all bytes count room = sym (take_all count (bytes ++ 0 ∷ []) (simp length-append (omega arith)))

pub array_of_text : (element : PlainType) (count : ℕ) (path : Path) (parts : PlainTrees) (first : PlainToken) (bytes : List ℕ) → is_character_type element ≡ true → text_bytes parts ≡ Some bytes → array_from_text element count path parts first ≡ text_initial element count path bytes first
array_of_text element count path parts first bytes holds is = rw holds (rw is (bind_nothing (text_initial element count path bytes first)))

pub array_of_text_refused : (element : PlainType) (count : ℕ) (path : Path) (parts : PlainTrees) (first : PlainToken) → is_character_type element ≡ false → array_from_text element count path parts first ≡ refused BadOperand first
array_of_text_refused element count path parts first holds = rw holds refl

-- a test doesn't fail and hold
none_such : {A : Type 0} → false ≡ true → A
none_such h = cc

pub characters_are_integers : (ty : PlainType) → is_character_type ty ≡ true → is_integer ty ≡ true
characters_are_integers char is = refl
characters_are_integers unsigned_char is = refl
characters_are_integers other is = none_such is

abbrev pub value_at : Path → PlainExpression → PlainToken → Initial
value_at path e first = record { path = path; value = e; first = first }

abbrev pub allowed_value : Scope → Option ℕ → Path → PlainExpression → PlainToken → Checked (List Initial)
allowed_value scope globals path core first = do
  allowed ← unless_so (is_allowed scope globals core) BadConstant first
  give (value_at path core first ∷ [])

joined_to_none : (c : Checked (List Initial)) → c ≡ (c >>= (λ first. give [] >>= (λ others. give (first ++ others))))
joined_to_none (fine x bindings) = rw (append-nil x, append-nil bindings) refl
joined_to_none (refused kind token) = refl
joined_to_none broken = refl

regrouped : {B D : Type 0} (scope : Scope) (globals : Option ℕ) (found : Option PlainType) (tree : PlainTree) (first : PlainToken) (f : PlainType → Checked B) (g : B → Checked D) → (part_or_excess scope globals found tree first >>= (λ x. f x >>= g)) ≡ ((part_or_excess scope globals found tree first >>= f) >>= g)
regrouped scope globals (Some x) tree first f g = bind_nothing (f x >>= g) ∙ ap (λ (d : Checked _). d >>= g) (sym (bind_nothing (f x)))
regrouped scope globals None tree first f g = refl

-- the first of some initialisers, and then those behind the comma
pub entries_step : (scope : Scope) (globals : Option ℕ) (ty : PlainType) (path : Path) (n : ℕ) (tree : PlainTree) (rest : PlainTrees) (behind : PlainToken) → initial_entries scope globals ty path n (more tree rest) behind ≡ (entry_initial scope globals ty path n tree behind >>= (λ first. initial_entries scope globals ty path (n + 1) (behind_comma rest) behind >>= (λ others. give (first ++ others))))
entries_step scope globals ty path n tree none behind = joined_to_none (entry_initial scope globals ty path n tree behind)
entries_step scope globals ty path n tree (more comma rest) behind =
    regrouped scope globals (part_for scope.structs ty n) tree (first_token tree behind) (λ element. initial scope globals element (path_for ty path n) tree behind) (λ first. initial_entries scope globals ty path (n + 1) rest behind >>= (λ others. give (first ++ others)))

-- the initialisers from one on
abbrev pub entries_from : Scope → Option ℕ → PlainType → Path → ℕ → List Tree → PlainToken → Checked (List Initial)
entries_from scope globals ty path n parts behind = initial_entries scope globals ty path n (plain_trees (drop (2 * n) parts)) behind

pub entries_next : (scope : Scope) (globals : Option ℕ) (ty : PlainType) (path : Path) (n : ℕ) (parts : List Tree) (tree : Tree) (behind : PlainToken) → 2 * n < length parts → tree ≡ get_or parts (2 * n) tree → entries_from scope globals ty path n parts behind ≡ (entry_initial scope globals ty path n (plain_tree tree) behind >>= (λ first. entries_from scope globals ty path (n + 1) parts behind >>= (λ others. give (first ++ others))))
entries_next scope globals ty path n parts tree behind inside is =
    let front : drop (2 * n) parts ≡ tree ∷ drop (suc (2 * n)) parts = drop-cons parts (2 * n) tree inside ∙ ap (λ t. t ∷ drop (suc (2 * n)) parts) (sym is) in
    let two : suc (suc (2 * n)) ≡ 2 * (n + 1) = omega arith in
    let last : behind_comma (plain_trees (drop (suc (2 * n)) parts)) ≡ plain_trees (drop (2 * (n + 1)) parts) = next_behind (suc (2 * n)) parts ∙ ap (λ k. plain_trees (drop k parts)) two in
    ap (λ l. initial_entries scope globals ty path n (plain_trees l) behind) front
    ∙ entries_step scope globals ty path n (plain_tree tree) (plain_trees (drop (suc (2 * n)) parts)) behind
    ∙ ap (λ l. entry_initial scope globals ty path n (plain_tree tree) behind >>= (λ first. initial_entries scope globals ty path (n + 1) l behind >>= (λ others. give (first ++ others)))) last

pub entries_end : (scope : Scope) (globals : Option ℕ) (ty : PlainType) (path : Path) (n : ℕ) (parts : List Tree) (behind : PlainToken) → length parts ≤ 2 * n → entries_from scope globals ty path n parts behind ≡ give []
entries_end scope globals ty path n parts behind over = rw (drop_of_length-le parts {i = 2 * n} over) refl

abbrev pub refused_value : Scope → PlainTree → PlainToken → Checked (List Initial)
refused_value scope tree first = do
  x ← valued scope tree
  refused BadOperand first

-- what isn't there is nothing
no_entries : {A : Type 0} {entries : PlainTrees} → None ≡ Some entries → A
no_entries h = cc

pub initial_braces : (scope : Scope) (globals : Option ℕ) (ty : PlainType) (path : Path) (parts entries : PlainTrees) (behind : PlainToken) → braced parts ≡ Some entries → initial scope globals ty path (node k.Braces parts) behind ≡ initial_entries scope globals ty path 0 entries behind
initial_braces scope globals ty path (more brace (more (node kind inner) (more last none))) given behind is =
    let e : inner ≡ given = cc in ap (λ l. initial_entries scope globals ty path 0 l behind) e
initial_braces scope globals ty path none given behind is = no_entries is
initial_braces scope globals ty path (more brace none) given behind is = no_entries is
initial_braces scope globals ty path (more brace (more (leaf token) rest)) given behind is = no_entries is
initial_braces scope globals ty path (more brace (more (node kind inner) none)) given behind is = no_entries is
initial_braces scope globals ty path (more brace (more (node kind inner) (more last (more other rest)))) given behind is = no_entries is

-- behind the part that an initialiser is for
pub part_gives : {B : Type 0} (scope : Scope) (globals : Option ℕ) (found : Option PlainType) (tree : PlainTree) (first : PlainToken) (next : PlainType → Checked B) (x : PlainType) (y : B) (before after : List ℕ → Bool) → found ≡ Some x → Gives (next x) y before after → Gives (part_or_excess scope globals found tree first >>= next) y before after
part_gives scope globals found tree first next x y before after is g = gives_next (part_or_excess scope globals found tree first) next x y before after (rw is refl) g

pub part_refused : {B : Type 0} (scope : Scope) (globals : Option ℕ) (found : Option PlainType) (tree : PlainTree) (first : PlainToken) (next : PlainType → Checked B) (x : PlainType) (error : ElabError) → found ≡ Some x → RefusedAs (next x) error → RefusedAs (part_or_excess scope globals found tree first >>= next) error
part_refused scope globals found tree first next x error is r = refused_next (part_or_excess scope globals found tree first) next x error (rw is refl) r

-- an initialiser too many
abbrev pub excess : Scope → PlainTree → PlainToken → Checked PlainType
excess scope tree first = refused (kind_of_excess first (valued scope tree)) first

pub nothing_refused : {B : Type 0} (scope : Scope) (globals : Option ℕ) (found : Option PlainType) (tree : PlainTree) (first : PlainToken) (next : PlainType → Checked B) (error : ElabError) → found ≡ None → RefusedAs (excess scope tree first) error → RefusedAs (part_or_excess scope globals found tree first >>= next) error
nothing_refused scope globals found tree first next error is r = refused_first (part_or_excess scope globals found tree first) next error (refused_of (part_or_excess scope globals found tree first) (excess scope tree first) error (rw is refl) r)

-- the kind of a refusal at a place, if it counts before that of an initialiser too many
abbrev pub kind_at : TypeKind → FileToken → PlainToken → TypeKind
kind_at kind at first =
    if (at.file == first.origin.file && same_span (plain_span at.span) first.origin.span) && is_before_bad_constant kind then kind else BadConstant

pub excess_refused : (c : Checked Typed) (first : PlainToken) (kind found : TypeKind) (at : FileToken) → IsRefused c kind at → found ≡ kind_at kind at first → found ≡ kind_of_excess first c
excess_refused c first kind found at r is = is ∙ rw (r.judged, r.stands.file, r.stands.span) refl

pub excess_given : (c : Checked Typed) (first : PlainToken) (x : Typed) (before after : List ℕ → Bool) → Gives c x before after → BadConstant ≡ kind_of_excess first c
excess_given c first x before after g = sym (ap (kind_of_excess first) g.judged)

-- a list in braces is no expression
pub no_value_in_braces : (scope : Scope) (first : PlainToken) (parts entries : PlainTrees) → braced parts ≡ Some entries → BadConstant ≡ kind_of_excess first (valued scope (node k.Braces parts))
no_value_in_braces scope first (more brace (more (node kind entries) (more last none))) given is = refl
no_value_in_braces scope first none given is = no_entries is
no_value_in_braces scope first (more brace none) given is = no_entries is
no_value_in_braces scope first (more brace (more (leaf token) rest)) given is = no_entries is
no_value_in_braces scope first (more brace (more (node kind entries) none)) given is = no_entries is
no_value_in_braces scope first (more brace (more (node kind entries) (more last (more other rest)))) given is = no_entries is

pub braces_judged : (scope : Scope) (first : PlainToken) (parts : PlainTrees) (tree : PlainTree) (result : Result TypeKind ElabError) → tree ≡ node k.Braces parts → MatchResult result (λ kind. (s : Scope) (f : PlainToken) → kind ≡ kind_of_excess f (valued s (node k.Braces parts))) (λ error. error ≡ Memory) → MatchResult result (λ kind. kind ≡ kind_of_excess first (valued scope tree)) (λ error. error ≡ Memory)
braces_judged scope first parts tree (Ok kind) is given = given scope first ∙ ap (λ (t : PlainTree). kind_of_excess first (valued scope t)) (sym is)
braces_judged scope first parts tree (Err error) is given = given

-- a list in braces, or texts
abbrev pub is_listed : PlainTree → Bool
is_listed (node k.Braces parts) = true
is_listed (node k.Texts parts) = true
is_listed other = false

initial_whole : (scope : Scope) (globals : Option ℕ) (ty : PlainType) (path : Path) (tree : PlainTree) (behind : PlainToken) → is_listed tree ≡ false → initial scope globals ty path tree behind ≡ whole_initial scope globals ty path tree (first_token tree behind)
initial_whole scope globals ty path (node k.Braces parts) behind is = none_such (sym is)
initial_whole scope globals ty path (node k.Texts parts) behind is = none_such (sym is)
initial_whole scope globals ty path other behind is = refl

pub whole_gives : (scope : Scope) (globals : Option ℕ) (ty : PlainType) (path : Path) (tree : PlainTree) (first behind : PlainToken) (parts : List Initial) (before after : List ℕ → Bool) → is_listed tree ≡ false → first ≡ first_token tree behind → Gives (whole_initial scope globals ty path tree first) parts before after → Gives (initial scope globals ty path tree behind) parts before after
whole_gives scope globals ty path tree first behind parts before after is at g =
    gives_of (initial scope globals ty path tree behind) (whole_initial scope globals ty path tree first) parts before after (initial_whole scope globals ty path tree behind is ∙ ap (whole_initial scope globals ty path tree) (sym at)) g

pub whole_refused : (scope : Scope) (globals : Option ℕ) (ty : PlainType) (path : Path) (tree : PlainTree) (first behind : PlainToken) (error : ElabError) → is_listed tree ≡ false → first ≡ first_token tree behind → RefusedAs (whole_initial scope globals ty path tree first) error → RefusedAs (initial scope globals ty path tree behind) error
whole_refused scope globals ty path tree first behind error is at r =
    refused_of (initial scope globals ty path tree behind) (whole_initial scope globals ty path tree first) error (initial_whole scope globals ty path tree behind is ∙ ap (whole_initial scope globals ty path tree) (sym at)) r

-- what is left of some initialisers behind one
pub entries_continue : (scope : Scope) (globals : Option ℕ) (ty : PlainType) (path : Path) (n : ℕ) (parts : List Tree) (tree : Tree) (behind : PlainToken) (whole : Checked (List Initial)) (found given all : List Initial) (before between after : List ℕ → Bool) → 2 * n < length parts → tree ≡ get_or parts (2 * n) tree → Continues whole (entries_from scope globals ty path n parts behind) (λ others. found ++ others) before between → Gives (entry_initial scope globals ty path n (plain_tree tree) behind) given between after → all ≡ found ++ given → Continues whole (entries_from scope globals ty path (n + 1) parts behind) (λ others. all ++ others) before after
entries_continue scope globals ty path n parts tree behind whole found given all before between after inside is c g both =
    continues_with whole (entries_from scope globals ty path n parts behind) (λ others. found ++ others) before between after (entry_initial scope globals ty path n (plain_tree tree) behind) (λ first. entries_from scope globals ty path (n + 1) parts behind) (λ first others. first ++ others) given (λ others. all ++ others) c (entries_next scope globals ty path n parts tree behind inside is) g (λ others. sym (append_assoc found given others) ∙ ap (λ l. l ++ others) (sym both))

pub entries_refused : (scope : Scope) (globals : Option ℕ) (ty : PlainType) (path : Path) (n : ℕ) (parts : List Tree) (tree : Tree) (behind : PlainToken) (whole : Checked (List Initial)) (found : List Initial) (before between : List ℕ → Bool) (error : ElabError) → 2 * n < length parts → tree ≡ get_or parts (2 * n) tree → Continues whole (entries_from scope globals ty path n parts behind) (λ others. found ++ others) before between → RefusedAs (entry_initial scope globals ty path n (plain_tree tree) behind) error → RefusedAs whole error
entries_refused scope globals ty path n parts tree behind whole found before between error inside is c r =
    continues_refused whole (entries_from scope globals ty path n parts behind) (λ others. found ++ others) before between error c (refused_of (entries_from scope globals ty path n parts behind) (entry_initial scope globals ty path n (plain_tree tree) behind >>= (λ first. entries_from scope globals ty path (n + 1) parts behind >>= (λ others. give (first ++ others)))) error (entries_next scope globals ty path n parts tree behind inside is) (refused_first (entry_initial scope globals ty path n (plain_tree tree) behind) (λ first. entries_from scope globals ty path (n + 1) parts behind >>= (λ others. give (first ++ others))) error r))

shape_of_braces : (parts : List Tree) (second : Tree) (kind : Kind) (entries : PlainTrees) → 3 ≤ length parts → length parts < 4 → second ≡ get_or parts 1 second → plain_tree second ≡ node kind entries → braced (plain_trees parts) ≡ Some entries
shape_of_braces [] second kind entries l h p q = absurd (omega arith)
shape_of_braces (x ∷ []) second kind entries l h p q = absurd (omega arith)
shape_of_braces (x ∷ y ∷ []) second kind entries l h p q = absurd (omega arith)
shape_of_braces (x ∷ y ∷ z ∷ []) second kind entries l h p q = let e : plain_tree y ≡ node kind entries = ap plain_tree (sym p) ∙ q in rw e refl
shape_of_braces (x ∷ y ∷ z ∷ u ∷ rest) second kind entries l h p q = absurd (omega arith)

pub braces_give : (scope : Scope) (globals : Option ℕ) (ty : PlainType) (path : Path) (parts : List Tree) (second : Tree) (kind : Kind) (entries : PlainTrees) (behind : PlainToken) (given : List Initial) (before after : List ℕ → Bool) → 3 ≤ length parts → length parts < 4 → second ≡ get_or parts 1 second → plain_tree second ≡ node kind entries → Gives (initial_entries scope globals ty path 0 entries behind) given before after → Gives (initial scope globals ty path (node k.Braces (plain_trees parts)) behind) given before after
braces_give scope globals ty path parts second kind entries behind given before after l h p q g =
    gives_of (initial scope globals ty path (node k.Braces (plain_trees parts)) behind) (initial_entries scope globals ty path 0 entries behind) given before after (initial_braces scope globals ty path (plain_trees parts) entries behind (shape_of_braces parts second kind entries l h p q)) g

pub braces_refused : (scope : Scope) (globals : Option ℕ) (ty : PlainType) (path : Path) (parts : List Tree) (second : Tree) (kind : Kind) (entries : PlainTrees) (behind : PlainToken) (error : ElabError) → 3 ≤ length parts → length parts < 4 → second ≡ get_or parts 1 second → plain_tree second ≡ node kind entries → RefusedAs (initial_entries scope globals ty path 0 entries behind) error → RefusedAs (initial scope globals ty path (node k.Braces (plain_trees parts)) behind) error
braces_refused scope globals ty path parts second kind entries behind error l h p q r =
    refused_of (initial scope globals ty path (node k.Braces (plain_trees parts)) behind) (initial_entries scope globals ty path 0 entries behind) error (initial_braces scope globals ty path (plain_trees parts) entries behind (shape_of_braces parts second kind entries l h p q)) r

-- at a node of this kind
pub node_gives : (scope : Scope) (globals : Option ℕ) (ty : PlainType) (path : Path) (tree : PlainTree) (kind wanted : Kind) (parts : PlainTrees) (behind : PlainToken) (given : List Initial) (before after : List ℕ → Bool) → tree ≡ node kind parts → kind ≡ wanted → Gives (initial scope globals ty path (node wanted parts) behind) given before after → Gives (initial scope globals ty path tree behind) given before after
node_gives scope globals ty path tree kind wanted parts behind given before after is same g =
    gives_of (initial scope globals ty path tree behind) (initial scope globals ty path (node wanted parts) behind) given before after (ap (λ x. initial scope globals ty path x behind) (is ∙ ap (λ x. node x parts) same)) g

pub node_refused : (scope : Scope) (globals : Option ℕ) (ty : PlainType) (path : Path) (tree : PlainTree) (kind wanted : Kind) (parts : PlainTrees) (behind : PlainToken) (error : ElabError) → tree ≡ node kind parts → kind ≡ wanted → RefusedAs (initial scope globals ty path (node wanted parts) behind) error → RefusedAs (initial scope globals ty path tree behind) error
node_refused scope globals ty path tree kind wanted parts behind error is same r =
    refused_of (initial scope globals ty path tree behind) (initial scope globals ty path (node wanted parts) behind) error (ap (λ x. initial scope globals ty path x behind) (is ∙ ap (λ x. node x parts) same)) r

pub other_kind : (kind : Kind) (parts : PlainTrees) → (kind ≡ k.Braces → ⊥) → (kind ≡ k.Texts → ⊥) → is_listed (node kind parts) ≡ false
other_kind k.Braces parts a b = absurd (a refl)
other_kind k.Texts parts a b = absurd (b refl)
other_kind other parts a b = refl
