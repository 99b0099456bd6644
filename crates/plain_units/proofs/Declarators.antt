-- Laws of the declarators of a declaration at file scope.
use Rattle.std.proofs.Common.{◌≡◌, ℕ, ◌+◌, ◌<◌, ◌≤◌, Bool, true, false, ◌||◌, List, [], ◌∷◌, length, drop, refl, sym, ap, arith, ◌∙◌, ◌⊎◌, inl, inr}
use Rattle.std.specs.Prelude.{Option, Some, None, if◌then◌else◌}
use Rattle.std.proofs.lemmas.Bool.{cases_lt}
use Rattle.std.proofs.lemmas.Cmp.{nat_eq_equiv}
use Rattle.c_text.specs.Token.{PlainToken}
use Rattle.c_types.specs.Types.{PlainType}
use Rattle.c_tree.specs.declared.kinds.Kind.{Kind}
use Rattle.c_tree.specs.declared.kinds.Kind.TheVariants as k
use Rattle.c_tree.specs.declared.terminals.Terminal.TheVariants as t
use Rattle.c_tree.specs.declared.terminals.Terminal.{Terminal}
use Rattle.c_tree.specs.Terminals.{terminal, same, number}
use Rattle.c_tree.specs.Grammar.{is_word}
use Rattle.c_tree.specs.declared.trees.Tree.{Tree}
use Rattle.c_tree.specs.Trees.{PlainTree, PlainTrees, leaf, node, none, more, plain_tree, plain_trees}
use Rattle.core_meaning.specs.Checking.{Checked, ◌>>=◌, or_broken}
use Rattle.core_meaning.specs.Declarations.{name_in}
use Rattle.core_meaning.specs.UnitNames.{UnitState, Storage, declared_function, declared_object, declared_one, declared_from}
use Rattle.plain_scope.specs.Parts as parts
use Rattle.plain_scope.specs.Judgements.{Gives, RefusedAs}
use Rattle.plain_scope.specs.declared.errors.ElabError.{ElabError}
use Rattle.plain_scope.specs.JudgementLaws.{refused_first}
use Rattle.plain_declarations.specs.Locals.{first_size, initialiser_by}
use Rattle.plain_declarators.specs.Sequences.{bind_nothing, gives_of, refused_of}
use Rattle.plain_structs.specs.Leading.{Leads, leads_with, leads_to, leads_refused}
use Rattle.plain_units.specs.Declarators.{declared_by_kind, declared_first, First, first_as, first_declarator}

one_by_kind : (globals : ℕ) (unit : UnitState) (storage : Storage) (ty : PlainType) (kind : Kind) (parts : PlainTrees) (initialiser : Option PlainTree) (rest : PlainTrees) → declared_one globals unit storage ty (node kind parts) initialiser rest ≡ (or_broken (name_in parts) >>= (λ name. declared_by_kind globals unit storage ty kind parts name initialiser rest))
one_by_kind globals unit storage ty k.FunctionDeclarator parts initialiser rest = refl
one_by_kind globals unit storage ty other parts initialiser rest = refl

pub named_one : (globals : ℕ) (unit : UnitState) (storage : Storage) (ty : PlainType) (kind : Kind) (parts : PlainTrees) (name : PlainToken) (initialiser : Option PlainTree) (rest : PlainTrees) → name_in parts ≡ Some name → declared_one globals unit storage ty (node kind parts) initialiser rest ≡ declared_by_kind globals unit storage ty kind parts name initialiser rest
named_one globals unit storage ty kind parts name initialiser rest is =
    one_by_kind globals unit storage ty kind parts initialiser rest ∙ ap (λ found. or_broken found >>= (λ n. declared_by_kind globals unit storage ty kind parts n initialiser rest)) is ∙ bind_nothing (declared_by_kind globals unit storage ty kind parts name initialiser rest)

pub for_function : (globals : ℕ) (unit : UnitState) (storage : Storage) (ty : PlainType) (kind : Kind) (parts : PlainTrees) (name : PlainToken) (initialiser : Option PlainTree) (rest : PlainTrees) → kind ≡ k.FunctionDeclarator → declared_by_kind globals unit storage ty kind parts name initialiser rest ≡ declared_function unit storage ty parts name initialiser
for_function globals unit storage ty kind parts name initialiser rest is = ap (λ x. declared_by_kind globals unit storage ty x parts name initialiser rest) is

pub for_object : (globals : ℕ) (unit : UnitState) (storage : Storage) (ty : PlainType) (kind : Kind) (parts : PlainTrees) (name : PlainToken) (initialiser : Option PlainTree) (rest : PlainTrees) → (kind ≡ k.FunctionDeclarator → ⊥) → declared_by_kind globals unit storage ty kind parts name initialiser rest ≡ declared_object globals unit storage ty kind parts name initialiser rest
for_object globals unit storage ty k.FunctionDeclarator parts name initialiser rest other = absurd (other refl)
for_object globals unit storage ty kind parts name initialiser rest other = refl

or_none : (b : Bool) → (b || false) ≡ b
or_none true = refl
or_none false = refl

one_word : (wanted : Terminal) (tree : PlainTree) → is_word (wanted ∷ []) tree ≡ parts.is_word wanted tree
one_word wanted (leaf token) = or_none (same (terminal token) wanted) ∙ nat_eq_equiv.symm (number (terminal token)) (number wanted)
one_word wanted (node kind parts) = refl

-- ---- the first declarator of a list, by what stands there

pub nothing_left : (l : List Tree) → length l ≡ 0 → plain_trees l ≡ none
nothing_left [] is = refl
nothing_left (x ∷ rest) is = absurd (omega arith)

pub only_declarator : (list : PlainTrees) (tree : PlainTree) → list ≡ more tree none → first_declarator list ≡ Some (first_as tree None 1)
only_declarator list tree front = ap first_declarator front

pub initialised_declarator : (list : PlainTrees) (tree sign next : PlainTree) (others : PlainTrees) → list ≡ more tree (more sign (more next others)) → parts.is_word t.Assign sign ≡ true → first_declarator list ≡ Some (first_as tree (Some next) 3)
initialised_declarator list tree sign next others front is =
    ap first_declarator front ∙ ap (λ b. Some (first_as tree (if b then Some next else None) (if b then 3 else 1))) is

pub lone_declarator : (list : PlainTrees) (tree sign next : PlainTree) (others : PlainTrees) → list ≡ more tree (more sign (more next others)) → parts.is_word t.Assign sign ≡ false → first_declarator list ≡ Some (first_as tree None 1)
lone_declarator list tree sign next others front is =
    ap first_declarator front ∙ ap (λ b. Some (first_as tree (if b then Some next else None) (if b then 3 else 1))) is

nothing_first : {A : Type 0} (f : First) → None ≡ Some f → A
nothing_first f is = cc

same_first : (f g : First) → Some f ≡ Some g → f ≡ g
same_first f g is = cc

pub first_is : (globals : ℕ) (unit : UnitState) (storage : Storage) (ty : PlainType) (list rest : PlainTrees) (f : First) → first_declarator list ≡ Some f → declared_first globals unit storage ty list rest ≡ declared_one globals unit storage ty f.tree f.initialiser rest
first_is globals unit storage ty none rest f is = nothing_first f is
first_is globals unit storage ty (more tree none) rest f is =
    ap (λ (g : First). declared_one globals unit storage ty g.tree g.initialiser rest) (same_first (first_as tree None 1) f is)
first_is globals unit storage ty (more tree (more sign none)) rest f is = nothing_first f is
first_is globals unit storage ty (more tree (more sign (more next others))) rest f is =
    ap (λ (g : First). declared_one globals unit storage ty g.tree g.initialiser rest) (same_first (first_as tree (initialiser_by sign next) (if parts.is_word t.Assign sign then 3 else 1)) f is)

pub size_is : (list : PlainTrees) (f : First) → first_declarator list ≡ Some f → f.size ≡ first_size list
size_is none f is = nothing_first f is
size_is (more tree none) f is = sym (ap (λ (g : First). g.size) (same_first (first_as tree None 1) f is))
size_is (more tree (more sign none)) f is = nothing_first f is
size_is (more tree (more sign (more next others))) f is =
    sym (ap (λ (g : First). g.size) (same_first (first_as tree (initialiser_by sign next) (if parts.is_word t.Assign sign then 3 else 1)) f is))

-- ---- the first declarator of a list, and those behind it

-- a declarator, and those behind it
abbrev then_declared : ℕ → Storage → PlainType → Checked UnitState → PlainTrees → PlainTrees → Checked UnitState
then_declared globals storage ty one others rest = do
  first ← one
  declared_from globals first storage ty others rest

by_sign : (globals : ℕ) (unit : UnitState) (storage : Storage) (ty : PlainType) (tree sign next comma : PlainTree) (others rest : PlainTrees) → declared_from globals unit storage ty (more tree (more sign (more next (more comma others)))) rest ≡ (if parts.is_word t.Assign sign then then_declared globals storage ty (declared_one globals unit storage ty tree (Some next) rest) others rest else then_declared globals storage ty (declared_one globals unit storage ty tree None rest) (more next (more comma others)) rest)
by_sign globals unit storage ty tree sign next comma others rest = ap (λ b. if b then then_declared globals storage ty (declared_one globals unit storage ty tree (Some next) rest) others rest else then_declared globals storage ty (declared_one globals unit storage ty tree None rest) (more next (more comma others)) rest) (one_word t.Assign sign)

by_last_sign : (globals : ℕ) (unit : UnitState) (storage : Storage) (ty : PlainType) (tree sign next : PlainTree) (rest : PlainTrees) → declared_from globals unit storage ty (more tree (more sign (more next none))) rest ≡ (if parts.is_word t.Assign sign then declared_one globals unit storage ty tree (Some next) rest else then_declared globals storage ty (declared_one globals unit storage ty tree None rest) (more next none) rest)
by_last_sign globals unit storage ty tree sign next rest = ap (λ b. if b then declared_one globals unit storage ty tree (Some next) rest else then_declared globals storage ty (declared_one globals unit storage ty tree None rest) (more next none) rest) (one_word t.Assign sign)

more_behind : (globals : ℕ) (unit : UnitState) (storage : Storage) (ty : PlainType) (a b c d : Tree) (others : List Tree) (rest : PlainTrees) (sign : Bool) → (if sign then then_declared globals storage ty (declared_one globals unit storage ty (plain_tree a) (Some (plain_tree c)) rest) (plain_trees others) rest else then_declared globals storage ty (declared_one globals unit storage ty (plain_tree a) None rest) (plain_trees (c ∷ d ∷ others)) rest) ≡ then_declared globals storage ty (declared_one globals unit storage ty (plain_tree a) (if sign then Some (plain_tree c) else None) rest) (plain_trees (drop ((if sign then 3 else 1) + 1) (a ∷ b ∷ c ∷ d ∷ others))) rest
more_behind globals unit storage ty a b c d others rest true = refl
more_behind globals unit storage ty a b c d others rest false = refl

one_behind : (globals : ℕ) (unit : UnitState) (storage : Storage) (ty : PlainType) (a b c : Tree) (rest : PlainTrees) (sign : Bool) → (if sign then 3 else 1) < 3 → (if sign then declared_one globals unit storage ty (plain_tree a) (Some (plain_tree c)) rest else then_declared globals storage ty (declared_one globals unit storage ty (plain_tree a) None rest) (plain_trees (c ∷ [])) rest) ≡ then_declared globals storage ty (declared_one globals unit storage ty (plain_tree a) (if sign then Some (plain_tree c) else None) rest) (plain_trees (drop ((if sign then 3 else 1) + 1) (a ∷ b ∷ c ∷ []))) rest
one_behind globals unit storage ty a b c rest true small = absurd (omega arith)
one_behind globals unit storage ty a b c rest false small = refl

none_behind : (globals : ℕ) (unit : UnitState) (storage : Storage) (ty : PlainType) (a c : Tree) (rest : PlainTrees) (sign : Bool) → 3 ≤ (if sign then 3 else 1) → (if sign then declared_one globals unit storage ty (plain_tree a) (Some (plain_tree c)) rest else then_declared globals storage ty (declared_one globals unit storage ty (plain_tree a) None rest) (plain_trees (c ∷ [])) rest) ≡ declared_one globals unit storage ty (plain_tree a) (if sign then Some (plain_tree c) else None) rest
none_behind globals unit storage ty a c rest true large = refl
none_behind globals unit storage ty a c rest false large = absurd (omega arith)

-- behind the first declarator of a list
next_declared : (globals : ℕ) (unit : UnitState) (storage : Storage) (ty : PlainType) (list : List Tree) (rest : PlainTrees) → first_size (plain_trees list) < length list → declared_from globals unit storage ty (plain_trees list) rest ≡ then_declared globals storage ty (declared_first globals unit storage ty (plain_trees list) rest) (plain_trees (drop (first_size (plain_trees list) + 1) list)) rest
next_declared globals unit storage ty [] rest inside = absurd (omega arith)
next_declared globals unit storage ty (a ∷ []) rest inside = absurd (omega arith)
next_declared globals unit storage ty (a ∷ b ∷ []) rest inside = refl
next_declared globals unit storage ty (a ∷ b ∷ c ∷ []) rest inside =
    by_last_sign globals unit storage ty (plain_tree a) (plain_tree b) (plain_tree c) rest ∙ one_behind globals unit storage ty a b c rest (parts.is_word t.Assign (plain_tree b)) inside
next_declared globals unit storage ty (a ∷ b ∷ c ∷ d ∷ others) rest inside =
    by_sign globals unit storage ty (plain_tree a) (plain_tree b) (plain_tree c) (plain_tree d) (plain_trees others) rest ∙ more_behind globals unit storage ty a b c d others rest (parts.is_word t.Assign (plain_tree b))

three_at_most : (sign : Bool) → (if sign then 3 else 1) ≤ 3
three_at_most true = omega arith
three_at_most false = omega arith

-- the last declarator of a list
last_declared : (globals : ℕ) (unit : UnitState) (storage : Storage) (ty : PlainType) (list : List Tree) (rest : PlainTrees) → length list ≤ first_size (plain_trees list) → declared_from globals unit storage ty (plain_trees list) rest ≡ declared_first globals unit storage ty (plain_trees list) rest
last_declared globals unit storage ty [] rest over = refl
last_declared globals unit storage ty (a ∷ []) rest over = refl
last_declared globals unit storage ty (a ∷ b ∷ []) rest over = refl
last_declared globals unit storage ty (a ∷ b ∷ c ∷ []) rest over =
    by_last_sign globals unit storage ty (plain_tree a) (plain_tree b) (plain_tree c) rest ∙ none_behind globals unit storage ty a c rest (parts.is_word t.Assign (plain_tree b)) over
last_declared globals unit storage ty (a ∷ b ∷ c ∷ d ∷ others) rest over =
    let most = three_at_most (parts.is_word t.Assign (plain_tree b)) in absurd (omega arith)

first_refused : (globals : ℕ) (unit : UnitState) (storage : Storage) (ty : PlainType) (list : List Tree) (rest : PlainTrees) (error : ElabError) → RefusedAs (declared_first globals unit storage ty (plain_trees list) rest) error → (first_size (plain_trees list) < length list) ⊎ (length list ≤ first_size (plain_trees list)) → RefusedAs (declared_from globals unit storage ty (plain_trees list) rest) error
first_refused globals unit storage ty list rest error r (inl inside) =
    refused_of (declared_from globals unit storage ty (plain_trees list) rest) (then_declared globals storage ty (declared_first globals unit storage ty (plain_trees list) rest) (plain_trees (drop (first_size (plain_trees list) + 1) list)) rest) error (next_declared globals unit storage ty list rest inside)
    (refused_first (declared_first globals unit storage ty (plain_trees list) rest) (λ first. declared_from globals first storage ty (plain_trees (drop (first_size (plain_trees list) + 1) list)) rest) error r)
first_refused globals unit storage ty list rest error r (inr over) =
    refused_of (declared_from globals unit storage ty (plain_trees list) rest) (declared_first globals unit storage ty (plain_trees list) rest) error (last_declared globals unit storage ty list rest over) r

-- ---- how far a loop over declarators has come

pub declared_refused : (globals : ℕ) (whole : Checked UnitState) (unit : UnitState) (storage : Storage) (ty : PlainType) (list : List Tree) (rest : PlainTrees) (before between : List ℕ → Bool) (error : ElabError) → Leads whole (declared_from globals unit storage ty (plain_trees list) rest) before between → RefusedAs (declared_first globals unit storage ty (plain_trees list) rest) error → RefusedAs whole error
declared_refused globals whole unit storage ty list rest before between error l r =
    leads_refused whole (declared_from globals unit storage ty (plain_trees list) rest) before between error l (first_refused globals unit storage ty list rest error r (cases_lt (first_size (plain_trees list)) (length list)))

pub declared_continue : (globals : ℕ) (whole : Checked UnitState) (unit behind : UnitState) (storage : Storage) (ty : PlainType) (list : List Tree) (rest : PlainTrees) (before between after : List ℕ → Bool) → first_size (plain_trees list) < length list → Leads whole (declared_from globals unit storage ty (plain_trees list) rest) before between → Gives (declared_first globals unit storage ty (plain_trees list) rest) behind between after → Leads whole (declared_from globals behind storage ty (plain_trees (drop (first_size (plain_trees list) + 1) list)) rest) before after
declared_continue globals whole unit behind storage ty list rest before between after inside l g =
    leads_with whole (declared_from globals unit storage ty (plain_trees list) rest) (declared_first globals unit storage ty (plain_trees list) rest) (λ first. declared_from globals first storage ty (plain_trees (drop (first_size (plain_trees list) + 1) list)) rest) behind before between after l (next_declared globals unit storage ty list rest inside) g

pub declared_end : (globals : ℕ) (whole : Checked UnitState) (unit behind : UnitState) (storage : Storage) (ty : PlainType) (list : List Tree) (rest : PlainTrees) (before between after : List ℕ → Bool) → length list ≤ first_size (plain_trees list) → Leads whole (declared_from globals unit storage ty (plain_trees list) rest) before between → Gives (declared_first globals unit storage ty (plain_trees list) rest) behind between after → Gives whole behind before after
declared_end globals whole unit behind storage ty list rest before between after over l g =
    leads_to whole (declared_from globals unit storage ty (plain_trees list) rest) behind before between after l (gives_of (declared_from globals unit storage ty (plain_trees list) rest) (declared_first globals unit storage ty (plain_trees list) rest) behind between after (last_declared globals unit storage ty list rest over) g)
