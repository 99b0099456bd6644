-- What comes of one parameter.
use Rattle.std.proofs.Common.{◌≡◌, ℕ, Bool, true, false, ◌&&◌, List, [], ◌∷◌, length, refl, sym, ap, ap₂, ◌∙◌, if◌then◌else◌}
use Rattle.std.specs.Prelude.{Option, Some, None, slice_get}
use Rattle.std.proofs.lemmas.Bool.{false≢true}
use Rattle.c_text.specs.Token.{PlainToken}
use Rattle.c_types.specs.Types.{PlainType}
use Rattle.c_tree.specs.declared.kinds.Kind.{Kind}
use Rattle.c_tree.specs.declared.kinds.Kind.TheVariants as k
use Rattle.c_tree.specs.declared.terminals.Terminal.TheVariants as t
use Rattle.c_tree.specs.Trees.{PlainTree, PlainTrees, leaf, node, none, more}
use Rattle.cond_declarators.proofs.There.{Whole, whole_of, nothing_there}
use Rattle.cond_declarators.proofs.WordTypes.{arithmetic_without}
use Rattle.cond_declarators.specs.Types.{base_type}
use Rattle.conditional.specs.Judgements.{Checked, fine, refused, bind}
use Rattle.core_meaning.specs.declared.refusals.TypeKind.{TypeKind}
use Rattle.core_meaning.specs.declared.refusals.TypeKind.TheVariants.{Redeclared, Incomplete, BadConstant}
use Rattle.core_meaning.specs.Checking as judging
use Rattle.core_meaning.specs.Checking.{Binding, Entity, with_bindings, ◌>>=◌, give, unless_so, or_broken}
use Rattle.core_meaning.specs.Constancy.{is_small}
use Rattle.core_meaning.specs.Declarations.{Based, based, based_on_tag, name_in, Parameter, parameter_type, token_of, is_new_parameter, parameter_entity, declares_name, may_be_parameter, judged_parameter, declared_parameter, one_parameter}
use Rattle.core_meaning.specs.Entities.{Scope}
use Rattle.core_meaning.specs.Expressions.{has_terminal, arithmetic_words, first_token_in}
use Rattle.operand_rules.proofs.Loads.{outcome_with, outcome_bind}
use Rattle.operand_types.specs.OperandTypes.{outcome_as, renumbered}
use Rattle.plain_declarators.specs.Words.{is_absence}
use Rattle.plain_parameters.specs.Parameters.{words_then}
use Rattle.type_tables.specs.Tables.{Tables}
use Rattle.type_tables.proofs.Options.{some_same}
use Rattle.type_tables.specs.Follows.{IsThere, Follows}
use Rattle.cond_parameters.specs.Types.{renumbered_parameter}
use Rattle.cond_parameters.proofs.ParameterTypes.{types_there}

-- ---- judgements in a row

abbrev pub a_parameter : Option PlainToken → PlainType → Parameter
a_parameter name ty = record { name = name; ty = ty }

tested : {A P : Type 0} (form : A → P) (b : Bool) (kind : TypeKind) (at : PlainToken) (next : Unit {0} → judging.Checked A) → outcome_as form (unless_so b kind at >>= next) ≡ (if b then outcome_as form (next tt) else refused tt)
tested form true kind at next = outcome_with form [] (next tt)
tested form false kind at next = refl

bound : {A P : Type 0} (form : A → P) (name : Option PlainToken) (entity : Entity) (next : Unit {0} → judging.Checked A) → outcome_as form (declares_name name entity >>= next) ≡ outcome_as form (next tt)
bound form None entity next = outcome_with form [] (next tt)
bound form (Some name) entity next = outcome_with form (record { entity = entity; in_expression = false } ∷ []) (next tt)

two_tests : (by : ℕ → ℕ) (may small : Bool) (at : PlainToken) (p : Parameter)
    → outcome_as (renumbered_parameter by) ((unless_so may Incomplete at >>= (λ u. unless_so small BadConstant at)) >>= (λ u. give p)) ≡ (if may && small then fine (renumbered_parameter by p) else refused tt)
two_tests by true true at p = refl
two_tests by true false at p = refl
two_tests by false true at p = refl
two_tests by false false at p = refl

-- ---- without a declarator

abbrev pub may_stand : Bool → Scope → PlainType → Bool
may_stand defining scope ty = may_be_parameter defining scope ty && is_small scope.structs ty

pub nameless_found :
    (by : ℕ → ℕ) (defining : Bool) (scope : Scope) (before : List Parameter) (ty : PlainType) (first : PlainToken) (parts : PlainTrees) (other : PlainType) (fits : Bool) → other ≡ renumbered by ty → fits ≡ may_stand defining scope ty
    → (if fits then fine (a_parameter None other) else refused tt) ≡ outcome_as (renumbered_parameter by) (declared_parameter defining scope before ty first (node k.Absent parts))
nameless_found by defining scope before ty first parts other fits same is =
    ap₂ (λ b t. if b then fine (a_parameter None t) else refused tt) is same
    ∙ sym (two_tests by (may_be_parameter defining scope ty) (is_small scope.structs ty) first (a_parameter None ty))

-- ---- with a declarator

abbrev NamedAs : Bool → Scope → List Parameter → PlainType → PlainToken → Kind → PlainTrees → judging.Checked Parameter
NamedAs defining scope before ty first kind parts =
    unless_so (is_new_parameter before (name_in parts)) Redeclared (token_of (name_in parts) first)
    >>= (λ new. declares_name (name_in parts) (parameter_entity defining (length before))
    >>= (λ bound. parameter_type scope ty kind parts (token_of (name_in parts) first)
    >>= (λ whole. judged_parameter defining scope whole (token_of (name_in parts) first)
    >>= (λ judged. give (record { name = name_in parts; ty = whole })))))

named_node : (defining : Bool) (scope : Scope) (before : List Parameter) (ty : PlainType) (first : PlainToken) (kind : Kind) (parts : PlainTrees) → is_absence kind ≡ false
    → declared_parameter defining scope before ty first (node kind parts) ≡ NamedAs defining scope before ty first kind parts
named_node defining scope before ty first k.Absent parts is = absurd (false≢true (sym is))
named_node defining scope before ty first kind parts is = refl

pub absence_is : (kind : Kind) → is_absence kind ≡ true → kind ≡ k.Absent
absence_is k.Absent is = refl
absence_is kind is = absurd (false≢true is)

-- where the type may stand, by what comes of it
fitting : (by : ℕ → ℕ) (fits may_be : Bool) (other : PlainType) (name : Option PlainToken) (whole : judging.Checked PlainType) (ok : PlainType → Bool) → (if fits then fine other else refused tt) ≡ outcome_as (renumbered by) whole
    → ((w : PlainType) (bindings : List Binding) → whole ≡ judging.fine w bindings → other ≡ renumbered by w → may_be ≡ ok w)
    → (if fits && may_be then fine (a_parameter name other) else refused tt) ≡ bind (outcome_as (λ (w : PlainType). w) whole) (λ w. if ok w then fine (a_parameter name (renumbered by w)) else refused tt)
fitting by true may_be other name (judging.fine w bindings) ok h g =
    let same : other ≡ renumbered by w = cc in ap₂ (λ b t. if b then fine (a_parameter name t) else refused tt) (g w bindings refl same) same
fitting by false may_be other name (judging.fine w bindings) ok h g = absurd cc
fitting by true may_be other name (judging.refused kind token) ok h g = absurd cc
fitting by false may_be other name (judging.refused kind token) ok h g = refl
fitting by true may_be other name judging.broken ok h g = absurd cc
fitting by false may_be other name judging.broken ok h g = refl

if_new : (new fits : Bool) (p : Parameter) (c : Checked Parameter (Unit {0})) → (if fits then fine p else refused tt) ≡ c → (if new && fits then fine p else refused tt) ≡ (if new then c else refused tt)
if_new true fits p c h = h
if_new false fits p c h = refl

module _ (by : ℕ → ℕ) (defining : Bool) (scope : Scope) (before : List Parameter) (ty : PlainType) (first : PlainToken) (kind : Kind) (parts : PlainTrees) where
  abbrev at : PlainToken
  at = token_of (name_in parts) first

  named_outcome : outcome_as (renumbered_parameter by) (NamedAs defining scope before ty first kind parts)
      ≡ (if is_new_parameter before (name_in parts)
      then bind (outcome_as (λ (w : PlainType). w) (parameter_type scope ty kind parts at)) (λ w. if may_stand defining scope w then fine (a_parameter (name_in parts) (renumbered by w)) else refused tt)
      else refused tt)
  named_outcome =
      tested (renumbered_parameter by) (is_new_parameter before (name_in parts)) Redeclared at _
      ∙ ap (λ c. if is_new_parameter before (name_in parts) then c else refused tt)
      (bound (renumbered_parameter by) (name_in parts) (parameter_entity defining (length before)) _
      ∙ outcome_bind (renumbered_parameter by) (λ (w : PlainType). w) (λ whole. judged_parameter defining scope whole at >>= (λ judged. give (a_parameter (name_in parts) whole)))
      (λ w. if may_stand defining scope w then fine (a_parameter (name_in parts) (renumbered by w)) else refused tt)
      (λ w. two_tests by (may_be_parameter defining scope w) (is_small scope.structs w) at (a_parameter (name_in parts) w)) (parameter_type scope ty kind parts at))

  pub named_found :
      is_absence kind ≡ false → IsThere scope.structs ty → (new fits may_be : Bool) (other : PlainType) → new ≡ is_new_parameter before (name_in parts)
      → (if fits then fine other else refused tt) ≡ outcome_as (renumbered by) (parameter_type scope ty kind parts at)
      → ((w : PlainType) → IsThere scope.structs w → other ≡ renumbered by w → may_be ≡ may_stand defining scope w)
      → (if new && (fits && may_be) then fine (a_parameter (name_in parts) other) else refused tt) ≡ outcome_as (renumbered_parameter by) (declared_parameter defining scope before ty first (node kind parts))
  named_found there_is there new fits may_be other is_new judged may =
      if_new new (fits && may_be) (a_parameter (name_in parts) other) _
      (fitting by fits may_be other (name_in parts) (parameter_type scope ty kind parts at) (may_stand defining scope) judged
      (λ w bindings is same. may w (whole_of (IsThere scope.structs) (parameter_type scope ty kind parts at) w bindings (types_there scope ty there kind parts at) is) same))
      ∙ ap
      (λ b. if b then bind (outcome_as (λ (w : PlainType). w) (parameter_type scope ty kind parts at)) (λ w. if may_stand defining scope w then fine (a_parameter (name_in parts) (renumbered by w)) else refused tt)
      else refused tt) is_new
      ∙ sym (ap (outcome_as (renumbered_parameter by)) (named_node defining scope before ty first kind parts there_is) ∙ named_outcome)

-- ---- words that declare no struct

whole_with : {A : Type 0} (P : A → Type 0) (bindings : List Binding) (c : judging.Checked A) → Whole P c → Whole P (with_bindings bindings c)
whole_with P bindings (judging.fine x behind) h = h
whole_with P bindings (judging.refused kind token) h = h
whole_with P bindings judging.broken h = h

given : {A B : Type 0} (P : B → Type 0) (x : A) (next : A → judging.Checked B) → Whole P (next x) → Whole P (give x >>= next)
given P x next h = whole_with P [] (next x) h

tag_there : (tables : Tables) (scope : Scope) (f : Follows tables scope) (tag : PlainToken) (o : Option ℕ) → scope.tags tag.text ≡ o
    → Whole (λ (b : Based). IsThere scope.structs b.ty) (based_on_tag false scope tag o)
tag_there tables scope f tag (Some n) is = λ m e. let found = f.tagged tag.text n is in (found.0, ap (slice_get scope.structs) (sym (some_same n m e)) ∙ found.1)
tag_there tables scope f tag None is = tt

named_there : (tables : Tables) (scope : Scope) (f : Follows tables scope) (name : Option PlainToken)
    → Whole (λ (b : Based). IsThere scope.structs b.ty) (or_broken name >>= (λ tag. based_on_tag false scope tag (scope.tags tag.text)))
named_there tables scope f None = tt
named_there tables scope f (Some tag) = given (λ (b : Based). IsThere scope.structs b.ty) tag (λ tag. based_on_tag false scope tag (scope.tags tag.text)) (tag_there tables scope f tag (scope.tags tag.text) refl)

words_there : (tables : Tables) (scope : Scope) (f : Follows tables scope) (words : PlainTrees) → Whole (λ (b : Based). IsThere scope.structs b.ty) (based false scope words)
words_there tables scope f words = by (has_terminal t.Struct words)
  where
    by : (b : Bool) → Whole (λ (b : Based). IsThere scope.structs b.ty) (if b then or_broken (name_in words) >>= (λ tag. based_on_tag false scope tag (scope.tags tag.text)) else give (record { ty = arithmetic_words words; scope = scope }))
    by true = named_there tables scope f (name_in words)
    by false = nothing_there scope.structs (arithmetic_words words) (arithmetic_without words)

-- ---- by its words

based_first : (by : ℕ → ℕ) (fits : Bool) (other : PlainType) (found : Checked Parameter (Unit {0})) (b : judging.Checked Based) (next : Based → judging.Checked Parameter) → (if fits then fine other else refused tt) ≡ outcome_as (base_type by) b
    → ((x : Based) (bindings : List Binding) → b ≡ judging.fine x bindings → other ≡ base_type by x → found ≡ outcome_as (renumbered_parameter by) (next x))
    → (if fits then found else refused tt) ≡ outcome_as (renumbered_parameter by) (b >>= next)
based_first by true other found (judging.fine x bindings) next h g = let same : other ≡ base_type by x = cc in g x bindings refl same ∙ sym (outcome_with (renumbered_parameter by) bindings (next x))
based_first by false other found (judging.fine x bindings) next h g = absurd cc
based_first by true other found (judging.refused kind token) next h g = absurd cc
based_first by false other found (judging.refused kind token) next h g = refl
based_first by true other found judging.broken next h g = absurd cc
based_first by false other found judging.broken next h g = refl

pub words_found :
    (tables : Tables) (scope : Scope) (f : Follows tables scope) (defining : Bool) (before : List Parameter) (words : PlainTrees) (declarator : PlainTree) (first : PlainToken) (fits : Bool) (other : PlainType) (found : Checked Parameter (Unit {0}))
    → (if fits then fine other else refused tt) ≡ outcome_as (base_type f.by) (based false scope words)
    → ((ty : PlainType) → IsThere scope.structs ty → other ≡ renumbered f.by ty → found ≡ outcome_as (renumbered_parameter f.by) (declared_parameter defining scope before ty first declarator))
    → (if fits then found else refused tt) ≡ outcome_as (renumbered_parameter f.by) (words_then defining scope before words declarator first)
words_found tables scope f defining before words declarator first fits other found judged then_found =
    based_first f.by fits other found (based false scope words) (λ base. declared_parameter defining scope before base.ty first declarator) judged
    (λ x bindings is same. then_found x.ty (whole_of (λ (b : Based). IsThere scope.structs b.ty) (based false scope words) x bindings (words_there tables scope f words) is) same)

-- ---- a parameter's type is made of a struct that is there

then_whole : {A B : Type 0} (P : A → Type 0) (Q : B → Type 0) (next : A → judging.Checked B) → ((x : A) → P x → Whole Q (next x)) → (c : judging.Checked A) → Whole P c → Whole Q (c >>= next)
then_whole P Q next given (judging.fine x bindings) h = whole_with Q bindings (next x) (given x h)
then_whole P Q next given (judging.refused kind token) h = tt
then_whole P Q next given judging.broken h = tt

always_whole : {A B : Type 0} (Q : B → Type 0) (next : A → judging.Checked B) → ((x : A) → Whole Q (next x)) → (c : judging.Checked A) → Whole Q (c >>= next)
always_whole Q next given (judging.fine x bindings) = whole_with Q bindings (next x) (given x)
always_whole Q next given (judging.refused kind token) = tt
always_whole Q next given judging.broken = tt

module _ (defining : Bool) (scope : Scope) (before : List Parameter) where
  abbrev There : Parameter → Type 0
  There p = IsThere scope.structs p.ty

  declared_there : (ty : PlainType) → IsThere scope.structs ty → (first : PlainToken) (declarator : PlainTree) → Whole There (declared_parameter defining scope before ty first declarator)
  declared_there ty there first (leaf token) = tt
  declared_there ty there first (node k.Absent parts) = always_whole There (λ judged. give (a_parameter None ty)) (λ judged. there) (judged_parameter defining scope ty first)
  declared_there ty there first (node kind parts) =
      always_whole There _
      (λ new. always_whole There _
      (λ bound. then_whole (IsThere scope.structs) There _
      (λ whole given. always_whole There (λ judged. give (a_parameter (name_in parts) whole)) (λ judged. given) (judged_parameter defining scope whole (token_of (name_in parts) first)))
      (parameter_type scope ty kind parts (token_of (name_in parts) first)) (types_there scope ty there kind parts (token_of (name_in parts) first)))
      (declares_name (name_in parts) (parameter_entity defining (length before))))
      (unless_so (is_new_parameter before (name_in parts)) Redeclared (token_of (name_in parts) first))

  pub parameter_there : (tables : Tables) → Follows tables scope → (tree : PlainTree) (behind : PlainToken) → Whole There (one_parameter defining scope before tree behind)
  parameter_there tables f (leaf token) behind = tt
  parameter_there tables f (node kind none) behind = tt
  parameter_there tables f (node kind (more (leaf token) rest)) behind = tt
  parameter_there tables f (node kind (more (node inner words) none)) behind = tt
  parameter_there tables f (node kind (more (node inner words) (more declarator (more other others)))) behind = tt
  parameter_there tables f (node kind (more (node inner words) (more declarator none))) behind =
      then_whole (λ (b : Based). IsThere scope.structs b.ty) There (λ base. declared_parameter defining scope before base.ty (first_token_in words behind) declarator)
      (λ base there. declared_there base.ty there (first_token_in words behind) declarator) (based false scope words) (words_there tables scope f words)
