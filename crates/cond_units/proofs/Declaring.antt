-- A declaration at file scope, by its words and what stands behind them.
use Rattle.std.proofs.Common.{◌≡◌, ℕ, Bool, true, false, ◌&&◌, ◌||◌, List, [], refl, sym, ap, ap₂, ◌∙◌, subst, if◌then◌else◌}
use Rattle.std.specs.Prelude.{Option, Some, None, ⊤}
use Rattle.conditional.specs.Judgements as judgements
use Rattle.conditional.specs.declared.outcomes.Outcomes.{Outcomes}
use Rattle.conditional_steps.specs.Here.{is_refused}
use Rattle.conditional_steps.proofs.Found.{not_both, are_both, neither}
use Rattle.c_text.specs.Token.{PlainToken}
use Rattle.c_types.specs.Types.{PlainType}
use Rattle.c_tree.specs.declared.terminals.Terminal.TheVariants as t
use Rattle.c_tree.specs.Trees.{PlainTree, PlainTrees, leaf, node}
use Rattle.c_tree.specs.Grammar.{Role}
use Rattle.tree_derivations.specs.Derivations.{Declared}
use Rattle.core_meaning.specs.Checking.{Binding, Checked, fine, refused, broken, with_bindings, ◌>>=◌, give, or_broken}
use Rattle.core_meaning.specs.Entities.{Struct, Scope}
use Rattle.core_meaning.specs.Expressions.{has_terminal, arithmetic_words}
use Rattle.core_meaning.specs.Declarations.{name_in, Based, based_on_tag}
use Rattle.core_meaning.specs.UnitNames.{UnitState, with_scope, declared_from}
use Rattle.operand_rules.specs.declared.operands.Refused.{Refused}
use Rattle.type_tables.specs.declared.entries.DeclaredType.{DeclaredType}
use Rattle.type_tables.specs.Tables.{Tables}
use Rattle.type_tables.specs.Follows.{Follows}
use Rattle.type_tables.specs.Numbers.{NumbersKept, FollowsBy}
use Rattle.cond_declarators.specs.Types.{ShowsType, based_in}
use Rattle.cond_declarators.specs.DeclaredBases.{DeclaresBase}
use Rattle.cond_units.specs.Seen.{SeenUnit}
use Rattle.cond_units.specs.Declaring.{IsUnit, GoesOn, Declares}
use Rattle.cond_units.specs.Where.{Stays, Where}
use Rattle.cond_units.specs.Names.{all_names, storage_in}
use Rattle.cond_units.specs.Items.{ItemGoesOn, DeclaresItem, declaration_of, words_alone}

-- ---- words declare structs, and nothing in blocks

same_based : (a b : Based) (x y : List Binding) → fine a x ≡ fine b y → a ≡ b
same_based a b x y e = cc

module _ (scope : Scope) (b : Based) (bindings : List Binding) where
  kept : (a : Based) (x : List Binding) → fine a x ≡ fine b bindings → a.scope.blocks ≡ scope.blocks → b.scope.blocks ≡ scope.blocks
  kept a x e same = ap (λ (c : Based). c.scope.blocks) (sym (same_based a b x bindings e)) ∙ same

  by_tag : (tag : PlainToken) (o : Option ℕ) → with_bindings [] (based_on_tag true scope tag o) ≡ fine b bindings → b.scope.blocks ≡ scope.blocks
  by_tag tag (Some n) e = kept _ _ e refl
  by_tag tag None e = kept _ _ e refl

  by_name : (o : Option PlainToken) → (or_broken o >>= (λ tag. based_on_tag true scope tag (scope.tags tag.text))) ≡ fine b bindings → b.scope.blocks ≡ scope.blocks
  by_name None e = absurd cc
  by_name (Some tag) e = by_tag tag (scope.tags tag.text) e

  by_words : (words : PlainTrees) (test : Bool)
      → (if test then or_broken (name_in words) >>= (λ tag. based_on_tag true scope tag (scope.tags tag.text)) else give (record { ty = arithmetic_words words; scope = scope })) ≡ fine b bindings → b.scope.blocks ≡ scope.blocks
  by_words words true e = by_name (name_in words) e
  by_words words false e = kept _ _ e refl

  pub blocks_kept : (words : PlainTree) → based_in true scope words ≡ fine b bindings → b.scope.blocks ≡ scope.blocks
  blocks_kept (leaf token) e = absurd cc
  blocks_kept (node kind words) e = by_words words (has_terminal t.Struct words) e

-- ---- what goes on

pub item_still : (by : ℕ → ℕ) (structs : List Struct) (before : List Binding) (next : Checked UnitState) (f : Bool) (seen : SeenUnit) → ItemGoesOn by structs next f seen → ItemGoesOn by structs (with_bindings before next) f seen
item_still by structs before (fine unit bindings) f seen h = h
item_still by structs before (refused kind token) f seen h = h
item_still by structs before broken f seen h = h

anew : (by numbers : ℕ → ℕ) (structs others : List Struct) (next : Checked UnitState) (f : Bool) (seen : SeenUnit) → NumbersKept structs by numbers → GoesOn numbers others next f seen → ItemGoesOn by structs next f seen
anew by numbers structs others (fine unit bindings) f seen same h = (h.0, record { numbers = numbers; is_unit = h.1; kept = same })
anew by numbers structs others (refused kind token) f seen same h = h
anew by numbers structs others broken f seen same h = h

module _ (on : ℕ → Bool) (base : Outcomes DeclaredType Refused) (words : PlainTree) (old mid : SeenUnit) (when untyped : Bool)
    (refusals : (x : judgements.Checked PlainType (Unit {0})) → ShowsType on x base → untyped ≡ is_refused x)
    (defined_is : mid.defined ≡ old.defined) (off : when ≡ false → mid.tables ≡ old.tables)
    (bases : when ≡ true → (scope : Scope) (f : Follows old.tables scope) → DeclaresBase (λ outcome. ShowsType on outcome base) scope f.by old.tables mid.tables (based_in true scope words)) where
  nothing_seen : when ≡ false → Stays old mid
  nothing_seen h = record {
    stays = λ by unit u. record { tables = subst (λ (t : Tables). FollowsBy by t unit.scope) (sym (off h)) u.tables; defined = defined_is ∙ u.defined; outside = u.outside };
  }

  -- what is seen behind words that name a type
  behind_words : (by : ℕ → ℕ) (unit : UnitState) → IsUnit by old unit → (b : Based) (bindings : List Binding) → based_in true unit.scope words ≡ fine b bindings → (f : Follows mid.tables b.scope)
      → IsUnit f.by mid (with_scope unit b.scope)
  behind_words by unit u b bindings e f =
      record { tables = record { follows = f; numbers = refl }; defined = defined_is ∙ u.defined; outside = blocks_kept unit.scope b bindings words e ∙ u.outside }

  pub declared_here :
      (globals : ℕ) (list rest : PlainTrees) (role : Role) (new : SeenUnit) (no_type found f : Bool) → f ≡ (no_type || found) → no_type ≡ (when && untyped)
      → Where when (Declares on base (all_names globals (storage_in words) rest list) (Declared role list)) mid new found
      → Where when (DeclaresItem (declaration_of globals words list rest) (Declared role list)) old new f
  declared_here globals list rest role new no_type found f is_f is_none names = record {
    elsewhere = λ h.
        let none = names.elsewhere h in
        (record { stays = λ by unit u. none.0.stays by unit ((nothing_seen h).stays by unit u) }, neither no_type when untyped found f is_f is_none h none.1);
    does = λ h. record { goes_on = λ by unit u derived. one h by unit u derived (based_in true unit.scope words) refl (bases h unit.scope u.tables.follows) };
  }
    where
      one : when ≡ true → (by : ℕ → ℕ) (unit : UnitState) (u : IsUnit by old unit) → Declared role list → (o : Checked Based) → based_in true unit.scope words ≡ o
          → DeclaresBase (λ outcome. ShowsType on outcome base) unit.scope u.tables.follows.by old.tables mid.tables o
          → ItemGoesOn by unit.scope.structs (declaration_of globals words list rest unit) f new
      one h by unit u derived (fine b bindings) e d =
          subst (λ o. ItemGoesOn by unit.scope.structs (o >>= (λ base. declared_from globals (with_scope unit base.scope) (storage_in words) base.ty list rest)) f new) (sym e)
          (item_still by unit.scope.structs bindings (declared_from globals (with_scope unit b.scope) (storage_in words) b.ty list rest) f new
          (subst (λ (r : Bool). ItemGoesOn by unit.scope.structs (declared_from globals (with_scope unit b.scope) (storage_in words) b.ty list rest) r new)
          (sym (not_both no_type when untyped found f is_f is_none h (refusals _ d.shows)))
          (anew by d.follows.by unit.scope.structs b.scope.structs (declared_from globals (with_scope unit b.scope) (storage_in words) b.ty list rest) found new
          (subst (λ (n : ℕ → ℕ). NumbersKept unit.scope.structs n d.follows.by) u.tables.numbers d.kept)
          ((names.does h).goes_on d.follows.by (with_scope unit b.scope) b.ty (behind_words by unit u b bindings e d.follows) d.there d.shows derived))))
      one h by unit u derived (refused kind token) e d =
          subst (λ o. ItemGoesOn by unit.scope.structs (o >>= (λ base. declared_from globals (with_scope unit base.scope) (storage_in words) base.ty list rest)) f new) (sym e)
          (are_both no_type when untyped found f is_f is_none h (refusals (judgements.refused tt) d.shows))
      one h by unit u derived broken e d =
          subst (λ o. ItemGoesOn by unit.scope.structs (o >>= (λ base. declared_from globals (with_scope unit base.scope) (storage_in words) base.ty list rest)) f new) (sym e)
          (are_both no_type when untyped found f is_f is_none h (refusals (judgements.refused tt) d.shows))

  pub alone_here : (f : Bool) → f ≡ (when && untyped) → Where when (DeclaresItem (words_alone words) ⊤) old mid f
  alone_here f is_f = record {
    elsewhere = λ h. (nothing_seen h, is_f ∙ ap (λ (b : Bool). b && untyped) h);
    does = λ h. record { goes_on = λ by unit u ready. one h by unit u (based_in true unit.scope words) refl (bases h unit.scope u.tables.follows) };
  }
    where
      by_type : when ≡ true → (r : Bool) → untyped ≡ r → f ≡ r
      by_type h r is = is_f ∙ ap₂ (λ (x y : Bool). x && y) h is

      one : when ≡ true → (by : ℕ → ℕ) (unit : UnitState) (u : IsUnit by old unit) → (o : Checked Based) → based_in true unit.scope words ≡ o
          → DeclaresBase (λ outcome. ShowsType on outcome base) unit.scope u.tables.follows.by old.tables mid.tables o → ItemGoesOn by unit.scope.structs (words_alone words unit) f mid
      one h by unit u (fine b bindings) e d =
          subst (λ o. ItemGoesOn by unit.scope.structs (o >>= (λ base. give (with_scope unit base.scope))) f mid) (sym e) (
            by_type h false (refusals _ d.shows),
            record {
              numbers = d.follows.by;
              is_unit = behind_words by unit u b bindings e d.follows;
              kept = subst (λ (n : ℕ → ℕ). NumbersKept unit.scope.structs n d.follows.by) u.tables.numbers d.kept;
            },
          )
      one h by unit u (refused kind token) e d =
          subst (λ o. ItemGoesOn by unit.scope.structs (o >>= (λ base. give (with_scope unit base.scope))) f mid) (sym e) (by_type h true (refusals (judgements.refused tt) d.shows))
      one h by unit u broken e d =
          subst (λ o. ItemGoesOn by unit.scope.structs (o >>= (λ base. give (with_scope unit base.scope))) f mid) (sym e) (by_type h true (refusals (judgements.refused tt) d.shows))
