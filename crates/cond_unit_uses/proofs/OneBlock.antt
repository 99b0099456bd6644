-- The block of a function is noted with its parameters, and closed again.
use Rattle.std.proofs.Common.{◌≡◌, ℕ, suc, Bool, true, false, List, refl, sym, ap, ◌∙◌, subst}
use Rattle.std.specs.Prelude.{Some}
use Rattle.c_text.specs.Token.{PlainToken}
use Rattle.c_types.specs.Types.{PlainType}
use Rattle.c_tree.specs.declared.kinds.Kind.{Kind}
use Rattle.c_tree.specs.Trees.{PlainTree, PlainTrees, leaf, node}
use Rattle.conditional.specs.Entries.{seen, listed}
use Rattle.conditional.specs.declared.lists.CondList.{CondList}
use Rattle.conditional.specs.Judgements as judgements
use Rattle.conditional_steps.specs.Here.{DoneHere, Unchanged}
use Rattle.core_meaning.specs.Entities.{Scope}
use Rattle.core_meaning.specs.Declarations.{Parameter, parameters_of, with_block}
use Rattle.core_meaning.specs.UnitNames.{parameter_types}
use Rattle.operand_types.specs.OperandTypes.{outcome_as}
use Rattle.member_uses.specs.Uses.{Use}
use Rattle.type_tables.specs.declared.tables.Tables.{Tables}
use Rattle.type_tables.specs.Tables as plain
use Rattle.type_tables.specs.Seen.{seen_tables}
use Rattle.type_tables.specs.Steps.{entered}
use Rattle.type_tables.specs.Blocks.{OnlyLocals}
use Rattle.type_tables.specs.Numbers.{FollowsBy, FollowsInBlockBy}
use Rattle.type_tables.proofs.BlockLaws.{block_entered, entered_by}
use Rattle.type_tables.proofs.LocalsAlone.{locals_again}
use Rattle.cond_selections.specs.declared.entries.Selection.{Selection}
use Rattle.cond_selections.specs.Selected.{plain_selection}
use Rattle.cond_parameters.specs.Parameters.{IsList, Declares}
use Rattle.cond_member_uses.specs.Noted.{Noted, noted_at, NotesBody, Where}
use Rattle.cond_member_uses.proofs.Composing.{names_kept}
use Rattle.cond_units.proofs.ParameterLists.{left_as_before}
use Rattle.cond_types.specs.Definitions.{inside}
use Rattle.cond_unit_uses.specs.Functions.{NotesBlock, NotesNode}

-- ---- what is done where a condition is true

pub done_where : (here : Bool) (Does : Noted → Noted → Type 0) (a b : Noted) → Where here Does a b → DoneHere Unchanged here (λ a b refused. Does a b) a b false
done_where here Does a b x = record { elsewhere = λ h. (x.elsewhere h, refl); does = λ h. x.does h }

pub where_done : (here : Bool) (Does : Noted → Noted → Type 0) (a b : Noted) → DoneHere Unchanged here (λ a b refused. Does a b) a b false → Where here Does a b
where_done here Does a b x = record { elsewhere = λ h. (x.elsewhere h).0; does = λ h. x.does h }

-- ---- a node by its parts

module _ (Does : PlainTrees → Noted → Noted → Type 0) (tree : PlainTree) where
  pub no_node : (token : PlainToken) (a : Noted) → tree ≡ leaf token → NotesNode Does tree a a
  no_node token a is kind parts e = absurd (apart token kind parts (sym is ∙ e))
    where
      apart : (token : PlainToken) (kind : Kind) (parts : PlainTrees) → leaf token ≡ node kind parts → ⊥
      apart token kind parts e = cc

  pub node_noted : (kind : Kind) (parts : PlainTrees) (a b : Noted) → tree ≡ node kind parts → Does parts a b → NotesNode Does tree a b
  node_noted kind parts a b is does other others e = subst (λ ps. Does ps a b) (same kind other parts others (sym is ∙ e)) does
    where
      same : (kind other : Kind) (parts others : PlainTrees) → node kind parts ≡ node other others → parts ≡ others
      same kind other parts others e = cc

-- ---- a block

pub block_left : (on : ℕ → Bool) (old opened inner walked new : Tables) → opened ≡ record old { depth = suc old.depth } → OnlyLocals opened inner → OnlyLocals inner walked
    → (new ≡ record walked { locals = new.locals; depth = old.depth }) × (new.locals.items ≡ old.locals.items) → seen_tables on new ≡ seen_tables on old
block_left on old opened inner walked new opened_is parameters_only body_only closed =
    left_as_before on old opened walked new opened_is (locals_again opened inner walked parameters_only body_only) closed.0 closed.1

module _ (on : ℕ → Bool) (list body : PlainTree) (here : Bool) (old opened inner walked new : Tables) (log now : CondList Selection) (types : List PlainType) (declined : Bool)
    (opened_is : opened ≡ record old { depth = suc old.depth }) (entered_is : seen_tables on opened ≡ entered (seen_tables on old)) (parameters_only : OnlyLocals opened inner) (body_only : OnlyLocals inner walked)
    (closed : (new ≡ record walked { locals = new.locals; depth = old.depth }) × (new.locals.items ≡ old.locals.items)) where
  block_closed : seen_tables on new ≡ seen_tables on old
  block_closed = block_left on old opened inner walked new opened_is parameters_only body_only closed

  inner_names : (seen_tables on inner).names ≡ (seen_tables on old).names
  inner_names = ap (λ t. (seen_tables on t).names) (parameters_only.same ∙ ap (λ (t : Tables). record t { locals = inner.locals }) opened_is)

  block_opened : (by : ℕ → ℕ) (scope : Scope) → FollowsBy by (seen_tables on old) scope → FollowsInBlockBy by (seen_tables on opened) (with_block scope)
  block_opened by scope f =
      subst (λ t. FollowsInBlockBy by t (with_block scope)) (sym entered_is)
      (record { follows = block_entered (seen_tables on old) scope f.follows; numbers = entered_by (seen_tables on old) scope f.follows ∙ f.numbers })

  module _ (declares : here ≡ true → (by : ℕ → ℕ) (scope : Scope) (name : PlainToken) → FollowsInBlockBy by (seen_tables on opened) (with_block scope) → IsList list
      → Declares by scope (outcome_as (λ ps. ps) (parameters_of true scope (Some list) name)) types declined (seen_tables on inner))
      (notes : Where here (NotesBody body) (noted_at on inner log) (noted_at on walked now)) where
    block_followed : here ≡ true → (by : ℕ → ℕ) (scope : Scope) (name : PlainToken) (parameters : List Parameter) → FollowsBy by (seen_tables on old) scope → IsList list
        → outcome_as (λ ps. ps) (parameters_of true scope (Some list) name) ≡ judgements.fine parameters → FollowsInBlockBy by (seen_tables on inner) (inside scope parameters)
    block_followed h by scope name parameters f is_list is =
        (subst (λ o. Declares by scope o types declined (seen_tables on inner)) is (declares h by scope name (block_opened by scope f) is_list)).follows

    pub block_noted : Where here (NotesBlock list body) (noted_at on old log) (noted_at on new now)
    block_noted = record {
      elsewhere = λ h. ap (λ t. with_uses t (seen on (listed plain_selection now))) block_closed ∙ ap (with_uses (seen_tables on old)) (ap (λ (n : Noted). n.uses) (notes.elsewhere h));
      does = λ h. record {
        notes = λ by scope name parameters result items bindings names follows is_list is derived pieces judged.
            (notes.does h).notes by result (inside scope parameters) (parameter_types parameters) items bindings (names_kept (seen_tables on old) (seen_tables on inner) inner_names names) pieces derived
            (block_followed h by scope name parameters follows is_list is) judged;
      };
    }
      where
        with_uses : plain.Tables → List Use → Noted
        with_uses t uses = record { tables = t; uses = uses }
