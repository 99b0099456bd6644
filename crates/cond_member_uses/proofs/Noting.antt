-- What expressions and initialisers use is noted.
use Rattle.std.proofs.Common.{◌≡◌, ℕ, Bool, true, List, ◌++◌, refl, sym, ap, subst, ◌∙◌, append-nil}
use Rattle.std.specs.Prelude.{Option, Some, None}
use Rattle.c_names.specs.Names.{is_identifier}
use Rattle.c_tree.specs.Trees.{PlainTree}
use Rattle.c_tree.specs.Grammar as grammar
use Rattle.tree_derivations.specs.Derivations.{Derivation}
use Rattle.conditional.specs.Entries.{under}
use Rattle.conditional.specs.Judgements as judgements
use Rattle.conditional.specs.declared.outcomes.Outcomes.{Outcomes}
use Rattle.conditional_steps.specs.Here.{Here}
use Rattle.core_meaning.specs.Checking.{Binding, Checked, fine}
use Rattle.core_meaning.specs.Entities.{Scope}
use Rattle.core_meaning.specs.Entities as scopes
use Rattle.core_meaning.specs.Declarations.{Locals, one_local}
use Rattle.operand_types.specs.OperandTypes.{renumbered}
use Rattle.operand_types.specs.Laws.{KeepsApart}
use Rattle.operand_rules.specs.declared.operands.Refused.{Refused}
use Rattle.expression_types.specs.Known.{IsKnown}
use Rattle.selections.specs.Laws as selections
use Rattle.member_uses.specs.Uses.{Use}
use Rattle.member_uses.specs.Declarations.{uses_initially}
use Rattle.member_uses.specs.Laws.{ExpressionsUseSelections}
use Rattle.type_tables.specs.Tables.{Tables, FileName, known_in}
use Rattle.type_tables.specs.declared.entries.DeclaredType.{DeclaredType}
use Rattle.type_tables.specs.Follows.{NameFollows, Follows}
use Rattle.type_tables.specs.Numbers.{FollowsBy, FollowsInBlockBy}
use Rattle.type_tables.proofs.Known.{known_followed}
use Rattle.cond_declarators.specs.Types.{ShowsType}
use Rattle.cond_selections.specs.Selected.{selections_in}
use Rattle.cond_locals.specs.Declaring.{IsInitialiser, GoesOn, Declares}
use Rattle.cond_member_uses.specs.Noted.{Noted, HasNames, NotesExpression, Where}
use Rattle.cond_member_uses.specs.Declared.{NotesOne}

abbrev pub noted : Tables → List Use → Noted
noted tables uses = record { tables = tables; uses = uses }

-- ---- what tables follow

pub names_followed : (t : Tables) (scope : Scope) → Follows t scope → HasNames t → selections.HasNames scope
names_followed t scope f names = λ name n is. at name n (t.names name) refl (subst (λ (o : Option scopes.FileName). NameFollows f.by t.signatures o (t.names name)) is (f.names name))
  where
    at : (name : List ℕ) (n : scopes.FileName) (m : Option FileName) → t.names name ≡ m → NameFollows f.by t.signatures (Some n) (t.names name) → is_identifier name ≡ true
    at name n (Some m) e follows = names name m e
    at name n None e follows = absurd (subst (NameFollows f.by t.signatures (Some n)) e follows)

pub apart_by : (by : ℕ → ℕ) (t : Tables) (scope : Scope) → FollowsBy by t scope → KeepsApart by
apart_by by t scope f = subst KeepsApart f.numbers f.follows.apart

pub known_by : (by : ℕ → ℕ) (t : Tables) (scope : Scope) → FollowsBy by t scope → IsKnown by scope (known_in t)
known_by by t scope f = subst (λ (m : ℕ → ℕ). IsKnown m scope (known_in t)) f.numbers (known_followed t scope f.follows)

-- ---- expressions

pub expression_selected :
    ExpressionsUseSelections → (t : Tables) (tree : PlainTree) (here : Bool) (old new : List Use) → new ≡ old ++ under here (selections_in (known_in t) tree)
    → Where here (NotesExpression tree) (noted t old) (noted t new)
expression_selected law t tree here old new is = record {
  elsewhere = λ h. ap (noted t) (is ∙ (ap (λ b. old ++ under b (selections_in (known_in t) tree)) h ∙ append-nil old));
  does = λ h. record {
    same = refl;
    notes = λ by scope operand bindings names pieces derived follows judged.
        is ∙ ap (λ b. old ++ under b (selections_in (known_in t) tree)) h
        ∙ ap (λ l. old ++ l)
        (sym (law by (apart_by by t scope follows) scope (names_followed t scope follows.follows names) (known_in t) (known_by by t scope follows) derived.level tree derived.derivation pieces operand bindings judged));
  };
}

-- ---- one declarator

fine_goes : (by : ℕ → ℕ) (scope : Scope) (judged : Checked Locals) (locals : Locals) (bindings : List Binding) (refused : Bool) (new : Tables) → judged ≡ fine locals bindings
    → GoesOn by scope.structs judged refused new → FollowsInBlockBy by new locals.scope × (locals.scope.structs ≡ scope.structs)
fine_goes by scope judged locals bindings refused new is goes =
    let fine_ = subst (λ (c : Checked Locals). GoesOn by scope.structs c refused new) is goes in
    (fine_.1, fine_.2)

initialiser_there : (o : Option PlainTree) → ((tree : PlainTree) → o ≡ Some tree → Derivation grammar.initialiser tree) → IsInitialiser o
initialiser_there None is = tt
initialiser_there (Some tree) is = is tree refl

pub one_noted :
    (on : ℕ → Bool) (base : Outcomes DeclaredType Refused) (declarator : PlainTree) (initialiser : Option PlainTree) (here : Bool) (before after : Tables) (refused : Bool) (old new : List Use)
    → Here here (Declares on base (λ scope slots ty. one_local scope slots ty declarator initialiser) (λ scope. IsInitialiser initialiser)) before after refused
    → after.names ≡ before.names → new ≡ old ++ under here (uses_initially (known_in after) initialiser)
    → Where here (NotesOne on base declarator initialiser) (noted before old) (noted after new)
one_noted on base declarator initialiser here before after refused old new declares names is = record {
  elsewhere = λ h.
      ap (λ t. noted t new) (declares.elsewhere h).0
      ∙ ap (noted before) (is ∙ (ap (λ b. old ++ under b (uses_initially (known_in after) initialiser)) h ∙ append-nil old));
  does = λ h. record {
    names = names;
    notes = λ by scope slots ty locals bindings has ready follows there shown judged.
        let goes =
        fine_goes by scope (one_local scope slots ty declarator initialiser) locals bindings refused after judged
        (subst (λ (m : ℕ → ℕ). GoesOn m scope.structs (one_local scope slots ty declarator initialiser) refused after) follows.numbers
        ((declares.does h).goes_on scope slots ty follows.follows there
        (subst (λ (m : ℕ → ℕ). ShowsType on (judgements.fine (renumbered m ty)) base) (sym follows.numbers) shown) (initialiser_there initialiser ready.initialiser))) in
        record { follows = goes.0; structs = goes.1; noted = is ∙ ap (λ b. old ++ under b (uses_initially (known_in after) initialiser)) h };
  };
}
