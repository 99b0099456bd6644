-- An item is declared, and then its uses are noted.
use Rattle.std.proofs.Common.{◌≡◌, ℕ, Bool, List, sym, ap, ◌∙◌, subst}
use Rattle.c_tree.specs.Trees.{PlainTree, PlainTrees}
use Rattle.c_tree.specs.Grammar.{file_item}
use Rattle.tree_derivations.specs.Derivations.{Derivation}
use Rattle.conditional.specs.declared.lists.CondList.{CondList}
use Rattle.cond_selections.specs.declared.entries.Selection.{Selection}
use Rattle.type_tables.specs.Tables as plain
use Rattle.type_tables.specs.Definitions.{PlainDefinition}
use Rattle.type_tables.specs.Seen.{seen_tables}
use Rattle.cond_member_uses.specs.Noted as blocks
use Rattle.cond_units.specs.declared.units.UnitTables.{UnitTables}
use Rattle.cond_units.specs.Seen.{SeenUnit, seen_unit}
use Rattle.cond_units.specs.Declaring.{IsUnit}
use Rattle.cond_units.specs.Where as units
use Rattle.cond_units.specs.Items.{ItemGoesOn, DeclaresItem}
use Rattle.cond_units.specs.Units.{one_item}
use Rattle.cond_unit_uses.specs.Noted.{noted_unit, Where, NotesItem}
use Rattle.cond_unit_uses.specs.Functions.{NotesBehind}
use Rattle.cond_unit_uses.proofs.Renumbering.{follows_by}

pub entry_noted :
    (on : ℕ → Bool) (globals : ℕ) (tree : PlainTree) (rest : PlainTrees) (here found : Bool) (old declared new : UnitTables) (log now : CondList Selection)
    → units.Where here (DeclaresItem (one_item globals tree rest) (Derivation file_item tree)) (seen_unit on old) (seen_unit on declared) found → new.defined ≡ declared.defined
    → seen_tables on new.tables ≡ seen_tables on declared.tables → blocks.Where here (NotesBehind tree) (blocks.noted_at on declared.tables log) (blocks.noted_at on new.tables now)
    → Where here (NotesItem globals tree rest) (noted_unit on old log) (noted_unit on new now)
entry_noted on globals tree rest here found old declared new log now declares defined same notes = record {
  elsewhere = λ h. record {
    unit = subst (units.Stays (seen_unit on old)) (sym same_unit) (declares.elsewhere h).0;
    uses = ap (λ (n : blocks.Noted). n.uses) (notes.elsewhere h);
  };
  does = λ h. record {
    notes = λ by unit next bindings is_unit names ready judged.
        let goes = subst (λ c. ItemGoesOn by unit.scope.structs c found (seen_unit on declared)) judged ((declares.does h).goes_on by unit is_unit ready.0) in
        record {
          anew = record { numbers = goes.1.numbers; is_unit = subst (λ s. IsUnit goes.1.numbers s next) (sym same_unit) goes.1.is_unit; kept = goes.1.kept };
          noted = λ numbers apart kept.
              (notes.does h).notes numbers globals unit next rest bindings names (follows_by goes.1.numbers numbers (seen_tables on declared.tables) next.scope goes.1.is_unit.tables apart kept) ready.0 ready.1 judged;
        };
  };
}
  where
    with_tables : plain.Tables → List PlainDefinition → SeenUnit
    with_tables t defined = record { tables = t; defined = defined }

    same_unit : seen_unit on new ≡ seen_unit on declared
    same_unit =
        ap (λ t. with_tables t (seen_unit on new).defined) same
        ∙ ap (λ d. (seen_unit on (record declared { defined = d }))) defined
