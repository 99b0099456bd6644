-- Without selected statements the relation holds whatever may stand for them.
use Rattle.std.proofs.Common.{ℕ, Bool, true, List, Option}
use Rattle.c_types.specs.Types.{PlainType}
use Rattle.core_meaning.specs.Program.{PlainStatement, PlainItems, PlainProgram}
use Rattle.run_pairs.specs.Correspondences.{Correspondence}
use Rattle.run_pairs.specs.Alike
use Rattle.run_pairs.specs.Alike.{Uses, Replacement, with_use, AlikeStatements, AlikeItems}
use Rattle.run_pairs.specs.Extraction.{Nothing}

module _ (p p' : PlainProgram) (functions : ℕ → Option ℕ) (arity : ℕ → ℕ) (first : Correspondence) (Stands : Replacement)
    (types types' : List PlainType) (selects : Bool) where
  mutual
    pub statements_to : (uses : Uses) (l r : Bool) (x y : PlainStatement) → AlikeStatements p p' functions arity first Nothing types types' selects uses l r x y → AlikeStatements p p' functions arity first Stands types types' selects uses l r x y
    statements_to _ _ _ x y (Alike.blocks uses l r a b h) = Alike.blocks uses l r a b (items_to uses l r a b h)
    statements_to _ _ _ x y (Alike.evaluates uses l r a b h) = Alike.evaluates uses l r a b h
    statements_to _ _ _ x y (Alike.selections uses l r a b i j u v h k m) = Alike.selections uses l r a b i j u v h (statements_to uses l r i j k) (statements_to uses l r u v m)
    statements_to _ _ _ x y (Alike.loops uses l r asks a b s t i j h k m) = Alike.loops uses l r asks a b s t i j h k (statements_to uses true r i j m)
    statements_to _ _ _ x y (Alike.break_loops uses l r e) = Alike.break_loops uses l r e
    statements_to _ _ _ x y (Alike.continue_loops uses l r e) = Alike.continue_loops uses l r e
    statements_to _ _ _ x y (Alike.returns_nothing uses l r e) = Alike.returns_nothing uses l r e
    statements_to _ _ _ x y (Alike.returns_value uses l r a b e h) = Alike.returns_value uses l r a b e h

    pub items_to : (uses : Uses) (l r : Bool) (x y : PlainItems) → AlikeItems p p' functions arity first Nothing types types' selects uses l r x y → AlikeItems p p' functions arity first Stands types types' selects uses l r x y
    items_to _ _ _ x y (Alike.no_items uses l r) = Alike.no_items uses l r
    items_to _ _ _ x y (Alike.locals uses l r j k u v a b e d h m) = Alike.locals uses l r j k u v a b e d h (items_to (with_use uses j k) l r a b m)
    items_to _ _ _ x y (Alike.statement_items uses l r s t a b h m) = Alike.statement_items uses l r s t a b (statements_to uses l r s t h) (items_to uses l r a b m)
    items_to _ _ _ x y (Alike.selected uses l r ss ts a b e h m) = absurd h
    items_to _ _ _ x y (Alike.initialised uses l r j k u tt' a b e same d h m) = absurd h
