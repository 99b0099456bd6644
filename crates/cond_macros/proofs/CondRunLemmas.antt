-- Lists under conditions, step by step.
use Rattle.std.proofs.Common.{◌≡◌, ℕ, zero, suc, ◌+◌, ◌<◌, ◌≤◌, Bool, true, false, List, [], ◌∷◌, ◌++◌, drop, length, get_or, Option, Some, None, refl, sym, ap, subst, ◌∙◌, arith}
use Rattle.std.specs.Prelude.{if◌then◌else◌}
use Rattle.std.proofs.lemmas.List.{drop_all}
use Rattle.cond_formula.specs.Conditions.{condition_of, value}
use Rattle.std.specs.Option.{option_map}
use Rattle.c_text.specs.Token.{PlainToken}
use Rattle.c_text.specs.Directives.{PlainMacro}
use Rattle.c_text.specs.Macros as spec
use Rattle.c_text.specs.Preprocessing.{feature_token}
use Rattle.macro_table.specs.declared.macros.Macros.{Macros}
use Rattle.macro_table.specs.MacroTables.{macro_meaning, definitions_of}
use Rattle.macro_table.specs.Features.{is_on_feature, macros_at}
use Rattle.conditional.specs.declared.entries.Guarded.{Guarded}
use Rattle.conditional.specs.Entries.{first, seen}
use Rattle.cond_bodies.specs.declared.item.Item.{Item}
use Rattle.cond_bodies.specs.CondItems.{item_at, items_at}
use Rattle.cond_bodies.specs.CondMeanings.{PlainFunction}
use Rattle.cond_bodies.proofs.ItemLemmas.{seen_next}
use Rattle.cond_bodies.proofs.LevelLemmas.{is_some_list}
use Rattle.cond_runs.specs.Functions.{some_seen}
use Rattle.cond_macros.specs.Owned.{IsOwn, AreOwn}
use Rattle.cond_runs.specs.Pieces.{Piece, ended}
use Rattle.cond_macros.specs.Readings.{ListBecomes}
use Rattle.cond_macros.proofs.PieceLemmas.{end_reads}

-- ---- lists that are read

module _ (exact : Bool) (table : spec.Table) (deeper : spec.Deeper) (active : List (List ℕ)) (on : ℕ → Bool) where
  pub reads_next : (xs rest : List (Guarded Item)) (x : Guarded Item) (i : ℕ) (s : Option Piece) (b : Option (List spec.Item)) → i < length xs → x ≡ get_or xs i x → rest ≡ drop (i + 1) xs →
      ListBecomes exact table deeper active s (items_at on (drop i xs)) b →
      ListBecomes exact table deeper active s (if◌then◌else◌ (value on (condition_of x.when)) (item_at on x.what ∷ items_at on rest) (items_at on rest)) b
  reads_next xs rest x i s b within is e reads =
      subst (λ (l : List spec.Item). ListBecomes exact table deeper active s l b)
      (seen_next (item_at on) on xs x i within is ∙ ap (λ (l : List (Guarded Item)). if◌then◌else◌ (value on (condition_of x.when)) (item_at on x.what ∷ items_at on l) (items_at on l)) (sym e)) reads

  pub reads_moved : (xs rest : List (Guarded Item)) (s : Option Piece) (b : Option (List spec.Item)) → rest ≡ xs → ListBecomes exact table deeper active s (items_at on rest) b → ListBecomes exact table deeper active s (items_at on xs) b
  reads_moved xs rest s b e reads = subst (λ (l : List (Guarded Item)). ListBecomes exact table deeper active s (items_at on l) b) e reads

  pub reads_done : (xs : List (Guarded Item)) (i : ℕ) (s : Option Piece) (b : Option (List spec.Item)) → length xs ≤ i → ListBecomes exact table deeper active s (items_at on (drop i xs)) b → ended s ≡ b
  reads_done xs i s b past reads = end_reads exact table deeper active s b (reads_moved [] (drop i xs) s b (drop_all i xs past) reads)

pub own_at : (xs : List (Guarded Item)) (x : Guarded Item) (i : ℕ) → i < length xs → x ≡ get_or xs i x → AreOwn xs → IsOwn x.what
own_at [] x i within is own = absurd (omega arith)
own_at (y ∷ xs) x zero within is own = subst (λ (z : Guarded Item). IsOwn z.what) (sym is) own.0
own_at (y ∷ xs) x (suc i) within is own = own_at xs x i (omega arith) is own.1

-- one more item of its own
pub own_pushed : (xs : List (Guarded Item)) (x : Guarded Item) → AreOwn xs → IsOwn x.what → AreOwn (xs ++ x ∷ [])
own_pushed [] x all own = (own, tt)
own_pushed (y ∷ xs) x all own = (all.0, own_pushed xs x all.1 own)

-- ---- meanings

pub lists_some : (fs : List PlainFunction) → is_some_list fs ≡ some_seen fs
lists_some [] = refl
lists_some (f ∷ fs) = refl

macro_is_none : (o : Option PlainMacro) (other : PlainToken) → option_map macro_meaning o ≡ Some (spec.feature other) → feature_token ≡ other
macro_is_none None other e = cc
macro_is_none (Some m) other e = by_params m.params e where
  by_params : (params : Option (List (List ℕ))) → Some (macro_meaning (record m { params = params })) ≡ Some (spec.feature other) → feature_token ≡ other
  by_params None f = cc
  by_params (Some params) f = cc

-- a name that stands for a feature is replaced by the one token of the built-in file
pub feature_is_built_in : (on : ℕ → Bool) (macros : Macros) (name : List ℕ) (other : PlainToken) → macros_at on macros name ≡ Some (spec.feature other) → feature_token ≡ other
feature_is_built_in on macros name other e = by_test (is_on_feature on macros name) (first (seen on (definitions_of macros.table.now name))) e where
  by_test : (b : Bool) (o : Option PlainMacro) → (if◌then◌else◌ b (Some (spec.feature feature_token)) (option_map macro_meaning o)) ≡ Some (spec.feature other) → feature_token ≡ other
  by_test true o f = cc
  by_test false o f = macro_is_none o other f
