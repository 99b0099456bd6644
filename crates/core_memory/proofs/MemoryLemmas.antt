-- Reading and writing, in one object and in memory.
use Rattle.std.proofs.Common.{◌≡◌, ℕ, zero, suc, ◌<◌, ◌==◌, Bool, true, false, ◌&&◌, cond, List, [], ◌∷◌, map, reverse, length, set, get_or, refl, sym, ap, subst, ◌∙◌, Option, Some, None, option_map, arith}
use Rattle.std.proofs.Math.Dec.{eqb-suc-zero, eqb-zero-suc, eqb-suc-suc}
use Rattle.std.proofs.lemmas.List.{reverse-reverse, map-set, length-map, length-set}
use Rattle.c_types.specs.Types.{PlainType}
use Rattle.core_meaning.specs.Values as plain
use Rattle.core_meaning.specs.Values.{Path, Cells, whole, scalar, at}
use Rattle.core_meaning.specs.Memory.{Object, Memory, is_there, with_object, written_at, cells_with}
use Rattle.core_meaning.specs.Run.{memory_of, no_object}
use Rattle.core_memory.specs.declared.memory.Object as code
use Rattle.core_cells.specs.Forms.{Inner}
use Rattle.core_cells.specs.CellForms.{placed, only_parts, by_paths}
use Rattle.core_memory.specs.MemoryForms.{plain_object, with_written, with_placed, object_with}
use Rattle.core_cells.specs.PathLaws.{same_at, scalar_written, whole_written, inside_only}

-- ---- writing in an object

second_holds : (a b : Bool) → (a && b) ≡ true → b ≡ true
second_holds true b h = h
second_holds false b h = cc

pub only_parts_there : (structs : List (List PlainType)) (object : Object) (steps : List plain.Step) → is_there structs object (reverse steps) ≡ true → only_parts steps ≡ true
only_parts_there structs object steps there =
    ap only_parts (sym (reverse-reverse steps)) ∙ inside_only structs object.ty (reverse steps) (second_holds object.lives _ there)

with_cells : Object → Cells → Option Object
with_cells object cells = Some (record object { cells = cells })

pub scalar_put : (object : Object) (steps : List plain.Step) (v : plain.Scalar) (f : Inner) → only_parts steps ≡ true → object.cells ≡ by_paths f → with_written object (reverse steps) (scalar v) ≡ Some (with_placed object steps (scalar v) f)
unfolding with_cells
scalar_put object steps v f only held =
    ap (λ (cells : Cells). with_cells object (λ other. cond (plain.same_path other (reverse steps)) (Some v) (cells other))) held
    ∙ ap (with_cells object) (scalar_written (reverse steps) v f (ap only_parts (reverse-reverse steps) ∙ only))
    ∙ ap (λ s. with_cells object (by_paths (placed s (scalar v) f))) (reverse-reverse steps)

pub whole_put : (object : Object) (steps : List plain.Step) (parts : Cells) (f : Inner) → only_parts steps ≡ true → object.cells ≡ by_paths f → with_written object (reverse steps) (whole parts) ≡ Some (with_placed object steps (whole parts) f)
unfolding with_cells
whole_put object steps parts f only held =
    ap (λ (cells : Cells). with_written (record object { cells = cells }) (reverse steps) (whole parts)) held
    ∙ ap (with_cells object) (whole_written (reverse steps) parts f (ap only_parts (reverse-reverse steps) ∙ only))
    ∙ ap (λ s. with_cells object (by_paths (placed s (whole parts) f))) (reverse-reverse steps)

-- ---- objects in memory

map_at : {A B : Type 0} (f : A → B) (xs : List A) (k : ℕ) (x : A) (d : B) → k < length xs → x ≡ get_or xs k x → get_or (map f xs) k d ≡ f x
map_at f [] k x d within there = absurd (omega (arith, within))
map_at f (y ∷ xs) zero x d within there = ap f (sym there)
map_at f (y ∷ xs) (suc k) x d within there = map_at f xs k x d (omega (arith, within)) there

pub object_at : (items : List code.Object) (k : ℕ) (o : code.Object) → k < length items → o ≡ get_or items k o → get_or (map plain_object items) k no_object ≡ plain_object o
object_at items k o within there = map_at plain_object items k o no_object within there

set_at : {A : Type 0} (xs : List A) (k : ℕ) (y d : A) (j : ℕ) → k < length xs → get_or (set xs k y) j d ≡ cond (j == k) y (get_or xs j d)
set_at [] k y d j within = absurd (omega (arith, within))
set_at (x ∷ xs) zero y d zero within = refl
set_at (x ∷ xs) zero y d (suc j) within = ap (λ b. cond b y (get_or xs j d)) (sym (eqb-suc-zero j))
set_at (x ∷ xs) (suc k) y d zero within = ap (λ b. cond b y x) (sym (eqb-zero-suc k))
set_at (x ∷ xs) (suc k) y d (suc j) within = set_at xs k y d j (omega (arith, within)) ∙ ap (λ b. cond b y (get_or xs j d)) (sym (eqb-suc-suc j k))

same_memory : (m n : Memory) → m.made ≡ n.made → m.object ≡ n.object → m ≡ n
same_memory m n made object = λ i. record { made = made i; object = object i }

-- an object in the place of another
pub object_changed : (items : List code.Object) (k : ℕ) (o : code.Object) → k < length items → memory_of (map plain_object (set items k o)) ≡ with_object (memory_of (map plain_object items)) k (plain_object o)
object_changed items k o within =
    ap memory_of (map-set plain_object items k o)
    ∙ same_memory _ _ (length-set (map plain_object items) k (plain_object o))
    (same_at _ _ (λ j. set_at (map plain_object items) k (plain_object o) no_object j (subst (λ (n : ℕ). k < n) (sym (length-map items plain_object)) within)))

mapped_either : {A B : Type 0} (f : A → B) (b : Bool) (o : Option A) → option_map f (cond b o None) ≡ cond b (option_map f o) None
mapped_either f true o = refl
mapped_either f false o = refl

mapped_again : (m : Memory) (k : ℕ) (object : Object) (o : Option Cells) → option_map (λ cells. with_object m k (record object { cells = cells })) o ≡ option_map (with_object m k) (option_map (λ cells. record object { cells = cells }) o)
mapped_again m k object None = refl
mapped_again m k object (Some cells) = refl

written_in_object : (structs : List (List PlainType)) (m : Memory) (k : ℕ) (path : Path) (v : plain.Value) → written_at structs m (at k path) v ≡ option_map (with_object m k) (object_with structs (m.object k) path v)
written_in_object structs m k path v =
    let allowed : Bool = is_there structs (m.object k) path && (m.object k).writable in
    ap (λ o. cond allowed o None) (mapped_again m k (m.object k) (cells_with (m.object k).cells path v))
    ∙ sym (mapped_either (with_object m k) allowed (with_written (m.object k) path v))

pub memory_written : (structs : List (List PlainType)) (items : List code.Object) (k : ℕ) (old new : code.Object) (path : Path) (v : plain.Value) (done : Bool) → k < length items → old ≡ get_or items k old → object_with structs (plain_object old) path v ≡ cond done (Some (plain_object new)) None → written_at structs (memory_of (map plain_object items)) (at k path) v ≡ cond done (Some (memory_of (map plain_object (set items k new)))) None
memory_written structs items k old new path v done within there wrote =
    let m : Memory = memory_of (map plain_object items) in
    written_in_object structs m k path v
    ∙ ap (λ object. option_map (with_object m k) (object_with structs object path v)) (object_at items k old within there)
    ∙ ap (option_map (with_object m k)) wrote
    ∙ mapped_either (with_object m k) done (Some (plain_object new))
    ∙ ap (λ now. cond done (Some now) None) (sym (object_changed items k new within))
