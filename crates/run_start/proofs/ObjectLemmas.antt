-- Objects, one after the other, and the parts of a global.
use Rattle.std.proofs.Common.{◌≡◌, ℕ, suc, zero, ◌+◌, ◌<◌, ◌==◌, cond, List, [], ◌∷◌, ◌++◌, map, take, drop, length, get_or, subst, Vec, refl, sym, ap, ◌∙◌, append_assoc}
use Rattle.std.proofs.Math.Seq.{drop-cons}
use Rattle.std.proofs.Math.Dec.{eqb-suc-zero, eqb-zero-suc, eqb-suc-suc}
use Rattle.std.proofs.lemmas.List.{map_more, length-map, get_or-map}
use Rattle.std.proofs.lemmas.Simd.{map-map}
use Rattle.std.specs.Prelude.{slice_index_or}
use Rattle.std.specs.declared.alloc.Global.{Global}
use Rattle.c_types.specs.declared.types.CType.{CType}
use Rattle.c_types.specs.Types.{PlainType, plain_type, void}
use Rattle.core_meaning.specs.declared.program.ConstantPart.{ConstantPart}
use Rattle.core_meaning.specs.declared.program.CoreProgram.{CoreProgram}
use Rattle.core_meaning.specs.Plain.{plain_constant_part, plain_global, plain_program}
use Rattle.core_meaning.specs.Values.{Cells}
use Rattle.core_meaning.specs.Memory.{Object, Memory, with_new}
use Rattle.core_meaning.specs.Run.{first_cells, first_objects, no_object, memory_of}
use Rattle.core_meaning.specs.Run as running
use Rattle.core_cells.specs.PathLaws.{same_at}
use Rattle.core_memory.specs.InitialForms.{with_scalar_at}
use Rattle.run_start.specs.Starts.{global_objects, text_objects, text_type}

abbrev memory_with : ℕ → (ℕ → Object) → Memory
memory_with made object = record { made = made; object = object }

-- one element more of a list of which each is a form of one in another list
pub mapped_more : {X Y : Type 0} (f : X → Y) (xs : List X) (i : ℕ) (x : X) (ys : List Y) → i < length xs → x ≡ get_or xs i x → ys ≡ map f (take i xs) → ys ++ f x ∷ [] ≡ map f (take (i + 1) xs)
mapped_more f xs i x ys within same so_far =
    ap (λ zs. zs ++ f x ∷ []) so_far
    ∙ (ap (λ z. map f (take i xs) ++ f z ∷ []) same
    ∙ sym (map_more f xs i x within))

-- one part of a global more, from the last one on
pub part_more : (globals : ℕ) (parts : List ConstantPart) (i : ℕ) (x : ConstantPart) (z : Cells) → i < length parts → x ≡ get_or parts i x → with_scalar_at (plain_constant_part globals x).path (plain_constant_part globals x).value (first_cells (map (plain_constant_part globals) (drop (suc i) parts)) z) ≡ first_cells (map (plain_constant_part globals) (drop i parts)) z
part_more globals parts i x z within same =
    sym (ap (λ xs. first_cells (map (plain_constant_part globals) xs) z)
    (drop-cons parts i x within ∙ ap (λ y. y ∷ drop (suc i) parts) (sym same)))

object_more : (objects : List Object) (o : Object) (k : ℕ) → cond (k == length objects) o (slice_index_or objects k no_object) ≡ slice_index_or (objects ++ o ∷ []) k no_object
object_more [] o zero = refl
object_more [] o (suc k) = ap (λ x. cond x o no_object) (eqb-suc-zero k)
object_more (x ∷ objects) o zero = ap (λ y. cond y o x) (eqb-zero-suc (length objects))
object_more (x ∷ objects) o (suc k) = ap (λ y. cond y o (slice_index_or objects k no_object)) (eqb-suc-suc k (length objects)) ∙ object_more objects o k

length_more : (objects : List Object) (o : Object) → suc (length objects) ≡ length (objects ++ o ∷ [])
length_more [] o = refl
length_more (x ∷ objects) o = ap suc (length_more objects o)

same_memory : (made made' : ℕ) (object object' : ℕ → Object) → made ≡ made' → object ≡ object' → memory_with made object ≡ memory_with made' object'
same_memory made made' object object' e f = ap (λ n. memory_with n object) e ∙ ap (memory_with made') f

-- memory with one object more
pub memory_more : (objects : List Object) (o : Object) → with_new (memory_of objects) o ≡ memory_of (objects ++ o ∷ [])
memory_more objects o = same_memory _ _ _ _ (length_more objects o) (same_at _ _ (object_more objects o))

-- memory with one object more, which is a form of one in a list
pub object_added : {X : Type 0} (before : List Object) (f : X → Object) (xs : List X) (i : ℕ) (x : X) (old new : Memory) → i < length xs → x ≡ get_or xs i x → old ≡ memory_of (before ++ map f (take i xs)) → new ≡ with_new old (f x) → new ≡ memory_of (before ++ map f (take (i + 1) xs))
object_added before f xs i x old new within same so_far added =
    added
    ∙ (ap (λ m. with_new m (f x)) so_far
    ∙ (memory_more (before ++ map f (take i xs)) (f x)
    ∙ ap memory_of (append_assoc before (map f (take i xs)) (f x ∷ [])
    ∙ ap (λ os. before ++ os) (mapped_more f xs i x (map f (take i xs)) within same refl))))

pub objects_begin : (p : CoreProgram) → global_objects p ++ text_objects p ≡ first_objects (plain_program p)
objects_begin p =
    let n = length p.globals.items in
    let q = plain_program p in
    ap (λ os. os ++ text_objects p) (sym (map-map (running.global_object q.structs) (plain_global n) p.globals.items))
    ∙ ap (λ os. map (running.global_object q.structs) q.globals ++ os) (sym (map-map running.literal_object (λ bytes. bytes.items) p.literals.items))

-- ---- the types of texts

abbrev type_of_text : Vec ℕ Global → PlainType
type_of_text bytes = text_type bytes.items

pub as_many : (types : List CType) (texts : List (Vec ℕ Global)) → map plain_type types ≡ map (λ (bytes : Vec ℕ Global). text_type bytes.items) texts → length types ≡ length texts
as_many types texts same = sym (length-map types plain_type) ∙ (ap length same ∙ length-map texts type_of_text)

pub typed_at : (types : List CType) (texts : List (Vec ℕ Global)) (k : ℕ) (ty : CType) (text : Vec ℕ Global) → map plain_type types ≡ map (λ (bytes : Vec ℕ Global). text_type bytes.items) texts → k < length types → ty ≡ get_or types k ty → text ≡ get_or texts k text → plain_type ty ≡ text_type text.items
typed_at types texts k ty text same within type_there text_there =
    ap plain_type type_there
    ∙ (sym (get_or-map plain_type types k ty void within)
    ∙ (ap (λ ts. get_or ts k void) same
    ∙ (get_or-map type_of_text texts k text void (subst (λ (n : ℕ). k < n) (as_many types texts same) within)
    ∙ ap type_of_text (sym text_there))))
