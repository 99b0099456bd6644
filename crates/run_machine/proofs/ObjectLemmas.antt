-- Objects that end one after the other, and objects that are written to.
use Rattle.std.proofs.Common.{◌≡◌, ℕ, zero, suc, ◌+◌, ◌<◌, Bool, true, false, ◌&&◌, cond, List, [], ◌∷◌, length, get_or, take, reverse, refl, sym, ap, subst, ◌∙◌, Option, Some, None, option_map, arith}
use Rattle.std.specs.Prelude.{slice_index_or}
use Rattle.c_types.specs.Types.{PlainType}
use Rattle.core_meaning.specs.Values.{Path, at, Cells, Value, is_inside}
use Rattle.core_meaning.specs.Run.{no_object, memory_of}
use Rattle.std.proofs.lemmas.List.{take_more, reverse-append}
use Rattle.core_meaning.specs.Memory.{Object, Memory, with_object, with_ended, with_all_ended, written_at, cells_with}

pub end_one_more : (m : Memory) (objects : List ℕ) (left : ℕ) → left < length objects → with_all_ended (with_ended m (get_or objects left 0)) (reverse (take left objects)) ≡ with_all_ended m (reverse (take (left + 1) objects))
end_one_more m objects left within =
    sym
    (ap (λ ks. with_all_ended m (reverse ks)) (take_more objects left 0 within)
    ∙ ap (with_all_ended m) (reverse-append (take left objects) (get_or objects left 0 ∷ [])))

-- ---- an object that is written to was made

abbrev Within : ℕ → Option Memory → Type 0
Within k None = Unit {0}
Within k (Some now) = k < now.made

some_within : (m : Memory) (k : ℕ) (f : Cells → Object) (o : Option Cells) → k < m.made → Within k (option_map (λ cells. with_object m k (f cells)) o)
some_within m k f None within = tt
some_within m k f (Some cells) within = within

where_there : (k : ℕ) (b : Bool) (o : Option Memory) → (b ≡ true → Within k o) → Within k (cond b o None)
where_there k true o h = h refl
where_there k false o h = tt

first_holds : (a b c : Bool) → ((a && b) && c) ≡ true → a ≡ true
first_holds true b c h = refl
first_holds false b c h = h

living_within : (objects : List Object) (k : ℕ) → (slice_index_or objects k no_object).lives ≡ true → k < length objects
living_within [] k h = cc
living_within (x ∷ objects) zero h = omega arith
living_within (x ∷ objects) (suc k) h = let below = living_within objects k h in omega (arith, below)

pub written_within : (structs : List (List PlainType)) (objects : List Object) (k : ℕ) (path : Path) (v : Value) → Within k (written_at structs (memory_of objects) (at k path) v)
written_within structs objects k path v =
    let object = slice_index_or objects k no_object in
    where_there k _ _ (λ there.
    some_within (memory_of objects) k (λ cells. record object { cells = cells }) (cells_with object.cells path v)
    (living_within objects k (first_holds object.lives (is_inside structs object.ty path) object.writable there)))

pub within_some : (k : ℕ) (o : Option Memory) (now : Memory) → Within k o → o ≡ Some now → k < now.made
within_some k o now within same = subst (Within k) same within
