-- What cells hold, how they are read and what writing leaves.
use Rattle.std.proofs.Common.{◌≡◌, ℕ, zero, suc, ◌<◌, ◌==◌, Bool, true, false, cond, nat_lt, List, [], ◌∷◌, ◌++◌, length, set, slice_get, map, refl, sym, ap, subst, ◌∙◌, Option, Some, None, option_map, arith}
use Rattle.std.proofs.Math.Dec.{eqb-suc-zero, eqb-zero-suc, eqb-suc-suc}
use Rattle.std.proofs.lemmas.Option.{slice_get-map}
use Rattle.std.proofs.lemmas.List.{map-set, map-append, length-map}
use Rattle.c_types.specs.Types.{PlainType, void, plain_type}
use Rattle.core_meaning.specs.Values as plain
use Rattle.core_cells.specs.declared.values.Scalar.{Scalar}
use Rattle.core_cells.specs.declared.cells.Zeros.{Zeros}
use Rattle.core_cells.specs.declared.cells.Cells.{Cells}
use Rattle.core_cells.specs.declared.cells.Cells.TheOpen.{Cells-F}
use Rattle.core_cells.specs.declared.cells.Cells.TheViews.{out-Cells, roll-Cells}
use Rattle.core_cells.specs.Forms.{Inner, nothing_in, node_cells, part_cells, inner_cells, zeros_in, zeros_of, rest_cells, plain_scalar}
use Rattle.core_cells.specs.CellForms.{behind_step, with_part, with_held}
use Rattle.core_cells.specs.CellLaws.{inner_cells_roll, inner_cells_out}
use Rattle.core_cells.specs.Parts.{zero_if_scalar}
use Rattle.core_cells.specs.PathLaws.{same_at}

-- ---- cells without parts

unwritten_node : (steps : List plain.Step) → node_cells None [] None steps ≡ None
unwritten_node [] = refl
unwritten_node (plain.part k ∷ steps) = refl
unwritten_node (plain.behind ∷ steps) = refl

pub unwritten_cells : (x : Cells-F Cells) → x.held ≡ None → x.parts.items ≡ [] → x.rest ≡ None → inner_cells (roll-Cells x) ≡ nothing_in
unwritten_cells x no_scalar no_part no_type =
    inner_cells_roll x
    ∙ ap (λ held. node_cells held (map inner_cells x.parts.items) x.rest) no_scalar
    ∙ ap (λ items. node_cells None (map inner_cells items) x.rest) no_part
    ∙ ap (λ rest. node_cells None [] rest) no_type
    ∙ same_at _ _ unwritten_node

zeros_node : (held : Option Scalar) (z : Zeros) (steps : List plain.Step) → option_map plain_scalar held ≡ zero_if_scalar (plain_type z.ty.now) → node_cells held [] (Some z) steps ≡ zeros_of z steps
zeros_node held z [] first = first
zeros_node held z (plain.part k ∷ steps) first = refl
zeros_node held z (plain.behind ∷ steps) first = refl

pub zeros_cells : (x : Cells-F Cells) (z : Zeros) → x.parts.items ≡ [] → x.rest ≡ Some z → option_map plain_scalar x.held ≡ zero_if_scalar (plain_type z.ty.now) → inner_cells (roll-Cells x) ≡ zeros_of z
zeros_cells x z no_part type_is first =
    inner_cells_roll x
    ∙ ap (λ items. node_cells x.held (map inner_cells items) x.rest) no_part
    ∙ ap (λ rest. node_cells x.held [] rest) type_is
    ∙ same_at _ _ (λ steps. zeros_node x.held z steps first)

-- nothing is held behind an object
pub cells_behind : (c : Cells) → nothing_in ≡ behind_step plain.behind (inner_cells c)
cells_behind c = sym (ap (behind_step plain.behind) (inner_cells_out c))

-- ---- one more part

grown_part : (parts : List Inner) (x : Inner) (r : ℕ → Inner) (k : ℕ) → x ≡ r (length parts) → part_cells (slice_get (parts ++ x ∷ []) k) (r k) ≡ part_cells (slice_get parts k) (r k)
grown_part [] x r zero same = same
grown_part [] x r (suc k) same = refl
grown_part (y ∷ parts) x r zero same = refl
grown_part (y ∷ parts) x r (suc k) same = grown_part parts x (λ j. r (suc j)) k same

grown_at : (held : Option Scalar) (parts : List Inner) (x : Inner) (rest : Option Zeros) (steps : List plain.Step) → x ≡ rest_cells rest (length parts) → node_cells held (parts ++ x ∷ []) rest steps ≡ node_cells held parts rest steps
grown_at held parts x rest [] same = refl
grown_at held parts x rest (plain.part k ∷ steps) same = ap (λ f. f steps) (grown_part parts x (rest_cells rest) k same)
grown_at held parts x rest (plain.behind ∷ steps) same = refl

-- parts that hold what was held there without them
pub grown : (held : Option Scalar) (parts parts2 : List Cells) (x : Cells) (rest : Option Zeros) → parts2 ≡ parts ++ x ∷ [] → inner_cells x ≡ rest_cells rest (length parts) → node_cells held (map inner_cells parts2) rest ≡ node_cells held (map inner_cells parts) rest
grown held parts parts2 x rest pushed same =
    ap (λ ps. node_cells held (map inner_cells ps) rest) pushed
    ∙ ap (λ ps. node_cells held ps rest) (map-append inner_cells parts (x ∷ []))
    ∙ same_at _ _ (λ steps. grown_at held (map inner_cells parts) (inner_cells x) rest steps (same ∙ ap (rest_cells rest) (sym (length-map parts inner_cells))))

-- ---- a part that is changed

changed_part : (parts : List Inner) (k : ℕ) (x : Inner) (r : ℕ → Inner) (j : ℕ) → k < length parts → part_cells (slice_get (set parts k x) j) (r j) ≡ cond (j == k) x (part_cells (slice_get parts j) (r j))
changed_part [] k x r j within = absurd (omega (arith, within))
changed_part (y ∷ parts) zero x r zero within = refl
changed_part (y ∷ parts) zero x r (suc j) within = ap (λ b. cond b x (part_cells (slice_get parts j) (r (suc j)))) (sym (eqb-suc-zero j))
changed_part (y ∷ parts) (suc k) x r zero within = ap (λ b. cond b x y) (sym (eqb-zero-suc k))
changed_part (y ∷ parts) (suc k) x r (suc j) within =
    changed_part parts k x (λ i. r (suc i)) j (omega (arith, within))
    ∙ ap (λ b. cond b x (part_cells (slice_get parts j) (r (suc j)))) (sym (eqb-suc-suc j k))

cond_at : (b : Bool) (f g : Inner) (steps : List plain.Step) → (cond b f g) steps ≡ cond b (f steps) (g steps)
cond_at true f g steps = refl
cond_at false f g steps = refl

changed_at : (held : Option Scalar) (parts : List Inner) (k : ℕ) (x : Inner) (rest : Option Zeros) (steps : List plain.Step) → k < length parts → node_cells held (set parts k x) rest steps ≡ with_part k x (node_cells held parts rest) steps
changed_at held parts k x rest [] within = refl
changed_at held parts k x rest (plain.part j ∷ steps) within =
    ap (λ f. f steps) (changed_part parts k x (rest_cells rest) j within) ∙ cond_at (j == k) x (part_cells (slice_get parts j) (rest_cells rest j)) steps
changed_at held parts k x rest (plain.behind ∷ steps) within = refl

changed : (held : Option Scalar) (parts : List Inner) (k : ℕ) (x : Inner) (rest : Option Zeros) → k < length parts → node_cells held (set parts k x) rest ≡ with_part k x (node_cells held parts rest)
changed held parts k x rest within = same_at _ _ (λ steps. changed_at held parts k x rest steps within)

-- ---- a part

part_held : (held : Option Scalar) (parts : List Inner) (rest : Option Zeros) (k : ℕ) (x : Inner) → slice_get parts k ≡ Some x → behind_step (plain.part k) (node_cells held parts rest) ≡ x
part_held held parts rest k x there = same_at _ _ (λ steps. ap (λ o. part_cells o (rest_cells rest k) steps) there)

part_missing : (held : Option Scalar) (parts : List Inner) (rest : Option Zeros) (k : ℕ) → slice_get parts k ≡ None → behind_step (plain.part k) (node_cells held parts rest) ≡ rest_cells rest k
part_missing held parts rest k missing = same_at _ _ (λ steps. ap (λ o. part_cells o (rest_cells rest k) steps) missing)

-- a part that has cells of its own
pub part_of_node : (held : Option Scalar) (parts : List Cells) (rest : Option Zeros) (k : ℕ) (x : Cells) → slice_get parts k ≡ Some x → inner_cells x ≡ behind_step (plain.part k) (node_cells held (map inner_cells parts) rest)
part_of_node held parts rest k x there = sym (part_held held (map inner_cells parts) rest k (inner_cells x) (slice_get-map inner_cells parts k ∙ ap (option_map inner_cells) there))

pub own_part : (c : Cells) (k : ℕ) (x : Cells) → slice_get (out-Cells c).parts.items k ≡ Some x → inner_cells x ≡ behind_step (plain.part k) (inner_cells c)
own_part c k x there =
    part_of_node (out-Cells c).held (out-Cells c).parts.items (out-Cells c).rest k x there ∙ sym (ap (behind_step (plain.part k)) (inner_cells_out c))

-- and one that has none
pub rest_part : (c : Cells) (k : ℕ) → slice_get (out-Cells c).parts.items k ≡ None → rest_cells (out-Cells c).rest k ≡ behind_step (plain.part k) (inner_cells c)
rest_part c k missing =
    sym (ap (behind_step (plain.part k)) (inner_cells_out c)
    ∙ part_missing (out-Cells c).held (map inner_cells (out-Cells c).parts.items) (out-Cells c).rest k (slice_get-map inner_cells (out-Cells c).parts.items k ∙ ap (option_map inner_cells) missing))

-- ---- zeros of parts

none_either_way : {A : Type 0} (b : Bool) (o : Option A) → o ≡ None → cond b o None ≡ None
none_either_way true o h = h
none_either_way false o h = refl

zeros_in-void : (structs : List (List PlainType)) (steps : List plain.Step) → zeros_in structs void steps ≡ None
zeros_in-void structs [] = refl
zeros_in-void structs (plain.part k ∷ steps) = none_either_way (nat_lt k 0) (zeros_in structs void steps) (zeros_in-void structs steps)
zeros_in-void structs (plain.behind ∷ steps) = refl

-- zeros by a type, if the part is there
abbrev pub zeros_by : Bool → List (List PlainType) → PlainType → Inner
zeros_by b structs t steps = cond b (zeros_in structs t steps) None

pub no_zeros_outside : (b : Bool) (structs : List (List PlainType)) (t : PlainType) → b ≡ false → nothing_in ≡ zeros_by b structs t
no_zeros_outside b structs t outside = same_at _ _ (λ steps. ap (λ x. cond x (zeros_in structs t steps) None) (sym outside))

pub no_zeros_without_type : (b : Bool) (structs : List (List PlainType)) (t : PlainType) → void ≡ t → nothing_in ≡ zeros_by b structs t
no_zeros_without_type b structs t same =
    same_at _ _ (λ steps. sym (none_either_way b (zeros_in structs t steps) (ap (λ u. zeros_in structs u steps) (sym same) ∙ zeros_in-void structs steps)))

pub zeros_inside : (b : Bool) (structs : List (List PlainType)) (t u : PlainType) → b ≡ true → u ≡ t → zeros_in structs u ≡ zeros_by b structs t
zeros_inside b structs t u inside same = same_at _ _ (λ steps. ap (λ v. zeros_in structs v steps) same ∙ ap (λ x. cond x (zeros_in structs t steps) None) (sym inside))

pub ruleset zero_parts = (no_zeros_outside, no_zeros_without_type, zeros_inside)

-- ---- a scalar that is held

with_held_at : (held : Option Scalar) (v : Scalar) (parts : List Inner) (rest : Option Zeros) (steps : List plain.Step) → node_cells (Some v) parts rest steps ≡ with_held (plain_scalar v) (node_cells held parts rest) steps
with_held_at held v parts rest [] = refl
with_held_at held v parts rest (plain.part k ∷ steps) = refl
with_held_at held v parts rest (plain.behind ∷ steps) = refl

pub holding : (c : Cells) (x : Cells-F Cells) (v : Scalar) → x.held ≡ Some v → x.parts.items ≡ (out-Cells c).parts.items → x.rest ≡ (out-Cells c).rest → inner_cells (roll-Cells x) ≡ with_held (plain_scalar v) (inner_cells c)
holding c x v scalar_is same_parts same_rest =
    inner_cells_roll x
    ∙ ap (λ held. node_cells held (map inner_cells x.parts.items) x.rest) scalar_is
    ∙ ap (λ items. node_cells (Some v) (map inner_cells items) x.rest) same_parts
    ∙ ap (λ rest. node_cells (Some v) (map inner_cells (out-Cells c).parts.items) rest) same_rest
    ∙ same_at _ _ (with_held_at (out-Cells c).held v (map inner_cells (out-Cells c).parts.items) (out-Cells c).rest)
    ∙ ap (with_held (plain_scalar v)) (sym (inner_cells_out c))

-- ---- copies

same_node_at : (held held2 : Option Scalar) (parts : List Inner) (rest : Option Zeros) (steps : List plain.Step) → option_map plain_scalar held ≡ option_map plain_scalar held2 → node_cells held parts rest steps ≡ node_cells held2 parts rest steps
same_node_at held held2 parts rest [] same = same
same_node_at held held2 parts rest (plain.part k ∷ steps) same = refl
same_node_at held held2 parts rest (plain.behind ∷ steps) same = refl

pub copied : (c : Cells) (x : Cells-F Cells) → option_map plain_scalar x.held ≡ option_map plain_scalar (out-Cells c).held → map inner_cells x.parts.items ≡ map inner_cells (out-Cells c).parts.items → x.rest ≡ (out-Cells c).rest → inner_cells (roll-Cells x) ≡ inner_cells c
copied c x same_held same_parts same_rest =
    inner_cells_roll x
    ∙ same_at _ _ (λ steps. same_node_at x.held (out-Cells c).held (map inner_cells x.parts.items) x.rest steps same_held)
    ∙ ap (λ ps. node_cells (out-Cells c).held ps x.rest) same_parts
    ∙ ap (λ rest. node_cells (out-Cells c).held (map inner_cells (out-Cells c).parts.items) rest) same_rest
    ∙ sym (inner_cells_out c)

-- ---- a part that is written to

pub part_changed : (c : Cells) (reached : List Cells) (x : Cells-F Cells) (k : ℕ) (old new : Cells) (inner : Inner → Inner) → node_cells (out-Cells c).held (map inner_cells reached) (out-Cells c).rest ≡ node_cells (out-Cells c).held (map inner_cells (out-Cells c).parts.items) (out-Cells c).rest → k < length reached → slice_get reached k ≡ Some old → x.held ≡ (out-Cells c).held → x.parts.items ≡ set reached k new → x.rest ≡ (out-Cells c).rest → inner_cells new ≡ inner (inner_cells old) → inner_cells (roll-Cells x) ≡ with_part k (inner (behind_step (plain.part k) (inner_cells c))) (inner_cells c)
part_changed c reached x k old new inner same within there same_held written same_rest is_new =
    let held = (out-Cells c).held in
    let rest = (out-Cells c).rest in
    let before : node_cells held (map inner_cells reached) rest ≡ inner_cells c = same ∙ sym (inner_cells_out c) in
    inner_cells_roll x
    ∙ ap (λ h. node_cells h (map inner_cells x.parts.items) x.rest) same_held
    ∙ ap (λ r. node_cells held (map inner_cells x.parts.items) r) same_rest
    ∙ ap (λ ps. node_cells held (map inner_cells ps) rest) written
    ∙ ap (λ ps. node_cells held ps rest) (map-set inner_cells reached k new)
    ∙ changed held (map inner_cells reached) k (inner_cells new) rest (subst (λ (n : ℕ). k < n) (sym (length-map reached inner_cells)) within)
    ∙ ap (λ y. with_part k y (node_cells held (map inner_cells reached) rest)) (is_new ∙ ap inner (part_of_node held reached rest k old there))
    ∙ ap (λ f. with_part k (inner (behind_step (plain.part k) f)) f) before

pub set_again : {A : Type 0} (xs : List A) (k : ℕ) (x y : A) → set (set xs k x) k y ≡ set xs k y
set_again [] k x y = refl
set_again (z ∷ xs) zero x y = refl
set_again (z ∷ xs) (suc k) x y = ap (λ rest. z ∷ rest) (set_again xs k x y)
