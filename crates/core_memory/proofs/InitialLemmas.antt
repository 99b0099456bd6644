-- Zeros, and what is written over them.
use Rattle.std.proofs.Common.{◌≡◌, ℕ, Bool, true, false, ◌&&◌, ◌||◌, cond, nat_lt, List, [], ◌∷◌, ◌++◌, map, reverse, refl, sym, ap, ◌∙◌, Option, Some, None, option_map, is_some, append_assoc}
use Rattle.std.proofs.lemmas.Bool.{eqb-true}
use Rattle.std.specs.List.{list_any}
use Rattle.std.proofs.lemmas.List.{reverse-append, reverse-reverse, append-nil}
use Rattle.c_types.specs.Types.{PlainType}
use Rattle.core_meaning.specs.Program.{PlainPart}
use Rattle.core_meaning.specs.Plain.{path_from}
use Rattle.core_meaning.specs.Values.{Step, part, behind, Path, Scalar, Cells, Value, scalar, whole, same_step, same_path, onward, is_inside, is_scalar, part_count, part_type, type_at}
use Rattle.core_meaning.specs.Memory.{zero_of, zeros, by_steps}
use Rattle.core_meaning.specs.Meaning.{cells_filled}
use Rattle.core_cells.specs.Forms.{Inner, zeros_in}
use Rattle.core_cells.specs.CellForms.{placed, only_parts, by_paths, cells_at}
use Rattle.core_cells.specs.PathLaws.{same_at, whole_written, scalar_written}
use Rattle.core_memory.specs.InitialForms.{with_cells_at, with_scalar_at}

-- ---- zeros, from the outside in

none_each_way : {A : Type 0} (b : Bool) → ◌≡◌ {A = Option A} (cond b None None) None
none_each_way true = refl
none_each_way false = refl

cond_both : {A : Type 0} (a b : Bool) (x : Option A) → cond a (cond b x None) None ≡ cond (a && b) x None
cond_both true b x = refl
cond_both false b x = refl

zeros_behind : (structs : List (List PlainType)) (t : PlainType) (outer : Path) (rest : List Step) → zeros_in structs t (reverse outer ++ rest) ≡ cond (is_inside structs t outer) (zeros_in structs (type_at structs t outer) rest) None
zeros_behind structs t [] rest = refl
zeros_behind structs t (part k ∷ outer) rest =
    ap (zeros_in structs t) (ap (λ p. p ++ rest) (reverse-append (part k ∷ []) outer) ∙ append_assoc (reverse outer) (part k ∷ []) rest)
    ∙ zeros_behind structs t outer (part k ∷ rest)
    ∙ cond_both (is_inside structs t outer) (nat_lt k (part_count structs (type_at structs t outer))) (zeros_in structs (part_type structs (type_at structs t outer) k) rest)
zeros_behind structs t (behind ∷ outer) rest =
    ap (zeros_in structs t) (ap (λ p. p ++ rest) (reverse-append (behind ∷ []) outer) ∙ append_assoc (reverse outer) (behind ∷ []) rest)
    ∙ zeros_behind structs t outer (behind ∷ rest)
    ∙ none_each_way (is_inside structs t outer)

pub zeros_by_paths : (structs : List (List PlainType)) (t : PlainType) → by_paths (zeros_in structs t) ≡ zeros structs t
zeros_by_paths structs t =
    same_at _ _ (λ path.
    ap (zeros_in structs t) (sym (append-nil (reverse path)))
    ∙ zeros_behind structs t path []
    ∙ cond_both (is_inside structs t path) (is_scalar (type_at structs t path)) (Some (zero_of (type_at structs t path))))

-- ---- a part that is copied

same_steps : (a b : Step) → same_step a b ≡ true → a ≡ b
same_steps (part j) (part k) same = ap part (eqb-true j k same)
same_steps (part j) behind same = cc
same_steps behind (part k) same = cc
same_steps behind behind same = refl

both_hold : (a b : Bool) → (a && b) ≡ true → (a ≡ true) × (b ≡ true)
both_hold true b h = (refl, h)
both_hold false b h = cc

same_paths : (p q : Path) → same_path p q ≡ true → p ≡ q
same_paths [] [] same = refl
same_paths [] (b ∷ q) same = cc
same_paths (a ∷ p) [] same = cc
same_paths (a ∷ p) (b ∷ q) same =
    let parts : (same_step a b ≡ true) × (same_path p q ≡ true) = both_hold (same_step a b) (same_path p q) same in
    ap (λ s. s ∷ p) (same_steps a b parts.0) ∙ ap (λ r. b ∷ r) (same_paths p q parts.1)

-- the steps that lead on, put before the path, are the other path
abbrev Leads : Path → Path → Option Path → Type 0
Leads p other None = Unit {0}
Leads p other (Some steps) = steps ++ p ≡ other

leads_whole : (p other : Path) (b : Bool) (o : Option Path) → (b ≡ true → other ≡ p) → Leads p other o → Leads p other (cond b (Some []) o)
leads_whole p other true o same leads = sym (same refl)
leads_whole p other false o same leads = leads

leads_longer : (p outer : Path) (s : Step) (o : Option Path) → Leads p outer o → Leads p (s ∷ outer) (option_map (λ steps. s ∷ steps) o)
leads_longer p outer s None leads = tt
leads_longer p outer s (Some steps) leads = ap (λ r. s ∷ r) leads

leads : (p other : Path) → Leads p other (onward p other)
leads p [] = leads_whole p [] (same_path [] p) None (same_paths [] p) tt
leads p (s ∷ outer) = leads_whole p (s ∷ outer) (same_path (s ∷ outer) p) (option_map (λ steps. s ∷ steps) (onward p outer)) (same_paths (s ∷ outer) p) (leads_longer p outer s (onward p outer) (leads p outer))

held_there : (held : Cells) (p other : Path) (old : Option Scalar) (o : Option Path) → Leads p other o → by_steps (cells_at held p) old o ≡ cond (is_some o) (held other) old
held_there held p other old None leads = refl
held_there held p other old (Some steps) leads = ap held leads

pub part_copied : (path : Path) (held : Cells) (f : Inner) → only_parts (reverse path) ≡ true → by_paths (placed (reverse path) (whole (cells_at held path)) f) ≡ with_cells_at path held (by_paths f)
part_copied path held f only =
    sym (whole_written path (cells_at held path) f only)
    ∙ same_at _ _ (λ other. held_there held path other (f (reverse other)) (onward path other) (leads path other))

-- ---- several parts

any_more : {A : Type 0} (p : A → Bool) (xs : List A) (x : A) → list_any p (xs ++ x ∷ []) ≡ (list_any p xs || p x)
any_more p [] x = or_false (p x)
  where
    or_false : (b : Bool) → (b || false) ≡ b
    or_false true = refl
    or_false false = refl
any_more p (y ∷ xs) x = ap (λ b. p y || b) (any_more p xs x) ∙ or_again (p y) (list_any p xs) (p x)
  where
    or_again : (a b c : Bool) → (a || (b || c)) ≡ ((a || b) || c)
    or_again true b c = refl
    or_again false b c = refl

either_way : {A : Type 0} (a b : Bool) (x y : A) → cond b x (cond a x y) ≡ cond (a || b) x y
either_way true true x y = refl
either_way true false x y = refl
either_way false true x y = refl
either_way false false x y = refl

pub one_more_filled : (parts : List PlainPart) (x : PlainPart) (z held : Cells) → with_cells_at x.path held (cells_filled parts z held) ≡ cells_filled (parts ++ x ∷ []) z held
one_more_filled parts x z held =
    same_at _ _ (λ path.
    either_way (list_any (λ (y : PlainPart). is_some (onward y.path path)) parts) (is_some (onward x.path path)) (held path) (z path)
    ∙ ap (λ b. cond b (held path) (z path)) (sym (any_more (λ (y : PlainPart). is_some (onward y.path path)) parts x)))

only_numbers : (numbers : List ℕ) → only_parts (map part numbers) ≡ true
only_numbers [] = refl
only_numbers (n ∷ numbers) = only_numbers numbers

pub only_path : (numbers : List ℕ) → only_parts (reverse (path_from numbers)) ≡ true
only_path numbers = ap only_parts (reverse-reverse (map part numbers)) ∙ only_numbers numbers

reversed_steps : (steps : List Step) (path : Path) → reverse steps ≡ path → steps ≡ reverse path
reversed_steps steps path same = sym (reverse-reverse steps) ∙ ap reverse same

-- what is written along a path of numbers
pub copied_along : (numbers : List ℕ) (steps : List Step) (held : Cells) (v : Value) (f new : Inner) → reverse steps ≡ path_from numbers → v ≡ whole (cells_at held (reverse steps)) → new ≡ placed steps v f → by_paths new ≡ with_cells_at (path_from numbers) held (by_paths f)
copied_along numbers steps held v f new same value wrote =
    ap by_paths wrote
    ∙ ap (λ w. by_paths (placed steps w f)) (value ∙ ap (λ p. whole (cells_at held p)) same)
    ∙ ap (λ s. by_paths (placed s (whole (cells_at held (path_from numbers))) f)) (reversed_steps steps (path_from numbers) same)
    ∙ part_copied (path_from numbers) held f (only_path numbers)

pub scalar_along : (numbers : List ℕ) (steps : List Step) (v : Scalar) (f new : Inner) → reverse steps ≡ path_from numbers → new ≡ placed steps (scalar v) f → by_paths new ≡ with_scalar_at (path_from numbers) v (by_paths f)
scalar_along numbers steps v f new same wrote =
    ap by_paths wrote
    ∙ ap (λ s. by_paths (placed s (scalar v) f)) (reversed_steps steps (path_from numbers) same)
    ∙ sym (scalar_written (path_from numbers) v f (only_path numbers))
