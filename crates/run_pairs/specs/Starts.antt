-- What two programs have in memory before `main` begins, where their texts are numbered in different orders.
use Rattle.std.specs.Prelude.{◌≡◌, ℕ, ◌+◌, ◌-◌, nat_lt, List, [], ◌∷◌, length, Option, Some, option_map, slice_get, if◌then◌else◌, ⊤}
use Rattle.core_meaning.specs.Program.{PlainConstantPart, PlainGlobal, PlainProgram}
use Rattle.run_pairs.specs.Correspondences.{Correspondence, RelatedScalars}

-- each global stands for the one with its number, and each text, whose object is numbered behind the globals, as given
abbrev pub first_objects_of : PlainProgram → (ℕ → Option ℕ) → Correspondence
first_objects_of p texts k =
    if nat_lt k (length p.globals) then Some k else option_map (λ j. length p.globals + j) (texts (k - length p.globals))

-- the same parts, with first values that stand for each other
abbrev pub AlikeConstantParts : Correspondence → List PlainConstantPart → List PlainConstantPart → Type 0
AlikeConstantParts c [] [] = ⊤
AlikeConstantParts c (x ∷ xs) (y ∷ ys) = (x.path ≡ y.path) × RelatedScalars c x.value y.value × AlikeConstantParts c xs ys
AlikeConstantParts c xs ys = ⊥

abbrev pub AlikeGlobals : Correspondence → List PlainGlobal → List PlainGlobal → Type 0
AlikeGlobals c [] [] = ⊤
AlikeGlobals c (g ∷ gs) (h ∷ hs) = (g.ty ≡ h.ty) × AlikeConstantParts c g.parts h.parts × AlikeGlobals c gs hs
AlikeGlobals c gs hs = ⊥

pub record AlikeStarts (p p' : PlainProgram) (texts : ℕ → Option ℕ) : Type 0 where
  pub globals : AlikeGlobals (first_objects_of p texts) p.globals p'.globals
  pub same_texts : (j k : ℕ) → texts j ≡ Some k →
      (text : List ℕ) × (slice_get p.literals j ≡ Some text) × (slice_get p'.literals k ≡ Some text)
  -- no two texts stand for one
  pub one : (i j k : ℕ) → texts i ≡ Some k → texts j ≡ Some k → i ≡ j
