-- What is made of variants, one after the other. In a configuration one of them is there.
use Rattle.std.proofs.Common.{◌≡◌, ℕ, ◌+◌, ◌<◌, ◌≤◌, Bool, true, false, List, [], ◌∷◌, ◌++◌, map, drop, length, get_or, sym, ap, ◌∙◌, subst, append_assoc, append-nil}
use Rattle.std.specs.Prelude.{if◌then◌else◌}
use Rattle.std.proofs.lemmas.List.{drop_all}
use Rattle.cond_formula.specs.Conditions.{condition_of, value}
use Rattle.c_tree.specs.Trees.{PlainTrees, none}
use Rattle.conditional.specs.Entries.{seen, under}
use Rattle.conditional.proofs.ListLaws.{item_of}
use Rattle.choice_variants.specs.declared.parts.Variant.{Variant}
use Rattle.choice_variants.specs.Variants.{before, shown}

module _ {P : Type 0} (make : PlainTrees → P) where
  made_next :
      (t : Bool) (what : PlainTrees) (rest : List PlainTrees) (so_far new all : List P) → so_far ++ map make (if t then what ∷ rest else rest) ≡ all
      → new ≡ so_far ++ under t (make what ∷ []) → new ++ map make rest ≡ all
  made_next true what rest so_far new all before_ is = ap (λ (l : List P). l ++ map make rest) is ∙ (append_assoc so_far (make what ∷ []) (map make rest) ∙ before_)
  made_next false what rest so_far new all before_ is = ap (λ (l : List P). l ++ map make rest) (is ∙ append-nil so_far) ∙ before_

  module _ (on : ℕ → Bool) (list : List Variant) where
    -- how far what is made of the variants has come
    abbrev pub MadeSoFar : ℕ → List P → Type 0
    MadeSoFar i so_far = so_far ++ map make (seen on (shown on (drop i list))) ≡ map make (seen on (shown on list))

    pub next_made :
        (i : ℕ) (x : Variant) (so_far new : List P) → i < length list → x ≡ get_or list i x
        → new ≡ so_far ++ under (value on (condition_of x.when)) (make (before on x.parts.items none) ∷ []) → MadeSoFar i so_far → MadeSoFar (i + 1) new
    next_made i x so_far new within is pushed before_ =
        made_next (value on (condition_of x.when)) (before on x.parts.items none) (seen on (shown on (drop (i + 1) list))) so_far new (map make (seen on (shown on list)))
        (subst (λ rest. so_far ++ map make (seen on (shown on rest)) ≡ map make (seen on (shown on list))) (item_of list x i within is) before_) pushed

    pub all_made : (i : ℕ) (so_far : List P) (trees : PlainTrees) → length list ≤ i → MadeSoFar i so_far → seen on (shown on list) ≡ trees ∷ [] → so_far ≡ make trees ∷ []
    all_made i so_far trees past before_ alone =
        sym (append-nil so_far)
        ∙ (ap (λ rest. so_far ++ map make (seen on (shown on rest))) (sym (drop_all i list past))
        ∙ (before_ ∙ ap (map make) alone))
