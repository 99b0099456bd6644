-- The declarations of members, part by part of a list.
use Rattle.std.proofs.Common.{arith, ◌≡◌, ℕ, ◌+◌, ◌<◌, ◌≤◌, Bool, true, false, ◌&&◌, List, [], ◌∷◌, ◌++◌, length, get_or, drop, append-nil, append_assoc, refl, sym, ap, ◌∙◌}
use Rattle.std.specs.Prelude.{if◌then◌else◌}
use Rattle.std.proofs.lemmas.List.{drop_all, map-append}
use Rattle.conditional.specs.Entries.{seen, under}
use Rattle.conditional.proofs.ListLaws.{item_of, seen-append}
use Rattle.c_tree.specs.Trees.{PlainTree, PlainTrees, none}
use Rattle.choice_variants.specs.declared.parts.Part.{Part}
use Rattle.choice_variants.specs.declared.parts.Variant.{Variant}
use Rattle.choice_variants.specs.Variants.{part_at, before, shown}
use Rattle.declarator_lists.specs.declared.items.ListEntry.{ListEntry}
use Rattle.declarator_lists.specs.Entries.{entry_at, entries_at}
use Rattle.cond_structs.specs.Walks.{MemberParts, declaration_in, parts_in, declarations_in}
use Rattle.cond_structs.specs.declared.listing.MemberDeclaration.{MemberDeclaration}
use Rattle.cond_structs.specs.Listing.{all_in, declaration_at, declarations_at}

pub nothing_more : {A : Type 0} (k : Bool) (xs : List A) → xs ≡ xs ++ under k []
nothing_more true xs = sym (append-nil xs)
nothing_more false xs = sym (append-nil xs)

-- ---- variants

parts_step : (k t : Bool) (parts : PlainTrees) (rest : List PlainTrees) (so_far new all : List MemberParts) → so_far ++ under k (all_in (if t then parts ∷ rest else rest)) ≡ all
    → new ≡ so_far ++ under (k && t) (declaration_in parts) → new ++ under k (all_in rest) ≡ all
parts_step true true parts rest so_far new all e n = ap (λ l. l ++ all_in rest) n ∙ append_assoc so_far (declaration_in parts) (all_in rest) ∙ e
parts_step true false parts rest so_far new all e n = ap (λ l. l ++ all_in rest) (n ∙ append-nil so_far) ∙ e
parts_step false t parts rest so_far new all e n = ap (λ l. l ++ []) (n ∙ append-nil so_far) ∙ e

pub variant_step : (on : ℕ → Bool) (k : Bool) (variants : List Variant) (i : ℕ) (v : Variant) (so_far new all : List MemberParts) → i < length variants → v ≡ get_or variants i v
    → so_far ++ under k (all_in (seen on (shown on (drop i variants)))) ≡ all
    → new ≡ so_far ++ under (k && Rattle.cond_formula.specs.Conditions.value on (Rattle.cond_formula.specs.Conditions.condition_of v.when)) (declaration_in (before on v.parts.items none))
    → new ++ under k (all_in (seen on (shown on (drop (i + 1) variants)))) ≡ all
variant_step on k variants i v so_far new all less is e n =
    parts_step k _ (before on v.parts.items none) (seen on (shown on (drop (i + 1) variants))) so_far new all
    (ap (λ l. so_far ++ under k (all_in (seen on (shown on l)))) (sym (item_of variants v i less is)) ∙ e) n

pub variants_end : (on : ℕ → Bool) (k : Bool) (variants : List Variant) (i : ℕ) (now all : List MemberParts) → length variants ≤ i
    → now ++ under k (all_in (seen on (shown on (drop i variants)))) ≡ all → now ≡ all
variants_end on k variants i now all past e =
    nothing_more k now ∙ ap (λ l. now ++ under k (all_in (seen on (shown on l)))) (sym (drop_all i variants past)) ∙ e

-- the parts of a variant that is a declaration
pub three_parts : (on : ℕ → Bool) (parts : List Part) (a b : Part) → length parts ≡ 3 → a ≡ get_or parts 0 a → b ≡ get_or parts 1 b
    → declaration_in (before on parts none) ≡ record { words = part_at on a; list = part_at on b } ∷ []
three_parts on [] a b e f g = absurd (omega (arith, e))
three_parts on (x ∷ []) a b e f g = absurd (omega (arith, e))
three_parts on (x ∷ y ∷ []) a b e f g = absurd (omega (arith, e))
three_parts on (x ∷ y ∷ z ∷ []) a b e f g = ap (λ p. record { words = part_at on p; list = part_at on y } ∷ []) (sym f) ∙ ap (λ p. record { words = part_at on a; list = part_at on p } ∷ []) (sym g)
three_parts on (x ∷ y ∷ z ∷ w ∷ rest) a b e f g = absurd (omega (arith, e))

pub other_parts : (on : ℕ → Bool) (parts : List Part) → (length parts ≡ 3 → ⊥) → declaration_in (before on parts none) ≡ []
other_parts on [] h = refl
other_parts on (x ∷ []) h = refl
other_parts on (x ∷ y ∷ []) h = refl
other_parts on (x ∷ y ∷ z ∷ []) h = absurd (h refl)
other_parts on (x ∷ y ∷ z ∷ w ∷ rest) h = refl

-- ---- entries

trees_step : (t : Bool) (tree : PlainTree) (rest : List PlainTree) (so_far new all : List MemberParts) → so_far ++ declarations_in (if t then tree ∷ rest else rest) ≡ all
    → new ≡ so_far ++ under t (parts_in tree) → new ++ declarations_in rest ≡ all
trees_step true tree rest so_far new all e n = ap (λ l. l ++ declarations_in rest) n ∙ append_assoc so_far (parts_in tree) (declarations_in rest) ∙ e
trees_step false tree rest so_far new all e n = ap (λ l. l ++ declarations_in rest) (n ∙ append-nil so_far) ∙ e

pub entry_step : (on : ℕ → Bool) (list : List ListEntry) (i : ℕ) (x : ListEntry) (so_far new all : List MemberParts) → i < length list → x ≡ get_or list i x
    → so_far ++ declarations_in (seen on (entries_at on (drop i list))) ≡ all
    → new ≡ so_far ++ under (Rattle.cond_formula.specs.Conditions.value on (entry_at on x).when) (parts_in (entry_at on x).what)
    → new ++ declarations_in (seen on (entries_at on (drop (i + 1) list))) ≡ all
entry_step on list i x so_far new all less is e n =
    trees_step _ (entry_at on x).what (seen on (entries_at on (drop (i + 1) list))) so_far new all (ap (λ l. so_far ++ declarations_in (seen on (entries_at on l))) (sym (item_of list x i less is)) ∙ e) n

pub entries_end : (on : ℕ → Bool) (list : List ListEntry) (i : ℕ) (now all : List MemberParts) → length list ≤ i
    → now ++ declarations_in (seen on (entries_at on (drop i list))) ≡ all → now ≡ all
entries_end on list i now all past e = sym (append-nil now) ∙ ap (λ l. now ++ declarations_in (seen on (entries_at on l))) (sym (drop_all i list past)) ∙ e

-- ---- one declaration more

pub pushed : (on : ℕ → Bool) (old new : List MemberDeclaration) (d : MemberDeclaration) → new ≡ old ++ d ∷ []
    → seen on (declarations_at on new) ≡ seen on (declarations_at on old) ++ under (Rattle.cond_formula.specs.Conditions.value on (declaration_at on d).when) ((declaration_at on d).what ∷ [])
pushed on old new d is =
    ap (λ l. seen on (declarations_at on l)) is ∙ ap (seen on) (map-append (declaration_at on) old (d ∷ [])) ∙ seen-append on (declarations_at on old) (declaration_at on d ∷ [])
    ∙ ap (λ l. seen on (declarations_at on old) ++ l) (one _ (declaration_at on d).what)
  where
    one : (t : Bool) (what : MemberParts) → (if t then what ∷ [] else []) ≡ under t (what ∷ [])
    one true what = refl
    one false what = refl
