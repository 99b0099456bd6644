-- What a name may stand for, one after the other: the first that is there counts.
use Rattle.std.proofs.Common.{◌≡◌, ℕ, Bool, true, false, not, List, ◌∷◌, refl, sym, ap₂, ◌∙◌}
use Rattle.std.specs.Prelude.{◌&&◌, ◌||◌, if◌then◌else◌}
use Rattle.std.proofs.lemmas.Bool.{false≢true}
use Rattle.cond_formula.specs.Conditions.{value, condition_of}
use Rattle.conditional.specs.Entries.{seen, entries_of, first}
use Rattle.conditional.specs.declared.entries.Guarded.{Guarded}
use Rattle.type_tables.specs.Tables.{FileName}
use Rattle.type_tables.specs.Forms.{file_name_form}
use Rattle.type_tables.specs.declared.entries.FileName as code
use Rattle.name_declarations.specs.Conflicts.{conflicting}

-- one of them more: it is there or not, where the condition that is left is true or not
pub one_more : (conflicts : FileName → Bool) (before left there : Bool) (visible : FileName) (rest : List FileName)
    → ((before || ((left && there) && conflicts visible)) || ((left && not there) && conflicting conflicts (first rest)))
    ≡ (before || (left && conflicting conflicts (first (if there then visible ∷ rest else rest))))
one_more conflicts true left there visible rest = refl
one_more conflicts false false there visible rest = refl
one_more conflicts false true true visible rest = or_false (conflicts visible)
  where
    or_false : (b : Bool) → (b || false) ≡ b
    or_false true = refl
    or_false false = refl
one_more conflicts false true false visible rest = refl

module _ (on : ℕ → Bool) (conflicts : FileName → Bool) (x : Guarded code.FileName) (xs : List (Guarded code.FileName)) where
  pub more_conflict : (before left after left_now whole : Bool)
      → after ≡ (before || ((left && value on (condition_of x.when)) && conflicts (file_name_form x.what))) → left_now ≡ (left && not (value on (condition_of x.when)))
      → (before || (left && conflicting conflicts (first (seen on (entries_of file_name_form (x ∷ xs)))))) ≡ whole
      → (after || (left_now && conflicting conflicts (first (seen on (entries_of file_name_form xs))))) ≡ whole
  more_conflict before left after left_now whole a l e =
      ap₂ (λ b c. b || (c && conflicting conflicts (first (seen on (entries_of file_name_form xs))))) a l
      ∙ one_more conflicts before left (value on (condition_of x.when)) (file_name_form x.what) (seen on (entries_of file_name_form xs)) ∙ e

-- what may not be: nothing conflicts there
pub not_here : (left there conflicts : Bool) → (left && there) ≡ false → false ≡ ((left && there) && conflicts)
not_here left there conflicts h = by (left && there) h
  where
    by : (b : Bool) → b ≡ false → false ≡ (b && conflicts)
    by true h = absurd (false≢true (sym h))
    by false h = refl

pub none_more : (before left : Bool) → (before || (left && false)) ≡ before
none_more true left = refl
none_more false true = refl
none_more false false = refl
