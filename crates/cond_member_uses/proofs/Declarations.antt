-- A declaration is noted by its words and its list of declarators.
use Rattle.std.proofs.Common.{◌≡◌, ℕ, Bool, false, List, [], ◌∷◌, length, get_or, refl, subst, arith}
use Rattle.c_tree.specs.declared.kinds.Kind.TheVariants as k
use Rattle.c_tree.specs.Trees.{PlainTree, PlainTrees, node, none, more}
use Rattle.choice_variants.specs.declared.parts.Part.{Part}
use Rattle.choice_variants.specs.declared.parts.Part.TheVariants.{NoStatement}
use Rattle.choice_variants.specs.Variants.{part_at, before}
use Rattle.cond_statements.specs.Ready.{IsDerived}
use Rattle.conditional_steps.specs.Here.{DoneHere, Unchanged}
use Rattle.cond_locals.proofs.Parts.{no_words, no_declarators, three_derived}
use Rattle.cond_member_uses.specs.Noted.{Noted, NotesLocals, Where}

pub unchanged : (here : Bool) (Does : Noted → Noted → Type 0) (a : Noted) → Does a a → Where here Does a a
unchanged here Does a d = record { elsewhere = λ h. refl; does = λ h. d }

-- what isn't derived isn't noted
underived : (parts : PlainTrees) (a : Noted) → (IsDerived (node k.LocalDeclaration parts) → ⊥) → NotesLocals parts a a
underived parts a never = record { names = refl; notes = λ by scope slots locals bindings names pieces derived follows judged. absurd (never derived) }

module _ (on : ℕ → Bool) (here : Bool) (a : Noted) where
  pub unnoted_words : (p : Part) (rest : PlainTrees) → p ≡ NoStatement → Where here (NotesLocals (more (part_at on p) rest)) a a
  unnoted_words p rest is =
      unchanged here (NotesLocals (more (part_at on p) rest)) a
      (underived (more (part_at on p) rest) a (λ derived. no_words on rest (subst (λ (q : Part). IsDerived (node k.LocalDeclaration (more (part_at on q) rest))) is derived)))

  pub unnoted_list : (words : PlainTree) (p : Part) (rest : PlainTrees) → p ≡ NoStatement → Where here (NotesLocals (more words (more (part_at on p) rest))) a a
  unnoted_list words p rest is =
      unchanged here (NotesLocals (more words (more (part_at on p) rest))) a
      (underived (more words (more (part_at on p) rest)) a
      (λ derived. no_declarators on words rest (subst (λ (q : Part). IsDerived (node k.LocalDeclaration (more words (more (part_at on q) rest)))) is derived)))

  pub unnoted_parts : (parts : List Part) → (length parts ≡ 3 → ⊥) → Where here (NotesLocals (before on parts none)) a a
  unnoted_parts parts other = unchanged here (NotesLocals (before on parts none)) a (underived (before on parts none) a (λ derived. three_derived on parts derived other))

pub parts_noted :
    (on : ℕ → Bool) (parts : List Part) (words list : Part) (here : Bool) (a b : Noted) → length parts ≡ 3 → words ≡ get_or parts 0 words → list ≡ get_or parts 1 list
    → ((end : PlainTree) → Where here (NotesLocals (more (part_at on words) (more (part_at on list) (more end none)))) a b) → Where here (NotesLocals (before on parts none)) a b
parts_noted on [] words list here a b count is_words is_list does = absurd cc
parts_noted on (p ∷ []) words list here a b count is_words is_list does = absurd cc
parts_noted on (p ∷ q ∷ []) words list here a b count is_words is_list does = absurd cc
parts_noted on (p ∷ q ∷ r ∷ []) words list here a b count is_words is_list does =
    subst (λ (w : Part). Where here (NotesLocals (more (part_at on w) (more (part_at on q) (more (part_at on r) none)))) a b) is_words
    (subst (λ (l : Part). Where here (NotesLocals (more (part_at on words) (more (part_at on l) (more (part_at on r) none)))) a b) is_list (does (part_at on r)))
parts_noted on (p ∷ q ∷ r ∷ s ∷ parts) words list here a b count is_words is_list does = absurd (omega (arith, count))

-- ---- the variants of a declaration, of which one holds

abbrev pub Noting : PlainTrees → Noted → Noted → Bool → Type 0
Noting parts a b refused = NotesLocals parts a b

pub done_where : (here : Bool) (parts : PlainTrees) (a b : Noted) → Where here (NotesLocals parts) a b → DoneHere Unchanged here (Noting parts) a b false
done_where here parts a b x = record { elsewhere = λ h. (x.elsewhere h, refl); does = λ h. x.does h }

pub where_done : (here : Bool) (parts : PlainTrees) (a b : Noted) → DoneHere Unchanged here (Noting parts) a b false → Where here (NotesLocals parts) a b
where_done here parts a b x = record { elsewhere = λ h. (x.elsewhere h).0; does = λ h. x.does h }
