-- The bindings of a judgement among the names of a tree: each binding is one of a name, in the order of the text, and names may be passed over.
-- Where there are as many of both, none is passed over.
use Rattle.std.proofs.Common.{◌≡◌, ℕ, suc, ◌≤◌, true, false, List, [], ◌∷◌, ◌++◌, length, map, inl, inr, sym, ◌∙◌, arith}
use Rattle.std.specs.Prelude.{◌⊎◌, Option, Some, None}
use Rattle.std.specs.List.{AllZip}
use Rattle.std.proofs.lemmas.Bool.{false≢true}
use Rattle.core_meaning.specs.Checking.{Entity, local_entity, local_of_function, file_entity, struct_entity, member_entity, own_entity, Binding, numbered, numbered_binding}
use Rattle.core_meaning.specs.Entities.{Table}
use Rattle.bindings.specs.Visible.{NameSpace, ordinary, tags, members_of}

abbrev pub Spaces : Type 0
Spaces = List (Option NameSpace)

-- ---- what a name of a space declares

abbrev pub IsSlot : Entity → Type 0
IsSlot (local_entity slot) = Unit {0}
IsSlot (local_of_function f slot) = Unit {0}
IsSlot own_entity = Unit {0}
IsSlot other = ⊥

abbrev pub IsFileName : Entity → Type 0
IsFileName (file_entity name) = Unit {0}
IsFileName other = ⊥

abbrev pub IsStruct : Entity → Type 0
IsStruct (struct_entity n) = Unit {0}
IsStruct other = ⊥

abbrev pub IsMemberOf : Table ℕ → List ℕ → Entity → Type 0
IsMemberOf known struct (member_entity n m) = known struct ≡ Some n
IsMemberOf known struct other = ⊥

-- where these tags are known
abbrev pub Declares : Table ℕ → Option NameSpace → Entity → Type 0
Declares known (Some ordinary) e = IsFileName e
Declares known (Some tags) e = IsStruct e
Declares known (Some (members_of struct)) e = IsMemberOf known struct e
Declares known None e = IsSlot e

abbrev pub Fits : Table ℕ → Option NameSpace → Binding → Type 0
Fits known space j = j.in_expression ≡ false → Declares known space j.entity

-- ---- bindings among names

abbrev pub Embeds : Table ℕ → Spaces → List Binding → Type 0
Embeds known spaces [] = Unit {0}
Embeds known [] (j ∷ js) = ⊥
Embeds known (s ∷ spaces) (j ∷ js) = (Fits known s j × Embeds known spaces js) ⊎ Embeds known spaces (j ∷ js)

pub embeds_past : (known : Table ℕ) (s : Option NameSpace) (spaces : Spaces) (js : List Binding) → Embeds known spaces js → Embeds known (s ∷ spaces) js
embeds_past known s spaces [] h = tt
embeds_past known s spaces (j ∷ js) h = inr h

pub embeds_behind : (known : Table ℕ) (before spaces : Spaces) (js : List Binding) → Embeds known spaces js → Embeds known (before ++ spaces) js
embeds_behind known [] spaces js h = h
embeds_behind known (s ∷ before) spaces js h = embeds_past known s (before ++ spaces) js (embeds_behind known before spaces js h)

pub embeds_both :
    (known : Table ℕ) (spaces others : Spaces) (js ks : List Binding) → Embeds known spaces js → Embeds known others ks → Embeds known (spaces ++ others) (js ++ ks)
embeds_both known spaces others [] ks f g = embeds_behind known spaces others ks g
embeds_both known [] others (j ∷ js) ks f g = absurd f
embeds_both known (s ∷ spaces) others (j ∷ js) ks (inl f) g = inl (f.0, embeds_both known spaces others js ks f.1 g)
embeds_both known (s ∷ spaces) others (j ∷ js) ks (inr f) g = inr (embeds_both known spaces others (j ∷ js) ks f g)

pub embeds_before : (known : Table ℕ) (spaces behind : Spaces) (js : List Binding) → Embeds known spaces js → Embeds known (spaces ++ behind) js
embeds_before known spaces behind [] h = tt
embeds_before known [] behind (j ∷ js) h = absurd h
embeds_before known (s ∷ spaces) behind (j ∷ js) (inl h) = inl (h.0, embeds_before known spaces behind js h.1)
embeds_before known (s ∷ spaces) behind (j ∷ js) (inr h) = inr (embeds_before known spaces behind (j ∷ js) h)

-- ---- the bindings of a function

slot_numbered : (n : ℕ) (e : Entity) → IsSlot e → IsSlot (numbered n e)
slot_numbered n (local_entity slot) h = tt
slot_numbered n _ h = h

declares_numbered : (known : Table ℕ) (s : Option NameSpace) (n : ℕ) (e : Entity) → Declares known s e → Declares known s (numbered n e)
declares_numbered known (Some ordinary) n (file_entity name) h = h
declares_numbered known (Some ordinary) n _ h = absurd h
declares_numbered known (Some tags) n (struct_entity m) h = h
declares_numbered known (Some tags) n _ h = absurd h
declares_numbered known (Some (members_of struct)) n (member_entity m i) h = h
declares_numbered known (Some (members_of struct)) n _ h = absurd h
declares_numbered known None n e h = slot_numbered n e h

pub embeds_numbered : (known : Table ℕ) (n : ℕ) (spaces : Spaces) (js : List Binding) → Embeds known spaces js → Embeds known spaces (map (numbered_binding n) js)
embeds_numbered known n spaces [] h = tt
embeds_numbered known n [] (j ∷ js) h = absurd h
embeds_numbered known n (s ∷ spaces) (j ∷ js) (inl h) = inl ((λ e. declares_numbered known s n j.entity (h.0 e)), embeds_numbered known n spaces js h.1)
embeds_numbered known n (s ∷ spaces) (j ∷ js) (inr h) = inr (embeds_numbered known n spaces (j ∷ js) h)

-- ---- what expressions use

abbrev pub AllUsed : List Binding → Type 0
AllUsed [] = Unit {0}
AllUsed (j ∷ js) = (j.in_expression ≡ true) × AllUsed js

pub used_both : (js ks : List Binding) → AllUsed js → AllUsed ks → AllUsed (js ++ ks)
used_both [] ks f g = g
used_both (j ∷ js) ks f g = (f.0, used_both js ks f.1 g)

pub used_embed : (known : Table ℕ) (spaces : Spaces) (js : List Binding) → AllUsed js → length js ≤ length spaces → Embeds known spaces js
used_embed known spaces [] all short = tt
used_embed known [] (j ∷ js) all short = absurd (omega (arith, short))
used_embed known (s ∷ spaces) (j ∷ js) all short = inl ((λ e. absurd (false≢true (sym e ∙ all.0))), used_embed known spaces js all.1 (omega (arith, short)))

-- ---- one by one

embeds_short : (known : Table ℕ) (spaces : Spaces) (js : List Binding) → Embeds known spaces js → length js ≤ length spaces
embeds_short known spaces [] h = omega arith
embeds_short known [] (j ∷ js) h = absurd h
embeds_short known (s ∷ spaces) (j ∷ js) (inl h) = let short = embeds_short known spaces js h.1 in omega (arith, short)
embeds_short known (s ∷ spaces) (j ∷ js) (inr h) = let short : suc (length js) ≤ length spaces = embeds_short known spaces (j ∷ js) h in omega (arith, short)

pub embeds_each : (known : Table ℕ) (spaces : Spaces) (js : List Binding) → Embeds known spaces js → length spaces ≡ length js → AllZip (Fits known) spaces js
embeds_each known [] [] h same = tt
embeds_each known (s ∷ spaces) [] h same = absurd (omega (arith, same))
embeds_each known [] (j ∷ js) h same = absurd h
embeds_each known (s ∷ spaces) (j ∷ js) (inl h) same = (h.0, embeds_each known spaces js h.1 (omega (arith, same)))
embeds_each known (s ∷ spaces) (j ∷ js) (inr h) same =
    let short : suc (length js) ≤ length spaces = embeds_short known spaces (j ∷ js) h in absurd (omega (arith, short, same))
