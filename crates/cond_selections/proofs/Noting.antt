-- Selections that are noted one behind the other.
use Rattle.std.proofs.Common.{◌≡◌, ℕ, ◌+◌, ◌<◌, ◌≤◌, drop, length, get_or, Bool, true, false, not, ◌&&◌, ◌||◌, List, [], ◌∷◌, ◌++◌, Option, Some, None, IsTrue, refl, sym, ap, ◌∙◌}
use Rattle.std.specs.Prelude.{if◌then◌else◌}
use Rattle.std.proofs.lemmas.List.{append_assoc, append-nil, drop_all}
use Rattle.c_text.specs.Token.{PlainToken}
use Rattle.choice_trees.specs.Leaves.{Leaf}
use Rattle.cond_formula.specs.Conditions.{condition_of, value}
use Rattle.conditional.specs.declared.entries.Guarded.{Guarded}
use Rattle.conditional.specs.declared.outcomes.Outcomes.{Outcomes}
use Rattle.conditional.specs.Entries.{Entry, seen, listed, alternatives, entries_of, some_holds, under, first}
use Rattle.conditional.proofs.ListLaws.{item_of}
use Rattle.cond_typing.proofs.VariantsPlaced.{seen_first}
use Rattle.operand_rules.specs.declared.operands.Refused.{Refused}
use Rattle.operand_rules.specs.PlainOperandTypes.{reason}
use Rattle.cond_selections.specs.declared.entries.Structure.{Structure}
use Rattle.bindings.specs.Bindings.{is_name}
use Rattle.selections.specs.Selections.{structure_named, with_identifier}
use Rattle.member_uses.specs.Uses.{Use, using}
use Rattle.cond_selections.specs.Selected.{structure_number, identifiers}
use Rattle.cond_selections.specs.Progress.{ShowsStructure, one_selection, Logs}

-- of structs the first that is there is noted
pub first_noted :
    (left w : Bool) (name : PlainToken) (what : ℕ) (rest : List ℕ) (log new : List Use) → new ≡ log ++ under (left && w) (one_selection name (Some what))
    → new ++ under (left && not w) (one_selection name (first rest)) ≡ log ++ under left (one_selection name (first (if w then what ∷ rest else rest)))
first_noted true true name what rest log new is = append-nil new ∙ is
first_noted true false name what rest log new is = ap (λ l. l ++ one_selection name (first rest)) (is ∙ append-nil log)
first_noted false w name what rest log new is = append-nil new ∙ is

module _ (on : ℕ → Bool) (name : PlainToken) (xs : List (Guarded Structure)) where
  -- what is left to be noted from one place on
  abbrev pub left_to_note : Bool → ℕ → List Use
  left_to_note left i = under left (one_selection name (first (seen on (entries_of structure_number (drop i xs)))))

  pub note_next : (i : ℕ) (x : Guarded Structure) (left here later : Bool) (log new : List Use) → i < length xs → x ≡ get_or xs i x
      → here ≡ (left && value on (condition_of x.when)) → later ≡ (left && not (value on (condition_of x.when))) → new ≡ log ++ under here (one_selection name (Some x.what.number))
      → new ++ left_to_note later (i + 1) ≡ log ++ left_to_note left i
  note_next i x left here later log new within is here_is later_is new_is =
      ap (λ l. new ++ left_to_note l (i + 1)) later_is
      ∙ (first_noted left (value on (condition_of x.when)) name x.what.number (seen on (entries_of structure_number (drop (i + 1) xs))) log new
      (new_is ∙ ap (λ h. log ++ under h (one_selection name (Some x.what.number))) here_is)
      ∙ ap (λ rest. log ++ under left (one_selection name (first (seen on (entries_of structure_number rest))))) (sym (item_of xs x i within is)))

  pub noted_all : (i : ℕ) (left : Bool) (log : List Use) → length xs ≤ i → log ++ left_to_note left i ≡ log
  noted_all i left log past = ap (λ rest. log ++ under left (one_selection name (first (seen on (entries_of structure_number rest))))) (drop_all i xs past) ∙ none_left left
    where
      none_left : (b : Bool) → log ++ under b [] ≡ log
      none_left true = append-nil log
      none_left false = append-nil log

refused_next : (b some : Bool) (rest : List (Unit {0})) → (rest ≡ [] → some ≡ false) → (if b then tt ∷ rest else rest) ≡ [] → (b || some) ≡ false
refused_next true some rest next h = absurd cc
refused_next false some rest next h = next h

none_refused : (on : ℕ → Bool) (rs : List (Entry (Unit {0}))) → seen on rs ≡ [] → some_holds on rs ≡ false
none_refused on [] h = refl
none_refused on (r ∷ rs) h = refused_next (value on r.when) (some_holds on rs) (seen on rs) (none_refused on rs) h

some_next : (b some : Bool) (rest : List (Unit {0})) → (first rest ≡ Some tt → some ≡ true) → first (if b then tt ∷ rest else rest) ≡ Some tt → (b || some) ≡ true
some_next true some rest next h = refl
some_next false some rest next h = next h

some_refused : (on : ℕ → Bool) (rs : List (Entry (Unit {0}))) → first (seen on rs) ≡ Some tt → some_holds on rs ≡ true
some_refused on [] h = absurd cc
some_refused on (r ∷ rs) h = some_next (value on r.when) (some_holds on rs) (seen on rs) (some_refused on rs) h

where_fine : (t b : Bool) → b ≡ false → (t && not b) ≡ t
where_fine true true h = absurd cc
where_fine true false h = refl
where_fine false b h = refl

where_refused : (t b : Bool) → b ≡ true → (t && not b) ≡ false
where_refused true true h = refl
where_refused true false h = absurd cc
where_refused false b h = refl

nothing_under : (t : Bool) → ◌≡◌ {A = List Use} [] (under t [])
nothing_under true = refl
nothing_under false = refl

-- of what is shown the first that is there is the struct, and where there is none a refusal
first_shown : (on : ℕ → Bool) (t : Bool) (name : PlainToken) (owner : Option ℕ) (all : Outcomes Structure Refused) → ShowsStructure on owner all
    → under (t && not (some_holds on (listed reason all.refused))) (one_selection name (first (seen on (alternatives structure_number all.fine)))) ≡ under t (one_selection name owner)
first_shown on t name (Some n) all shows =
    ap (λ b. under b (one_selection name (first (seen on (alternatives structure_number all.fine))))) (where_fine t (some_holds on (listed reason all.refused)) (none_refused on (listed reason all.refused) shows.shown.not_refused))
    ∙ ap (λ o. under t (one_selection name o)) (seen_first on (Some n) (alternatives structure_number all.fine) (record { held = shows.shown.held refl; carry = shows.shown.carry }))
first_shown on t name None all shows =
    ap (λ b. under b (one_selection name (first (seen on (alternatives structure_number all.fine))))) (where_refused t (some_holds on (listed reason all.refused)) (some_refused on (listed reason all.refused) (shows.shown.held refl)))
    ∙ nothing_under t

pub shown_noted : (on : ℕ → Bool) (t elsewhere here : Bool) (name : PlainToken) (owner : Option ℕ) (all : Outcomes Structure Refused) (old new : List Use) → ShowsStructure on owner all
    → elsewhere ≡ some_holds on (listed reason all.refused) → here ≡ (t && not elsewhere) → new ≡ old ++ under here (one_selection name (first (seen on (alternatives structure_number all.fine))))
    → new ≡ old ++ under t (one_selection name owner)
shown_noted on t elsewhere here name owner all old new shows elsewhere_is here_is new_is =
    new_is
    ∙ (ap (λ h. old ++ under h (one_selection name (first (seen on (alternatives structure_number all.fine))))) (here_is ∙ ap (λ r. t && not r) elsewhere_is)
    ∙ ap (λ l. old ++ l) (first_shown on t name owner all shows))

-- ---- an identifier

named_here :
    (t : Bool) (name : PlainToken) (owner : Option ℕ) (names : List PlainToken) (rest : List (Option ℕ)) (old new : List Use) → new ≡ old ++ under t (one_selection name owner)
    → new ++ using names rest ≡ old ++ using (name ∷ names) (structure_named owner t ∷ rest)
named_here true name None names rest old new is = ap (λ l. l ++ using names rest) (is ∙ append-nil old)
named_here false name None names rest old new is = ap (λ l. l ++ using names rest) (is ∙ append-nil old)
named_here false name (Some n) names rest old new is = ap (λ l. l ++ using names rest) (is ∙ append-nil old)
named_here true name (Some n) names rest old new is =
    ap (λ l. l ++ using names rest) is ∙ append_assoc old (record { token = name; structure = n } ∷ []) (using names rest)

abbrev pub behind_token : ℕ → PlainToken → List Leaf → List Leaf
behind_token number token behind = record { number = Some number; text = token } ∷ behind

-- an identifier that is one
pub name_noted :
    (b t : Bool) (number : ℕ) (token : PlainToken) (owner : Option ℕ) (old new : List Use) → is_name token ≡ true → new ≡ old ++ under (b && t) (one_selection token owner)
    → Logs b (behind_token number token) (with_identifier token (structure_named owner t)) old new
name_noted b t number token owner old new named is = record { here = here b is; elsewhere = elsewhere b is }
  where
    as_name : (behind : List Leaf) (rest : List (Option ℕ))
        → using (token ∷ identifiers behind) (structure_named owner t ∷ rest) ≡ using (identifiers (behind_token number token behind)) (with_identifier token (structure_named owner t) rest)
    as_name behind rest = ap (λ n. using (if n then token ∷ identifiers behind else identifiers behind) (if n then structure_named owner t ∷ rest else rest)) (sym named)

    here : (b : Bool) → new ≡ old ++ under (b && t) (one_selection token owner) → IsTrue b → (behind : List Leaf) (rest : List (Option ℕ))
        → new ++ using (identifiers behind) rest ≡ old ++ using (identifiers (behind_token number token behind)) (with_identifier token (structure_named owner t) rest)
    here true is h behind rest = named_here t token owner (identifiers behind) rest old new is ∙ ap (λ l. old ++ l) (as_name behind rest)
    here false is h behind rest = absurd cc

    elsewhere : (b : Bool) → new ≡ old ++ under (b && t) (one_selection token owner) → b ≡ false → new ≡ old
    elsewhere true is h = absurd cc
    elsewhere false is h = is ∙ append-nil old

-- a token that is none
pub none_noted :
    (b : Bool) (number : ℕ) (token : PlainToken) (o : Option ℕ) (old : List Use) → is_name token ≡ false
    → Logs b (behind_token number token) (with_identifier token o) old old
none_noted b number token o old unnamed = record {
  here = λ h behind rest. ap (λ n. old ++ using (if n then token ∷ identifiers behind else identifiers behind) (if n then o ∷ rest else rest)) (sym unnamed);
  elsewhere = λ h. refl;
}

-- ---- with nothing behind

pub alone :
    (b : Bool) (leaves : List Leaf → List Leaf) (told : List (Option ℕ) → List (Option ℕ)) (old new : List Use) → Logs b leaves told old new
    → new ≡ old ++ under b (using (identifiers (leaves [])) (told []))
alone true leaves told old new logs = sym (append-nil new) ∙ logs.here refl [] []
alone false leaves told old new logs = logs.elsewhere refl ∙ sym (append-nil old)
