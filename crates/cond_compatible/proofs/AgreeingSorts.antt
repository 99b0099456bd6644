-- Sorts of names agree where their types are compatible.
use Rattle.std.proofs.Common.{◌≡◌, ℕ, Bool, List, [], ◌∷◌, refl, sym, ap, subst}
use Rattle.std.specs.Prelude.{◌↔◌, map, Some, slice_get, IsTrue}
use Rattle.std.specs.List.{AllZip}
use Rattle.std.proofs.lemmas.Bool.{false≢true}
use Rattle.c_types.specs.Types.{PlainType}
use Rattle.c_types.specs.Tags.{PlainTag}
use Rattle.c_types.specs.Compatible.{Compatible}
use Rattle.core_meaning.specs.Entities as scopes
use Rattle.core_meaning.specs.Entities.{Struct, Signature, variable, function, tags_of}
use Rattle.core_meaning.specs.Linking.{TypesAgree, SortsAgree}
use Rattle.operand_types.specs.OperandTypes.{renumbered}
use Rattle.type_tables.specs.Tables as plain
use Rattle.type_tables.specs.Tables.{object, declared_function, sort_in}
use Rattle.type_tables.specs.Seen.{seen_tables}
use Rattle.type_tables.specs.declared.tables.Tables.{Tables}
use Rattle.type_tables.specs.Follows.{AreThere, SortIsThere, StructFollows, SortFollows, renumbered_signature}
use Rattle.cond_compatible.specs.Depths.{types_agree, parameters_agree, sorts_agree}
use Rattle.cond_compatible.specs.SeenTags.{tags_seen}
use Rattle.cond_compatible.specs.SeenSorts.{SeenSortsAgree}
use Rattle.cond_compatible.proofs.AgreeLaws.{both_true, left_true, right_true}
use Rattle.cond_compatible.proofs.Renumbered.{stay_compatible}

module _ (alike : ℕ → ℕ → Bool) (tags : List PlainTag) (told : (a b : PlainType) → IsTrue (types_agree alike a b) ↔ Compatible tags tags a b) where
  parameters_told : (as_ bs : List PlainType) → IsTrue (parameters_agree alike as_ bs) → AllZip (TypesAgree tags) as_ bs
  parameters_told [] [] h = tt
  parameters_told [] (b ∷ bs) h = absurd (false≢true h)
  parameters_told (a ∷ as_) [] h = absurd (false≢true h)
  parameters_told (a ∷ as_) (b ∷ bs) h = (
    (told a b).0 (left_true (types_agree alike a b) (parameters_agree alike as_ bs) h),
    parameters_told as_ bs (right_true (types_agree alike a b) (parameters_agree alike as_ bs) h),
  )

  parameters_tell : (as_ bs : List PlainType) → AllZip (TypesAgree tags) as_ bs → IsTrue (parameters_agree alike as_ bs)
  parameters_tell [] [] h = refl
  parameters_tell [] (b ∷ bs) h = absurd h
  parameters_tell (a ∷ as_) [] h = absurd h
  parameters_tell (a ∷ as_) (b ∷ bs) h =
      both_true (types_agree alike a b) (parameters_agree alike as_ bs) ((told a b).1 h.0) (parameters_tell as_ bs h.1)

  pub sorts_told : (a b : scopes.Sort) → IsTrue (sorts_agree alike a b) ↔ SortsAgree tags a b
  sorts_told (variable a) (variable b) = told a b
  sorts_told (variable a) (function g) = (λ h. absurd (false≢true h), λ h. absurd h)
  sorts_told (function f) (variable b) = (λ h. absurd (false≢true h), λ h. absurd h)
  sorts_told (function f) (function g) = (
    λ h. (
      (told f.result g.result).0 (left_true (types_agree alike f.result g.result) (parameters_agree alike f.parameters g.parameters) h),
      parameters_told f.parameters g.parameters (right_true (types_agree alike f.result g.result) (parameters_agree alike f.parameters g.parameters) h),
    ),
    λ h. both_true (types_agree alike f.result g.result) (parameters_agree alike f.parameters g.parameters)
        ((told f.result g.result).1 h.0) (parameters_tell f.parameters g.parameters h.1),
  )

-- ---- where structs have other numbers

module _ (on : ℕ → Bool) (tables : Tables) (structs : List Struct) (by : ℕ → ℕ)
    (follow : (n : ℕ) (s : Struct) → slice_get structs n ≡ Some s → StructFollows by (seen_tables on tables) structs n s) where
  abbrev old_agree : List PlainType → List PlainType → Type 0
  old_agree as_ bs = AllZip (TypesAgree (tags_of structs)) as_ bs

  abbrev new_agree : List PlainType → List PlainType → Type 0
  new_agree as_ bs = AllZip (TypesAgree (tags_seen on tables)) as_ bs

  parameters_stay : (as_ bs : List PlainType) → AreThere structs as_ → AreThere structs bs → old_agree as_ bs ↔ new_agree (map (renumbered by) as_) (map (renumbered by) bs)
  parameters_stay [] [] p q = (λ h. tt, λ h. tt)
  parameters_stay [] (b ∷ bs) p q = (λ h. absurd h, λ h. absurd h)
  parameters_stay (a ∷ as_) [] p q = (λ h. absurd h, λ h. absurd h)
  parameters_stay (a ∷ as_) (b ∷ bs) p q =
      let one = stay_compatible on tables structs by follow a b p.0 q.0 in
      let rest = parameters_stay as_ bs p.1 q.1 in
      (λ h. (one.0 h.0, rest.0 h.1), λ h. (one.1 h.0, rest.1 h.1))

  functions_stay : (f g : Signature) → SortIsThere structs (function f) → SortIsThere structs (function g)
      → SortsAgree (tags_of structs) (function f) (function g)
      ↔ SortsAgree (tags_seen on tables) (function (renumbered_signature by f)) (function (renumbered_signature by g))
  functions_stay f g p q =
      let one = stay_compatible on tables structs by follow f.result g.result p.0 q.0 in
      let rest = parameters_stay f.parameters g.parameters p.1 q.1 in
      (λ h. (one.0 h.0, rest.0 h.1), λ h. (one.1 h.0, rest.1 h.1))

  abbrev pub seen_sort : plain.Sort → scopes.Sort
  seen_sort x = sort_in (seen_tables on tables).signatures x

  abbrev pub renumbered_sort : scopes.Sort → scopes.Sort
  renumbered_sort (variable ty) = variable (renumbered by ty)
  renumbered_sort (function f) = function (renumbered_signature by f)

  pub sort_followed : (a : scopes.Sort) (x : plain.Sort) → SortFollows by (seen_tables on tables).signatures a x → seen_sort x ≡ renumbered_sort a
  sort_followed (variable ty) (object other) h = ap variable h
  sort_followed (variable ty) (declared_function number) h = absurd h
  sort_followed (function f) (object other) h = absurd h
  sort_followed (function f) (declared_function number) h = ap function h

  pub renumbered_stay : (a b : scopes.Sort) → SortIsThere structs a → SortIsThere structs b
      → SortsAgree (tags_of structs) a b ↔ SortsAgree (tags_seen on tables) (renumbered_sort a) (renumbered_sort b)
  renumbered_stay (variable a) (variable b) p q = stay_compatible on tables structs by follow a b p q
  renumbered_stay (variable a) (function g) p q = (λ h. absurd h, λ h. absurd h)
  renumbered_stay (function f) (variable b) p q = (λ h. absurd h, λ h. absurd h)
  renumbered_stay (function f) (function g) p q = functions_stay f g p q

  pub sorts_stay : (a b : scopes.Sort) (x y : plain.Sort) → SortIsThere structs a → SortIsThere structs b
      → SortFollows by (seen_tables on tables).signatures a x → SortFollows by (seen_tables on tables).signatures b y
      → SortsAgree (tags_of structs) a b ↔ SeenSortsAgree on tables x y
  sorts_stay a b x y p q f g =
      let stay = renumbered_stay a b p q in
      let first = sort_followed a x f in
      let second = sort_followed b y g in (
        λ h. subst (λ s. SortsAgree (tags_seen on tables) s (seen_sort y)) (sym first)
            (subst (λ s. SortsAgree (tags_seen on tables) (renumbered_sort a) s) (sym second) (stay.0 h)),
        λ h. stay.1 (subst (λ s. SortsAgree (tags_seen on tables) (renumbered_sort a) s) second
            (subst (λ s. SortsAgree (tags_seen on tables) s (seen_sort y)) first h)),
      )
