-- What units add to where something is read.
use Rattle.std.proofs.Common.{◌≡◌, ℕ, Bool, true, false, ◌&&◌, ◌||◌, List, [], ◌∷◌, ◌++◌, map, Option, inl, inr, sym, ◌∙◌, subst}
use Rattle.std.specs.Prelude.{◌⊎◌, ◌↔◌, Any, Contains, IsTrue, if◌then◌else◌}
use Rattle.std.proofs.lemmas.Bool.{or_cases, or_left, or_right}
use Rattle.std.proofs.lemmas.List.{append-nil}
use Rattle.std.proofs.lemmas.List.Elements.{Contains-append_left, Contains-push, Contains-push_cases}
use Rattle.text_edits.specs.Files.{PlainFile}
use Rattle.cond_formula.specs.Features.{has}
use Rattle.project_file.specs.Projects.{PlainProject}
use Rattle.plain_pp.specs.Units.{sources_of, file_of}
use Rattle.project_program.specs.Programs.{present_units}
use Rattle.program_occurrences.specs.Classes.{PlainFileToken}
use Rattle.tied_tokens.proofs.Members.{never, in_none, made_from, source_of}
use Rattle.class_touches.specs.Touches.{IsReadWhile, AreReadInProject}
use Rattle.class_touches.specs.Units.{IsReadInUnits}

-- whether one of the elements is so, told of what they are turned into
pub one-made : {X Y : Type 0} (f : X → Y) (P : Y → Type 0) (xs : List X) (b : Bool) → IsTrue b ↔ Any (λ x. P (f x)) xs → IsTrue b ↔ Any P (map f xs)
one-made f P xs b so = (λ h. to (so.0 h), λ any. so.1 (back any))
  where
    to : Any (λ x. P (f x)) xs → Any P (map f xs)
    to (place, x, inside, is, p) = let m = made_from f xs x (place, inside, is) in (m.0, f x, m.1, m.2, p)

    back : Any P (map f xs) → Any (λ x. P (f x)) xs
    back (place, y, inside, is, p) =
        let s = source_of f xs y (place, inside, is) in (s.among.0, s.source, s.among.1, s.among.2, subst P (sym s.same) p)

module _ (project : PlainProject) (files : List PlainFile) (name : Option (List ℕ)) (c : List Bool) (tokens : List PlainFileToken) where
  -- the unit reads one of the tokens
  abbrev pub OneRead : ℕ → Type 0
  OneRead unit = Any (λ token. IsReadWhile (sources_of project files (has c)) (file_of project unit) token name) tokens

  abbrev InUnits : List ℕ → Type 0
  InUnits units = IsReadInUnits project files tokens name c units

  pub in-no-units : (b : Bool) → b ≡ false → IsTrue b ↔ IsReadInUnits project files tokens name c []
  in-no-units b off = (λ h. absurd (never off h), λ r. absurd (in_none r.unit r.among))

  with-one : (units : List ℕ) (unit : ℕ) (old here : Bool) → IsTrue old ↔ InUnits units → IsTrue here ↔ OneRead unit → IsTrue (old || here) ↔ InUnits (units ++ unit ∷ [])
  with-one units unit old here so_far reads = (λ h. to (or_cases old here h), λ r. back r (Contains-push_cases units unit r.unit r.among))
    where
      to : (old ≡ true) ⊎ (here ≡ true) → InUnits (units ++ unit ∷ [])
      to (inl h) = let r = so_far.0 h in record { unit = r.unit; among = Contains-append_left units (unit ∷ []) r.unit r.among; reads = r.reads }
      to (inr h) = record { unit = unit; among = Contains-push units unit; reads = reads.0 h }

      back : (r : InUnits (units ++ unit ∷ [])) → Contains units r.unit ⊎ (unit ≡ r.unit) → IsTrue (old || here)
      back r (inl i) = or_left old here (so_far.1 (record { unit = r.unit; among = i; reads = r.reads }))
      back r (inr e) = or_right old here (reads.1 (subst OneRead (sym e) r.reads))

  pub unit-more : (units : List ℕ) (unit : ℕ) (old when here new : Bool) → new ≡ (old || (when && here)) → IsTrue old ↔ IsReadInUnits project files tokens name c units → IsTrue here ↔ OneRead unit
      → IsTrue new ↔ IsReadInUnits project files tokens name c (units ++ (if when then unit ∷ [] else []))
  unit-more units unit old true here new is so_far reads = let one = with-one units unit old here so_far reads in (λ h. one.0 (sym is ∙ h), λ r. is ∙ one.1 r)
  unit-more units unit old false here new is so_far reads = (
    λ h. subst InUnits (sym (append-nil units)) (so_far.0 (from-old old (sym is ∙ h))),
    λ r. is ∙ or_left old false (so_far.1 (subst InUnits (append-nil units) r)),
  )
    where
      from-old : (b : Bool) → (b || false) ≡ true → b ≡ true
      from-old true h = h
      from-old false h = h

  pub in-all-units : (b : Bool) (units : List ℕ) → units ≡ present_units project (has c) → IsTrue b ↔ IsReadInUnits project files tokens name c units → IsTrue b ↔ AreReadInProject project files tokens name c
  in-all-units b units all so = (λ h. to (so.0 h), λ r. so.1 (back r))
    where
      to : IsReadInUnits project files tokens name c units → AreReadInProject project files tokens name c
      to r =
          let one = r.reads in record {
            token = one.1;
            among = (one.0, one.2, one.3);
            is_read = record { unit = r.unit; present = subst (λ (us : List ℕ). Contains us r.unit) all r.among; reads = one.4 };
          }

      back : AreReadInProject project files tokens name c → IsReadInUnits project files tokens name c units
      back r = record {
        unit = r.is_read.unit;
        among = subst (λ (us : List ℕ). Contains us r.is_read.unit) (sym all) r.is_read.present;
        reads = (r.among.0, r.token, r.among.1, r.among.2, r.is_read.reads);
      }
