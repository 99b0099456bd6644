-- One renaming, and one thing that is done.
use Rattle.std.proofs.Common.{◌≡◌, inl, inr, ℕ, List, [], ◌∷◌, refl, sym, ◌∙◌, ap, subst, arith}
use Rattle.text_edits.specs.Files.{PlainFile}
use Rattle.quick_form.specs.Places.{PlacesAreOne, TakenHasNoPlace}
use Rattle.command_promises.specs.Courses.{Saying, Deed, reads, says, IsDecided}
use Rattle.command_promises.specs.Commands.{IsFit, IsDecidedCommand}
use Rattle.command_promises.proofs.Leading.{one_saying}
use Rattle.command_promises.proofs.Fitting.{is_own, tells_fits}
use Rattle.command_quick.specs.Words.{Renaming, Asks}
use Rattle.command_quick.specs.Quick.{renames, refuses_at, OfBytes, Does, quick}

pub one_renaming : (further : List (List ℕ)) (r s : Renaming) → Asks further r → Asks further s → r ≡ s
one_renaming further r s a b =
    let e : r.file ∷ r.old ∷ r.new ∷ r.out ∷ [] ≡ s.file ∷ s.old ∷ s.new ∷ s.out ∷ [] = sym a.words_are ∙ b.words_are in
    let file : r.file ≡ s.file = cc in
    let old : r.old ≡ s.old = cc in
    let new : r.new ≡ s.new = cc in
    let out : r.out ≡ s.out = cc in
    let f : List ℕ → Renaming = λ x. record { file = x; old = r.old; new = r.new; out = r.out } in
    let g : List ℕ → Renaming = λ x. record { file = s.file; old = x; new = r.new; out = r.out } in
    let h : List ℕ → Renaming = λ x. record { file = s.file; old = s.old; new = x; out = r.out } in
    let k : List ℕ → Renaming = λ x. record { file = s.file; old = s.old; new = s.new; out = x } in
    ap f file ∙ (ap g old ∙ (ap h new ∙ ap k out))

module _ (places : PlacesAreOne) (none : TakenHasNoPlace) where
  one_of_bytes : (r : Renaming) (bytes : List ℕ) (a b : Deed) → OfBytes r bytes a → OfBytes r bytes b → a ≡ b
  one_of_bytes r bytes a b (inl h) (inl k) = h.1 ∙ sym k.1
  one_of_bytes r bytes a b (inl h) (inr k) = absurd (none r.old r.new bytes k.0 h.0 k.1)
  one_of_bytes r bytes a b (inr h) (inl k) = absurd (none r.old r.new bytes h.0 k.0 h.1)
  one_of_bytes r bytes a b (inr h) (inr k) = h.2 ∙ (ap (λ n. says (refuses_at n)) (places r.old r.new bytes h.0 k.0 h.1 k.1) ∙ sym k.2)

  one_deed : (r : Renaming) → IsDecided (Does r)
  one_deed r [] a b h k = h ∙ sym k
  one_deed r (source ∷ files) a b h k = one_of_bytes r source.bytes a b h k

  renames_fits : (r : Renaming) (bytes : List ℕ) → IsFit quick (renames r bytes)
  renames_fits r bytes = record { listed = (0, omega arith, refl); own = is_own 0 (inl (omega arith)); writes = inr (refl, refl) }

  refuses_fits : (offset : ℕ) → IsFit quick (refuses_at offset)
  refuses_fits offset = tells_fits quick 12 (refuses_at offset).report (1, omega arith, refl) (inr (inr (omega arith)))

  fits : (r : Renaming) (files : List PlainFile) (what : Saying) → Does r files (says what) → IsFit quick what
  fits r [] what h = let e : says what ≡ reads r.file = h in absurd (never what r.file e)
    where
      never : (x : Saying) (name : List ℕ) → says x ≡ reads name → ⊥
      never x name e = cc
  fits r (source ∷ files) what (inl h) = subst (IsFit quick) (sym (one_saying what (renames r source.bytes) h.1)) (renames_fits r source.bytes)
  fits r (source ∷ files) what (inr h) = subst (IsFit quick) (sym (one_saying what (refuses_at h.0) h.2)) (refuses_fits h.0)

  pub decided : IsDecidedCommand quick
  decided = record { one_query = one_renaming; one_deed = one_deed; fits = fits }
