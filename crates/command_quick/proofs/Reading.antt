-- What is read and said for a renaming.
use Rattle.std.proofs.Common.{◌≡◌, inl, inr, ℕ, zero, suc, List, [], ◌∷◌, All, refl, ◌∙◌, ap, subst, arith, Vec}
use Rattle.project_store.specs.States.{StoreState, Stands, IsAbsent}
use Rattle.quick_form.specs.Renaming.{renamed_bytes}
use Rattle.quick_rename.specs.declared.Answer.{Answer as File}
use Rattle.quick_rename.specs.declared.Answer.TheVariants as file
use Rattle.quick_rename.specs.Answer.{IsRenamed, AnswersRenaming, HasPlace}
use Rattle.command_promises.specs.Courses.{Saying, says, IsThere, Comes}
use Rattle.command_promises.specs.Sayings.{ComesToUnread}
use Rattle.command_quick.specs.Words.{Renaming}
use Rattle.command_quick.specs.Quick.{says_renamed, refuses_at, OfBytes, Does}

-- the file was read, and this is said of its bytes
pub comes_of_file : (r : Renaming) (store : StoreState) (bytes : List ℕ) (what : Saying) → Stands store r.file bytes → OfBytes r bytes (says what) → Comes (Does r) store (says what)
comes_of_file r store bytes what stands h = record {
  files = record { name = r.file; bytes = bytes } ∷ [];
  are_there = one;
  leads = (refl, h);
} where
  one : All (IsThere store) (record { name = r.file; bytes = bytes } ∷ [])
  one zero d less = stands
  one (suc k) d less = absurd (omega (arith, less))

pub unread_file : (r : Renaming) (store : StoreState) → IsAbsent store r.file → ComesToUnread (Does r) store
unread_file r store absent = record {
  name = r.file;
  comes = record { files = []; are_there = λ k d less. absurd (omega (arith, less)); leads = refl };
  absent = absent;
}

-- what the renaming answers is said
pub renamed_said : (r : Renaming) (bytes old new : List ℕ) (a : File) (content : Vec ℕ _) (tokens : ℕ) (what : Saying) → old ≡ r.old → new ≡ r.new → AnswersRenaming old new bytes a → a ≡ file.Renamed content tokens → what ≡ says_renamed r content.items tokens → OfBytes r bytes (says what)
renamed_said r bytes old new a content tokens what p q h e is =
    let k : IsRenamed old new bytes content.items tokens = subst (AnswersRenaming old new bytes) e h in
    let m : IsRenamed r.old r.new bytes content.items tokens = subst (λ o. IsRenamed o r.new bytes content.items tokens) p (subst (λ w. IsRenamed old w bytes content.items tokens) q k) in
    inl (m.takes, ap (λ x. says x) (is ∙ (ap (λ b. says_renamed r b tokens) m.renamed_is ∙ ap (λ n. says_renamed r (renamed_bytes r.old r.new bytes) n) m.tokens_are)))

pub refused_said : (r : Renaming) (bytes old new : List ℕ) (a : File) (offset : ℕ) (what : Saying) → old ≡ r.old → new ≡ r.new → HasPlace old new bytes a → a ≡ file.NotQuick offset → what ≡ refuses_at offset → OfBytes r bytes (says what)
refused_said r bytes old new a offset what p q h e is =
    let k = subst (HasPlace old new bytes) e h in
    let m = subst (λ o. HasPlace o r.new bytes (file.NotQuick offset)) p (subst (λ w. HasPlace old w bytes (file.NotQuick offset)) q k) in
    inr (offset, m, ap (λ x. says x) is)
