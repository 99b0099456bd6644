-- The renamed file that was written behaves as the file that was read.
use Rattle.std.proofs.Common.{◌≡◌, inl, inr, ℕ, List, [], ◌∷◌, Some, Option, All, sym, ◌∙◌, ap, subst, arith}
use Rattle.text_edits.specs.Files.{PlainFile, Lookup}
use Rattle.project_store.specs.States.{StoreState}
use Rattle.quick_form.specs.Renaming.{renamed_bytes}
use Rattle.quick_form.specs.Quick.{Takes, KeepsBehaviour, RenamingKeepsBehaviour}
use Rattle.command_promises.specs.Courses.{Saying, reads, says, Leads, IsThere, Comes}
use Rattle.command_promises.specs.Writing.{PutsAll}
use Rattle.command_promises.proofs.Leading.{one_saying, all_head}
use Rattle.command_quick.specs.Words.{Renaming, target, Asks}
use Rattle.command_quick.specs.Quick.{renames, refuses_at, Does}
use Rattle.command_quick.specs.Behaviour.{BehaviourIsKept}
use Rattle.command_quick.proofs.NewNames.{new_name_is_name}

some_is : (x y : List ℕ) → ◌≡◌ {A = Option (List ℕ)} (Some x) (Some y) → x ≡ y
some_is x y e = cc

never : (x : Saying) (name : List ℕ) → says x ≡ reads name → ⊥
never x name e = cc

one_name : (m n : List ℕ) → reads m ≡ reads n → m ≡ n
one_name m n e = cc

module _ (keeps : RenamingKeepsBehaviour) (further : List (List ℕ)) (r : Renaming) (asks : Asks further r) (store : StoreState) (t : store.tells) (after : Lookup) where
  of_taken : (source : PlainFile) → store.file source.name ≡ Some source.bytes → source.name ≡ r.file → Takes r.old r.new source.bytes → PutsAll store.file (renames r source.bytes).written after → BehaviourIsKept r store.file after
  of_taken source there name takes puts bytes renamed before_is after_is =
      let old : source.bytes ≡ bytes = some_is source.bytes bytes (sym there ∙ (ap store.file name ∙ before_is)) in
      let new : renamed_bytes r.old r.new source.bytes ≡ renamed = some_is (renamed_bytes r.old r.new source.bytes) renamed (sym puts.1.named ∙ (puts.2 (target r) ∙ after_is)) in
      subst (λ b. KeepsBehaviour b renamed) old (subst (λ b. KeepsBehaviour source.bytes b) new (keeps r.old r.new source.bytes (new_name_is_name r.new asks.good.new) takes))

  by_files : (files : List PlainFile) (what : Saying) → All (IsThere store) files → Leads (Does r) files (says what) → what.status ≡ 0 → PutsAll store.file what.written after → BehaviourIsKept r store.file after
  by_files [] what there leads zero_is puts = absurd (never what r.file leads)
  by_files (source ∷ []) what there (name, inl h) zero_is puts =
      of_taken source (all_head (IsThere store) source [] there t) (one_name source.name r.file name) h.0
      (subst (λ (x : Saying). PutsAll store.file x.written after) (one_saying what (renames r source.bytes) h.1) puts)
  by_files (source ∷ []) what there (name, inr h) zero_is puts =
      let same : what ≡ refuses_at h.0 = one_saying what (refuses_at h.0) h.2 in
      let twelve : what.status ≡ 12 = ap (λ (x : Saying). x.status) same in
      absurd (omega (arith, twelve, zero_is))
  by_files (source ∷ other ∷ files) what there (name, (inl h, rest)) zero_is puts = absurd (never (renames r source.bytes) other.name (sym h.1))
  by_files (source ∷ other ∷ files) what there (name, (inr h, rest)) zero_is puts = absurd (never (refuses_at h.0) other.name (sym h.2))

  pub behaviour_kept : (what : Saying) → Comes (Does r) store (says what) → what.status ≡ 0 → PutsAll store.file what.written after → BehaviourIsKept r store.file after
  behaviour_kept what c zero_is puts = by_files c.files what c.are_there c.leads zero_is puts
