-- The commands have different words, and their statuses are among those of the program.
use Rattle.std.proofs.Common.{◌≡◌, ◌≢◌, inl, subst, ℕ, zero, suc, List, [], Option, Some, None, refl, sym, ◌∙◌, ap, arith, codes, if◌then◌else◌}
use Rattle.std.proofs.lemmas.List.Elements.{All-weaker}
use Rattle.std.specs.List.{Contains}
use Rattle.std.specs.Str.{bytes_eq}
use Rattle.text_edits.specs.Files.{PlainFile}
use Rattle.project_store.specs.States.{StoreState, SinkState}
use Rattle.command_promises.specs.Courses.{Deed, says, Course, IsThere, Comes}
use Rattle.command_promises.specs.Commands.{Asked, CourseOf, IsOwn, IsDecidedCommand}
use Rattle.command_promises.specs.Endings.{Answers}
use Rattle.command_promises.specs.Promises.{Promises}
use Rattle.command_promises.proofs.Promising.{promised, all_decided as decided_all}
use Rattle.command_promises.proofs.Fitting.{is_own}
use Rattle.command_outcomes.specs.Concluding.{ComesOver}
use Rattle.quick_form.specs.Quick.{RenamingKeepsBehaviour}
use Rattle.command_quick.specs.Words.{Renaming}
use Rattle.command_quick.specs.Behaviour.{BehaviourIsKept}
use Rattle.command_quick.proofs.Behaviour.{behaviour_kept}
use Rattle.command_quick.specs.Quick.{quick}
use Rattle.command_admit.specs.Admit.{admit}
use Rattle.command_tokens.specs.Tokens.{tokens}
use Rattle.command_run.specs.Run.{run}
use Rattle.command_check.specs.Check.{check}
use Rattle.rename_words.specs.Words.{RenameQuery}
use Rattle.command_rename.specs.Rename.{rename}
use Rattle.command_rename.specs.Products.{ProductsAreKept}
use Rattle.command_rename.specs.Laws.{RenamingsThatAreWrittenKeepProducts}
use Rattle.morpheus_top.specs.declared.commands.Which.{Which}
use Rattle.morpheus_top.specs.declared.commands.Which.TheVariants.{Quick, Admit, Tokens, Run, Check, Rename}
use Rattle.morpheus_top.specs.Commands.{commands, program}

-- the command with the word
abbrev with_word : List ℕ → Option Which
with_word word =
    if bytes_eq word (codes "quick") then Some Quick
    else (if bytes_eq word (codes "admit") then Some Admit
    else (if bytes_eq word (codes "tokens") then Some Tokens
    else (if bytes_eq word (codes "run") then Some Run
    else (if bytes_eq word (codes "check") then Some Check
    else (if bytes_eq word (codes "rename") then Some Rename else None)))))

is_with : (which : Which) → with_word (commands which).word ≡ Some which
is_with Quick = refl
is_with Admit = refl
is_with Tokens = refl
is_with Run = refl
is_with Check = refl
is_with Rename = refl

same : (a b : Which) → ◌≡◌ {A = Option Which} (Some a) (Some b) → a ≡ b
same a b e = cc

pub apart : (a b : Which) → (commands a).word ≡ (commands b).word → a ≡ b
apart a b e = same a b (sym (is_with a) ∙ (ap with_word e ∙ is_with b))

pub listed : (which : Which) (n : ℕ) → Contains (commands which).statuses n → Contains program.statuses n
listed Quick n (zero, less, e) = (0, omega arith, e)
listed Quick n (suc zero, less, e) = (8, omega arith, e)
listed Quick n (suc (suc k), less, e) = absurd (omega (arith, less))
listed Admit n (zero, less, e) = (0, omega arith, e)
listed Admit n (suc zero, less, e) = (3, omega arith, e)
listed Admit n (suc (suc k), less, e) = absurd (omega (arith, less))
listed Tokens n (zero, less, e) = (0, omega arith, e)
listed Tokens n (suc zero, less, e) = (2, omega arith, e)
listed Tokens n (suc (suc zero), less, e) = (3, omega arith, e)
listed Tokens n (suc (suc (suc zero)), less, e) = (5, omega arith, e)
listed Tokens n (suc (suc (suc (suc k))), less, e) = absurd (omega (arith, less))
listed Run n (zero, less, e) = (0, omega arith, e)
listed Run n (suc zero, less, e) = (2, omega arith, e)
listed Run n (suc (suc zero), less, e) = (3, omega arith, e)
listed Run n (suc (suc (suc zero)), less, e) = (5, omega arith, e)
listed Run n (suc (suc (suc (suc zero))), less, e) = (6, omega arith, e)
listed Run n (suc (suc (suc (suc (suc zero)))), less, e) = (7, omega arith, e)
listed Run n (suc (suc (suc (suc (suc (suc k))))), less, e) = absurd (omega (arith, less))
listed Check n (zero, less, e) = (0, omega arith, e)
listed Check n (suc zero, less, e) = (1, omega arith, e)
listed Check n (suc (suc zero), less, e) = (3, omega arith, e)
listed Check n (suc (suc (suc k)), less, e) = absurd (omega (arith, less))
listed Rename n (zero, less, e) = (0, omega arith, e)
listed Rename n (suc zero, less, e) = (1, omega arith, e)
listed Rename n (suc (suc zero), less, e) = (2, omega arith, e)
listed Rename n (suc (suc (suc zero)), less, e) = (3, omega arith, e)
listed Rename n (suc (suc (suc (suc zero))), less, e) = (4, omega arith, e)
listed Rename n (suc (suc (suc (suc (suc k)))), less, e) = absurd (omega (arith, less))

pub all_decided : IsDecidedCommand quick → IsDecidedCommand admit → IsDecidedCommand tokens → IsDecidedCommand run → IsDecidedCommand check → IsDecidedCommand rename → (which : Which) → IsDecidedCommand (commands which)
all_decided a b c d e f Quick = a
all_decided a b c d e f Admit = b
all_decided a b c d e f Tokens = c
all_decided a b c d e f Run = d
all_decided a b c d e f Check = e
all_decided a b c d e f Rename = f

-- a word that is that of none
pub none_named : (word : List ℕ) → word ≢ codes "quick" → word ≢ codes "admit" → word ≢ codes "tokens" → word ≢ codes "run" → word ≢ codes "check" → word ≢ codes "rename" → (which : Which) → word ≢ (commands which).word
none_named word a b c d e f Quick = a
none_named word a b c d e f Admit = b
none_named word a b c d e f Tokens = c
none_named word a b c d e f Run = d
none_named word a b c d e f Check = e
none_named word a b c d e f Rename = f

-- what holds of every call
pub whole : (before after : StoreState) (sink sink' : SinkState) (status : ℕ) (words : List (List ℕ)) → ((which : Which) → IsDecidedCommand (commands which)) → Answers (CourseOf commands words) before after sink sink' status
    → Promises program words before after sink sink' status
whole before after sink sink' status words decided answer =
    promised program (decided_all commands decided apart program.statuses listed (2, omega arith, refl)) words before after sink sink' status answer

-- the renamed file that `quick` wrote
pub behaves : RenamingKeepsBehaviour → (words : List (List ℕ)) (r : Renaming) → Asked quick words r → (before after : StoreState) (sink sink' : SinkState) (status : ℕ) → before.tells → status ≡ 0
    → Promises quick r before after sink sink' status → BehaviourIsKept r before.file after.file
behaves keeps words r asked before after sink sink' status t zero_is p =
    let s = p.said (subst IsOwn (sym zero_is) (is_own 0 (inl (omega arith)))) in
    behaviour_kept keeps asked.0 r asked.2 before t after.file s.what s.comes (s.status_is ∙ zero_is) (s.written t)

-- what a course comes to over a store that tells what it holds
over_told : (course : Course) (store : StoreState) → store.tells → (deed : Deed) → Comes course store deed → ComesOver course store.file deed
over_told course store t deed comes = record {
  files = comes.files;
  are_held = All-weaker (IsThere store) (λ (f : PlainFile). store.file f.name ≡ Some f.bytes) (λ f h. h t) comes.files comes.are_there;
  leads = comes.leads;
}

-- the renamed project that `rename` wrote
pub keeps_products : RenamingsThatAreWrittenKeepProducts → (words : List (List ℕ)) (q : RenameQuery) → Asked rename words q → (before after : StoreState) (sink sink' : SinkState) (status : ℕ) → before.tells → status ≡ 0
    → Promises rename q before after sink sink' status → ProductsAreKept q before.file after.file
keeps_products keeps words q asked before after sink sink' status t zero_is p =
    let s = p.said (subst IsOwn (sym zero_is) (is_own 0 (inl (omega arith)))) in
    keeps q before.file after.file s.what asked.2.good (over_told (rename.Does q) before t (says s.what) s.comes) (s.status_is ∙ zero_is) (s.written t)
