-- Where courses lead.
use Rattle.std.proofs.Common.{◌≡◌, ℕ, suc, List, [], ◌∷◌, Some, None, Option, All, sym, ◌∙◌, ap, subst, arith}
use Rattle.text_edits.specs.Files.{PlainFile}
use Rattle.project_store.specs.States.{StoreState}
use Rattle.command_promises.specs.Courses.{Saying, Deed, reads, says, Course, Leads, IsThere, Comes, IsDecided}

-- what a course does, another does too
abbrev pub Follows : Course → Course → Type 0
Follows course other = (files : List PlainFile) (deed : Deed) → course files deed → other files deed

pub leads_by : (course other : Course) → Follows course other → (files : List PlainFile) (deed : Deed) → Leads course files deed → Leads other files deed
leads_by course other f [] deed h = f [] deed h
leads_by course other f (file ∷ files) deed h =
    (f [] (reads file.name) h.0, leads_by (λ more. course (file ∷ more)) (λ more. other (file ∷ more)) (λ more. f (file ∷ more)) files deed h.1)

pub comes_by : (course other : Course) (store : StoreState) (deed : Deed) → Follows course other → Comes course store deed → Comes other store deed
comes_by course other store deed f h =
    record { files = h.files; are_there = h.are_there; leads = leads_by course other f h.files deed h.leads }

-- the last thing is done where all the files were read
pub done_last : (course : Course) (files : List PlainFile) (deed : Deed) → Leads course files deed → course files deed
done_last course [] deed h = h
done_last course (file ∷ files) deed h = done_last (λ more. course (file ∷ more)) files deed h.1

pub all_tail : {X : Type 0} (P : X → Type 0) (x : X) (xs : List X) → All P (x ∷ xs) → All P xs
all_tail P x xs h k d less = h (suc k) d (omega (arith, less))

pub all_head : {X : Type 0} (P : X → Type 0) (x : X) (xs : List X) → All P (x ∷ xs) → P x
all_head P x xs h = h 0 x (omega arith)

one_name : (m n : List ℕ) → reads m ≡ reads n → m ≡ n
one_name m n e = cc

pub one_saying : (a b : Saying) → says a ≡ says b → a ≡ b
one_saying a b e = cc

no_end : (m : List ℕ) (a : Saying) → reads m ≡ says a → ⊥
no_end m a e = cc

module _ (store : StoreState) (t : store.tells) where
  -- the file of a name is one
  same_file : (a b : PlainFile) → a.name ≡ b.name → IsThere store a → IsThere store b → a ≡ b
  same_file a b e h k =
      let f : ◌≡◌ {A = Option (List ℕ)} (Some a.bytes) (Some b.bytes) = sym (h t) ∙ (ap store.file e ∙ k t) in
      let bytes : a.bytes ≡ b.bytes = cc in
      let by_name : List ℕ → PlainFile = λ n. record { name = n; bytes = a.bytes } in
      let by_bytes : List ℕ → PlainFile = λ c. record { name = b.name; bytes = c } in
      ap by_name e ∙ ap by_bytes bytes

  -- a decided course comes to one end
  ends_are_one : (course : Course) → IsDecided course → (xs ys : List PlainFile) (a b : Saying) → All (IsThere store) xs → All (IsThere store) ys → Leads course xs (says a) → Leads course ys (says b) → a ≡ b
  ends_are_one course one [] [] a b h k l m = one_saying a b (one [] (says a) (says b) l m)
  ends_are_one course one [] (y ∷ ys) a b h k l m = absurd (no_end y.name a (one [] (reads y.name) (says a) m.0 l))
  ends_are_one course one (x ∷ xs) [] a b h k l m = absurd (no_end x.name b (one [] (reads x.name) (says b) l.0 m))
  ends_are_one course one (x ∷ xs) (y ∷ ys) a b h k l m =
      let name : x.name ≡ y.name = one_name x.name y.name (one [] (reads x.name) (reads y.name) l.0 m.0) in
      let same : x ≡ y = same_file x y name (all_head (IsThere store) x xs h) (all_head (IsThere store) y ys k) in
      let there = all_tail (IsThere store) x xs h in
      let later = all_tail (IsThere store) y ys k in
      let leads : Leads (λ more. course (y ∷ more)) xs (says a) = subst (λ f. Leads (λ more. course (f ∷ more)) xs (says a)) same l.1 in
      ends_are_one (λ more. course (y ∷ more)) (λ files. one (y ∷ files)) xs ys a b there later leads m.1

  -- where it comes to an end, each file that it comes to read is there
  reads_are_there : (course : Course) → IsDecided course → (xs ys : List PlainFile) (name : List ℕ) (b : Saying) → All (IsThere store) xs → All (IsThere store) ys → Leads course xs (reads name) → Leads course ys (says b) → store.file name ≡ None → ⊥
  reads_are_there course one [] [] name b h k l m absent = no_end name b (one [] (reads name) (says b) l m)
  reads_are_there course one [] (y ∷ ys) name b h k l m absent =
      let same : y.name ≡ name = one_name y.name name (one [] (reads y.name) (reads name) m.0 l) in
      let e : ◌≡◌ {A = Option (List ℕ)} (Some y.bytes) None = sym (all_head (IsThere store) y ys k t) ∙ (ap store.file same ∙ absent) in
      absurd cc
  reads_are_there course one (x ∷ xs) [] name b h k l m absent = no_end x.name b (one [] (reads x.name) (says b) l.0 m)
  reads_are_there course one (x ∷ xs) (y ∷ ys) name b h k l m absent =
      let same_name : x.name ≡ y.name = one_name x.name y.name (one [] (reads x.name) (reads y.name) l.0 m.0) in
      let same : x ≡ y = same_file x y same_name (all_head (IsThere store) x xs h) (all_head (IsThere store) y ys k) in
      let leads : Leads (λ more. course (y ∷ more)) xs (reads name) = subst (λ f. Leads (λ more. course (f ∷ more)) xs (reads name)) same l.1 in
      reads_are_there (λ more. course (y ∷ more)) (λ files. one (y ∷ files)) xs ys name b (all_tail (IsThere store) x xs h) (all_tail (IsThere store) y ys k) leads m.1 absent

  pub one_end : (course : Course) → IsDecided course → (a b : Saying) → Comes course store (says a) → Comes course store (says b) → a ≡ b
  one_end course one a b h k = ends_are_one course one h.files k.files a b h.are_there k.are_there h.leads k.leads

  pub none_missing : (course : Course) → IsDecided course → (name : List ℕ) (b : Saying) → Comes course store (reads name) → Comes course store (says b) → store.file name ≡ None → ⊥
  none_missing course one name b h k = reads_are_there course one h.files k.files name b h.are_there k.are_there h.leads k.leads
