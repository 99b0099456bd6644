-- One read after another.
use Rattle.std.proofs.Common.{◌≡◌, ℕ, zero, suc, ◌+◌, ◌<◌, List, [], ◌∷◌, ◌++◌, map, length, take, drop, get_or, Bor, refl, sym, ap, subst, ◌∙◌, arith}
use Rattle.std.proofs.lemmas.List.{map_more, map-append}
use Rattle.std.proofs.lemmas.List.Elements.{All-push}
use Rattle.text_edits.specs.Files.{PlainFile}
use Rattle.project_file.specs.declared.errors.ProjectError.{ProjectError}
use Rattle.project_file.specs.declared.errors.ProjectError.TheVariants.{NotToml, Shape, Feature, Constraint, Duplicate, Size, Read, Memory}
use Rattle.project_file.specs.Faults.{Fault, size, not_toml, shape, feature, duplicate, constraint}
use Rattle.project_file.specs.View.{Why}
use Rattle.project_store.specs.Faults.{HasCause}
use Rattle.project_store.specs.States.{StoreState, IsReadAlone, Stands, IsAbsent}
use Rattle.project_store.specs.Reads.{IsRead, AreFilesOf, IsNext, IsFirstTooLong, IsTooLong, HasAbsent, IsLong, IsSource}

abbrev pub text_of : Bor (List ℕ) → List ℕ
text_of name = name.now

pub Why-weaker : (P Q : Fault → Type 0) (U V : Type 0) (error : ProjectError) → ((fault : Fault) → P fault → Q fault) → (U → V) → Why P U error → Why Q V error
Why-weaker P Q U V NotToml f g w = f _ w
Why-weaker P Q U V (Shape key) f g w = f _ w
Why-weaker P Q U V (Feature name) f g w = f _ w
Why-weaker P Q U V (Constraint place) f g w = f _ w
Why-weaker P Q U V (Duplicate name) f g w = f _ w
Why-weaker P Q U V (Size name) f g w = f _ w
Why-weaker P Q U V Read f g w = g w
Why-weaker P Q U V Memory f g w = tt

pub untouched : (s : StoreState) → IsReadAlone s s
untouched s = record {
  told = λ t. t;
  files = λ t name. refl;
  exact = λ e. e;
  reads = omega arith;
  writes = refl;
  room_told = λ t. t;
  names = λ t. refl;
  room = λ t. refl;
}

pub alone_then : (s t u : StoreState) → IsReadAlone s t → IsReadAlone t u → IsReadAlone s u
alone_then s t u a b = record {
  told = λ h. b.told (a.told h);
  files = λ h name. a.files h name ∙ b.files (a.told h) name;
  exact = λ e. b.exact (a.exact e);
  reads = omega (arith, a.reads, b.reads);
  writes = b.writes ∙ a.writes;
  room_told = λ h. b.room_told (a.room_told h);
  names = λ h. b.names (a.room_told h) ∙ a.names h;
  room = λ h. b.room (a.room_told h) ∙ a.room h;
}

-- what stands in a store that was read stood there before
pub stood : (s t : StoreState) (name bytes : List ℕ) → IsReadAlone s t → Stands t name bytes → Stands s name bytes
stood s t name bytes a h = λ told. a.files told name ∙ h (a.told told)

pub was_absent : (s t : StoreState) (name : List ℕ) → (s.tells_room → s.tells) → IsReadAlone s t → IsAbsent t name → IsAbsent s name
was_absent s t name told a h = λ room. a.files (told room) name ∙ h (a.room_told room)

pub was_read : (s t : StoreState) (f : PlainFile) → IsReadAlone s t → IsRead t f → IsRead s f
was_read s t f a h = record { short = h.short; stands = stood s t f.name f.bytes a h.stands }

-- a fault in a later read is one of all reads, where the earlier ones had none
pub caused_later : (s t u : StoreState) (P : Type 0) → IsReadAlone s t → (s.exact → t.read_faults ≡ s.read_faults) → HasCause t.exact t.read_faults u.read_faults P → HasCause s.exact s.read_faults u.read_faults P
caused_later s t u P a none h = record {
  kept = omega (arith, a.reads, h.kept);
  rose = λ p. let r = h.rose p in omega (arith, a.reads, r);
  stood = λ e n. h.stood (a.exact e) n ∙ none e;
}

-- the next file goes behind those that were read
pub files_more : (s t : StoreState) (names : List (Bor (List ℕ))) (i : ℕ) (name : Bor (List ℕ)) (read : List PlainFile) (f : PlainFile) → i < length names → name ≡ get_or names i name
    → IsReadAlone s t → AreFilesOf s (map text_of (take i names)) read → IsSource t name.now f
    → AreFilesOf s (map text_of (take (i + 1) names)) (read ++ f ∷ [])
files_more s t names i name read f less is a so_far h = record {
  named =
      map-append (λ (g : PlainFile). g.name) read (f ∷ []) ∙ ap (λ ns. ns ++ f.name ∷ []) so_far.named
      ∙ ap (λ n. map text_of (take i names) ++ n ∷ []) (h.name_is ∙ ap text_of is)
      ∙ sym (map_more text_of names i name less);
  are_read = All-push (IsRead s) read f so_far.are_read (was_read s t f a h.is_read);
}

parted : (xs : List (Bor (List ℕ))) (k : ℕ) (x : Bor (List ℕ)) → k < length xs → x ≡ get_or xs k x → map text_of xs ≡ map text_of (take k xs) ++ x.now ∷ map text_of (drop (suc k) xs)
parted [] k x l e = absurd (omega arith)
parted (y ∷ xs) zero x l e = ap (λ z. text_of z ∷ map text_of xs) (sym e)
parted (y ∷ xs) (suc k) x l e = ap (λ zs. text_of y ∷ zs) (parted xs k x (omega arith) e)

-- where these files were read, this name is the next
next_is : (s : StoreState) (names : List (Bor (List ℕ))) (i : ℕ) (name : Bor (List ℕ)) (read : List PlainFile) → i < length names → name ≡ get_or names i name
    → AreFilesOf s (map text_of (take i names)) read → IsNext s (map text_of names) name.now
next_is s names i name read less is so_far = record {
  front = read;
  rest = map text_of (drop (suc i) names);
  split = parted names i name less is ∙ ap (λ ns. ns ++ name.now ∷ map text_of (drop (suc i) names)) (sym so_far.named);
  are_read = so_far.are_read;
}

-- a file that is too long is the first such
pub first_long : (s t : StoreState) (names : List (Bor (List ℕ))) (i : ℕ) (name : Bor (List ℕ)) (read : List PlainFile) → i < length names → name ≡ get_or names i name
    → IsReadAlone s t → AreFilesOf s (map text_of (take i names)) read
    → (fault : Fault) → IsLong t name.now fault → IsTooLong s (map text_of names) fault
first_long s t names i name read less is a so_far not_toml h = h
first_long s t names i name read less is a so_far (shape n) h = h
first_long s t names i name read less is a so_far (feature n) h = h
first_long s t names i name read less is a so_far (duplicate n) h = h
first_long s t names i name read less is a so_far (constraint n) h = h
first_long s t names i name read less is a so_far (size n) h =
    subst (λ x. IsFirstTooLong s (map text_of names) x) (sym h.0) (record {
      next = next_is s names i name read less is so_far;
      is_long = record { bytes = h.1.bytes; stands = stood s t name.now h.1.bytes a h.1.stands; long = h.1.long };
    })

pub has_absent : (s t : StoreState) (names : List (Bor (List ℕ))) (i : ℕ) (name : Bor (List ℕ)) (read : List PlainFile) → i < length names → name ≡ get_or names i name
    → (s.tells_room → s.tells) → IsReadAlone s t → AreFilesOf s (map text_of (take i names)) read → IsAbsent t name.now → HasAbsent s (map text_of names)
has_absent s t names i name read less is told a so_far h =
    record { name = name.now; next = next_is s names i name read less is so_far; absent = was_absent s t name.now told a h }

pub get_or-self : {X : Type 0} (xs : List X) (i : ℕ) (d : X) → i < length xs → get_or xs i d ≡ get_or xs i (get_or xs i d)
get_or-self [] i d h = absurd (omega arith)
get_or-self (x ∷ xs) zero d h = refl
get_or-self (x ∷ xs) (suc i) d h = get_or-self xs i d (omega arith)
