-- What follows from an answer, for each command that is decided.
use Rattle.std.proofs.Common.{◌≡◌, ◌≢◌, ◌⊎◌, inl, inr, ℕ, suc, Bool, true, false, List, [], ◌∷◌, Some, None, Option, refl, sym, ◌∙◌, ap, subst, arith}
use Rattle.std.specs.List.{Contains}
use Rattle.text_edits.specs.Files.{PlainFile}
use Rattle.project_store.specs.States.{StoreState, SinkState, Kept}
use Rattle.command_promises.specs.Courses.{Saying, reads, says, Course, Leads, Comes, IsDecided}
use Rattle.command_promises.specs.Sayings.{usage}
use Rattle.command_promises.specs.Writing.{PutsAll, StandsAt}
use Rattle.command_promises.specs.Endings.{Ending, said, unread, unwritten, memory_ended, Holds, status_of, report_of, ReadsStood, WritesStood, Takes, BreaksOff, Answers}
use Rattle.command_promises.specs.Commands.{Command, Asked, CourseFor, CourseOf, program, IsOwn, IsFit, IsDecidedCommand}
use Rattle.command_promises.specs.Promises.{NoneRose, RoomsSuffice, Undisturbed, EndsInMemory, HasFiles, SaysSo, ReadFails, WriteFails, MemoryEnds, SinkFails, Promises}
use Rattle.command_promises.proofs.Leading.{Follows, one_saying, done_last, one_end, none_missing}
use Rattle.command_promises.proofs.Fitting.{tells_fits}
use Rattle.command_promises.proofs.Answering.{answers_by}

never_reads : (name : List ℕ) (what : Saying) → reads name ≡ says what → ⊥
never_reads name what e = cc

behind : (x : ℕ) (xs : List ℕ) (n : ℕ) → Contains xs n → Contains (x ∷ xs) n
behind x xs n h = (suc h.0, let k = h.1 in omega (arith, k), h.2)

behind_four : (a b c d : ℕ) (xs : List ℕ) (n : ℕ) → Contains xs n → Contains (a ∷ b ∷ c ∷ d ∷ xs) n
behind_four a b c d xs n h = behind a (b ∷ c ∷ d ∷ xs) n (behind b (c ∷ d ∷ xs) n (behind c (d ∷ xs) n (behind d xs n h)))

module _ (command : Command) (decided : IsDecidedCommand command) (query : command.Query) (before after : StoreState) (sink sink' : SinkState) (status : ℕ) where
  abbrev pub course : Course
  course = command.Does query

  fit : (what : Saying) → Comes course before (says what) → IsFit command what
  fit what h = decided.fits query h.files what (done_last course h.files (says what) h.leads)

  -- the status is that of the ending, and the report was taken; or it is 6
  module _ (answer : Answers course before after sink sink' status) where
    Plain : Type 0
    Plain = (status ≡ status_of answer.ending) × Takes sink sink' (report_of answer.ending)

    Broken : Type 0
    Broken = (status ≡ 6) × BreaksOff sink sink' (report_of answer.ending)

    pub statuses : Contains (3 ∷ 4 ∷ 6 ∷ 7 ∷ command.statuses) status
    statuses = elim answer.told [ inl p ↦ by answer.ending answer.holds p.0 | inr p ↦ (2, omega arith, sym p.0) ]
      where
        by : (e : Ending) → Holds course before after e → status ≡ status_of e → Contains (3 ∷ 4 ∷ 6 ∷ 7 ∷ command.statuses) status
        by (said what) h p = subst (Contains (3 ∷ 4 ∷ 6 ∷ 7 ∷ command.statuses)) (sym p) (behind_four 3 4 6 7 command.statuses what.status (fit what h.comes).listed)
        by (unread name) h p = (0, omega arith, sym p)
        by (unwritten what) h p = (1, omega arith, sym p)
        by memory_ended h p = (3, omega arith, sym p)

    pub says_so : IsOwn status → SaysSo course before after sink sink' status
    says_so own = elim answer.told [ inl p ↦ by answer.ending answer.holds p.0 p.1 | inr p ↦ absurd (own.no_sink_fault p.0) ]
      where
        by : (e : Ending) → Holds course before after e → status ≡ status_of e → Takes sink sink' (report_of e) → SaysSo course before after sink sink' status
        by (said what) h p takes = record { what = what; comes = h.comes; status_is = sym p; written = h.written; prints = takes }
        by (unread name) h p takes = absurd (own.no_read_fault p)
        by (unwritten what) h p takes = absurd (own.no_write_fault p)
        by memory_ended h p takes = absurd (own.no_want p)

    pub read_fault : status ≡ 3 → ReadFails course before after sink sink'
    read_fault is = elim answer.told [ inl p ↦ by answer.ending answer.holds (sym p.0 ∙ is) p.1 | inr p ↦ absurd (let e = p.0 in omega (arith, e, is)) ]
      where
        by : (e : Ending) → Holds course before after e → status_of e ≡ 3 → Takes sink sink' (report_of e) → ReadFails course before after sink sink'
        by (said what) h p takes = absurd ((fit what h.comes).own.no_read_fault p)
        by (unread name) h p takes = record { name = name; is_unread = h; prints = takes }
        by (unwritten what) h p takes = absurd (omega (arith, p))
        by memory_ended h p takes = absurd (omega (arith, p))

    pub write_fault : status ≡ 4 → WriteFails course before after sink sink'
    write_fault is = elim answer.told [ inl p ↦ by answer.ending answer.holds (sym p.0 ∙ is) p.1 | inr p ↦ absurd (let e = p.0 in omega (arith, e, is)) ]
      where
        by : (e : Ending) → Holds course before after e → status_of e ≡ 4 → Takes sink sink' (report_of e) → WriteFails course before after sink sink'
        by (said what) h p takes = absurd ((fit what h.comes).own.no_write_fault p)
        by (unread name) h p takes = absurd (omega (arith, p))
        by (unwritten what) h p takes = record { what = what; is_unwritten = h; prints = takes }
        by memory_ended h p takes = absurd (omega (arith, p))

    pub memory : status ≡ 7 → MemoryEnds before after sink sink'
    memory is = elim answer.told [ inl p ↦ by answer.ending answer.holds (sym p.0 ∙ is) p.1 | inr p ↦ absurd (let e = p.0 in omega (arith, e, is)) ]
      where
        by : (e : Ending) → Holds course before after e → status_of e ≡ 7 → Takes sink sink' (report_of e) → MemoryEnds before after sink sink'
        by (said what) h p takes = absurd ((fit what h.comes).own.no_want p)
        by (unread name) h p takes = absurd (omega (arith, p))
        by (unwritten what) h p takes = absurd (omega (arith, p))
        by memory_ended h p takes = record { kept = h.kept; prints = takes }

    no_own_six : (e : Ending) → Holds course before after e → status_of e ≡ 6 → ⊥
    no_own_six (said what) h p = (fit what h.comes).own.no_sink_fault p
    no_own_six (unread name) h p = omega (arith, p)
    no_own_six (unwritten what) h p = omega (arith, p)
    no_own_six memory_ended h p = omega (arith, p)

    pub sink_fault : status ≡ 6 → SinkFails course before after sink sink'
    sink_fault is = elim answer.told [
      | inl p ↦ absurd (no_own_six answer.ending answer.holds (sym p.0 ∙ is))
      | inr p ↦ record { ending = answer.ending; holds = answer.holds; breaks_off = p.1 }
    ]

    kept_by : (e : Ending) → Holds course before after e → (status_of e ≢ 4) → ((what : Saying) → e ≡ said what → what.written ≡ []) → Kept before after
    kept_by (said what) h never none = λ t. subst (λ files. PutsAll before.file files after.file) (none what refl) (h.written t)
    kept_by (unread name) h never none = h.kept
    kept_by (unwritten what) h never none = absurd (never refl)
    kept_by memory_ended h never none = h.kept

    same_saying : (a b : Saying) → said a ≡ said b → a ≡ b
    same_saying a b e = cc

    none_written : (e : Ending) → Holds course before after e → status_of e ≢ 0 → (what : Saying) → e ≡ said what → what.written ≡ []
    none_written (said other) h never what e =
        let same = same_saying other what e in
        let f = fit other h.comes in
        elim f.writes [ inl none ↦ subst (λ (x : Saying). x.written ≡ []) same none | inr p ↦ absurd (never p.0) ]
    none_written (unread name) h never what e = cc
    none_written (unwritten other) h never what e = cc
    none_written memory_ended h never what e = cc

    pub untouched : status ≢ 0 → status ≢ 4 → status ≢ 6 → Kept before after
    untouched a b c = elim answer.told [
      | inl p ↦ kept_by answer.ending answer.holds (λ e. b (p.0 ∙ e)) (none_written answer.ending answer.holds (λ e. a (p.0 ∙ e)))
      | inr p ↦ absurd (c p.0)
    ]

    reads_only_by : (e : Ending) → Holds course before after e → command.writes ≡ false → Kept before after
    reads_only_by (said what) h never = λ t.
        let none : what.written ≡ [] = elim (fit what h.comes).writes [ inl e ↦ e | inr p ↦ let f : ◌≡◌ {A = Bool} true false = sym p.1 ∙ never in absurd cc ] in
        subst (λ files. PutsAll before.file files after.file) none (h.written t)
    reads_only_by (unread name) h never = h.kept
    reads_only_by (unwritten what) h never = λ t.
        let none : what.written ≡ [] = elim (fit what h.comes).writes [ inl e ↦ e | inr p ↦ let f : ◌≡◌ {A = Bool} true false = sym p.1 ∙ never in absurd cc ] in
        let k = h.part t in
        absurd (subst (λ files. StandsAt k.0 before.file files after.file) none k.1)
    reads_only_by memory_ended h never = h.kept

    none_of_four : (e : Ending) → Holds course before after e → command.writes ≡ false → status_of e ≢ 4
    none_of_four (said what) h never e = (fit what h.comes).own.no_write_fault e
    none_of_four (unread name) h never e = omega (arith, e)
    none_of_four (unwritten what) h never e =
        h.some (elim (fit what h.comes).writes [ inl none ↦ none | inr p ↦ let f : ◌≡◌ {A = Bool} true false = sym p.1 ∙ never in absurd cc ])
    none_of_four memory_ended h never e = omega (arith, e)

    pub reads_only : command.writes ≡ false → (status ≢ 4) × Kept before after
    reads_only never = (
      λ e. elim answer.told [ inl p ↦ none_of_four answer.ending answer.holds never (sym p.0 ∙ e) | inr p ↦ let six = p.0 in omega (arith, six, e) ],
      reads_only_by answer.ending answer.holds never,
    )

    -- each fault has its status
    reads_by : (e : Ending) → Holds course before after e → status_of e ≢ 3 → ReadsStood before after
    reads_by (said what) h never = h.reads_stood
    reads_by (unread name) h never = absurd (never refl)
    reads_by (unwritten what) h never = h.reads_stood
    reads_by memory_ended h never = h.reads_stood

    writes_by : (e : Ending) → Holds course before after e → status_of e ≢ 4 → WritesStood before after
    writes_by (said what) h never = h.writes_stood
    writes_by (unread name) h never = h.writes_stood
    writes_by (unwritten what) h never = absurd (never refl)
    writes_by memory_ended h never = h.writes_stood

    pub reads_stood : before.exact → status ≢ 3 → status ≢ 6 → after.read_faults ≡ before.read_faults
    reads_stood x a c = elim answer.told [ inl p ↦ reads_by answer.ending answer.holds (λ e. a (p.0 ∙ e)) x | inr p ↦ absurd (c p.0) ]

    pub writes_stood : before.exact → status ≢ 4 → status ≢ 6 → after.write_faults ≡ before.write_faults
    writes_stood x a c = elim answer.told [ inl p ↦ writes_by answer.ending answer.holds (λ e. a (p.0 ∙ e)) x | inr p ↦ absurd (c p.0) ]

    pub sink_stood : sink.exact → status ≢ 6 → sink'.faults ≡ sink.faults
    sink_stood x c = elim answer.told [ inl p ↦ p.1.stood x | inr p ↦ absurd (c p.0) ]

    -- what comes where it is told what the store holds
    module _ (t : before.tells) where
      one_comes : (a b : Saying) → Comes course before (says a) → Comes course before (says b) → a ≡ b
      one_comes a b h k = one_end before t course (decided.one_deed query) a b h k

      not_absent : (name : List ℕ) (what : Saying) → Comes course before (reads name) → Comes course before (says what) → before.file name ≡ None → ⊥
      not_absent name what h k e = none_missing before t course (decided.one_deed query) name what h k e

      -- where no count rises
      by_counts : (what : Saying) → Comes course before (says what) → NoneRose before after sink sink' → (status ≡ what.status) ⊎ EndsInMemory sink sink' status
      by_counts what comes none = elim answer.told [ inl p ↦ by answer.ending answer.holds p.0 p.1 | inr p ↦ absurd (none.report p.1.rose) ]
        where
          by : (e : Ending) → Holds course before after e → status ≡ status_of e → Takes sink sink' (report_of e) → (status ≡ what.status) ⊎ EndsInMemory sink sink' status
          by (said other) h p takes = inl (p ∙ ap (λ (x : Saying). x.status) (one_comes other what h.comes comes))
          by (unread name) h p takes = absurd (none.read h.rose)
          by (unwritten other) h p takes = absurd (none.write h.rose)
          by memory_ended h p takes = inr (inl (p, takes))

      -- where the rooms suffice, the sink fails in nothing but to say that memory ended
      memory_broken : RoomsSuffice course before sink → (e : Ending) → Holds course before after e → ((name : List ℕ) → Holds course before after (unread name) → ⊥) → status ≡ 6 → BreaksOff sink sink' (report_of e) → EndsInMemory sink sink' status
      memory_broken rooms (said what) h never is broken = let k = rooms.for_sink what h.comes in let less = broken.lacks rooms.sink_told in absurd (omega (arith, k, less))
      memory_broken rooms (unread name) h never is broken = absurd (never name h)
      memory_broken rooms (unwritten what) h never is broken = absurd (rooms.for_store what h.comes (h.lacks rooms.store_told))
      memory_broken rooms memory_ended h never is broken = inr (is, broken)

      by_rooms : (what : Saying) → Comes course before (says what) → RoomsSuffice course before sink → (status ≡ what.status) ⊎ EndsInMemory sink sink' status
      by_rooms what comes rooms = elim answer.told [
        | inl p ↦ by answer.ending answer.holds p.0 p.1
        | inr p ↦ inr (memory_broken rooms answer.ending answer.holds none_unread p.0 p.1)
      ]
        where
          none_unread : (name : List ℕ) → Holds course before after (unread name) → ⊥
          none_unread name h = not_absent name what h.comes comes (h.absent rooms.store_told)

          by : (e : Ending) → Holds course before after e → status ≡ status_of e → Takes sink sink' (report_of e) → (status ≡ what.status) ⊎ EndsInMemory sink sink' status
          by (said other) h p takes = inl (p ∙ ap (λ (x : Saying). x.status) (one_comes other what h.comes comes))
          by (unread name) h p takes = absurd (none_unread name h)
          by (unwritten other) h p takes = absurd (rooms.for_store other h.comes (h.lacks rooms.store_told))
          by memory_ended h p takes = inr (inl (p, takes))

      pub complete : (what : Saying) → Comes course before (says what) → Undisturbed course before after sink sink' → (status ≡ what.status) ⊎ EndsInMemory sink sink' status
      complete what comes (inl none) = by_counts what comes none
      complete what comes (inr rooms) = by_rooms what comes rooms

      pub missing : (name : List ℕ) → Comes course before (reads name) → before.file name ≡ None → Contains (3 ∷ 6 ∷ 7 ∷ []) status
      missing name comes absent = elim answer.told [ inl p ↦ by answer.ending answer.holds p.0 | inr p ↦ (1, omega arith, sym p.0) ]
        where
          by : (e : Ending) → Holds course before after e → status ≡ status_of e → Contains (3 ∷ 6 ∷ 7 ∷ []) status
          by (said what) h p = absurd (not_absent name what comes h.comes absent)
          by (unread other) h p = (0, omega arith, sym p)
          by (unwritten what) h p = absurd (not_absent name what comes h.comes absent)
          by memory_ended h p = (2, omega arith, sym p)

      pub sure : HasFiles course before → RoomsSuffice course before sink → Contains command.statuses status ⊎ EndsInMemory sink sink' status
      sure files rooms = elim answer.told [
        | inl p ↦ by answer.ending answer.holds p.0 p.1
        | inr p ↦ inr (memory_broken rooms answer.ending answer.holds none_unread p.0 p.1)
      ]
        where
          none_unread : (name : List ℕ) → Holds course before after (unread name) → ⊥
          none_unread name h =
              let there = files name h.comes in
              let e : ◌≡◌ {A = Option (List ℕ)} (Some there.0) None = sym there.1 ∙ h.absent rooms.store_told in
              absurd cc

          by : (e : Ending) → Holds course before after e → status ≡ status_of e → Takes sink sink' (report_of e) → Contains command.statuses status ⊎ EndsInMemory sink sink' status
          by (said what) h p takes = inl (subst (Contains command.statuses) (sym p) (fit what h.comes).listed)
          by (unread name) h p takes = absurd (none_unread name h)
          by (unwritten what) h p takes = absurd (rooms.for_store what h.comes (h.lacks rooms.store_told))
          by memory_ended h p takes = inr (inl (p, takes))

    pub promised : Promises command query before after sink sink' status
    promised = record {
      statuses = statuses;
      said = says_so;
      read_fault = read_fault;
      write_fault = write_fault;
      sink_fault = sink_fault;
      memory = memory;
      untouched = untouched;
      reads_only = reads_only;
      complete = complete;
      missing = missing;
      sure = sure;
      reads_stood = reads_stood;
      writes_stood = writes_stood;
      sink_stood = sink_stood;
    }

-- ---- several commands

further_is : (x y : List ℕ) (xs ys : List (List ℕ)) → x ∷ xs ≡ y ∷ ys → (x ≡ y) × (xs ≡ ys)
further_is x y xs ys e = (cc, cc)

-- a course for the further words is one for the words
module _ {Which : Type 0} (commands : Which → Command) (apart : (a b : Which) → (commands a).word ≡ (commands b).word → a ≡ b) (words : List (List ℕ)) where
  -- what is said for the further words of one command is said for the words
  pub for_words : (which : Which) (further : List (List ℕ)) → words ≡ (commands which).word ∷ further → Follows (CourseFor (commands which) further) (CourseOf commands words)
  for_words which further is files deed (inl x) = inl (which, x.0, (further, is, x.1), x.2)
  for_words which further is files deed (inr x) = inr (none, x.1)
    where
      none_by : (other : Which) (query : (commands other).Query) → other ≡ which → (commands other).Asks further query → ⊥
      none_by other query same asks =
          let None : Which → Type 0 = λ w. (r : (commands w).Query) → (commands w).Asks further r → ⊥ in
          subst None (sym same) x.0 query asks

      none : (other : Which) (query : (commands other).Query) → Asked (commands other) words query → ⊥
      none other query asked =
          let same = further_is (commands other).word (commands which).word asked.0 further (sym asked.1 ∙ is) in
          none_by other query (apart other which same.0) (subst (λ more. (commands other).Asks more query) same.1 asked.2)

-- where no command has the first word, or there is none, the words ask for nothing
pub other_word : {Which : Type 0} (commands : Which → Command) (word : List ℕ) (further : List (List ℕ)) → ((which : Which) → word ≢ (commands which).word) → (which : Which) (query : (commands which).Query) → Asked (commands which) (word ∷ further) query → ⊥
other_word commands word further none which query asked = none which (further_is word (commands which).word further asked.0 asked.1).0

pub no_word : {Which : Type 0} (commands : Which → Command) (which : Which) (query : (commands which).Query) → Asked (commands which) [] query → ⊥
no_word commands which query asked = none_is_some (commands which).word asked.0 asked.1
  where
    none_is_some : (x : List ℕ) (xs : List (List ℕ)) → [] ≡ x ∷ xs → ⊥
    none_is_some x xs e = cc

-- words that ask for nothing
module _ {Which : Type 0} (commands : Which → Command) (words : List (List ℕ)) (none : (which : Which) (query : (commands which).Query) → Asked (commands which) words query → ⊥) where
  only_usage : (files : List PlainFile) (what : Saying) → Leads (CourseOf commands words) files (says what) → what ≡ usage
  only_usage [] what (inl x) = absurd (none x.0 x.1 x.2)
  only_usage [] what (inr x) = one_saying what usage x.1
  only_usage (f ∷ files) what (inl x, rest) = absurd (none x.0 x.1 x.2)
  only_usage (f ∷ files) what (inr x, rest) = absurd (never_reads f.name usage x.1)

  no_reading : (files : List PlainFile) (name : List ℕ) → Leads (CourseOf commands words) files (reads name) → ⊥
  no_reading [] name (inl x) = none x.0 x.1 x.2
  no_reading [] name (inr x) = never_reads name usage x.1
  no_reading (f ∷ files) name (inl x, rest) = none x.0 x.1 x.2
  no_reading (f ∷ files) name (inr x, rest) = never_reads f.name usage x.1

  pub usage_statuses : (before after : StoreState) (sink sink' : SinkState) (status : ℕ) → Answers (CourseOf commands words) before after sink sink' status → Contains (2 ∷ 6 ∷ 7 ∷ []) status
  usage_statuses before after sink sink' status answer = elim answer.told [ inl p ↦ by answer.ending answer.holds p.0 | inr p ↦ (1, omega arith, sym p.0) ]
    where
      by : (e : Ending) → Holds (CourseOf commands words) before after e → status ≡ status_of e → Contains (2 ∷ 6 ∷ 7 ∷ []) status
      by (said what) h p = (0, omega arith, sym (p ∙ ap (λ (x : Saying). x.status) (only_usage h.comes.files what h.comes.leads)))
      by (unread name) h p = absurd (no_reading h.comes.files name h.comes.leads)
      by (unwritten what) h p = absurd (h.some (ap (λ (x : Saying). x.written) (only_usage h.comes.files what h.comes.leads)))
      by memory_ended h p = (2, omega arith, sym p)

-- what the words ask of one command, they ask of no other
module _ {Which : Type 0} (commands : Which → Command) (decided : (which : Which) → IsDecidedCommand (commands which)) (apart : (a b : Which) → (commands a).word ≡ (commands b).word → a ≡ b) (words : List (List ℕ)) where
  same_further : (x y : List ℕ) (xs ys : List (List ℕ)) → x ∷ xs ≡ y ∷ ys → (x ≡ y) × (xs ≡ ys)
  same_further x y xs ys e = (cc, cc)

  moved : (a b : Which) (p : (commands a).Query) (q : (commands b).Query) (xs : List (List ℕ)) → a ≡ b → (commands a).Asks xs p → (commands b).Asks xs q → Follows ((commands a).Does p) ((commands b).Does q)
  moved a b p q xs same h k =
      let Moves : Which → Type 0 = λ w. (r : (commands w).Query) → (commands w).Asks xs r → Follows ((commands a).Does p) ((commands w).Does r) in
      subst Moves same (λ r asks files deed does. subst (λ x. (commands a).Does x files deed) ((decided a).one_query xs p r h asks) does) q k

  pub follows_one : (which : Which) (query : (commands which).Query) → Asked (commands which) words query → Follows (CourseOf commands words) ((commands which).Does query)
  follows_one which query asked files deed (inl x) =
      let same = same_further (commands x.0).word (commands which).word x.2.0 asked.0 (sym x.2.1 ∙ asked.1) in
      moved x.0 which x.1 query asked.0 (apart x.0 which same.0) (subst (λ more. (commands x.0).Asks more x.1) same.1 x.2.2) asked.2 files deed x.3
  follows_one which query asked files deed (inr x) = absurd (x.0 which query asked)

  pub promises_of : (before after : StoreState) (sink sink' : SinkState) (status : ℕ) → Answers (CourseOf commands words) before after sink sink' status
      → (which : Which) (query : (commands which).Query) → Asked (commands which) words query → Promises (commands which) query before after sink sink' status
  promises_of before after sink sink' status answer which query asked =
      promised (commands which) (decided which) query before after sink sink' status
      (answers_by (CourseOf commands words) ((commands which).Does query) before after sink sink' status (follows_one which query asked) answer)

  -- one thing is done for the words
  pub course_decided : IsDecided (CourseOf commands words)
  course_decided files a b (inl x) (inl y) =
      (decided y.0).one_deed y.1 files a b (follows_one y.0 y.1 y.2 files a (inl x)) y.3
  course_decided files a b (inl x) (inr y) = absurd (y.0 x.0 x.1 x.2)
  course_decided files a b (inr x) (inl y) = absurd (x.0 y.0 y.1 y.2)
  course_decided files a b (inr x) (inr y) = x.1 ∙ sym y.1

-- all the commands as one: the words are what is asked of it
module _ {Which : Type 0} (commands : Which → Command) (decided : (which : Which) → IsDecidedCommand (commands which)) (apart : (a b : Which) → (commands a).word ≡ (commands b).word → a ≡ b) (statuses : List ℕ) (listed : (which : Which) (n : ℕ) → Contains (commands which).statuses n → Contains statuses n) (two : Contains statuses 2) where
  fits_all : (words : List (List ℕ)) (files : List PlainFile) (what : Saying) → CourseOf commands words files (says what) → IsFit (program commands statuses) what
  fits_all words files what (inl x) =
      let f = (decided x.0).fits x.1 files what x.3 in
      record { listed = listed x.0 what.status f.listed; own = f.own; writes = elim f.writes [ inl none ↦ inl none | inr p ↦ inr (p.0, refl) ] }
  fits_all words files what (inr x) = subst (IsFit (program commands statuses)) (sym (one_saying what usage x.1)) (tells_fits (program commands statuses) 2 usage.report two (inl (omega arith)))

  pub all_decided : IsDecidedCommand (program commands statuses)
  all_decided = record {
    one_query = λ further a b h k. sym h ∙ k;
    one_deed = λ words. course_decided commands decided apart words;
    fits = fits_all;
  }
