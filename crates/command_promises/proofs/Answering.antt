-- What a call came to, and then its files and its report, are an answer.
use Rattle.std.proofs.Common.{◌≡◌, inl, inr, ℕ, zero, suc, List, [], ◌∷◌, Result, Ok, Err, refl, sym, ap, ◌∙◌, arith}
use Rattle.text_edits.specs.Files.{PlainFile, Lookup, plain_files}
use Rattle.project_store.specs.Faults.{HasCause}
use Rattle.project_store.specs.Lookup.{PutsFile}
use Rattle.project_store.specs.Room.{names_taken}
use Rattle.project_store.specs.States.{StoreState, SinkState, IsReadAlone}
use Rattle.command_promises.specs.declared.said.Said.{Said}
use Rattle.command_promises.specs.declared.said.Stop.{Stop}
use Rattle.command_promises.specs.declared.said.Stop.TheVariants.{ReadFault, WantOfMemory}
use Rattle.command_promises.specs.Courses.{reads, says, Course, Comes}
use Rattle.command_promises.specs.Sayings.{saying, CameTo}
use Rattle.command_promises.specs.Writing.{PutsAll, StandsAt, names_needed, LacksRoomFor}
use Rattle.command_promises.specs.Endings.{Ending, said, unread, unwritten, memory_ended, ReadsStood, Holds, Answers}
use Rattle.command_promises.specs.Giving.{Finished}
use Rattle.command_promises.proofs.Leading.{Follows, comes_by}

-- courses that follow

pub came_by : (course other : Course) (store : StoreState) (came : Result Said Stop) → Follows course other → CameTo course store came → CameTo other store came
came_by course other store (Ok given) f h = comes_by course other store (says (saying given)) f h
came_by course other store (Err ReadFault) f h =
    record { name = h.name; comes = comes_by course other store (reads h.name) f h.comes; absent = h.absent }
came_by course other store (Err WantOfMemory) f h = tt

holds_by : (course other : Course) (before after : StoreState) (ending : Ending) → Follows course other → Holds course before after ending → Holds other before after ending
holds_by course other before after (said what) f h = record {
  comes = comes_by course other before (says what) f h.comes;
  written = h.written;
  reads_stood = h.reads_stood;
  writes_stood = h.writes_stood;
}
holds_by course other before after (unread name) f h = record {
  comes = comes_by course other before (reads name) f h.comes;
  rose = h.rose;
  kept = h.kept;
  absent = h.absent;
  writes_stood = h.writes_stood;
}
holds_by course other before after (unwritten what) f h = record {
  comes = comes_by course other before (says what) f h.comes;
  some = h.some;
  rose = h.rose;
  part = h.part;
  lacks = h.lacks;
  reads_stood = h.reads_stood;
}
holds_by course other before after memory_ended f h = h

pub answers_by : (course other : Course) (before after : StoreState) (sink sink' : SinkState) (status : ℕ) → Follows course other → Answers course before after sink sink' status → Answers other before after sink sink' status
answers_by course other before after sink sink' status f h =
    record { ending = h.ending; holds = holds_by course other before after h.ending f h.holds; told = h.told }

-- what is written after a call that read alone

module _ (before middle after : StoreState) (alone : IsReadAlone before middle) where
  put_before : (name bytes : List ℕ) (end : Lookup) → before.tells → PutsFile middle.file name bytes end → PutsFile before.file name bytes end
  put_before name bytes end t h = record { named = h.named; others = λ other apart. h.others other apart ∙ sym (alone.files t other) }

  puts_before : (files : List PlainFile) → before.tells → PutsAll middle.file files after.file → PutsAll before.file files after.file
  puts_before [] t h = λ name. alone.files t name ∙ h name
  puts_before (f ∷ files) t h = (h.0, put_before f.name f.bytes h.0 t h.1, h.2)

  stands_before : (k : ℕ) (files : List PlainFile) → before.tells → StandsAt k middle.file files after.file → StandsAt k before.file files after.file
  stands_before k [] t h = h
  stands_before zero (f ∷ files) t h = record {
    named = elim h.named [ inl e ↦ inl (e ∙ sym (alone.files t f.name)) | inr p ↦ inr p ];
    others = λ other apart. h.others other apart ∙ sym (alone.files t other);
  }
  stands_before (suc k) (f ∷ files) t h = (h.0, put_before f.name f.bytes h.0 t h.1, h.2)

  needed_before : (files : List PlainFile) → before.tells → names_needed middle.file files ≡ names_needed before.file files
  needed_before [] t = refl
  needed_before (f ∷ files) t =
      let first : names_taken (middle.file f.name) ≡ names_taken (before.file f.name) = ap names_taken (sym (alone.files t f.name)) in
      let rest = needed_before files t in
      omega (arith, first, rest)

  lacks_before : (files : List PlainFile) → before.tells_room → before.tells → LacksRoomFor middle files → LacksRoomFor before files
  lacks_before files r t (inl few) = let names = alone.names r in let needed = needed_before files t in inl (omega (arith, few, names, needed))
  lacks_before files r t (inr few) = let room = alone.room r in inr (omega (arith, few, room))

  -- a call that read alone, and what became of what it came to
  module _ (sink sink' : SinkState) (status : ℕ) (course : Course) (told : before.tells_room → before.tells) where
    said_answers : (given : Said) → Comes course before (says (saying given)) → ReadsStood before middle
        → Finished (Ok given) middle after sink sink' status → Answers course before after sink sink' status
    said_answers given comes stood (inl h) = record {
      ending = said (saying given);
      holds = record {
        comes = comes;
        written = λ t. puts_before (plain_files given.written) t (h.0.puts (alone.told t));
        reads_stood = λ e. h.0.reads ∙ stood e;
        writes_stood = λ e. h.0.stood (alone.exact e) ∙ alone.writes;
      };
      told = h.1;
    }
    said_answers given comes stood (inr h) = record {
      ending = unwritten (saying given);
      holds = record {
        comes = comes;
        some = h.0.some;
        rose = let r = h.0.rose in let w = alone.writes in omega (arith, r, w);
        part = λ t. let p = h.0.part (alone.told t) in (p.0, stands_before p.0 (plain_files given.written) t p.1);
        lacks = λ r. lacks_before (plain_files given.written) r (told r) (h.0.lacks (alone.room_told r) (alone.told (told r)));
        reads_stood = λ e. h.0.reads ∙ stood e;
      };
      told = h.1;
    }

    pub answers : (came : Result Said Stop) → CameTo course before came → HasCause before.exact before.read_faults middle.read_faults (came ≡ Err ReadFault)
        → Finished came middle after sink sink' status → Answers course before after sink sink' status
    answers (Ok given) comes cause h = said_answers given comes (λ e. cause.stood e (λ no. cc)) h
    answers (Err ReadFault) stops cause h = record {
      ending = unread stops.name;
      holds = record {
        comes = stops.comes;
        rose = let r = cause.rose refl in let e = h.0.reads in omega (arith, r, e);
        kept = λ t. puts_before [] t (h.0.puts (alone.told t));
        absent = stops.absent;
        writes_stood = λ e. h.0.stood (alone.exact e) ∙ alone.writes;
      };
      told = h.1;
    }
    answers (Err WantOfMemory) stops cause h = record {
      ending = memory_ended;
      holds = record {
        kept = λ t. puts_before [] t (h.0.puts (alone.told t));
        reads_stood = λ e. h.0.reads ∙ cause.stood e (λ no. cc);
        writes_stood = λ e. h.0.stood (alone.exact e) ∙ alone.writes;
      };
      told = h.1;
    }
