-- What a walk over renamed lines reads is what the walk over the lines read, renamed.
use Rattle.std.proofs.Common.{◌≡◌, ℕ, Bool, true, false, cond, List, [], ◌∷◌, ◌++◌, map, drop, Option, Some, None, refl, ap, sym, subst}
use Rattle.std.specs.Prelude.{⊤}
use Rattle.std.specs.List.{AllByRecursion}
use Rattle.std.proofs.lemmas.Grind.{flat_map-append}
use Rattle.text_edits.specs.Span.{PlainSpan}
use Rattle.c_text.specs.Token.{PlainToken}
use Rattle.c_text.specs.Lines.{PlainLine}
use Rattle.c_text.specs.Directives.{PlainDirective, if_line, ifdef_line, ifndef_line, elif_line, else_line, endif_line, define_line, bad_define, undef_line, include_line, error_line, null_line, malformed, directive_of}
use Rattle.c_text.specs.Macros.{Table}
use Rattle.c_text.specs.Trees.{Role, begins, begins_branch, begins_last, closes, stands_alone, role_of}
use Rattle.c_text.specs.Preprocessing.{Refusal, refused_token, refused_ignored, Reading, Flow, on, refused, read_run, Condition, holds, fails, condition_at, Source, source_of, Setting, read_directive}
use Rattle.renamings.specs.Renamings.{Renaming, renamed_token, renamed_line}
use Rattle.active_tokens.specs.Reads.{Read, read_of, reads_behind, unless_refused, Following, by_truth, included_reads, reads_of_inclusion, reads_of_directive}
use Rattle.file_walks.specs.Walk.{Open, reads, waits, passed, skipped, Walk, are_read, with_groups, text_read}
use Rattle.read_walks.specs.WalkReads.{reads_at_flush, reads_at_name, reads_at_end, reads_at_begun, reads_at_group, reads_at_branch, reads_at_directive, reads_by_role, reads_of_step, reads_of_walk, one_by_one, by_token}
use Rattle.renamed_units.specs.Pairs.{Pairs}
use Rattle.renamed_units.proofs.Alike.{AlikeTables, AlikeReadings, AlikeFlows}
use Rattle.renamed_units.proofs.Pairs.{pairs-append}
use Rattle.renamed_units.proofs.Runs.{IsStanding, AlikeRefusals, run-alike}
use Rattle.renamed_units.proofs.Conditions.{AreMoved, pairs-drop, moved-token-refused, moved-ignored-refused, AlikeConditions}
use Rattle.renamed_units.proofs.Directives.{AreAllMoved, AlikeDirectives, directive-moved, role-moved, source-moved}
use Rattle.renamed_units.proofs.Readings.{AreQuiet, AlikeSettings, condition-alike, directive-read-alike}
use Rattle.renamed_units.proofs.Walks.{each-left, each-right, IsLine, all-given, AlikeWalks, grouped, line-moved, text-alike}

module _ (r : Renaming) where
  pub record AlikeReads (a b : Read) : Type 0 where
    pub tokens : b.tokens ≡ map (renamed_token r) a.tokens
    pub tables : AlikeTables r a.table b.table

  -- token by token
  abbrev pub AreAlikeReads : List Read → List Read → Type 0
  AreAlikeReads xs ys = Pairs AlikeReads (by_token xs) (by_token ys)

  one-by-one-alike : (x y : Read) → AlikeReads x y → Pairs AlikeReads (one_by_one x) (one_by_one y)
  one-by-one-alike x y a =
      subst (λ (l : List PlainToken). Pairs AlikeReads (one_by_one x) (map (λ token. record y { tokens = token ∷ [] }) l)) (sym a.tokens) (each x.tokens)
    where
      each : (tokens : List PlainToken) → Pairs AlikeReads (map (λ token. record x { tokens = token ∷ [] }) tokens) (map (λ token. record y { tokens = token ∷ [] }) (map (renamed_token r) tokens))
      each [] = tt
      each (token ∷ tokens) = (record { tokens = refl; tables = a.tables }, each tokens)

  more-reads : (x y : Read) (xs ys : List Read) → AlikeReads x y → AreAlikeReads xs ys → AreAlikeReads (x ∷ xs) (y ∷ ys)
  more-reads x y xs ys a p = pairs-append AlikeReads (one_by_one x) (by_token xs) (one_by_one y) (by_token ys) (one-by-one-alike x y a) p

  joined-reads : (xs ys us vs : List Read) → AreAlikeReads xs us → AreAlikeReads ys vs → AreAlikeReads (xs ++ ys) (us ++ vs)
  joined-reads xs ys us vs p q =
      subst (λ (l : List Read). Pairs AlikeReads l (by_token (us ++ vs))) (sym (flat_map-append one_by_one xs ys))
      (subst (λ (l : List Read). Pairs AlikeReads (by_token xs ++ by_token ys) l) (sym (flat_map-append one_by_one us vs))
      (pairs-append AlikeReads (by_token xs) (by_token ys) (by_token us) (by_token vs) p q))

  read-alike : (a b : Reading) (as_ bs : List PlainToken) → AlikeReadings r a b → bs ≡ map (renamed_token r) as_ → AlikeReads (read_of a as_) (read_of b bs)
  read-alike a b as_ bs t e = record { tokens = e; tables = t.tables }

  behind-reads : (x y : Flow) (what what' : Reading → List Read) → AlikeFlows r x y → ((a b : Reading) → AlikeReadings r a b → AreQuiet r (what a) → AreAlikeReads (what a) (what' b)) → AreQuiet r (reads_behind x what) → AreAlikeReads (reads_behind x what) (reads_behind y what')
  behind-reads (on a) (on b) what what' p k q = k a b p q
  behind-reads (on a) (refused w) what what' p k q = absurd p
  behind-reads (refused v) (on b) what what' p k q = absurd p
  behind-reads (refused v) (refused w) what what' p k q = tt

  choose-reads : (b c : Bool) (x y u v : List Read) → c ≡ b → (AreQuiet r x → AreAlikeReads x u) → (AreQuiet r y → AreAlikeReads y v) → AreQuiet r (cond b x y) → AreAlikeReads (cond b x y) (cond c u v)
  choose-reads true true x y u v e f g a = f a
  choose-reads false false x y u v e f g a = g a
  choose-reads true false x y u v e f g a = let h : ⊥ = cc in absurd h
  choose-reads false true x y u v e f g a = let h : ⊥ = cc in absurd h

  module _ (At : ℕ → PlainSpan → Type 0) (standing : IsStanding r At) where
    unless-reads : (f g : Option Refusal) (x y : List Read) → AlikeRefusals r At standing f g → (AreQuiet r x → AreAlikeReads x y) → AreQuiet r (unless_refused f x) → AreAlikeReads (unless_refused f x) (unless_refused g y)
    unless-reads None None x y p k q = k q
    unless-reads None (Some w) x y p k q = absurd p
    unless-reads (Some v) None x y p k q = absurd p
    unless-reads (Some v) (Some w) x y p k q = tt

    by-truth-reads : (s s' : Setting) (f f' : Following) (table table' : Table) (tables : AlikeTables r table table') (c d : Condition) (x y u v : List Read) → AlikeConditions r At standing table table' tables c d → (AreQuiet r x → AreAlikeReads x u) → (AreQuiet r y → AreAlikeReads y v) → AreQuiet r (by_truth s f c x y) → AreAlikeReads (by_truth s f c x y) (by_truth s' f' d u v)
    by-truth-reads s s' f f' table table' tables (holds true) (holds true) x y u v p t o q = t q
    by-truth-reads s s' f f' table table' tables (holds false) (holds false) x y u v p t o q = o q
    by-truth-reads s s' f f' table table' tables (holds true) (holds false) x y u v p t o q = let h : ⊥ = cc in absurd h
    by-truth-reads s s' f f' table table' tables (holds false) (holds true) x y u v p t o q = let h : ⊥ = cc in absurd h
    by-truth-reads s s' f f' table table' tables (holds a) (fails w) x y u v p t o q = absurd p
    by-truth-reads s s' f f' table table' tables (fails v2) (holds b) x y u v p t o q = absurd p
    by-truth-reads s s' f f' table table' tables (fails v2) (fails w) x y u v p t o q = tt

    -- walks that read alike from here on
    abbrev Further : (Walk → List Read) → (Walk → List Read) → Type 0
    Further what what' = (v w : Walk) → AlikeWalks r At standing v w → AreQuiet r (what v) → AreAlikeReads (what v) (what' w)

    flush-reads : (v w : Walk) (what what' : Walk → List Read) → AlikeWalks r At standing v w → Further what what' → AreQuiet r (reads_at_flush v what) → AreAlikeReads (reads_at_flush v what) (reads_at_flush w what')
    flush-reads v w what what' a k q =
        more-reads (read_of v.reading v.run) (read_of w.reading w.run) (reads_behind (read_run v.reading v.run) (λ after. what (record v { reading = after; run = [] }))) (reads_behind (read_run w.reading w.run) (λ after. what' (record w { reading = after; run = [] })))
        (read-alike v.reading w.reading v.run w.run a.reading a.run)
        (behind-reads (read_run v.reading v.run) (read_run w.reading w.run) (λ after. what (record v { reading = after; run = [] })) (λ after. what' (record w { reading = after; run = [] }))
        (subst (λ (l : List PlainToken). AlikeFlows r (read_run v.reading v.run) (read_run w.reading l)) (sym a.run)
        (run-alike r At standing ⊤ v.reading w.reading a.reading v.run (map (renamed_token r) v.run) (all-given r At standing v.reading.table w.reading.table a.reading.tables v.run a.tokens q.0)))
        (λ x y t z. k (record v { reading = x; run = [] }) (record w { reading = y; run = [] }) (record { reading = t; tokens = tt; run = refl; groups = a.groups }) z)
        q.1)

    -- how included files are read
    abbrev pub AlikeDeeperReads : (Source → Type 0) → Option (Source → Reading → List Read) → Option (Source → Reading → List Read) → Type 0
    AlikeDeeperReads There None None = ⊤
    AlikeDeeperReads There (Some what) (Some what') = (source : Source) → There source → (a b : Reading) → AlikeReadings r a b → AreQuiet r (what source a) → AreAlikeReads (what source a) (what' source b)
    AlikeDeeperReads There other another = ⊥

    module _ (There : Source → Type 0) (s s' : Setting) (f f' : Following) (settings : AlikeSettings r There s s' f) (further : AlikeDeeperReads There f.deeper f'.deeper) (file : ℕ) where
      abbrev new : PlainLine → PlainLine
      new line = renamed_line r file line

      abbrev Moved : PlainLine → Type 0
      Moved line = AreAllMoved r At standing line.tokens (new line).tokens

      line-reads : (v w : Walk) (line : PlainLine) → AlikeWalks r At standing v w → AlikeReads (read_of v.reading line.tokens) (read_of w.reading (new line).tokens)
      line-reads v w line a = read-alike v.reading w.reading line.tokens (new line).tokens a.reading refl

      begun-reads : (v w : Walk) (line : PlainLine) (last : Bool) (outer : List Open) (what what' : Walk → List Read) → AlikeWalks r At standing v w → Moved line → Further what what' → AreQuiet r (reads_at_begun s f v line last outer what) → AreAlikeReads (reads_at_begun s f v line last outer what) (reads_at_begun s' f' w (new line) last outer what')
      begun-reads v w line last outer what what' a m k q =
          more-reads (read_of v.reading line.tokens) (read_of w.reading (new line).tokens)
          (by_truth s f (condition_at s.value_of v.reading.table line.tokens) (what (with_groups v (reads last ∷ outer))) (what (with_groups v (waits last ∷ outer))))
          (by_truth s' f' (condition_at s'.value_of w.reading.table (new line).tokens) (what' (with_groups w (reads last ∷ outer))) (what' (with_groups w (waits last ∷ outer))))
          (line-reads v w line a)
          (by-truth-reads s s' f f' v.reading.table w.reading.table a.reading.tables (condition_at s.value_of v.reading.table line.tokens) (condition_at s'.value_of w.reading.table (new line).tokens)
          (what (with_groups v (reads last ∷ outer))) (what (with_groups v (waits last ∷ outer))) (what' (with_groups w (reads last ∷ outer))) (what' (with_groups w (waits last ∷ outer)))
          (condition-alike r At standing There s s' f settings v.reading.table w.reading.table a.reading.tables line.tokens (new line).tokens m)
          (k (with_groups v (reads last ∷ outer)) (with_groups w (reads last ∷ outer)) (grouped r At standing v w (reads last ∷ outer) a))
          (k (with_groups v (waits last ∷ outer)) (with_groups w (waits last ∷ outer)) (grouped r At standing v w (waits last ∷ outer) a)) q.1)

      name-reads : (v w : Walk) (line : PlainLine) (groups : List Open) (what what' : Walk → List Read) → AlikeWalks r At standing v w → Moved line → Further what what' → AreQuiet r (reads_at_name v line (what (with_groups v groups))) → AreAlikeReads (reads_at_name v line (what (with_groups v groups))) (reads_at_name w (new line) (what' (with_groups w groups)))
      name-reads v w line groups what what' a m k q =
          more-reads (read_of v.reading line.tokens) (read_of w.reading (new line).tokens) (unless_refused (refused_ignored (drop 2 line.tokens)) (what (with_groups v groups)))
          (unless_refused (refused_ignored (drop 2 (new line).tokens)) (what' (with_groups w groups))) (line-reads v w line a)
          (unless-reads (refused_ignored (drop 2 line.tokens)) (refused_ignored (drop 2 (new line).tokens)) (what (with_groups v groups)) (what' (with_groups w groups))
          (moved-ignored-refused r At standing v.reading.table w.reading.table a.reading.tables (drop 2 line.tokens) (drop 2 (new line).tokens) (pairs-drop (AreMoved r At standing) 2 line.tokens (new line).tokens m))
          (k (with_groups v groups) (with_groups w groups) (grouped r At standing v w groups a)) q.1)

      group-reads : (v w : Walk) (line : PlainLine) (what what' : Walk → List Read) → AlikeWalks r At standing v w → Moved line → Further what what' → AreQuiet r (reads_at_group s f v line what) → AreAlikeReads (reads_at_group s f v line what) (reads_at_group s' f' w (new line) what')
      group-reads v w line what what' a m k q =
          subst (λ (g : List Open). AreAlikeReads (reads_at_group s f v line what) (cond (are_read g) (reads_at_begun s' f' w (new line) false g what') (what' (with_groups w (skipped false ∷ g))))) (sym a.groups)
          (choose-reads (are_read v.groups) (are_read v.groups) (reads_at_begun s f v line false v.groups what) (what (with_groups v (skipped false ∷ v.groups)))
          (reads_at_begun s' f' w (new line) false v.groups what') (what' (with_groups w (skipped false ∷ v.groups))) refl
          (begun-reads v w line false v.groups what what' a m k)
          (k (with_groups v (skipped false ∷ v.groups)) (with_groups w (skipped false ∷ v.groups)) (grouped r At standing v w (skipped false ∷ v.groups) a)) q)

      branch-reads : (v w : Walk) (line : PlainLine) (last : Bool) (groups : List Open) (what what' : Walk → List Read) → AlikeWalks r At standing v w → Moved line → Further what what' → AreQuiet r (reads_at_branch s f v line last groups what) → AreAlikeReads (reads_at_branch s f v line last groups what) (reads_at_branch s' f' w (new line) last groups what')
      branch-reads v w line last [] what what' a m k q = more-reads (read_of v.reading line.tokens) (read_of w.reading (new line).tokens) [] [] (line-reads v w line a) tt
      branch-reads v w line last (reads false ∷ outer) what what' a m k q = name-reads v w line (passed last ∷ outer) what what' a m k q
      branch-reads v w line last (waits false ∷ outer) what what' a m k q = begun-reads v w line last outer what what' a m k q
      branch-reads v w line last (passed false ∷ outer) what what' a m k q = name-reads v w line (passed last ∷ outer) what what' a m k q
      branch-reads v w line last (skipped false ∷ outer) what what' a m k q =
          k (with_groups v (skipped last ∷ outer)) (with_groups w (skipped last ∷ outer)) (grouped r At standing v w (skipped last ∷ outer) a) q
      branch-reads v w line last (reads true ∷ outer) what what' a m k q = more-reads (read_of v.reading line.tokens) (read_of w.reading (new line).tokens) [] [] (line-reads v w line a) tt
      branch-reads v w line last (waits true ∷ outer) what what' a m k q = tt
      branch-reads v w line last (passed true ∷ outer) what what' a m k q = tt
      branch-reads v w line last (skipped true ∷ outer) what what' a m k q = tt

      end-reads : (v w : Walk) (line : PlainLine) (groups : List Open) (what what' : Walk → List Read) → AlikeWalks r At standing v w → Moved line → Further what what' → AreQuiet r (reads_at_end v line groups what) → AreAlikeReads (reads_at_end v line groups what) (reads_at_end w (new line) groups what')
      end-reads v w line [] what what' a m k q = more-reads (read_of v.reading line.tokens) (read_of w.reading (new line).tokens) [] [] (line-reads v w line a) tt
      end-reads v w line (reads last ∷ outer) what what' a m k q = name-reads v w line outer what what' a m k q
      end-reads v w line (waits last ∷ outer) what what' a m k q = name-reads v w line outer what what' a m k q
      end-reads v w line (passed last ∷ outer) what what' a m k q = name-reads v w line outer what what' a m k q
      end-reads v w line (skipped last ∷ outer) what what' a m k q = k (with_groups v outer) (with_groups w outer) (grouped r At standing v w outer a) q

      included-reads-alike : (a b : Reading) (as_ bs : List PlainToken) (what what' : Option (Source → Reading → List Read)) (source : Option Source) → AlikeReadings r a b → AreAllMoved r At standing as_ bs → AlikeDeeperReads There what what' → ((x : Source) → source ≡ Some x → There x) → AreQuiet r (included_reads s f a as_ what source) → AreAlikeReads (included_reads s f a as_ what source) (included_reads s' f' b bs what' source)
      included-reads-alike a b as_ bs what what' None t p d there q = tt
      included-reads-alike a b as_ bs None None (Some x) t p d there q = tt
      included-reads-alike a b as_ bs None (Some what') (Some x) t p d there q = absurd d
      included-reads-alike a b as_ bs (Some what) None (Some x) t p d there q = absurd d
      included-reads-alike a b as_ bs (Some what) (Some what') (Some x) t p d there q =
          unless-reads (refused_token as_) (refused_token bs) (what x a) (what' x b) (moved-token-refused r At standing a.table b.table t.tables as_ bs p) (d x (there x refl) a b t) q

      inclusion-reads : (a b : Reading) (x y : PlainDirective) → AlikeReadings r a b → AlikeDirectives r At standing x y → AreQuiet r (reads_of_inclusion s f a x) → AreAlikeReads (reads_of_inclusion s f a x) (reads_of_inclusion s' f' b y)
      inclusion-reads a b (include_line cs) (include_line ds) t p q =
          let e : source_of s'.headers s'.name ds ≡ source_of s.headers s.name cs = rw (settings.headers, settings.name) (source-moved r At standing s.headers s.name cs ds p) in
          subst (λ (x : Option Source). AreAlikeReads (included_reads s f a cs f.deeper (source_of s.headers s.name cs)) (included_reads s' f' b ds f'.deeper x)) (sym e)
          (included-reads-alike a b cs ds f.deeper f'.deeper (source_of s.headers s.name cs) t p further (settings.there cs) q)
      inclusion-reads a b (if_line cs) (if_line ds) t p q = tt
      inclusion-reads a b (elif_line cs) (elif_line ds) t p q = tt
      inclusion-reads a b (ifdef_line c) (ifdef_line d) t p q = tt
      inclusion-reads a b (ifndef_line c) (ifndef_line d) t p q = tt
      inclusion-reads a b else_line else_line t p q = tt
      inclusion-reads a b endif_line endif_line t p q = tt
      inclusion-reads a b (define_line m) (define_line n) t p q = tt
      inclusion-reads a b bad_define bad_define t p q = tt
      inclusion-reads a b (undef_line c) (undef_line d) t p q = tt
      inclusion-reads a b error_line error_line t p q = tt
      inclusion-reads a b null_line null_line t p q = tt
      inclusion-reads a b malformed malformed t p q = tt
      inclusion-reads a b x y t p q = absurd p

      directive-reads : (v w : Walk) (line : PlainLine) (what what' : Walk → List Read) → AlikeWalks r At standing v w → Moved line → Further what what' → AreQuiet r (reads_at_directive s f v line what) → AreAlikeReads (reads_at_directive s f v line what) (reads_at_directive s' f' w (new line) what')
      directive-reads v w line what what' a m k q =
          choose-reads (are_read v.groups) (are_read w.groups) (here ++ behind) (what v) (here' ++ behind') (what' w) (ap are_read a.groups)
          (λ z.
          let inner : AreQuiet r (reads_of_inclusion s f v.reading (directive_of line.tokens)) = each-left _ (reads_of_inclusion s f v.reading (directive_of line.tokens)) _ z.1 in
          more-reads (read_of v.reading line.tokens) (read_of w.reading (new line).tokens) (reads_of_inclusion s f v.reading (directive_of line.tokens) ++ behind) (reads_of_inclusion s' f' w.reading (directive_of (new line).tokens) ++ behind') (line-reads v w line a)
          (joined-reads (reads_of_inclusion s f v.reading (directive_of line.tokens)) behind (reads_of_inclusion s' f' w.reading (directive_of (new line).tokens)) behind'
          (inclusion-reads v.reading w.reading (directive_of line.tokens) (directive_of (new line).tokens) a.reading (directive-moved r At standing line.tokens (new line).tokens m) inner)
          (behind-reads (read_directive s v.reading line.tokens) (read_directive s' w.reading (new line).tokens) (λ after. what (record v { reading = after })) (λ after. what' (record w { reading = after }))
          (directive-read-alike r At standing There s s' f settings v.reading w.reading line.tokens (new line).tokens a.reading m inner)
          (λ x y t z2. k (record v { reading = x }) (record w { reading = y }) (record { reading = t; tokens = a.tokens; run = a.run; groups = a.groups }) z2)
          (each-right _ (reads_of_inclusion s f v.reading (directive_of line.tokens)) _ z.1))))
          (k v w a) q
        where
          here : List Read
          here = reads_of_directive s f v.reading line.tokens

          here' : List Read
          here' = reads_of_directive s' f' w.reading (new line).tokens

          behind : List Read
          behind = reads_behind (read_directive s v.reading line.tokens) (λ after. what (record v { reading = after }))

          behind' : List Read
          behind' = reads_behind (read_directive s' w.reading (new line).tokens) (λ after. what' (record w { reading = after }))

      role-reads : (role : Role) (v w : Walk) (line : PlainLine) (what what' : Walk → List Read) → AlikeWalks r At standing v w → Moved line → Further what what' → AreQuiet r (reads_by_role s f role v line what) → AreAlikeReads (reads_by_role s f role v line what) (reads_by_role s' f' role w (new line) what')
      role-reads begins v w line what what' a m k q = group-reads v w line what what' a m k q
      role-reads begins_branch v w line what what' a m k q =
          subst (λ (g : List Open). AreAlikeReads (reads_at_branch s f v line false v.groups what) (reads_at_branch s' f' w (new line) false g what')) (sym a.groups) (branch-reads v w line false v.groups what what' a m k q)
      role-reads begins_last v w line what what' a m k q =
          subst (λ (g : List Open). AreAlikeReads (reads_at_branch s f v line true v.groups what) (reads_at_branch s' f' w (new line) true g what')) (sym a.groups) (branch-reads v w line true v.groups what what' a m k q)
      role-reads closes v w line what what' a m k q =
          subst (λ (g : List Open). AreAlikeReads (reads_at_end v line v.groups what) (reads_at_end w (new line) g what')) (sym a.groups) (end-reads v w line v.groups what what' a m k q)
      role-reads stands_alone v w line what what' a m k q = directive-reads v w line what what' a m k q

      step-reads : (v w : Walk) (line : PlainLine) (what what' : Walk → List Read) → AlikeWalks r At standing v w → IsLine r At standing line → Further what what' → AreQuiet r (reads_of_step s f v line what) → AreAlikeReads (reads_of_step s f v line what) (reads_of_step s' f' w (new line) what')
      step-reads v w line what what' a i k q = either line.directive refl q
        where
          either : (b : Bool) → line.directive ≡ b → AreQuiet r (cond b (reads_at_flush v (λ after. reads_by_role s f (role_of line.tokens) after line what)) (what (text_read v line))) → AreAlikeReads (cond b (reads_at_flush v (λ after. reads_by_role s f (role_of line.tokens) after line what)) (what (text_read v line))) (cond b (reads_at_flush w (λ after. reads_by_role s' f' (role_of (new line).tokens) after (new line) what')) (what' (text_read w (new line))))
          either true e z =
              let m = line-moved r At standing There s s' f settings file line i e in
              flush-reads v w (λ after. reads_by_role s f (role_of line.tokens) after line what) (λ after. reads_by_role s' f' (role_of (new line).tokens) after (new line) what') a
              (λ x y t u. subst (λ (role : Role). AreAlikeReads (reads_by_role s f (role_of line.tokens) x line what) (reads_by_role s' f' role y (new line) what')) (sym (role-moved r At standing line.tokens (new line).tokens m)) (role-reads (role_of line.tokens) x y line what what' t m k u))
              z
          either false e z = k (text_read v line) (text_read w (new line)) (text-alike r At standing There s s' f settings file v w line a i) z

      pub walk-reads : (lines : List PlainLine) (v w : Walk) → AllByRecursion (IsLine r At standing) lines → AlikeWalks r At standing v w → AreQuiet r (reads_of_walk s f v lines) → AreAlikeReads (reads_of_walk s f v lines) (reads_of_walk s' f' w (map (renamed_line r file) lines))
      walk-reads [] v w i a q = flush-reads v w (λ after. []) (λ after. []) a (λ x y t u. tt) q
      walk-reads (line ∷ lines) v w i a q =
          step-reads v w line (λ after. reads_of_walk s f after lines) (λ after. reads_of_walk s' f' after (map (renamed_line r file) lines)) a i.0
          (λ x y t u. walk-reads lines x y i.1 t u) q
