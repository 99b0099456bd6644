-- Walks over the lines of a file and over the renamed lines are alike.
use Rattle.std.proofs.Common.{◌≡◌, ℕ, Bool, true, false, cond, List, [], ◌∷◌, ◌++◌, map, drop, Option, Some, None, refl, ap, sym, ◌∙◌, subst}
use Rattle.std.specs.Prelude.{⊤}
use Rattle.std.specs.List.{AllByRecursion, list_any}
use Rattle.std.specs.Str.{bytes_eq}
use Rattle.text_edits.specs.Span.{PlainSpan}
use Rattle.c_text.specs.declared.token.TokenKind.TheVariants.{Name}
use Rattle.c_text.specs.Token.{PlainToken}
use Rattle.c_text.specs.Lines.{PlainLine}
use Rattle.c_text.specs.Directives.{predefined_names, directive_of}
use Rattle.c_text.specs.Macros.{Table}
use Rattle.c_text.specs.Trees.{Role, begins, begins_branch, begins_last, closes, stands_alone, role_of}
use Rattle.c_text.specs.Preprocessing.{Refusal, refused_ignored, Reading, Flow, on, refused, then_read, unless, read_run, Condition, holds, fails, condition_at, Source, Setting, read_directive, by_condition}
use Rattle.renamings.specs.Renamings.{Renaming, is_renamed, renamed_token, renamed_line}
use Rattle.active_tokens.specs.Reads.{Read, read_of, reads_behind, unless_refused, Following, by_truth, reads_of_inclusion}
use Rattle.file_walks.specs.Walk.{Open, reads, waits, passed, skipped, Walk, are_read, with_groups, with_run, text_read, flushed, begun, group_read, branch_read, end_read, directive_read, by_role, step, end_of_file, walked}
use Rattle.read_walks.specs.WalkReads.{reads_at_flush, reads_at_name, reads_at_end, reads_at_begun, reads_at_group, reads_at_branch, reads_at_directive, reads_by_role, reads_of_step, reads_of_walk}
use Rattle.renamed_units.proofs.Alike as alike
use Rattle.renamed_units.proofs.Alike.{IsOrdinary, SameText, changes, AlikeTables, AlikeReadings, AlikeFlows}
use Rattle.renamed_units.proofs.Runs.{IsStanding, AlikeRefusals, AreGiven, run-alike}
use Rattle.renamed_units.proofs.Conditions.{AreMoved, pairs-drop, moved-ignored-refused, AlikeConditions}
use Rattle.renamed_units.proofs.Directives.{AreAllMoved, role-moved}
use Rattle.renamed_units.proofs.Readings.{IsQuietIn, AreQuiet, AlikeSettings, condition-alike, directive-read-alike}

pub each-append : {X : Type 0} (P : X → Type 0) (xs ys : List X) → AllByRecursion P xs → AllByRecursion P ys → AllByRecursion P (xs ++ ys)
each-append P [] ys a b = b
each-append P (x ∷ xs) ys a b = (a.0, each-append P xs ys a.1 b)

pub each-left : {X : Type 0} (P : X → Type 0) (xs ys : List X) → AllByRecursion P (xs ++ ys) → AllByRecursion P xs
each-left P [] ys a = tt
each-left P (x ∷ xs) ys a = (a.0, each-left P xs ys a.1)

pub each-right : {X : Type 0} (P : X → Type 0) (xs ys : List X) → AllByRecursion P (xs ++ ys) → AllByRecursion P ys
each-right P [] ys a = a
each-right P (x ∷ xs) ys a = each-right P xs ys a.1

pub by-cases : (P : Type 0) (b : Bool) → (b ≡ true → P) → (b ≡ false → P) → P
by-cases P true f g = f refl
by-cases P false f g = g refl

map-append : {X Y : Type 0} (f : X → Y) (as_ bs : List X) → map f (as_ ++ bs) ≡ map f as_ ++ map f bs
map-append f [] bs = refl
map-append f (a ∷ as_) bs = ap (λ l. f a ∷ l) (map-append f as_ bs)

-- ---- steps that are taken alike where what is read is quiet

module _ (r : Renaming) where
  pub behind-alike : (x y : Flow) (next next' : Reading → Flow) (what : Reading → List Read) → AlikeFlows r x y → ((a b : Reading) → AlikeReadings r a b → AreQuiet r (what a) → AlikeFlows r (next a) (next' b)) → AreQuiet r (reads_behind x what) → AlikeFlows r (then_read x next) (then_read y next')
  behind-alike (on a) (on b) next next' what p k q = k a b p q
  behind-alike (on a) (refused w) next next' what p k q = absurd p
  behind-alike (refused v) (on b) next next' what p k q = absurd p
  behind-alike (refused v) (refused w) next next' what p k q = p

  choose-alike : (b c : Bool) (x y : List Read) (p q u v : Flow) → c ≡ b → (AreQuiet r x → AlikeFlows r p q) → (AreQuiet r y → AlikeFlows r u v) → AreQuiet r (cond b x y) → AlikeFlows r (cond b p u) (cond c q v)
  choose-alike true true x y p q u v e f g a = f a
  choose-alike false false x y p q u v e f g a = g a
  choose-alike true false x y p q u v e f g a = let h : ⊥ = cc in absurd h
  choose-alike false true x y p q u v e f g a = let h : ⊥ = cc in absurd h

  module _ (At : ℕ → PlainSpan → Type 0) (standing : IsStanding r At) where
    unless-quiet : (f g : Option Refusal) (x y : Flow) (what : List Read) → AlikeRefusals r At standing f g → (AreQuiet r what → AlikeFlows r x y) → AreQuiet r (unless_refused f what) → AlikeFlows r (unless f x) (unless g y)
    unless-quiet None None x y what p k q = k q
    unless-quiet None (Some w) x y what p k q = absurd p
    unless-quiet (Some v) None x y what p k q = absurd p
    unless-quiet (Some v) (Some w) x y what p k q = p.0

    by-condition-alike : (s s' : Setting) (f : Following) (table table' : Table) (tables : AlikeTables r table table') (c d : Condition) (taken taken' others others' : Flow) (x y : List Read) → AlikeConditions r At standing table table' tables c d → (AreQuiet r x → AlikeFlows r taken taken') → (AreQuiet r y → AlikeFlows r others others') → AreQuiet r (by_truth s f c x y) → AlikeFlows r (by_condition s c taken others) (by_condition s' d taken' others')
    by-condition-alike s s' f table table' tables (holds true) (holds true) taken taken' others others' x y p t o q = t q
    by-condition-alike s s' f table table' tables (holds false) (holds false) taken taken' others others' x y p t o q = o q
    by-condition-alike s s' f table table' tables (holds true) (holds false) taken taken' others others' x y p t o q = let h : ⊥ = cc in absurd h
    by-condition-alike s s' f table table' tables (holds false) (holds true) taken taken' others others' x y p t o q = let h : ⊥ = cc in absurd h
    by-condition-alike s s' f table table' tables (holds a) (fails w) taken taken' others others' x y p t o q = absurd p
    by-condition-alike s s' f table table' tables (fails v) (holds b) taken taken' others others' x y p t o q = absurd p
    by-condition-alike s s' f table table' tables (fails v) (fails w) taken taken' others others' x y p t o q = p

    -- ---- lines

    -- a renamed token has the old name
    pub record IsOldName (a : PlainToken) : Type 0 where
      pub kind : a.kind ≡ Name
      pub text : a.text ≡ r.old
      pub old_is : IsOrdinary r.old
      pub new_is : IsOrdinary r.new
      pub new_free : list_any (bytes_eq r.new) predefined_names ≡ false

    pub record IsToken (a : PlainToken) : Type 0 where
      pub stands : At a.origin.file a.origin.span
      pub named : is_renamed r a.origin.file a.origin.span ≡ true → IsOldName a

    abbrev pub IsUntouched : PlainToken → Type 0
    IsUntouched a = is_renamed r a.origin.file a.origin.span ≡ false

    -- a line of the file, with no renamed token if it is a directive line
    pub record IsLine (line : PlainLine) : Type 0 where
      pub tokens : AllByRecursion IsToken line.tokens
      pub untouched : line.directive ≡ true → AllByRecursion IsUntouched line.tokens

    moved-token : (a : PlainToken) → IsToken a → IsUntouched a → AreMoved r At standing a (renamed_token r a)
    moved-token a i u = record {
      is = record { kind = refl; untouched = u; text = rw u refl; joined = refl; file = refl; span = refl; place = refl };
      site = record { file = refl; span = refl };
      outer = i.stands;
    }

    pub all-moved : (as_ : List PlainToken) → AllByRecursion IsToken as_ → AllByRecursion IsUntouched as_ → AreAllMoved r At standing as_ (map (renamed_token r) as_)
    all-moved [] i u = tt
    all-moved (a ∷ as_) i u = (moved-token a i.0 u.0, all-moved as_ i.1 u.1)

    module _ (table table' : Table) (tables : AlikeTables r table table') where
      text-of : (a : PlainToken) → IsToken a → IsQuietIn r table a → SameText r ⊤ table a.kind a.origin.file a.origin.span a.text (renamed_token r a).text
      text-of a i q =
          by-cases (SameText r ⊤ table a.kind a.origin.file a.origin.span a.text (renamed_token r a).text) (is_renamed r a.origin.file a.origin.span)
          (λ e. changes tt e (i.named e).kind (i.named e).text (new_text e) (q e).0 (q e).1 (i.named e).old_is (i.named e).new_is (q e).2 (i.named e).new_free)
          (λ e. alike.stays e (same_text e))
        where
          new_text : is_renamed r a.origin.file a.origin.span ≡ true → (renamed_token r a).text ≡ r.new
          new_text e = rw e refl

          same_text : is_renamed r a.origin.file a.origin.span ≡ false → (renamed_token r a).text ≡ a.text
          same_text e = rw e refl

      pub all-given : (as_ : List PlainToken) → AllByRecursion IsToken as_ → AllByRecursion (IsQuietIn r table) as_ → AreGiven r At standing ⊤ table table' tables as_ (map (renamed_token r) as_)
      all-given [] i q = tt
      all-given (a ∷ as_) i q = (
        record {
          is = record { kind = refl; text = text-of a i.0 q.0; joined = refl; file = refl; span = refl; place = refl };
          site = record { file = refl; span = refl };
          outer = i.0.stands;
        },
        all-given as_ i.1 q.1,
      )

    -- ---- walks

    pub record AlikeWalks (v w : Walk) : Type 0 where
      pub reading : AlikeReadings r v.reading w.reading
      pub tokens : AllByRecursion IsToken v.run
      pub run : w.run ≡ map (renamed_token r) v.run
      pub groups : w.groups ≡ v.groups

    -- walks that go on alike where what they read is quiet
    abbrev pub AlikeNext : (Walk → Flow) → (Walk → Flow) → (Walk → List Read) → Type 0
    AlikeNext next next' what = (v w : Walk) → AlikeWalks v w → AreQuiet r (what v) → AlikeFlows r (next v) (next' w)

    pub grouped : (v w : Walk) (groups : List Open) → AlikeWalks v w → AlikeWalks (with_groups v groups) (with_groups w groups)
    grouped v w groups a = record { reading = a.reading; tokens = a.tokens; run = a.run; groups = refl }

    flushed-alike : (v w : Walk) (next next' : Walk → Flow) (what : Walk → List Read) → AlikeWalks v w → AlikeNext next next' what → AreQuiet r (reads_at_flush v what) → AlikeFlows r (flushed v next) (flushed w next')
    flushed-alike v w next next' what a k q =
        behind-alike (read_run v.reading v.run) (read_run w.reading w.run) (λ after. next (record v { reading = after; run = [] })) (λ after. next' (record w { reading = after; run = [] }))
        (λ after. what (record v { reading = after; run = [] }))
        (subst (λ (l : List PlainToken). AlikeFlows r (read_run v.reading v.run) (read_run w.reading l)) (sym a.run)
        (run-alike r At standing ⊤ v.reading w.reading a.reading v.run (map (renamed_token r) v.run)
        (all-given v.reading.table w.reading.table a.reading.tables v.run a.tokens q.0)))
        (λ x y t z. k (record v { reading = x; run = [] }) (record w { reading = y; run = [] }) (record { reading = t; tokens = tt; run = refl; groups = a.groups }) z)
        q.1

    module _ (There : Source → Type 0) (s s' : Setting) (f : Following) (settings : AlikeSettings r There s s' f) (file : ℕ) where
      abbrev pub new : PlainLine → PlainLine
      new line = renamed_line r file line

      pub line-moved : (line : PlainLine) → IsLine line → line.directive ≡ true → AreAllMoved r At standing line.tokens (new line).tokens
      line-moved line i e = all-moved line.tokens i.tokens (i.untouched e)

      begun-alike : (v w : Walk) (line : PlainLine) (last : Bool) (outer : List Open) (next next' : Walk → Flow) (what : Walk → List Read) → AlikeWalks v w → AreAllMoved r At standing line.tokens (new line).tokens → AlikeNext next next' what → AreQuiet r (reads_at_begun s f v line last outer what) → AlikeFlows r (begun s v line last outer next) (begun s' w (new line) last outer next')
      begun-alike v w line last outer next next' what a m k q =
          by-condition-alike s s' f v.reading.table w.reading.table a.reading.tables (condition_at s.value_of v.reading.table line.tokens) (condition_at s'.value_of w.reading.table (new line).tokens)
          (next (with_groups v (reads last ∷ outer))) (next' (with_groups w (reads last ∷ outer))) (next (with_groups v (waits last ∷ outer))) (next' (with_groups w (waits last ∷ outer)))
          (what (with_groups v (reads last ∷ outer))) (what (with_groups v (waits last ∷ outer)))
          (condition-alike r At standing There s s' f settings v.reading.table w.reading.table a.reading.tables line.tokens (new line).tokens m)
          (k (with_groups v (reads last ∷ outer)) (with_groups w (reads last ∷ outer)) (grouped v w (reads last ∷ outer) a))
          (k (with_groups v (waits last ∷ outer)) (with_groups w (waits last ∷ outer)) (grouped v w (waits last ∷ outer) a)) q.1

      named-alike : (v w : Walk) (line : PlainLine) (groups : List Open) (next next' : Walk → Flow) (what : Walk → List Read) → AlikeWalks v w → AreAllMoved r At standing line.tokens (new line).tokens → AlikeNext next next' what → AreQuiet r (reads_at_name v line (what (with_groups v groups)))
          → AlikeFlows r (unless (refused_ignored (drop 2 line.tokens)) (next (with_groups v groups))) (unless (refused_ignored (drop 2 (new line).tokens)) (next' (with_groups w groups)))
      named-alike v w line groups next next' what a m k q =
          unless-quiet (refused_ignored (drop 2 line.tokens)) (refused_ignored (drop 2 (new line).tokens)) (next (with_groups v groups)) (next' (with_groups w groups)) (what (with_groups v groups))
          (moved-ignored-refused r At standing v.reading.table w.reading.table a.reading.tables (drop 2 line.tokens) (drop 2 (new line).tokens) (pairs-drop (AreMoved r At standing) 2 line.tokens (new line).tokens m))
          (k (with_groups v groups) (with_groups w groups) (grouped v w groups a)) q.1

      group-alike : (v w : Walk) (line : PlainLine) (next next' : Walk → Flow) (what : Walk → List Read) → AlikeWalks v w → AreAllMoved r At standing line.tokens (new line).tokens → AlikeNext next next' what → AreQuiet r (reads_at_group s f v line what) → AlikeFlows r (group_read s v line next) (group_read s' w (new line) next')
      group-alike v w line next next' what a m k q =
          subst (λ (g : List Open). AlikeFlows r (group_read s v line next) (cond (are_read g) (begun s' w (new line) false g next') (next' (with_groups w (skipped false ∷ g))))) (sym a.groups)
          (choose-alike (are_read v.groups) (are_read v.groups) (reads_at_begun s f v line false v.groups what) (what (with_groups v (skipped false ∷ v.groups)))
          (begun s v line false v.groups next) (begun s' w (new line) false v.groups next') (next (with_groups v (skipped false ∷ v.groups))) (next' (with_groups w (skipped false ∷ v.groups))) refl
          (begun-alike v w line false v.groups next next' what a m k)
          (k (with_groups v (skipped false ∷ v.groups)) (with_groups w (skipped false ∷ v.groups)) (grouped v w (skipped false ∷ v.groups) a)) q)

      branch-alike : (v w : Walk) (line : PlainLine) (last : Bool) (groups : List Open) (next next' : Walk → Flow) (what : Walk → List Read) → AlikeWalks v w → AreAllMoved r At standing line.tokens (new line).tokens → AlikeNext next next' what → AreQuiet r (reads_at_branch s f v line last groups what) → AlikeFlows r (branch_read s v line last groups next) (branch_read s' w (new line) last groups next')
      branch-alike v w line last [] next next' what a m k q = settings.broken
      branch-alike v w line last (reads false ∷ outer) next next' what a m k q = named-alike v w line (passed last ∷ outer) next next' what a m k q
      branch-alike v w line last (waits false ∷ outer) next next' what a m k q = begun-alike v w line last outer next next' what a m k q
      branch-alike v w line last (passed false ∷ outer) next next' what a m k q = named-alike v w line (passed last ∷ outer) next next' what a m k q
      branch-alike v w line last (skipped false ∷ outer) next next' what a m k q =
          k (with_groups v (skipped last ∷ outer)) (with_groups w (skipped last ∷ outer)) (grouped v w (skipped last ∷ outer) a) q
      branch-alike v w line last (reads true ∷ outer) next next' what a m k q = settings.broken
      branch-alike v w line last (waits true ∷ outer) next next' what a m k q = settings.broken
      branch-alike v w line last (passed true ∷ outer) next next' what a m k q = settings.broken
      branch-alike v w line last (skipped true ∷ outer) next next' what a m k q = settings.broken

      end-alike : (v w : Walk) (line : PlainLine) (groups : List Open) (next next' : Walk → Flow) (what : Walk → List Read) → AlikeWalks v w → AreAllMoved r At standing line.tokens (new line).tokens → AlikeNext next next' what → AreQuiet r (reads_at_end v line groups what) → AlikeFlows r (end_read s v line groups next) (end_read s' w (new line) groups next')
      end-alike v w line [] next next' what a m k q = settings.broken
      end-alike v w line (reads last ∷ outer) next next' what a m k q = named-alike v w line outer next next' what a m k q
      end-alike v w line (waits last ∷ outer) next next' what a m k q = named-alike v w line outer next next' what a m k q
      end-alike v w line (passed last ∷ outer) next next' what a m k q = named-alike v w line outer next next' what a m k q
      end-alike v w line (skipped last ∷ outer) next next' what a m k q = k (with_groups v outer) (with_groups w outer) (grouped v w outer a) q

      directive-alike : (v w : Walk) (line : PlainLine) (next next' : Walk → Flow) (what : Walk → List Read) → AlikeWalks v w → AreAllMoved r At standing line.tokens (new line).tokens → AlikeNext next next' what → AreQuiet r (reads_at_directive s f v line what) → AlikeFlows r (directive_read s v line next) (directive_read s' w (new line) next')
      directive-alike v w line next next' what a m k q =
          choose-alike (are_read v.groups) (are_read w.groups) _ (what v) _ _ (next v) (next' w) (ap are_read a.groups)
          (λ z. behind-alike (read_directive s v.reading line.tokens) (read_directive s' w.reading (new line).tokens) (λ after. next (record v { reading = after })) (λ after. next' (record w { reading = after }))
          (λ after. what (record v { reading = after }))
          (directive-read-alike r At standing There s s' f settings v.reading w.reading line.tokens (new line).tokens a.reading m (inclusion_quiet z))
          (λ x y t y2. k (record v { reading = x }) (record w { reading = y }) (record { reading = t; tokens = a.tokens; run = a.run; groups = a.groups }) y2)
          (behind_quiet z))
          (k v w a) q
        where
          inclusion_quiet : AreQuiet r ((read_of v.reading line.tokens ∷ reads_of_inclusion s f v.reading (directive_of line.tokens)) ++ reads_behind (read_directive s v.reading line.tokens) (λ after. what (record v { reading = after }))) → AreQuiet r (reads_of_inclusion s f v.reading (directive_of line.tokens))
          inclusion_quiet z = each-left _ (reads_of_inclusion s f v.reading (directive_of line.tokens)) _ z.1

          behind_quiet : AreQuiet r ((read_of v.reading line.tokens ∷ reads_of_inclusion s f v.reading (directive_of line.tokens)) ++ reads_behind (read_directive s v.reading line.tokens) (λ after. what (record v { reading = after }))) → AreQuiet r (reads_behind (read_directive s v.reading line.tokens) (λ after. what (record v { reading = after })))
          behind_quiet z = each-right _ (reads_of_inclusion s f v.reading (directive_of line.tokens)) _ z.1

      role-alike : (role : Role) (v w : Walk) (line : PlainLine) (next next' : Walk → Flow) (what : Walk → List Read) → AlikeWalks v w → AreAllMoved r At standing line.tokens (new line).tokens → AlikeNext next next' what → AreQuiet r (reads_by_role s f role v line what) → AlikeFlows r (by_role s role v line next) (by_role s' role w (new line) next')
      role-alike begins v w line next next' what a m k q = group-alike v w line next next' what a m k q
      role-alike begins_branch v w line next next' what a m k q =
          subst (λ (g : List Open). AlikeFlows r (branch_read s v line false v.groups next) (branch_read s' w (new line) false g next')) (sym a.groups)
          (branch-alike v w line false v.groups next next' what a m k q)
      role-alike begins_last v w line next next' what a m k q =
          subst (λ (g : List Open). AlikeFlows r (branch_read s v line true v.groups next) (branch_read s' w (new line) true g next')) (sym a.groups)
          (branch-alike v w line true v.groups next next' what a m k q)
      role-alike closes v w line next next' what a m k q =
          subst (λ (g : List Open). AlikeFlows r (end_read s v line v.groups next) (end_read s' w (new line) g next')) (sym a.groups)
          (end-alike v w line v.groups next next' what a m k q)
      role-alike stands_alone v w line next next' what a m k q = directive-alike v w line next next' what a m k q

      pub text-alike : (v w : Walk) (line : PlainLine) → AlikeWalks v w → IsLine line → AlikeWalks (text_read v line) (text_read w (new line))
      text-alike v w line a i =
          subst (λ (g : Bool). AlikeWalks (text_read v line) (cond g (with_run w (new line).tokens) w)) (sym (ap are_read a.groups)) (either (are_read v.groups))
        where
          either : (b : Bool) → AlikeWalks (cond b (with_run v line.tokens) v) (cond b (with_run w (new line).tokens) w)
          either true = record {
            reading = a.reading;
            tokens = each-append IsToken v.run line.tokens a.tokens i.tokens;
            run = ap (λ (l : List PlainToken). l ++ (new line).tokens) a.run ∙ sym (map-append (renamed_token r) v.run line.tokens);
            groups = a.groups;
          }
          either false = a

      step-alike : (v w : Walk) (line : PlainLine) (next next' : Walk → Flow) (what : Walk → List Read) → AlikeWalks v w → IsLine line → AlikeNext next next' what → AreQuiet r (reads_of_step s f v line what) → AlikeFlows r (step s v line next) (step s' w (new line) next')
      step-alike v w line next next' what a i k q =
          by-cases (AlikeFlows r (step s v line next) (step s' w (new line) next')) line.directive
          (λ e. subst (λ (b : Bool). AreQuiet r (cond b (reads_at_flush v (λ after. reads_by_role s f (role_of line.tokens) after line what)) (what (text_read v line))) → AlikeFlows r (cond b (flushed v (λ after. by_role s (role_of line.tokens) after line next)) (next (text_read v line))) (cond b (flushed w (λ after. by_role s' (role_of (new line).tokens) after (new line) next')) (next' (text_read w (new line))))) (sym e) (λ z. of_directive e z) q)
          (λ e. subst (λ (b : Bool). AreQuiet r (cond b (reads_at_flush v (λ after. reads_by_role s f (role_of line.tokens) after line what)) (what (text_read v line))) → AlikeFlows r (cond b (flushed v (λ after. by_role s (role_of line.tokens) after line next)) (next (text_read v line))) (cond b (flushed w (λ after. by_role s' (role_of (new line).tokens) after (new line) next')) (next' (text_read w (new line))))) (sym e) (λ z. k (text_read v line) (text_read w (new line)) (text-alike v w line a i) z) q)
        where
          of_directive : line.directive ≡ true → AreQuiet r (reads_at_flush v (λ after. reads_by_role s f (role_of line.tokens) after line what)) → AlikeFlows r (flushed v (λ after. by_role s (role_of line.tokens) after line next)) (flushed w (λ after. by_role s' (role_of (new line).tokens) after (new line) next'))
          of_directive e z =
              let m = line-moved line i e in
              flushed-alike v w (λ after. by_role s (role_of line.tokens) after line next) (λ after. by_role s' (role_of (new line).tokens) after (new line) next')
              (λ after. reads_by_role s f (role_of line.tokens) after line what) a
              (λ x y t u. subst (λ (role : Role). AlikeFlows r (by_role s (role_of line.tokens) x line next) (by_role s' role y (new line) next')) (sym (role-moved r At standing line.tokens (new line).tokens m)) (role-alike (role_of line.tokens) x y line next next' what t m k u))
              z

      end-of-file-alike : (groups : List Open) (a b : Reading) → AlikeReadings r a b → AlikeFlows r (end_of_file s groups a) (end_of_file s' groups b)
      end-of-file-alike [] a b t = t
      end-of-file-alike (group ∷ outer) a b t = settings.broken

      pub walked-alike : (lines : List PlainLine) (v w : Walk) → AllByRecursion IsLine lines → AlikeWalks v w → AreQuiet r (reads_of_walk s f v lines) → AlikeFlows r (walked s v lines) (walked s' w (map (renamed_line r file) lines))
      walked-alike [] v w i a q =
          flushed-alike v w (λ after. end_of_file s after.groups after.reading) (λ after. end_of_file s' after.groups after.reading) (λ after. []) a
          (λ x y t u. subst (λ (g : List Open). AlikeFlows r (end_of_file s x.groups x.reading) (end_of_file s' g y.reading)) (sym t.groups) (end-of-file-alike x.groups x.reading y.reading t.reading)) q
      walked-alike (line ∷ lines) v w i a q =
          step-alike v w line (λ after. walked s after lines) (λ after. walked s' after (map (renamed_line r file) lines)) (λ after. reads_of_walk s f after lines) a i.0
          (λ x y t u. walked-alike lines x y i.1 t u) q
