-- What a watch sees of the lines of a file, and of the files that are read between them.
use Rattle.std.proofs.Common.{◌≡◌, ℕ, zero, suc, ◌-◌, ◌<◌, ◌≤◌, Bool, true, false, ◌||◌, List, [], ◌∷◌, ◌++◌, map, length, drop, Option, Some, None, refl, ap, sym, ◌∙◌, subst, arith}
use Rattle.std.specs.Prelude.{if◌then◌else◌, is_some}
use Rattle.std.proofs.lemmas.List.{drop_all}
use Rattle.cond_formula.specs.declared.formulas.Formula.{Formula}
use Rattle.cond_formula.specs.Conditions.{condition_of, value}
use Rattle.c_text.specs.declared.line.Line.{Line}
use Rattle.c_text.specs.Token.{PlainToken}
use Rattle.c_text.specs.Lines.{PlainLine, plain_line, AreItsLines}
use Rattle.c_text.specs.Preprocessing as spec
use Rattle.c_text.specs.Preprocessing.{Reading, Flow, Setting, Syntax, IsSyntaxOf, on, refused, setting}
use Rattle.active_tokens.specs.Reads.{Read, Following, reads_behind}
use Rattle.active_tokens.specs.Active.{AreMisplaced, reads_of_source}
use Rattle.file_walks.specs.Walk.{Walk, step, start}
use Rattle.file_walks.specs.Nests as nests
use Rattle.unit_files.specs.declared.inclusions.Source.{Source}
use Rattle.unit_files.specs.declared.sources.Sources.{Sources}
use Rattle.unit_files.specs.Inclusions.{plain_source, IsAmong}
use Rattle.unit_files.specs.SourceFiles.{AreSources, deeper_of, source_number, text_of, its_lines}
use Rattle.read_walks.specs.SourceReads.{deeper_reads_of, following_in}
use Rattle.read_walks.specs.WalkReads.{reads_at_flush, reads_of_step, reads_of_walk}
use Rattle.read_walks.specs.Laws.{LinesLeadOn, WalksAreOne, SourceReadsAreWalked, TestIsJoined, TestIsByToken}
use Rattle.cond_readings.specs.Readings.{came_to, taken}
use Rattle.cond_pp.specs.declared.walk.CondWalker.{CondWalker}
use Rattle.cond_pp.specs.declared.walk.Inclusion.{Inclusion}
use Rattle.cond_groups.specs.Groups.{PlainGroup, groups_of, open_at}
use Rattle.cond_pp.specs.Walks.{ahead, after_file, including, reads_ahead, reads_included, walk_at}
use Rattle.cond_pp.specs.Watches.{PlainSought, is_read_in, read_where}
use Rattle.cond_pp.proofs.FileLemmas.{among-files}
use Rattle.cond_pp.proofs.LineLemmas.{reads-emptied}
use Rattle.cond_pp.proofs.ReadLemmas.{reads-none}
use Rattle.cond_pp.proofs.SeenLemmas.{seen-joined, seen-none, seen-tokens, seen-where}
use Rattle.cond_pp.proofs.WalkLemmas.{emptied}
use Rattle.cond_pp.proofs.WatchLemmas.{carried}

-- ---- an included file

reads-if : (b : Bool) (read : Reading → List Read) (o : Option Reading) → read_where b read o ≡ read_where true (λ r. if b then read r else []) o
reads-if b read None = refl
reads-if true read (Some r) = refl
reads-if false read (Some r) = refl

pub inclusion-reads : (features : ℕ → Bool) (s : spec.Sources) (x : Syntax) (misplaced : spec.Source → List PlainToken) (more : ℕ) (i : Inclusion) (o : Option Reading) → 0 < more → read_where (value features (condition_of i.when)) (λ r. reads_of_source s x misplaced (more - 1) (plain_source i.source) r) o ≡ read_where true (λ r. reads_included features (deeper_reads_of s x misplaced more) (Some i) r) o
inclusion-reads features s x misplaced zero i o h = absurd (omega arith)
inclusion-reads features s x misplaced (suc more) i o h =
    let e : suc more - 1 ≡ more = omega arith in
    ap (λ n. read_where (value features (condition_of i.when)) (λ r. reads_of_source s x misplaced n (plain_source i.source) r) o) e
    ∙ reads-if (value features (condition_of i.when)) (λ r. reads_of_source s x misplaced more (plain_source i.source) r) o

-- no file is included
pub nothing-seen : (sought : Option PlainSought) (before : Bool) (o : Option Reading) → before ≡ (before || is_read_in sought (read_where true (λ r. []) o))
nothing-seen sought true o = refl
nothing-seen sought false o = sym (ap (λ (l : List Read). is_read_in sought l) (reads-none true o) ∙ seen-none sought)

pub deeper-alike : (s : spec.Sources) (x : Syntax) (misplaced : spec.Source → List PlainToken) (more : ℕ) → is_some (deeper_reads_of s x misplaced more) ≡ is_some (deeper_of s x more)
deeper-alike s x misplaced zero = refl
deeper-alike s x misplaced (suc more) = refl

-- ---- one line, and the file that is read behind it

behind-flow : (x : Flow) (next : Reading → List Read) → reads_behind x next ≡ read_where true next (came_to x)
behind-flow (on r) next = refl
behind-flow (refused why) next = refl

reads-behind : (e : Bool) (inner : Reading → Flow) (next : Reading → List Read) (n : Option Reading) → read_where e (λ r. reads_behind (inner r) next) n ≡ read_where e next (taken true inner n)
reads-behind e inner next None = refl
reads-behind true inner next (Some r) = behind-flow (inner r) next
reads-behind false inner next (Some r) = sym (nowhere next (came_to (inner r)))
  where
    nowhere : (what : Reading → List Read) (o : Option Reading) → read_where false what o ≡ []
    nowhere what None = refl
    nowhere what (Some a) = refl

or-two : (before line more : Bool) → ((before || line) || more) ≡ (before || (line || more))
or-two true line more = refl
or-two false line more = refl

pub line-carried : LinesLeadOn → WalksAreOne → TestIsJoined → (sought : Option PlainSought) (s : Setting) (f : Following) (features : ℕ → Bool) (w v : CondWalker) (line : PlainLine) (rest lines : List PlainLine) (found : Option Inclusion) (o n m : Option Reading) (before at_line after end : Bool) → lines ≡ line ∷ rest → (before || is_read_in sought (reads_ahead features w (λ u. reads_of_walk s f u lines) o)) ≡ end → ((next : Walk → Flow) → ahead features w (λ u. step s u line next) o ≡ ahead features v (λ u. after_file features s.deeper found next u) n) → (at_line || is_read_in sought (read_where true (λ r. reads_included features f.deeper found r) n)) ≡ (before || is_read_in sought (reads_ahead features w (λ u. reads_of_step s f u line (λ a. [])) o)) → m ≡ taken true (λ r. including features s.deeper found r) n → after ≡ (at_line || is_read_in sought (read_where true (λ r. reads_included features f.deeper found r) n)) → (after || is_read_in sought (reads_ahead features v (λ u. reads_of_walk s f u rest) m)) ≡ end
line-carried lead_on one joined sought s f features w v line rest lines found o n m before at_line after end lines_are stands goes line_is reading_is after_is =
    let next : Walk → List Read = λ u. reads_of_walk s f u rest in
    let own = reads_ahead features w (λ u. reads_of_step s f u line (λ a. [])) o in
    let e' = value features (condition_of v.entered) in
    let inner : Reading → Flow = λ r. including features s.deeper found r in
    let others = reads_ahead features v next m in
    let others_are : read_where e' (λ r. reads_behind (inner r) (λ a. next (walk_at features v a))) n ≡ others =
    reads-behind e' inner (λ a. next (walk_at features v a)) n ∙ ap (λ (x : Option Reading). reads_ahead features v next x) (sym reading_is)
    in
    let all : reads_ahead features w (λ u. reads_of_step s f u line next) o ≡ own ++ others =
    carried one (λ r u. nests.nest_behind (nests.nest_of (walk_at features w r).groups) line ≡ Some (nests.nest_of u.groups)) (λ r. step s (walk_at features w r) line) (λ r. reads_of_step s f (walk_at features w r) line) inner (λ r a. walk_at features v a) (value features (condition_of w.entered)) e' o n (λ r. lead_on s f (walk_at features w r) line) goes next
    ∙ ap (λ (l : List Read). own ++ l) others_are
    in
    ap (λ (b : Bool). b || is_read_in sought others) (after_is ∙ line_is)
    ∙ or-two before (is_read_in sought own) (is_read_in sought others)
    ∙ ap (λ (b : Bool). before || b) (sym (seen-joined joined sought own others))
    ∙ ap (λ (l : List Read). before || is_read_in sought l) (sym all)
    ∙ sym (ap (λ (ls : List PlainLine). before || is_read_in sought (reads_ahead features w (λ u. reads_of_walk s f u ls) o)) lines_are)
    ∙ stands

-- ---- the lines of a file

pub file-starts-reads : SourceReadsAreWalked → TestIsByToken → (these : Sources) (s : spec.Sources) (x : Syntax) → AreSources these s → (are : IsSyntaxOf s x) (misplaced : spec.Source → List PlainToken) → AreMisplaced are misplaced → (source : Source) → IsAmong (length these.files.now) source → (more file : ℕ) (text : List ℕ) (all slice lines : List Line) → file ≡ source_number (plain_source source) → text ≡ text_of s (plain_source source) → AreItsLines file text (map plain_line all) → slice ≡ all → map plain_line lines ≡ its_lines (plain_source source) (map plain_line slice) → (features : ℕ → Bool) (w : CondWalker) (when : Formula) (o : Option Reading) (sought : Option PlainSought) (before : Bool) → w.entered ≡ when → w.run.items ≡ [] → groups_of w.groups ≡ [] → (before || is_read_in sought (reads_ahead features w (λ v. reads_of_walk (setting s x (plain_source source) (deeper_of s x more)) (following_in s x misplaced more (plain_source source)) v (map plain_line lines)) o)) ≡ (before || is_read_in sought (read_where (value features (condition_of when)) (λ r. reads_of_source s x misplaced more (plain_source source) r) o))
file-starts-reads are_walked by_tokens these s x are_sources is misplaced are_misplaced source there more file text all slice lines file_is text_is are slice_is lines_are features w when o sought before entered_is run_is groups_are =
    let p = plain_source source in
    let st = setting s x p (deeper_of s x more) in
    let f = following_in s x misplaced more p in
    let its : AreItsLines (source_number p) (text_of s p) (map plain_line all) =
    subst (λ (t : List ℕ). AreItsLines (source_number p) t (map plain_line all)) text_is (subst (λ (n : ℕ). AreItsLines n text (map plain_line all)) file_is are)
    in
    let its_are : map plain_line lines ≡ its_lines p (map plain_line all) = lines_are ∙ ap (λ (ls : List Line). its_lines p (map plain_line ls)) slice_is in
    let e = value features (condition_of w.entered) in
    let starts : reads_ahead features w (λ v. reads_of_walk st f v (map plain_line lines)) o ≡ read_where e (λ r. reads_of_walk st f (start r) (its_lines p (map plain_line all))) o =
    reads-emptied features w (λ v. reads_of_walk st f v (map plain_line lines)) o run_is
    ∙ ap (λ (gs : List PlainGroup). read_where e (λ r. reads_of_walk st f (emptied r (map (open_at features) gs)) (map plain_line lines)) o) groups_are
    ∙ ap (λ (ls : List PlainLine). read_where e (λ r. reads_of_walk st f (start r) ls) o) its_are
    in
    ap (λ (b : Bool). before || b)
    (ap (λ (l : List Read). is_read_in sought l) starts
    ∙ seen-where sought e (λ r. reads_of_walk st f (start r) (its_lines p (map plain_line all))) (λ r. reads_of_source s x misplaced more p r) o
    (λ r. seen-tokens by_tokens sought (reads_of_walk st f (start r) (its_lines p (map plain_line all))) (reads_of_source s x misplaced more p r) (are_walked s x is misplaced are_misplaced source (among-files these s source are_sources there) more (map plain_line all) its r)))
    ∙ ap (λ (k : Formula). before || is_read_in sought (read_where (value features (condition_of k)) (λ r. reads_of_source s x misplaced more p r) o)) entered_is

pub file-ends-reads : {X : Type 0} (form : X → PlainLine) (sought : Option PlainSought) (s : Setting) (f : Following) (features : ℕ → Bool) (w : CondWalker) (lines : List X) (i : ℕ) (o : Option Reading) (before after end : Bool) → length lines ≤ i → (before || is_read_in sought (reads_ahead features w (λ v. reads_of_walk s f v (map form (drop i lines))) o)) ≡ end → after ≡ (before || is_read_in sought (reads_ahead features w (λ v. reads_at_flush v (λ a. [])) o)) → after ≡ end
file-ends-reads form sought s f features w lines i o before after end h stands finishes =
    finishes
    ∙ sym (ap (λ ls. before || is_read_in sought (reads_ahead features w (λ v. reads_of_walk s f v (map form ls)) o)) (drop_all i lines h))
    ∙ stands
