-- The walk over the lines of a file, and the files that are read between them.
use Rattle.std.proofs.Common.{◌≡◌, ℕ, zero, suc, ◌+◌, ◌-◌, ◌<◌, Bool, true, false, List, [], ◌∷◌, map, IsTrue, Option, Some, None, refl, sym, ap, ◌∙◌, arith, ◌≤◌, length, get_or, drop, subst}
use Rattle.std.specs.Prelude.{if◌then◌else◌, IfSome}
use Rattle.std.proofs.lemmas.Bool.{false≢true}
use Rattle.std.proofs.lemmas.List.{drop_more, drop_all, length-map}
use Rattle.text_edits.specs.Files.{plain_file}
use Rattle.cond_formula.specs.declared.formulas.Formula.{Formula}
use Rattle.cond_formula.specs.Conditions.{Condition, condition_of, value}
use Rattle.c_text.specs.Preprocessing as spec
use Rattle.c_text.specs.Lines.{PlainLine, plain_line, AreItsLines}
use Rattle.c_text.specs.Preprocessing.{Reading, Flow, Setting, Syntax, on, then_read, IsSyntaxOf, setting}
use Rattle.c_text.specs.declared.line.Line.{Line}
use Rattle.file_walks.specs.Walk.{Walk, step, finished, walked, start}
use Rattle.unit_files.specs.SourceFiles.{deeper_of, AreSources, source_number, text_of, its_lines}
use Rattle.unit_files.specs.Inclusions.{plain_source, IsAmong}
use Rattle.unit_files.specs.Laws.{SourcesAreWalked}
use Rattle.unit_files.specs.declared.inclusions.Source.{Source}
use Rattle.unit_files.specs.declared.sources.Sources.{Sources}
use Rattle.cond_readings.specs.Readings.{came_to, taken}
use Rattle.unit_files.specs.Settings.{entered}
use Rattle.cond_readings.specs.TakenLaws.{came-then, taken-same}
use Rattle.cond_pp.specs.declared.walk.CondWalker.{CondWalker}
use Rattle.cond_pp.specs.declared.walk.Inclusion.{Inclusion}
use Rattle.cond_groups.specs.Groups.{PlainGroup, groups_of, open_at}
use Rattle.cond_pp.specs.Walks.{ahead, after_file, including, walk_at}
use Rattle.cond_pp.proofs.WalkLemmas.{emptied, ahead-emptied}

-- ---- one line, and the file that is read behind it

-- a file is read before the next line
include-is : (e : Bool) (inner : Reading → Flow) (nx : Reading → Flow) (o : Option Reading) → (e ≡ false → (r : Reading) → inner r ≡ on r) → taken e (λ r. then_read (inner r) nx) o ≡ taken e nx (taken true inner o)
include-is e inner nx None h = refl
include-is true inner nx (Some r) h = came-then (inner r) nx
include-is false inner nx (Some r) h = ap (λ (f : Flow). taken false nx (came_to f)) (sym (h refl r))

not-entered : (h e : Bool) (inner : Flow) (r : Reading) → (IsTrue h → IsTrue e) → e ≡ false → (if h then inner else on r) ≡ on r
not-entered true e inner r inside off = absurd (false≢true (sym off ∙ inside refl))
not-entered false e inner r inside off = refl

-- where the walk isn't read, no file is read either
pub include-outside : (features : ℕ → Bool) (deeper : Option (spec.Source → Reading → Flow)) (found : Option Inclusion) (at : Condition) (Fit : (ℕ → Bool) → Type 0) → Fit features → IfSome found (λ i. (on_here : ℕ → Bool) → Fit on_here → IsTrue (value on_here (condition_of i.when)) → IsTrue (value on_here at)) → value features at ≡ false → (r : Reading) → including features deeper found r ≡ on r
include-outside features deeper None at Fit fit inside off r = refl
include-outside features deeper (Some i) at Fit fit inside off r = not-entered (value features (condition_of i.when)) (value features at) _ r (inside features fit) off

-- a line, and what is read behind it
pub line-read : (features : ℕ → Bool) (s : Setting) (w v : CondWalker) (line : PlainLine) (rest lines : List PlainLine) (found : Option Inclusion) (before between after end : Option Reading) → lines ≡ line ∷ rest → ahead features w (λ u. walked s u lines) before ≡ end → ((next : Walk → Flow) → ahead features w (λ u. step s u line next) before ≡ ahead features v (λ u. after_file features s.deeper found next u) between) → (value features (condition_of v.entered) ≡ false → (r : Reading) → including features s.deeper found r ≡ on r) → after ≡ taken true (λ r. including features s.deeper found r) between → ahead features v (λ u. walked s u rest) after ≡ end
line-read features s w v line rest lines found before between after end lines_are stands goes outside read =
    let inner : Reading → Flow = λ r. including features s.deeper found r in
    let others : Reading → Flow = λ r. walked s (walk_at features v r) rest in
    ap (λ (m : Option Reading). ahead features v (λ u. walked s u rest) m) read
    ∙ sym (include-is (value features (condition_of v.entered)) inner others between outside)
    ∙ sym (goes (λ u. walked s u rest))
    ∙ sym (ap (λ (ls : List PlainLine). ahead features w (λ u. walked s u ls) before) lines_are)
    ∙ stands

-- ---- the lines of a file

pub lines-at : {X : Type 0} (form : X → PlainLine) (lines : List X) (i : ℕ) (line : X) → i < length lines → line ≡ get_or lines i line → map form (drop i lines) ≡ form line ∷ map form (drop (i + 1) lines)
lines-at form lines i line h is = ap (λ ls. map form ls) (drop_more lines i line h ∙ ap (λ l. l ∷ drop (i + 1) lines) (sym is))

-- a source of the project is a source of the definition
pub among-files : (these : Sources) (s : spec.Sources) (source : Source) → AreSources these s → IsAmong (length these.files.now) source → IsAmong (length s.files) source
among-files these s source are there =
    subst (λ (n : ℕ). IsAmong n source) (sym (length-map these.files.now plain_file) ∙ sym (ap length are.files)) there

-- before the first line
pub file-starts : SourcesAreWalked → (these : Sources) (s : spec.Sources) (x : Syntax) → AreSources these s → IsSyntaxOf s x → (source : Source) → IsAmong (length these.files.now) source → (more file : ℕ) (text : List ℕ) (all slice lines : List Line) → file ≡ source_number (plain_source source) → text ≡ text_of s (plain_source source) → AreItsLines file text (map plain_line all) → slice ≡ all → map plain_line lines ≡ its_lines (plain_source source) (map plain_line slice) → (features : ℕ → Bool) (w : CondWalker) (when : Formula) (o : Option Reading) → w.entered ≡ when → w.run.items ≡ [] → groups_of w.groups ≡ [] → ahead features w (λ v. walked (setting s x (plain_source source) (deeper_of s x more)) v (map plain_line lines)) o ≡ taken (value features (condition_of when)) (λ r. spec.read_source s x more (plain_source source) r) o
file-starts are_walked these s x are_sources is source there more file text all slice lines file_is text_is are slice_is lines_are features w when o entered_is run_is groups_are =
    let p = plain_source source in
    let st = setting s x p (deeper_of s x more) in
    let its : AreItsLines (source_number p) (text_of s p) (map plain_line all) =
    subst (λ (t : List ℕ). AreItsLines (source_number p) t (map plain_line all)) text_is (subst (λ (n : ℕ). AreItsLines n text (map plain_line all)) file_is are)
    in
    let its_are : map plain_line lines ≡ its_lines p (map plain_line all) = lines_are ∙ ap (λ (ls : List Line). its_lines p (map plain_line ls)) slice_is in
    let e = value features (condition_of w.entered) in
    ahead-emptied features w (λ v. walked st v (map plain_line lines)) o run_is
    ∙ ap (λ (gs : List PlainGroup). taken e (λ r. walked st (emptied r (map (open_at features) gs)) (map plain_line lines)) o) groups_are
    ∙ ap (λ (ls : List PlainLine). taken e (λ r. walked st (start r) ls) o) its_are
    ∙ taken-same e (λ r. walked st (start r) (its_lines p (map plain_line all))) (λ r. spec.read_source s x more p r) o (λ r. are_walked s x is source (among-files these s source are_sources there) more (map plain_line all) its r)
    ∙ ap (λ (f : Formula). taken (value features (condition_of f)) (λ r. spec.read_source s x more p r) o) entered_is

-- behind the last line
pub file-ends : {X : Type 0} (form : X → PlainLine) (s : Setting) (features : ℕ → Bool) (w : CondWalker) (lines : List X) (i : ℕ) (o new end : Option Reading) → length lines ≤ i → ahead features w (λ v. walked s v (map form (drop i lines))) o ≡ end → ahead features w (λ v. finished s v) o ≡ new → new ≡ end
file-ends form s features w lines i o new end h stands finishes =
    sym finishes ∙ sym (ap (λ ls. ahead features w (λ v. walked s v (map form ls)) o) (drop_all i lines h)) ∙ stands

-- ---- an included file

deeper-read : (s : spec.Sources) (x : Syntax) (more : ℕ) (source : spec.Source) (r : Reading) → 0 < more → spec.read_source s x (more - 1) source r ≡ entered (deeper_of s x more) (Some source) r
deeper-read s x zero source r h = absurd (omega arith)
deeper-read s x (suc more) source r h =
    let e : suc more - 1 ≡ more = omega arith in
    ap (λ n. spec.read_source s x n source r) e

entered-is : (s : spec.Sources) (x : Syntax) (more : ℕ) (source : spec.Source) (w : Bool) (o : Option Reading) → 0 < more → taken w (λ r. spec.read_source s x (more - 1) source r) o ≡ taken true (λ r. if w then entered (deeper_of s x more) (Some source) r else on r) o
entered-is s x more source w None h = refl
entered-is s x more source true (Some r) h = ap came_to (deeper-read s x more source r h)
entered-is s x more source false (Some r) h = refl

-- what is read of an included file
pub inclusion-read : (features : ℕ → Bool) (s : spec.Sources) (x : Syntax) (more : ℕ) (i : Inclusion) (o new : Option Reading) → 0 < more → new ≡ taken (value features (condition_of i.when)) (λ r. spec.read_source s x (more - 1) (plain_source i.source) r) o → new ≡ taken true (λ r. including features (deeper_of s x more) (Some i) r) o
inclusion-read features s x more i o new h read = read ∙ entered-is s x more (plain_source i.source) (value features (condition_of i.when)) o h
